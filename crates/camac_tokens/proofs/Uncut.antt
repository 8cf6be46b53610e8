-- A text that is cut into pieces has the tokens of the pieces, and no others.
use Rattle.std.proofs.Common.{◌≡◌, ℕ, zero, suc, ◌+◌, ◌≤◌, ◌<◌, Bool, true, false, cond, ltb, eqb, ◌&&◌, List, [], ◌∷◌, ◌++◌, length, take, drop, Option, Some, None, Result, Ok, Err, refl, sym, ap, subst, ◌∙◌, inl, inr, length-drop, Vec, Global, arith}
use Rattle.std.proofs.lemmas.Bool.{ltb-true, eqb-true, lt-ltb, le-ltb}
use Rattle.std.proofs.lemmas.List.{take-append-drop}
use Rattle.std.proofs.lemmas.List.Sums.{take_while-cons}
use Rattle.std.proofs.Math.Seq.{take-append_seam, drop-append_seam}
use Rattle.std.proofs.lemmas.Bool.Decides.{nat_tests}
use Rattle.std.proofs.lemmas.Slice.Eq.{bytes_eq-Decides}
use Rattle.std.specs.Prelude.{take_while, IfOk}
use Rattle.std.specs.List.{list_all}
use Rattle.std.specs.Char.{is_ascii_digit, is_ascii_alphabetic}
use Rattle.std.specs.Str.{bytes_eq}
use Rattle.camac_lang.specs.declared.spot.Spot.{Spot}
use Rattle.camac_tokens.specs.declared.token.Keyword.{Keyword}
use Rattle.camac_tokens.specs.declared.token.Sign.{Sign}
use Rattle.camac_tokens.specs.declared.token.Token.{Token}
use Rattle.camac_tokens.specs.declared.token.TokenKind.{TokenKind}
use Rattle.camac_tokens.specs.declared.token.TokenKind.TheVariants as kind
use Rattle.camac_tokens.specs.Start as start
use Rattle.camac_tokens.specs.Start.{Start}
use Rattle.camac_tokens.specs.declared.fault.Limit.TheVariants.{NameBytes}
use Rattle.camac_tokens.specs.declared.fault.TextCase.TheVariants as text_case
use Rattle.camac_tokens.specs.declared.fault.TextFault.{TextFault}
use Rattle.camac_tokens.specs.Fault.{Fault, AnswersList}
use Rattle.camac_tokens.specs.Words.{keyword, Spelling, spelled_in, pair_signs, single_signs}
use Rattle.camac_tokens.specs.Scanning.{is_name_byte, is_blank, is_no_line_feed, decimal_value, keyword_or, pair_at, single_at, pair_or_single, start_of, wrong, spot_at, line_after, tokens_by, tokens_from, tokens_of, number_or_fault}
use Rattle.camac_tokens.specs.Cut.{begins, IsRun, IsWord, IsName, IsKeyword, IsNumber, IsGap, Piece, IsPiece, joined, token_at, tokens_in, ArePieces, IsCut, IsSign, HasTokens}
use Rattle.camac_tokens.specs.declared.token.Sign.TheVariants as sign
use Rattle.camac_tokens.specs.declared.fault.TextFault.TheVariants as fault
use Rattle.camac_tokens.proofs.Scans.{size, added, line_feeds, take_run, name_begins, sized_start, with_all, start_step}

-- The tokens of a text are those of its pieces.

-- ---- runs of bytes

drop_step : (t : Bool) (each : ℕ → Bool) (b : ℕ) (ys bs : List ℕ) → each b ≡ t → begins each (drop (length ys) bs) ≡ false → begins each (drop (length (cond t (b ∷ ys) [])) (b ∷ bs)) ≡ false
drop_step true each b ys bs e h = h
drop_step false each b ys bs e h = e

run_ends : (each : ℕ → Bool) (bs : List ℕ) → begins each (drop (length (take_while each bs)) bs) ≡ false
run_ends each [] = refl
run_ends each (b ∷ bs) = subst (λ (w : List ℕ). begins each (drop (length w) (b ∷ bs)) ≡ false) (sym (take_while-cons each b bs)) (drop_step (each b) each b (take_while each bs) bs refl (run_ends each bs))

all_step : (t : Bool) (each : ℕ → Bool) (b : ℕ) (ys : List ℕ) → each b ≡ t → list_all each ys ≡ true → list_all each (cond t (b ∷ ys) []) ≡ true
all_step true each b ys e h = ap (λ (v : Bool). v && list_all each ys) e ∙ h
all_step false each b ys e h = refl

run_all : (each : ℕ → Bool) (bs : List ℕ) → list_all each (take_while each bs) ≡ true
run_all each [] = refl
run_all each (b ∷ bs) = subst (λ (w : List ℕ). list_all each w ≡ true) (sym (take_while-cons each b bs)) (all_step (each b) each b (take_while each bs) refl (run_all each bs))

run_begins : (first each : ℕ → Bool) (b : ℕ) (bs : List ℕ) → first b ≡ true → each b ≡ true → begins first (take_while each (b ∷ bs)) ≡ true
run_begins first each b bs is passes = subst (λ (w : List ℕ). begins first w ≡ true) (sym (take_while-cons each b bs ∙ ap (λ (t : Bool). cond t (b ∷ take_while each bs) []) passes)) is

-- the longest run at the start of bytes
pub run_is : (first each : ℕ → Bool) (b : ℕ) (bs : List ℕ) → first b ≡ true → each b ≡ true → IsRun first each (take_while each (b ∷ bs)) (drop (length (take_while each (b ∷ bs))) (b ∷ bs))
run_is first each b bs is passes = record {
  start = run_begins first each b bs is passes;
  all = run_all each (b ∷ bs);
  longest = run_ends each (b ∷ bs);
}

-- ---- what stands at the start

pub kind_at : Start → Option TokenKind
kind_at (start.Gap n) = None
kind_at (start.Found k n) = Some k
kind_at (start.Wrong case) = None

-- it is a piece, unless something is wrong with it
abbrev pub Stands : Start → List ℕ → Type 0
Stands (start.Wrong case) text = Unit {0}
Stands (start.Gap n) text = IsPiece None (take n text) (drop n text)
Stands (start.Found k n) text = IsPiece (Some k) (take n text) (drop n text)

stands_if : (b : Bool) (f g : Start) (text : List ℕ) → (b ≡ true → Stands f text) → (b ≡ false → Stands g text) → Stands (cond b f g) text
stands_if true f g text on off = on refl
stands_if false f g text on off = off refl

short_is : (n : ℕ) → ltb 32 n ≡ false → n ≤ 32
short_is n e = grind arith

-- the bytes that a run takes
run_piece : (each : ℕ → Bool) (text : List ℕ) (P : List ℕ → Type 0) → P (take_while each text) → P (take (length (take_while each text)) text)
run_piece each text P h = subst P (sym (take_run each text)) h

word_stands : (k : Option Keyword) (text : List ℕ) → keyword (take_while is_name_byte text) ≡ k → IsWord (take_while is_name_byte text) (drop (length (take_while is_name_byte text)) text) → Stands (keyword_or k (take_while is_name_byte text)) text
word_stands (Some w) text at is = run_piece is_name_byte text (λ bytes. IsKeyword w bytes (drop (length (take_while is_name_byte text)) text)) (record { word = is; kept = at })
word_stands None text at is =
    stands_if (ltb 32 (length (take_while is_name_byte text))) (start.Wrong (text_case.Limit NameBytes)) (start.Found (kind.Name (take_while is_name_byte text)) (length (take_while is_name_byte text))) text (λ _. tt) (λ off.
    run_piece is_name_byte text (λ bytes. IsName (take_while is_name_byte text) bytes (drop (length (take_while is_name_byte text)) text)) (record { word = is; free = at; same = refl; short = short_is _ off }))

number_stands : (text : List ℕ) → IsRun is_ascii_digit is_ascii_digit (take_while is_ascii_digit text) (drop (length (take_while is_ascii_digit text)) text) → Stands (cond (ltb (decimal_value (take_while is_ascii_digit text)) 4294967296) (start.Found (kind.Number (decimal_value (take_while is_ascii_digit text))) (length (take_while is_ascii_digit text))) (start.Wrong (text_case.Number 4294967295))) text
number_stands text is =
    stands_if (ltb (decimal_value (take_while is_ascii_digit text)) 4294967296) (start.Found (kind.Number (decimal_value (take_while is_ascii_digit text))) (length (take_while is_ascii_digit text))) (start.Wrong (text_case.Number 4294967295)) text (λ on.
    run_piece is_ascii_digit text (λ bytes. IsNumber (decimal_value (take_while is_ascii_digit text)) bytes (drop (length (take_while is_ascii_digit text)) text)) (record { digits = is; value = refl; bounded = ltb-true _ _ on })) (λ _. tt)

sign_stands : (p q : Option Sign) (b : ℕ) (bs : List ℕ) → pair_at (b ∷ bs) ≡ p → single_at (b ∷ bs) ≡ q → Stands (pair_or_single p q) (b ∷ bs)
sign_stands (Some s) q b [] at other = absurd cc
sign_stands (Some s) q b (c ∷ cs) at other = inl at
sign_stands None (Some s) b bs at other = inr (other, at)
sign_stands None None b bs at other = tt

hash_is : (b : ℕ) → eqb b 35 ≡ true → is_no_line_feed b ≡ true
hash_is b e = subst (λ (c : ℕ). is_no_line_feed c ≡ true) (sym (eqb-true b 35 e)) refl

pub start_stands : (b : ℕ) (bs : List ℕ) → Stands (start_of b (b ∷ bs)) (b ∷ bs)
unfolding start_of
start_stands b bs =
    let text : List ℕ = b ∷ bs in
    stands_if (is_blank b) _ _ text (λ is. inl (is, refl)) (λ _.
    stands_if (eqb b 35) _ _ text (λ is. run_piece is_no_line_feed (b ∷ bs) (λ bytes. IsGap bytes (drop (length (take_while is_no_line_feed (b ∷ bs))) (b ∷ bs))) (inr (run_is (λ c. eqb c 35) is_no_line_feed b bs is (hash_is b is)))) (λ _.
    stands_if (is_ascii_alphabetic b) _ _ text (λ is. word_stands (keyword (take_while is_name_byte (b ∷ bs))) (b ∷ bs) refl (run_is is_ascii_alphabetic is_name_byte b bs is (name_begins b is))) (λ _.
    stands_if (is_ascii_digit b) _ _ text (λ is. number_stands (b ∷ bs) (run_is is_ascii_digit is_ascii_digit b bs is is)) (λ _.
    sign_stands (pair_at (b ∷ bs)) (single_at (b ∷ bs)) b bs refl refl))))

-- ---- a whole text

-- what is left of a text from a line on
record CutFrom (line : ℕ) (text : List ℕ) (tokens : List Token) : Type 0 where
  pieces : List Piece
  parts : text ≡ joined pieces
  stand : ArePieces pieces
  tokens_are : tokens ≡ tokens_in line pieces

list_is : (xs ys : List Token) → (let r : Result (List Token) Fault = Ok xs in r) ≡ Ok ys → xs ≡ ys
list_is xs ys e = cc

all_ok : (us : List Token) (r : Result (List Token) Fault) (ts : List Token) → with_all us r ≡ Ok ts → (vs : List Token) × (r ≡ Ok vs) × (ts ≡ us ++ vs)
all_ok us (Ok vs) ts e = (vs, refl, sym (list_is (us ++ vs) ts e))
all_ok us (Err d) ts e = absurd cc

pub piece_of : (f : Start) (text : List ℕ) → wrong f ≡ None → Stands f text → IsPiece (kind_at f) (take (size f) text) (drop (size f) text)
unfolding kind_at
piece_of (start.Gap n) text good h = h
piece_of (start.Found k n) text good h = h
piece_of (start.Wrong case) text good h = absurd cc

added_is : (f : Start) (spot : Spot) → wrong f ≡ None → added f spot ≡ token_at (kind_at f) spot
unfolding kind_at
added_is (start.Gap n) spot good = refl
added_is (start.Found k n) spot good = refl
added_is (start.Wrong case) spot good = absurd cc

good_start : (f : Start) (spot : Spot) (more : ℕ → Result (List Token) Fault) (ts : List Token) → tokens_by f spot more ≡ Ok ts → wrong f ≡ None
good_start (start.Gap n) spot more ts e = refl
good_start (start.Found k n) spot more ts e = refl
good_start (start.Wrong case) spot more ts e = absurd cc

cut_step : (f : Start) (line : ℕ) (text : List ℕ) (ts us : List Token) → wrong f ≡ None → Stands f text → ts ≡ added f (spot_at line (length text)) ++ us → CutFrom (line + line_feeds (take (size f) text)) (drop (size f) text) us → CutFrom line text ts
cut_step f line text ts us good stands tokens rest =
    let whole : text ≡ take (size f) text ++ joined rest.pieces = sym (take-append-drop (size f) text) ∙ ap (λ (w : List ℕ). take (size f) text ++ w) rest.parts in record {
      pieces = record { bytes = take (size f) text; kind = kind_at f } ∷ rest.pieces;
      parts = whole;
      stand = (subst (λ (w : List ℕ). IsPiece (kind_at f) (take (size f) text) w) rest.parts (piece_of f text good stands), rest.stand);
      tokens_are = tokens ∙ ap (λ (w : List Token). w ++ us) (added_is f (spot_at line (length text)) good) ∙ ap (λ (w : List Token). token_at (kind_at f) (spot_at line (length text)) ++ w) rest.tokens_are
          ∙ ap (λ (w : List ℕ). token_at (kind_at f) (spot_at line (length w)) ++ tokens_in (line + line_feeds (take (size f) text)) rest.pieces) whole;
    }

cut_from : (n line : ℕ) (text : List ℕ) (ts : List Token) → length text ≤ n → tokens_from 0 line text ≡ Ok ts → CutFrom line text ts
unfolding tokens_from
cut_from n line [] ts few e = record { pieces = []; parts = refl; stand = tt; tokens_are = sym (list_is [] ts e) }
cut_from zero line (b ∷ bs) ts few e = absurd (omega arith)
cut_from (suc n) line (b ∷ bs) ts few e =
    let f : Start = start_of b (b ∷ bs) in
    let good : wrong f ≡ None = good_start f (spot_at line (length (b ∷ bs))) (λ skip. tokens_from skip (line_after line b) bs) ts e in
    let sized = sized_start b bs good in
    let m = all_ok (added f (spot_at line (length (b ∷ bs)))) (tokens_from 0 (line + line_feeds (take (size f) (b ∷ bs))) (drop (size f) (b ∷ bs))) ts (sym (start_step f b line bs good sized.0) ∙ e) in
    cut_step f line (b ∷ bs) ts m.0 good (start_stands b bs) m.2 (cut_from n (line + line_feeds (take (size f) (b ∷ bs))) (drop (size f) (b ∷ bs)) m.0 (shorter (size f) b bs n sized.0 few) m.1) where
      shorter : (k b : ℕ) (bs : List ℕ) (n : ℕ) → 0 < k → length (b ∷ bs) ≤ suc n → length (drop k (b ∷ bs)) ≤ n
      shorter k b bs n some few = grind (arith, length-drop {A = ℕ})

pub tokens_cut : (text : List ℕ) (ts : List Token) → tokens_of text ≡ Ok ts → IsCut text ts
unfolding tokens_of
tokens_cut text ts e = let c = cut_from (length text) 1 text ts (omega arith) e in record { pieces = c.pieces; parts = c.parts; stand = c.stand; tokens_are = c.tokens_are }

pub answer_cut : (text : List ℕ) (r : Result (Vec Token Global) TextFault) → AnswersList r (tokens_of text) → IfOk r (λ v. IsCut text v.items)
answer_cut text (Ok v) made = tokens_cut text v.items made
answer_cut text (Err e) made = tt

-- A text that is cut into pieces has the tokens of the pieces, and no others.

-- ---- bytes

letter_low : (b : ℕ) → is_ascii_alphabetic b ≡ true → 65 ≤ b
letter_low b e = grind (arith, nat_tests)

digit_low : (b : ℕ) → is_ascii_digit b ≡ true → 48 ≤ b
digit_low b e = grind (arith, nat_tests)

pub digit_high : (b : ℕ) → is_ascii_digit b ≡ true → b ≤ 57
digit_high b e = grind (arith, nat_tests)

no_blank : (b : ℕ) → 36 ≤ b → is_blank b ≡ false
no_blank b h = grind (arith, nat_tests)

no_hash : (b : ℕ) → 36 ≤ b → eqb b 35 ≡ false
no_hash b h = grind (arith, nat_tests)

pub no_letter : (b : ℕ) → b ≤ 57 → is_ascii_alphabetic b ≡ false
no_letter b h = grind (arith, nat_tests)

-- ---- runs

run_of : (each : ℕ → Bool) (bytes rest : List ℕ) → list_all each bytes ≡ true → begins each rest ≡ false → take_while each (bytes ++ rest) ≡ bytes
run_of each [] [] all ends = refl
run_of each [] (c ∷ cs) all ends = take_while-cons each c cs ∙ ap (λ (t : Bool). cond t (c ∷ take_while each cs) []) ends
run_of each (b ∷ bs) rest all ends =
    let first : each b ≡ true = one (each b) (list_all each bs) all in
    let others : list_all each bs ≡ true = two (each b) (list_all each bs) all in
    take_while-cons each b (bs ++ rest) ∙ ap (λ (t : Bool). cond t (b ∷ take_while each (bs ++ rest)) []) first ∙ ap (λ (w : List ℕ). b ∷ w) (run_of each bs rest others ends) where
      one : (x y : Bool) → (x && y) ≡ true → x ≡ true
      one true y e = refl
      one false y e = absurd cc

      two : (x y : Bool) → (x && y) ≡ true → y ≡ true
      two true y e = e
      two false y e = absurd cc

-- ---- what stands at the start of a piece and what follows it

abbrev pub start_at : List ℕ → Start
start_at [] = start.Gap 0
start_at (b ∷ bs) = start_of b (b ∷ bs)

abbrev pub start_for : Option TokenKind → ℕ → Start
start_for None n = start.Gap n
start_for (Some k) n = start.Found k n

on : {A : Type 0} (t : Bool) (x y : A) → t ≡ true → cond t x y ≡ x
on true x y e = refl
on false x y e = absurd cc

off : {A : Type 0} (t : Bool) (x y : A) → t ≡ false → cond t x y ≡ y
off true x y e = absurd cc
off false x y e = refl

word_start : (b : ℕ) (bs rest : List ℕ) → IsWord (b ∷ bs) rest → start_at ((b ∷ bs) ++ rest) ≡ keyword_or (keyword (b ∷ bs)) (b ∷ bs)
unfolding start_of
word_start b bs rest w =
    let low : 65 ≤ b = letter_low b w.start in
    off (is_blank b) _ _ (no_blank b (omega arith))
    ∙ off (eqb b 35) _ _ (no_hash b (omega arith))
    ∙ on (is_ascii_alphabetic b) _ _ w.start
    ∙ ap (λ (text : List ℕ). keyword_or (keyword text) text) (run_of is_name_byte (b ∷ bs) rest w.all w.longest)

digits_start : (b : ℕ) (bs rest : List ℕ) → IsRun is_ascii_digit is_ascii_digit (b ∷ bs) rest → start_at ((b ∷ bs) ++ rest) ≡ number_or_fault (b ∷ bs)
unfolding start_of
digits_start b bs rest w =
    let low : 48 ≤ b = digit_low b w.start in
    off (is_blank b) _ _ (no_blank b (omega arith))
    ∙ off (eqb b 35) _ _ (no_hash b (omega arith))
    ∙ off (is_ascii_alphabetic b) _ _ (no_letter b (digit_high b w.start))
    ∙ on (is_ascii_digit b) _ _ w.start
    ∙ ap number_or_fault (run_of is_ascii_digit (b ∷ bs) rest w.all w.longest)

comment_start : (b : ℕ) (bs rest : List ℕ) → IsRun (λ c. eqb c 35) is_no_line_feed (b ∷ bs) rest → start_at ((b ∷ bs) ++ rest) ≡ start.Gap (length (b ∷ bs))
unfolding start_of
comment_start b bs rest w =
    off (is_blank b) _ _ (subst (λ (c : ℕ). is_blank c ≡ false) (sym (eqb-true b 35 w.start)) refl)
    ∙ on (eqb b 35) _ _ w.start
    ∙ ap (λ (text : List ℕ). start.Gap (length text)) (run_of is_no_line_feed (b ∷ bs) rest w.all w.longest)

blank_start : (b : ℕ) (rest : List ℕ) → is_blank b ≡ true → start_at (b ∷ rest) ≡ start.Gap 1
unfolding start_of
blank_start b rest e = on (is_blank b) _ _ e

-- a fact that holds of each entry of a table holds of what is spelled in it
abbrev pub Each : {W : Type 0} → (List ℕ → W → Type 0) → List (Spelling W) → Type 0
Each P [] = Unit {0}
Each P (s ∷ ss) = P s.bytes s.spelled × Each P ss

entry_step : {W : Type 0} (P : List ℕ → W → Type 0) (t : Bool) (entry : Spelling W) (text : List ℕ) (w : W) (rest : Option W) → (t ≡ true → text ≡ entry.bytes) → P entry.bytes entry.spelled → (rest ≡ Some w → P text w) → cond t (Some entry.spelled) rest ≡ Some w → P text w
entry_step P true entry text w rest is holds more e = subst (λ (x : _). P text x) (same entry.spelled w e) (subst (λ (bytes : List ℕ). P bytes entry.spelled) (sym (is refl)) holds) where
  same : {W : Type 0} (x y : W) → Some x ≡ Some y → x ≡ y
  same x y e = cc
entry_step P false entry text w rest is holds more e = more e

pub entry_of : {W : Type 0} (P : List ℕ → W → Type 0) (table : List (Spelling W)) (text : List ℕ) (w : W) → Each P table → spelled_in table text ≡ Some w → P text w
entry_of P [] text w each e = absurd cc
entry_of P (s ∷ ss) text w each e = entry_step P (bytes_eq text s.bytes) s text w (spelled_in ss text) (λ h. (bytes_eq-Decides text s.bytes).0 h) each.0 (λ h. entry_of P ss text w each.1 h) e

abbrev PairStart : List ℕ → Sign → Type 0
PairStart bytes s = ((rest : List ℕ) → start_at (bytes ++ rest) ≡ start.Found (kind.Sign s) 2) × (length bytes ≡ 2)

pair_starts : Each PairStart pair_signs
unfolding start_of
pair_starts = ((λ rest. refl, refl), ((λ rest. refl, refl), ((λ rest. refl, refl), ((λ rest. refl, refl), ((λ rest. refl, refl), ((λ rest. refl, refl), ((λ rest. refl, refl), tt)))))))

abbrev SingleStart : List ℕ → Sign → Type 0
SingleStart bytes s = ((rest : List ℕ) → pair_at (bytes ++ rest) ≡ None → start_at (bytes ++ rest) ≡ start.Found (kind.Sign s) 1) × (length bytes ≡ 1)

single_starts : Each SingleStart single_signs
unfolding start_of
single_starts = (
  (λ rest e. ap (λ (p : Option Sign). pair_or_single p (Some sign.LeftBrace)) e, refl),
  (
    (λ rest e. ap (λ (p : Option Sign). pair_or_single p (Some sign.RightBrace)) e, refl),
    (
      (λ rest e. ap (λ (p : Option Sign). pair_or_single p (Some sign.LeftBracket)) e, refl),
      (
        (λ rest e. ap (λ (p : Option Sign). pair_or_single p (Some sign.RightBracket)) e, refl),
        (
          (λ rest e. ap (λ (p : Option Sign). pair_or_single p (Some sign.Plus)) e, refl),
          (
            (λ rest e. ap (λ (p : Option Sign). pair_or_single p (Some sign.Minus)) e, refl),
            (
              (λ rest e. ap (λ (p : Option Sign). pair_or_single p (Some sign.Times)) e, refl),
              (
                (λ rest e. ap (λ (p : Option Sign). pair_or_single p (Some sign.Over)) e, refl),
                (
                  (λ rest e. ap (λ (p : Option Sign). pair_or_single p (Some sign.Modulo)) e, refl),
                  (
                    (λ rest e. ap (λ (p : Option Sign). pair_or_single p (Some sign.Equals)) e, refl),
                    (
                      (λ rest e. ap (λ (p : Option Sign). pair_or_single p (Some sign.Comma)) e, refl),
                      (
                        (λ rest e. ap (λ (p : Option Sign). pair_or_single p (Some sign.Less)) e, refl),
                        ((λ rest e. ap (λ (p : Option Sign). pair_or_single p (Some sign.More)) e, refl), tt),
                      ),
                    ),
                  ),
                ),
              ),
            ),
          ),
        ),
      ),
    ),
  ),
)

-- ---- what stands at the start of a text of pieces

-- the prefix of a piece takes its bytes
pub record Starts (k : Option TokenKind) (bytes rest : List ℕ) : Type 0 where
  pub start : start_at (bytes ++ rest) ≡ start_for k (length bytes)
  pub some : 0 < length bytes

long_enough : (n : ℕ) → n ≤ 32 → ltb 32 n ≡ false
long_enough n h = le-ltb 32 n h

name_starts : (x bytes rest : List ℕ) → IsName x bytes rest → Starts (Some (kind.Name x)) bytes rest
name_starts x [] rest n = absurd (let none : false ≡ true = n.word.start in cc)
name_starts x (b ∷ bs) rest n = record {
  start = word_start b bs rest n.word ∙ ap (λ (k : Option Keyword). keyword_or k (b ∷ bs)) n.free ∙ off (ltb 32 (length (b ∷ bs))) _ _ (long_enough (length (b ∷ bs)) n.short) ∙ ap (λ (y : List ℕ). start.Found (kind.Name y) (length (b ∷ bs))) (sym n.same);
  some = omega arith;
}

keyword_starts : (w : Keyword) (bytes rest : List ℕ) → IsKeyword w bytes rest → Starts (Some (kind.Keyword w)) bytes rest
keyword_starts w [] rest n = absurd (let none : false ≡ true = n.word.start in cc)
keyword_starts w (b ∷ bs) rest n = record {
  start = word_start b bs rest n.word ∙ ap (λ (k : Option Keyword). keyword_or k (b ∷ bs)) n.kept;
  some = omega arith;
}

number_starts : (n : ℕ) (bytes rest : List ℕ) → IsNumber n bytes rest → Starts (Some (kind.Number n)) bytes rest
number_starts n [] rest d = absurd (let none : false ≡ true = d.digits.start in cc)
number_starts n (b ∷ bs) rest d =
    let bounded : decimal_value (b ∷ bs) < 4294967296 = subst (λ (m : ℕ). m < 4294967296) d.value d.bounded in
    record {
      start = digits_start b bs rest d.digits ∙ on (ltb (decimal_value (b ∷ bs)) 4294967296) _ _ (lt-ltb (decimal_value (b ∷ bs)) 4294967296 bounded) ∙ ap (λ (m : ℕ). start.Found (kind.Number m) (length (b ∷ bs))) (sym d.value);
      some = omega arith;
    }

sign_starts : (s : Sign) (bytes rest : List ℕ) → IsSign s bytes rest → Starts (Some (kind.Sign s)) bytes rest
sign_starts s bytes rest (inl pair) =
    let is = entry_of PairStart pair_signs bytes s pair_starts pair in
    record { start = is.0 rest ∙ ap (λ (n : ℕ). start.Found (kind.Sign s) n) (sym is.1); some = omega (arith, is.1) }
sign_starts s bytes rest (inr single) =
    let is = entry_of SingleStart single_signs bytes s single_starts single.0 in
    record { start = is.0 rest single.1 ∙ ap (λ (n : ℕ). start.Found (kind.Sign s) n) (sym is.1); some = omega (arith, is.1) }

gap_starts : (bytes rest : List ℕ) → IsGap bytes rest → Starts None bytes rest
gap_starts [] rest (inl blank) = absurd (let none : false ≡ true = blank.0 in cc)
gap_starts (b ∷ []) rest (inl blank) = record { start = blank_start b rest blank.0; some = omega arith }
gap_starts (b ∷ c ∷ cs) rest (inl blank) = absurd (omega (arith, blank.1))
gap_starts [] rest (inr comment) = absurd (let none : false ≡ true = comment.start in cc)
gap_starts (b ∷ bs) rest (inr comment) = record { start = comment_start b bs rest comment; some = omega arith }

pub piece_starts : (k : Option TokenKind) (bytes rest : List ℕ) → IsPiece k bytes rest → Starts k bytes rest
piece_starts None bytes rest is = gap_starts bytes rest is
piece_starts (Some (kind.Name x)) bytes rest is = name_starts x bytes rest is
piece_starts (Some (kind.Number n)) bytes rest is = number_starts n bytes rest is
piece_starts (Some (kind.Keyword w)) bytes rest is = keyword_starts w bytes rest is
piece_starts (Some (kind.Sign s)) bytes rest is = sign_starts s bytes rest is

-- ---- a whole text

pub good_for : (k : Option TokenKind) (n : ℕ) → wrong (start_for k n) ≡ None
good_for None n = refl
good_for (Some k) n = refl

size_for : (k : Option TokenKind) (n : ℕ) → size (start_for k n) ≡ n
size_for None n = refl
size_for (Some k) n = refl

added_for : (k : Option TokenKind) (n : ℕ) (spot : Spot) → added (start_for k n) spot ≡ token_at k spot
added_for None n spot = refl
added_for (Some k) n spot = refl

-- one step over a piece
pub piece_step : (k : Option TokenKind) (line : ℕ) (bytes rest : List ℕ) → Starts k bytes rest → tokens_from 0 line (bytes ++ rest) ≡ with_all (token_at k (spot_at line (length (bytes ++ rest)))) (tokens_from 0 (line + line_feeds bytes) rest)
unfolding tokens_from
piece_step k line [] rest f = absurd (omega (arith, f.some))
piece_step k line (b ∷ bs) rest f =
    let g : Start = start_of b (b ∷ (bs ++ rest)) in
    let n : ℕ = length (b ∷ bs) in
    let good : wrong g ≡ None = ap wrong f.start ∙ good_for k n in
    let sized : size g ≡ n = ap size f.start ∙ size_for k n in
    let some : 0 < size g = omega (arith, sized) in
    start_step g b line (bs ++ rest) good some
    ∙ ap (λ (us : List Token). with_all us (tokens_from 0 (line + line_feeds (take (size g) ((b ∷ bs) ++ rest))) (drop (size g) ((b ∷ bs) ++ rest)))) (ap (λ (h : Start). added h (spot_at line (length ((b ∷ bs) ++ rest)))) f.start ∙ added_for k n (spot_at line (length ((b ∷ bs) ++ rest))))
    ∙ ap (λ (m : ℕ). with_all (token_at k (spot_at line (length ((b ∷ bs) ++ rest)))) (tokens_from 0 (line + line_feeds (take m ((b ∷ bs) ++ rest))) (drop m ((b ∷ bs) ++ rest)))) sized
    ∙ ap (λ (w : List ℕ). with_all (token_at k (spot_at line (length ((b ∷ bs) ++ rest)))) (tokens_from 0 (line + line_feeds w) (drop n ((b ∷ bs) ++ rest)))) (take-append_seam (b ∷ bs) rest)
    ∙ ap (λ (w : List ℕ). with_all (token_at k (spot_at line (length ((b ∷ bs) ++ rest)))) (tokens_from 0 (line + line_feeds (b ∷ bs)) w)) (drop-append_seam (b ∷ bs) rest)

pieces_read : (line : ℕ) (ps : List Piece) → ArePieces ps → tokens_from 0 line (joined ps) ≡ Ok (tokens_in line ps)
unfolding tokens_from
pieces_read line [] stand = refl
pieces_read line (p ∷ ps) stand =
    piece_step p.kind line p.bytes (joined ps) (piece_starts p.kind p.bytes (joined ps) stand.0)
    ∙ ap (with_all (token_at p.kind (spot_at line (length (p.bytes ++ joined ps))))) (pieces_read (line + line_feeds p.bytes) ps stand.1)

pub cut_tokens : (text : List ℕ) (ts : List Token) → IsCut text ts → tokens_of text ≡ Ok ts
unfolding tokens_of
cut_tokens text ts c = ap (tokens_from 0 1) c.parts ∙ pieces_read 1 c.pieces c.stand ∙ ap (λ (us : List Token). let r : Result (List Token) Fault = Ok us in r) (sym c.tokens_are)

made_one : (us ts : List Token) (r : Result (List Token) Fault) → r ≡ Ok us → r ≡ Ok ts → us ≡ ts
made_one us ts r p q = list_is us ts (sym p ∙ q) where
  list_is : (xs ys : List Token) → (let r : Result (List Token) Fault = Ok xs in r) ≡ Ok ys → xs ≡ ys
  list_is xs ys e = cc

pub answer_only : (text : List ℕ) (r : Result (Vec Token Global) TextFault) → AnswersList r (tokens_of text) → (ts : List Token) → IsCut text ts → HasTokens r ts
answer_only text (Ok v) made ts c = made_one v.items ts (tokens_of text) made (cut_tokens text ts c)
answer_only text (Err fault.OutOfMemory) made ts c = tt
answer_only text (Err (fault.Broken case spot)) made ts c = let found : tokens_of text ≡ Ok ts = cut_tokens text ts c in let both = sym made ∙ found in absurd cc
