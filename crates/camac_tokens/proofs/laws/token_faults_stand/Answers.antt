use Rattle.camac_tokens.proofs.laws.token_faults_stand.Goals as goal
use Rattle.std.proofs.Common.{◌≡◌, ℕ, zero, suc, ◌+◌, ◌≤◌, ◌<◌, Bool, true, false, cond, ltb, eqb, List, [], ◌∷◌, ◌++◌, length, take, drop, Option, Some, None, Result, Ok, Err, refl, sym, ap, subst, ◌∙◌, ◌⊎◌, inl, inr, append_assoc, length-drop, arith}
use Rattle.std.specs.Prelude.{take_while}
use Rattle.std.specs.Char.{is_ascii_digit, is_ascii_alphabetic}
use Rattle.std.proofs.lemmas.Bool.{ltb-true, ltb-false}
use Rattle.std.proofs.lemmas.List.{take-append-drop}
use Rattle.camac_lang.specs.declared.spot.Spot.{Spot}
use Rattle.camac_tokens.specs.declared.token.Keyword.{Keyword}
use Rattle.camac_tokens.specs.declared.token.Sign.{Sign}
use Rattle.camac_tokens.specs.declared.token.Token.{Token}
use Rattle.camac_tokens.specs.declared.token.TokenKind.{TokenKind}
use Rattle.camac_tokens.specs.declared.token.TokenKind.TheVariants as kind
use Rattle.camac_tokens.specs.Start.{Start}
use Rattle.camac_tokens.specs.Start as start
use Rattle.camac_tokens.specs.declared.fault.TextCase.{TextCase}
use Rattle.camac_tokens.specs.declared.fault.Limit.TheVariants.{NameBytes}
use Rattle.camac_tokens.specs.declared.fault.TextCase.TheVariants as text_case
use Rattle.camac_tokens.specs.Fault.{Fault}
use Rattle.camac_tokens.specs.Words.{keyword}
use Rattle.camac_tokens.specs.Scanning.{is_name_byte, is_blank, decimal_value, keyword_or, pair_at, single_at, pair_or_single, start_of, wrong, spot_at, line_after, tokens_by, tokens_from, tokens_of}
use Rattle.camac_tokens.proofs.Scans.{size, added, line_feeds, feeds-cons, take_run, name_begins, sized_start, with_all, start_step, wrong_is}
use Rattle.camac_tokens.specs.Cut.{begins, IsRun, IsWord, Piece, IsPiece, joined}
use Rattle.camac_tokens.specs.Broken.{StandBefore, HasOtherByte, Breaks, TokenFaultsStand}
use Rattle.camac_tokens.proofs.Uncut.{run_is, Stands, start_stands, kind_at, piece_of, no_letter, digit_high, start_at, piece_starts, piece_step, good_for}

-- The token fault of a text is at the first place where no piece stands.

-- ---- what is wrong at the start

BreaksIf : Start → List ℕ → Type 0
BreaksIf (start.Gap n) text = Unit {0}
BreaksIf (start.Found k n) text = Unit {0}
BreaksIf (start.Wrong r) text = Breaks r text

breaks_if : (b : Bool) (f g : Start) (text : List ℕ) → (b ≡ true → BreaksIf f text) → (b ≡ false → BreaksIf g text) → BreaksIf (cond b f g) text
breaks_if true f g text on off = on refl
breaks_if false f g text on off = off refl

run_parts : (each : ℕ → Bool) (text : List ℕ) → text ≡ take_while each text ++ drop (length (take_while each text)) text
run_parts each text = sym (take-append-drop (length (take_while each text)) text) ∙ ap (λ (w : List ℕ). w ++ drop (length (take_while each text)) text) (take_run each text)

word_breaks : (k : Option Keyword) (text : List ℕ) → keyword (take_while is_name_byte text) ≡ k
    → IsWord (take_while is_name_byte text) (drop (length (take_while is_name_byte text)) text) → BreaksIf (keyword_or k (take_while is_name_byte text)) text
unfolding BreaksIf
word_breaks (Some w) text at is = tt
word_breaks None text at is =
    breaks_if (ltb 32 (length (take_while is_name_byte text))) (start.Wrong (text_case.Limit NameBytes)) (start.Found (kind.Name (take_while is_name_byte text)) (length (take_while is_name_byte text))) text
    (λ on. record {
      bytes = take_while is_name_byte text;
      rest = drop (length (take_while is_name_byte text)) text;
      parts = run_parts is_name_byte text;
      word = is;
      free = at;
      long = ltb-true _ _ on;
    }) (λ _. tt)

number_breaks : (text : List ℕ) → IsRun is_ascii_digit is_ascii_digit (take_while is_ascii_digit text) (drop (length (take_while is_ascii_digit text)) text)
    → BreaksIf (cond (ltb (decimal_value (take_while is_ascii_digit text)) 4294967296) (start.Found (kind.Number (decimal_value (take_while is_ascii_digit text))) (length (take_while is_ascii_digit text))) (start.Wrong (text_case.Number 4294967295))) text
unfolding BreaksIf
number_breaks text is =
    breaks_if (ltb (decimal_value (take_while is_ascii_digit text)) 4294967296) (start.Found (kind.Number (decimal_value (take_while is_ascii_digit text))) (length (take_while is_ascii_digit text))) (start.Wrong (text_case.Number 4294967295)) text
    (λ _. tt)
    (λ off. (
      refl,
      record {
        bytes = take_while is_ascii_digit text;
        rest = drop (length (take_while is_ascii_digit text)) text;
        parts = run_parts is_ascii_digit text;
        digits = is;
        large = ltb-false _ _ off;
      },
    ))

sign_breaks : (p q : Option Sign) (text : List ℕ) → HasOtherByte text → BreaksIf (pair_or_single p q) text
unfolding BreaksIf
sign_breaks (Some s) q text is = tt
sign_breaks None (Some s) text is = tt
sign_breaks None None text is = is

start_breaks : (b : ℕ) (bs : List ℕ) → BreaksIf (start_of b (b ∷ bs)) (b ∷ bs)
unfolding start_of BreaksIf
start_breaks b bs =
    let text : List ℕ = b ∷ bs in
    breaks_if (is_blank b) _ _ text (λ _. tt) (λ _.
    breaks_if (eqb b 35) _ _ text (λ _. tt) (λ _.
    breaks_if (is_ascii_alphabetic b) _ _ text (λ is. word_breaks (keyword (take_while is_name_byte (b ∷ bs))) (b ∷ bs) refl (run_is is_ascii_alphabetic is_name_byte b bs is (name_begins b is))) (λ no_word.
    breaks_if (is_ascii_digit b) _ _ text (λ is. number_breaks (b ∷ bs) (run_is is_ascii_digit is_ascii_digit b bs is is)) (λ no_number.
    sign_breaks (pair_at (b ∷ bs)) (single_at (b ∷ bs)) (b ∷ bs) (record { some = omega arith; no_word = no_word; no_number = no_number })))))

breaks_wrong : (f : Start) (r : TextCase) (text : List ℕ) → wrong f ≡ Some r → BreaksIf f text → Breaks r text
unfolding BreaksIf
breaks_wrong f r text bad is = subst (λ (g : Start). BreaksIf g text) (wrong_is f r bad) is

-- no piece stands where something is wrong
nothing_stands : (b : ℕ) (bs : List ℕ) (r : TextCase) → wrong (start_of b (b ∷ bs)) ≡ Some r
    → (k : Option TokenKind) (bytes after : List ℕ) → b ∷ bs ≡ bytes ++ after → IsPiece k bytes after → ⊥
nothing_stands b bs r bad k bytes after parts is =
    let starts = piece_starts k bytes after is in
    let good : wrong (start_at (b ∷ bs)) ≡ None = ap (λ (w : List ℕ). wrong (start_at w)) parts ∙ ap wrong starts.start ∙ good_for k (length bytes) in
    let both : Some r ≡ None = sym bad ∙ good in
    absurd cc

-- ---- from the fault to the place

feeds_append : (xs ys : List ℕ) → line_feeds (xs ++ ys) ≡ line_feeds xs + line_feeds ys
feeds_append [] ys = omega arith
feeds_append (x ∷ xs) ys =
    let whole = feeds-cons x (xs ++ ys) in
    let start = feeds-cons x xs in
    let rest = feeds_append xs ys in
    omega (arith, whole, start, rest)

record BrokenFrom (line : ℕ) (text : List ℕ) (f : Fault) : Type 0 where
  pieces : List Piece
  rest : List ℕ
  parts : text ≡ joined pieces ++ rest
  stand : StandBefore rest pieces
  nothing : (k : Option TokenKind) (bytes after : List ℕ) → rest ≡ bytes ++ after → IsPiece k bytes after → ⊥
  why : Breaks f.case rest
  place : f.spot ≡ spot_at (line + line_feeds (joined pieces)) (length rest)

fault_is : (e f : Fault) → (let r : Result (List Token) Fault = Err e in r) ≡ Err f → e ≡ f
fault_is e f h = cc

all_err : (us : List Token) (r : Result (List Token) Fault) (f : Fault) → with_all us r ≡ Err f → r ≡ Err f
all_err us (Ok ts) f e = absurd cc
all_err us (Err d) f e = e

broken_here : (b line : ℕ) (bs : List ℕ) (f : Fault) (r : TextCase) → wrong (start_of b (b ∷ bs)) ≡ Some r → tokens_from 0 line (b ∷ bs) ≡ Err f → BrokenFrom line (b ∷ bs) f
unfolding tokens_from
broken_here b line bs f r bad e =
    let here : tokens_from 0 line (b ∷ bs) ≡ Err (record { case = r; spot = spot_at line (length (b ∷ bs)) }) = ap (λ (g : Start). tokens_by g (spot_at line (length (b ∷ bs))) (λ n. tokens_from n (line_after line b) bs)) (wrong_is (start_of b (b ∷ bs)) r bad) in
    let same : (let d : Fault = record { case = r; spot = spot_at line (length (b ∷ bs)) } in d) ≡ f = fault_is _ f (sym here ∙ e) in
    record {
      pieces = [];
      rest = b ∷ bs;
      parts = refl;
      stand = tt;
      nothing = nothing_stands b bs r bad;
      why = subst (λ (d : Fault). Breaks d.case (b ∷ bs)) same (breaks_wrong (start_of b (b ∷ bs)) r (b ∷ bs) bad (start_breaks b bs));
      place = sym (ap (λ (d : Fault). d.spot) same) ∙ ap (λ (l : ℕ). spot_at l (length (b ∷ bs))) (omega arith);
    }

broken_later : (f : Start) (line : ℕ) (text : List ℕ) (d : Fault) → wrong f ≡ None → Stands f text
    → BrokenFrom (line + line_feeds (take (size f) text)) (drop (size f) text) d → BrokenFrom line text d
broken_later f line text d good stands rest =
    let feeds : line_feeds (take (size f) text ++ joined rest.pieces) ≡ line_feeds (take (size f) text) + line_feeds (joined rest.pieces) = feeds_append (take (size f) text) (joined rest.pieces) in
    record {
      pieces = record { bytes = take (size f) text; kind = kind_at f } ∷ rest.pieces;
      rest = rest.rest;
      parts = sym (take-append-drop (size f) text) ∙ ap (λ (w : List ℕ). take (size f) text ++ w) rest.parts ∙ sym (append_assoc (take (size f) text) (joined rest.pieces) rest.rest);
      stand = (subst (λ (w : List ℕ). IsPiece (kind_at f) (take (size f) text) w) rest.parts (piece_of f text good stands), rest.stand);
      nothing = rest.nothing;
      why = rest.why;
      place = rest.place ∙ ap (λ (l : ℕ). spot_at l (length rest.rest)) (omega (arith, feeds));
    }

wrong_or : (o : Option TextCase) → ((r : TextCase) × (o ≡ Some r)) ⊎ (o ≡ None)
wrong_or None = inr refl
wrong_or (Some r) = inl (r, refl)

broken_from : (n line : ℕ) (text : List ℕ) (f : Fault) → length text ≤ n → tokens_from 0 line text ≡ Err f → BrokenFrom line text f
unfolding tokens_from
broken_from n line [] f few e = absurd cc
broken_from zero line (b ∷ bs) f few e = absurd (omega arith)
broken_from (suc n) line (b ∷ bs) f few e =
    let g : Start = start_of b (b ∷ bs) in
    elim (wrong_or (wrong (start_of b (b ∷ bs)))) [
      | inl bad ↦ broken_here b line bs f bad.0 bad.1 e
      | inr good ↦
          let sized = sized_start b bs good in
          let later = all_err (added g (spot_at line (length (b ∷ bs)))) (tokens_from 0 (line + line_feeds (take (size g) (b ∷ bs))) (drop (size g) (b ∷ bs))) f (sym (start_step g b line bs good sized.0) ∙ e) in
          broken_later g line (b ∷ bs) f good (start_stands b bs) (broken_from n (line + line_feeds (take (size g) (b ∷ bs))) (drop (size g) (b ∷ bs)) f (shorter (size g) b bs n sized.0 few) later)
    ]
  where
    shorter : (k b : ℕ) (bs : List ℕ) (n : ℕ) → 0 < k → length (b ∷ bs) ≤ suc n → length (drop k (b ∷ bs)) ≤ n
    shorter k b bs n some few = grind (arith, length-drop {A = ℕ})

-- ---- from the place to the fault

-- the case by what the first byte is
case_by : Bool → Bool → TextCase
case_by true number = text_case.Limit NameBytes
case_by false true = text_case.Number 4294967295
case_by false false = text_case.Byte

begins_run : (first each : ℕ → Bool) (bytes rest : List ℕ) → IsRun first each bytes rest → begins first (bytes ++ rest) ≡ true
begins_run first each [] rest is = absurd (let none : false ≡ true = is.start in cc)
begins_run first each (b ∷ bs) rest is = is.start

no_word_begins : (bytes rest : List ℕ) → IsRun is_ascii_digit is_ascii_digit bytes rest → begins is_ascii_alphabetic (bytes ++ rest) ≡ false
no_word_begins [] rest is = absurd (let none : false ≡ true = is.start in cc)
no_word_begins (b ∷ bs) rest is = no_letter b (digit_high b is.start)

the_case : (r : TextCase) (text : List ℕ) → Breaks r text → r ≡ case_by (begins is_ascii_alphabetic text) (begins is_ascii_digit text)
unfolding case_by
the_case text_case.Byte text is = rw (is.no_word, is.no_number) refl
the_case (text_case.Number most) text (same, is) = rw (is.parts, no_word_begins is.bytes is.rest is.digits, begins_run is_ascii_digit is_ascii_digit is.bytes is.rest is.digits) (ap text_case.Number same)
the_case (text_case.Limit NameBytes) text is = rw (is.parts, begins_run is_ascii_alphabetic is_name_byte is.bytes is.rest is.word) refl
the_case _ text is = absurd is

-- it is the case that the scan finds
wrong_here : (f : Start) (text : List ℕ) (r : TextCase) → Breaks r text → Stands f text → BreaksIf f text
    → ((k : Option TokenKind) (bytes after : List ℕ) → text ≡ bytes ++ after → IsPiece k bytes after → ⊥) → f ≡ start.Wrong r
unfolding BreaksIf
wrong_here (start.Gap n) text r why stands breaks nothing = absurd (nothing None (take n text) (drop n text) (sym (take-append-drop n text)) stands)
wrong_here (start.Found k n) text r why stands breaks nothing = absurd (nothing (Some k) (take n text) (drop n text) (sym (take-append-drop n text)) stands)
wrong_here (start.Wrong d) text r why stands breaks nothing = ap start.Wrong (the_case d text breaks ∙ sym (the_case r text why))

no_bytes : {first each : ℕ → Bool} (bytes rest : List ℕ) → [] ≡ bytes ++ rest → IsRun first each bytes rest → ⊥
no_bytes [] rest e is = absurd (let none : false ≡ true = is.start in cc)
no_bytes (b ∷ bs) rest e is = absurd cc

fault_at : (line : ℕ) (rest : List ℕ) (r : TextCase) → Breaks r rest
    → ((k : Option TokenKind) (bytes after : List ℕ) → rest ≡ bytes ++ after → IsPiece k bytes after → ⊥)
    → tokens_from 0 line rest ≡ Err (record { case = r; spot = spot_at line (length rest) })
unfolding tokens_from
fault_at line [] text_case.Byte why nothing = let some = why.some in absurd (omega (arith, some))
fault_at line [] (text_case.Number most) why nothing = absurd (no_bytes why.1.bytes why.1.rest why.1.parts why.1.digits)
fault_at line [] (text_case.Limit NameBytes) why nothing = absurd (no_bytes why.bytes why.rest why.parts why.word)
fault_at line [] _ why nothing = absurd why
fault_at line (b ∷ bs) r why nothing =
    ap (λ (g : Start). tokens_by g (spot_at line (length (b ∷ bs))) (λ n. tokens_from n (line_after line b) bs)) (wrong_here (start_of b (b ∷ bs)) (b ∷ bs) r why (start_stands b bs) (start_breaks b bs) nothing)

fault_after : (line : ℕ) (ps : List Piece) (rest : List ℕ) (f : Fault) → StandBefore rest ps → tokens_from 0 (line + line_feeds (joined ps)) rest ≡ Err f
    → tokens_from 0 line (joined ps ++ rest) ≡ Err f
unfolding tokens_from
fault_after line [] rest f stand e = ap (λ (l : ℕ). tokens_from 0 l rest) (omega arith) ∙ e
fault_after line (p ∷ ps) rest f stand e =
    let feeds : line_feeds (p.bytes ++ joined ps) ≡ line_feeds p.bytes + line_feeds (joined ps) = feeds_append p.bytes (joined ps) in
    let further : line + line_feeds p.bytes + line_feeds (joined ps) ≡ line + line_feeds (joined (p ∷ ps)) = omega (arith, feeds) in
    let later = fault_after (line + line_feeds p.bytes) ps rest f stand.1 (ap (λ (l : ℕ). tokens_from 0 l rest) further ∙ e) in
    ap (tokens_from 0 line) (append_assoc p.bytes (joined ps) rest)
    ∙ piece_step p.kind line p.bytes (joined ps ++ rest) (piece_starts p.kind p.bytes (joined ps ++ rest) stand.0)
    ∙ ap (with_all _) later

token_faults_stand : TokenFaultsStand
unfolding tokens_of
token_faults_stand text f = (
  λ e.
      let b = broken_from (length text) 1 text f (omega arith) e in
      record { pieces = b.pieces; rest = b.rest; parts = b.parts; stand = b.stand; nothing = b.nothing; why = b.why; place = b.place },
  λ b.
      ap (tokens_from 0 1) b.parts
      ∙ fault_after 1 b.pieces b.rest f b.stand (fault_at (1 + line_feeds (joined b.pieces)) b.rest f.case b.why b.nothing ∙ ap (λ (p : Spot). let r : Result (List Token) Fault = Err (record { case = f.case; spot = p }) in r) (sym b.place)),
)

pub returns : goal.returns
returns c = token_faults_stand
