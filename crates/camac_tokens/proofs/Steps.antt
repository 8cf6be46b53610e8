-- What is left of the tokens of a text, step by step.
use Rattle.std.proofs.Common.{◌≡◌, ℕ, zero, suc, ◌+◌, ◌-◌, ◌≤◌, ◌<◌, Bool, true, false, not, cond, eqb, List, [], ◌∷◌, ◌++◌, length, take, drop, Option, Some, None, Result, Ok, Err, refl, sym, ap, subst, ◌∙◌, length-drop, arith, ltb}
use Rattle.std.specs.Prelude.{take_while, slice_index}
use Rattle.std.proofs.lemmas.List.{append-nil}
use Rattle.std.proofs.lemmas.Bool.{eqb-true, ne_eqb}
use Rattle.camac_lang.specs.declared.spot.Spot.{Spot}
use Rattle.camac_tokens.specs.declared.token.Token.{Token}
use Rattle.camac_tokens.specs.declared.token.TokenKind.{TokenKind}
use Rattle.camac_tokens.specs.Start.{Start}
use Rattle.camac_tokens.specs.Start as start
use Rattle.camac_tokens.specs.declared.fault.TextCase.{TextCase}
use Rattle.camac_tokens.specs.Fault.{Fault}
use Rattle.camac_tokens.specs.Scanning.{is_blank, is_no_line_feed, start_of, wrong, with_first, tokens_by, tokens_from, line_after, line_number, spot_at, tokens_of, last_line, is_name_byte, decimal_value, keyword_or, pair_at, single_at, pair_or_single}
use Rattle.camac_tokens.proofs.Scans.{size, line_feeds, feeds-cons, lines_step, take_run, run_some, skip, with_all, none_all, start_step, sized_start, wrong_is}
use Rattle.camac_tokens.specs.Left.{before_by, tokens_before, end_by, end_from, Ahead, ahead_from, ahead_of, with_next, IsStop, IsPastGaps, BeginsNoGap, IsPut}
use Rattle.std.specs.Char.{is_ascii_digit, is_ascii_alphabetic}
use Rattle.std.proofs.lemmas.Bool.Decides.{nat_tests}
use Rattle.std.proofs.lemmas.List.Sums.{take_while-cons}
use Rattle.camac_tokens.specs.declared.token.Keyword.{Keyword}
use Rattle.camac_tokens.specs.declared.token.Sign.{Sign}
use Rattle.camac_tokens.specs.Words.{keyword, pair_signs, single_signs}
use Rattle.camac_tokens.proofs.Uncut.{Each, entry_of}

-- No token has a line feed, so what is behind it is on its line.

-- ---- words and numbers

feed_step : (t : Bool) (x : ℕ) (ys : List ℕ) → (t ≡ true → eqb x 10 ≡ false) → line_feeds ys ≡ 0 → line_feeds (cond t (x ∷ ys) []) ≡ 0
feed_step true x ys none h = feeds-cons x ys ∙ ap (λ (t : Bool). cond t 1 0 + line_feeds ys) (none refl) ∙ (let sum : cond false 1 0 + line_feeds ys ≡ 0 = omega (arith, h) in sum)
feed_step false x ys none h = refl

pub run_feeds : (each : ℕ → Bool) → ((b : ℕ) → each b ≡ true → eqb b 10 ≡ false) → (xs : List ℕ) → line_feeds (take_while each xs) ≡ 0
run_feeds each none [] = refl
run_feeds each none (x ∷ xs) = subst (λ (w : List ℕ). line_feeds w ≡ 0) (sym (take_while-cons each x xs)) (feed_step (each x) x (take_while each xs) (none x) (run_feeds each none xs))

name_byte : (b : ℕ) → is_name_byte b ≡ true → eqb b 10 ≡ false
name_byte b e = grind (arith, nat_tests)

digit : (b : ℕ) → is_ascii_digit b ≡ true → eqb b 10 ≡ false
digit b e = grind (arith, nat_tests)

taken_run : (each : ℕ → Bool) → ((b : ℕ) → each b ≡ true → eqb b 10 ≡ false) → (xs : List ℕ) → line_feeds (take (length (take_while each xs)) xs) ≡ 0
taken_run each none xs = ap line_feeds (take_run each xs) ∙ run_feeds each none xs

-- ---- what stands at the start

abbrev pub OnOneLine : Start → List ℕ → Type 0
OnOneLine (start.Found k n) text = line_feeds (take n text) ≡ 0
OnOneLine (start.Gap n) text = Unit {0}
OnOneLine (start.Wrong case) text = Unit {0}

one_line_if : (t : Bool) (f g : Start) (text : List ℕ) → OnOneLine f text → OnOneLine g text → OnOneLine (cond t f g) text
one_line_if true f g text on off = on
one_line_if false f g text on off = off

word_on_one_line : (k : Option Keyword) (text : List ℕ) → OnOneLine (keyword_or k (take_while is_name_byte text)) text
word_on_one_line (Some w) text = taken_run is_name_byte name_byte text
word_on_one_line None text = one_line_if (ltb 32 (length (take_while is_name_byte text))) _ _ text tt (taken_run is_name_byte name_byte text)

abbrev NoFeed : List ℕ → Sign → Type 0
NoFeed bytes s = line_feeds bytes ≡ 0

no_pair_feeds : Each NoFeed pair_signs
no_pair_feeds = (refl, (refl, (refl, (refl, (refl, (refl, (refl, tt)))))))

no_single_feeds : Each NoFeed single_signs
no_single_feeds = (refl, (refl, (refl, (refl, (refl, (refl, (refl, (refl, (refl, (refl, (refl, (refl, (refl, tt)))))))))))))

sign_on_one_line : (p q : Option Sign) (b : ℕ) (bs : List ℕ) → pair_at (b ∷ bs) ≡ p → single_at (b ∷ bs) ≡ q → OnOneLine (pair_or_single p q) (b ∷ bs)
sign_on_one_line (Some s) q b [] at other = absurd cc
sign_on_one_line (Some s) q b (c ∷ cs) at other = entry_of NoFeed pair_signs (b ∷ c ∷ []) s no_pair_feeds at
sign_on_one_line None (Some s) b bs at other = entry_of NoFeed single_signs (b ∷ []) s no_single_feeds other
sign_on_one_line None None b bs at other = tt

pub start_on_one_line : (b : ℕ) (bs : List ℕ) → OnOneLine (start_of b (b ∷ bs)) (b ∷ bs)
unfolding start_of
start_on_one_line b bs =
    let text : List ℕ = b ∷ bs in
    one_line_if (is_blank b) _ _ text tt (
    one_line_if (eqb b 35) _ _ text tt (
    one_line_if (is_ascii_alphabetic b) _ _ text (word_on_one_line (keyword (take_while is_name_byte (b ∷ bs))) (b ∷ bs)) (
    one_line_if (is_ascii_digit b) _ _ text (one_line_if (ltb (decimal_value (take_while is_ascii_digit (b ∷ bs))) 4294967296) _ _ text (taken_run is_ascii_digit digit (b ∷ bs)) tt) (
    sign_on_one_line (pair_at (b ∷ bs)) (single_at (b ∷ bs)) b bs refl refl))))

-- ---- the line feeds of what is behind

pub feeds_split : (n : ℕ) (xs : List ℕ) → line_feeds (take n xs) + line_feeds (drop n xs) ≡ line_feeds xs
feeds_split zero xs = omega arith
feeds_split (suc n) [] = omega arith
feeds_split (suc n) (x ∷ xs) =
    let whole = feeds-cons x xs in
    let front = feeds-cons x (take n xs) in
    let rest = feeds_split n xs in
    omega (arith, whole, front, rest)

pub feeds_behind : (n : ℕ) (xs : List ℕ) → line_feeds (take n xs) ≡ 0 → line_feeds (drop n xs) ≡ line_feeds xs
feeds_behind n xs none = omega (arith, none, feeds_split n xs)

on : {A : Type 0} (t : Bool) (x y : A) → t ≡ true → cond t x y ≡ x
on true x y e = refl
on false x y e = absurd cc

off : {A : Type 0} (t : Bool) (x y : A) → t ≡ false → cond t x y ≡ y
off true x y e = absurd cc
off false x y e = refl

same_line : (line n : ℕ) → n ≡ 0 → line + n ≡ line
same_line line n e = omega (arith, e)

-- ---- gaps

blank_is : (b : ℕ) (bs : List ℕ) → is_blank b ≡ true → start_of b (b ∷ bs) ≡ start.Gap 1
unfolding start_of
blank_is b bs is = on (is_blank b) _ _ is

blank_past : (b line : ℕ) (bs : List ℕ) → is_blank b ≡ true → tokens_from 0 (line_after line b) bs ≡ tokens_from 0 line (b ∷ bs)
unfolding tokens_from
blank_past b line bs is = sym (ap (λ (f : Start). tokens_by f (spot_at line (length (b ∷ bs))) (λ skip. tokens_from skip (line_after line b) bs)) (blank_is b bs is))

no_feed : (b : ℕ) → is_no_line_feed b ≡ true → eqb b 10 ≡ false
no_feed b e = off_not (eqb b 10) e where
  off_not : (t : Bool) → not t ≡ true → t ≡ false
  off_not true e = absurd cc
  off_not false e = refl

comment_is : (b : ℕ) (bs : List ℕ) → eqb b 35 ≡ true → start_of b (b ∷ bs) ≡ start.Gap (length (take_while is_no_line_feed (b ∷ bs)))
unfolding start_of
comment_is b bs is = off (is_blank b) _ _ (subst (λ (c : ℕ). is_blank c ≡ false) (sym (eqb-true b 35 is)) refl) ∙ on (eqb b 35) _ _ is

pub comment_some : (b : ℕ) (bs : List ℕ) → eqb b 35 ≡ true → 0 < length (take_while is_no_line_feed (b ∷ bs))
comment_some b bs is = run_some is_no_line_feed b bs (subst (λ (c : ℕ). is_no_line_feed c ≡ true) (sym (eqb-true b 35 is)) refl)

comment_feeds : (b : ℕ) (bs : List ℕ) → line_feeds (take (length (take_while is_no_line_feed (b ∷ bs))) (b ∷ bs)) ≡ 0
comment_feeds b bs = ap line_feeds (take_run is_no_line_feed (b ∷ bs)) ∙ run_feeds is_no_line_feed no_feed (b ∷ bs)

pub comment_past : (b line : ℕ) (bs : List ℕ) → eqb b 35 ≡ true → tokens_from 0 line (drop (length (take_while is_no_line_feed (b ∷ bs))) (b ∷ bs)) ≡ tokens_from 0 line (b ∷ bs)
unfolding tokens_from
comment_past b line bs is =
    let n : ℕ = length (take_while is_no_line_feed (b ∷ bs)) in
    let feeds : line_feeds (take (length (take_while is_no_line_feed (b ∷ bs))) (b ∷ bs)) ≡ 0 = comment_feeds b bs in
    let same : line + line_feeds (take (length (take_while is_no_line_feed (b ∷ bs))) (b ∷ bs)) ≡ line = omega (arith, feeds) in
    sym (
    ap (λ (f : Start). tokens_by f (spot_at line (length (b ∷ bs))) (λ skip. tokens_from skip (line_after line b) bs)) (comment_is b bs is)
    ∙ start_step (start.Gap n) b line bs refl (comment_some b bs is)
    ∙ sym (none_all _)
    ∙ ap (λ (l : ℕ). tokens_from 0 l (drop (length (take_while is_no_line_feed (b ∷ bs))) (b ∷ bs))) same
    )

-- ---- the tokens before the first token fault

before_step : (b line : ℕ) (bs : List ℕ) (f : Start) → start_of b (b ∷ bs) ≡ f → tokens_before 0 line (b ∷ bs) ≡ before_by f (spot_at line (length (b ∷ bs))) (λ n. tokens_before n (line_after line b) bs)
unfolding tokens_before
before_step b line bs f is = ap (λ (g : Start). before_by g (spot_at line (length (b ∷ bs))) (λ n. tokens_before n (line_after line b) bs)) is

-- those after what stands at the start, which takes n bytes and no line feed
before_behind : (n b line : ℕ) (bs : List ℕ) → 0 < n → line_feeds (take n (b ∷ bs)) ≡ 0 → tokens_before (n - 1) (line_after line b) bs ≡ tokens_before 0 line (drop n (b ∷ bs))
unfolding tokens_before
before_behind zero b line bs some none = absurd (omega arith)
before_behind (suc n) b line bs some none =
    ap (λ (k : ℕ). tokens_before k (line_after line b) bs) (omega arith)
    ∙ skip tokens_before (λ m l k. refl) (λ m l c cs. refl) (suc n) line (b ∷ bs)
    ∙ ap (λ (l : ℕ). tokens_before 0 l (drop n bs)) (same_line line _ none)

blank_before : (b line : ℕ) (bs : List ℕ) → is_blank b ≡ true → tokens_before 0 (line_after line b) bs ≡ tokens_before 0 line (b ∷ bs)
blank_before b line bs is = sym (before_step b line bs (start.Gap 1) (blank_is b bs is))

comment_before : (b line : ℕ) (bs : List ℕ) → eqb b 35 ≡ true → tokens_before 0 line (drop (length (take_while is_no_line_feed (b ∷ bs))) (b ∷ bs)) ≡ tokens_before 0 line (b ∷ bs)
comment_before b line bs is =
    let n : ℕ = length (take_while is_no_line_feed (b ∷ bs)) in
    sym (before_step b line bs (start.Gap n) (comment_is b bs is) ∙ before_behind n b line bs (comment_some b bs is) (comment_feeds b bs))

-- without a fault they are all
by_all : (f : Start) (spot : Spot) (more : ℕ → Result (List Token) Fault) (before : ℕ → List Token) → ((n : ℕ) (us : List Token) → more n ≡ Ok us → before n ≡ us)
    → (ts : List Token) → tokens_by f spot more ≡ Ok ts → before_by f spot before ≡ ts
by_all (start.Gap n) spot more before same ts e = same (n - 1) ts e
by_all (start.Found k n) spot more before same ts e = first_of (more (n - 1)) refl e where
  first_of : (r : Result (List Token) Fault) → more (n - 1) ≡ r → with_first (record { kind = k; spot = spot }) r ≡ Ok ts → record { kind = k; spot = spot } ∷ before (n - 1) ≡ ts
  first_of (Ok us) at h = ap (λ (w : List Token). record { kind = k; spot = spot } ∷ w) (same (n - 1) us at) ∙ (let both : _ ≡ ts = cc in both)
  first_of (Err d) at h = absurd cc
by_all (start.Wrong case) spot more before same ts e = absurd cc

pub all_before : (n line : ℕ) (bs : List ℕ) (ts : List Token) → tokens_from n line bs ≡ Ok ts → tokens_before n line bs ≡ ts
unfolding tokens_from tokens_before
all_before n line [] ts e = cc
all_before zero line (b ∷ bs) ts e = by_all (start_of b (b ∷ bs)) (spot_at line (length (b ∷ bs))) (λ n. tokens_from n (line_after line b) bs) (λ n. tokens_before n (line_after line b) bs) (λ n us h. all_before n (line_after line b) bs us h) ts e
all_before (suc n) line (b ∷ bs) ts e = all_before n (line_after line b) bs ts e

pub whole_ahead : (text : List ℕ) (ts : List Token) → tokens_of text ≡ Ok ts → ahead_of text ≡ record { tokens = ts; end = Ok (last_line text) }
unfolding tokens_of
whole_ahead text ts e =
    ap (λ (us : List Token). let a : Ahead = record { tokens = us; end = end_by (tokens_of text) (last_line text) } in a) (all_before 0 1 text ts e)
    ∙ ap (λ (r : Result (List Token) Fault). let a : Ahead = record { tokens = ts; end = end_by r (last_line text) } in a) e

-- what is ahead is the same where the tokens are, and the lines
same_ahead : (line after : ℕ) (text rest : List ℕ) → tokens_from 0 after rest ≡ tokens_from 0 line text → tokens_before 0 after rest ≡ tokens_before 0 line text → after + line_feeds rest ≡ line + line_feeds text
    → ahead_from after rest ≡ ahead_from line text
same_ahead line after text rest same before feeds =
    let lines : line_feeds rest + after ≡ line_feeds text + line = omega (arith, feeds) in
    ap (λ (ts : List Token). let a : Ahead = record { tokens = ts; end = end_from after rest } in a) before
    ∙ ap (λ (r : Result (List Token) Fault). let a : Ahead = record { tokens = tokens_before 0 line text; end = end_by r (line_number (line_feeds rest + after)) } in a) same
    ∙ ap (λ (l : ℕ). let a : Ahead = record { tokens = tokens_before 0 line text; end = end_by (tokens_from 0 line text) (line_number l) } in a) lines

-- the rest after a comment, and after a blank
pub record Skips (line : ℕ) (rest : List ℕ) (after : ℕ) (n : ℕ) : Type 0 where
  pub same : ahead_from after (drop n rest) ≡ ahead_from line rest
  pub lines : after + length (drop n rest) ≤ line + length rest
  pub shorter : length (drop n rest) < length rest

pub comment_skips : (line : ℕ) (rest : List ℕ) → 0 < length rest → slice_index rest 0 ≡ 35 → Skips line rest line (length (take_while is_no_line_feed rest))
comment_skips line [] some is = absurd (omega arith)
comment_skips line (b ∷ bs) some is =
    let hash : eqb b 35 ≡ true = subst (λ (c : ℕ). eqb c 35 ≡ true) (sym is) refl in
    let n : ℕ = length (take_while is_no_line_feed (b ∷ bs)) in
    let left = length-drop n (b ∷ bs) in
    let some_bytes = comment_some b bs hash in
    record {
      same = same_ahead line line (b ∷ bs) (drop n (b ∷ bs)) (comment_past b line bs hash) (comment_before b line bs hash) (ap (λ (m : ℕ). line + m) (feeds_behind n (b ∷ bs) (comment_feeds b bs)));
      lines = omega (arith, left);
      shorter = omega (arith, left, some_bytes);
    }

line_step : (t : Bool) (line n : ℕ) → cond t (line + 1) line + n ≤ line + suc n
line_step true line n = omega arith
line_step false line n = omega arith

pub blank_skips : (line : ℕ) (rest : List ℕ) → 0 < length rest → is_blank (slice_index rest 0) ≡ true → Skips line rest (line_after line (slice_index rest 0)) 1
blank_skips line [] some is = absurd (omega arith)
blank_skips line (b ∷ bs) some is =
    let feeds : line_after line b + line_feeds bs ≡ line + line_feeds (b ∷ bs) = lines_step (eqb b 10) line (line_feeds bs) ∙ ap (λ (m : ℕ). line + m) (sym (feeds-cons b bs)) in
    record {
      same = same_ahead line (line_after line b) (b ∷ bs) bs (blank_past b line bs is) (blank_before b line bs is) feeds;
      lines = line_step (eqb b 10) line (length bs);
      shorter = omega arith;
    }

abbrev pub spaces : ℕ → List ℕ
spaces zero = []
spaces (suc n) = 32 ∷ spaces n

space_skips : (line b : ℕ) (bs : List ℕ) → b ≡ 32 → Skips line (b ∷ bs) line 1
space_skips line b bs is = subst (λ (x : ℕ). Skips line (x ∷ bs) line 1) (sym is) (blank_skips line (32 ∷ bs) (omega arith) refl)

-- the rest after 1 + n spaces
pub spaces_skip : (n line : ℕ) (rest : List ℕ) → take (suc n) rest ≡ spaces (suc n) → Skips line rest line (suc n)
spaces_skip n line [] e = absurd cc
spaces_skip zero line (b ∷ bs) e =
    let both : b ∷ [] ≡ 32 ∷ [] = e in
    space_skips line b bs cc
spaces_skip (suc n) line (b ∷ bs) e =
    let both : b ∷ take (suc n) bs ≡ 32 ∷ spaces (suc n) = e in
    let head : b ≡ 32 = cc in
    let others : take (suc n) bs ≡ spaces (suc n) = cc in
    let one = space_skips line b bs head in
    let more = spaces_skip n line bs others in
    record { same = more.same ∙ one.same; lines = omega (arith, more.lines, one.lines); shorter = omega (arith, more.shorter) }

-- ---- what begins with no gap

above_hash : (b : ℕ) → 35 < b → (is_blank b ≡ false) × (eqb b 35 ≡ false)
above_hash b above = (
  rw (ne_eqb b 32 (λ e. absurd (omega (arith, e, above))), ne_eqb b 9 (λ e. absurd (omega (arith, e, above))), ne_eqb b 13 (λ e. absurd (omega (arith, e, above))), ne_eqb b 10 (λ e. absurd (omega (arith, e, above)))) refl,
  ne_eqb b 35 (λ e. absurd (omega (arith, e, above))),
)

-- one space, and then what is neither a blank nor a comment
pub space_is_past : (line : ℕ) (text : List ℕ) → 2 ≤ length text → slice_index text 0 ≡ 32 → 35 < slice_index text 1 → IsPastGaps line text line (drop 1 text)
space_is_past line [] some is above = absurd (omega arith)
space_is_past line (a ∷ []) some is above = absurd (omega arith)
space_is_past line (a ∷ b ∷ bs) some is above =
    let one : take 1 (a ∷ b ∷ bs) ≡ spaces 1 = ap (λ (x : ℕ). x ∷ []) is in
    let skips = spaces_skip 0 line (a ∷ b ∷ bs) one in
    record { same = skips.same; lines = skips.lines; begins = above_hash b above }

-- the same of one line feed
pub line_feed_is_past : (line : ℕ) (text : List ℕ) → 2 ≤ length text → slice_index text 0 ≡ 10 → 35 < slice_index text 1 → IsPastGaps line text (line + 1) (drop 1 text)
line_feed_is_past line [] some is above = absurd (omega arith)
line_feed_is_past line (a ∷ []) some is above = absurd (omega arith)
line_feed_is_past line (a ∷ b ∷ bs) some is above = rw is (
    let skips = blank_skips line (10 ∷ b ∷ bs) (omega arith) refl in
    record { same = skips.same; lines = skips.lines; begins = above_hash b above })

-- ---- one token

token_step : (b line : ℕ) (bs : List ℕ) (f : Start) → start_of b (b ∷ bs) ≡ f → tokens_from 0 line (b ∷ bs) ≡ tokens_by f (spot_at line (length (b ∷ bs))) (λ skip. tokens_from skip (line_after line b) bs)
unfolding tokens_from
token_step b line bs f is = ap (λ (g : Start). tokens_by g (spot_at line (length (b ∷ bs))) (λ skip. tokens_from skip (line_after line b) bs)) is

found_some : (b : ℕ) (bs : List ℕ) (k : TokenKind) (n : ℕ) → start_of b (b ∷ bs) ≡ start.Found k n → (0 < n) × (n ≤ length (b ∷ bs))
found_some b bs k n is =
    let sized = sized_start b bs (ap wrong is) in
    subst (λ (m : ℕ). (0 < m) × (m ≤ length (b ∷ bs))) (ap size is) sized

pub found_size : (rest : List ℕ) (k : TokenKind) (n : ℕ) → 0 < length rest → start_of (slice_index rest 0) rest ≡ start.Found k n → (0 < n) × (n ≤ length rest)
found_size [] k n some is = absurd (omega arith)
found_size (b ∷ bs) k n some is = found_some b bs k n is

token_goes : (line : ℕ) (rest : List ℕ) (k : TokenKind) (n : ℕ) → 0 < length rest → start_of (slice_index rest 0) rest ≡ start.Found k n → tokens_from 0 line rest ≡ with_all (record { kind = k; spot = spot_at line (length rest) } ∷ []) (tokens_from 0 line (drop n rest))
token_goes line [] k n some is = absurd (omega arith)
token_goes line (b ∷ bs) k n some is =
    token_step b line bs (start.Found k n) is
    ∙ start_step (start.Found k n) b line bs refl (found_some b bs k n is).0
    ∙ ap (λ (l : ℕ). with_all (record { kind = k; spot = spot_at line (length (b ∷ bs)) } ∷ []) (tokens_from 0 l (drop n (b ∷ bs)))) (same_line line _ (subst (λ (f : Start). OnOneLine f (b ∷ bs)) is (start_on_one_line b bs)))

end_same : (us : List Token) (r : Result (List Token) Fault) (line : ℕ) → end_by (with_all us r) line ≡ end_by r line
end_same us (Ok ts) line = refl
end_same us (Err e) line = refl

-- what is ahead where a token stands: the token, and what is ahead behind it
pub token_ahead : (line : ℕ) (rest : List ℕ) (k : TokenKind) (n : ℕ) → 0 < length rest → start_of (slice_index rest 0) rest ≡ start.Found k n
    → with_next (Some (record { kind = k; spot = spot_at line (length rest) })) line (drop n rest) ≡ ahead_from line rest
token_ahead line [] k n some is = absurd (omega arith)
token_ahead line (b ∷ bs) k n some is =
    let t : Token = record { kind = k; spot = spot_at line (length (b ∷ bs)) } in
    let none : line_feeds (take n (b ∷ bs)) ≡ 0 = subst (λ (f : Start). OnOneLine f (b ∷ bs)) is (start_on_one_line b bs) in
    let tokens : tokens_before 0 line (b ∷ bs) ≡ t ∷ tokens_before 0 line (drop n (b ∷ bs)) = before_step b line bs (start.Found k n) is ∙ ap (λ (ts : List Token). t ∷ ts) (before_behind n b line bs (found_some b bs k n is).0 none) in
    let same : end_from line (b ∷ bs) ≡ end_from line (drop n (b ∷ bs)) =
    ap (λ (r : Result (List Token) Fault). end_by r (line_number (line_feeds (b ∷ bs) + line))) (token_goes line (b ∷ bs) k n some is)
    ∙ end_same (t ∷ []) (tokens_from 0 line (drop n (b ∷ bs))) (line_number (line_feeds (b ∷ bs) + line))
    ∙ ap (λ (m : ℕ). end_by (tokens_from 0 line (drop n (b ∷ bs))) (line_number (m + line))) (sym (feeds_behind n (b ∷ bs) none)) in
    sym (ap (λ (ts : List Token). let a : Ahead = record { tokens = ts; end = end_from line (b ∷ bs) } in a) tokens ∙ ap (λ (e : Result ℕ Fault). let a : Ahead = record { tokens = t ∷ tokens_before 0 line (drop n (b ∷ bs)); end = e } in a) same)

-- ---- where no token stands

pub end_behind : (next : Option Token) (line : ℕ) (rest : List ℕ) → (with_next next line rest).end ≡ end_from line rest
end_behind None line rest = refl
end_behind (Some t) line rest = refl

pub nothing_ahead : (line : ℕ) (rest : List ℕ) → length rest ≡ 0 → with_next None line rest ≡ ahead_from line rest
unfolding tokens_before
nothing_ahead line [] e = refl
nothing_ahead line (b ∷ bs) e = absurd (omega arith)

pub fault_ahead : (line : ℕ) (rest : List ℕ) (case : TextCase) → 0 < length rest → wrong (start_of (slice_index rest 0) rest) ≡ Some case → with_next None line rest ≡ ahead_from line rest
fault_ahead line [] case some bad = absurd (omega arith)
fault_ahead line (b ∷ bs) case some bad =
    ap (λ (ts : List Token). let a : Ahead = record { tokens = ts; end = end_from line (b ∷ bs) } in a) (sym (before_step b line bs (start.Wrong case) (wrong_is (start_of b (b ∷ bs)) case bad)))

-- what is left once a token is put in its place
pub record PutLeft (at : ℕ) (rest : List ℕ) (next : Option Token) (n : ℕ) : Type 0 where
  pub fits : n ≤ length rest
  pub ahead : with_next next at (drop n rest) ≡ ahead_from at rest
  pub stop : IsStop next (drop n rest)

pub put_left : (at : ℕ) (rest : List ℕ) (next : Option Token) (n : ℕ) → 0 < length rest → BeginsNoGap rest → IsPut n next (line_number at) (length rest) (start_of (slice_index rest 0) rest) → PutLeft at rest next n
put_left at rest None n some begins put = subst (λ (m : ℕ). PutLeft at rest None m) (sym put.0) (record {
  fits = omega arith;
  ahead = fault_ahead at rest put.1.0 some put.1.1;
  stop = (begins, λ _. put.1);
})
put_left at rest (Some t) n some begins put = record {
  fits = (found_size rest t.kind n some put.0).1;
  ahead =
      ap (λ (p : Spot). with_next (Some (record { kind = t.kind; spot = p })) at (drop n rest)) put.1
      ∙ token_ahead at rest t.kind n some put.0;
  stop = tt;
}

pub end_here : (line : ℕ) (rest : List ℕ) → length rest ≡ 0 → end_from line rest ≡ Ok (line_number line)
unfolding tokens_from
end_here line [] e = ap (λ (l : ℕ). let r : Result ℕ Fault = Ok (line_number l) in r) (omega arith)
end_here line (b ∷ bs) e = absurd (omega arith)

pub fault_here : (line : ℕ) (rest : List ℕ) (case : TextCase) → 0 < length rest → wrong (start_of (slice_index rest 0) rest) ≡ Some case
    → end_from line rest ≡ Err (record { case = case; spot = spot_at line (length rest) })
fault_here line [] case some bad = absurd (omega arith)
fault_here line (b ∷ bs) case some bad = ap (λ (r : Result (List Token) Fault). end_by r (line_number (line_feeds (b ∷ bs) + line))) (token_step b line bs (start.Wrong case) (wrong_is (start_of b (b ∷ bs)) case bad))

-- ---- where the tokens end

no_fault : (r : Result (List Token) Fault) (line n : ℕ) → end_by r line ≡ Ok n → (ts : List Token) × (r ≡ Ok ts)
no_fault (Ok ts) line n e = (ts, refl)
no_fault (Err d) line n e = absurd cc

-- those that were taken are all, if the text's end is reached
pub all_taken : (text : List ℕ) (xs left : List Token) (n : ℕ) → xs ++ left ≡ tokens_before 0 1 text → left ≡ [] → end_by (tokens_of text) (last_line text) ≡ Ok n → tokens_of text ≡ Ok xs
unfolding tokens_of
all_taken text xs left n before none end =
    let whole = no_fault (tokens_of text) (last_line text) n end in
    let same : whole.0 ≡ xs = sym (all_before 0 1 text whole.0 whole.1) ∙ sym before ∙ ap (λ (w : List Token). xs ++ w) none ∙ append-nil xs in
    whole.1 ∙ ap (λ (w : List Token). let r : Result (List Token) Fault = Ok w in r) same
