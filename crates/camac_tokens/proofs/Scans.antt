-- Laws of the scanner's definitions.
use Rattle.std.proofs.Common.{◌≡◌, ℕ, zero, suc, ◌+◌, ◌-◌, ◌*◌, ◌≤◌, ◌<◌, Bool, true, false, ◌&&◌, cond, ltb, eqb, count_by, fold, List, [], ◌∷◌, ◌++◌, length, take, drop, Option, Some, None, IsSome, Result, Ok, Err, refl, sym, ap, subst, ◌∙◌, length-drop, arith}
use Rattle.std.specs.Prelude.{take_while, slice_index}
use Rattle.std.specs.Char.{is_ascii_digit, is_ascii_alphabetic}
use Rattle.std.proofs.lemmas.Bool.{and_parts, eqb-true, le-ltb, lt-ltb}
use Rattle.std.proofs.lemmas.List.Sums.{take_while-cons, sum_by-cons}
use Rattle.camac_lang.specs.declared.spot.Spot.{Spot}
use Rattle.camac_tokens.specs.declared.token.Token.{Token}
use Rattle.camac_tokens.specs.declared.token.Keyword.{Keyword}
use Rattle.camac_tokens.specs.declared.token.Sign.{Sign}
use Rattle.camac_tokens.specs.declared.token.TokenKind.TheVariants as kind
use Rattle.camac_tokens.specs.Start.{Start}
use Rattle.camac_tokens.specs.Start as start
use Rattle.camac_tokens.specs.declared.fault.Limit.TheVariants.{NameBytes}
use Rattle.camac_tokens.specs.declared.fault.TextCase.{TextCase}
use Rattle.camac_tokens.specs.declared.fault.TextCase.TheVariants as text_case
use Rattle.camac_tokens.specs.Fault.{Fault}
use Rattle.camac_tokens.specs.Scanning.{is_name_byte, is_blank, is_no_line_feed, keyword_or, number_or_fault, pair_at, single_at, pair_or_single, start_of, wrong, decimal_value, tokens_from, tokens_by, with_first, line_after, spot_at}
use Rattle.camac_tokens.specs.Words.{keyword}

-- the bytes that a start takes, and the token that it adds
abbrev pub size : Start → ℕ
size (start.Gap n) = n
size (start.Found k n) = n
size (start.Wrong case) = 0

abbrev pub added : Start → Spot → List Token
added (start.Found k n) spot = record { kind = k; spot = spot } ∷ []
added _ spot = []

-- ---- the bytes at the start that pass a test

run_step : (b : Bool) (x : ℕ) (xs ys : List ℕ) → take (length ys) xs ≡ ys → take (length (cond b (x ∷ ys) [])) (x ∷ xs) ≡ cond b (x ∷ ys) []
run_step true x xs ys e = ap (λ (w : List ℕ). x ∷ w) e
run_step false x xs ys e = refl

pub take_run : (p : ℕ → Bool) (xs : List ℕ) → take (length (take_while p xs)) xs ≡ take_while p xs
take_run p [] = refl
take_run p (x ∷ xs) = subst (λ (w : List ℕ). take (length w) (x ∷ xs) ≡ w) (sym (take_while-cons p x xs)) (run_step (p x) x xs (take_while p xs) (take_run p xs))

run_short : (b : Bool) (x : ℕ) (n : ℕ) (ys : List ℕ) → length ys ≤ n → length (cond b (x ∷ ys) []) ≤ suc n
run_short true x n ys e = omega arith
run_short false x n ys e = omega arith

pub run_le : (p : ℕ → Bool) (xs : List ℕ) → length (take_while p xs) ≤ length xs
run_le p [] = omega arith
run_le p (x ∷ xs) = subst (λ (w : List ℕ). length w ≤ suc (length xs)) (sym (take_while-cons p x xs)) (run_short (p x) x (length xs) (take_while p xs) (run_le p xs))

pub run_some : (p : ℕ → Bool) (x : ℕ) (xs : List ℕ) → p x ≡ true → 0 < length (take_while p (x ∷ xs))
run_some p x xs e = subst (λ (w : List ℕ). 0 < length w) (sym (take_while-cons p x xs ∙ ap (λ (b : Bool). cond b (x ∷ take_while p xs) []) e)) (let some : 0 < length (x ∷ take_while p xs) = omega arith in some)

take_whole : (n : ℕ) (xs : List ℕ) → length xs ≤ n → take n xs ≡ xs
take_whole zero [] e = refl
take_whole zero (x ∷ xs) e = absurd (omega arith)
take_whole (suc n) [] e = refl
take_whole (suc n) (x ∷ xs) e = ap (λ (w : List ℕ). x ∷ w) (take_whole n xs (omega arith))

-- the bytes that a pattern of n leaves
behind : (n : ℕ) (xs : List ℕ) → n ≤ length xs → take (length xs - n) (drop n xs) ≡ drop n xs
behind n xs some = take_whole (length xs - n) (drop n xs) (omega (arith, length-drop n xs, some))

-- n bytes that pass are counted, and those behind them are left
pub run_on : (p : ℕ → Bool) (n count : ℕ) (text rest : List ℕ) → n ≤ length rest → length (take_while p rest) ≡ n + length (take_while p (drop n rest))
    → (count + length (take_while p rest) ≡ length (take_while p text)) × (count + length rest ≡ length text)
    → (count + n + length (take_while p (take (length rest - n) (drop n rest))) ≡ length (take_while p text)) × (count + n + length (take (length rest - n) (drop n rest)) ≡ length text)
run_on p n count text rest some run so_far =
    let more_run : count + n + length (take_while p (drop n rest)) ≡ length (take_while p text) = omega (arith, run, so_far.0) in
    let more_bytes : count + n + length (drop n rest) ≡ length text = omega (arith, length-drop n rest, some, so_far.1) in
    subst (λ (left : List ℕ). (count + n + length (take_while p left) ≡ length (take_while p text)) × (count + n + length left ≡ length text)) (sym (behind n rest some)) (more_run, more_bytes)

run_one : (p : ℕ → Bool) (x : ℕ) (xs : List ℕ) → p x ≡ true → take_while p (x ∷ xs) ≡ x ∷ take_while p xs
run_one p x xs e = take_while-cons p x xs ∙ ap (λ (b : Bool). cond b (x ∷ take_while p xs) []) e

-- four bytes that pass stand before the run of what follows them
pub run_of_four : (p : ℕ → Bool) (xs : List ℕ) → 4 ≤ length xs → (p (slice_index xs 0) && p (slice_index xs 1) && p (slice_index xs 2) && p (slice_index xs 3)) ≡ true
    → length (take_while p xs) ≡ 4 + length (take_while p (drop 4 xs))
run_of_four p (a ∷ b ∷ c ∷ d ∷ xs) four e =
    let fourth = and_parts (p a && p b && p c) (p d) e in
    let third = and_parts (p a && p b) (p c) fourth.0 in
    let second = and_parts (p a) (p b) third.0 in
    let runs : take_while p (a ∷ b ∷ c ∷ d ∷ xs) ≡ a ∷ b ∷ c ∷ d ∷ take_while p xs = rw (run_one p a (b ∷ c ∷ d ∷ xs) second.0, run_one p b (c ∷ d ∷ xs) second.1, run_one p c (d ∷ xs) third.1, run_one p d xs fourth.1) refl in
    let longer : length (a ∷ b ∷ c ∷ d ∷ take_while p xs) ≡ 4 + length (take_while p xs) = omega arith in
    ap length runs ∙ longer
run_of_four p [] four e = absurd (omega arith)
run_of_four p (a ∷ []) four e = absurd (omega arith)
run_of_four p (a ∷ b ∷ []) four e = absurd (omega arith)
run_of_four p (a ∷ b ∷ c ∷ []) four e = absurd (omega arith)

-- and eight
pub run_of_eight : (p : ℕ → Bool) (xs : List ℕ) → 8 ≤ length xs → (p (slice_index xs 0) && p (slice_index xs 1) && p (slice_index xs 2) && p (slice_index xs 3)) ≡ true
    → (p (slice_index xs 4) && p (slice_index xs 5) && p (slice_index xs 6) && p (slice_index xs 7)) ≡ true
    → length (take_while p xs) ≡ 8 + length (take_while p (drop 8 xs))
run_of_eight p (a ∷ b ∷ c ∷ d ∷ xs) eight e f =
    let four : 4 ≤ length (a ∷ b ∷ c ∷ d ∷ xs) = omega (arith, eight) in
    let more : 4 ≤ length xs = omega (arith, eight) in
    let front : length (take_while p (a ∷ b ∷ c ∷ d ∷ xs)) ≡ 4 + length (take_while p xs) = run_of_four p (a ∷ b ∷ c ∷ d ∷ xs) four e in
    let back : length (take_while p xs) ≡ 4 + length (take_while p (drop 4 xs)) = run_of_four p xs more f in
    omega (arith, front, back)
run_of_eight p [] eight e f = absurd (omega arith)
run_of_eight p (a ∷ []) eight e f = absurd (omega arith)
run_of_eight p (a ∷ b ∷ []) eight e f = absurd (omega arith)
run_of_eight p (a ∷ b ∷ c ∷ []) eight e f = absurd (omega arith)

-- a run that ends among the first k bytes, and one that does not
run_len : (p : ℕ → Bool) (x : ℕ) (xs : List ℕ) → length (take_while p (x ∷ xs)) ≡ cond (p x) (suc (length (take_while p xs))) 0
run_len p x xs = ap length (take_while-cons p x xs) ∙ by (p x) where
  by : (b : Bool) → length (cond b (x ∷ take_while p xs) []) ≡ cond b (suc (length (take_while p xs))) 0
  by true = refl
  by false = refl

ends_step : (b : Bool) (m n k : ℕ) → (n < k → m ≡ n) → cond b (suc n) 0 < suc k → cond b (suc m) 0 ≡ cond b (suc n) 0
ends_step true m n k same few = ap suc (same (omega (arith, few)))
ends_step false m n k same few = refl

pub run_ends : (k : ℕ) (p : ℕ → Bool) (xs : List ℕ) → length (take_while p (take k xs)) < k → length (take_while p xs) ≡ length (take_while p (take k xs))
run_ends zero p xs few = absurd (omega (arith, few))
run_ends (suc k) p [] few = refl
run_ends (suc k) p (x ∷ xs) few =
    run_len p x xs
    ∙ ends_step (p x) (length (take_while p xs)) (length (take_while p (take k xs))) k (run_ends k p xs) (subst (λ (n : ℕ). n < suc k) (run_len p x (take k xs)) few)
    ∙ sym (run_len p x (take k xs))

goes_step : (b : Bool) (m n k d : ℕ) → (k ≤ n → m ≡ k + d) → suc k ≤ cond b (suc n) 0 → cond b (suc m) 0 ≡ suc k + d
goes_step true m n k d on whole = let more : m ≡ k + d = on (omega (arith, whole)) in omega (arith, more)
goes_step false m n k d on whole = absurd (omega (arith, whole))

pub run_goes : (k : ℕ) (p : ℕ → Bool) (xs : List ℕ) → k ≤ length (take_while p (take k xs)) → length (take_while p xs) ≡ k + length (take_while p (drop k xs))
run_goes zero p xs whole = omega arith
run_goes (suc k) p [] whole = absurd (omega (arith, whole))
run_goes (suc k) p (x ∷ xs) whole =
    run_len p x xs
    ∙ goes_step (p x) (length (take_while p xs)) (length (take_while p (take k xs))) k (length (take_while p (drop k xs))) (run_goes k p xs) (subst (λ (n : ℕ). suc k ≤ n) (run_len p x (take k xs)) whole)

-- four bytes one by one
four_cases : (a b c d : Bool) → cond a (cond b (cond c (cond d 4 3) 2) 1) 0 ≡ cond a (suc (cond b (suc (cond c (suc (cond d 1 0)) 0)) 0)) 0
four_cases false b c d = refl
four_cases true false c d = refl
four_cases true true false d = refl
four_cases true true true false = refl
four_cases true true true true = refl

run_of : (p : ℕ → Bool) (a b c d : ℕ) → cond (p a) (cond (p b) (cond (p c) (cond (p d) 4 3) 2) 1) 0 ≡ length (take_while p (a ∷ b ∷ c ∷ d ∷ []))
run_of p a b c d =
    four_cases (p a) (p b) (p c) (p d)
    ∙ sym (run_len p a (b ∷ c ∷ d ∷ [])
    ∙ ap (λ (n : ℕ). cond (p a) (suc n) 0) (run_len p b (c ∷ d ∷ []) ∙ ap (λ (n : ℕ). cond (p b) (suc n) 0) (run_len p c (d ∷ []) ∙ ap (λ (n : ℕ). cond (p c) (suc n) 0) (run_len p d []))))

four_bytes : (xs : List ℕ) → 8 ≤ length xs → slice_index xs 0 ∷ slice_index xs 1 ∷ slice_index xs 2 ∷ slice_index xs 3 ∷ [] ≡ take 4 xs
four_bytes (a ∷ b ∷ c ∷ d ∷ xs) eight = refl
four_bytes [] eight = absurd (omega arith)
four_bytes (a ∷ []) eight = absurd (omega arith)
four_bytes (a ∷ b ∷ []) eight = absurd (omega arith)
four_bytes (a ∷ b ∷ c ∷ []) eight = absurd (omega arith)

next_four_bytes : (xs : List ℕ) → 8 ≤ length xs → slice_index xs 4 ∷ slice_index xs 5 ∷ slice_index xs 6 ∷ slice_index xs 7 ∷ [] ≡ take 4 (drop 4 xs)
next_four_bytes (a ∷ b ∷ c ∷ d ∷ e ∷ f ∷ g ∷ h ∷ xs) eight = refl
next_four_bytes [] eight = absurd (omega arith)
next_four_bytes (a ∷ []) eight = absurd (omega arith)
next_four_bytes (a ∷ b ∷ []) eight = absurd (omega arith)
next_four_bytes (a ∷ b ∷ c ∷ []) eight = absurd (omega arith)
next_four_bytes (a ∷ b ∷ c ∷ d ∷ []) eight = absurd (omega arith)
next_four_bytes (a ∷ b ∷ c ∷ d ∷ e ∷ []) eight = absurd (omega arith)
next_four_bytes (a ∷ b ∷ c ∷ d ∷ e ∷ f ∷ []) eight = absurd (omega arith)
next_four_bytes (a ∷ b ∷ c ∷ d ∷ e ∷ f ∷ g ∷ []) eight = absurd (omega arith)

-- how far a run goes among the first four of eight bytes, and among the next four
pub front_run : (p : ℕ → Bool) (xs : List ℕ) → 8 ≤ length xs
    → cond (p (slice_index xs 0)) (cond (p (slice_index xs 1)) (cond (p (slice_index xs 2)) (cond (p (slice_index xs 3)) 4 3) 2) 1) 0 ≡ length (take_while p (take 4 xs))
front_run p xs eight = run_of p _ _ _ _ ∙ ap (λ (ys : List ℕ). length (take_while p ys)) (four_bytes xs eight)

pub next_run : (p : ℕ → Bool) (xs : List ℕ) → 8 ≤ length xs
    → cond (p (slice_index xs 4)) (cond (p (slice_index xs 5)) (cond (p (slice_index xs 6)) (cond (p (slice_index xs 7)) 4 3) 2) 1) 0 ≡ length (take_while p (take 4 (drop 4 xs)))
next_run p xs eight = run_of p _ _ _ _ ∙ ap (λ (ys : List ℕ). length (take_while p ys)) (next_four_bytes xs eight)

-- ---- numbers

grows : (a : ℕ) (ys : List ℕ) → a ≤ fold (λ n d. 10 * n + (d - 48)) a ys
grows a [] = omega arith
grows a (y ∷ ys) = let more : 10 * a + (y - 48) ≤ fold (λ n d. 10 * n + (d - 48)) (10 * a + (y - 48)) ys = grows (10 * a + (y - 48)) ys in omega arith

-- ---- the size of what stands at the start

abbrev pub Sized : Start → ℕ → Type 0
Sized f len = wrong f ≡ None → (0 < size f) × (size f ≤ len)

sized_if : (b : Bool) (f g : Start) (len : ℕ) → (b ≡ true → Sized f len) → (b ≡ false → Sized g len) → Sized (cond b f g) len
sized_if true f g len on off = on refl
sized_if false f g len on off = off refl

sized_keyword : (k : Option Keyword) (text : List ℕ) (len : ℕ) → 0 < length text → length text ≤ len → Sized (keyword_or k text) len
sized_keyword (Some w) text len some fits = λ e. (some, fits)
sized_keyword None text len some fits = sized_if (ltb 32 (length text)) _ _ len (λ _ e. absurd cc) (λ _ e. (some, fits))

sized_sign : (p q : Option Sign) (len : ℕ) → (IsSome p → 2 ≤ len) → 0 < len → Sized (pair_or_single p q) len
sized_sign (Some w) q len two some = λ e. (omega arith, two refl)
sized_sign None (Some w) len two some = λ e. (omega arith, omega arith)
sized_sign None None len two some = λ e. absurd cc

pair_long : (bytes : List ℕ) → IsSome (pair_at bytes) → 2 ≤ length bytes
pair_long [] e = absurd cc
pair_long (a ∷ []) e = absurd cc
pair_long (a ∷ b ∷ bs) e = omega arith

pub name_begins : (b : ℕ) → is_ascii_alphabetic b ≡ true → is_name_byte b ≡ true
name_begins b e = rw e refl

pub sized_start : (b : ℕ) (bs : List ℕ) → Sized (start_of b (b ∷ bs)) (length (b ∷ bs))
unfolding start_of
sized_start b bs =
    let bytes : List ℕ = b ∷ bs in
    let len = length (b ∷ bs) in
    sized_if (is_blank b) _ _ len (λ _ e. (omega arith, omega arith)) (λ _.
    sized_if (eqb b 35) _ _ len (λ is e. (run_some is_no_line_feed b bs (subst (λ (c : ℕ). is_no_line_feed c ≡ true) (sym (eqb-true b 35 is)) refl), run_le is_no_line_feed (b ∷ bs))) (λ _.
    sized_if (is_ascii_alphabetic b) _ _ len (λ is. sized_keyword (keyword (take_while is_name_byte (b ∷ bs))) (take_while is_name_byte (b ∷ bs)) len (run_some is_name_byte b bs (name_begins b is)) (run_le is_name_byte (b ∷ bs))) (λ _.
    sized_if (is_ascii_digit b) _ _ len (λ is. sized_if (ltb (decimal_value (take_while is_ascii_digit (b ∷ bs))) 4294967296) _ _ len (λ _ e. (run_some is_ascii_digit b bs is, run_le is_ascii_digit (b ∷ bs))) (λ _ e. absurd cc)) (λ _.
    sized_sign (pair_at (b ∷ bs)) (single_at (b ∷ bs)) len (pair_long (b ∷ bs)) (omega arith)))))

-- ---- what is wrong at the start

abbrev FaultIs : Start → TextCase → Type 0
FaultIs f told = (case : TextCase) → wrong f ≡ Some case → wrong f ≡ Some told

fault_if : (b : Bool) (f g : Start) (s t : TextCase) → FaultIs f s → FaultIs g t → FaultIs (cond b f g) (cond b s t)
fault_if true f g s t one other = one
fault_if false f g s t one other = other

fault_either : (b : Bool) (f g : Start) (s : TextCase) → FaultIs f s → FaultIs g s → FaultIs (cond b f g) s
fault_either true f g s one other = one
fault_either false f g s one other = other

fault_word : (k : Option Keyword) (text : List ℕ) → FaultIs (keyword_or k text) (text_case.Limit NameBytes)
fault_word (Some w) text = λ case e. absurd cc
fault_word None text = fault_either (ltb 32 (length text)) _ _ (text_case.Limit NameBytes) (λ case e. refl) (λ case e. absurd cc)

pub name_wrong : (text : List ℕ) → keyword text ≡ None → 32 < length text → wrong (keyword_or (keyword text) text) ≡ Some (text_case.Limit NameBytes)
name_wrong text none long = let over : ltb 32 (length text) ≡ true = lt-ltb 32 (length text) long in rw none (rw over refl)

too_large : (digits : List ℕ) → 4294967295 < decimal_value digits → wrong (number_or_fault digits) ≡ Some (text_case.Number 4294967295)
too_large digits above =
    let off : ltb (decimal_value digits) 4294967296 ≡ false = le-ltb _ _ (omega (arith, above)) in
    rw off refl

-- a number is too large once its first digits are
pub first_too_large : (v : ℕ) (text rest : List ℕ) → 0 < length rest → is_ascii_digit (slice_index rest 0) ≡ true
    → fold (λ n d. 10 * n + (d - 48)) v (take_while is_ascii_digit rest) ≡ decimal_value (take_while is_ascii_digit text) → 4294967295 < v * 10 + (slice_index rest 0 - 48)
    → wrong (number_or_fault (take_while is_ascii_digit text)) ≡ Some (text_case.Number 4294967295)
first_too_large v text [] some is e above = absurd (omega (arith, some))
first_too_large v text (d ∷ ds) some is e above =
    let next : ℕ = 10 * v + (d - 48) in
    let at : fold (λ n d. 10 * n + (d - 48)) next (take_while is_ascii_digit ds) ≡ decimal_value (take_while is_ascii_digit text) = ap (λ (run : List ℕ). fold (λ n d. 10 * n + (d - 48)) v run) (sym (run_one is_ascii_digit d ds is)) ∙ e in
    let more : next ≤ fold (λ n d. 10 * n + (d - 48)) next (take_while is_ascii_digit ds) = grows next (take_while is_ascii_digit ds) in
    too_large (take_while is_ascii_digit text) (omega (arith, at, more, above))

-- a digit before what is none
pub one_digit : (text : List ℕ) → 2 ≤ length text → is_ascii_digit (slice_index text 0) ≡ true → is_ascii_digit (slice_index text 1) ≡ false → slice_index text 0 - 48 < 4294967296
    → number_or_fault (take_while is_ascii_digit text) ≡ start.Found (kind.Number (slice_index text 0 - 48)) 1
one_digit [] two digit ends small = absurd (omega (arith, two))
one_digit (d ∷ []) two digit ends small = absurd (omega (arith, two))
one_digit (d ∷ b ∷ bs) two digit ends small =
    let none : take_while is_ascii_digit (b ∷ bs) ≡ [] = take_while-cons is_ascii_digit b bs ∙ ap (λ (t : Bool). cond t (b ∷ take_while is_ascii_digit bs) []) ends in
    let run : take_while is_ascii_digit (d ∷ b ∷ bs) ≡ d ∷ [] = run_one is_ascii_digit d (b ∷ bs) digit ∙ ap (λ (ds : List ℕ). d ∷ ds) none in
    let value : decimal_value (d ∷ []) ≡ d - 48 = omega arith in
    ap number_or_fault run
    ∙ ap (λ (n : ℕ). cond (ltb n 4294967296) (start.Found (kind.Number n) 1) (start.Wrong (text_case.Number 4294967295))) value
    ∙ ap (λ (t : Bool). cond t (start.Found (kind.Number (d - 48)) 1) (start.Wrong (text_case.Number 4294967295))) (lt-ltb (d - 48) 4294967296 small)

fault_sign : (p q : Option Sign) → FaultIs (pair_or_single p q) text_case.Byte
fault_sign (Some w) q = λ case e. absurd cc
fault_sign None (Some w) = λ case e. absurd cc
fault_sign None None = λ case e. refl

pub fault_of : (b : ℕ) (bytes : List ℕ) → FaultIs (start_of b bytes) (cond (is_ascii_alphabetic b) (text_case.Limit NameBytes) (cond (is_ascii_digit b) (text_case.Number 4294967295) text_case.Byte))
unfolding start_of
fault_of b bytes =
    let case : TextCase = cond (is_ascii_alphabetic b) (text_case.Limit NameBytes) (cond (is_ascii_digit b) (text_case.Number 4294967295) text_case.Byte) in
    fault_either (is_blank b) _ _ case (λ _ e. absurd cc) (
    fault_either (eqb b 35) _ _ case (λ _ e. absurd cc) (
    fault_if (is_ascii_alphabetic b) _ _ _ _ (fault_word (keyword (take_while is_name_byte bytes)) (take_while is_name_byte bytes)) (
    fault_if (is_ascii_digit b) _ _ _ _ (fault_either (ltb (decimal_value (take_while is_ascii_digit bytes)) 4294967296) _ _ (text_case.Number 4294967295) (λ _ e. absurd cc) (λ _ e. refl)) (
    fault_sign (pair_at bytes) (single_at bytes)))))

-- ---- the rest of a text

abbrev pub line_feeds : List ℕ → ℕ
line_feeds bytes = count_by (λ b. eqb b 10) bytes

pub feeds-cons : (b : ℕ) (bs : List ℕ) → line_feeds (b ∷ bs) ≡ cond (eqb b 10) 1 0 + line_feeds bs
feeds-cons b bs = sum_by-cons (λ y. cond (eqb y 10) 1 0) b bs

pub lines_step : (t : Bool) (line c : ℕ) → cond t (line + 1) line + c ≡ line + (cond t 1 0 + c)
lines_step true line c = omega arith
lines_step false line c = omega arith

-- what is read after bytes that belong to what stands before them begins behind these
pub skip : {A : Type 0} (read : ℕ → ℕ → List ℕ → A) → ((n line m : ℕ) → read n line [] ≡ read 0 m []) → ((n line b : ℕ) (bs : List ℕ) → read (suc n) line (b ∷ bs) ≡ read n (line_after line b) bs)
    → (n line : ℕ) (bs : List ℕ) → read n line bs ≡ read 0 (line + line_feeds (take n bs)) (drop n bs)
skip read none step zero line bs = ap (λ (l : ℕ). read 0 l bs) (omega arith)
skip read none step (suc n) line [] = none (suc n) line (line + 0)
skip read none step (suc n) line (b ∷ bs) = step n line b bs ∙ skip read none step n (line_after line b) bs ∙ ap (λ (l : ℕ). read 0 l (drop n bs)) (lines_step (eqb b 10) line (line_feeds (take n bs)) ∙ ap (λ (k : ℕ). line + k) (sym (feeds-cons b (take n bs))))

skip_tokens : (n line : ℕ) (bs : List ℕ) → tokens_from n line bs ≡ tokens_from 0 (line + line_feeds (take n bs)) (drop n bs)
unfolding tokens_from
skip_tokens n line bs = skip tokens_from (λ m l k. refl) (λ m l b cs. refl) n line bs

abbrev pub with_all : List Token → Result (List Token) Fault → Result (List Token) Fault
with_all start (Ok ts) = Ok (start ++ ts)
with_all start (Err e) = Err e

first_all : (t : Token) (r : Result (List Token) Fault) → with_first t r ≡ with_all (t ∷ []) r
first_all t (Ok ts) = refl
first_all t (Err e) = refl

pub none_all : (r : Result (List Token) Fault) → r ≡ with_all [] r
none_all (Ok ts) = refl
none_all (Err e) = refl

-- one step over what stands at the start
pub start_step : (f : Start) (b line : ℕ) (bs : List ℕ) → wrong f ≡ None → 0 < size f → tokens_by f (spot_at line (length (b ∷ bs))) (λ n. tokens_from n (line_after line b) bs) ≡ with_all (added f (spot_at line (length (b ∷ bs)))) (tokens_from 0 (line + line_feeds (take (size f) (b ∷ bs))) (drop (size f) (b ∷ bs)))
unfolding tokens_from
start_step (start.Gap zero) b line bs good some = absurd (omega arith)
start_step (start.Gap (suc n)) b line bs good some = ap (λ (k : ℕ). tokens_from k (line_after line b) bs) (omega arith) ∙ skip_tokens (suc n) line (b ∷ bs) ∙ none_all _
start_step (start.Found k zero) b line bs good some = absurd (omega arith)
start_step (start.Found k (suc n)) b line bs good some = ap (λ (m : ℕ). with_first (record { kind = k; spot = spot_at line (length (b ∷ bs)) }) (tokens_from m (line_after line b) bs)) (omega arith) ∙ ap (with_first (record { kind = k; spot = spot_at line (length (b ∷ bs)) })) (skip_tokens (suc n) line (b ∷ bs)) ∙ first_all _ _
start_step (start.Wrong case) b line bs good some = absurd cc

pub wrong_is : (f : Start) (case : TextCase) → wrong f ≡ Some case → f ≡ start.Wrong case
wrong_is (start.Wrong c) case e = ap start.Wrong cc
wrong_is (start.Gap n) case e = absurd cc
wrong_is (start.Found k n) case e = absurd cc

pub some_left : (n : ℕ) → eqb n 0 ≡ false → 0 < n
some_left zero e = absurd cc
some_left (suc n) e = omega arith
