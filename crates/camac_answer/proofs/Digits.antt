-- The number that six digits spell, and what it is where one of them is none.
use Rattle.std.proofs.Common.{◌≡◌, ℕ, zero, suc, ◌+◌, ◌*◌, ◌^◌, ◌≤◌, ◌<◌, List, [], ◌∷◌, length, slice_index, subst, Option, Some, None, Result, Ok, Err, refl, sym, ap, ◌∙◌, arith, ◌⊎◌, inl, inr}
use Rattle.hex.specs.Hex.{decode_pairs, digit_or_error, hex_digit_value, pair_value, ◌>>=◌}
use Rattle.hex.specs.declared.error.FromHexError.{FromHexError}
use Rattle.camac_answer.specs.declared.fault.AnswerRule.{AnswerRule}
use Rattle.camac_answer.specs.declared.fault.AnswerRule.TheVariants.{BadDigit}
use Rattle.camac_answer.specs.Lines.{number_in, word_at, wait_at, digit_in, worth, digit_number}

ok_or_err : {w : ℕ} → Err BadDigit ≡ Ok w → ⊥
ok_or_err h = cc h

abbrev IsSmall : Option ℕ → Type 0
IsSmall None = Unit {0}
IsSmall (Some v) = v < 16

small_from : (o : Option ℕ) → ((v : ℕ) → o ≡ Some v → v < 16) → IsSmall o
small_from None h = tt
small_from (Some v) h = h v refl

value_below : (b v : ℕ) → hex_digit_value b ≡ Some v → v < 16
value_below b v h = grind (arith)

-- a digit is below 16
small : (b : ℕ) → IsSmall (hex_digit_value b)
small b = small_from (hex_digit_value b) (value_below b)

waits : (o : Option ℕ) (n : ℕ) → n ≡ worth 1 o → n ≤ 15 → digit_in o ≡ Ok n
waits None n e few = absurd (omega (arith, e, few))
waits (Some v) n e few = ap Ok (omega (arith, e))

waits_not : (o : Option ℕ) → IsSmall o → 15 < worth 1 o → digit_in o ≡ Err BadDigit
waits_not None s more = refl
waits_not (Some v) s more = absurd (omega (arith, s, more))

-- a wait that is a digit
pub wait_spelled : (b n : ℕ) → n ≡ digit_number 1 b → n ≤ 15 → wait_at b ≡ Ok n
wait_spelled b n e few = waits (hex_digit_value b) n e few

pub wait_unspelled : (b : ℕ) → 15 < digit_number 1 b → wait_at b ≡ Err BadDigit
wait_unspelled b more = waits_not (hex_digit_value b) (small b) more

-- what two digits are read as, and their number, where they count so much
abbrev IsPair : (high low : ℕ) → Result ℕ FromHexError → ℕ → Type 0
IsPair high low read n =
    ((h l : ℕ) × (read ≡ Ok (h * 16 + l)) × (h < 16) × (l < 16) × (n ≡ h * high + l * low)) ⊎ ((e : FromHexError) × (read ≡ Err e) × (2 ^ 24 ≤ n))

pair_is : (high low a b i : ℕ) (one other : Option ℕ) → IsSmall one → IsSmall other
    → IsPair high low (digit_or_error a i one >>= λ h. digit_or_error b (i + 1) other >>= λ l. Ok (h * 16 + l)) (worth high one + worth low other)
pair_is high low a b i (Some h) (Some l) small_high small_low = inl (h, l, refl, small_high, small_low, refl)
pair_is high low a b i (Some h) None small_high small_low = inr (_, refl, omega arith)
pair_is high low a b i None other small_high small_low = inr (_, refl, omega arith)

is_pair : (high low a b i : ℕ) → IsPair high low (pair_value a b i) (digit_number high a + digit_number low b)
is_pair high low a b i = pair_is high low a b i (hex_digit_value a) (hex_digit_value b) (small a) (small b)

-- what three pairs are read as, and their number
abbrev pub IsWord : Result ℕ AnswerRule → ℕ → Type 0
IsWord read n = ((read ≡ Ok n) × (n < 2 ^ 24)) ⊎ ((read ≡ Err BadDigit) × (2 ^ 24 ≤ n))

abbrev three : Result ℕ FromHexError → Result ℕ FromHexError → Result ℕ FromHexError → Result ℕ AnswerRule
three x y z = number_in (x >>= λ p. (y >>= λ q. (z >>= λ r. Ok (r ∷ [])) >>= λ bytes. Ok (q ∷ bytes)) >>= λ bytes. Ok (p ∷ bytes))

three_are : (x y z : Result ℕ FromHexError) (p q r : ℕ) → IsPair 0x100000 0x10000 x p → IsPair 0x1000 0x100 y q → IsPair 0x10 1 z r → IsWord (three x y z) (p + q + r)
three_are x y z p q r (inl (h, l, ex, hx, lx, nx)) (inl (h', l', ey, hy, ly, ny)) (inl (h'', l'', ez, hz, lz, nz)) =
    inl (rw (ex, ey, ez) (ap Ok (omega (arith, nx, ny, nz))), omega (arith, hx, lx, nx, hy, ly, ny, hz, lz, nz))
three_are x y z p q r (inl (h, l, ex, hx, lx, nx)) (inl (h', l', ey, hy, ly, ny)) (inr cz) = inr (rw (ex, ey, cz.1) refl, omega (arith, cz.2))
three_are x y z p q r (inl (h, l, ex, hx, lx, nx)) (inr cy) cz = inr (rw (ex, cy.1) refl, omega (arith, cy.2))
three_are x y z p q r (inr cx) cy cz = inr (rw (cx.1) refl, omega (arith, cx.2))

small_six : (read : Result ℕ AnswerRule) (n w : ℕ) → IsWord read n → read ≡ Ok w → n < 2 ^ 24
small_six read n w (inl c) h = c.1
small_six read n w (inr c) h = absurd (ok_or_err (sym c.0 ∙ h))

-- the number that six digits spell
abbrev pub six : ℕ → ℕ → ℕ → ℕ → ℕ → ℕ → ℕ
six a b c d e f = digit_number 0x100000 a + digit_number 0x10000 b + digit_number 0x1000 c + digit_number 0x100 d + digit_number 0x10 e + digit_number 1 f

pub is_word : (a b c d e f : ℕ) → IsWord (word_at (a ∷ b ∷ c ∷ d ∷ e ∷ f ∷ [])) (six a b c d e f)
unfolding decode_pairs
is_word a b c d e f =
    subst (λ (n : ℕ). IsWord (word_at (a ∷ b ∷ c ∷ d ∷ e ∷ f ∷ [])) n) (omega arith)
    (three_are (pair_value a b 0) (pair_value c d 2) (pair_value e f 4) _ _ _ (is_pair 0x100000 0x10000 a b 0) (is_pair 0x1000 0x100 c d 2) (is_pair 0x10 1 e f 4))

-- a list from its elements
abbrev pub from_place : ℕ → ℕ → List ℕ → List ℕ
from_place i zero l = []
from_place i (suc n) l = slice_index l i ∷ from_place (suc i) n l

shifted : (i n x : ℕ) (xs : List ℕ) → from_place (suc i) n (x ∷ xs) ≡ from_place i n xs
shifted i zero x xs = refl
shifted i (suc n) x xs = ap (λ (l : List ℕ). slice_index xs i ∷ l) (shifted (suc i) n x xs)

pub listed : (n : ℕ) (l : List ℕ) → length l ≡ n → from_place 0 n l ≡ l
listed zero [] e = refl
listed zero (x ∷ xs) e = absurd (omega (arith, e))
listed (suc n) [] e = absurd (omega (arith, e))
listed (suc n) (x ∷ xs) e =
    let less : length xs ≡ n = omega (arith, e) in
    ap (λ (l : List ℕ). x ∷ l) (shifted 0 n x xs ∙ listed n xs less)

abbrev pub six_in : List ℕ → ℕ
six_in l = six (slice_index l 0) (slice_index l 1) (slice_index l 2) (slice_index l 3) (slice_index l 4) (slice_index l 5)

word_in : (l : List ℕ) → length l ≡ 6 → IsWord (word_at l) (six_in l)
word_in l e = subst (λ (ds : List ℕ). IsWord (word_at ds) (six_in l)) (listed 6 l e) (is_word _ _ _ _ _ _)

spelled : (read : Result ℕ AnswerRule) (n : ℕ) → IsWord read n → n < 2 ^ 24 → read ≡ Ok n
spelled read n (inl w) less = w.0
spelled read n (inr w) less = absurd (omega (arith, w.1, less))

unspelled : (read : Result ℕ AnswerRule) (n : ℕ) → IsWord read n → 2 ^ 24 ≤ n → read ≡ Err BadDigit
unspelled read n (inl w) most = absurd (omega (arith, w.1, most))
unspelled read n (inr w) most = w.0

-- six digits
pub word_spelled : (l : List ℕ) (n : ℕ) → length l ≡ 6 → n ≡ six_in l → n < 2 ^ 24 → word_at l ≡ Ok n
word_spelled l n e same less = spelled (word_at l) n (rw same (word_in l e)) less

-- five at most
pub word_unspelled : (l : List ℕ) (n : ℕ) → length l ≡ 6 → n ≡ six_in l → 2 ^ 24 ≤ n → word_at l ≡ Err BadDigit
word_unspelled l n e same most = unspelled (word_at l) n (rw same (word_in l e)) most

-- what spells a word is below six digits' greatest
pub word_small : (a b c d e f w : ℕ) → word_at (a ∷ b ∷ c ∷ d ∷ e ∷ f ∷ []) ≡ Ok w → six a b c d e f < 2 ^ 24
word_small a b c d e f w h = small_six (word_at (a ∷ b ∷ c ∷ d ∷ e ∷ f ∷ [])) (six a b c d e f) w (is_word a b c d e f) h
