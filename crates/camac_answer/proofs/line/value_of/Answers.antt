use Rattle.std.proofs.Common.{◌≡◌, ℕ, zero, suc, ◌-◌, ◌<◌, ◌≤◌, ◌^◌, Bool, true, ◌&&◌, [], T, eqb, leb, get_or, inl, inr, eq-zero-or-pos, eqb→eq, leb→le, arith}
use lib.Ieee.Fits.{and_l, and_r}
use Rattle.camac_answer.specs.Lines.{digit_number}
use Rattle.camac_answer.specs.declared.line.TheConstants.{VALUES}
use Rattle.camac_answer.proofs.line.value_of.Goals as goal

-- what a table has for a byte
abbrev entry : ℕ → ℕ → ℕ
entry place b = get_or (get_or VALUES place []) b 0

abbrev are_numbers : (place bytes : ℕ) → Bool
are_numbers place zero = true
are_numbers place (suc b) = (eqb (entry place b) (digit_number (16 ^ (5 - place)) b) && leb (entry place b) (2 ^ 24)) && are_numbers place b

abbrev tables_are : ℕ → Bool
tables_are zero = true
tables_are (suc place) = are_numbers place 256 && tables_are place

abbrev IsEntry : ℕ → ℕ → Type 0
IsEntry place b = (entry place b ≡ digit_number (16 ^ (5 - place)) b) × (entry place b ≤ 2 ^ 24)

below : (place n b : ℕ) → T (are_numbers place n) → b < n → IsEntry place b
below place zero b t h = absurd (omega arith)
below place (suc n) b t h =
    elim (eq-zero-or-pos (n - b)) [
      | inl z ↦
          let e : b ≡ n = omega arith in
          let both = and_l _ (are_numbers place n) t in
          rw e (eqb→eq _ _ (and_l _ _ both), leb→le _ _ (and_r _ _ both))
      | inr g ↦ below place n b (and_r _ (are_numbers place n) t) (omega arith)
    ]

table : (n place : ℕ) → T (tables_are n) → place < n → T (are_numbers place 256)
table zero place t h = absurd (omega arith)
table (suc n) place t h =
    elim (eq-zero-or-pos (n - place)) [
      | inl z ↦ let e : place ≡ n = omega arith in rw e (and_l _ (tables_are n) t)
      | inr g ↦ table n place (and_r _ (tables_are n) t) (omega arith)
    ]

in_table : (place b : ℕ) → place < 6 → b < 256 → IsEntry place b
in_table place b few h = below place 256 b (table 6 place tt few) h

pub returns-clause-value : goal.returns-clause-value
returns-clause-value c = (in_table c.args.place c.args.digit c.requires (omega (arith, c.ranges.digit))).0

pub returns-clause-most : goal.returns-clause-most
returns-clause-most c = (in_table c.args.place c.args.digit c.requires (omega (arith, c.ranges.digit))).1
