-- The counts of loops, and the numbers of an `each`.
use Rattle.std.proofs.Common.{◌≡◌, ℕ, zero, suc, ◌+◌, ◌-◌, ◌*◌, ◌^◌, ◌<◌, ◌≤◌, Ok, Err, sym, ap, ◌∙◌, ⊎_elim, arith, true}
use Rattle.std.proofs.Math.Nat.{mul-le-mul_left}
use Rattle.std.proofs.lemmas.Bool.{cases_lt, le-leb, lt-leb}
use Rattle.std.specs.Prelude.{min, ◌&&◌, nat_le}
use Rattle.camac_lang.specs.declared.spot.Spot.{Spot}
use Rattle.camac_rules.specs.declared.case.Body.{Body}
use Rattle.camac_rules.specs.declared.case.Case.TheVariants.{Judged}
use Rattle.camac_rules.specs.declared.rule.CheckRule.TheVariants.{TooManyTurns}
use Rattle.camac_rules.specs.Cases.{judged_case}
use Rattle.camac_rules.specs.EachLimit.{judged_limit}
use Rattle.camac_rules.specs.Fault.{broken}
use Rattle.camac_rules.specs.Refusal.{go_on, required}
use Rattle.camac_check_loops.specs.Counting.{counted}
use Rattle.camac_range.specs.Number.{greatest}

-- Counts that stay at the greatest number of 64 bits.

-- so many times a number that is cut
pub scaled : (t n k : ℕ) → min (t * min n k) k ≡ min (t * n) k
scaled zero n k = omega arith
scaled (suc t) n k =
    ⊎_elim
    (λ above.
    let all : k ≤ k + t * k = omega arith in
    let more : t * k ≤ t * n = mul-le-mul_left t (omega arith) in
    let cut' : min n k ≡ k = omega arith in
    let left : suc t * min n k ≡ k + t * k = ap (λ m. suc t * m) cut' ∙ suc_times t k in
    let right : suc t * n ≡ n + t * n = suc_times t n in
    omega (arith, left, right))
    (λ below. let same : min n k ≡ n = omega arith in ap (λ m. min (suc t * m) k) same)
    (cases_lt k n)
  where
    suc_times : (t n : ℕ) → suc t * n ≡ n + t * n
    suc_times t n = omega arith

-- the turns of an `each` after what was counted
pub turns_cut : (before turns n k : ℕ) → min (before + min (turns * min (min n k + 1) k) k) k ≡ min (before + turns * (1 + n)) k
turns_cut before turns n k =
    let inner : min (min n k + 1) k ≡ min (1 + n) k = omega arith in
    let outer = ap (λ m. min (turns * m) k) inner ∙ scaled turns (1 + n) k in
    omega (arith, outer)

-- a sum of 64 bits before the limit, and past it
pub below_limit : (place : Body) (spot : Spot) (needed n : ℕ) → needed ≡ min n (2 ^ 64 - 1) → needed ≤ 65536 → counted place spot n ≡ Ok needed
unfolding go_on required
below_limit place spot needed n e le =
    let small : n ≤ judged_limit = omega (arith, e, le) in
    let same : n ≡ needed = omega (arith, e, le) in
    ap (λ b. go_on (required b TooManyTurns spot (judged_case place n judged_limit)) (λ _. Ok n)) (le-leb n judged_limit small) ∙ ap (λ m. Ok m) same

pub past_limit : (place : Body) (spot : Spot) (needed n : ℕ) → needed ≡ min n (2 ^ 64 - 1) → 65536 < needed → counted place spot n ≡ Err (broken TooManyTurns spot (Judged place needed 65536))
unfolding go_on required
past_limit place spot needed n e lt =
    let large : judged_limit < n = omega (arith, e, lt) in
    ap (λ b. go_on (required b TooManyTurns spot (judged_case place n judged_limit)) (λ _. Ok n)) (lt-leb n judged_limit large)
    ∙ ap (λ m. Err (broken TooManyTurns spot (Judged place m 65536))) (sym e)

-- The numbers of an `each` are those of code.

pub numbers_fit : (v last : ℕ) → v < 2 ^ 32 → last < 2 ^ 32 → (nat_le v greatest && nat_le last greatest) ≡ true
numbers_fit v last a b =
    let v_fits : v ≤ greatest = omega (arith, a) in
    let last_fits : last ≤ greatest = omega (arith, b) in
    ap (λ t. t && nat_le last greatest) (le-leb v greatest v_fits) ∙ le-leb last greatest last_fits
