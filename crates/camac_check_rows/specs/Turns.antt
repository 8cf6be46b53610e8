-- The rows of a block that is judged once for each turn, as one: sums of what counts, the greatest of what one time can cost, all addresses.
use Rattle.std.specs.Prelude.{ℕ, zero, suc, ◌+◌, ◌-◌, max, List, [], ◌∷◌, Some, None}
use Rattle.camac_range.specs.Interval.{only, hull}
use Rattle.camac_model.specs.Fine.{Bounds}
use Rattle.camac_rules.specs.Costs.{costs, plus, Verdict}
use Rattle.camac_rules.specs.Joined.{join_region}
use Rattle.camac_rules.specs.Known.{Known, with_range}
use Rattle.camac_check_rows.specs.declared.row.Detail.{Detail}
use Rattle.camac_check_rows.specs.declared.row.Detail.TheVariants as detail
use Rattle.camac_check_rows.specs.declared.row.Row.{Row}
use Rattle.camac_check_rows.specs.Weights.{in_64_bits}

-- what two turns tell of one statement
abbrev pub wider : Detail → Detail → Detail
wider (detail.At g) (detail.At h) = detail.At (join_region g h)
wider (detail.Between g1 g2) (detail.Between h1 h2) = detail.Between (join_region g1 h1) (join_region g2 h2)
wider (detail.Crates r) (detail.Crates s) = detail.Crates (hull r s)
wider (detail.Turns m) (detail.Turns n) = detail.Turns (max m n)
wider detail.Nothing told = told
wider told other = told

-- the greater of each number
abbrev pub most_of : Bounds → Bounds → Bounds
most_of a b = costs (max a.cycles b.cycles) (max a.words b.words) (max a.steps b.steps)

abbrev pub merged : (Bounds → Bounds) → Row → Row → Row
merged limit a b = record {
  spot = a.spot;
  depth = a.depth;
  kind = a.kind;
  times = in_64_bits (a.times + b.times);
  each = most_of a.each b.each;
  share = limit (plus a.share b.share);
  detail = wider a.detail b.detail;
}

-- Row by row: the text of all turns is the same, and with it the number of rows.
abbrev pub merge : (Bounds → Bounds) → List Row → List Row → List Row
merge limit [] others = others
merge limit (r ∷ rs) [] = r ∷ rs
merge limit (r ∷ rs) (s ∷ ss) = merged limit r s ∷ merge limit rs ss

-- how many turns are reached, and their rows as one
pub record Turned : Type 0 where
  pub turns : ℕ
  pub rows : List Row

abbrev pub turned : ℕ → List Row → Turned
turned turns rows = record { turns = turns; rows = rows }

-- further turns, where the variable has this value in the next one, after those so far: each begins with what the one before has left
abbrev pub turns_over : (Bounds → Bounds) → (turns variable value : ℕ) → (Known → Verdict) → (Known → List Row) → Known → (so_far : Turned) → Turned
turns_over limit zero x v judge rows k so_far = so_far
turns_over limit (suc n) x v judge rows None so_far = so_far
turns_over limit (suc n) x v judge rows (Some q) so_far =
    turns_over limit n x (v + 1) judge rows (judge (Some (with_range x (only v) q))).after
    (turned (1 + so_far.turns) (merge limit so_far.rows (rows (Some (with_range x (only v) q)))))

-- all of them; with none the rows of what is not reached
abbrev pub each_turned : (Bounds → Bounds) → (variable first last : ℕ) → (Known → Verdict) → (Known → List Row) → Known → Turned
each_turned limit x v last judge rows k = turns_over limit (last + 1 - v) x v judge rows k (turned 0 (rows None))
