-- How often what stands in a block counts for one time of its statement.
use Rattle.std.specs.Prelude.{ℕ, ◌+◌, ◌*◌, ◌-◌, ◌^◌, min, nat_eq, nat_lt, nat_le, if◌then◌else◌}
use Rattle.camac_model.specs.Fine.{Bounds}
use Rattle.camac_rules.specs.Costs.{costs, no_costs}
use Rattle.camac_check_rows.specs.declared.inside.Level.{Level}
use Rattle.camac_check_rows.specs.declared.inside.Weight.{Weight}
use Rattle.camac_check_rows.specs.declared.row.Row.{Row}

abbrev pub weight : (times cycles words steps : ℕ) → Weight
weight times cycles words steps = record { times = times; cycles = cycles; words = words; steps = steps }

abbrev pub once : Weight
once = weight 1 1 1 1

-- in a loop
abbrev pub turning : ℕ → Weight
turning turns = weight turns turns turns turns

-- Of a choice the arm with the greater number counts, for each number by itself; the first where both are alike.
abbrev pub first_arm : Bounds → Bounds → Weight
first_arm a b = weight 1
    (if nat_le b.cycles a.cycles then 1 else 0)
    (if nat_le b.words a.words then 1 else 0)
    (if nat_le b.steps a.steps then 1 else 0)

abbrev pub second_arm : Bounds → Bounds → Weight
second_arm a b = weight 1
    (if nat_lt a.cycles b.cycles then 1 else 0)
    (if nat_lt a.words b.words then 1 else 0)
    (if nat_lt a.steps b.steps then 1 else 0)

-- a number of the code, which stays at the greatest
abbrev pub in_64_bits : ℕ → ℕ
in_64_bits n = min n (2 ^ 64 - 1)

abbrev pub weighed : Weight → Bounds → Bounds
weighed w share = costs (w.cycles * share.cycles) (w.words * share.words) (w.steps * share.steps)

-- so many blocks deeper, all of which are made so often
abbrev pub level : (deeper : ℕ) → Weight → Level
level deeper w = record { deeper = deeper; weight = w }

-- a row at a level
abbrev pub laid_row : (Bounds → Bounds) → Level → Row → Row
laid_row limit l r = record {
  spot = r.spot;
  depth = in_64_bits (l.deeper + r.depth);
  kind = r.kind;
  times = in_64_bits (l.weight.times * r.times);
  each = if nat_eq l.weight.times 0 then no_costs else r.each;
  share = limit (weighed l.weight r.share);
  detail = r.detail;
}

-- a row of a block as one of its statement
abbrev pub inside_row : (Bounds → Bounds) → Weight → Row → Row
inside_row limit w r = laid_row limit (level 1 w) r
