-- What statements can cost, in numbers of any size, and what a statement is found to leave and cost.
use Rattle.std.specs.Prelude.{ℕ, ◌+◌, ◌*◌, None, max}
use Rattle.camac_model.specs.Fine.{Bounds}
use Rattle.camac_rules.specs.Known.{Known}

abbrev pub costs : (cycles words steps : ℕ) → Bounds
costs cycles words steps = record { cycles = cycles; words = words; steps = steps }

abbrev pub no_costs : Bounds
no_costs = costs 0 0 0

-- one after the other
abbrev pub plus : Bounds → Bounds → Bounds
plus a b = costs (a.cycles + b.cycles) (a.words + b.words) (a.steps + b.steps)

-- a step, and the greater arm
abbrev pub choice_costs : Bounds → Bounds → Bounds
choice_costs a b = costs (max a.cycles b.cycles) (max a.words b.words) (1 + max a.steps b.steps)

-- taking the lock, the body, and a step for the release
abbrev pub lock_costs : ℕ → Bounds → Bounds
lock_costs waits body = costs (waits + body.cycles) body.words (2 + body.steps)

-- a step, and a step and the body for each turn
abbrev pub loop_costs : ℕ → Bounds → Bounds
loop_costs turns body = costs (turns * body.cycles) (turns * body.words) (1 + turns * (1 + body.steps))

-- a step, and a step for each of so many cycles, each at this cost
abbrev pub transfer_costs : (cycles each words : ℕ) → Bounds
transfer_costs cycles each words = costs (cycles * each) words (1 + cycles)

-- a step, and the annotated costs of the procedure
abbrev pub call_costs : Bounds → Bounds
call_costs annotated = costs annotated.cycles annotated.words (1 + annotated.steps)

-- what is known after a statement, and what it can cost
pub record Verdict : Type 0 where
  pub after : Known
  pub costs : Bounds

abbrev pub verdict : Known → Bounds → Verdict
verdict after costs = record { after = after; costs = costs }

-- of what can't be reached
abbrev pub unreached : Verdict
unreached = verdict None no_costs
