-- A broken rule with its case, and what comes next where none is broken.
use Rattle.std.specs.Prelude.{Result, Ok, Err}
use Rattle.camac_plan.specs.declared.fault.PlanRule.{PlanRule}
use Rattle.camac_plan.specs.declared.fault.PlanCase.{PlanCase}
use Rattle.camac_plan.specs.declared.fault.BrokenRule.{BrokenRule}

abbrev pub broken : PlanRule → PlanCase → BrokenRule
broken rule case = record { rule = rule; case = case }

-- what comes next, unless a rule was broken
abbrev pub next : {A B : Type 0} → Result A BrokenRule → (A → Result B BrokenRule) → Result B BrokenRule
next (Ok x) f = f x
next (Err e) f = Err e
