-- One `each` against the limit of all of its body.
use Rattle.std.specs.Prelude.{ℕ, Result, Ok, nat_le}
use Rattle.camac_rules.specs.declared.case.Body.{Body}
use Rattle.camac_rules.specs.declared.rule.CheckRule.TheVariants.{TooManyTurns}
use Rattle.camac_rules.specs.Cases.{judged_case}
use Rattle.camac_rules.specs.EachLimit.{judged_limit}
use Rattle.camac_rules.specs.Fault.{Fault}
use Rattle.camac_rules.specs.Refusal.{◌>>◌, required}
use Rattle.camac_lang.specs.declared.spot.Spot.{Spot}

-- so much is judged up to this spot
abbrev pub counted : Body → Spot → ℕ → Result ℕ Fault
counted place spot n = do
  required (nat_le n judged_limit) TooManyTurns spot (judged_case place n judged_limit)
  Ok n
