-- Why a script is refused: the first rule that it breaks, and the spot.
use Rattle.std.specs.Prelude.{ℕ}
use Rattle.camac_rules.specs.declared.rule.CheckRule.{CheckRule}
use Rattle.camac_rules.specs.declared.case.Case.{Case}
use Rattle.camac_lang.specs.declared.spot.Spot.{Spot}

pub data Fault : Type 0 where
  broken : (rule : CheckRule) → (spot : Spot) (case : Case) → Fault
