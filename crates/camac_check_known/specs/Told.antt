-- The range of an expression at a spot, from what is found without the spot.
use Rattle.std.specs.Prelude.{◌≡◌, ℕ, Option, Some, None, Result, Ok, Err}
use Rattle.camac_range.specs.Interval.{Interval}
use Rattle.camac_rules.specs.declared.rule.CheckRule.TheVariants.{ValueOutOfRange}
use Rattle.camac_rules.specs.Cases.{operation}
use Rattle.camac_rules.specs.Fault.{Fault, broken}
use Rattle.camac_check_known.specs.declared.expression.Beyond.{Beyond}
use Rattle.camac_lang.specs.declared.spot.Spot.{Spot}

-- a range, or E4 at a spot, in the case of an operator
abbrev pub TellsRange : Spot → Option Interval → Option Beyond → Result Interval Fault → Type 0
TellsRange spot (Some r) beyond read = read ≡ Ok r
TellsRange spot None (Some b) read = read ≡ Err (broken ValueOutOfRange spot (operation b.operator b.left b.right))
TellsRange spot None None read = ⊥
