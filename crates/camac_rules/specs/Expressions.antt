-- The numbers that an expression can take, refused at its statement's spot where one may be outside 0 to M.
use Rattle.std.specs.Prelude.{ℕ, List, Result, Ok, nat_le}
use Rattle.camac_lang.specs.Tree.{Expression, number, variable, group, add, subtract, multiply, divide, remainder}
use Rattle.camac_range.specs.Number.{greatest}
use Rattle.camac_range.specs.Interval.{Interval, only}
use Rattle.camac_range.specs.Operators as range
use Rattle.camac_rules.specs.declared.case.Case.TheVariants.{Malformed}
use Rattle.camac_rules.specs.declared.rule.CheckRule.TheVariants.{ValueOutOfRange}
use Rattle.camac_rules.specs.declared.case.Operator.TheVariants.{Add, Sub, Mul}
use Rattle.camac_rules.specs.Cases.{operation}
use Rattle.camac_rules.specs.Fault.{Fault}
use Rattle.camac_rules.specs.Refusal.{◌>>=◌, ◌>>◌, required, given}
use Rattle.camac_rules.specs.Known.{range_at}
use Rattle.camac_lang.specs.declared.spot.Spot.{Spot}

abbrev pub range_of : Spot → Expression → List Interval → Result Interval Fault
range_of spot (number n) rs = do
  required (nat_le n greatest) ValueOutOfRange spot Malformed
  Ok (only n)
range_of spot (variable x) rs = Ok (range_at rs x)
range_of spot (group e) rs = range_of spot e rs
range_of spot (add a b) rs = do
  r ← range_of spot a rs
  s ← range_of spot b rs
  given (range.add r s) ValueOutOfRange spot (operation Add r s)
range_of spot (subtract a b) rs = do
  r ← range_of spot a rs
  s ← range_of spot b rs
  given (range.sub r s) ValueOutOfRange spot (operation Sub r s)
range_of spot (multiply a b) rs = do
  r ← range_of spot a rs
  s ← range_of spot b rs
  given (range.mul r s) ValueOutOfRange spot (operation Mul r s)
range_of spot (divide a d) rs = do
  r ← range_of spot a rs
  given (range.div r d) ValueOutOfRange spot Malformed
range_of spot (remainder a d) rs = do
  r ← range_of spot a rs
  given (range.rem r d) ValueOutOfRange spot Malformed
