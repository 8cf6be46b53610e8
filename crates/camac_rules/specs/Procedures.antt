-- The rules of procedures: a call stands on the heading alone, and a body is checked once, from the ranges of its heading.
use Rattle.std.specs.Prelude.{ℕ, ◌+◌, Bool, true, false, ◌&&◌, List, [], ◌∷◌, map, Some, None, Result, Ok, nat_le, slice_get, if◌then◌else◌}
use Rattle.camac_lang.specs.Tree.{Expression, Parameter, Procedure}
use Rattle.camac_range.specs.Interval.{Interval, interval, is_inside}
use Rattle.camac_model.specs.Fine.{Bounds, annotated}
use Rattle.camac_rules.specs.declared.case.Body.{Body}
use Rattle.camac_rules.specs.declared.case.Case.{Case}
use Rattle.camac_rules.specs.declared.case.Case.TheVariants.{Malformed, Argument}
use Rattle.camac_rules.specs.declared.rule.CheckRule.TheVariants.{TooManyWords, TooManyCycles, TooManySteps, ArgumentOutOfRange}
use Rattle.camac_rules.specs.Cases.{numbers_of, budget}
use Rattle.camac_rules.specs.Fault.{Fault}
use Rattle.camac_rules.specs.Refusal.{◌>>=◌, ◌>>◌, required, given, if_reached}
use Rattle.camac_rules.specs.Known.{Facts, facts, Known}
use Rattle.camac_rules.specs.Expressions.{range_of}
use Rattle.camac_rules.specs.Costs.{call_costs, Verdict, verdict, unreached}
use Rattle.camac_rules.specs.Cycles.{Context}
use Rattle.camac_lang.specs.declared.spot.Spot.{Spot}

abbrev pub ranges_of : Spot → List Expression → List Interval → Result (List Interval) Fault
ranges_of spot [] rs = Ok []
ranges_of spot (e ∷ es) rs = do
  r ← range_of spot e rs
  others ← ranges_of spot es rs
  Ok (r ∷ others)

abbrev pub parameter_range : Parameter → Interval
parameter_range p = interval p.low p.high

-- as many arguments as parameters, each in its range
abbrev pub arguments_fit : List Interval → List Parameter → Bool
arguments_fit [] [] = true
arguments_fit [] (p ∷ ps) = false
arguments_fit (r ∷ rs) [] = false
arguments_fit (r ∷ rs) (p ∷ ps) = is_inside r (parameter_range p) && arguments_fit rs ps

-- the first argument of a call of procedure p, from the one of this number on, that is not in the range of its parameter
abbrev pub unfit : ℕ → ℕ → List Interval → List Parameter → Case
unfit p i (r ∷ rs) (q ∷ qs) =
    if is_inside r (parameter_range q) then unfit p (i + 1) rs qs
    else Argument p i (numbers_of r) (numbers_of (parameter_range q))
unfit p i _ _ = Malformed

-- a call of a procedure, by its heading
abbrev pub call_rule : Context → Spot → ℕ → List Expression → Facts → Result Verdict Fault
call_rule c spot p es k = do
  rs ← ranges_of spot es k.ranges
  procedure ← given (slice_get c.procedures p) ArgumentOutOfRange spot Malformed
  required (arguments_fit rs procedure.parameters) ArgumentOutOfRange spot (unfit p 0 rs procedure.parameters)
  Ok (verdict (Some k) (c.limit (call_costs (annotated procedure))))

-- whether each parameter has a number at all
abbrev pub can_be_called : List Parameter → Bool
can_be_called [] = true
can_be_called (p ∷ ps) = nat_le p.low p.high && can_be_called ps

-- where a body begins: each parameter in its range, registers unset
abbrev pub at_entry : List Parameter → Known
at_entry ps = if can_be_called ps then Some (facts (map parameter_range ps) []) else None

-- within the numbers of a heading at this spot
abbrev pub within : Body → Bounds → Bounds → Spot → Result Bounds Fault
within body most found spot = do
  required (nat_le found.words most.words) TooManyWords spot (budget body found.words most.words)
  required (nat_le found.cycles most.cycles) TooManyCycles spot (budget body found.cycles most.cycles)
  required (nat_le found.steps most.steps) TooManySteps spot (budget body found.steps most.steps)
  Ok found

-- where `check` checks its body
abbrev pub procedure_rule : Body → (Facts → Result Verdict Fault) → Procedure → Result Bounds Fault
procedure_rule body check p = do
  v ← if_reached unreached (at_entry p.parameters) check
  within body (annotated p) v.costs p.spot
