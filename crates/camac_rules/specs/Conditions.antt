-- What is known where a condition holds, and where it does not.
use Rattle.std.specs.Prelude.{ℕ, [], ◌∷◌, Option, Some, None, Result, Ok, option_map, option_and_then}
use Rattle.camac_range.specs.declared.comparison.Cmp.{Cmp}
use Rattle.camac_lang.specs.Tree.{Expression, variable, group, Test, flag_q, flag_x, compare, Part, plain, negated, Condition}
use Rattle.camac_range.specs.Compare.{opposite, turned}
use Rattle.camac_range.specs.Interval.{Interval, meet}
use Rattle.camac_range.specs.Narrow.{narrow}
use Rattle.camac_rules.specs.Fault.{Fault}
use Rattle.camac_rules.specs.Refusal.{◌>>=◌, if_reached}
use Rattle.camac_rules.specs.Known.{Facts, Known, range_at, with_range}
use Rattle.camac_rules.specs.Joined.{join}
use Rattle.camac_rules.specs.Expressions.{range_of}
use Rattle.camac_lang.specs.declared.spot.Spot.{Spot}

pub record Branches : Type 0 where
  pub holds : Known
  pub fails : Known

abbrev pub branches : Known → Known → Branches
branches a b = record { holds = a; fails = b }

-- the variable that an expression is, brackets aside
abbrev pub sole_variable : Expression → Option ℕ
sole_variable (variable x) = Some x
sole_variable (group e) = sole_variable e
sole_variable e = None

-- an expression that is one variable is in a range too
abbrev pub refine : Option ℕ → Interval → Facts → Known
refine None r k = Some k
refine (Some x) r k = option_map (λ s. with_range x s k) (meet (range_at k.ranges x) r)

-- where a comparison holds of expressions that are in r and s
abbrev pub assume : (left : Expression) → Cmp → (right : Expression) → (left_range right_range : Interval) → Facts → Known
assume a c b r s k =
    option_and_then (λ r'. option_and_then (λ s'. option_and_then (refine (sole_variable b) s') (refine (sole_variable a) r' k))
    (narrow (turned c) s r)) (narrow c r s)

-- a flag says nothing of variables
abbrev pub split_test : Spot → Test → Facts → Result Branches Fault
split_test spot flag_q k = Ok (branches (Some k) (Some k))
split_test spot flag_x k = Ok (branches (Some k) (Some k))
split_test spot (compare a c b) k = do
  r ← range_of spot a k.ranges
  s ← range_of spot b k.ranges
  Ok (branches (assume a c b r s k) (assume a (opposite c) b r s k))

abbrev pub split_part : Spot → Part → Facts → Result Branches Fault
split_part spot (plain t) k = split_test spot t k
split_part spot (negated t) k = do
  b ← split_test spot t k
  Ok (branches b.fails b.holds)

-- part by part: a later one is looked at where all earlier ones hold
abbrev pub split : Spot → Condition → Facts → Result Branches Fault
split spot [] k = Ok (branches (Some k) None)
split spot (p ∷ ps) k = do
  first ← split_part spot p k
  others ← if_reached (branches None None) first.holds (split spot ps)
  Ok (branches others.holds (join first.fails others.fails))
