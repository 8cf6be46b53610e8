-- What the rules say of conditions is true of them.
use Rattle.std.proofs.Common.{◌≡◌, ℕ, ◌≤◌, Bool, true, false, cond, [], ◌∷◌, refl, sym, ap, ◌∙◌, subst, Option, Some, None}
use Rattle.std.specs.Prelude.{not, nat_eq, IfSome, option_map, option_and_then}
use Rattle.std.proofs.lemmas.Bool.{eqb-true, le-leb, cond_both}
use Rattle.camac_lang.specs.Tree.{Expression, number, variable, group, add, subtract, multiply, divide, remainder, Test, flag_q, flag_x, compare, Part, plain, negated, Condition}
use Rattle.camac_range.specs.declared.comparison.Cmp.{Cmp}
use Rattle.camac_range.specs.Compare.{compared, opposite, turned}
use Rattle.camac_range.specs.Number.{greatest, in_range}
use Rattle.camac_range.specs.Interval.{Interval, only, IsWithin, meet}
use Rattle.camac_range.specs.Narrow.{narrow}
use Rattle.camac_range.proofs.Within.{IsKept, meet_keeps, narrowed_keeps, opposite_is_not, turned_is_swapped}
use Rattle.camac_model.specs.State.{State, Variables, set_at}
use Rattle.camac_model.specs.Value.{both, value, test_value, part_value, and_then, truth}
use Rattle.camac_rules.specs.Known.{write, range_at, Facts, Known, with_range}
use Rattle.camac_rules.specs.Joined.{join}
use Rattle.camac_rules.specs.Conditions.{Branches, branches, sole_variable, refine, assume, split_test, split_part, split}
use Rattle.camac_rules.proofs.Allows.{Allows, allowed, then_allowed, for_each, if_reached_allowed}
use Rattle.camac_rules.proofs.Stores.{Place, variables_write, Inside, Reaches}
use Rattle.camac_rules.proofs.Values.{Fits, Gives, range_holds}
use Rattle.camac_rules.proofs.Joined.{join_left, join_right}
use Rattle.camac_lang.specs.declared.spot.Spot.{Spot}

set_to_itself : (env : Variables) (x y : ℕ) → set_at x (env x) env y ≡ env y
set_to_itself env x y = cond_both (nat_eq y x) (env x) (env y) (λ n. n ≡ env y) (λ e. ap env (sym (eqb-true y x e))) (λ e. refl)

-- a variable that is found in a smaller range
pub inside_narrowed : (around : Place) (k : Facts) (s : State) (x : ℕ) (r : Interval) → Inside around k s → IsWithin r (s.variables x) → Inside around (with_range x r k) s
inside_narrowed around k s x r i w =
    let set = variables_write k.ranges s.variables x (s.variables x) r i.variables w (i.variables.small x) in
    record {
      variables = record {
        each = λ y. subst (IsWithin (range_at (write (only 0) k.ranges x r) y)) (set_to_itself s.variables x y) (set.each y);
        small = i.variables.small;
      };
      registers = i.registers;
      locks = i.locks;
    }

kept_map : (around : Place) (o : Option Interval) (f : Interval → Facts) (v : ℕ) (s : State) → IsKept o v → ((r : Interval) → IsWithin r v → Inside around (f r) s) → Reaches around (option_map f o) s
kept_map around None f v s h k = absurd h
kept_map around (Some r) f v s h k = k r h

kept_then : (around : Place) (o : Option Interval) (f : Interval → Known) (v : ℕ) (s : State) → IsKept o v → ((r : Interval) → IsWithin r v → Reaches around (f r) s) → Reaches around (option_and_then f o) s
kept_then around None f v s h k = absurd h
kept_then around (Some r) f v s h k = k r h

known_then : (around : Place) (k : Known) (f : Facts → Known) (s : State) → Reaches around k s → ((q : Facts) → Inside around q s → Reaches around (f q) s) → Reaches around (option_and_then f k) s
known_then around None f s h go = absurd h
known_then around (Some q) f s h go = go q h

-- a state stays inside where the value of an expression is found in a range
abbrev Refines : Place → Expression → Option ℕ → State → Type 0
Refines around e o s = (r : Interval) (k : Facts) → Inside around k s → IfSome o (IsWithin r) → Reaches around (refine (sole_variable e) r k) s

small_value : (v : ℕ) → v ≤ greatest → in_range v ≡ Some v
small_value v le = ap (λ b. cond b (Some v) None) (le-leb v greatest le)

refine_keeps : (around : Place) (e : Expression) (s : State) → Refines around e (value e s.variables) s
refine_keeps around (variable x) s r k i w =
    let v : ℕ = s.variables x in
    let within : IsWithin r v = subst (λ o. IfSome o (IsWithin r)) (small_value v (i.variables.small x)) w in
    kept_map around (meet (range_at k.ranges x) r) (λ q. with_range x q k) v s
    (meet_keeps (range_at k.ranges x) r v (i.variables.each x) within)
    (λ q wq. inside_narrowed around k s x q i wq)
refine_keeps around (group e) s r k i w = refine_keeps around e s r k i w
refine_keeps around (number n) s r k i w = i
refine_keeps around (add a b) s r k i w = i
refine_keeps around (subtract a b) s r k i w = i
refine_keeps around (multiply a b) s r k i w = i
refine_keeps around (divide a d) s r k i w = i
refine_keeps around (remainder a d) s r k i w = i

assume_keeps : (around : Place) (a b : Expression) (c : Cmp) (r q : Interval) (k : Facts) (s : State) (x y : ℕ) → Inside around k s → Fits r x → Fits q y → Refines around a (Some x) s → Refines around b (Some y) s → compared c x y ≡ true → Reaches around (assume a c b r q k) s
assume_keeps around a b c r q k s x y i fx fy ra rb e =
    kept_then around (narrow c r q) _ x s (narrowed_keeps c r q x y fx.small fx.within fy.within e)
    (λ r1 w1. kept_then around (narrow (turned c) q r) _ y s (narrowed_keeps (turned c) q r y x fy.small fy.within fx.within (turned_is_swapped c x y ∙ e))
    (λ q1 v1. known_then around (refine (sole_variable a) r1 k) (refine (sole_variable b) q1) s (ra r1 k i w1) (λ l j. rb q1 l j v1)))

-- A condition is true or false, and the state is inside what is known there.
abbrev pub Decides : Place → Option Bool → Branches → State → Type 0
Decides around None arms s = ⊥
Decides around (Some true) arms s = Reaches around arms.holds s
Decides around (Some false) arms s = Reaches around arms.fails s

decides_from : (around : Place) (t : Bool) (arms : Branches) (s : State) → (t ≡ true → Reaches around arms.holds s) → (t ≡ false → Reaches around arms.fails s) → Decides around (Some t) arms s
decides_from around true arms s h k = h refl
decides_from around false arms s h k = k refl

compare_decides : (around : Place) (a b : Expression) (c : Cmp) (r q : Interval) (k : Facts) (s : State) (x y : Option ℕ) → Inside around k s → Gives x r → Gives y q → Refines around a x s → Refines around b y s → Decides around (both (λ v w. Some (compared c v w)) x y) (branches (assume a c b r q k) (assume a (opposite c) b r q k)) s
compare_decides around a b c r q k s None y i gx gy ra rb = absurd gx
compare_decides around a b c r q k s (Some x) None i gx gy ra rb = absurd gy
compare_decides around a b c r q k s (Some x) (Some y) i gx gy ra rb =
    decides_from around (compared c x y) (branches (assume a c b r q k) (assume a (opposite c) b r q k)) s
    (λ e. assume_keeps around a b c r q k s x y i gx gy ra rb e)
    (λ e. assume_keeps around a b (opposite c) r q k s x y i gx gy ra rb (opposite_is_not c x y ∙ ap not e))

test_decides : (around : Place) (spot : Spot) (t : Test) (k : Facts) (s : State) → Inside around k s → Allows (split_test spot t k) (λ arms. Decides around (test_value t s.variables s.q s.x) arms s)
test_decides around spot flag_q k s i = allowed (decides_from around s.q (branches (Some k) (Some k)) s (λ e. i) (λ e. i))
test_decides around spot flag_x k s i = allowed (decides_from around s.x (branches (Some k) (Some k)) s (λ e. i) (λ e. i))
test_decides around spot (compare a c b) k s i =
    then_allowed (range_holds spot a k.ranges s.variables i.variables) (λ r ga. then_allowed (range_holds spot b k.ranges s.variables i.variables)
    (λ q gb. allowed (compare_decides around a b c r q k s (value a s.variables) (value b s.variables) i ga gb (refine_keeps around a s) (refine_keeps around b s))))

not_decides : (around : Place) (o : Option Bool) (arms : Branches) (s : State) → Decides around o arms s → Decides around (option_map not o) (branches arms.fails arms.holds) s
not_decides around None arms s h = h
not_decides around (Some true) arms s h = h
not_decides around (Some false) arms s h = h

part_decides : (around : Place) (spot : Spot) (p : Part) (k : Facts) (s : State) → Inside around k s → Allows (split_part spot p k) (λ arms. Decides around (part_value p s.variables s.q s.x) arms s)
part_decides around spot (plain t) k s i = test_decides around spot t k s i
part_decides around spot (negated t) k s i =
    then_allowed (test_decides around spot t k s i) (λ arms d. allowed (not_decides around (test_value t s.variables s.q s.x) arms s d))

and_decides : (around : Place) (o rest : Option Bool) (first others : Branches) (s : State) → Decides around o first s → (Reaches around first.holds s → Decides around rest others s) → Decides around (and_then o rest) (branches others.holds (join first.fails others.fails)) s
and_decides around None rest first others s d k = d
and_decides around (Some false) rest first others s d k = join_left around first.fails others.fails s d
and_decides around (Some true) None first others s d k = k d
and_decides around (Some true) (Some true) first others s d k = k d
and_decides around (Some true) (Some false) first others s d k = join_right around first.fails others.fails s (k d)

split_decides : (around : Place) (spot : Spot) (test : Condition) (k : Facts) (s : State) → Inside around k s → Allows (split spot test k) (λ arms. Decides around (truth test s.variables s.q s.x) arms s)
split_decides around spot [] k s i = allowed i
split_decides around spot (p ∷ ps) k s i =
    then_allowed (part_decides around spot p k s i) (λ first d.
    then_allowed
    (if_reached_allowed (branches None None) first.holds (split spot ps) (λ known arms. (u : Unit {0}) → Reaches around known s → Decides around (truth ps s.variables s.q s.x) arms s)
    (λ u j. absurd j)
    (λ q. for_each (λ u. Inside around q s) (λ u arms. Decides around (truth ps s.variables s.q s.x) arms s) (λ (u : Unit {0}) j. split_decides around spot ps q s j)))
    (λ others h. allowed (and_decides around (part_value p s.variables s.q s.x) (truth ps s.variables s.q s.x) first others s d (h tt))))

-- in every state inside what is known
pub split_each : (around : Place) (spot : Spot) (test : Condition) (k : Facts) → Allows (split spot test k) (λ arms. (s : State) → Inside around k s → Decides around (truth test s.variables s.q s.x) arms s)
split_each around spot test k =
    for_each (Inside around k) (λ s arms. Decides around (truth test s.variables s.q s.x) arms s) (λ s i. split_decides around spot test k s i)
