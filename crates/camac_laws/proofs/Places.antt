-- Each range that the checker knows at a place has a number.
use Rattle.std.proofs.Common.{◌≡◌, ℕ, zero, suc, ◌+◌, ◌-◌, ◌*◌, ◌/◌, ◌<◌, ◌≤◌, Bool, true, false, cond, List, [], ◌∷◌, map, Option, Some, None, Result, Ok, Err, refl, sym, subst, ⊎_elim, arith}
use Rattle.std.specs.Prelude.{◌^◌, nat_eq, nat_lt, nat_le, max, min, slice_get, option_map, option_and_then, if◌then◌else◌}
use Rattle.std.proofs.Math.Nat.{le-div_iff_mul-le, div-mul-le_self, le_trans}
use Rattle.std.proofs.lemmas.Bool.{and_parts, cond_both, leb-true, eqb-false, ltb-false, cases_lt}
use Rattle.std.proofs.lemmas.Nat.{mul-le}
use Rattle.camac_lang.specs.Tree.{Expression, number, variable, group, add, subtract, multiply, divide, remainder, Test, flag_q, flag_x, compare, Part, plain, negated, Condition, Move, no_data, into, from, Keep, Statement, assign, set_register, single, address_scan, q_stop, q_repeat, put, crate_call, lam_call, choose, choose_else, for_, for_each, while_, locked, call, Block, done, next, Parameter}
use Rattle.camac_range.specs.declared.comparison.Cmp.{Cmp}
use Rattle.camac_range.specs.Compare.{opposite, turned}
use Rattle.camac_range.specs.Number.{greatest}
use Rattle.camac_range.specs.Interval.{Interval, interval, only, hull, meet, is_inside}
use Rattle.camac_range.specs.Narrow.{narrow}
use Rattle.camac_range.specs.Operators as range
use Rattle.camac_lang.specs.declared.word.WordSize.{WordSize}
use Rattle.camac_model.specs.Cycle.{sized}
use Rattle.camac_model.specs.Fine.{Bounds}
use Rattle.camac_rules.specs.Conditions.{Branches, branches, sole_variable, refine, assume, split_test, split_part, split}
use Rattle.camac_rules.specs.Costs.{Verdict, unreached}
use Rattle.camac_rules.specs.Addresses.{command_widths}
use Rattle.camac_rules.specs.Calls.{lam_region, lock_rule}
use Rattle.camac_rules.specs.Cycles.{Context, Around, with_locked, single_rule}
use Rattle.camac_rules.specs.Each.{each_turns, each_from, each_begins}
use Rattle.camac_rules.specs.Expressions.{range_of}
use Rattle.camac_rules.specs.Fault.{Fault}
use Rattle.camac_rules.specs.Joined.{join_set, join}
use Rattle.camac_rules.specs.Known.{write, Region, region, Facts, facts, Known, range_at, region_at, with_range}
use Rattle.camac_rules.specs.Loops.{kept_range, keeps_hold, with_keeps, head, Limits, values_between, with_fixed, for_limits, for_head, for_after, while_head}
use Rattle.camac_rules.specs.Procedures.{ranges_of, parameter_range, can_be_called}
use Rattle.camac_rules.specs.Refusal.{if_reached}
use Rattle.camac_rules.specs.Statements.{accept_statement, accept_block}
use Rattle.camac_rules.specs.Transfers.{block_region}
use Rattle.camac_rules.specs.Windows.{window_of, scan_kept}
use Rattle.camac_rules.specs.Writes.{fall_of, any_range, forget_move, forget, forget_block}
use Rattle.camac_rules.proofs.Allows.{Allows, allowed, then_allowed, required_allowed, given_then, given_allowed}
use Rattle.camac_rules.proofs.Heads.{write_at}
use Rattle.camac_rules.proofs.Joined.{range_at-hulls, region_at-join}
use Rattle.camac_rules.proofs.Values.{some_if}
use Rattle.camac_laws.specs.ShownAddresses.{Place, at_turn, HasPlace, BlockHasPlace, IsStart, RegistersHaveAddresses, HasAddresses}
use Rattle.camac_lang.specs.declared.spot.Spot.{Spot}

-- ---- what is ordered

abbrev AreRanges : List Interval → Type 0
AreRanges rs = (x : ℕ) → (range_at rs x).lo ≤ (range_at rs x).hi

abbrev IfSet : Option Region → Type 0
IfSet None = Unit {0}
IfSet (Some g) = HasAddresses g

record IsOrdered (k : Facts) : Type 0 where
  ranges : AreRanges k.ranges
  registers : (r : ℕ) → IfSet (region_at k.registers r)

abbrev IfKnown : Known → Type 0
IfKnown None = Unit {0}
IfKnown (Some k) = IsOrdered k

record AreOrdered (b : Branches) : Type 0 where
  holds : IfKnown b.holds
  fails : IfKnown b.fails

ranges_with : (rs : List Interval) (x : ℕ) (r : Interval) → AreRanges rs → r.lo ≤ r.hi → (y : ℕ) → (range_at (write (only 0) rs x r) y).lo ≤ (range_at (write (only 0) rs x r) y).hi
ranges_with rs x r h le y =
    subst (λ i. i.lo ≤ i.hi) (sym (write_at (only 0) rs x y r))
    (cond_both (nat_eq y x) r (range_at rs y) (λ i. i.lo ≤ i.hi) (λ e. le) (λ e. h y))

ordered_with : (k : Facts) (x : ℕ) (r : Interval) → IsOrdered k → r.lo ≤ r.hi → IsOrdered (with_range x r k)
ordered_with k x r h le = record { ranges = ranges_with k.ranges x r h.ranges le; registers = h.registers }

from_0 : (k : Facts) (x n : ℕ) → IsOrdered k → IsOrdered (with_range x (interval 0 n) k)
from_0 k x n h = ordered_with k x (interval 0 n) h (omega arith)

set_with : (gs : List (Option Region)) (r : ℕ) (o : Option Region) → ((i : ℕ) → IfSet (region_at gs i)) → IfSet o → (i : ℕ) → IfSet (region_at (write None gs r o) i)
set_with gs r o h le i =
    subst IfSet (sym (write_at None gs r i o)) (cond_both (nat_eq i r) o (region_at gs i) IfSet (λ e. le) (λ e. h i))

hull_ordered : (r s : Interval) → r.lo ≤ r.hi → s.lo ≤ s.hi → (hull r s).lo ≤ (hull r s).hi
hull_ordered r s a b = omega arith

set_joined : (g h : Option Region) → IfSet g → IfSet h → IfSet (join_set g h)
set_joined None h a b = tt
set_joined (Some g) None a b = tt
set_joined (Some g) (Some h) a b = record {
  crates = hull_ordered g.crates h.crates a.crates b.crates;
  stations = hull_ordered g.stations h.stations a.stations b.stations;
  sub_addresses = hull_ordered g.sub_addresses h.sub_addresses a.sub_addresses b.sub_addresses;
}

joined : (k l : Known) → IfKnown k → IfKnown l → IfKnown (join k l)
joined None l a b = b
joined (Some k) None a b = a
joined (Some k) (Some l) a b = record {
  ranges = λ x.
      subst (λ i. i.lo ≤ i.hi) (sym (range_at-hulls k.ranges l.ranges x)) (hull_ordered (range_at k.ranges x) (range_at l.ranges x) (a.ranges x) (b.ranges x));
  registers = λ r.
      subst IfSet (sym (region_at-join k.registers l.registers r)) (set_joined (region_at k.registers r) (region_at l.registers r) (a.registers r) (b.registers r));
}

-- ---- expressions

div_mono : (a b d : ℕ) → 0 < d → a ≤ b → a / d ≤ b / d
div_mono a b d pos h = (le-div_iff_mul-le pos).1 (le_trans (div-mul-le_self a d) h)

none_unless : {A : Type 0} (b : Bool) (x y : A) → cond b None (Some x) ≡ Some y → (b ≡ false) × (x ≡ y)
none_unless true x y e = absurd (cc)
none_unless false x y e = (refl, cc)

sum_ordered : (r s i : Interval) → r.lo ≤ r.hi → s.lo ≤ s.hi → range.add r s ≡ Some i → i.lo ≤ i.hi
sum_ordered r s i a b e = subst (λ j. j.lo ≤ j.hi) (some_if (nat_le (r.hi + s.hi) greatest) (interval (r.lo + s.lo) (r.hi + s.hi)) i e).1 (omega arith)

difference_ordered : (r s i : Interval) → r.lo ≤ r.hi → s.lo ≤ s.hi → range.sub r s ≡ Some i → i.lo ≤ i.hi
difference_ordered r s i a b e = subst (λ j. j.lo ≤ j.hi) (some_if (nat_le s.hi r.lo) (interval (r.lo - s.hi) (r.hi - s.lo)) i e).1 (omega arith)

product_ordered : (r s i : Interval) → r.lo ≤ r.hi → s.lo ≤ s.hi → range.mul r s ≡ Some i → i.lo ≤ i.hi
product_ordered r s i a b e =
    subst (λ j. j.lo ≤ j.hi) (some_if (nat_le (r.hi * s.hi) greatest) (interval (r.lo * s.lo) (r.hi * s.hi)) i e).1 (mul-le r.lo s.lo r.hi s.hi a b)

quotient_ordered : (r i : Interval) (d : ℕ) → r.lo ≤ r.hi → range.div r d ≡ Some i → i.lo ≤ i.hi
quotient_ordered r i d a e =
    let p = none_unless (nat_eq d 0) (interval (r.lo / d) (r.hi / d)) i e in
    let other = eqb-false d 0 p.0 in
    let pos : 0 < d = ⊎_elim (λ lt. lt) (λ le. let same : d ≡ 0 = omega arith in absurd (other same)) (cases_lt 0 d) in
    subst (λ j. j.lo ≤ j.hi) p.1 (div_mono r.lo r.hi d pos a)

rest_ordered : (r i : Interval) (d : ℕ) → r.lo ≤ r.hi → range.rem r d ≡ Some i → i.lo ≤ i.hi
rest_ordered r i d a e =
    let p = none_unless (nat_eq d 0) (if nat_lt r.hi d then r else interval 0 (d - 1)) i e in
    subst (λ j. j.lo ≤ j.hi) p.1 (cond_both (nat_lt r.hi d) r (interval 0 (d - 1)) (λ j. j.lo ≤ j.hi) (λ t. a) (λ t. omega arith))

range_ordered : (spot : Spot) (e : Expression) (rs : List Interval) → AreRanges rs → Allows (range_of spot e rs) (λ r. r.lo ≤ r.hi)
range_ordered spot (number n) rs h = required_allowed _ spot _ (λ t. allowed (omega arith))
range_ordered spot (variable x) rs h = allowed (h x)
range_ordered spot (group e) rs h = range_ordered spot e rs h
range_ordered spot (add a b) rs h =
    then_allowed (range_ordered spot a rs h) (λ r p. then_allowed (range_ordered spot b rs h) (λ s q. given_then (range.add r s) _ spot _ (λ i e. sum_ordered r s i p q e)))
range_ordered spot (subtract a b) rs h =
    then_allowed (range_ordered spot a rs h) (λ r p. then_allowed (range_ordered spot b rs h) (λ s q. given_then (range.sub r s) _ spot _ (λ i e. difference_ordered r s i p q e)))
range_ordered spot (multiply a b) rs h =
    then_allowed (range_ordered spot a rs h) (λ r p. then_allowed (range_ordered spot b rs h) (λ s q. given_then (range.mul r s) _ spot _ (λ i e. product_ordered r s i p q e)))
range_ordered spot (divide a d) rs h =
    then_allowed (range_ordered spot a rs h) (λ r p. given_then (range.div r d) _ spot _ (λ i e. quotient_ordered r i d p e))
range_ordered spot (remainder a d) rs h =
    then_allowed (range_ordered spot a rs h) (λ r p. given_then (range.rem r d) _ spot _ (λ i e. rest_ordered r i d p e))

-- ---- conditions

met_ordered : (r s i : Interval) → meet r s ≡ Some i → i.lo ≤ i.hi
met_ordered r s i e =
    let p = some_if (nat_le (max r.lo s.lo) (min r.hi s.hi)) (interval (max r.lo s.lo) (min r.hi s.hi)) i e in
    subst (λ j. j.lo ≤ j.hi) p.1 (leb-true (max r.lo s.lo) (min r.hi s.hi) p.0)

mapped : (o : Option Interval) (f : Interval → Facts) → ((i : Interval) → o ≡ Some i → IsOrdered (f i)) → IfKnown (option_map f o)
mapped None f h = tt
mapped (Some i) f h = h i refl

after_range : (o : Option Interval) (f : Interval → Known) → ((i : Interval) → IfKnown (f i)) → IfKnown (option_and_then f o)
after_range None f h = tt
after_range (Some i) f h = h i

after_known : (o : Known) (f : Facts → Known) → IfKnown o → ((k : Facts) → IsOrdered k → IfKnown (f k)) → IfKnown (option_and_then f o)
after_known None f a h = tt
after_known (Some k) f a h = h k a

refined : (o : Option ℕ) (r : Interval) (k : Facts) → IsOrdered k → IfKnown (refine o r k)
refined None r k h = h
refined (Some x) r k h = mapped (meet (range_at k.ranges x) r) (λ s. with_range x s k) (λ i e. ordered_with k x i h (met_ordered (range_at k.ranges x) r i e))

assumed : (a b : Expression) (c : Cmp) (r s : Interval) (k : Facts) → IsOrdered k → IfKnown (assume a c b r s k)
assumed a b c r s k h =
    after_range (narrow c r s) _ (λ i. after_range (narrow (turned c) s r) _ (λ j.
    after_known (refine (sole_variable a) i k) (refine (sole_variable b) j) (refined (sole_variable a) i k h) (λ l m. refined (sole_variable b) j l m)))

test_ordered : (spot : Spot) (t : Test) (k : Facts) → IsOrdered k → Allows (split_test spot t k) AreOrdered
test_ordered spot flag_q k h = allowed (record { holds = h; fails = h })
test_ordered spot flag_x k h = allowed (record { holds = h; fails = h })
test_ordered spot (compare a c b) k h =
    then_allowed (range_ordered spot a k.ranges h.ranges) (λ r p. then_allowed (range_ordered spot b k.ranges h.ranges) (λ s q.
    allowed (record { holds = assumed a b c r s k h; fails = assumed a b (opposite c) r s k h })))

part_ordered : (spot : Spot) (p : Part) (k : Facts) → IsOrdered k → Allows (split_part spot p k) AreOrdered
part_ordered spot (plain t) k h = test_ordered spot t k h
part_ordered spot (negated t) k h = then_allowed (test_ordered spot t k h) (λ b o. allowed (record { holds = o.fails; fails = o.holds }))

reached_ordered : {A : Type 0} (nothing : A) (o : Known) (check : Facts → Result A Fault) (P : A → Type 0) → IfKnown o → P nothing → ((k : Facts) → IsOrdered k → Allows (check k) P) → Allows (if_reached nothing o check) P
unfolding if_reached
reached_ordered nothing None check P h n each = record { holds = n }
reached_ordered nothing (Some k) check P h n each = each k h

split_ordered : (spot : Spot) (ps : Condition) (k : Facts) → IsOrdered k → Allows (split spot ps k) AreOrdered
split_ordered spot [] k h = allowed (record { holds = h; fails = tt })
split_ordered spot (p ∷ ps) k h =
    then_allowed (part_ordered spot p k h) (λ first o.
    then_allowed (reached_ordered (branches None None) first.holds (split spot ps) AreOrdered o.holds (record { holds = tt; fails = tt }) (λ l m. split_ordered spot ps l m)) (λ others q.
    allowed (record { holds = q.holds; fails = joined first.fails others.fails o.fails q.fails })))

-- ---- loops

anyway : {A : Type 0} (r : Result A Fault) → Allows r (λ x. Unit {0})
anyway (Ok x) = record { holds = tt }
anyway (Err e) = record { holds = tt }

forgotten_move : (m : Move) (k : Facts) → IsOrdered k → IsOrdered (forget_move m k)
forgotten_move no_data k h = h
forgotten_move (into x) k h = ordered_with k x any_range h (omega arith)
forgotten_move (from e) k h = h

mutual
  forgotten_by : (s : Statement) (k : Facts) → IsOrdered k → IsOrdered (forget s k)
  forgotten_by (assign spot x e) k h = ordered_with k x any_range h (omega arith)
  forgotten_by (set_register spot r c n a) k h = record { ranges = h.ranges; registers = set_with k.registers r None h.registers tt }
  forgotten_by (single spot size f r move) k h = forgotten_move move k h
  forgotten_by (address_scan spot f r1 r2 max x) k h = ordered_with k x any_range h (omega arith)
  forgotten_by (q_stop spot f r t max x) k h = ordered_with k x any_range h (omega arith)
  forgotten_by (q_repeat spot f r t max limit x) k h = ordered_with k x any_range h (omega arith)
  forgotten_by (put spot e) k h = h
  forgotten_by (crate_call spot which e) k h = h
  forgotten_by (lam_call spot which l) k h = h
  forgotten_by (choose spot test a) k h = forgotten a k h
  forgotten_by (choose_else spot test a b) k h = forgotten b (forget_block a k) (forgotten a k h)
  forgotten_by (for_ spot x e1 e2 keeps body) k h = ordered_with (forget_block body k) x any_range (forgotten body k h) (omega arith)
  forgotten_by (for_each spot x v last body) k h = ordered_with (forget_block body k) x any_range (forgotten body k h) (omega arith)
  forgotten_by (while_ spot test most m keeps body) k h = forgotten body k h
  forgotten_by (locked spot e body) k h = forgotten body k h
  forgotten_by (call spot p es) k h = h

  forgotten : (b : Block) (k : Facts) → IsOrdered k → IsOrdered (forget_block b k)
  forgotten done k h = h
  forgotten (next s rest) k h = forgotten rest (forget s k) (forgotten_by s k h)

kept_ordered : (r : Interval) (q : Keep) → r.lo ≤ r.hi → is_inside r (kept_range q) ≡ true → (kept_range q).lo ≤ (kept_range q).hi
kept_ordered r q le e =
    let p = and_parts (nat_le q.low r.lo) (nat_le r.hi q.high) e in
    let low : q.low ≤ r.lo = leb-true q.low r.lo p.0 in
    let high : r.hi ≤ q.high = leb-true r.hi q.high p.1 in
    omega arith

kept : (qs : List Keep) (k l : Facts) → IsOrdered k → keeps_hold qs k ≡ true → IsOrdered l → IsOrdered (with_keeps qs l)
kept [] k l h e o = o
kept (q ∷ qs) k l h e o =
    let p = and_parts (is_inside (range_at k.ranges q.variable) (kept_range q)) (keeps_hold qs k) e in
    ordered_with (with_keeps qs l) q.variable (kept_range q) (kept qs k l h p.1 o) (kept_ordered (range_at k.ranges q.variable) q (h.ranges q.variable) p.0)

head_ordered : (body : Block) (qs : List Keep) (k : Facts) → IsOrdered k → keeps_hold qs k ≡ true → IsOrdered (head body qs k)
head_ordered body qs k h e = kept qs k (forget_block body k) h e (forgotten body k h)

-- the limits of a `for` that may begin
for_may : (around : Around) (spot : Spot) (x : ℕ) (e1 e2 : Expression) (qs : List Keep) (k : Facts) → Allows (for_limits around spot x e1 e2 qs k) (λ l. keeps_hold qs k ≡ true)
for_may around spot x e1 e2 qs k =
    then_allowed (anyway (range_of spot e1 k.ranges)) (λ r u. then_allowed (anyway (range_of spot e2 k.ranges)) (λ s w.
    required_allowed _ spot _ (λ a. required_allowed _ spot _ (λ b. required_allowed _ spot _ (λ e. allowed e)))))

for_head_ordered : (x : ℕ) (l : Limits) (qs : List Keep) (body : Block) (k : Facts) → IsOrdered k → keeps_hold qs k ≡ true → IfKnown (for_head x l qs body k)
for_head_ordered x l qs body k h e =
    cond_both (nat_lt l.last.hi l.first.lo) None (Some (with_range x (values_between l) (head body qs k))) IfKnown (λ t. tt)
    (λ t. ordered_with (head body qs k) x (values_between l) (head_ordered body qs k h e) (ltb-false l.last.hi l.first.lo t))

for_after_ordered : (x : ℕ) (l : Limits) (qs : List Keep) (body : Block) (k : Facts) → IsOrdered k → keeps_hold qs k ≡ true → IfKnown (for_after x l qs body k)
for_after_ordered x l qs body k h e =
    cond_both (nat_lt l.last.hi l.first.lo) (Some k) (Some (with_range x (hull (range_at k.ranges x) (values_between l)) (head body qs k))) IfKnown (λ t. h)
    (λ t. let some : l.first.lo ≤ l.last.hi = ltb-false l.last.hi l.first.lo t in
    ordered_with (head body qs k) x (hull (range_at k.ranges x) (values_between l)) (head_ordered body qs k h e) (hull_ordered (range_at k.ranges x) (values_between l) (h.ranges x) some))

while_ordered : (around : Around) (spot : Spot) (most m : ℕ) (qs : List Keep) (body : Block) (k : Facts) → IsOrdered k → Allows (while_head around.body spot most m qs body k) IsOrdered
while_ordered around spot most m qs body k h =
    then_allowed (given_allowed (fall_of m body) _ spot _) (λ d u. required_allowed _ spot _ (λ a. required_allowed _ spot _ (λ e.
    allowed (from_0 (head body qs k) m (range_at k.ranges m).hi (head_ordered body qs k h e)))))

-- ---- statements

abbrev LeavesOrdered : Verdict → Type 0
LeavesOrdered v = IfKnown v.after

single_ordered : (c : Context) (around : Around) (spot : Spot) (size : WordSize) (f r : ℕ) (move : Move) (k : Facts) → IsOrdered k → Allows (single_rule c around spot size f r move k) LeavesOrdered
single_ordered c around spot size f r no_data k h =
    then_allowed (given_allowed (region_at k.registers r) _ spot _) (λ g u. then_allowed (anyway (command_widths c.plan spot f g)) (λ w v. required_allowed _ spot _ (λ t. allowed h)))
single_ordered c around spot size f r (into x) k h =
    required_allowed _ spot _ (λ a. then_allowed (given_allowed (region_at k.registers r) _ spot _) (λ g u. then_allowed (anyway (command_widths c.plan spot f g)) (λ w v.
    required_allowed _ spot _ (λ t. allowed (from_0 k x (2 ^ sized size w.hi - 1) h)))))
single_ordered c around spot size f r (from e) k h =
    then_allowed (anyway (range_of spot e k.ranges)) (λ v q. then_allowed (given_allowed (region_at k.registers r) _ spot _) (λ g u. then_allowed (anyway (command_widths c.plan spot f g)) (λ w p.
    required_allowed _ spot _ (λ t. required_allowed _ spot _ (λ b. allowed h)))))

-- one number alone
alone : (k : Facts) (x n : ℕ) → IsOrdered k → IsOrdered (with_range x (only n) k)
alone k x n h = ordered_with k x (only n) h (omega arith)

turns_ordered : (limit : Bounds → Bounds) (n x v last : ℕ) (check : Facts → Result Verdict Fault) → ((q : Facts) → IsOrdered q → Allows (check q) LeavesOrdered) → (k : Facts) → IsOrdered k
    → Allows (each_turns limit n x v last check k) LeavesOrdered
turns_ordered limit zero x v last check each k h = allowed (alone k x last h)
turns_ordered limit (suc n) x v last check each k h =
    then_allowed (each (with_range x (only v) k) (alone k x v h)) (λ turn o.
    then_allowed (reached_ordered unreached turn.after (each_turns limit n x (v + 1) last check) LeavesOrdered o tt (λ l m. turns_ordered limit n x (v + 1) last check each l m)) (λ rest q.
    allowed q))

each_ordered : (limit : Bounds → Bounds) (n x v last : ℕ) (check : Facts → Result Verdict Fault) → ((q : Facts) → IsOrdered q → Allows (check q) LeavesOrdered) → (k : Facts) → IsOrdered k
    → Allows (each_from limit n x v last check k) LeavesOrdered
each_ordered limit zero x v last check each k h = allowed h
each_ordered limit (suc n) x v last check each k h = turns_ordered limit (suc n) x v last check each k h

turn_ordered : (turn x v : ℕ) (check : Facts → Result Verdict Fault) → ((q : Facts) → IsOrdered q → Allows (check q) LeavesOrdered) → (k : Facts) → IsOrdered k
    → Allows (at_turn check x v turn k) IfKnown
turn_ordered zero x v check each k h = allowed (alone k x v h)
turn_ordered (suc turn) x v check each k h =
    then_allowed (each (with_range x (only v) k) (alone k x v h)) (λ left o.
    reached_ordered None left.after (at_turn check x (v + 1) turn) IfKnown o tt (λ l m. turn_ordered turn x (v + 1) check each l m))

mutual
  statement_ordered : (c : Context) (around : Around) (s : Statement) (k : Facts) → IsOrdered k → Allows (accept_statement c around s k) LeavesOrdered
  statement_ordered c around (assign spot x e) k h =
      then_allowed (range_ordered spot e k.ranges h.ranges) (λ r p. required_allowed _ spot _ (λ t. allowed (ordered_with k x r h p)))
  statement_ordered c around (set_register spot r e1 e2 e3) k h =
      then_allowed (range_ordered spot e1 k.ranges h.ranges) (λ a p. then_allowed (range_ordered spot e2 k.ranges h.ranges) (λ b q. then_allowed (range_ordered spot e3 k.ranges h.ranges) (λ d s.
      allowed (record { ranges = h.ranges; registers = set_with k.registers r (Some (region a b d)) h.registers (record { crates = p; stations = q; sub_addresses = s }) }))))
  statement_ordered c around (single spot size f r move) k h = single_ordered c around spot size f r move k h
  statement_ordered c around (address_scan spot f r1 r2 max x) k h =
      then_allowed (anyway (range_of spot max k.ranges)) (λ most u. required_allowed _ spot _ (λ a. then_allowed (given_allowed (region_at k.registers r1) _ spot _) (λ g v. then_allowed (given_allowed (region_at k.registers r2) _ spot _) (λ i w.
      required_allowed _ spot _ (λ b. required_allowed _ spot _ (λ d. required_allowed _ spot _ (λ e. required_allowed _ spot _ (λ t. allowed (from_0 k x (scan_kept (window_of g i) most.hi) h)))))))))
  statement_ordered c around (q_stop spot f r t max x) k h =
      then_allowed (anyway (range_of spot max k.ranges)) (λ most u. then_allowed (anyway (block_region c around spot f r t most.hi x k)) (λ g v. allowed (from_0 k x most.hi h)))
  statement_ordered c around (q_repeat spot f r t max limit x) k h =
      then_allowed (anyway (range_of spot max k.ranges)) (λ most u. then_allowed (anyway (range_of spot limit k.ranges)) (λ last w. then_allowed (anyway (block_region c around spot f r t most.hi x k)) (λ g v.
      allowed (from_0 k x (min most.hi last.hi) h))))
  statement_ordered c around (put spot e) k h =
      then_allowed (anyway (range_of spot e k.ranges)) (λ r u. required_allowed _ spot _ (λ t. allowed h))
  statement_ordered c around (crate_call spot which e) k h =
      then_allowed (anyway (range_of spot e k.ranges)) (λ r u. required_allowed _ spot _ (λ t. allowed h))
  statement_ordered c around (lam_call spot which l) k h =
      then_allowed (given_allowed (lam_region c l) _ spot _) (λ g u. then_allowed (anyway (command_widths c.plan spot _ g)) (λ w v. allowed h))
  statement_ordered c around (choose spot test a) k h =
      then_allowed (split_ordered spot test k h) (λ arms o.
      then_allowed (reached_ordered unreached arms.holds (accept_block c around a) LeavesOrdered o.holds tt (λ l m. block_ordered c around a l m)) (λ first p.
      allowed (joined first.after arms.fails p o.fails)))
  statement_ordered c around (choose_else spot test a b) k h =
      then_allowed (split_ordered spot test k h) (λ arms o.
      then_allowed (reached_ordered unreached arms.holds (accept_block c around a) LeavesOrdered o.holds tt (λ l m. block_ordered c around a l m)) (λ first p.
      then_allowed (reached_ordered unreached arms.fails (accept_block c around b) LeavesOrdered o.fails tt (λ l m. block_ordered c around b l m)) (λ second q.
      allowed (joined first.after second.after p q))))
  statement_ordered c around (for_ spot x e1 e2 keeps body) k h =
      then_allowed (for_may around spot x e1 e2 keeps k) (λ l e. then_allowed (anyway (if_reached unreached (for_head x l keeps body k) (accept_block c (with_fixed x around) body))) (λ turn u.
      required_allowed _ spot _ (λ t. allowed (for_after_ordered x l keeps body k h e))))
  statement_ordered c around (for_each spot x v last body) k h =
      then_allowed (anyway (each_begins around spot x v last)) (λ n u.
      then_allowed (each_ordered c.limit n x v last (accept_block c (with_fixed x around) body) (λ q o. block_ordered c (with_fixed x around) body q o) k h) (λ turns o. allowed o))
  statement_ordered c around (while_ spot test most m keeps body) k h =
      then_allowed (while_ordered around spot most m keeps body k h) (λ top o. then_allowed (split_ordered spot test top o) (λ arms q.
      then_allowed (anyway (if_reached unreached arms.holds (accept_block c around body))) (λ turn u. required_allowed _ spot _ (λ t. allowed q.fails))))
  statement_ordered c around (locked spot e body) k h =
      then_allowed (anyway (lock_rule c around spot e k)) (λ n u. then_allowed (block_ordered c (with_locked n around) body k h) (λ inner i. allowed i))
  statement_ordered c around (call spot p es) k h =
      then_allowed (anyway (ranges_of spot es k.ranges)) (λ rs u. then_allowed (given_allowed (slice_get c.procedures p) _ spot _) (λ q v. required_allowed _ spot _ (λ t. allowed h)))

  block_ordered : (c : Context) (around : Around) (b : Block) (k : Facts) → IsOrdered k → Allows (accept_block c around b k) LeavesOrdered
  block_ordered c around done k h = allowed h
  block_ordered c around (next s rest) k h =
      then_allowed (statement_ordered c around s k h) (λ first o.
      then_allowed (reached_ordered unreached first.after (accept_block c around rest) LeavesOrdered o tt (λ l m. block_ordered c around rest l m)) (λ second q. allowed q))

-- ---- places

found_so : {A : Type 0} (r : Result A Fault) (x : A) (P : A → Type 0) → Allows r P → r ≡ Ok x → P x
found_so r x P h e = (subst (λ q. Allows q P) e h).holds

known_so : (o : Known) (k : Facts) → IfKnown o → o ≡ Some k → IsOrdered k
known_so o k h e = subst IfKnown e h

mutual
  inside : (c : Context) (p : Place) (around : Around) (s : Statement) (k : Facts) → IsOrdered k → HasPlace c p around s k → IsOrdered p.known
  inside c p around (choose spot test a) k h i =
      let arms : Branches = i.0 in
      let o = found_so (split spot test k) arms AreOrdered (split_ordered spot test k h) i.1 in
      let t = i.2 in
      block_inside c p around a t.0 (known_so arms.holds t.0 o.holds t.1) t.2
  inside c p around (choose_else spot test a b) k h i =
      let arms : Branches = i.0 in
      let o = found_so (split spot test k) arms AreOrdered (split_ordered spot test k h) i.1 in
      ⊎_elim (λ t. block_inside c p around a t.0 (known_so arms.holds t.0 o.holds t.1) t.2)
      (λ t. block_inside c p around b t.0 (known_so arms.fails t.0 o.fails t.1) t.2) i.2
  inside c p around (locked spot e body) k h i = block_inside c p (with_locked i.0 around) body k h i.2
  inside c p around (for_ spot x e1 e2 keeps body) k h i =
      let l : Limits = i.0 in
      let e = found_so (for_limits around spot x e1 e2 keeps k) l (λ m. keeps_hold keeps k ≡ true) (for_may around spot x e1 e2 keeps k) i.1 in
      let t = i.2 in
      block_inside c p (with_fixed x around) body t.0 (known_so (for_head x l keeps body k) t.0 (for_head_ordered x l keeps body k h e) t.1) t.2
  inside c p around (for_each spot x v last body) k h i =
      let check : Facts → Result Verdict Fault = accept_block c (with_fixed x around) body in
      let turn = i.2 in
      let t = turn.2 in
      let o = found_so (at_turn check x v turn.0 k) (Some t.0) IfKnown (turn_ordered turn.0 x v check (λ q m. block_ordered c (with_fixed x around) body q m) k h) t.1 in
      block_inside c p (with_fixed x around) body t.0 o t.2
  inside c p around (while_ spot test most m keeps body) k h i =
      let top : Facts = i.0 in
      let o = found_so (while_head around.body spot most m keeps body k) top IsOrdered (while_ordered around spot most m keeps body k h) i.1 in
      let arms : Branches = i.2.0 in
      let q = found_so (split spot test top) arms AreOrdered (split_ordered spot test top o) i.2.1 in
      let t = i.2.2 in
      block_inside c p around body t.0 (known_so arms.holds t.0 q.holds t.1) t.2
  inside c p around s k h i = absurd i

  block_inside : (c : Context) (p : Place) (around : Around) (b : Block) (k : Facts) → IsOrdered k → BlockHasPlace c p around b k → IsOrdered p.known
  block_inside c p around done k h i = absurd i
  block_inside c p around (next s rest) k h i =
      ⊎_elim (λ e. subst (λ q. IsOrdered q.known) (sym e) h)
      (λ j. ⊎_elim (λ u. inside c p around s k h u)
      (λ v. let first : Verdict = v.0 in
      let o = found_so (accept_statement c around s k) first LeavesOrdered (statement_ordered c around s k h) v.1 in
      let t = v.2 in
      block_inside c p around rest t.0 (known_so first.after t.0 o t.1) t.2)
      j) i

parameters_ordered : (ps : List Parameter) → can_be_called ps ≡ true → (x : ℕ) → (range_at (map parameter_range ps) x).lo ≤ (range_at (map parameter_range ps) x).hi
parameters_ordered [] e x = omega arith
parameters_ordered (p ∷ ps) e zero = leb-true p.low p.high (and_parts (nat_le p.low p.high) (can_be_called ps) e).0
parameters_ordered (p ∷ ps) e (suc x) = parameters_ordered ps (and_parts (nat_le p.low p.high) (can_be_called ps) e).1 x

start_ordered : (k : Facts) → IsStart k → IsOrdered k
start_ordered k s =
    ⊎_elim (λ e. subst IsOrdered (sym e) (record { ranges = λ x. omega arith; registers = λ r. tt }))
    (λ q. let t = some_if (can_be_called q.0) (facts (map parameter_range q.0) []) k q.1 in
    subst IsOrdered t.1 (record { ranges = parameters_ordered q.0 t.0; registers = λ r. tt })) s

pub registers_have_addresses : RegistersHaveAddresses
registers_have_addresses c around body start p s i r g e =
    let o = block_inside c p around body start (start_ordered start s) i in
    subst IfSet e (o.registers r)
