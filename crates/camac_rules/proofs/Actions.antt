-- What the rules accept of single cycles, single actions, crate calls and LAM calls runs safely.
use Rattle.std.proofs.Common.{◌≡◌, ℕ, ◌+◌, ◌<◌, ◌≤◌, Bool, true, false, List, [], ◌∷◌, length, Some, refl, sym, ap, ◌∙◌, subst, ◌⊎◌, inl, inr, ⊎_elim, arith, Option, None, ◌-◌, ◌%◌, ◌^◌}
use Rattle.std.proofs.lemmas.Bool.{eqb-true, leb-true, false≢true, cond_both, and_parts, ltb-true, le-leb, not-true}
use Rattle.std.proofs.Math.Nat.{mod-lt, pow-le-pow_right, le_trans}
use Rattle.std.proofs.lemmas.Nat.{pow_pos}
use Rattle.std.specs.Prelude.{◌||◌, nat_eq, nat_le, unwrap_or, if◌then◌else◌, nat_lt, ◌&&◌, option_map, option_and_then, slice_get}
use Rattle.std.specs.Option.{option_or}
use Rattle.camac_range.specs.Interval.{Interval, IsWithin, interval, only}
use Rattle.camac_branch.specs.Address.{Address}
use Rattle.camac_branch.specs.Branch.{Reply, Answer, reply_to, Branch, effect_in, branch_after, with_crate}
use Rattle.camac_branch.specs.Plan.{Layout, crate_waits, declared_width}
use Rattle.camac_branch.specs.Allowed.{allowed, width, controller_width}
use Rattle.camac_crate.specs.Lock.{permitted}
use Rattle.camac_crate.specs.declared.command.ControllerOp.{ControllerOp}
use Rattle.camac_crate.specs.Controller.{controller}
use Rattle.camac_crate.specs.State.{CrateBits, effect}
use Rattle.camac_model.specs.State.{State, stepped, Variables, set_at, with_variable}
use Rattle.camac_model.specs.Behaviour.{Action, ends, given, unless_wrong}
use Rattle.camac_model.specs.Cycle.{cycle, after_cycle, sized, kept}
use Rattle.camac_model.specs.Safe.{IsSafe}
use Rattle.camac_model.specs.Fine.{Bounds}
use Rattle.camac_model.specs.Value.{value}
use Rattle.camac_model.specs.Meaning.{Context, fits_size, act, effect as effect_of_meaning}
use Rattle.camac_model.proofs.Rules.{cycle_meets}
use Rattle.camac_func.specs.declared.data.DataMove.{DataMove}
use Rattle.camac_func.specs.declared.code.FunctionClass.{FunctionClass}
use Rattle.camac_func.specs.declared.code.FunctionClass.TheVariants.{Read, Write, Control}
use Rattle.camac_func.specs.Class.{class_of, fits}
use Rattle.camac_func.specs.declared.data.DataMove.TheVariants as moved
use Rattle.camac_rules.specs.Known.{Facts, Known, Region, region_at, with_range}
use Rattle.camac_rules.specs.Walks.{count_below}
use Rattle.camac_rules.specs.Costs.{costs}
use Rattle.camac_rules.specs.Addresses.{crate_end, is_among, waits_in, cycle_cost, in_plan}
use Rattle.camac_rules.specs.Cycles as rules
use Rattle.camac_rules.specs.Cycles.{may_write, same_class, control_rule, read_rule, write_rule, single_rule}
use Rattle.camac_rules.specs.Calls.{is_crate, crate_rule, single_region, lam_rule}
use Rattle.camac_rules.proofs.Stores.{Place, Inside, around_of, InRegion, IsSetInside, variables_write}
use Rattle.camac_rules.proofs.Walks.{greatest_from_at}
use Rattle.camac_rules.proofs.Sound.{AreEasy, Paid, step, SafePiece, StopsWell, EndsWell, Sound, SoundFor}
use Rattle.camac_rules.proofs.Allows.{Allows, allowed as allows, then_allowed, required_allowed, given_allowed}
use Rattle.camac_rules.proofs.Values.{Fits, Gives, range_each, only_within}
use Rattle.camac_rules.proofs.Regions.{IsAllowed, command_allowed, some_of}
use Rattle.camac_lang.specs.declared.word.WordSize.{WordSize}
use Rattle.camac_lang.specs.declared.word.WordSize.TheVariants.{Full, Short}
use Rattle.camac_lang.specs.Tree.{Expression, Procedure, Move, no_data, into, from, single, crate_call, lam_call}
use Rattle.camac_lang.specs.declared.spot.Spot.{Spot}
use Rattle.camac_lang.specs.declared.word.CrateCall.{CrateCall}
use Rattle.camac_lang.specs.declared.word.CrateCall.TheVariants.{Initialise, Clear, InhibitOn, InhibitOff, TestInhibit, DemandOn, DemandOff, TestDemandOutput, TestDemand}
use Rattle.camac_lang.specs.declared.word.LamCall as lam_word
use Rattle.camac_esone.specs.Calls.{crate_address, crate_function, lam_function}

-- One cycle at an address that is allowed.

-- A cycle leaves each crate locked or free as it was.

placed : (b : Branch) (c d : ℕ) (bits : CrateBits) → (with_crate c (record (b c) { bits = bits }) b d).locked ≡ (b d).locked
placed b c d bits =
    cond_both (nat_eq d c) (record (b c) { bits = bits }) (b d) (λ j. j.locked ≡ (b d).locked) (λ same. ap (λ i. (b i).locked) (sym (eqb-true d c same))) (λ other. refl)

effects_lock : (b : Branch) (c d : ℕ) (o : Option ControllerOp) → (effect_in c o b d).locked ≡ (b d).locked
effects_lock b c d None = refl
effects_lock b c d (Some op) = placed b c d (effect op (b c).bits)

pub cycle_locks : (b : Branch) (at : Address) (f d : ℕ) → (branch_after at f b d).locked ≡ (b d).locked
cycle_locks b at f d = effects_lock b at.crate_no d (controller at.station at.sub_address f)

either : (b c : Bool) → (b || c) ≡ true → (b ≡ true) ⊎ (c ≡ true)
either true c e = inl refl
either false c e = inr e

pub permitted_wait : (l : Bool) (waits wait : ℕ) → permitted l waits wait ≡ true → wait ≤ (if l then 0 else waits)
permitted_wait true waits wait e =
    ⊎_elim (λ z. let h : wait ≡ 0 = eqb-true wait 0 z in omega arith) (λ m. cc) (either (nat_eq wait 0) false e)
permitted_wait false waits wait e =
    ⊎_elim (λ z. let h : wait ≡ 0 = eqb-true wait 0 z in omega arith) (λ m. leb-true wait waits m) (either (nat_eq wait 0) (nat_le wait waits) e)

-- a wait that is permitted is one that is counted
wait_counted : (plan : Layout) (locked : List ℕ) (c waits wait : ℕ) → crate_waits plan c ≡ Some waits → permitted (is_among c locked) waits wait ≡ true → wait ≤ waits_in plan locked c
wait_counted plan locked c waits wait there p =
    let is : waits ≡ unwrap_or (crate_waits plan c) 0 = ap (λ o. unwrap_or o 0) (sym there) in
    subst (λ v. wait ≤ (if is_among c locked then 0 else v)) is (permitted_wait (is_among c locked) waits wait p)

pub cost_counted : (plan : Layout) (locked : List ℕ) (crates : Interval) (c waits wait : ℕ) → IsWithin crates c → c < 8 → crate_waits plan c ≡ Some waits → permitted (is_among c locked) waits wait ≡ true → 1 + wait ≤ cycle_cost plan locked crates
cost_counted plan locked crates c waits wait w below there p =
    let one = wait_counted plan locked c waits wait there p in
    let low = w.low in
    let high = w.high in
    let most = greatest_from_at (waits_in plan locked) crates.lo (count_below crate_end crates) c low (omega arith) in
    omega arith

-- a wait that is permitted where more crates are locked
pub permitted_inside : (a b : Bool) (waits wait : ℕ) → permitted (a || b) waits wait ≡ true → permitted a waits wait ≡ true
permitted_inside true b waits wait e = e
permitted_inside false false waits wait e = e
permitted_inside false true waits wait e =
    ⊎_elim (λ z. ap (λ t. t || nat_le wait waits) z) (λ m. cc) (either (nat_eq wait 0) false e)

-- one answer is used
pub record OneUsed (before after : List Answer) : Type 0 where
  pub count : length before ≤ length after + 1
  pub easy : AreEasy before → AreEasy after

pub used : (before : List Answer) (a : Answer) (rest : List Answer) → before ≡ a ∷ rest → OneUsed before rest
used before a rest e =
    let first : OneUsed (a ∷ rest) rest = record { count = omega arith; easy = λ h. h.1 } in
    subst (λ l. OneUsed l rest) (sym e) first

-- an answer without a wait is permitted
pub not_easy : (before : List Answer) (a : Answer) (rest : List Answer) (l : Bool) (waits : ℕ) → before ≡ a ∷ rest → permitted l waits a.wait ≡ false → AreEasy before → ⊥
not_easy before a rest l waits e p h =
    let easy : AreEasy (a ∷ rest) = subst AreEasy e h in
    false≢true (sym p ∙ ap (λ w. permitted l waits w) easy.0)

pub none_left : (before : List Answer) → before ≡ [] → length before ≡ 0
none_left before e = ap length e

pub paid_cycle : (at : Address) (f : ℕ) (r : Reply) (wait u : ℕ) (rest : List Answer) (s : State) → OneUsed s.answers rest → 1 + wait ≤ u → Paid (costs u 0 1) s (after_cycle at f r wait rest (stepped s))
paid_cycle at f r wait u rest s one le = record { cycles = omega arith; words = omega arith; steps = omega arith; are_words = λ h. h; answers = one.count; easy = one.easy }

pub inside_cycle : (around : Place) (k : Facts) (at : Address) (f : ℕ) (r : Reply) (wait : ℕ) (rest : List Answer) (s : State) → Inside around k s → Inside around k (after_cycle at f r wait rest (stepped s))
inside_cycle around k at f r wait rest s i = record {
  variables = i.variables;
  registers = i.registers;
  locks = λ c. cycle_locks s.branch at f c ∙ i.locks c;
}

pub cycle_sound : (plan : Layout) (around : Place) (after : Known) (s : State) (at : Address) (f : ℕ) (d : DataMove) (go : Reply → Action) (waits u : ℕ) → IsSafe plan at f d → crate_waits plan at.crate_no ≡ Some waits → ((wait : ℕ) → permitted (s.branch at.crate_no).locked waits wait ≡ true → 1 + wait ≤ u) → ((r : Reply) (wait : ℕ) (rest : List Answer) → OneUsed s.answers rest → 1 + wait ≤ u → Sound plan around after (costs u 0 1) s (go r (after_cycle at f r wait rest (stepped s)))) → Sound plan around after (costs u 0 1) s (cycle plan at f d s.answers go (stepped s))
cycle_sound plan around after s at f d go waits u safe there cost h =
    let c : Bounds = costs u 0 1 in
    let stopped : Paid c s (stepped s) = record { cycles = omega arith; words = omega arith; steps = omega arith; are_words = λ k. k; answers = omega arith; easy = λ k. k } in
    cycle_meets step (SafePiece plan) (StopsWell c s) (EndsWell around after c s) tt plan at f d s.answers go (stepped s)
    (λ e. cc)
    (λ e. record { of_answers = tt; paid = stopped; because = λ z. omega (arith, none_left s.answers e) })
    (λ w a rest e g p. record { of_answers = tt; paid = stopped; because = λ z. absurd (not_easy s.answers a rest (s.branch at.crate_no).locked w g p z) })
    (λ w a rest e g p.
    let same : w ≡ waits = cc in
    let q : permitted (s.branch at.crate_no).locked waits a.wait ≡ true = subst (λ v. permitted (s.branch at.crate_no).locked v a.wait ≡ true) same p in
    (safe, h (reply_to plan s.branch at f a) a.wait rest (used s.answers a rest g) (cost a.wait q)))

-- What the rules accept of single actions runs safely.

-- the widths of a plan are those of 24 lines at most
abbrev pub HasWidths : Layout → Type 0
HasWidths plan = (at : Address) (f w : ℕ) → allowed plan at f ≡ Some w → w ≤ 24

-- what a statement may refer to, for the meaning and for the rules, where each procedure has a body and a heading
pub record Setting : Type 0 where
  pub plan : Layout
  pub tables : List (List ℕ)
  pub lams : List Address
  pub routines : List (ℕ → Action)
  pub procedures : List Procedure

abbrev pub of : Setting → Context
of c = record { plan = c.plan; tables = c.tables; lams = c.lams; routines = c.routines }

abbrev pub seen : Setting → rules.Context
seen c = record { plan = c.plan; tables = c.tables; lams = c.lams; procedures = c.procedures; limit = λ k. k }

-- goes on with what is there
pub with_given : {A : Type 0} (plan : Layout) (around : Place) (after : Known) (c : Bounds) (s t : State) (o : Option A) (go : A → Action) (v : A) → o ≡ Some v → Sound plan around after c s (go v t) → Sound plan around after c s (given o go t)
with_given plan around after c s t o go v e h = subst (λ p. Sound plan around after c s (given p go t)) (sym e) h

pub with_test : (plan : Layout) (around : Place) (after : Known) (c : Bounds) (s t : State) (b : Bool) (go : Action) → b ≡ true → Sound plan around after c s (go t) → Sound plan around after c s (unless_wrong b go t)
with_test plan around after c s t b go e h = subst (λ p. Sound plan around after c s (unless_wrong p go t)) (sym e) h

-- a value that is in a range
pub record HasValue (o : Option ℕ) (r : Interval) : Type 0 where
  pub number : ℕ
  pub is : o ≡ Some number
  pub fits : Fits r number

pub value_of : (o : Option ℕ) (r : Interval) → Gives o r → HasValue o r
value_of None r g = absurd g
value_of (Some v) r g = record { number = v; is = refl; fits = g }

-- a register that is set
pub record HasAddress (o : Option Address) (g : Region) : Type 0 where
  pub at : Address
  pub is : o ≡ Some at
  pub inside : InRegion g at

pub address_of : (known : Option Region) (o : Option Address) (g : Region) → known ≡ Some g → IsSetInside known o → HasAddress o g
address_of None o g e i = cc
address_of (Some h) None g e i = absurd i
address_of (Some h) (Some at) g e i = record { at = at; is = refl; inside = subst (λ j. InRegion j at) (let same : h ≡ g = cc in same) i }

-- what a cycle at a known register may be
record CanCycle (plan : Layout) (around : Place) (g : Region) (w : Interval) (f : ℕ) (s : State) (o : Option Address) : Type 0 where
  at : Address
  is : o ≡ Some at
  allowed : IsAllowed plan at f w
  inside : InRegion g at

can_cycle : (plan : Layout) (around : Place) (g : Region) (w : Interval) (f r : ℕ) (k : Facts) (s : State) → region_at k.registers r ≡ Some g → ((at : Address) → InRegion g at → IsAllowed plan at f w) → Inside around k s → CanCycle plan around g w f s (s.registers r)
can_cycle plan around g w f r k s set every i =
    let a = address_of (region_at k.registers r) (s.registers r) g set (i.registers r) in
    record { at = a.at; is = a.is; allowed = every a.at a.inside; inside = a.inside }

pub reads : (k : FunctionClass) → same_class Read k ≡ true → fits k moved.In ≡ true
reads Read e = refl
reads Write e = e
reads Control e = e

pub writes : (k : FunctionClass) (v : ℕ) → same_class Write k ≡ true → fits k (moved.Out v) ≡ true
writes Read v e = e
writes Write v e = refl
writes Control v e = e

controls : (k : FunctionClass) → same_class Control k ≡ true → fits k moved.None ≡ true
controls Read e = e
controls Write e = e
controls Control e = refl

-- a cycle at an address that is allowed
pub allowed_sound : (plan : Layout) (around : Place) (after : Known) (k : Facts) (s : State) (crates w : Interval) (at : Address) (f : ℕ) (d : DataMove) (go : Reply → Action) (a : IsAllowed plan at f w) → IsWithin crates at.crate_no → Inside around k s → IsSafe plan at f d → ((reply : Reply) (wait : ℕ) (rest : List Answer) → OneUsed s.answers rest → 1 + wait ≤ cycle_cost plan around.locked crates → Sound plan around after (costs (cycle_cost plan around.locked crates) 0 1) s (go reply (after_cycle at f reply wait rest (stepped s)))) → Sound plan around after (costs (cycle_cost plan around.locked crates) 0 1) s (cycle plan at f d s.answers go (stepped s))
allowed_sound plan around after k s crates w at f d go a within i safe h =
    cycle_sound plan around after s at f d go a.waits (cycle_cost plan around.locked crates) safe a.in_plan
    (λ wait p. cost_counted plan around.locked crates at.crate_no a.waits wait within a.crate_below a.in_plan
    (permitted_inside (is_among at.crate_no around.locked) (around.outside at.crate_no) a.waits wait
    (ap (λ l. permitted l a.waits wait) (sym (i.locks at.crate_no)) ∙ p))) h

-- a cycle at a known register
register_sound : (plan : Layout) (around : Place) (after : Known) (k : Facts) (s : State) (g : Region) (w : Interval) (f r : ℕ) (d : DataMove) (go : Reply → Action) (a : CanCycle plan around g w f s (s.registers r)) → Inside around k s → IsSafe plan a.at f d → ((reply : Reply) (wait : ℕ) (rest : List Answer) → OneUsed s.answers rest → 1 + wait ≤ cycle_cost plan around.locked g.crates → Sound plan around after (costs (cycle_cost plan around.locked g.crates) 0 1) s (go reply (after_cycle a.at f reply wait rest (stepped s)))) → Sound plan around after (costs (cycle_cost plan around.locked g.crates) 0 1) s (cycle plan a.at f d s.answers go (stepped s))
register_sound plan around after k s g w f r d go a i safe h =
    allowed_sound plan around after k s g.crates w a.at f d go a.allowed a.inside.crate_no i safe h

-- the cycle ends where nothing more is done
pub cycle_ends : (plan : Layout) (around : Place) (k : Facts) (s : State) (at : Address) (f u : ℕ) (r : Reply) (wait : ℕ) (rest : List Answer) → Inside around k s → OneUsed s.answers rest → 1 + wait ≤ u → Sound plan around (Some k) (costs u 0 1) s (ends (after_cycle at f r wait rest (stepped s)))
cycle_ends plan around k s at f u r wait rest i one le = record {
  reaches = inside_cycle around k at f r wait rest s i;
  paid = paid_cycle at f r wait u rest s one le;
  untouched = λ y e. refl;
}

control_sound : (c : Setting) (around : Place) (spot : Spot) (size : WordSize) (f r : ℕ) (k : Facts) → Allows (control_rule (seen c) (around_of around) spot f r k) (SoundFor c.plan around (Some k) (λ n s. effect_of_meaning (of c) n (single spot size f r no_data) (stepped s)))
control_sound c around spot size f r k =
    then_allowed (given_allowed (region_at k.registers r) _ spot _) (λ g set.
    then_allowed (command_allowed c.plan spot f g) (λ w every.
    required_allowed _ spot _ (λ class. allows (record {
      each = λ n le s i.
          let a = can_cycle c.plan around g w f r k s set every i in
          with_given c.plan around (Some k) (costs (cycle_cost c.plan around.locked g.crates) 0 1) s (stepped s) (s.registers r) (λ at. act c.plan at f size no_data) a.at a.is
          (register_sound c.plan around (Some k) k s g w f r moved.None (λ reply. ends) a i
          (record { width = a.allowed.width; is_allowed = a.allowed.allowed; is_of_class = controls (class_of f) class; fits_width = tt })
          (λ reply wait rest one le. cycle_ends c.plan around k s a.at f (cycle_cost c.plan around.locked g.crates) reply wait rest i one le));
    }))))

sized_least : (size : WordSize) (v w : ℕ) → v ≤ w → sized size v ≤ sized size w
sized_least Full v w h = h
sized_least Short v w h = omega arith

sized_small : (size : WordSize) (w : ℕ) → sized size w ≤ w
sized_small Full w = omega arith
sized_small Short w = omega arith

pub pow_small : (w : ℕ) → w ≤ 24 → 2 ^ w ≤ 16777216
pow_small w h = let pos : 0 < 2 = omega arith in pow-le-pow_right pos h

-- what a read keeps of a word, at a width up to another
kept_fits : (size : WordSize) (w most word : ℕ) → w ≤ most → w ≤ 24 → Fits (interval 0 (2 ^ sized size most - 1)) (word % 2 ^ sized size w)
kept_fits size w most word h small =
    let pos : 0 < 2 = omega arith in
    let below : word % 2 ^ sized size w < 2 ^ sized size w = mod-lt word (pow_pos (sized size w)) in
    let more : 2 ^ sized size w ≤ 2 ^ sized size most = pow-le-pow_right pos (sized_least size w most h) in
    let few : 2 ^ sized size w ≤ 16777216 = pow_small (sized size w) (le_trans (sized_small size w) small) in
    record { within = record { low = omega arith; high = omega arith }; small = omega arith }

-- a variable that may be written is none of the loops around
pub written_other : (around : Place) (x v : ℕ) (env : Variables) → may_write (around_of around) x ≡ true → (y : ℕ) → is_among y around.fixed ≡ true → set_at x v env y ≡ env y
written_other around x v env may y among =
    cond_both (nat_eq y x) v (env y) (λ n. n ≡ env y)
    (λ e. let same : y ≡ x = eqb-true y x e in
    let no : is_among x around.fixed ≡ false = not-true (is_among x around.fixed) may in
    let yes' : is_among x around.fixed ≡ true = ap (λ z. is_among z around.fixed) (sym same) ∙ among in
    absurd (false≢true (sym no ∙ yes')))
    (λ e. refl)

pub inside_written : (around : Place) (k : Facts) (x v : ℕ) (r : Interval) (s : State) → Inside around k s → Fits r v → Inside around (with_range x r k) (with_variable x v s)
inside_written around k x v r s i f = record {
  variables = variables_write k.ranges s.variables x v r i.variables f.within f.small;
  registers = i.registers;
  locks = i.locks;
}

paid_written : (c : Bounds) (x v : ℕ) (s t : State) → Paid c s t → Paid c s (with_variable x v t)
paid_written c x v s t p = record { cycles = p.cycles; words = p.words; steps = p.steps; are_words = p.are_words; answers = p.answers; easy = p.easy }

read_sound : (c : Setting) → HasWidths c.plan → (around : Place) (spot : Spot) (size : WordSize) (f r x : ℕ) (k : Facts) → Allows (read_rule (seen c) (around_of around) spot size f r x k) (SoundFor c.plan around (Some k) (λ n s. effect_of_meaning (of c) n (single spot size f r (into x)) (stepped s)))
read_sound c narrow around spot size f r x k =
    required_allowed _ spot _ (λ may.
    then_allowed (given_allowed (region_at k.registers r) _ spot _) (λ g set.
    then_allowed (command_allowed c.plan spot f g) (λ w every.
    required_allowed _ spot _ (λ class. allows (record {
      each = λ n le s i.
          let u : ℕ = cycle_cost c.plan around.locked g.crates in
          let range : Interval = interval 0 (2 ^ sized size w.hi - 1) in
          let a = can_cycle c.plan around g w f r k s set every i in
          let go : Reply → Action = λ reply t. ends (with_variable x (kept (sized size (width c.plan a.at f)) reply) t) in
          with_given c.plan around (Some (with_range x range k)) (costs u 0 1) s (stepped s) (s.registers r) (λ at. act c.plan at f size (into x)) a.at a.is
          (register_sound c.plan around (Some (with_range x range k)) k s g w f r moved.In go a i
          (record { width = a.allowed.width; is_allowed = a.allowed.allowed; is_of_class = reads (class_of f) class; fits_width = tt })
          (λ reply wait rest one lt.
          let t : State = after_cycle a.at f reply wait rest (stepped s) in
          let is : a.allowed.width ≡ width c.plan a.at f = ap (λ o. unwrap_or o 24) (sym a.allowed.allowed) in
          let word : Fits range (kept (sized size (width c.plan a.at f)) reply) =
          subst (λ v. Fits range (reply.word % 2 ^ sized size v)) is
          (kept_fits size a.allowed.width w.hi reply.word a.allowed.high (narrow a.at f a.allowed.width a.allowed.allowed)) in
          let v : ℕ = kept (sized size (width c.plan a.at f)) reply in
          record {
            reaches = inside_written around k x v range t (inside_cycle around k a.at f reply wait rest s i) word;
            paid = paid_written (costs u 0 1) x v s t (paid_cycle a.at f reply wait u rest s one lt);
            untouched = written_other around x v s.variables may;
          }));
    })))))

-- a value up to one that fits the word's size
size_fits : (size : WordSize) (v most : ℕ) → v ≤ most → fits_size size most ≡ true → fits_size size v ≡ true
size_fits Full v most h e = refl
size_fits Short v most h e = le-leb v 65535 (le_trans h (leb-true most 65535 e))

write_sound : (c : Setting) (around : Place) (spot : Spot) (size : WordSize) (f r : ℕ) (e : Expression) (k : Facts) → Allows (write_rule (seen c) (around_of around) spot size f r e k) (SoundFor c.plan around (Some k) (λ n s. effect_of_meaning (of c) n (single spot size f r (from e)) (stepped s)))
write_sound c around spot size f r e k =
    then_allowed (range_each spot e k.ranges) (λ v gives.
    then_allowed (given_allowed (region_at k.registers r) _ spot _) (λ g set.
    then_allowed (command_allowed c.plan spot f g) (λ w every.
    required_allowed _ spot _ (λ class.
    required_allowed _ spot _ (λ fitting. allows (record {
      each = λ n le s i.
          let u : ℕ = cycle_cost c.plan around.locked g.crates in
          let a = can_cycle c.plan around g w f r k s set every i in
          let sent = value_of (value e s.variables) v (gives s.variables i.variables) in
          let both = and_parts (nat_lt v.hi (2 ^ w.lo)) (fits_size size v.hi) fitting in
          let pos : 0 < 2 = omega arith in
          let below : v.hi < 2 ^ w.lo = ltb-true v.hi (2 ^ w.lo) both.0 in
          let most : sent.number ≤ v.hi = sent.fits.within.high in
          let more : 2 ^ w.lo ≤ 2 ^ a.allowed.width = pow-le-pow_right pos a.allowed.low in
          let send : ℕ → Action = λ m t. cycle c.plan a.at f (moved.Out m) t.answers (λ reply. ends) t in
          with_given c.plan around (Some k) (costs u 0 1) s (stepped s) (s.registers r) (λ at. act c.plan at f size (from e)) a.at a.is
          (with_given c.plan around (Some k) (costs u 0 1) s (stepped s) (value e s.variables) (λ m. unless_wrong (fits_size size m) (send m)) sent.number sent.is
          (with_test c.plan around (Some k) (costs u 0 1) s (stepped s) (fits_size size sent.number) (send sent.number) (size_fits size sent.number v.hi most both.1)
          (register_sound c.plan around (Some k) k s g w f r (moved.Out sent.number) (λ reply. ends) a i
          (record { width = a.allowed.width; is_allowed = a.allowed.allowed; is_of_class = writes (class_of f) sent.number class; fits_width = omega arith })
          (λ reply wait rest one lt. cycle_ends c.plan around k s a.at f u reply wait rest i one lt))));
    }))))))

pub single_sound : (c : Setting) → HasWidths c.plan → (around : Place) (spot : Spot) (size : WordSize) (f r : ℕ) (m : Move) (k : Facts) → Allows (single_rule (seen c) (around_of around) spot size f r m k) (SoundFor c.plan around (Some k) (λ n s. effect_of_meaning (of c) n (single spot size f r m) (stepped s)))
single_sound c narrow around spot size f r no_data k = control_sound c around spot size f r k
single_sound c narrow around spot size f r (into x) k = read_sound c narrow around spot size f r x k
single_sound c narrow around spot size f r (from e) k = write_sound c around spot size f r e k

-- What the rules accept of crate calls and LAM calls runs safely.

-- the command of a crate call goes to its crate, moves no data, and is the controller's
goes_to : (which : CrateCall) (c : ℕ) → (crate_address which c).crate_no ≡ c
goes_to Initialise c = refl
goes_to Clear c = refl
goes_to InhibitOn c = refl
goes_to InhibitOff c = refl
goes_to TestInhibit c = refl
goes_to DemandOn c = refl
goes_to DemandOff c = refl
goes_to TestDemandOutput c = refl
goes_to TestDemand c = refl

moves_none : (which : CrateCall) → fits (class_of (crate_function which)) moved.None ≡ true
moves_none Initialise = refl
moves_none Clear = refl
moves_none InhibitOn = refl
moves_none InhibitOff = refl
moves_none TestInhibit = refl
moves_none DemandOn = refl
moves_none DemandOff = refl
moves_none TestDemandOutput = refl
moves_none TestDemand = refl

is_controllers : (plan : Layout) (which : CrateCall) (c waits : ℕ) → crate_waits plan c ≡ Some waits → controller_width plan (crate_address which c) (crate_function which) ≡ Some 24
is_controllers plan Initialise c waits e = ap (λ (o : Option ℕ). option_and_then (λ _. Some 24) o) e
is_controllers plan Clear c waits e = ap (λ (o : Option ℕ). option_and_then (λ _. Some 24) o) e
is_controllers plan InhibitOn c waits e = ap (λ (o : Option ℕ). option_and_then (λ _. Some 24) o) e
is_controllers plan InhibitOff c waits e = ap (λ (o : Option ℕ). option_and_then (λ _. Some 24) o) e
is_controllers plan TestInhibit c waits e = ap (λ (o : Option ℕ). option_and_then (λ _. Some 24) o) e
is_controllers plan DemandOn c waits e = ap (λ (o : Option ℕ). option_and_then (λ _. Some 24) o) e
is_controllers plan DemandOff c waits e = ap (λ (o : Option ℕ). option_and_then (λ _. Some 24) o) e
is_controllers plan TestDemandOutput c waits e = ap (λ (o : Option ℕ). option_and_then (λ _. Some 24) o) e
is_controllers plan TestDemand c waits e = ap (λ (o : Option ℕ). option_and_then (λ _. Some 24) o) e

first_or : (o p : Option ℕ) (v : ℕ) → p ≡ Some v → (w : ℕ) × (option_or o p ≡ Some w)
first_or None p v e = (v, e)
first_or (Some w) p v e = (w, refl)

-- what is known of a crate that a call may go to
pub record IsCrate (plan : Layout) (r : Interval) (c : ℕ) : Type 0 where
  pub below : c < 8
  pub waits : ℕ
  pub in_plan : crate_waits plan c ≡ Some waits

pub crate_is : (plan : Layout) (r : Interval) (c : ℕ) → is_crate plan r ≡ true → IsWithin r c → IsCrate plan r c
crate_is plan r c e w =
    let p = and_parts (nat_eq r.lo r.hi) (nat_lt r.lo crate_end && in_plan plan r.lo) e in
    let q = and_parts (nat_lt r.lo crate_end) (in_plan plan r.lo) p.1 in
    let one : r.lo ≡ r.hi = eqb-true r.lo r.hi p.0 in
    let low = w.low in
    let high = w.high in
    let same : r.lo ≡ c = omega arith in
    let below : r.lo < 8 = ltb-true r.lo crate_end q.0 in
    let known = some_of (crate_waits plan r.lo) q.1 in
    record { below = omega arith; waits = known.0; in_plan = subst (λ d. crate_waits plan d ≡ Some known.0) same known.1 }

record CanCall (plan : Layout) (which : CrateCall) (c : ℕ) : Type 0 where
  width : ℕ
  allowed : IsAllowed plan (crate_address which c) (crate_function which) (only width)

can_call : (plan : Layout) (which : CrateCall) (r : Interval) (c : ℕ) → IsCrate plan r c → CanCall plan which c
can_call plan which r c is =
    let at : Address = crate_address which c in
    let found = first_or (declared_width plan at.crate_no at.station at.sub_address (crate_function which)) (controller_width plan at (crate_function which)) 24 (is_controllers plan which c is.waits is.in_plan) in
    let same : c ≡ at.crate_no = sym (goes_to which c) in
    record {
      width = found.0;
      allowed = record {
        crate_below = subst (λ d. d < 8) same is.below;
        waits = is.waits;
        in_plan = subst (λ d. crate_waits plan d ≡ Some is.waits) same is.in_plan;
        width = found.0;
        allowed = found.1;
        low = omega arith;
        high = omega arith;
      };
    }

pub crate_sound : (c : Setting) (around : Place) (spot : Spot) (which : CrateCall) (e : Expression) (k : Facts) → Allows (crate_rule (seen c) (around_of around) spot e k) (SoundFor c.plan around (Some k) (λ n s. effect_of_meaning (of c) n (crate_call spot which e) (stepped s)))
crate_sound c around spot which e k =
    then_allowed (range_each spot e k.ranges) (λ r gives.
    required_allowed _ spot _ (λ unfit. allows (record {
      each = λ n le s i.
          let u : ℕ = cycle_cost c.plan around.locked r in
          let v = value_of (value e s.variables) r (gives s.variables i.variables) in
          let at : Address = crate_address which v.number in
          let f : ℕ = crate_function which in
          let call = can_call c.plan which r v.number (crate_is c.plan r v.number unfit v.fits.within) in
          with_given c.plan around (Some k) (costs u 0 1) s (stepped s) (value e s.variables) (λ m. act c.plan (crate_address which m) f Full no_data) v.number v.is
          (allowed_sound c.plan around (Some k) k s r (only call.width) at f moved.None (λ reply. ends) call.allowed
          (subst (IsWithin r) (sym (goes_to which v.number)) v.fits.within) i
          (record { width = call.allowed.width; is_allowed = call.allowed.allowed; is_of_class = moves_none which; fits_width = tt })
          (λ reply wait rest one lt. cycle_ends c.plan around k s at f u reply wait rest i one lt));
    })))

lam_moves_none : (which : lam_word.LamCall) → fits (class_of (lam_function which)) moved.None ≡ true
lam_moves_none lam_word.TheVariants.Enable = refl
lam_moves_none lam_word.TheVariants.Disable = refl
lam_moves_none lam_word.TheVariants.Clear = refl
lam_moves_none lam_word.TheVariants.Test = refl

-- the address of a LAM, in its region
record HasLam (o : Option Address) (g : Region) : Type 0 where
  at : Address
  is : o ≡ Some at
  inside : InRegion g at

lam_of : (o : Option Address) (g : Region) → option_map single_region o ≡ Some g → HasLam o g
lam_of None g e = cc
lam_of (Some at) g e =
    let alone : InRegion (single_region at) at = record { crate_no = only_within at.crate_no; station = only_within at.station; sub_address = only_within at.sub_address } in
    let same : single_region at ≡ g = cc in
    record { at = at; is = refl; inside = subst (λ h. InRegion h at) same alone }

pub lam_sound : (c : Setting) (around : Place) (spot : Spot) (which : lam_word.LamCall) (l : ℕ) (k : Facts) → Allows (lam_rule (seen c) (around_of around) spot which l k) (SoundFor c.plan around (Some k) (λ n s. effect_of_meaning (of c) n (lam_call spot which l) (stepped s)))
lam_sound c around spot which l k =
    then_allowed (given_allowed (option_map single_region (slice_get c.lams l)) _ spot _) (λ g there.
    then_allowed (command_allowed c.plan spot (lam_function which) g) (λ w every. allows (record {
      each = λ n le s i.
          let u : ℕ = cycle_cost c.plan around.locked g.crates in
          let f : ℕ = lam_function which in
          let lam = lam_of (slice_get c.lams l) g there in
          let a = every lam.at lam.inside in
          with_given c.plan around (Some k) (costs u 0 1) s (stepped s) (slice_get c.lams l) (λ at. act c.plan at f Full no_data) lam.at lam.is
          (allowed_sound c.plan around (Some k) k s g.crates w lam.at f moved.None (λ reply. ends) a lam.inside.crate_no i
          (record { width = a.width; is_allowed = a.allowed; is_of_class = lam_moves_none which; fits_width = tt })
          (λ reply wait rest one lt. cycle_ends c.plan around k s lam.at f u reply wait rest i one lt));
    })))
