-- Behaviours all of whose cycles are on a list: those of single actions, of transfers and of loops.
use Rattle.std.proofs.Common.{◌≡◌, ℕ, List, ◌++◌, Option, Some, None, true, refl, sym, subst, ◌∙◌, ◌+◌, ◌<◌, ◌≤◌, Bool, false, [], ◌∷◌, Result, Ok, Err, ap, arith, zero, suc}
use Rattle.std.proofs.lemmas.Bool.{and_from, or_left, or_right, eq-eqb, le-leb, and_parts, cond_both, eqb-true, ltb-true}
use Rattle.std.proofs.lemmas.List.Folds.{list_any-append}
use Rattle.std.specs.List.{list_any}
use Rattle.std.specs.Prelude.{◌&&◌, nat_eq, nat_le, nat_lt, option_map, slice_get, if◌then◌else◌}
use Rattle.camac_range.specs.Interval.{Interval, IsWithin, interval}
use Rattle.camac_branch.specs.Address.{Address}
use Rattle.camac_branch.specs.Allowed.{width}
use Rattle.camac_branch.specs.Plan.{Layout}
use Rattle.camac_model.specs.State.{State, stepped, with_variable}
use Rattle.camac_model.specs.Behaviour.{Piece, demanded, cycled, lock_taken, lock_released, event_left, Behaviour, does, ends, stops, Stop, Action, then_do, given, unless_wrong, more, decide}
use Rattle.camac_model.specs.Headline.{no_count, nothing}
use Rattle.camac_model.specs.Moments.{Meets, Any, AnyStop}
use Rattle.camac_model.specs.Cycle.{cycle, sized, kept}
use Rattle.camac_model.specs.Meaning.{fits_size, act, transfer_to, sent, effect, for_state, for_turns, turns}
use Rattle.camac_model.specs.Value.{value, truth}
use Rattle.camac_model.proofs.Rules.{cycle_meets, unless_meets, transfer_meets}
use Rattle.camac_rules.specs.Known.{Region, region, region_at, Facts, with_range}
use Rattle.camac_rules.specs.Fault.{Fault}
use Rattle.camac_rules.specs.Expressions.{range_of}
use Rattle.camac_rules.specs.Calls.{single_region, lam_region, crate_rule, lam_rule}
use Rattle.camac_rules.specs.Cycles.{single_rule}
use Rattle.camac_rules.specs.Transfers.{has_sub_addresses, block_region, scan_rule, q_stop_rule, q_repeat_rule}
use Rattle.camac_rules.specs.Conditions.{Branches}
use Rattle.camac_rules.specs.Costs.{loop_costs, Verdict}
use Rattle.camac_rules.specs.Loops.{Limits, head, turns_between, values_between, turn_bound}
use Rattle.camac_rules.proofs.Stores.{InRegion, Place, around_of, Inside, fixing, Reaches}
use Rattle.camac_rules.proofs.Sound.{step, SafePiece, StopsWell, stepped_reaches}
use Rattle.camac_rules.proofs.Allows.{Allows, allowed, then_allowed, required_allowed, given_allowed, allowed_more}
use Rattle.camac_rules.proofs.Values.{range_each, only_within, Fits}
use Rattle.camac_rules.proofs.Actions.{Setting, of, seen, value_of, address_of}
use Rattle.camac_rules.proofs.Conditions.{Decides}
use Rattle.camac_rules.proofs.ForLoops as counting
use Rattle.camac_rules.proofs.WhileLoops as turning
use Rattle.camac_commands.specs.Commands.{Command, is_told, lies_in, IsListed, made_at, span, told_region, called_at}
use Rattle.camac_lang.specs.declared.spot.Spot.{Spot}
use Rattle.camac_lang.specs.declared.word.CrateCall.{CrateCall}
use Rattle.camac_lang.specs.declared.word.CrateCall.TheVariants.{Initialise, Clear, InhibitOn, InhibitOff, TestInhibit, DemandOn, DemandOff, TestDemandOutput, TestDemand}
use Rattle.camac_lang.specs.declared.word.LamCall.{LamCall}
use Rattle.camac_lang.specs.declared.word.WordSize.{WordSize}
use Rattle.camac_lang.specs.declared.word.WordSize.TheVariants.{Full}
use Rattle.camac_lang.specs.Tree.{Expression, Move, no_data, into, from, single, address_scan, q_stop, q_repeat, crate_call, lam_call, Condition, Keep, Block}
use Rattle.camac_func.specs.declared.data.DataMove.TheVariants as moved
use Rattle.camac_esone.specs.Calls.{crate_address, crate_function, lam_function}
use Rattle.camac_esone.specs.Transfers.{NextAddress, tally, successor, next_station, address_after, q_stop_next, q_repeat_next, scan_next}
use Rattle.camac_esone.proofs.QStopLists as stop
use Rattle.camac_esone.proofs.QRepeatLists as repeats
use Rattle.camac_esone.proofs.ScanLists.{wanted_goes_on, by_station}
use Rattle.camac_check_rows.specs.Statements.{at_region, between, in_crates}

-- Behaviours all of whose cycles are on a list: they stay so as the list grows, and part by part.

abbrev pub Listed : List Command → Behaviour State → Type 0
Listed cs b = Meets no_count (IsListed cs) AnyStop Any nothing b

pub inside_lies : (g : Region) (at : Address) → InRegion g at → lies_in g at ≡ true
inside_lies g at h =
    let both : (i : Interval) (n : ℕ) → IsWithin i n → (nat_le i.lo n && nat_le n i.hi) ≡ true =
    λ i n w. and_from (nat_le i.lo n) (nat_le n i.hi) (le-leb i.lo n w.low) (le-leb n i.hi w.high) in
    and_from (nat_le g.crates.lo at.crate_no && nat_le at.crate_no g.crates.hi) _ (both g.crates at.crate_no h.crate_no)
    (and_from (nat_le g.stations.lo at.station && nat_le at.station g.stations.hi) _ (both g.stations at.station h.station)
    (both g.sub_addresses at.sub_address h.sub_address))

-- a cycle at a known address
pub told_at : (spot : Spot) (f : ℕ) (g : Region) (at : Address) → InRegion g at → list_any (is_told at f) (made_at spot f (Some g)) ≡ true
told_at spot f g at h = or_left (nat_eq f f && lies_in g at) _ (and_from (nat_eq f f) (lies_in g at) (eq-eqb f f refl) (inside_lies g at h))

listed_piece : (cs ds : List Command) → ((at : Address) (f : ℕ) → list_any (is_told at f) cs ≡ true → list_any (is_told at f) ds ≡ true) → (p : Piece) → IsListed cs nothing p → IsListed ds nothing p
listed_piece cs ds further (demanded p v) h = tt
listed_piece cs ds further (cycled at f d r w) h = further at f h
listed_piece cs ds further (lock_taken c w) h = tt
listed_piece cs ds further (lock_released c) h = tt
listed_piece cs ds further (event_left e) h = tt

pub listed_more : (cs ds : List Command) → ((at : Address) (f : ℕ) → list_any (is_told at f) cs ≡ true → list_any (is_told at f) ds ≡ true) → (b : Behaviour State) → Listed cs b → Listed ds b
listed_more cs ds further (does p b) h = (listed_piece cs ds further p h.0, listed_more cs ds further b h.1)
listed_more cs ds further (ends s) h = tt
listed_more cs ds further (stops w s) h = tt

-- a behaviour on the first list, and one on the second, are on both together
pub listed_first : (cs ds : List Command) (b : Behaviour State) → Listed cs b → Listed (cs ++ ds) b
listed_first cs ds b h = listed_more cs (cs ++ ds) (λ at f e. list_any-append (is_told at f) cs ds ∙ or_left (list_any (is_told at f) cs) _ e) b h

pub listed_second : (cs ds : List Command) (b : Behaviour State) → Listed ds b → Listed (cs ++ ds) b
listed_second cs ds b h = listed_more ds (cs ++ ds) (λ at f e. list_any-append (is_told at f) cs ds ∙ or_right (list_any (is_told at f) cs) (list_any (is_told at f) ds) e) b h

-- one part and then another, from what holds at the end of the first
pub listed_then : (cs : List Command) (S : Unit {0} → Piece → Type 0) (P : Unit {0} → Stop → State → Type 0) (Q : Unit {0} → State → Type 0) (b : Behaviour State) (go : Action)
    → Meets step S P Q tt b → Listed cs b → ((t : State) → Q tt t → Listed cs (go t)) → Listed cs (then_do b go)
listed_then cs S P Q (does p b) go h k f = (k.0, listed_then cs S P Q b go h.1 k.1 f)
listed_then cs S P Q (ends t) go h k f = f t h
listed_then cs S P Q (stops w t) go h k f = tt

-- goes on with what is there
pub listed_given : {A : Type 0} (cs : List Command) (o : Option A) (go : A → Action) (v : A) (s : State) → o ≡ Some v → Listed cs (go v s) → Listed cs (given o go s)
listed_given cs o go v s e h = subst (λ p. Listed cs (given p go s)) (sym e) h

pub listed_any : {A : Type 0} (cs : List Command) (o : Option A) (go : A → Action) (s : State) → ((v : A) → o ≡ Some v → Listed cs (go v s)) → Listed cs (given o go s)
listed_any cs None go s h = tt
listed_any cs (Some v) go s h = h v refl

-- What is accepted of single actions and transfers makes only the commands that are told of it.

-- what holds of any result
pub always : {A : Type 0} {P : Type 0} (r : Result A Fault) → P → Allows r (λ _. P)
always (Ok x) p = record { holds = p }
always (Err f) p = record { holds = tt }

-- what holds of a result, and which it is
pub with_result : {A : Type 0} {r : Result A Fault} {P : A → Type 0} → Allows r P → Allows r (λ x. (r ≡ Ok x) × P x)
with_result {r = Ok x} h = record { holds = (refl, h.holds) }
with_result {r = Err f} h = record { holds = tt }

alone : (at : Address) → InRegion (single_region at) at
alone at = record { crate_no = only_within at.crate_no; station = only_within at.station; sub_address = only_within at.sub_address }

-- ---- one cycle

pub act_listed : (cs : List Command) (plan : Layout) (at : Address) (f : ℕ) (size : WordSize) (m : Move) (s : State) → list_any (is_told at f) cs ≡ true → Listed cs (act plan at f size m s)
act_listed cs plan at f size no_data s told =
    cycle_meets no_count (IsListed cs) AnyStop Any nothing plan at f moved.None s.answers (λ r. ends) s (λ _. tt) (λ _. tt) (λ waits a rest e g p. tt) (λ waits a rest e g p. (told, tt))
act_listed cs plan at f size (into x) s told =
    cycle_meets no_count (IsListed cs) AnyStop Any nothing plan at f moved.In s.answers (λ r t. ends (with_variable x (kept (sized size (width plan at f)) r) t)) s
    (λ _. tt) (λ _. tt) (λ waits a rest e g p. tt) (λ waits a rest e g p. (told, tt))
act_listed cs plan at f size (from e) s told =
    let send : ℕ → Action = λ v t. cycle plan at f (moved.Out v) t.answers (λ r. ends) t in
    listed_any cs (value e s.variables) (λ v. unless_wrong (fits_size size v) (send v)) s (λ v _.
    unless_meets no_count (IsListed cs) AnyStop Any nothing (fits_size size v) (send v) s (λ _. tt) (λ _.
    cycle_meets no_count (IsListed cs) AnyStop Any nothing plan at f (moved.Out v) s.answers (λ r. ends) s (λ _. tt) (λ _. tt) (λ waits a rest e g p. tt) (λ waits a rest e g p. (told, tt))))

-- the addresses that the row of a statement with this register tells
abbrev known_at : Facts → ℕ → Option Region
known_at k r = told_region (at_region (region_at k.registers r))

-- the register is set, and its addresses are known
record IsSet (r : ℕ) (k : Facts) : Type 0 where
  addresses : Region
  is : region_at k.registers r ≡ Some addresses

set_by : (r : ℕ) (k : Facts) (g : Region) → region_at k.registers r ≡ Some g → IsSet r k
set_by r k g e = record { addresses = g; is = e }

at_register : (around : Place) (spot : Spot) (f r : ℕ) (k : Facts) → IsSet r k → (s : State) → Inside around k s → (go : Address → Action)
    → ((at : Address) → list_any (is_told at f) (made_at spot f (known_at k r)) ≡ true → Listed (made_at spot f (known_at k r)) (go at (stepped s)))
    → Listed (made_at spot f (known_at k r)) (given (s.registers r) go (stepped s))
at_register around spot f r k set s i go h =
    let cs : List Command = made_at spot f (known_at k r) in
    let a = address_of (region_at k.registers r) (s.registers r) set.addresses set.is (i.registers r) in
    listed_given cs (s.registers r) go a.at (stepped s) a.is
    (h a.at (subst (λ o. list_any (is_told a.at f) (made_at spot f (told_region (at_region o))) ≡ true) (sym set.is) (told_at spot f set.addresses a.at a.inside)))

single_set : (c : Setting) (around : Place) (spot : Spot) (size : WordSize) (f r : ℕ) (m : Move) (k : Facts) → Allows (single_rule (seen c) (around_of around) spot size f r m k) (λ v. IsSet r k)
single_set c around spot size f r no_data k = then_allowed (given_allowed (region_at k.registers r) _ spot _) (λ g set. always _ (set_by r k g set))
single_set c around spot size f r (into x) k =
    required_allowed _ spot _ (λ may. then_allowed (given_allowed (region_at k.registers r) _ spot _) (λ g set. always _ (set_by r k g set)))
single_set c around spot size f r (from e) k =
    then_allowed (range_each spot e k.ranges) (λ v gives. then_allowed (given_allowed (region_at k.registers r) _ spot _) (λ g set. always _ (set_by r k g set)))

pub single_listed : (c : Setting) (around : Place) (n : ℕ) (spot : Spot) (size : WordSize) (f r : ℕ) (m : Move) (k : Facts)
    → Allows (single_rule (seen c) (around_of around) spot size f r m k) (λ v. (s : State) → Inside around k s → Listed (made_at spot f (known_at k r)) (effect (of c) n (single spot size f r m) (stepped s)))
single_listed c around n spot size f r m k =
    allowed_more (single_set c around spot size f r m k) (λ v set s i.
    at_register around spot f r k set s i (λ at. act c.plan at f size m) (λ at told. act_listed (made_at spot f (known_at k r)) c.plan at f size m (stepped s) told))

-- ---- calls of the controller and of look-at-mes

pub lam_listed : (c : Setting) (around : Place) (n : ℕ) (spot : Spot) (which : LamCall) (l : ℕ) (k : Facts)
    → Allows (lam_rule (seen c) (around_of around) spot which l k) (λ v. (s : State) → Inside around k s → Listed (made_at spot (lam_function which) (told_region (at_region (lam_region (seen c) l)))) (effect (of c) n (lam_call spot which l) (stepped s)))
lam_listed c around n spot which l k = always _ (λ s i. go (slice_get c.lams l) refl s)
  where
    go : (o : Option Address) → slice_get c.lams l ≡ o → (s : State) → Listed (made_at spot (lam_function which) (told_region (at_region (option_map single_region o)))) (given o (λ at. act c.plan at (lam_function which) Full no_data) (stepped s))
    go None e s = tt
    go (Some at) e s =
        act_listed (made_at spot (lam_function which) (Some (single_region at))) c.plan at (lam_function which) Full no_data (stepped s)
        (told_at spot (lam_function which) (single_region at) at (alone at))

-- ---- transfers

pub transfer_listed : (cs : List Command) (plan : Layout) (f : ℕ) (table : Option (List ℕ)) (next_address : NextAddress) (x : ℕ) (s : State)
    → ((qs : List Bool) (at : Address) → next_address qs ≡ Some at → list_any (is_told at f) cs ≡ true) → Listed cs (transfer_to plan f table next_address x s)
transfer_listed cs plan f table next_address x s told =
    transfer_meets no_count (IsListed cs) AnyStop Any plan f table next_address (λ qs t. ends (with_variable x (tally qs) t)) (λ u qs t. Unit {0})
    (record {
      no_word = λ u qs t at i e none. tt;
      no_crate = λ u qs t at i e none. tt;
      no_answer = λ u qs t at i e none. tt;
      no_wait = λ u qs t at waits a rest i e there l p. tt;
      keeps = λ u qs t at d waits a rest i e data' there l p. (told qs at e, tt);
    })
    (λ u qs t i e. tt) s.answers nothing [] s refl tt

block_set : (c : Setting) (around : Place) (spot : Spot) (f r : ℕ) (t : Option ℕ) (most x : ℕ) (k : Facts) → Allows (block_region (seen c) (around_of around) spot f r t most x k) (λ g. IsSet r k)
block_set c around spot f r t most x k =
    required_allowed _ spot _ (λ may. then_allowed (given_allowed (region_at k.registers r) _ spot _) (λ g set. always _ (set_by r k g set)))

pub q_stop_listed : (c : Setting) (around : Place) (n : ℕ) (spot : Spot) (f r : ℕ) (t : Option ℕ) (e : Expression) (x : ℕ) (k : Facts)
    → Allows (q_stop_rule (seen c) (around_of around) spot f r t e x k) (λ v. (s : State) → Inside around k s → Listed (made_at spot f (known_at k r)) (effect (of c) n (q_stop spot f r t e x) (stepped s)))
q_stop_listed c around n spot f r t e x k =
    then_allowed (range_each spot e k.ranges) (λ most gives.
    then_allowed (block_set c around spot f r t most.hi x k) (λ g set. allowed (λ s i.
    let cs : List Command = made_at spot f (known_at k r) in
    let go : Option (List ℕ) → Address → Action = λ o at. given (value e s.variables) (λ m. transfer_to c.plan f o (q_stop_next at m) x) in
    listed_any cs (sent (of c) t) (λ o. given (s.registers r) (go o)) (stepped s) (λ o _.
    at_register around spot f r k set s i (go o) (λ at told.
    listed_any cs (value e s.variables) (λ m. transfer_to c.plan f o (q_stop_next at m) x) (stepped s) (λ m _.
    transfer_listed cs c.plan f o (q_stop_next at m) x (stepped s) (λ qs to w.
    subst (λ a. list_any (is_told a f) cs ≡ true) (sym (stop.wanted_goes_on at to m qs w).1) told)))))))

pub q_repeat_listed : (c : Setting) (around : Place) (n : ℕ) (spot : Spot) (f r : ℕ) (t : Option ℕ) (e1 e2 : Expression) (x : ℕ) (k : Facts)
    → Allows (q_repeat_rule (seen c) (around_of around) spot f r t e1 e2 x k) (λ v. (s : State) → Inside around k s → Listed (made_at spot f (known_at k r)) (effect (of c) n (q_repeat spot f r t e1 e2 x) (stepped s)))
q_repeat_listed c around n spot f r t e1 e2 x k =
    then_allowed (range_each spot e1 k.ranges) (λ most gives_m.
    then_allowed (range_each spot e2 k.ranges) (λ limit gives_l.
    then_allowed (block_set c around spot f r t most.hi x k) (λ g set. allowed (λ s i.
    let cs : List Command = made_at spot f (known_at k r) in
    let last : Option (List ℕ) → Address → ℕ → Action = λ o at m. given (value e2 s.variables) (λ l. transfer_to c.plan f o (q_repeat_next at m l) x) in
    let go : Option (List ℕ) → Address → Action = λ o at. given (value e1 s.variables) (last o at) in
    listed_any cs (sent (of c) t) (λ o. given (s.registers r) (go o)) (stepped s) (λ o _.
    at_register around spot f r k set s i (go o) (λ at told.
    listed_any cs (value e1 s.variables) (last o at) (stepped s) (λ m _.
    listed_any cs (value e2 s.variables) (λ l. transfer_to c.plan f o (q_repeat_next at m l) x) (stepped s) (λ l _.
    transfer_listed cs c.plan f o (q_repeat_next at m l) x (stepped s) (λ qs to w.
    subst (λ a. list_any (is_told a f) cs ≡ true) (sym (repeats.wanted_goes_on at to m l qs w).1) told)))))))))

-- a scan stays in its crate, from the first station on, at sub-addresses that there are
record HasGone (first at : Address) : Type 0 where
  crate_no : at.crate_no ≡ first.crate_no
  station : first.station ≤ at.station
  sub_address : at.sub_address ≤ 15

one_on : (at : Address) (q : Bool) → at.sub_address ≤ 15 → HasGone at (successor q at)
one_on at false le = record { crate_no = refl; station = omega arith; sub_address = omega arith }
one_on at true le =
    cond_both (nat_lt at.sub_address 15) (record at { sub_address = at.sub_address + 1 }) (next_station at) (HasGone at)
    (λ e. let lt : at.sub_address < 15 = ltb-true at.sub_address 15 e in record { crate_no = refl; station = omega arith; sub_address = omega arith })
    (λ e. record { crate_no = refl; station = omega arith; sub_address = omega arith })

gone_to : (at : Address) (qs : List Bool) → at.sub_address ≤ 15 → HasGone at (address_after at qs)
gone_to at [] le = record { crate_no = refl; station = omega arith; sub_address = le }
gone_to at (q ∷ qs) le =
    let one = one_on at q le in
    let all = gone_to (successor q at) qs one.sub_address in
    record { crate_no = all.crate_no ∙ one.crate_no; station = omega (arith, one.station, all.station); sub_address = all.sub_address }

record AreSet (r1 r2 : ℕ) (k : Facts) : Type 0 where
  first : IsSet r1 k
  last : IsSet r2 k
  few : first.addresses.sub_addresses.hi < 16

scan_set : (c : Setting) (around : Place) (spot : Spot) (f r1 r2 : ℕ) (e : Expression) (x : ℕ) (k : Facts) → Allows (scan_rule (seen c) (around_of around) spot f r1 r2 e x k) (λ v. AreSet r1 r2 k)
scan_set c around spot f r1 r2 e x k =
    then_allowed (range_each spot e k.ranges) (λ most gives.
    required_allowed _ spot _ (λ may.
    then_allowed (given_allowed (region_at k.registers r1) _ spot _) (λ g set1.
    then_allowed (given_allowed (region_at k.registers r2) _ spot _) (λ h set2.
    required_allowed _ spot _ (λ one.
    required_allowed _ spot _ (λ installed.
    required_allowed _ spot _ (λ declared.
    always _ (record {
      first = record { addresses = g; is = set1 };
      last = record { addresses = h; is = set2 };
      few = ltb-true g.sub_addresses.hi 16 (and_parts (has_sub_addresses g) _ declared).0;
    }))))))))

in_span : (g h : Region) (first last at : Address) (qs : List Bool) (m : ℕ) → InRegion g first → InRegion h last → g.sub_addresses.hi < 16 → scan_next first last m qs ≡ Some at
    → InRegion (region g.crates (interval g.stations.lo h.stations.hi) (interval 0 15)) at
in_span g h first last at qs m i j few e =
    let w = wanted_goes_on first last at m qs e in
    let gone = gone_to first qs (omega (arith, i.sub_address.high)) in
    let until = by_station last (address_after first qs) w.0.by in
    subst (InRegion (region g.crates (interval g.stations.lo h.stations.hi) (interval 0 15))) (sym w.1)
    (record {
      crate_no = record { low = omega (arith, gone.crate_no, i.crate_no.low); high = omega (arith, gone.crate_no, i.crate_no.high) };
      station = record { low = omega (arith, gone.station, i.station.low); high = omega (arith, until, j.station.high) };
      sub_address = record { low = omega arith; high = gone.sub_address };
    })

-- where there is one, there are such stations
has_stations : (g h : Region) (at : Address) → InRegion (region g.crates (interval g.stations.lo h.stations.hi) (interval 0 15)) at
    → span g h ≡ Some (region g.crates (interval g.stations.lo h.stations.hi) (interval 0 15))
has_stations g h at i =
    let low = i.station.low in
    let high = i.station.high in
    let some : g.stations.lo ≤ h.stations.hi = omega (arith, low, high) in
    ap (λ b. option_map (λ stations. region g.crates stations (interval 0 15)) (if b then Some (interval g.stations.lo h.stations.hi) else None)) (le-leb g.stations.lo h.stations.hi some)

pub scan_listed : (c : Setting) (around : Place) (n : ℕ) (spot : Spot) (f r1 r2 : ℕ) (e : Expression) (x : ℕ) (k : Facts)
    → Allows (scan_rule (seen c) (around_of around) spot f r1 r2 e x k)
    (λ v. (s : State) → Inside around k s → Listed (made_at spot f (told_region (between (region_at k.registers r1) (region_at k.registers r2)))) (effect (of c) n (address_scan spot f r1 r2 e x) (stepped s)))
scan_listed c around n spot f r1 r2 e x k =
    allowed_more (scan_set c around spot f r1 r2 e x k) (λ v set s i.
    let g = set.first.addresses in
    let h = set.last.addresses in
    let told : Option Region = told_region (between (region_at k.registers r1) (region_at k.registers r2)) in
    let cs : List Command = made_at spot f told in
    let is : told ≡ span g h =
    ap (λ o. told_region (between o (region_at k.registers r2))) set.first.is ∙ ap (λ o. told_region (between (Some g) o)) set.last.is in
    let a = address_of (region_at k.registers r1) (s.registers r1) g set.first.is (i.registers r1) in
    let b = address_of (region_at k.registers r2) (s.registers r2) h set.last.is (i.registers r2) in
    let go : Address → Address → ℕ → Action = λ first last m. transfer_to c.plan f None (scan_next first last m) x in
    let third : Address → Address → ℕ → Action = λ first last m. unless_wrong (nat_eq first.crate_no last.crate_no) (go first last m) in
    let second : Address → Address → Action = λ first last. given (value e s.variables) (third first last) in
    listed_given cs (s.registers r1) (λ first. given (s.registers r2) (second first)) a.at (stepped s) a.is
    (listed_given cs (s.registers r2) (second a.at) b.at (stepped s) b.is
    (listed_any cs (value e s.variables) (third a.at b.at) (stepped s) (λ m _.
    unless_meets no_count (IsListed cs) AnyStop Any nothing (nat_eq a.at.crate_no b.at.crate_no) (go a.at b.at m) (stepped s) (λ _. tt) (λ _.
    transfer_listed cs c.plan f None (scan_next a.at b.at m) x (stepped s) (λ qs to w.
    let there = in_span g h a.at b.at to qs m a.inside b.inside set.few w in
    subst (λ o. list_any (is_told to f) (made_at spot f o) ≡ true) (sym (is ∙ has_stations g h to there))
    (told_at spot f (region g.crates (interval g.stations.lo h.stations.hi) (interval 0 15)) to there)))))))

-- ---- a crate call, whose crate is one number

call_crate : (which : CrateCall) (c : ℕ) → (crate_address which c).crate_no ≡ c
call_crate Initialise c = refl
call_crate Clear c = refl
call_crate InhibitOn c = refl
call_crate InhibitOff c = refl
call_crate TestInhibit c = refl
call_crate DemandOn c = refl
call_crate DemandOff c = refl
call_crate TestDemandOutput c = refl
call_crate TestDemand c = refl

pub crate_listed : (c : Setting) (around : Place) (n : ℕ) (spot : Spot) (which : CrateCall) (e : Expression) (k : Facts)
    → Allows (crate_rule (seen c) (around_of around) spot e k)
    (λ v. (s : State) → Inside around k s → Listed (made_at spot (crate_function which) (called_at which (in_crates (range_of spot e k.ranges)))) (effect (of c) n (crate_call spot which e) (stepped s)))
crate_listed c around n spot which e k =
    then_allowed (with_result (range_each spot e k.ranges)) (λ r known.
    required_allowed _ spot _ (λ fit. allowed (λ s i.
    let at : Address = crate_address which r.lo in
    let f : ℕ = crate_function which in
    let call : ℕ → Action = λ m. act c.plan (crate_address which m) f Full no_data in
    let v = value_of (value e s.variables) r (known.1 s.variables i.variables) in
    let one : r.lo ≡ r.hi = eqb-true r.lo r.hi (and_parts (nat_eq r.lo r.hi) _ fit).0 in
    let low = v.fits.within.low in
    let high = v.fits.within.high in
    let same : v.number ≡ r.lo = omega arith in
    let place : Region = record (single_region at) { crates = r } in
    let there : at.crate_no ≡ r.lo = call_crate which r.lo in
    let inside : InRegion place at = record { crate_no = record { low = omega (arith, there); high = omega (arith, there, one) }; station = only_within at.station; sub_address = only_within at.sub_address } in
    let cs : List Command = made_at spot f (Some place) in
    subst (λ q. Listed (made_at spot f (called_at which (in_crates q))) (given (value e s.variables) call (stepped s))) (sym known.0)
    (listed_given cs (value e s.variables) call r.lo (stepped s) (v.is ∙ ap (λ m. Some m) same)
    (act_listed cs c.plan at f Full no_data (stepped s) (told_at spot f place at inside))))))

-- The turns of loops, each of which makes only what its body may.

-- of a `for`, from a state between them
module _ (plan : Layout) (around : Place) (x : ℕ) (qs : List Keep) (body : Block) (k : Facts) (l : Limits) (turn : Verdict) (run : Action) (h : counting.Checked plan around x body qs k l turn run)
    (s : State) (i : Inside around k s) (v w : ℕ) (f : Fits l.first v) (g : Fits l.last w) (cs : List Command)
    (lists : (t : State) → Inside (fixing x around) (with_range x (values_between l) (head body qs k)) t → Listed cs (run t)) where
  pub for_listed : (left allowed current : ℕ) (t : State) → counting.Turned plan around x body qs k l turn run h s i v w f g left current t → Listed cs (for_turns left allowed x current w run t)
  for_listed zero n current t b = tt
  for_listed (suc j) zero current t b = tt
  for_listed (suc j) (suc n) current t b =
      let u : State = for_state x current t in
      listed_then cs (SafePiece plan) (StopsWell (loop_costs (turns_between l) turn.costs) s) (λ y. counting.Turned plan around x body qs k l turn run h s i v w f g j (current + 1)) (run u) (for_turns j n x (current + 1) w run)
      (counting.one_turn plan around x body qs k l turn run h s i v w f g j current t b)
      (lists u (counting.turn_begins plan around x body qs k l turn run h s i v w f g j current t b))
      (λ y q. for_listed j n (current + 1) y q)

-- of a `while`
module _ (plan : Layout) (around : Place) (test : Condition) (most m fall : ℕ) (qs : List Keep) (body : Block) (k : Facts) (arms : Branches) (turn : Verdict) (run : Action)
    (h : turning.Checked plan around test most m fall qs body k arms turn run) (s : State) (i : Inside around k s) (cs : List Command)
    (lists : (t : State) → Reaches around arms.holds t → Listed cs (run t)) where
  abbrev Left : ℕ → ℕ → State → Type 0
  Left left allowed t = turning.Turned plan around test most m fall qs body k arms turn run h s i left allowed t

  turn_listed : (left n : ℕ) (t : State) → ((j : ℕ) (u : State) → Left j n u → Listed cs (turns n test run u)) → Left left (suc n) t → Reaches around arms.holds t
      → Listed cs (then_do (run (stepped t)) (turns n test run))
  turn_listed zero n t others b r = absurd (turning.one_is_left plan around test most m fall qs body k arms turn run h s i (suc n) t b r)
  turn_listed (suc left) n t others b r =
      listed_then cs (SafePiece plan) (StopsWell (loop_costs (turn_bound arms.holds most) turn.costs) s) (λ y. Left left n) (run (stepped t)) (turns n test run)
      (turning.one_turn plan around test most m fall qs body k arms turn run h s i n left t b r)
      (lists (stepped t) (stepped_reaches around arms.holds t r)) (λ u q. others left u q)

  by_test : (o : Option Bool) (go : Action) (t : State) → Decides around o arms t → (Reaches around arms.holds t → Listed cs (go t)) → Listed cs (decide o go ends t)
  by_test None go t d f = tt
  by_test (Some true) go t d f = f d
  by_test (Some false) go t d f = tt

  pub while_listed : (left allowed : ℕ) (t : State) → Left left allowed t → Listed cs (turns allowed test run t)
  while_listed left zero t b =
      none_left (truth test t.variables t.q t.x)
    where
      none_left : (o : Option Bool) → Listed cs (decide o (stops more) ends t)
      none_left None = tt
      none_left (Some true) = tt
      none_left (Some false) = tt
  while_listed left (suc n) t b =
      by_test (truth test t.variables t.q t.x) (λ u. then_do (run (stepped u)) (turns n test run)) t
      (turning.decided plan around test most m fall qs body k arms turn run h s i left (suc n) t (truth test t.variables t.q t.x) b refl)
      (λ r. turn_listed left n t (λ j u q. while_listed j n u q) b r)
