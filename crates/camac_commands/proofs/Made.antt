-- What is accepted and surely makes a command of some kind has made one where it ends: one induction over statements.
use Rattle.std.proofs.Common.{◌≡◌, ℕ, ◌+◌, ◌-◌, ◌<◌, ◌≤◌, zero, suc, List, [], Option, Some, None, Ok, Bool, true, false, refl, sym, ap, subst, arith}
use Rattle.std.specs.Prelude.{◌||◌, ◌&&◌, drop, nat_le, nat_lt, slice_get, if◌then◌else◌}
use Rattle.std.specs.List.{list_any}
use Rattle.std.proofs.lemmas.Bool.{and_parts, and_from, or_right, false≢true, ltb-true, leb-true, lt-ltb}
use Rattle.std.proofs.lemmas.Option.{same_Some}
use Rattle.camac_lang.specs.declared.word.LamCall.{LamCall}
use Rattle.camac_lang.specs.declared.word.WordSize.{WordSize}
use Rattle.camac_lang.specs.declared.word.WordSize.TheVariants.{Full}
use Rattle.camac_lang.specs.Tree.{Expression, number, Condition, Keep, Move, no_data, into, from, Statement, assign, set_register, single, address_scan, q_stop, q_repeat, put, crate_call, lam_call, choose, choose_else, for_, for_each, while_, locked, call, Block, done, next, Procedure}
use Rattle.camac_range.specs.Number.{greatest}
use Rattle.camac_range.specs.Interval.{only}
use Rattle.camac_func.specs.declared.data.DataMove.{DataMove}
use Rattle.camac_func.specs.declared.data.DataMove.TheVariants as moved
use Rattle.camac_branch.specs.Address.{Address}
use Rattle.camac_branch.specs.Allowed.{width}
use Rattle.camac_branch.specs.Branch.{Reply}
use Rattle.camac_branch.specs.Plan.{Layout, crate_waits}
use Rattle.camac_esone.specs.Calls.{lam_function}
use Rattle.camac_esone.specs.Transfers.{NextAddress, when, tally, q_stop_next, q_repeat_next}
use Rattle.camac_model.specs.State.{State, Variables, stepped, with_variable}
use Rattle.camac_model.specs.Behaviour.{Piece, demanded, cycled, lock_taken, lock_released, event_left, Behaviour, does, ends, stops, Stop, Action, then_do, given, decide, unless_wrong}
use Rattle.camac_model.specs.Cycle.{after_lock, take_lock, release, cycle, sized, kept}
use Rattle.camac_model.specs.Fine.{most_turns, AreInRanges}
use Rattle.camac_model.specs.Meaning.{fits_size, act, transfer_to, sent, for_state, for_turns, for_from, entered, enter, effect, block_meaning}
use Rattle.camac_model.specs.Moments.{Meets, AnyStop}
use Rattle.camac_model.specs.Value.{greatest, in_range, value, values, truth}
use Rattle.camac_model.proofs.Rules.{then_meets, given_meets, unless_meets, cycle_meets, transfer_meets, enter_meets, lock_meets}
use Rattle.camac_rules.specs.Refusal.{go_on, if_reached}
use Rattle.camac_rules.specs.Known.{Region, Facts, Known, with_range}
use Rattle.camac_rules.specs.Conditions.{Branches, branches, split}
use Rattle.camac_rules.specs.Costs.{Verdict, unreached}
use Rattle.camac_rules.specs.Cycles.{Context, Around}
use Rattle.camac_rules.specs.Calls.{lock_rule}
use Rattle.camac_rules.specs.Capped.{capped}
use Rattle.camac_rules.specs.Each.{each_from, each_rule}
use Rattle.camac_rules.specs.Procedures.{call_rule}
use Rattle.camac_rules.specs.Loops.{Limits, for_limits, for_head, head, keeps_hold_after, turns_between, values_between}
use Rattle.camac_rules.specs.Statements.{accept_statement, accept_block}
use Rattle.camac_rules.proofs.Allows.{Allows, allowed as allows, then_allowed, required_allowed, given_allowed, if_reached_allowed, allowed_more}
use Rattle.camac_rules.proofs.Stores.{Place, around_of, fixing, holding, Inside, Reaches}
use Rattle.camac_rules.proofs.Conditions.{Decides, split_each}
use Rattle.camac_rules.proofs.Values.{Fits}
use Rattle.camac_rules.proofs.Sound.{step, SafePiece, StopsWell, EndsWell, SoundFor, stepped_reaches}
use Rattle.camac_rules.proofs.Actions.{Setting, of, HasWidths, seen, value_of}
use Rattle.camac_rules.proofs.Held.{MayLock, CanLock, lock_allowed, lock_taken as still_held}
use Rattle.camac_rules.proofs.ForLoops as counting
use Rattle.camac_rules.proofs.ForLoops.{MayCount, limits_allowed}
use Rattle.camac_rules.proofs.Lockless.{has_lock, block_has_lock}
use Rattle.camac_rules.proofs.Routines.{AreSmall, Serves, AllFit, GiveAll, ranges_each, in_ranges, are_small}
use Rattle.camac_rules.proofs.Statements.{may_first, may_second, reached_sound, statement_sound, block_sound}
use Rattle.camac_check.proofs.Capped.{in_code}
use Rattle.camac_check_rows.specs.declared.row.Row.{Row}
use Rattle.camac_check_rows.specs.Rows.{found, Turning, turning_from, lock_inside, lock_head, block_verdict, statement_rows, block_rows}
use Rattle.camac_check_rows.specs.Turns.{turned, turns_over}
use Rattle.camac_commands.specs.Commands.{Command, is_told, behind, behind_block, made_at}
use Rattle.camac_commands.specs.Surely.{has_turn, is_some_number, surely, surely_block, made_one, AnyPiece, IsMade, TellsOf}
use Rattle.camac_commands.proofs.ByRows.{Over, over_block, listed_over, over_turn, over_next, over_arms, block_sorted}
use Rattle.camac_commands.proofs.Actions.{Listed, always, with_result, single_listed, q_stop_listed, q_repeat_listed, lam_listed}
use Rattle.camac_commands.proofs.Statements.{Matches, matches_at, both_allowed, each_begun, turn_begins}
use Rattle.camac_lang.specs.declared.spot.Spot.{Spot}

-- ---- behaviours that make a cycle that is meant

module _ (meant : Address → ℕ → Bool) where
  abbrev pub Makes : Behaviour State → Type 0
  Makes b = (x : Bool) → Meets (made_one meant) AnyPiece AnyStop IsMade x b

  -- what is made stays made
  stays : (x : Bool) → x ≡ true → (b : Behaviour State) → Meets (made_one meant) AnyPiece AnyStop IsMade x b
  stays x e (does (demanded p v) b) = (tt, stays x e b)
  stays x e (does (cycled at f d r w) b) = (tt, stays (x || meant at f) (ap (λ y. y || meant at f) e) b)
  stays x e (does (lock_taken c w) b) = (tt, stays x e b)
  stays x e (does (lock_released c) b) = (tt, stays x e b)
  stays x e (does (event_left w) b) = (tt, stays x e b)
  stays x e (ends s) = e
  stays x e (stops w s) = tt

  makes_first : (b : Behaviour State) (go : Action) → Makes b → Makes (then_do b go)
  makes_first b go h x = then_meets (made_one meant) AnyPiece AnyStop IsMade IsMade x b go (h x) (λ y s e. stays y e (go s))

  -- from what holds at the end of the first part
  makes_second : (S : Unit {0} → Piece → Type 0) (P : Unit {0} → Stop → State → Type 0) (Q : Unit {0} → State → Type 0) (b : Behaviour State) (go : Action)
      → Meets step S P Q tt b → ((t : State) → Q tt t → Makes (go t)) → Makes (then_do b go)
  makes_second S P Q (does p b) go h f x = (tt, makes_second S P Q b go h.1 f (made_one meant x p))
  makes_second S P Q (ends t) go h f x = f t h x
  makes_second S P Q (stops w t) go h f x = tt

  makes_given : {A : Type 0} (o : Option A) (go : A → Action) (v : A) (s : State) → o ≡ Some v → Makes (go v s) → Makes (given o go s)
  makes_given o go v s e h = subst (λ p. Makes (given p go s)) (sym e) h

  makes_any : {A : Type 0} (o : Option A) (go : A → Action) (s : State) → ((v : A) → o ≡ Some v → Makes (go v s)) → Makes (given o go s)
  makes_any None go s h = λ x. tt
  makes_any (Some v) go s h = h v refl

  -- all its cycles are on a list whose commands are meant, and it makes one
  listed_makes : (cs : List Command) → ((at : Address) (f : ℕ) → list_any (is_told at f) cs ≡ true → meant at f ≡ true)
      → (b : Behaviour State) → Listed cs b → Meets (made_one (λ at f. true)) AnyPiece AnyStop IsMade false b → Makes b
  listed_makes cs m (does (demanded p v) b) l h x = (tt, listed_makes cs m b l.1 h.1 x)
  listed_makes cs m (does (cycled at f d r w) b) l h x = (tt, stays (x || meant at f) (or_right x (meant at f) (m at f l.0)) b)
  listed_makes cs m (does (lock_taken c w) b) l h x = (tt, listed_makes cs m b l.1 h.1 x)
  listed_makes cs m (does (lock_released c) b) l h x = (tt, listed_makes cs m b l.1 h.1 x)
  listed_makes cs m (does (event_left w) b) l h x = (tt, listed_makes cs m b l.1 h.1 x)
  listed_makes cs m (ends s) l h x = absurd (false≢true h)
  listed_makes cs m (stops w s) l h x = tt

  -- a procedure of which this is told
  abbrev pub RoutineMakes : ℕ → Procedure → Bool → (ℕ → Action) → Type 0
  RoutineMakes n q b run = b ≡ true → (vs : List ℕ) → AreInRanges vs q.parameters → AreSmall vs → (s : State) → Makes (run n (entered vs s))

  by_or : (a b : Bool) (P : Type 0) → (a || b) ≡ true → (a ≡ true → P) → (b ≡ true → P) → P
  by_or true b P e first second = first refl
  by_or false b P e first second = second e

  -- the first of a list of at most one
  one_meant : (test : Command → Bool) → TellsOf test meant → (spot : Spot) (f : ℕ) (o : Option Region) → list_any test (made_at spot f o) ≡ true → (at : Address) (g : ℕ) → list_any (is_told at g) (made_at spot f o) ≡ true → meant at g ≡ true
  one_meant test tells spot f None e at g t = absurd (false≢true e)
  one_meant test tells spot f (Some r) e at g t =
      let d : Command = record { spot = spot; function = f; region = r } in
      by_or (test d) false (meant at g ≡ true) e (λ passes. by_or (is_told at g d) false (meant at g ≡ true) t (λ there. tells d passes at g there) (λ no. absurd (false≢true no))) (λ no. absurd (false≢true no))

-- what ends has made a cycle
abbrev Cycles : Behaviour State → Type 0
Cycles b = Meets (made_one (λ at f. true)) AnyPiece AnyStop IsMade false b

cycles_given : {A : Type 0} (o : Option A) (go : A → Action) (s : State) → ((v : A) → o ≡ Some v → Cycles (go v s)) → Cycles (given o go s)
cycles_given o go s h = given_meets (made_one (λ at f. true)) AnyPiece AnyStop IsMade false o go s (λ _. tt) h

cycle_cycles : (plan : Layout) (at : Address) (f : ℕ) (d : DataMove) (go : Reply → Action) (s : State) → ((r : Reply) (t : State) → Meets (made_one (λ at f. true)) AnyPiece AnyStop IsMade true (go r t)) → Cycles (cycle plan at f d s.answers go s)
cycle_cycles plan at f d go s h = cycle_meets (made_one (λ at f. true)) AnyPiece AnyStop IsMade false plan at f d s.answers go s (λ _. tt) (λ _. tt) (λ waits a rest e g p. tt) (λ waits a rest e g p. (tt, h _ _))

act_cycles : (plan : Layout) (at : Address) (f : ℕ) (size : WordSize) (m : Move) (s : State) → Cycles (act plan at f size m s)
act_cycles plan at f size no_data s = cycle_cycles plan at f moved.None (λ r. ends) s (λ r t. refl)
act_cycles plan at f size (into x) s = cycle_cycles plan at f moved.In (λ r t. ends (with_variable x (kept (sized size (width plan at f)) r) t)) s (λ r t. refl)
act_cycles plan at f size (from e) s =
    let send : ℕ → Action = λ v t. cycle plan at f (moved.Out v) t.answers (λ r. ends) t in
    cycles_given (value e s.variables) (λ v. unless_wrong (fits_size size v) (send v)) s (λ v _.
    unless_meets (made_one (λ at f. true)) AnyPiece AnyStop IsMade false (fits_size size v) (send v) s (λ _. tt) (λ _. cycle_cycles plan at f (moved.Out v) (λ r. ends) s (λ r t. refl)))

transfer_cycles : (plan : Layout) (f : ℕ) (table : Option (List ℕ)) (next_address : NextAddress) (x : ℕ) (s : State) → (next_address [] ≡ None → false ≡ true) → Cycles (transfer_to plan f table next_address x s)
transfer_cycles plan f table next_address x s first =
    transfer_meets (made_one (λ at f. true)) AnyPiece AnyStop IsMade plan f table next_address (λ qs t. ends (with_variable x (tally qs) t)) (λ y qs t. next_address qs ≡ None → y ≡ true)
    (record {
      no_word = λ y qs t at i e none. tt;
      no_crate = λ y qs t at i e none. tt;
      no_answer = λ y qs t at i e none. tt;
      no_wait = λ y qs t at waits a rest i e there l p. tt;
      keeps = λ y qs t at d waits a rest i e data' there l p. (tt, λ _. or_right y true refl);
    })
    (λ y qs t i e. i e) s.answers false [] s refl first

-- a number that has a value is that value
in_it : (n v : ℕ) → in_range n ≡ Some v → v ≡ n
in_it n v e = go (nat_le n greatest) e
  where
    go : (b : Bool) → (if b then Some n else None) ≡ Some v → v ≡ n
    go true h = sym (same_Some n v h)
    go false h = absurd (cc)

-- that of a number from 1 on wants a first cycle
one_wanted : (e : Expression) (env : Variables) (m : ℕ) → is_some_number e ≡ true → value e env ≡ Some m → nat_lt 0 m ≡ true
one_wanted (number a) env m e v = let same = in_it a m v in let le = leb-true 1 a e in lt-ltb 0 m (omega (arith, same, le))
one_wanted other env m e v = absurd (cc)

wanted : (b : Bool) (at : Address) → b ≡ true → when b at ≡ None → false ≡ true
wanted true at e none = absurd (cc)
wanted false at e none = e

module _ (c : Setting) (narrow : HasWidths c.plan) (serves : Serves c) (n : ℕ) (le : most_turns ≤ n) (test : Command → Bool) (meant : Address → ℕ → Bool) (tells : TellsOf test meant)
    (bs : List Bool) (matches : Matches (RoutineMakes meant n) c.routines c.procedures bs) where
  abbrev run : Block → Action
  run b = block_meaning (of c) n b

  abbrev rows_of : Place → Block → Known → List Row
  rows_of around b k = block_rows (in_code (seen c)) (around_of around) b k

  -- where it is sure by any rows that tell what these do
  abbrev MakesIt : Place → Statement → Facts → Type 0
  MakesIt around st k = (rows rest : List Row) → Over rows (statement_rows (in_code (seen c)) (around_of around) st (Some k)) rest → surely test bs st rows ≡ true
      → (s : State) → Inside around k s → Makes meant (effect (of c) n st (stepped s))

  abbrev BlockMakes : Place → Block → Known → Type 0
  BlockMakes around b k = (rows rest : List Row) → Over rows (rows_of around b k) rest → surely_block test bs b rows ≡ true → (s : State) → Reaches around k s → Makes meant (run b s)

  abbrev Accepted : Place → Block → Known → (Verdict → Type 0) → Type 0
  Accepted around b k P = Allows (if_reached unreached k (accept_block (seen c) (around_of around) b)) P

  reached_makes : (around : Place) (b : Block) (k : Known) → ((q : Facts) → Allows (accept_block (seen c) (around_of around) b q) (λ v. BlockMakes around b (Some q))) → Accepted around b k (λ v. BlockMakes around b k)
  reached_makes around b k h = if_reached_allowed unreached k (accept_block (seen c) (around_of around) b) (λ q v. BlockMakes around b q) (λ rows rest o e s r. absurd r) h

  single_makes : (around : Place) (spot : Spot) (size : WordSize) (f r : ℕ) (m : Move) (k : Facts) → Allows (accept_statement (seen c) (around_of around) (single spot size f r m) k) (λ v. MakesIt around (single spot size f r m) k)
  single_makes around spot size f r m k =
      allowed_more (single_listed c around n spot size f r m k) (λ v lists rows rest o e s i.
      listed_makes meant _ (one_meant meant test tells spot f _ e) (effect (of c) n (single spot size f r m) (stepped s)) (listed_over (single spot size f r m) _ rows rest o _ (lists s i))
      (cycles_given (s.registers r) (λ at. act c.plan at f size m) (stepped s) (λ at _. act_cycles c.plan at f size m (stepped s))))

  q_stop_makes : (around : Place) (spot : Spot) (f r : ℕ) (g : Option ℕ) (e : Expression) (x : ℕ) (k : Facts) → Allows (accept_statement (seen c) (around_of around) (q_stop spot f r g e x) k) (λ v. MakesIt around (q_stop spot f r g e x) k)
  q_stop_makes around spot f r g e x k =
      allowed_more (q_stop_listed c around n spot f r g e x k) (λ v lists rows rest own so s i.
      let both = and_parts (is_some_number e) _ so in
      let last : Option (List ℕ) → Address → ℕ → Action = λ o at m. transfer_to c.plan f o (q_stop_next at m) x in
      let go : Option (List ℕ) → Address → Action = λ o at. given (value e s.variables) (last o at) in
      listed_makes meant _ (one_meant meant test tells spot f _ both.1) (effect (of c) n (q_stop spot f r g e x) (stepped s)) (listed_over (q_stop spot f r g e x) _ rows rest own _ (lists s i))
      (cycles_given (sent (of c) g) (λ o. given (s.registers r) (go o)) (stepped s) (λ o _.
      cycles_given (s.registers r) (go o) (stepped s) (λ at _.
      cycles_given (value e s.variables) (last o at) (stepped s) (λ m is.
      transfer_cycles c.plan f o (q_stop_next at m) x (stepped s) (wanted (nat_lt 0 m) at (one_wanted e s.variables m both.0 is)))))))

  q_repeat_makes : (around : Place) (spot : Spot) (f r : ℕ) (g : Option ℕ) (e1 e2 : Expression) (x : ℕ) (k : Facts) → Allows (accept_statement (seen c) (around_of around) (q_repeat spot f r g e1 e2 x) k) (λ v. MakesIt around (q_repeat spot f r g e1 e2 x) k)
  q_repeat_makes around spot f r g e1 e2 x k =
      allowed_more (q_repeat_listed c around n spot f r g e1 e2 x k) (λ v lists rows rest own so s i.
      let both = and_parts (is_some_number e1 && is_some_number e2) _ so in
      let limits = and_parts (is_some_number e1) (is_some_number e2) both.0 in
      let last : Option (List ℕ) → Address → ℕ → ℕ → Action = λ o at m l. transfer_to c.plan f o (q_repeat_next at m l) x in
      let next_one : Option (List ℕ) → Address → ℕ → Action = λ o at m. given (value e2 s.variables) (last o at m) in
      let go : Option (List ℕ) → Address → Action = λ o at. given (value e1 s.variables) (next_one o at) in
      listed_makes meant _ (one_meant meant test tells spot f _ both.1) (effect (of c) n (q_repeat spot f r g e1 e2 x) (stepped s)) (listed_over (q_repeat spot f r g e1 e2 x) _ rows rest own _ (lists s i))
      (cycles_given (sent (of c) g) (λ o. given (s.registers r) (go o)) (stepped s) (λ o _.
      cycles_given (s.registers r) (go o) (stepped s) (λ at _.
      cycles_given (value e1 s.variables) (next_one o at) (stepped s) (λ m is.
      cycles_given (value e2 s.variables) (last o at m) (stepped s) (λ l its.
      transfer_cycles c.plan f o (q_repeat_next at m l) x (stepped s)
      (wanted (nat_lt 0 m && nat_lt 0 l) at (and_from (nat_lt 0 m) (nat_lt 0 l) (one_wanted e1 s.variables m limits.0 is) (one_wanted e2 s.variables l limits.1 its)))))))))

  lam_makes : (around : Place) (spot : Spot) (which : LamCall) (l : ℕ) (k : Facts) → Allows (accept_statement (seen c) (around_of around) (lam_call spot which l) k) (λ v. MakesIt around (lam_call spot which l) k)
  lam_makes around spot which l k =
      allowed_more (lam_listed c around n spot which l k) (λ v lists rows rest o e s i.
      listed_makes meant _ (one_meant meant test tells spot _ _ e) (effect (of c) n (lam_call spot which l) (stepped s)) (listed_over (lam_call spot which l) _ rows rest o _ (lists s i))
      (cycles_given (slice_get c.lams l) (λ at. act c.plan at (lam_function which) Full no_data) (stepped s) (λ at _. act_cycles c.plan at (lam_function which) Full no_data (stepped s))))

  call_makes : (around : Place) (spot : Spot) (p : ℕ) (es : List Expression) (k : Facts) → Allows (call_rule (seen c) spot p es k) (λ v. MakesIt around (call spot p es) k)
  call_makes around spot p es k =
      then_allowed (ranges_each spot es k.ranges) (λ rs gives.
      then_allowed (given_allowed (slice_get c.procedures p) _ spot _) (λ q is.
      required_allowed _ spot _ (λ fit. allows (λ rows rest o sure_so s i.
      let r = serves.each p q is in
      let makes = matches_at (RoutineMakes meant n) false c.routines c.procedures bs matches p q r.routine is r.is sure_so in
      makes_given meant (slice_get c.routines p) (λ routine. given (values es s.variables) (λ us. enter (routine n) us)) r.routine (stepped s) r.is
      (makes_any meant (values es s.variables) (λ us. enter (r.routine n) us) (stepped s) (λ vs e.
      let f : AllFit vs rs = subst (λ o. GiveAll o rs) e (gives s.variables i.variables) in
      λ x. enter_meets (made_one meant) AnyPiece AnyStop IsMade x (r.routine n) vs (stepped s) (makes vs (in_ranges vs rs q.parameters f fit) (are_small vs rs f) (stepped s) x)))))))

  by_test : (around : Place) (o : Option Bool) (arms : Branches) (first second : Action) (t : State)
      → Decides around o arms t → (Reaches around arms.holds t → Makes meant (first t)) → (Reaches around arms.fails t → Makes meant (second t)) → Makes meant (decide o first second t)
  by_test around None arms first second t d f g = λ x. tt
  by_test around (Some true) arms first second t d f g = f d
  by_test around (Some false) arms first second t d f g = g d

  choice_makes : (around : Place) (spot : Spot) (test' : Condition) (a b : Block) (k : Facts) (arms : Branches) → split spot test' k ≡ Ok arms
      → ((s : State) → Inside around k s → Decides around (truth test' s.variables s.q s.x) arms s) → BlockMakes around a arms.holds → BlockMakes around b arms.fails → MakesIt around (choose_else spot test' a b) k
  unfolding if_reached
  choice_makes around spot test' a b k arms is d first second rows rest o e s i =
      let t : State = stepped s in
      let middle : List Row = behind_block a (drop 1 rows) in
      let parts = subst (λ (w : Branches). Over (drop 1 rows) (rows_of around a w.holds) middle × Over (drop 1 middle) (rows_of around b w.fails) rest)
      (ap (λ q. found (branches None None) q) is) (over_arms (in_code (seen c)) (around_of around) spot test' a b (Some k) rows rest o) in
      let both = and_parts (surely_block test bs a (drop 1 rows)) (surely_block test bs b (drop 1 middle)) e in
      by_test around (truth test' s.variables s.q s.x) arms (run a) (run b) t (d t (stepped_reaches around (Some k) s i))
      (λ r. first (drop 1 rows) middle parts.0 both.0 t r) (λ r. second (drop 1 middle) rest parts.1 both.1 t r)

  lock_makes : (around : Place) (spot : Spot) (e : Expression) (body : Block) (k : Facts) (m : ℕ) → lock_rule (seen c) (around_of around) spot e k ≡ Ok m
      → CanLock c.plan around e k m → BlockMakes (holding m around) body (Some k) → MakesIt around (locked spot e body) k
  unfolding go_on if_reached
  lock_makes around spot e body k m is can makes rows rest o sure_so s i =
      let t : State = stepped s in
      let held : ℕ → Action = λ d u. then_do (run body u) (release d) in
      let take : ℕ → ℕ → Action = λ d waits u. take_lock d waits (u.branch d).locked (held d) u in
      let inner = subst (λ (j : Option ℕ). Over (drop 1 rows) (block_rows (in_code (seen c)) (lock_inside j (around_of around)) body (lock_head j (Some k))) rest)
      (ap (λ q. found None (go_on q (λ j. Ok (Some j)))) is) (over_block _ _ rows _ rest o (λ _. refl)) in
      makes_given meant (value e s.variables) (λ d. given (crate_waits c.plan d) (take d)) m t (can.is s i)
      (makes_any meant (crate_waits c.plan m) (take m) t (λ waits _ x.
      lock_meets (made_one meant) AnyPiece AnyStop IsMade x m waits (s.branch m).locked (held m) t (λ _. tt) (λ _. tt) (λ a left _ _. tt) (λ a left free g p. (
        tt,
        makes_first meant (run body (after_lock m a.wait left t)) (release m)
            (makes (drop 1 rows) rest inner sure_so (after_lock m a.wait left t) (record { variables = i.variables; registers = i.registers; locks = still_held around s.branch m i.locks })) x,
      ))))

  -- ---- a `for` that has a turn

  first_turn : (allowed left x v w : ℕ) (body : Action) (t : State) → Makes meant (body (for_state x v t)) → Makes meant (for_turns (suc left) allowed x v w body t)
  first_turn zero left x v w body t h = λ y. tt
  first_turn (suc m) left x v w body t h = makes_first meant (body (for_state x v t)) (for_turns left m x (v + 1) w body) h

  turns_make : (around : Place) (spot : Spot) (x : ℕ) (e1 e2 : Expression) (qs : List Keep) (body : Block) (k : Facts) (l : Limits) (turn : Verdict) → MayCount around x e1 e2 qs k l → keeps_hold_after qs turn.after ≡ true
      → (s : State) → Inside around k s → (v w : ℕ) → Fits l.first v → Fits l.last w → v ≤ w
      → (b : Bool) → nat_lt l.last.hi l.first.lo ≡ b → SoundFor c.plan (fixing x around) (if b then None else Some (with_range x (values_between l) (head body qs k))) (λ m. block_meaning (of c) m body) turn
      → ((t : State) → Reaches (fixing x around) (if b then None else Some (with_range x (values_between l) (head body qs k))) t → Makes meant (run body t))
      → Makes meant (for_from (w + 1 - v) n x v w (run body) (stepped s))
  turns_make around spot x e1 e2 qs body k l turn may keep s i v w f g has true e h makes =
      let less : l.last.hi < l.first.lo = ltb-true l.last.hi l.first.lo e in
      absurd (omega (arith, f.within.low, g.within.high))
  turns_make around spot x e1 e2 qs body k l turn may keep s i v w f g has false e h makes = go (w + 1 - v) refl
    where
      go : (j : ℕ) → j ≡ w + 1 - v → Makes meant (for_from j n x v w (run body) (stepped s))
      go zero is = absurd (omega arith)
      go (suc j) is =
          let checked = counting.checked c around spot x e1 e2 qs body k l turn may keep n le h in
          let before = counting.before_turns c.plan around x body qs k l turn (run body) checked s i v w f g (suc j) is (counting.entered c around spot x e1 e2 qs body k l turn may keep s i) in
          first_turn n j x v w (run body) (stepped s)
          (makes (for_state x v (stepped s)) (counting.turn_begins c.plan around x body qs k l turn (run body) checked s i v w f g j v (stepped s) before))

  in_order : (e1 e2 : Expression) (env : Variables) (v w : ℕ) → has_turn e1 e2 ≡ true → value e1 env ≡ Some v → value e2 env ≡ Some w → v ≤ w
  in_order (number a) (number b) env v w e p q =
      let one = in_it a v p in
      let two = in_it b w q in
      let less = leb-true a b e in
      omega (arith, one, two, less)
  in_order e1 e2 env v w e p q = absurd (cc)

  for_makes : (around : Place) (spot : Spot) (x : ℕ) (e1 e2 : Expression) (qs : List Keep) (body : Block) (k : Facts) (l : Limits) (turn : Verdict) → for_limits (around_of around) spot x e1 e2 qs k ≡ Ok l
      → MayCount around x e1 e2 qs k l → keeps_hold_after qs turn.after ≡ true → SoundFor c.plan (fixing x around) (for_head x l qs body k) (λ m. block_meaning (of c) m body) turn
      → BlockMakes (fixing x around) body (for_head x l qs body k) → MakesIt around (for_ spot x e1 e2 qs body) k
  unfolding go_on if_reached
  for_makes around spot x e1 e2 qs body k l turn is may keep sound makes rows rest o sure_so s i =
      let t : State = stepped s in
      let first = value_of (value e1 s.variables) l.first (may.first s i) in
      let last = value_of (value e2 s.variables) l.last (may.last s i) in
      let second : ℕ → ℕ → Action = λ v w. for_from (w + 1 - v) n x v w (run body) in
      let both = and_parts (has_turn e1 e2) (surely_block test bs body (drop 1 rows)) sure_so in
      let inner = subst (λ (w : Turning). Over (drop 1 rows) (rows_of (fixing x around) body w.head) rest)
      (ap (λ q. found (turning_from 0 None) (go_on q (λ j. Ok (turning_from (turns_between j) (for_head x j qs body k))))) is) (over_block _ _ rows _ rest o (λ _. refl)) in
      makes_given meant (value e1 s.variables) (λ v. given (value e2 s.variables) (second v)) first.number t first.is
      (makes_given meant (value e2 s.variables) (second first.number) last.number t last.is
      (turns_make around spot x e1 e2 qs body k l turn may keep s i first.number last.number first.fits last.fits (in_order e1 e2 s.variables first.number last.number both.0 first.is last.is)
      (nat_lt l.last.hi l.first.lo) refl sound (λ u r. makes (drop 1 rows) rest inner both.1 u r)))

  -- an `each` that has a turn: the first is one
  each_makes : (around : Place) (spot : Spot) (x v last : ℕ) (body : Block) → ((q : Facts) → Allows (accept_block (seen c) (around_of (fixing x around)) body q) (λ w. BlockMakes (fixing x around) body (Some q)))
      → (k : Facts) → Allows (each_rule (seen c) (around_of around) spot x v last (accept_block (seen c) (around_of (fixing x around)) body) k) (λ w. MakesIt around (for_each spot x v last body) k)
  each_makes around spot x v last body each k =
      then_allowed (each_begun (around_of around) spot x v last) (λ count may.
      then_allowed (first_makes may.0 count may.1) (λ turns makes. allows (λ rows rest o e s i.
      let both = and_parts (nat_le v last) (surely_block test bs body (drop 1 rows)) e in
      makes (leb-true v last both.0) (drop 1 rows) rest (over_block _ _ rows _ rest o (λ _. refl)) both.1 (stepped s) (stepped_reaches around (Some k) s i))))
    where
      code : Context
      code = in_code (seen c)

      within : Around
      within = around_of (fixing x around)

      first_makes : last ≤ greatest → (j : ℕ) → j ≡ last + 1 - v → Allows (each_from (λ w. w) j x v last (accept_block (seen c) within body) k)
          (λ w. v ≤ last → (rows rest : List Row) → Over rows (turns_over capped (last + 1 - v) x v (block_verdict code within body) (block_rows code within body) (Some k) (turned 0 (block_rows code within body None))).rows rest
          → surely_block test bs body rows ≡ true → (s : State) → Inside around k s → Makes meant (for_from (last + 1 - v) n x v last (run body) s))
      first_makes small zero is = allows (λ some. absurd (omega (arith, is, some)))
      first_makes small (suc j) is =
          then_allowed (each (with_range x (only v) k)) (λ turn makes. always _ (λ some rows rest o e s i.
          let none = turned 0 (block_rows code within body None) in
          let here = over_turn code within body capped j x v (block_verdict code within body) k none rows rest (block_sorted code within body None)
          (subst (λ m. Over rows (turns_over capped m x v (block_verdict code within body) (block_rows code within body) (Some k) none).rows rest) (sym is) o) in
          subst (λ m. Makes meant (for_from m n x v last (run body) s)) is
          (first_turn n j x v last (run body) s (makes rows rest here e (for_state x v s) (turn_begins around x last v small some k s i)))))

  -- ---- all statements, and blocks

  next_makes : (around : Place) (st : Statement) (others : Block) (k : Facts) (first : Verdict) → accept_statement (seen c) (around_of around) st k ≡ Ok first
      → SoundFor c.plan around (Some k) (λ m s. effect (of c) m st (stepped s)) first → MakesIt around st k → BlockMakes around others first.after → BlockMakes around (next st others) (Some k)
  next_makes around st others k first is sound one makes rows rest o e s i =
      let parts = over_next (seen c) (around_of around) st others k first is rows rest o in
      by_or meant (surely test bs st rows) (surely_block test bs others (behind st rows)) (Makes meant (then_do (effect (of c) n st (stepped s)) (run others))) e
      (λ here. makes_first meant (effect (of c) n st (stepped s)) (run others) (one rows (behind st rows) parts.0 here s i))
      (λ there. makes_second meant (SafePiece c.plan) (StopsWell first.costs s) (EndsWell around first.after first.costs s) (effect (of c) n st (stepped s)) (run others)
      (sound.each n le s i) (λ t q. makes (behind st rows) rest parts.1 there t q.reaches))

  mutual
    statement_makes : (around : Place) (st : Statement) → MayLock around (has_lock st) → (k : Facts) → Allows (accept_statement (seen c) (around_of around) st k) (λ v. MakesIt around st k)
    statement_makes around (assign spot x e) may k = always _ (λ rows rest o no. absurd (false≢true no))
    statement_makes around (set_register spot r e1 e2 e3) may k = always _ (λ rows rest o no. absurd (false≢true no))
    statement_makes around (single spot size f r m) may k = single_makes around spot size f r m k
    statement_makes around (address_scan spot f r1 r2 max x) may k = always _ (λ rows rest o no. absurd (false≢true no))
    statement_makes around (q_stop spot f r t max x) may k = q_stop_makes around spot f r t max x k
    statement_makes around (q_repeat spot f r t max limit x) may k = q_repeat_makes around spot f r t max limit x k
    statement_makes around (put spot e) may k = always _ (λ rows rest o no. absurd (false≢true no))
    statement_makes around (crate_call spot which e) may k = always _ (λ rows rest o no. absurd (false≢true no))
    statement_makes around (lam_call spot which l) may k = lam_makes around spot which l k
    statement_makes around (call spot p es) may k = call_makes around spot p es k
    statement_makes around (choose spot t a) may k = always _ (λ rows rest o no. absurd (false≢true no))
    statement_makes around (while_ spot t most m qs body) may k = always _ (λ rows rest o no. absurd (false≢true no))
    statement_makes around (choose_else spot t a b) may k =
        then_allowed (with_result (split_each around spot t k)) (λ arms d.
        then_allowed (reached_makes around a arms.holds (λ q. block_makes around a (may_first (block_has_lock a) (block_has_lock b) around may) q)) (λ first h.
        then_allowed (reached_makes around b arms.fails (λ q. block_makes around b (may_second (block_has_lock a) (block_has_lock b) around may) q)) (λ second g.
        allows (choice_makes around spot t a b k arms d.0 d.1 h g))))
    statement_makes around (locked spot e body) may k =
        then_allowed (with_result (lock_allowed c around spot e k)) (λ m can.
        then_allowed (block_makes (holding m around) body (λ h. may refl) k) (λ inner h.
        allows (lock_makes around spot e body k m can.0 can.1 h)))
    statement_makes around (for_ spot x e1 e2 qs body) may k =
        then_allowed (with_result (limits_allowed around spot x e1 e2 qs k)) (λ l m.
        then_allowed (both_allowed (reached_sound c (fixing x around) body (for_head x l qs body k) (λ q. block_sound c narrow serves (fixing x around) body may q))
        (reached_makes (fixing x around) body (for_head x l qs body k) (λ q. block_makes (fixing x around) body may q))) (λ turn h.
        required_allowed _ spot _ (λ keep. allows (for_makes around spot x e1 e2 qs body k l turn m.0 m.1 keep h.1 h.2))))
    statement_makes around (for_each spot x v last body) may k = each_makes around spot x v last body (λ q. block_makes (fixing x around) body may q) k

    pub block_makes : (around : Place) (b : Block) → MayLock around (block_has_lock b) → (k : Facts) → Allows (accept_block (seen c) (around_of around) b k) (λ v. BlockMakes around b (Some k))
    block_makes around done may k = allows (λ rows rest o no. absurd (false≢true no))
    block_makes around (next st rest) may k =
        let one = may_first (has_lock st) (block_has_lock rest) around may in
        let others = may_second (has_lock st) (block_has_lock rest) around may in
        then_allowed (both_allowed (statement_sound c narrow serves around st one k) (statement_makes around st one k)) (λ first h.
        then_allowed (reached_makes around rest first.after (λ q. block_makes around rest others q)) (λ second g.
        allows (next_makes around st rest k first h.0 h.1 h.2 g)))
