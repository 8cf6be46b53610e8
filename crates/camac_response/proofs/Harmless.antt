-- Services that are harmless and clear their own look-at-mes do what is asked of them.
use Rattle.std.proofs.Common.{◌≡◌, ℕ, List, [], ◌∷◌, Option, Some, None, option_map, cond, find, Bool, true, false, refl, sym, ◌∙◌, ap, subst, zero, suc, map, length, ◌+◌, ◌<◌, ◌≤◌, ⊎_elim, arith, ◌-◌, inr}
use Rattle.std.proofs.lemmas.Bool.{and_parts, and_from, eq-eqb, eqb-true, true≢false, cases_lt, leb-true, ltb-true}
use Rattle.std.proofs.lemmas.Option.{same_Some}
use Rattle.std.specs.List.{list_all, list_any, range_with_len}
use Rattle.std.specs.Prelude.{◌||◌, ◌&&◌, not, nat_eq, option_and_then, slice_get, if◌then◌else◌, nat_le, nat_lt}
use Rattle.camac_lang.specs.declared.word.CrateCall.TheVariants as crate_word
use Rattle.camac_lang.specs.declared.word.LamCall.TheVariants as lam_word
use Rattle.camac_lang.specs.Tree.{Service, Script}
use Rattle.camac_lang.specs.declared.word.CrateCall.{CrateCall}
use Rattle.camac_lang.specs.declared.word.LamCall.{LamCall}
use Rattle.camac_crate.specs.declared.command.ControllerOp.{ControllerOp}
use Rattle.camac_crate.specs.declared.command.ControllerOp.TheVariants.{Initialise, Clear, ReadGl, InhibitOff, InhibitOn, TestInhibit, DemandOff, DemandOn, TestDemandOutput, TestDemand}
use Rattle.camac_crate.specs.Controller.{ControllerCommand, controller_table, controller}
use Rattle.camac_crate.specs.State.{CrateBits, effect}
use Rattle.camac_branch.specs.Address.{Address, address}
use Rattle.camac_branch.specs.Branch.{Branch, Answer, effect_in, branch_after, pattern_of, start}
use Rattle.camac_branch.specs.Plan.{Layout, IsPlan, gl, declared_clears, numbered, crate_at, station, kind}
use Rattle.camac_branch.specs.declared.plan.Crate.{Crate}
use Rattle.camac_branch.proofs.Numbered.{numbered-outside}
use Rattle.camac_model.specs.State.{State, fresh}
use Rattle.camac_model.specs.Behaviour.{Piece, demanded, cycled, lock_taken, lock_released, event_left, Behaviour, does, ends, stops}
use Rattle.camac_model.specs.Headline.{no_count, nothing}
use Rattle.camac_model.specs.Meaning.{context, lam_address, crate_address, crate_function, lam_function}
use Rattle.camac_model.specs.Moments.{Meets, Any, AnyStop}
use Rattle.camac_model.specs.Run.{service_meaning, Chosen, service_bit, service_for, event_of, serve, rounds}
use Rattle.camac_model.specs.Fine.{Bounds}
use Rattle.camac_model.specs.Demands.{IsCalled}
use Rattle.camac_model.proofs.Kept.{IsStepwise, Still, script_keeps}
use Rattle.camac_model.proofs.Rounds.{meets_mapped}
use Rattle.camac_model.proofs.Rules.{then_meets}
use Rattle.camac_model.proofs.Demands.{demands_call_services}
use Rattle.camac_commands.specs.Surely.{made_one, AnyPiece, IsMade, TellsOf}
use Rattle.camac_commands.specs.declared.command.Command.{Command}
use Rattle.camac_commands.specs.Commands.{is_inside, lies_in, is_told, IsListed}
use Rattle.camac_response_times.specs.declared.source.Source.{Source}
use Rattle.camac_response_times.specs.Response.{is_up_to}
use Rattle.camac_response.specs.Lams.{Clears, Lams, lams_of, of_lam, clears, is_lam_call, is_crate_call, enabled_by, Book, book_after, NoneHidden, IsAskedAgain, ServesWell, first_page, plan_clears, same_station, same_address, may_clear}
use Rattle.camac_response.specs.Reach.{hides, IsHarmless, Harmless, HarmlessServe, ServesItself, ServicesServe, must_be_at, spares_at, must_clear, may_call_lam, may_call_crate, may_be_at, clears_at, may_clear_by_plan, could_clear, could_hide, AreCareful, DecidedServe}
use Rattle.camac_response.specs.Laws.{AreSources}
use Rattle.camac_response.specs.Twice.{up_to_two, count}
use Rattle.camac_response.proofs.Lams.{or_false, or_first, same_at}
use Rattle.camac_rules.specs.Known.{Region}
use Rattle.camac_module.specs.Entry.{Entry, clears_entry}
use Rattle.camac_module.specs.Commands.{entry}

-- A service that makes a cycle that clears its own look-at-me, and whose cycles are harmless, does what is asked of it.

-- All services do what is asked of them where each does by itself.

pub or_second : (a b : Bool) → b ≡ true → (a || b) ≡ true
or_second true b e = refl
or_second false b e = e

pub by_or : (a b : Bool) (P : Type 0) → (a || b) ≡ true → (a ≡ true → P) → (b ≡ true → P) → P
by_or true b P e first second = first refl
by_or false b P e first second = second e

module _ (plan : Layout) (is_plan : IsPlan plan) (script : Script) (ks : List Bounds) (ts : List Source) (are : AreSources plan script ks ts) (by_plan : Clears) (g : ℕ)
    (serves : (i : ℕ) (v : Service) → slice_get script.services i ≡ Some v → ServesItself plan script ts by_plan g i v) where
  abbrev Well : Book → Piece → Type 0
  Well = ServesWell ts (lams_of script) by_plan g

  abbrev page_turned : Book → Piece → Book
  page_turned = book_after (lams_of script) by_plan

  abbrev Asked : Book → Type 0
  Asked x = IsAskedAgain ts (lams_of script) g x

  in_rounds : (k : ℕ) (page : Book) (b : Branch) (answers : List Answer) → Asked page → Meets page_turned Well AnyStop Any page (rounds k (context plan script) 65535 script.services b answers)
  in_rounds zero page b answers h = tt
  in_rounds (suc k) page b [] h = tt
  in_rounds (suc k) page b (a ∷ rest) h =
      (h, go (service_for (context plan script) (pattern_of plan b a.gl) script.services) refl (in_rounds k))
    where
      go : (o : Option Chosen) → service_for (context plan script) (pattern_of plan b a.gl) script.services ≡ o
          → ((x : Book) (b' : Branch) (l : List Answer) → Asked x → Meets page_turned Well AnyStop Any x (rounds k (context plan script) 65535 script.services b' l))
          → Meets page_turned Well AnyStop Any (page_turned page (demanded (pattern_of plan b a.gl) (option_map (λ v. v.number) o))) (serve (context plan script) 65535 o b rest (rounds k (context plan script) 65535 script.services))
      go None e ih = ih (page_turned page (demanded (pattern_of plan b a.gl) None)) b rest (record { cleared = λ i t at up none. absurd (cc); shown = h.shown })
      go (Some v) e ih =
          let d = demands_call_services plan is_plan script (pattern_of plan b a.gl) in
          let called : IsCalled (context plan script) script.services (pattern_of plan b a.gl) v = (d.called v).0 e in
          let next : Book = page_turned page (demanded (pattern_of plan b a.gl) (Some v.number)) in
          then_meets page_turned Well AnyStop (λ x s. Asked x) Any next (service_meaning (context plan script) 65535 v.service b rest)
          (λ s. does (event_left (event_of v.bit s)) (rounds k (context plan script) 65535 script.services s.branch s.answers))
          (serves v.number v.service called.asked.numbered next refl h.shown b rest) (λ x s w. (tt, ih x s.branch s.answers w))

  -- each source has a look-at-me, which nothing hides at the start
  enabled_first : (o : Option Address) (b : ℕ) → option_and_then (λ at. gl plan at.crate_no at.station) o ≡ Some b → of_lam (λ lam. true && (start lam.crate_no).bits.demand) o ≡ true
  enabled_first None b e = absurd (cc)
  enabled_first (Some lam) b e = refl

  shown_first : NoneHidden ts (lams_of script) g first_page
  shown_first i t at up =
      let h = same_at (service_bit (context plan script)) (λ u. Some u.bit) script.services ts are.bits i t at in
      ap (λ o. of_lam (λ lam. true && (start lam.crate_no).bits.demand) (option_and_then (λ v. slice_get (map lam_address script.lams) v.lam) o)) h.1 ∙ enabled_first (slice_get (map lam_address script.lams) h.0.lam) t.bit h.2

pub services_serve : ServicesServe
unfolding ServicesServe
services_serve plan is_plan script ks ts are by_plan g serves answers =
    in_rounds plan is_plan script ks ts are by_plan g serves (length answers) first_page start answers
    (record { cleared = λ i t at up none. absurd (cc); shown = shown_first plan is_plan script ks ts are by_plan g serves })

-- what is found passes the test, and what all pass
found_step : {X : Type 0} (test all : X → Bool) (x y : X) (rest : Option X) (b : Bool) → test x ≡ b → all x ≡ true
    → (rest ≡ Some y → (test y ≡ true) × (all y ≡ true)) → cond b (Some x) rest ≡ Some y → (test y ≡ true) × (all y ≡ true)
found_step test all x y rest true is every later e = let same : x ≡ y = same_Some x y e in (ap test (sym same) ∙ is, ap all (sym same) ∙ every)
found_step test all x y rest false is every later e = later e

found : {X : Type 0} (test all : X → Bool) (xs : List X) (y : X) → list_all all xs ≡ true → find test xs ≡ Some y → (test y ≡ true) × (all y ≡ true)
found test all [] y every h = absurd (cc)
found test all (x ∷ xs) y every h =
    let both = and_parts (all x) (list_all all xs) every in found_step test all x y (find test xs) (test x) refl both.0 (found test all xs y both.1) h

-- the numbers of the commands that hide
is_own : ControllerOp → (station sub_address function : ℕ) → Bool
is_own Initialise n a f = nat_eq 28 n && (nat_eq 8 a && nat_eq 26 f)
is_own DemandOff n a f = nat_eq 30 n && (nat_eq 10 a && nat_eq 24 f)
is_own op n a f = true

has_own : ControllerCommand → Bool
has_own c = is_own c.op c.station c.sub_address c.function

all_have_own : list_all has_own controller_table ≡ true
unfolding has_own is_own
all_have_own = refl

same_number : (m n : ℕ) → nat_eq m n ≡ true → nat_eq n m ≡ true
same_number m n e = eq-eqb n m (sym (eqb-true m n e))

-- a command of the controller has its numbers
own_numbers : (n a f : ℕ) (op : ControllerOp) (o : Option ControllerCommand) → find (λ c. nat_eq c.station n && (nat_eq c.sub_address a && nat_eq c.function f)) controller_table ≡ o
    → option_map (λ c. c.op) o ≡ Some op → is_own op n a f ≡ true
unfolding has_own
own_numbers n a f op None at e = absurd (cc)
own_numbers n a f op (Some c) at e =
    let test : ControllerCommand → Bool = λ c. nat_eq c.station n && (nat_eq c.sub_address a && nat_eq c.function f) in
    let both = found test has_own controller_table c all_have_own at in
    let parts = and_parts (nat_eq c.station n) (nat_eq c.sub_address a && nat_eq c.function f) both.0 in
    let others = and_parts (nat_eq c.sub_address a) (nat_eq c.function f) parts.1 in
    let op' : c.op ≡ op = same_Some c.op op e in
    subst (λ k. is_own k n a f ≡ true) op'
    (subst (λ k. is_own c.op k a f ≡ true) (eqb-true c.station n parts.0)
    (subst (λ k. is_own c.op c.station k f ≡ true) (eqb-true c.sub_address a others.0)
    (subst (λ k. is_own c.op c.station c.sub_address k ≡ true) (eqb-true c.function f others.1) both.1)))

own_of : (n a f : ℕ) (op : ControllerOp) → controller n a f ≡ Some op → is_own op n a f ≡ true
own_of n a f op e = own_numbers n a f op (find (λ c. nat_eq c.station n && (nat_eq c.sub_address a && nat_eq c.function f)) controller_table) refl e

-- in the look-at-me's crate they are the calls that hide it
initialises : (lam at : Address) (f : ℕ) → nat_eq lam.crate_no at.crate_no ≡ true → controller at.station at.sub_address f ≡ Some Initialise → is_crate_call crate_word.Initialise lam at f ≡ true
unfolding is_own
initialises lam at f same e =
    let parts = and_parts (nat_eq 28 at.station) (nat_eq 8 at.sub_address && nat_eq 26 f) (own_of at.station at.sub_address f Initialise e) in
    let others = and_parts (nat_eq 8 at.sub_address) (nat_eq 26 f) parts.1 in
    and_from ((nat_eq lam.crate_no at.crate_no && nat_eq 28 at.station) && nat_eq 8 at.sub_address) (nat_eq f 26)
    (and_from (nat_eq lam.crate_no at.crate_no && nat_eq 28 at.station) (nat_eq 8 at.sub_address) (and_from (nat_eq lam.crate_no at.crate_no) (nat_eq 28 at.station) same parts.0) others.0)
    (same_number 26 f others.1)

turns_off : (lam at : Address) (f : ℕ) → nat_eq lam.crate_no at.crate_no ≡ true → controller at.station at.sub_address f ≡ Some DemandOff → is_crate_call crate_word.DemandOff lam at f ≡ true
unfolding is_own
turns_off lam at f same e =
    let parts = and_parts (nat_eq 30 at.station) (nat_eq 10 at.sub_address && nat_eq 24 f) (own_of at.station at.sub_address f DemandOff e) in
    let others = and_parts (nat_eq 10 at.sub_address) (nat_eq 24 f) parts.1 in
    and_from ((nat_eq lam.crate_no at.crate_no && nat_eq 30 at.station) && nat_eq 10 at.sub_address) (nat_eq f 24)
    (and_from (nat_eq lam.crate_no at.crate_no && nat_eq 30 at.station) (nat_eq 10 at.sub_address) (and_from (nat_eq lam.crate_no at.crate_no) (nat_eq 30 at.station) same parts.0) others.0)
    (same_number 24 f others.1)

-- any other leaves the demand output on
still_on : (op : ControllerOp) (bits : CrateBits) → (op ≡ Initialise → ⊥) → (op ≡ DemandOff → ⊥) → bits.demand ≡ true → (effect op bits).demand ≡ true
still_on Initialise bits not_z not_off on = absurd (not_z refl)
still_on DemandOff bits not_z not_off on = absurd (not_off refl)
still_on Clear bits not_z not_off on = on
still_on ReadGl bits not_z not_off on = on
still_on InhibitOff bits not_z not_off on = on
still_on InhibitOn bits not_z not_off on = on
still_on TestInhibit bits not_z not_off on = on
still_on DemandOn bits not_z not_off on = refl
still_on TestDemandOutput bits not_z not_off on = on
still_on TestDemand bits not_z not_off on = on

stays_on : (lam at : Address) (f : ℕ) (crates : Branch) → (crates lam.crate_no).bits.demand ≡ true → is_crate_call crate_word.Initialise lam at f ≡ false → is_crate_call crate_word.DemandOff lam at f ≡ false
    → (branch_after at f crates lam.crate_no).bits.demand ≡ true
stays_on lam at f crates on not_z not_off = go (controller at.station at.sub_address f) refl
  where
    in_crate : (op : ControllerOp) → controller at.station at.sub_address f ≡ Some op → (b : Bool) → nat_eq lam.crate_no at.crate_no ≡ b
        → (if b then record (crates at.crate_no) { bits = effect op (crates at.crate_no).bits } else crates lam.crate_no).bits.demand ≡ true
    in_crate op e false other = on
    in_crate op e true same =
        still_on op (crates at.crate_no).bits (λ z. true≢false (sym (initialises lam at f same (e ∙ ap Some z)) ∙ not_z)) (λ z. true≢false (sym (turns_off lam at f same (e ∙ ap Some z)) ∙ not_off))
        (subst (λ c. (crates c).bits.demand ≡ true) (eqb-true lam.crate_no at.crate_no same) on)

    go : (o : Option ControllerOp) → controller at.station at.sub_address f ≡ o → (effect_in at.crate_no o crates lam.crate_no).bits.demand ≡ true
    go None e = on
    go (Some op) e = in_crate op e (nat_eq lam.crate_no at.crate_no) refl

stays_enabled : (e x d z : Bool) → e ≡ true → d ≡ false → z ≡ false → ((e || x) && not (d || z)) ≡ true
stays_enabled true x false false e d z = refl
stays_enabled true x false true e d z = absurd (cc)
stays_enabled true x true z' e d z = absurd (cc)
stays_enabled false x d' z' e d z = absurd (cc)

shown_after : (o : Option Address) (at : Address) (f : ℕ) (enabled : Bool) (crates : Branch) → of_lam (λ lam. enabled && (crates lam.crate_no).bits.demand) o ≡ true → of_lam (λ lam. hides lam at f) o ≡ false
    → of_lam (λ lam. enabled_by o at f enabled && (branch_after at f crates lam.crate_no).bits.demand) o ≡ true
shown_after None at f enabled crates shown not = shown
shown_after (Some lam) at f enabled crates shown not =
    let both = and_parts enabled (crates lam.crate_no).bits.demand shown in
    let none = or_false (is_lam_call lam_word.Disable lam at f) (is_crate_call crate_word.Initialise lam at f || is_crate_call crate_word.DemandOff lam at f) not in
    let neither = or_false (is_crate_call crate_word.Initialise lam at f) (is_crate_call crate_word.DemandOff lam at f) none.1 in
    and_from (enabled_by (Some lam) at f enabled) (branch_after at f crates lam.crate_no).bits.demand
    (stays_enabled enabled (is_lam_call lam_word.Enable lam at f) (is_lam_call lam_word.Disable lam at f) (is_crate_call crate_word.Initialise lam at f) both.0 none.0 neither.0)
    (stays_on lam at f crates both.1 neither.0 neither.1)

-- a service makes no operation
abbrev NoOperation : Unit {0} → Piece → Type 0
NoOperation u (demanded p v) = ⊥
NoOperation u (cycled at f d r w) = Unit {0}
NoOperation u (lock_taken c w) = Unit {0}
NoOperation u (lock_released c) = Unit {0}
NoOperation u (event_left e) = Unit {0}

abbrev AnyState : Unit {0} → State → Type 0
AnyState u s = Unit {0}

stepwise : IsStepwise no_count NoOperation AnyState
stepwise = record {
  on_step = λ x s i. tt;
  on_store = λ x env regs s i. tt;
  on_word = λ x w s i. tt;
  on_cycle = λ x at f d r a rest s e i. (tt, tt);
  on_lock = λ x c a rest s e free i. (tt, tt);
  on_release = λ x c s i. (tt, tt);
}

no_operation : (plan : Layout) (script : Script) (v : Service) (b : Branch) (answers : List Answer) → Meets no_count NoOperation AnyStop Any nothing (service_meaning (context plan script) 65535 v b answers)
no_operation plan script v b answers =
    meets_mapped no_count NoOperation (Still no_count NoOperation AnyState) NoOperation AnyStop AnyState Any (λ x p h. h) (λ x w s h. tt) (λ x s h. tt) nothing (service_meaning (context plan script) 65535 v b answers)
    (script_keeps no_count NoOperation AnyState stepwise plan script v.body 65535 nothing (fresh b answers) tt)

module _ (ts : List Source) (lams : Lams) (by_plan : Clears) (g i : ℕ) where
  abbrev turn : Book → Piece → Book
  turn = book_after lams by_plan

  -- it has cleared its look-at-me, if its bit is meant
  abbrev Cleared : Book → State → Type 0
  Cleared x s = (t : Source) → slice_get ts i ≡ Some t → is_up_to g t ≡ true → x.has_cleared ≡ true

  all_meet : (Q : Book → State → Type 0) → ((y : Book) (s : State) → Q y s) → (x : Book) (b : Behaviour State) → Meets turn AnyPiece AnyStop Q x b
  all_meet Q h x (does p b) = (tt, all_meet Q h (turn x p) b)
  all_meet Q h x (ends s) = h x s
  all_meet Q h x (stops w s) = tt

  -- while it is in progress, what was made of its clearing cycles is in the book
  is_in_book : (lam : Address) → lams i ≡ Some lam → (x : Book) (y : Bool) (b : Behaviour State) → x.called ≡ Some i → (y ≡ true → x.has_cleared ≡ true) → Meets no_count NoOperation AnyStop Any nothing b
      → Meets (made_one (clears by_plan lam)) AnyPiece AnyStop IsMade y b → Meets turn AnyPiece AnyStop (λ z s. z.has_cleared ≡ true) x b
  is_in_book lam its x y (does (demanded p v) b) ours so none made = absurd none.0
  is_in_book lam its x y (does (cycled at f d r w) b) ours so none made =
      let now = of_lam (λ l. clears by_plan l at f) (option_and_then lams x.called) in (
        tt,
        is_in_book lam its (turn x (cycled at f d r w)) (y || clears by_plan lam at f) b ours
            (λ e. by_or y (clears by_plan lam at f) ((x.has_cleared || now) ≡ true) e (λ before. or_first x.has_cleared now (so before)) (λ here. or_second x.has_cleared now
            (ap (λ o. of_lam (λ l. clears by_plan l at f) (option_and_then lams o)) ours ∙ ap (of_lam (λ l. clears by_plan l at f)) its ∙ here))) none.1 made.1,
      )
  is_in_book lam its x y (does (lock_taken c w) b) ours so none made = (tt, is_in_book lam its x y b ours so none.1 made.1)
  is_in_book lam its x y (does (lock_released c) b) ours so none made = (tt, is_in_book lam its x y b ours so none.1 made.1)
  is_in_book lam its x y (does (event_left e) b) ours so none made = (tt, is_in_book lam its x y b ours so none.1 made.1)
  is_in_book lam its x y (ends s) ours so none made = so made
  is_in_book lam its x y (stops w s) ours so none made = tt

  cleared_if : (x : Book) (b : Behaviour State) (o : Option Source) → slice_get ts i ≡ o
      → ((t : Source) → slice_get ts i ≡ Some t → is_up_to g t ≡ true → Meets turn AnyPiece AnyStop (λ y s. y.has_cleared ≡ true) x b) → Meets turn AnyPiece AnyStop Cleared x b
  cleared_if x b None e h = all_meet Cleared (λ y s t it up. absurd (none_some t (sym e ∙ it))) x b
    where
      none_some : (t : Source) → None ≡ Some t → ⊥
      none_some t f = absurd (cc)
  cleared_if x b (Some t) e h = go (is_up_to g t) refl
    where
      go : (m : Bool) → is_up_to g t ≡ m → Meets turn AnyPiece AnyStop Cleared x b
      go true up =
          meets_mapped turn AnyPiece AnyStop AnyPiece AnyStop (λ y s. y.has_cleared ≡ true) Cleared (λ y p k. k) (λ y w s k. k) (λ y s k t' it' up'. k) x b (h t e up)
      go false up = all_meet Cleared (λ y s t' it' up'. absurd (true≢false (sym up' ∙ ap (is_up_to g) (same_Some t' t (sym it' ∙ e)) ∙ up))) x b

  combine : (x : Book) (b : Behaviour State) → x.called ≡ Some i → NoneHidden ts lams g x → Meets no_count NoOperation AnyStop Any nothing b → Meets no_count (Harmless ts lams by_plan g i) AnyStop Any nothing b
      → Meets turn AnyPiece AnyStop Cleared x b → Meets turn (ServesWell ts lams by_plan g) AnyStop (λ y s. IsAskedAgain ts lams g y) x b
  combine x (does (demanded p v) b) ours shown none harmless clear = absurd none.0
  combine x (does (cycled at f d r w) b) ours shown none harmless clear =
      let h : IsHarmless ts lams by_plan g i at f = harmless.0 in (
        λ j t it up other. h.clears_no_other j t it up (λ e. other (ours ∙ ap Some e)),
        combine (turn x (cycled at f d r w)) b ours (λ j t it up. shown_after (lams j) at f (x.enabled j) x.crates (shown j t it up) (h.hides_none j t it up)) none.1 harmless.1 clear.1,
      )
  combine x (does (lock_taken c w) b) ours shown none harmless clear = (tt, combine x b ours shown none.1 harmless.1 clear.1)
  combine x (does (lock_released c) b) ours shown none harmless clear = (tt, combine x b ours shown none.1 harmless.1 clear.1)
  combine x (does (event_left e) b) ours shown none harmless clear = (tt, combine x b ours shown none.1 harmless.1 clear.1)
  combine x (ends s) ours shown none harmless clear = record { cleared = λ j t it up e. clear t (ap (slice_get ts) (same_Some i j (sym ours ∙ e)) ∙ it) up; shown = shown }
  combine x (stops w s) ours shown none harmless clear = tt

pub harmless_serve : HarmlessServe
harmless_serve plan script ts by_plan g i v lam its made harmless page called shown b answers =
    combine ts (lams_of script) by_plan g i page (service_meaning (context plan script) 65535 v b answers) called shown (no_operation plan script v b answers) (harmless b answers)
    (cleared_if ts (lams_of script) by_plan g i page (service_meaning (context plan script) 65535 v b answers) (slice_get ts i) refl
    (λ t it up. is_in_book ts (lams_of script) by_plan g i lam its page false (service_meaning (context plan script) 65535 v b answers) called (λ no. absurd (true≢false (sym no)))
    (no_operation plan script v b answers) (made t it up b answers)))

-- Where the commands of each service are careful, all services do what is asked of them.

-- No module declares a command where there is no crate, no station and no sub-address.

no_crate : (plan : Layout) (c : ℕ) → IsPlan plan → ((1 ≤ c) × (c ≤ 7) → ⊥) → crate_at plan c ≡ None
no_crate plan zero is out = refl
no_crate plan (suc i) is out =
    ⊎_elim (λ lt. absurd (out (omega arith, omega arith))) (λ ge. let many = is.crate_places in numbered-outside plan.crates (suc i) (inr (omega (arith, ge, many)))) (cases_lt i 7)

no_type : (plan : Layout) (c n a f : ℕ) → station plan c n ≡ None → declared_clears plan c n a f ≡ false
no_type plan c n a f e = ap (λ o. clears_entry (option_and_then (λ t. entry (kind plan t).commands f a) o)) e

pub no_crate_clears : (plan : Layout) (c n a f : ℕ) → IsPlan plan → ((1 ≤ c) × (c ≤ 7) → ⊥) → declared_clears plan c n a f ≡ false
no_crate_clears plan c n a f is out =
    no_type plan c n a f (ap (λ o. option_map (λ s. s.type_no) (option_and_then (λ (k : Crate). numbered k.stations n) o)) (no_crate plan c is out))

pub no_station_clears : (plan : Layout) (c n a f : ℕ) → IsPlan plan → (n < 32 → ⊥) → declared_clears plan c n a f ≡ false
no_station_clears plan c n a f is out = no_type plan c n a f (ap (option_map (λ s. s.type_no)) (go (crate_at plan c) refl))
  where
    go : (o : Option Crate) → crate_at plan c ≡ o → option_and_then (λ (k : Crate). numbered k.stations n) o ≡ None
    go None e = refl
    go (Some k) e = let many = is.station_places c k e in numbered-outside k.stations n (inr (⊎_elim (λ lt. absurd (out lt)) (λ ge. omega (arith, ge, many)) (cases_lt n 32)))

-- one of the numbers up to an end, the first of them or a later one
pub any_next : (test : ℕ → Bool) (k end : ℕ) → k < end → list_any test (range_with_len k (end - k)) ≡ (test k || list_any test (range_with_len (k + 1) (end - (k + 1))))
any_next test k end lt = let count : end - k ≡ suc (end - (k + 1)) = omega (arith, lt) in ap (λ n. list_any test (range_with_len k n)) count

pub any_none : (test : ℕ → Bool) (k end : ℕ) → end ≤ k → list_any test (range_with_len k (end - k)) ≡ false
any_none test k end le = let count : end - k ≡ 0 = omega (arith, le) in ap (λ n. list_any test (range_with_len k n)) count

-- the same of how many there are
pub count_next : (test : ℕ → Bool) (k end : ℕ) → k < end → count test (range_with_len k (end - k)) ≡ up_to_two (if test k then 1 else 0) (count test (range_with_len (k + 1) (end - (k + 1))))
count_next test k end lt = let many : end - k ≡ suc (end - (k + 1)) = omega (arith, lt) in ap (λ n. count test (range_with_len k n)) many

pub count_none : (test : ℕ → Bool) (k end : ℕ) → end ≤ k → count test (range_with_len k (end - k)) ≡ 0
count_none test k end le = let many : end - k ≡ 0 = omega (arith, le) in ap (λ n. count test (range_with_len k n)) many

-- what clears is at a sub-address that there is
pub clears_below : (plan : Layout) (c n a f : ℕ) → IsPlan plan → declared_clears plan c n a f ≡ true → a < 16
clears_below plan c n a f is e = go (station plan c n) e
  where
    at_type : (t : ℕ) (o : Option Entry) → entry (kind plan t).commands f a ≡ o → clears_entry o ≡ true → a < 16
    at_type t None at e = absurd (cc)
    at_type t (Some x) at e = (is.known_commands t f a x at).sub_address

    go : (o : Option ℕ) → clears_entry (option_and_then (λ t. entry (kind plan t).commands f a) o) ≡ true → a < 16
    go None e = absurd (cc)
    go (Some t) e = at_type t (entry (kind plan t).commands f a) refl e

-- what two tests of a list tell of one and the same command
any_of : (P : Type 0) (yes' none' : Command → Bool) (cs : List Command) → list_any yes' cs ≡ true → list_any none' cs ≡ false → ((c : Command) → yes' c ≡ true → none' c ≡ false → P) → P
any_of P yes' none' [] e n go = absurd (cc)
any_of P yes' none' (c ∷ cs) e n go =
    let rest = or_false (none' c) (list_any none' cs) n in
    by_or (yes' c) (list_any yes' cs) P e (λ here. go c here rest.0) (λ there. any_of P yes' none' cs there rest.1 go)

-- an address that is another one is where that is
moved : (g : Region) (lam at : Address) → same_address lam at ≡ true → lies_in g at ≡ true → lies_in g lam ≡ true
moved g lam at same inside =
    let parts = and_parts (same_station lam at) (nat_eq lam.sub_address at.sub_address) same in
    let others = and_parts (nat_eq lam.crate_no at.crate_no) (nat_eq lam.station at.station) parts.0 in
    let c = eqb-true lam.crate_no at.crate_no others.0 in
    let n = eqb-true lam.station at.station others.1 in
    let a = eqb-true lam.sub_address at.sub_address parts.1 in
    subst (λ k. is_inside g k lam.station lam.sub_address ≡ true) (sym c)
    (subst (λ k. is_inside g at.crate_no k lam.sub_address ≡ true) (sym n) (subst (λ k. is_inside g at.crate_no at.station k ≡ true) (sym a) inside))

-- a call that is told may be made: for the look-at-me, for the crate, and by a command that the plan says clears
called_at : (to at : Address) (f k : ℕ) (c : Command) → is_told at f c ≡ true → same_address to at ≡ true → nat_eq f k ≡ true → (nat_eq c.function k && lies_in c.region to) ≡ true
called_at to at f k c told same is =
    let parts = and_parts (nat_eq f c.function) (lies_in c.region at) told in
    let function = eq-eqb c.function k (sym (eqb-true f c.function parts.0) ∙ eqb-true f k is) in
    and_from (nat_eq c.function k) (lies_in c.region to) function (moved c.region to at same parts.1)

lam_called : (k : LamCall) (lam at : Address) (f : ℕ) (c : Command) → is_told at f c ≡ true → is_lam_call k lam at f ≡ true → may_call_lam k lam c ≡ true
lam_called k lam at f c told is =
    let parts = and_parts (same_address lam at) (nat_eq f (lam_function k)) is in called_at lam at f (lam_function k) c told parts.0 parts.1

crate_called : (k : CrateCall) (lam at : Address) (f : ℕ) (c : Command) → is_told at f c ≡ true → is_crate_call k lam at f ≡ true → may_call_crate k lam c ≡ true
crate_called k lam at f c told is =
    let parts = and_parts (same_address (crate_address k lam.crate_no) at) (nat_eq f (crate_function k)) is in
    called_at (crate_address k lam.crate_no) at f (crate_function k) c told parts.0 parts.1

-- a number in a range passes the test
any_in_range : (test : ℕ → Bool) (m k a : ℕ) → k ≤ a → a < k + m → test a ≡ true → list_any test (range_with_len k m) ≡ true
any_in_range test zero k a le lt e = absurd (omega arith)
any_in_range test (suc m) k a le lt e =
    ⊎_elim (λ less. or_second (test k) (list_any test (range_with_len (k + 1) m)) (any_in_range test m (k + 1) a (omega (arith, less)) (omega arith) e))
    (λ more. let same : a ≡ k = omega (arith, le, more) in or_first (test k) (list_any test (range_with_len (k + 1) m)) (ap test (sym same) ∙ e)) (cases_lt k a)

by_plan_called : (plan : Layout) → IsPlan plan → (lam at : Address) (f : ℕ) (c : Command) → is_told at f c ≡ true → (same_station lam at && plan_clears plan at f) ≡ true
    → may_clear_by_plan plan lam c ≡ true
by_plan_called plan is_plan lam at f c told is =
    let parts = and_parts (nat_eq f c.function) (lies_in c.region at) told in
    let both = and_parts (same_station lam at) (plan_clears plan at f) is in
    let station = and_parts (nat_eq lam.crate_no at.crate_no) (nat_eq lam.station at.station) both.0 in
    let crates = nat_le c.region.crates.lo at.crate_no && nat_le at.crate_no c.region.crates.hi in
    let stations = nat_le c.region.stations.lo at.station && nat_le at.station c.region.stations.hi in
    let subs = nat_le c.region.sub_addresses.lo at.sub_address && nat_le at.sub_address c.region.sub_addresses.hi in
    let inside = and_parts crates (stations && subs) parts.1 in
    let there = and_parts stations subs inside.1 in
    let here : may_be_at at c ≡ true = and_from crates stations inside.0 there.0 in
    let clears : clears_at plan at c at.sub_address ≡ true =
    and_from subs (declared_clears plan at.crate_no at.station at.sub_address c.function) there.1
    (subst (λ k. declared_clears plan at.crate_no at.station at.sub_address k ≡ true) (eqb-true f c.function parts.0) both.1) in
    let by : may_clear_by_plan plan at c ≡ true =
    and_from (may_be_at at c) (list_any (clears_at plan at c) (range_with_len 0 16)) here
    (any_in_range (clears_at plan at c) 16 0 at.sub_address (omega arith) (clears_below plan at.crate_no at.station at.sub_address f is_plan both.1) clears) in
    let moved_to : (k n : ℕ) → Type 0 = λ k n. may_clear_by_plan plan (address k n at.sub_address) c ≡ true in
    subst (λ k. moved_to k lam.station) (sym (eqb-true lam.crate_no at.crate_no station.0))
    (subst (λ n. moved_to at.crate_no n) (sym (eqb-true lam.station at.station station.1)) by)

-- a command that clears it at whatever address does so at each that is told
pub must_tell : (plan : Layout) (lam : Address) → TellsOf (must_clear plan lam) (clears (plan_clears plan) lam)
must_tell plan lam c must at f told =
    let here = and_parts (nat_eq f c.function) (lies_in c.region at) told in
    let function = eqb-true f c.function here.0 in
    let crates = nat_le c.region.crates.lo at.crate_no && nat_le at.crate_no c.region.crates.hi in
    let stations = nat_le c.region.stations.lo at.station && nat_le at.station c.region.stations.hi in
    let subs = nat_le c.region.sub_addresses.lo at.sub_address && nat_le at.sub_address c.region.sub_addresses.hi in
    let inside = and_parts crates (stations && subs) here.1 in
    let there = and_parts stations subs inside.1 in
    let few = nat_lt c.region.sub_addresses.hi 16 in
    let none_spares = not (list_any (spares_at plan lam c) (range_with_len 0 16)) in
    let all = and_parts (must_be_at lam c) (few && none_spares) must in
    let rest = and_parts few none_spares all.1 in
    let one = and_parts (nat_eq c.region.crates.lo lam.crate_no && nat_eq c.region.crates.hi lam.crate_no) (nat_eq c.region.stations.lo lam.station && nat_eq c.region.stations.hi lam.station) all.0 in
    let crate_no = only_one c.region.crates.lo c.region.crates.hi lam.crate_no at.crate_no one.0 inside.0 in
    let station = only_one c.region.stations.lo c.region.stations.hi lam.station at.station one.1 there.0 in
    let high = leb-true at.sub_address c.region.sub_addresses.hi (and_parts (nat_le c.region.sub_addresses.lo at.sub_address) (nat_le at.sub_address c.region.sub_addresses.hi) there.1).1 in
    let below = ltb-true c.region.sub_addresses.hi 16 rest.0 in
    let f10 = nat_eq c.function 10 && nat_eq lam.sub_address at.sub_address in
    let by_plan = declared_clears plan lam.crate_no lam.station at.sub_address c.function in
    let same : same_station lam at ≡ true = and_from (nat_eq lam.crate_no at.crate_no) (nat_eq lam.station at.station) (eq-eqb lam.crate_no at.crate_no crate_no) (eq-eqb lam.station at.station station) in
    by_or f10 by_plan (clears (plan_clears plan) lam at f ≡ true)
    (cleared subs (f10 || by_plan) there.1 (λ spared. go (list_any (spares_at plan lam c) (range_with_len 0 16)) rest.1 (any_in_range (spares_at plan lam c) 16 0 at.sub_address (omega arith) (omega (arith, high, below)) spared)))
    (λ own. let both = and_parts (nat_eq c.function 10) (nat_eq lam.sub_address at.sub_address) own in
    or_first (is_lam_call lam_word.Clear lam at f) (same_station lam at && plan_clears plan at f)
    (and_from (same_address lam at) (nat_eq f 10) (and_from (same_station lam at) (nat_eq lam.sub_address at.sub_address) same both.1) (ap (λ k. nat_eq k 10) function ∙ both.0)))
    (λ declared. or_second (is_lam_call lam_word.Clear lam at f) (same_station lam at && plan_clears plan at f)
    (and_from (same_station lam at) (plan_clears plan at f) same
    (subst (λ k. declared_clears plan k at.station at.sub_address f ≡ true) crate_no (subst (λ k. declared_clears plan lam.crate_no k at.sub_address f ≡ true) station
    (subst (λ k. declared_clears plan lam.crate_no lam.station at.sub_address k ≡ true) (sym function) declared)))))
  where
    only_one : (lo hi n m : ℕ) → (nat_eq lo n && nat_eq hi n) ≡ true → (nat_le lo m && nat_le m hi) ≡ true → n ≡ m
    only_one lo hi n m e i =
        let ends_at = and_parts (nat_eq lo n) (nat_eq hi n) e in
        let within = and_parts (nat_le lo m) (nat_le m hi) i in
        let low = eqb-true lo n ends_at.0 in
        let high = eqb-true hi n ends_at.1 in
        let from = leb-true lo m within.0 in
        let to = leb-true m hi within.1 in
        omega (arith, low, high, from, to)

    go : (b : Bool) → not b ≡ true → b ≡ true → ⊥
    go true e f = absurd (true≢false (sym e))
    go false e f = absurd (true≢false (sym f))

    -- where it is inside and not spared
    cleared : (a b : Bool) → a ≡ true → ((a && not b) ≡ true → ⊥) → b ≡ true
    cleared a true is spared = refl
    cleared a false is spared = absurd (spared (and_from a true is refl))

not_true : (a b : Bool) → (a ≡ true → b ≡ true) → b ≡ false → a ≡ false
not_true true b h e = absurd (true≢false (sym (h refl) ∙ e))
not_true false b h e = refl

or_map : (a b c d : Bool) → (a ≡ true → c ≡ true) → (b ≡ true → d ≡ true) → (a || b) ≡ true → (c || d) ≡ true
or_map a b c d f g e = by_or a b ((c || d) ≡ true) e (λ here. or_first c d (f here)) (λ there. or_second c d (g there))

module _ (plan : Layout) (is_plan : IsPlan plan) where
  clears_told : (lam at : Address) (f : ℕ) (c : Command) → is_told at f c ≡ true → may_clear (plan_clears plan) lam at f ≡ true → could_clear plan lam c ≡ true
  clears_told lam at f c told =
      or_map _ _ _ _ (or_map _ _ _ _ (lam_called lam_word.Clear lam at f c told) (by_plan_called plan is_plan lam at f c told))
      (or_map _ _ _ _ (crate_called crate_word.Initialise lam at f c told)
      (or_map _ _ _ _ (crate_called crate_word.Clear lam at f c told) (lam_called lam_word.Disable lam at f c told)))

  hides_told : (lam at : Address) (f : ℕ) (c : Command) → is_told at f c ≡ true → hides lam at f ≡ true → could_hide lam c ≡ true
  hides_told lam at f c told =
      or_map _ _ _ _ (lam_called lam_word.Disable lam at f c told)
      (or_map _ _ _ _ (crate_called crate_word.Initialise lam at f c told) (crate_called crate_word.DemandOff lam at f c told))

  clear_none : (o : Option Address) (at : Address) (f : ℕ) (cs : List Command) → list_any (is_told at f) cs ≡ true → of_lam (λ lam. list_any (could_clear plan lam) cs) o ≡ false → of_lam (λ lam. may_clear (plan_clears plan) lam at f) o ≡ false
  clear_none None at f cs told none = refl
  clear_none (Some lam) at f cs told none =
      any_of (may_clear (plan_clears plan) lam at f ≡ false) (is_told at f) (could_clear plan lam) cs told none
      (λ c is not. not_true (may_clear (plan_clears plan) lam at f) (could_clear plan lam c) (clears_told lam at f c is) not)

  hide_none' : (o : Option Address) (at : Address) (f : ℕ) (cs : List Command) → list_any (is_told at f) cs ≡ true → of_lam (λ lam. list_any (could_hide lam) cs) o ≡ false → of_lam (λ lam. hides lam at f) o ≡ false
  hide_none' None at f cs told none = refl
  hide_none' (Some lam) at f cs told none =
      any_of (hides lam at f ≡ false) (is_told at f) (could_hide lam) cs told none (λ c is not. not_true (hides lam at f) (could_hide lam c) (hides_told lam at f c is) not)

  module _ (script : Script) (ts : List Source) (g i : ℕ) (cs : List Command) (careful : AreCareful plan script ts g i cs) where
    harmless_piece : (u : Unit {0}) (p : Piece) → IsListed cs u p → Harmless ts (lams_of script) (plan_clears plan) g i u p
    harmless_piece u (demanded p v) h = tt
    harmless_piece u (cycled at f d r w) h = record {
      clears_no_other = λ j t it up other. clear_none (lams_of script j) at f cs h (careful.clear_no_other j t it up other);
      hides_none = λ j t it up. hide_none' (lams_of script j) at f cs h (careful.hide_none j t it up);
    }
    harmless_piece u (lock_taken c w) h = tt
    harmless_piece u (lock_released c) h = tt
    harmless_piece u (event_left e) h = tt

    harmless_all : (b : Behaviour State) → Meets no_count (IsListed cs) AnyStop Any nothing b → Meets no_count (Harmless ts (lams_of script) (plan_clears plan) g i) AnyStop Any nothing b
    harmless_all (does p b) h = (harmless_piece nothing p h.0, harmless_all b h.1)
    harmless_all (ends s) h = tt
    harmless_all (stops w s) h = tt

pub decided_serve : DecidedServe
unfolding DecidedServe ServicesServe
decided_serve plan is_plan script ks ts are g decided =
    services_serve plan is_plan script ks ts are (plan_clears plan) g (λ i v at.
    let d = decided i v at in
    harmless_serve plan script ts (plan_clears plan) g i v d.lam d.lam_is d.clears (λ b answers.
    harmless_all plan is_plan script ts g i d.commands d.careful (service_meaning (context plan script) 65535 v b answers) (d.makes b answers)))
