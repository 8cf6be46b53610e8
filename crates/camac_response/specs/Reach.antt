-- What each service has to do with look-at-mes, said of it by itself; and what a list of commands tells of it.
use Rattle.std.specs.Prelude.{◌≡◌, ℕ, ◌||◌, Bool, true, false, List, Some, slice_get, ◌&&◌, [], nat_eq, nat_le, nat_lt, not, unwrap_or}
use Rattle.camac_lang.specs.declared.word.CrateCall.TheVariants as crate_word
use Rattle.camac_lang.specs.declared.word.LamCall.TheVariants as lam_word
use Rattle.camac_lang.specs.Tree.{Service, Script}
use Rattle.camac_branch.specs.Address.{Address}
use Rattle.camac_branch.specs.Branch.{Branch, Answer}
use Rattle.camac_branch.specs.Plan.{Layout, IsPlan, declared_clears}
use Rattle.camac_model.specs.Behaviour.{Piece, cycled}
use Rattle.camac_model.specs.Fine.{Bounds}
use Rattle.camac_model.specs.Meaning.{context, crate_address, crate_function, lam_function}
use Rattle.camac_model.specs.Headline.{no_count, nothing}
use Rattle.camac_model.specs.Moments.{Meets, Holds, Any, AnyStop}
use Rattle.camac_model.specs.Run.{service_meaning, the_run}
use Rattle.camac_commands.specs.Surely.{MakesOne, surely_block}
use Rattle.camac_response_times.specs.declared.source.Source.{Source}
use Rattle.camac_response_times.specs.Response.{is_up_to}
use Rattle.camac_response.specs.Lams.{Clears, clears, Lams, lams_of, of_lam, is_lam_call, is_crate_call, may_clear, Book, first_page, book_after, NoneHidden, IsAskedAgain, ServesWell, services_watch, plan_clears}
use Rattle.camac_response.specs.Laws.{AreSources}
use Rattle.std.specs.List.{list_any, range_with_len}
use Rattle.camac_lang.specs.declared.word.CrateCall.{CrateCall}
use Rattle.camac_lang.specs.declared.word.LamCall.{LamCall}
use Rattle.camac_commands.specs.declared.command.Command.{Command}
use Rattle.camac_check_costs.specs.Body.{BodyRows}
use Rattle.camac_check_costs.specs.Bodies.{sections_of}
use Rattle.camac_commands.specs.Commands.{lies_in, told_over, MakesOnly}

-- What each service has to do with look-at-mes, said of it by itself.

-- Where it is called and no look-at-me is hidden, service number i clears no other look-at-me; and where it ends, it has cleared its own and hides
-- none. Whatever the branch is like and answers.
abbrev pub ServesItself : Layout → Script → List Source → Clears → (bit : ℕ) → ℕ → Service → Type 0
ServesItself plan script ts by_plan g i v =
    (page : Book) → page.called ≡ Some i → NoneHidden ts (lams_of script) g page → (b : Branch) (answers : List Answer)
    → Meets (book_after (lams_of script) by_plan) (ServesWell ts (lams_of script) by_plan g) AnyStop (λ x s. IsAskedAgain ts (lams_of script) g x)
    page (service_meaning (context plan script) 65535 v b answers)

-- the law of services: where each does this, all do what is asked of them along every run
unfoldable pub ServicesServe : Type 0
ServicesServe =
    (plan : Layout) → IsPlan plan → (script : Script) (ks : List Bounds) (ts : List Source) → AreSources plan script ks ts → (by_plan : Clears) (g : ℕ)
    → ((i : ℕ) (v : Service) → slice_get script.services i ≡ Some v → ServesItself plan script ts by_plan g i v)
    → (answers : List Answer) → Holds (services_watch ts (lams_of script) by_plan g) first_page (the_run plan script answers)

-- A command that hides the look-at-me at this address: F24 there, Z in its crate, and the demand output of its crate turned off.
abbrev pub hides : (lam at : Address) → (function : ℕ) → Bool
hides lam at f = is_lam_call lam_word.Disable lam at f || (is_crate_call crate_word.Initialise lam at f || is_crate_call crate_word.DemandOff lam at f)

-- made by service number i, it clears no other look-at-me, and hides none
pub record IsHarmless (ts : List Source) (lams : Lams) (by_plan : Clears) (g i : ℕ) (at : Address) (f : ℕ) : Type 0 where
  pub clears_no_other : (j : ℕ) (t : Source) → slice_get ts j ≡ Some t → is_up_to g t ≡ true → (i ≡ j → ⊥) → of_lam (λ lam. may_clear by_plan lam at f) (lams j) ≡ false
  pub hides_none : (j : ℕ) (t : Source) → slice_get ts j ≡ Some t → is_up_to g t ≡ true → of_lam (λ lam. hides lam at f) (lams j) ≡ false

abbrev pub Harmless : List Source → Lams → Clears → (bit : ℕ) → ℕ → Unit {0} → Piece → Type 0
Harmless ts lams by_plan g i u (cycled at f d r w) = IsHarmless ts lams by_plan g i at f
Harmless ts lams by_plan g i u _ = Unit {0}

-- each cycle of a service, whatever the branch is like and answers
abbrev pub IsHarmlessService : Layout → Script → List Source → Clears → (bit : ℕ) → ℕ → Service → Type 0
IsHarmlessService plan script ts by_plan g i v =
    (b : Branch) (answers : List Answer) → Meets no_count (Harmless ts (lams_of script) by_plan g i) AnyStop Any nothing (service_meaning (context plan script) 65535 v b answers)

-- a service that makes a cycle that clears its own look-at-me, if its bit is meant, and whose cycles are harmless, does what is asked of it
abbrev pub HarmlessServe : Type 0
HarmlessServe =
    (plan : Layout) (script : Script) (ts : List Source) (by_plan : Clears) (g i : ℕ) (v : Service) (lam : Address) → lams_of script i ≡ Some lam
    → ((t : Source) → slice_get ts i ≡ Some t → is_up_to g t ≡ true → MakesOne plan script v (clears by_plan lam))
    → IsHarmlessService plan script ts by_plan g i v → ServesItself plan script ts by_plan g i v

-- What a list of commands tells of a service: which look-at-mes it may clear or hide.

-- it may be this call for the look-at-me at this address, or for its crate
abbrev pub may_call_lam : LamCall → (lam : Address) → Command → Bool
may_call_lam k lam c = nat_eq c.function (lam_function k) && lies_in c.region lam

abbrev pub may_call_crate : CrateCall → (lam : Address) → Command → Bool
may_call_crate k lam c = nat_eq c.function (crate_function k) && lies_in c.region (crate_address k lam.crate_no)

-- it may be made at the station
abbrev pub may_be_at : (lam : Address) → Command → Bool
may_be_at lam c = (nat_le c.region.crates.lo lam.crate_no && nat_le lam.crate_no c.region.crates.hi) && (nat_le c.region.stations.lo lam.station && nat_le lam.station c.region.stations.hi)

-- the plan has one of its function that clears, at one of its sub-addresses
abbrev pub clears_at : Layout → (lam : Address) → Command → (sub_address : ℕ) → Bool
clears_at plan lam c a =
    (nat_le c.region.sub_addresses.lo a && nat_le a c.region.sub_addresses.hi) && declared_clears plan lam.crate_no lam.station a c.function

abbrev pub may_clear_by_plan : Layout → (lam : Address) → Command → Bool
may_clear_by_plan plan lam c = may_be_at lam c && list_any (clears_at plan lam c) (range_with_len 0 16)

-- It is made at the station alone. At a sub-address it spares the look-at-me, where it is not F10 at its own, and the plan does not say that it clears
abbrev pub must_be_at : (lam : Address) → Command → Bool
must_be_at lam c =
    (nat_eq c.region.crates.lo lam.crate_no && nat_eq c.region.crates.hi lam.crate_no) && (nat_eq c.region.stations.lo lam.station && nat_eq c.region.stations.hi lam.station)

abbrev pub spares_at : Layout → (lam : Address) → Command → (sub_address : ℕ) → Bool
spares_at plan lam c a =
    (nat_le c.region.sub_addresses.lo a && nat_le a c.region.sub_addresses.hi)
    && not ((nat_eq c.function (lam_function lam_word.Clear) && nat_eq lam.sub_address a) || declared_clears plan lam.crate_no lam.station a c.function)

-- it clears it, at whatever address it is made
abbrev pub must_clear : Layout → (lam : Address) → Command → Bool
must_clear plan lam c = must_be_at lam c && (nat_lt c.region.sub_addresses.hi 16 && not (list_any (spares_at plan lam c) (range_with_len 0 16)))

-- whether the service of this number makes such a command, wherever it ends, by these rows of the bodies
abbrev pub clears_lam : Layout → Script → List BodyRows → (lam : Address) → (service : ℕ) → Bool
clears_lam plan script bodies lam j = unwrap_or (slice_get (told_over (surely_block (must_clear plan lam)) [] (sections_of script) bodies) j) false

-- it may clear it, or hide it
abbrev pub could_clear : Layout → (lam : Address) → Command → Bool
could_clear plan lam c =
    (may_call_lam lam_word.Clear lam c || may_clear_by_plan plan lam c)
    || (may_call_crate crate_word.Initialise lam c || (may_call_crate crate_word.Clear lam c || may_call_lam lam_word.Disable lam c))

abbrev pub could_hide : (lam : Address) → Command → Bool
could_hide lam c = may_call_lam lam_word.Disable lam c || (may_call_crate crate_word.Initialise lam c || may_call_crate crate_word.DemandOff lam c)

-- none of these commands of service number i could clear the look-at-me of another service up to the bit, or hide one
pub record AreCareful (plan : Layout) (script : Script) (ts : List Source) (g i : ℕ) (cs : List Command) : Type 0 where
  pub clear_no_other : (j : ℕ) (t : Source) → slice_get ts j ≡ Some t → is_up_to g t ≡ true → (i ≡ j → ⊥) → of_lam (λ lam. list_any (could_clear plan lam) cs) (lams_of script j) ≡ false
  pub hide_none : (j : ℕ) (t : Source) → slice_get ts j ≡ Some t → is_up_to g t ≡ true → of_lam (λ lam. list_any (could_hide lam) cs) (lams_of script j) ≡ false

-- What is decided of a service: it makes only commands of this list, they are careful, and it makes one that clears its own look-at-me, if its bit is
-- meant.
pub record IsDecided (plan : Layout) (script : Script) (ts : List Source) (g i : ℕ) (v : Service) : Type 0 where
  pub commands : List Command
  pub lam : Address
  pub lam_is : lams_of script i ≡ Some lam
  pub makes : MakesOnly plan script v commands
  pub careful : AreCareful plan script ts g i commands
  pub clears : (t : Source) → slice_get ts i ≡ Some t → is_up_to g t ≡ true → MakesOne plan script v (clears (plan_clears plan) lam)

-- the law of decisions: where this is decided of each service, all services do what is asked of them along every run
unfoldable pub DecidedServe : Type 0
DecidedServe =
    (plan : Layout) → IsPlan plan → (script : Script) (ks : List Bounds) (ts : List Source) → AreSources plan script ks ts
    → (g : ℕ)
    → ((i : ℕ) (v : Service) → slice_get script.services i ≡ Some v → IsDecided plan script ts g i v)
    → (answers : List Answer) → Holds (services_watch ts (lams_of script) (plan_clears plan) g) first_page (the_run plan script answers)
