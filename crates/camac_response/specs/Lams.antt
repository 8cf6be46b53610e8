-- Look-at-mes as lines that commands clear and hide: what modules do with them, and what the services of a script have to do with them.
use Rattle.std.specs.Prelude.{◌≡◌, ℕ, ◌+◌, ◌<◌, ◌≤◌, ◌&&◌, ◌||◌, Bool, true, false, List, map, Option, Some, None, not, nat_eq, nat_lt, option_and_then, slice_get, if◌then◌else◌}
use Rattle.camac_lang.specs.declared.word.CrateCall.{CrateCall}
use Rattle.camac_lang.specs.declared.word.CrateCall.TheVariants as crate_word
use Rattle.camac_lang.specs.declared.word.LamCall.{LamCall}
use Rattle.camac_lang.specs.declared.word.LamCall.TheVariants as lam_word
use Rattle.camac_lang.specs.Tree.{Script}
use Rattle.camac_branch.specs.Address.{Address}
use Rattle.camac_branch.specs.Branch.{Branch, IsSet, start, branch_after}
use Rattle.camac_branch.specs.Plan.{Layout, declared_clears}
use Rattle.camac_model.specs.Behaviour.{Behaviour, Piece, demanded, cycled, lock_taken, lock_released, event_left}
use Rattle.camac_model.specs.Meaning.{lam_address, crate_address, crate_function, lam_function}
use Rattle.camac_model.specs.Moments.{Meets, Watch, Any, AnyStop}
use Rattle.camac_response_times.specs.declared.source.Source.{Source}
use Rattle.camac_response_times.specs.Response.{is_up_to}
use Rattle.camac_response_times.specs.Rounds.{response}
use Rattle.camac_response.specs.Modules.{Raises, Pauses, AreApart, Clock, at_start, paused, clock_at, ticked, IsOnce}

-- What a command does to a look-at-me.

-- which commands, beside F10 at its address, clear the look-at-me of their station: what the plan says
abbrev pub Clears : Type 0
Clears = Address → (function : ℕ) → Bool

abbrev pub plan_clears : Layout → Clears
plan_clears plan at f = declared_clears plan at.crate_no at.station at.sub_address f

abbrev pub same_station : Address → Address → Bool
same_station a b = nat_eq a.crate_no b.crate_no && nat_eq a.station b.station

abbrev pub same_address : Address → Address → Bool
same_address a b = same_station a b && nat_eq a.sub_address b.sub_address

-- it is this call for the look-at-me at this address, or for its crate
abbrev pub is_lam_call : LamCall → (lam at : Address) → (function : ℕ) → Bool
is_lam_call k lam at f = same_address lam at && nat_eq f (lam_function k)

abbrev pub is_crate_call : CrateCall → (lam at : Address) → (function : ℕ) → Bool
is_crate_call k lam at f = same_address (crate_address k lam.crate_no) at && nat_eq f (crate_function k)

-- it clears the look-at-me at this address
abbrev pub clears : Clears → (lam at : Address) → (function : ℕ) → Bool
clears by_plan lam at f = is_lam_call lam_word.Clear lam at f || (same_station lam at && by_plan at f)

-- some modules are cleared, too, by Z and C in their crate, and by F24 at the look-at-me's address, which disables it
abbrev pub may_clear : Clears → (lam at : Address) → (function : ℕ) → Bool
may_clear by_plan lam at f =
    clears by_plan lam at f || (is_crate_call crate_word.Initialise lam at f || (is_crate_call crate_word.Clear lam at f || is_lam_call lam_word.Disable lam at f))

-- whether the module is enabled to call, after a command: F26 enables it, F24 and Z disable it
abbrev pub enabled_after : (lam at : Address) → (function : ℕ) → Bool → Bool
enabled_after lam at f enabled =
    (enabled || is_lam_call lam_word.Enable lam at f) && not (is_lam_call lam_word.Disable lam at f || is_crate_call crate_word.Initialise lam at f)

-- What is known of a run by its pieces.

-- where the look-at-me of each service is
abbrev pub Lams : Type 0
Lams = (service : ℕ) → Option Address

abbrev pub lams_of : Script → Lams
lams_of script i = option_and_then (λ v. slice_get (map lam_address script.lams) v.lam) (slice_get script.services i)

-- a test of the look-at-me of a service
abbrev pub of_lam : (Address → Bool) → Option Address → Bool
of_lam test None = false
of_lam test (Some lam) = test lam

-- the service that the last operation called; whether it has cleared its look-at-me since; which services' modules are enabled to call; and the
-- crates, whose demand outputs are on or off
pub record Book : Type 0 where
  pub called : Option ℕ
  pub has_cleared : Bool
  pub enabled : ℕ → Bool
  pub crates : Branch

abbrev pub first_page : Book
first_page = record { called = None; has_cleared = false; enabled = λ i. true; crates = start }

abbrev pub enabled_by : Option Address → Address → (function : ℕ) → Bool → Bool
enabled_by None at f enabled = enabled
enabled_by (Some lam) at f enabled = enabled_after lam at f enabled

abbrev pub book_after : Lams → Clears → Book → Piece → Book
book_after lams by_plan b (demanded p v) = record b { called = v; has_cleared = false }
book_after lams by_plan b (cycled at f d r w) = record {
  called = b.called;
  has_cleared = b.has_cleared || of_lam (λ lam. clears by_plan lam at f) (option_and_then lams b.called);
  enabled = λ i. enabled_by (lams i) at f (b.enabled i);
  crates = branch_after at f b.crates;
}
book_after lams by_plan b (lock_taken c w) = b
book_after lams by_plan b (lock_released c) = b
book_after lams by_plan b (event_left e) = b

-- the pattern shows the look-at-me of a service where its module is enabled and the demand output of its crate is on
abbrev pub is_shown : Lams → Book → ℕ → Bool
is_shown lams b i = of_lam (λ lam. b.enabled i && (b.crates lam.crate_no).bits.demand) (lams i)

-- What the services have to do: for the look-at-mes of services up to a bit.

abbrev pub NoneHidden : List Source → Lams → (bit : ℕ) → Book → Type 0
NoneHidden ts lams g b = (i : ℕ) (t : Source) → slice_get ts i ≡ Some t → is_up_to g t ≡ true → is_shown lams b i ≡ true

pub record IsAskedAgain (ts : List Source) (lams : Lams) (g : ℕ) (b : Book) : Type 0 where
  -- the service that was called last has cleared its look-at-me
  pub cleared : (i : ℕ) (t : Source) → slice_get ts i ≡ Some t → is_up_to g t ≡ true → b.called ≡ Some i → b.has_cleared ≡ true
  pub shown : NoneHidden ts lams g b

-- no service clears the look-at-me of another one
abbrev pub ClearsNoOther : List Source → Lams → Clears → (bit : ℕ) → Book → Address → (function : ℕ) → Type 0
ClearsNoOther ts lams by_plan g b at f =
    (i : ℕ) (t : Source) → slice_get ts i ≡ Some t → is_up_to g t ≡ true → (b.called ≡ Some i → ⊥) → of_lam (λ lam. may_clear by_plan lam at f) (lams i) ≡ false

abbrev pub ServesWell : List Source → Lams → Clears → (bit : ℕ) → Book → Piece → Type 0
ServesWell ts lams by_plan g b (demanded p v) = IsAskedAgain ts lams g b
ServesWell ts lams by_plan g b (cycled at f d r w) = ClearsNoOther ts lams by_plan g b at f
ServesWell ts lams by_plan g b _ = Unit {0}

-- the services keep to this along a run
abbrev pub services_watch : List Source → Lams → Clears → (bit : ℕ) → Watch Book (Unit {0})
services_watch ts lams by_plan g =
    record { step = book_after lams by_plan; at_piece = ServesWell ts lams by_plan g; at_stop = AnyStop; at_end = Any }

-- What modules do.

-- the clock, and of the module of each service: how many of its look-at-mes were cleared so far, and which one comes after that which its last call
-- was for. A look-at-me is up from when it is raised until it is cleared
pub record Wires : Type 0 where
  pub clock : Clock
  pub book : Book
  pub cleared : ℕ → ℕ
  pub next : ℕ → ℕ

abbrev pub first_wires : Wires
first_wires = record { clock = at_start; book = first_page; cleared = λ i. 0; next = λ i. 0 }

-- whether a module takes a command that may clear its look-at-me, but need not, as one that does: by the time at which the command ends
abbrev pub Moods : Type 0
Moods = (service time : ℕ) → Bool

-- whether a command that ends at this time clears the look-at-me of a service, if it is up
abbrev pub clears_now : Lams → Clears → Moods → Address → (function time : ℕ) → ℕ → Bool
clears_now lams by_plan moods at f n i =
    of_lam (λ lam. clears by_plan lam at f) (lams i) || (of_lam (λ lam. may_clear by_plan lam at f) (lams i) && moods i n)

-- one that was raised by then is cleared
abbrev pub cleared_by : (is_cleared : Bool) → (raised : ℕ → ℕ) → (ends_at : ℕ) → ℕ → ℕ
cleared_by is_cleared raised n k = if is_cleared && nat_lt (raised k) n then k + 1 else k

abbrev pub cleared_after : Lams → Clears → Moods → Raises → (begins_at : ℕ) → (ℕ → ℕ) → Piece → ℕ → ℕ
cleared_after lams by_plan moods raises n cleared (cycled at f d r w) i = cleared_by (clears_now lams by_plan moods at f (n + (1 + w)) i) (raises i) (n + (1 + w)) (cleared i)
cleared_after lams by_plan moods raises n cleared _ i = cleared i

abbrev pub next_after : (cleared next : ℕ → ℕ) → Piece → ℕ → ℕ
next_after cleared next (demanded p (Some j)) i = if nat_eq i j then cleared i + 1 else next i
next_after cleared next _ i = next i

abbrev pub wires_after : List Source → Lams → Clears → Moods → Raises → Pauses → (bit : ℕ) → Wires → Piece → Wires
wires_after ts lams by_plan moods raises pauses g x p = let y = clock_at pauses x.clock p in record {
  clock = ticked ts g y p;
  book = book_after lams by_plan x.book p;
  cleared = cleared_after lams by_plan moods raises y.time x.cleared p;
  next = next_after x.cleared x.next p;
}

-- What is said at an operation: by what is known before it, the pause before it and the clock after that, its pattern and its call.
abbrev pub AtOperation : Pauses → (Wires → (pause : ℕ) → Clock → (pattern : ℕ) → Option ℕ → Type 0) → Wires → Piece → Type 0
AtOperation pauses says x (demanded p v) = says x (pauses x.clock.operations) (paused (pauses x.clock.operations) x.clock) p v
AtOperation pauses says x _ = Unit {0}

-- what is said at a cycle: by what is known before it, its command and its wait
abbrev pub AtCycle : (Wires → Address → (function wait : ℕ) → Type 0) → Wires → Piece → Type 0
AtCycle says x (cycled at f d r w) = says x at f w
AtCycle says x _ = Unit {0}

-- E is at most T: by its rate a service has ended when its module calls again
pub record EndsByRate (ts : List Source) (t : Source) : Type 0 where
  pub start : ℕ
  pub rate : ℕ
  pub found : response ts t ≡ Some start
  pub given : t.every ≡ Some rate
  pub less : start + t.cycles ≤ rate

-- while its service is in progress, a module raises its look-at-me again only after each command that may clear it: where the rate does not say so
abbrev pub RaisesAfter : List Source → Lams → Clears → Raises → (bit : ℕ) → Wires → Address → (function wait : ℕ) → Type 0
RaisesAfter ts lams by_plan raises g x at f w =
    (i : ℕ) (t : Source) → slice_get ts i ≡ Some t → is_up_to g t ≡ true → (EndsByRate ts t → ⊥) → x.book.called ≡ Some i
    → of_lam (λ lam. may_clear by_plan lam at f) (lams i) ≡ true → x.clock.time + (1 + w) ≤ raises i (x.next i)

-- the pattern of an operation
pub record IsOfLams (ts : List Source) (lams : Lams) (raises : Raises) (g : ℕ) (x : Wires) (y : Clock) (pattern : ℕ) : Type 0 where
  -- a look-at-me that is up is in it, where it is not hidden; one that is raised at this very time may be
  pub up : (i : ℕ) (t : Source) → slice_get ts i ≡ Some t → is_up_to g t ≡ true → is_shown lams x.book i ≡ true → raises i (x.cleared i) < y.time → IsSet pattern t.bit
  -- and no other is
  pub only : (i : ℕ) (t : Source) → slice_get ts i ≡ Some t → is_up_to g t ≡ true → IsSet pattern t.bit → raises i (x.cleared i) ≤ y.time

-- after a pause no look-at-me was up before this time
abbrev pub IsQuiet : List Source → Raises → (bit : ℕ) → Wires → (pause : ℕ) → Clock → Type 0
IsQuiet ts raises g x pause y = (i : ℕ) (t : Source) → slice_get ts i ≡ Some t → is_up_to g t ≡ true → 1 ≤ pause → y.time ≤ raises i (x.cleared i)

module _ (ts : List Source) (lams : Lams) (by_plan : Clears) (moods : Moods) (raises : Raises) (pauses : Pauses) (g : ℕ) where
  -- what is said of a piece holds of each one of a run
  abbrev pub AtEach : (Wires → Piece → Type 0) → Behaviour (Unit {0}) → Type 0
  AtEach says run = Meets (wires_after ts lams by_plan moods raises pauses g) says AnyStop Any first_wires run

  pub record KeepRates (run : Behaviour (Unit {0})) : Type 0 where
    pub every : AreApart ts g raises
    pub once : AtEach (AtOperation pauses (λ x d y p v. IsOnce ts g y.stretch v)) run

  -- What the law of look-at-mes assumes of modules and of the driver, for the services up to a bit: a user has to believe it.
  pub record ModulesKeep (run : Behaviour (Unit {0})) : Type 0 where
    -- Modules keep the rates that you give, and `once` where you give none. These are rates of look-at-mes as they are raised, not of triggers. One
    -- that is up when the run starts counts as raised then.
    pub rates : KeepRates run
    -- A module raises its look-at-me again only after its service has cleared it. Where E is at most T, the rate says so.
    pub again : AtEach (AtCycle (RaisesAfter ts lams by_plan raises g)) run
    -- A station sets its bit for the look-at-me of its service alone. This goes down only by F10 at its address, by what the plan says clears it, by
    -- Z and C of its crate, and by F24 at its address. Till then it is in the pattern. Look-at-mes and demand outputs are enabled when the run
    -- starts.
    pub shown : AtEach (AtOperation pauses (λ x d y p v. IsOfLams ts lams raises g x y p)) run
    -- The driver leaves the branch alone only while no look-at-me is up.
    pub alone : AtEach (AtOperation pauses (λ x d y p v. IsQuiet ts raises g x d y)) run
