-- The run of the branch: a graded-L operation (IEEE 596), at most one service, and so on. The choice of the service is own.
use Rattle.std.specs.Prelude.{ℕ, zero, suc, ◌+◌, ◌-◌, ◌/◌, ◌%◌, ◌^◌, List, [], ◌∷◌, Option, Some, None, Bool, false, nat_eq, length, option_and_then, option_map, slice_get, if◌then◌else◌}
use Rattle.camac_lang.specs.Tree.{Service, Script}
use Rattle.camac_branch.specs.Branch.{Answer, Branch, start, pattern_of}
use Rattle.camac_branch.specs.Plan.{Layout, gl}
use Rattle.camac_model.specs.State.{State, fresh}
use Rattle.camac_model.specs.Behaviour.{Behaviour, does, ends, then_do, Event, demanded, event_left}
use Rattle.camac_model.specs.Meaning.{Context, context, block_meaning}

-- whether a pattern has bit k, from 1, whose value is 2^(k-1)
abbrev pub is_bit_set : (pattern bit : ℕ) → Bool
is_bit_set pattern k = nat_eq (pattern / 2 ^ (k - 1) % 2) 1

-- the graded-L bit of a service: that of its LAM's station
abbrev pub service_bit : Context → Service → Option ℕ
service_bit c v =
    option_and_then (λ at. gl c.plan at.crate_no at.station) (slice_get c.lams v.lam)

abbrev pub is_bit : Option ℕ → ℕ → Bool
is_bit None k = false
is_bit (Some b) k = nat_eq b k

-- a service that is to run: its number among the services, its bit and itself
pub record Chosen : Type 0 where
  pub number : ℕ
  pub bit : ℕ
  pub service : Service

-- the first of these services that has bit k; they are numbered from i
abbrev pub with_bit : Context → (bit number : ℕ) → List Service → Option Chosen
with_bit c k i [] = None
with_bit c k i (v ∷ vs) =
    if is_bit (service_bit c v) k then Some (record { number = i; bit = k; service = v }) else with_bit c k (i + 1) vs

abbrev pub or_next : Option Chosen → Option Chosen → Option Chosen
or_next None o = o
or_next (Some v) o = Some v

-- the service of the least bit of the pattern that has one, among m bits from k on
abbrev pub first_service : Context → (bits bit pattern : ℕ) → List Service → Option Chosen
first_service c zero k pattern vs = None
first_service c (suc m) k pattern vs =
    or_next (if is_bit_set pattern k then with_bit c k 0 vs else None) (first_service c m (k + 1) pattern vs)

abbrev pub service_for : Context → (pattern : ℕ) → List Service → Option Chosen
service_for c pattern vs = first_service c 24 1 pattern vs

-- a service from its start
abbrev pub service_meaning : Context → (allowed : ℕ) → Service → Branch → List Answer → Behaviour State
service_meaning c n v b answers = block_meaning c n v.body (fresh b answers)

-- the event of a service that ended here
abbrev pub event_of : ℕ → State → Event
event_of bit s = record { bit = bit; cycles = s.cost; missed = s.missed; words = s.words }

-- runs the service, if one is called, leaves its event and goes on
abbrev pub serve :
    Context → ℕ → Option Chosen → Branch → List Answer → (Branch → List Answer → Behaviour (Unit {0})) → Behaviour (Unit {0})
serve c n None b answers go = go b answers
serve c n (Some v) b answers go =
    then_do (service_meaning c n v.service b answers) (λ s. does (event_left (event_of v.bit s)) (go s.branch s.answers))

-- at most k graded-L operations; it ends where no answer is left for one
abbrev pub rounds : (operations : ℕ) → Context → (allowed : ℕ) → List Service → Branch → List Answer → Behaviour (Unit {0})
rounds zero c n vs b answers = ends tt
rounds (suc k) c n vs b [] = ends tt
rounds (suc k) c n vs b (a ∷ rest) =
    does (demanded (pattern_of c.plan b a.gl) (option_map (λ v. v.number) (service_for c (pattern_of c.plan b a.gl) vs)))
    (serve c n (service_for c (pattern_of c.plan b a.gl) vs) b rest (rounds k c n vs))

-- the run with at most n turns per loop. Each operation takes an answer, so there are no more of them than answers
abbrev pub run : (allowed : ℕ) → Layout → Script → List Answer → Behaviour (Unit {0})
run n plan script answers = rounds (length answers) (context plan script) n script.services start answers

abbrev pub the_run : Layout → Script → List Answer → Behaviour (Unit {0})
the_run plan script answers = run 65535 plan script answers
