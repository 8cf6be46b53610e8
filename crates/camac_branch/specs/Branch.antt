-- The branch: the state of its crates, what a command replies, and the pattern of a graded-L operation.
use Rattle.std.specs.Prelude.{◌≡◌, ◌↔◌, ◌-◌, ◌≤◌, ℕ, suc, List, [], ◌∷◌, Option, Some, None, Bool, true, false, nat_eq, bit_and, bit_or, if◌then◌else◌}
use Rattle.std.specs.Int.{bit_at}
use Rattle.camac_crate.specs.declared.command.ControllerOp.{ControllerOp}
use Rattle.camac_crate.specs.Controller.{controller}
use Rattle.camac_crate.specs.State.{CrateBits, start_bits, reply_word, reply_q, effect}
use Rattle.camac_branch.specs.Address.{Address}
use Rattle.camac_branch.specs.declared.plan.Crate.{Crate}
use Rattle.camac_branch.specs.Plan.{Layout, IsPlan, gl, bits_of_crate, crate_bits}

-- what a module or a controller answers to one cycle (EUR 4100, IEEE 583)
pub record Reply : Type 0 where
  pub x : Bool
  pub q : Bool
  pub word : ℕ

-- what the branch would answer next: a module's reply, the auxiliary cycles before it (IEEE 675), and the graded-L pattern (IEEE 596)
pub record Answer : Type 0 where
  pub x : Bool
  pub q : Bool
  pub word : ℕ
  pub wait : ℕ
  pub gl : ℕ

-- a crate at one moment: its controller's bits, and whether auxiliary controllers are locked out
pub record CrateNow : Type 0 where
  pub bits : CrateBits
  pub locked : Bool

-- the crates by their numbers
abbrev pub Branch : Type 0
Branch = ℕ → CrateNow

abbrev pub start : Branch
start c = record { bits = start_bits; locked = false }

abbrev pub with_crate : ℕ → CrateNow → Branch → Branch
with_crate c k b d = if nat_eq d c then k else b d

abbrev pub with_lock : ℕ → Bool → Branch → Branch
with_lock c l b = with_crate c (record (b c) { locked = l }) b

-- the reply to a controller command, which is always accepted (own)
abbrev pub controller_reply : ControllerOp → CrateBits → ℕ → Reply
controller_reply op k gl = record { x = true; q = reply_q op k gl; word = reply_word op k gl }

-- the reply of crate c: a controller's, by the graded-L bits of the crate's own stations; else that of a module
abbrev pub reply_in : Layout → Branch → ℕ → Option ControllerOp → Answer → Reply
reply_in plan b c None a = record { x = a.x; q = a.q; word = a.word }
reply_in plan b c (Some op) a = controller_reply op (b c).bits (bit_and a.gl (crate_bits plan c))

-- the reply to a command
abbrev pub reply_to : Layout → Branch → Address → ℕ → Answer → Reply
reply_to plan b at f a = reply_in plan b at.crate_no (controller at.station at.sub_address f) a

-- the branch after a command in crate c; that of a module changes nothing here
abbrev pub effect_in : ℕ → Option ControllerOp → Branch → Branch
effect_in c None b = b
effect_in c (Some op) b = with_crate c (record (b c) { bits = effect op (b c).bits }) b

abbrev pub branch_after : Address → ℕ → Branch → Branch
branch_after at f b = effect_in at.crate_no (controller at.station at.sub_address f) b

-- the graded-L bits of the stations in those of these crates, numbered from c, whose demand output is enabled (own)
abbrev pub enabled_bits : Branch → ℕ → List (Option Crate) → ℕ
enabled_bits b c [] = 0
enabled_bits b c (k ∷ ks) = bit_or (if (b c).bits.demand then bits_of_crate k else 0) (enabled_bits b (suc c) ks)

-- the pattern of a graded-L operation (IEEE 596)
abbrev pub pattern_of : Layout → Branch → ℕ → ℕ
pattern_of plan b gl = bit_and gl (enabled_bits b 1 plan.crates)

-- bit k of a pattern, whose value is 2^(k-1), is 1
abbrev pub IsSet : (pattern k : ℕ) → Type 0
IsSet pattern k = bit_at pattern (k - 1) ≡ 1

-- a station that has bit k in the plan, in a crate whose demand output is enabled
pub record IsEnabled (plan : Layout) (b : Branch) (k : ℕ) : Type 0 where
  pub crate_no : ℕ
  pub station : ℕ
  pub has_bit : gl plan crate_no station ≡ Some k
  pub enabled : (b crate_no).bits.demand ≡ true

-- bit k is in the pattern exactly where the answer has it, and a station of a crate whose demand output is enabled
abbrev pub PatternsAreOfStations : Type 0
PatternsAreOfStations =
    (plan : Layout) → IsPlan plan → (b : Branch) (answered k : ℕ) → 1 ≤ k
    → IsSet (pattern_of plan b answered) k ↔ (IsSet answered k × IsEnabled plan b k)
