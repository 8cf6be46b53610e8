-- The bits of a crate, and what the controller commands answer and change (the project's own).
use Rattle.std.specs.Prelude.{ℕ, Bool, true, false, not, nat_eq, ◌+◌, ◌≡◌, ◌==◌, if◌then◌else◌}
use Rattle.camac_crate.specs.declared.command.ControllerOp.{ControllerOp}
use Rattle.camac_crate.specs.declared.command.ControllerOp.TheVariants.{Initialise, ReadGl, InhibitOff, InhibitOn, TestInhibit, DemandOff, DemandOn, TestDemandOutput, TestDemand}
use Rattle.std.specs.Int.RustNames.{bit_and}

pub record CrateBits : Type 0 where
  -- the common control I
  pub inhibit : Bool
  -- whether the demand output is enabled
  pub demand : Bool

abbrev pub start_bits : CrateBits
start_bits = record { inhibit = false; demand = true }

-- the word of the reply, where gl is the graded-L pattern of the crate's stations
abbrev pub reply_word : ControllerOp → CrateBits → (gl : ℕ) → ℕ
reply_word ReadGl bits gl = gl
reply_word op bits gl = 0

-- Q of the reply: the tested bit; a demand is present where the pattern is not 0
abbrev pub reply_q : ControllerOp → CrateBits → (gl : ℕ) → Bool
reply_q ReadGl bits gl = true
reply_q TestInhibit bits gl = bits.inhibit
reply_q TestDemandOutput bits gl = bits.demand
reply_q TestDemand bits gl = not (nat_eq gl 0)
reply_q op bits gl = false

-- the bits after the command
abbrev pub effect : ControllerOp → CrateBits → CrateBits
effect Initialise bits = record bits { inhibit = true; demand = false }
effect InhibitOff bits = record bits { inhibit = false }
effect InhibitOn bits = record bits { inhibit = true }
effect DemandOff bits = record bits { demand = false }
effect DemandOn bits = record bits { demand = true }
effect op bits = bits

-- The bits of a crate as a set of two bits: inhibit has the value 1, demand the value 2.

abbrev pub bits_of : ℕ → CrateBits
bits_of n = record { inhibit = bit_and n 1 == 1; demand = bit_and n 2 == 2 }

abbrev pub number_of : CrateBits → ℕ
number_of b = (if b.inhibit then 1 else 0) + (if b.demand then 2 else 0)

-- a number with no bit but these two
abbrev pub HasNoOther : ℕ → Type 0
HasNoOther n = number_of (bits_of n) ≡ n
