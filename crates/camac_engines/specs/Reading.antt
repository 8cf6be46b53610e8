-- What reading a whole input takes from a reader whose bytes are known.
use Rattle.std.specs.Prelude.{◌≡◌, ℕ, ◌+◌, ◌≤◌, Bool, true, false, List, length, Option, Result, Ok, Err}
use Rattle.std.specs.Io.KnownBytes.{Consumes, IsAtEnd}
use Rattle.std.specs.Global.{Vec}
use Rattle.camac_engines.specs.declared.fault.ToolFault.{ToolFault}
use Rattle.camac_engines.specs.declared.fault.ToolFault.TheVariants as fault

-- the reader gave that many bytes
abbrev pub ConsumesSome : Option (List ℕ) → Option (List ℕ) → ℕ → Type 0
ConsumesSome old new n = (taken : List ℕ) × (length taken ≡ n) × Consumes old new taken

-- all that a reader had left, within the limit
abbrev pub WasRead : ℕ → Option (List ℕ) → Option (List ℕ) → List ℕ → Type 0
WasRead limit old new bytes = (length bytes ≤ limit) × Consumes old new bytes × IsAtEnd new

-- the reader gave the bytes and is at its end, or one byte more than the limit
abbrev pub Reads : Option (List ℕ) → Option (List ℕ) → ℕ → Result (Vec ℕ) ToolFault → Type 0
Reads old new limit (Ok bytes) = WasRead limit old new bytes.items
Reads old new limit (Err fault.TooLong) = ConsumesSome old new (limit + 1)
Reads old new limit (Err fault.Read) = (n : ℕ) × (n ≤ limit) × ConsumesSome old new n
Reads old new limit (Err fault.Memory) = (n : ℕ) × (n ≤ limit + 1) × ConsumesSome old new n
Reads old new limit (Err fault.Write) = ⊥

-- a reader answered an error
abbrev pub is_read_fault : {T : Type 0} → Result T ToolFault → Bool
is_read_fault (Err fault.Read) = true
is_read_fault _ = false
