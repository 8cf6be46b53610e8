-- What an engine writes and answers.
use Rattle.std.specs.Prelude.{◌≡◌, ℕ, Bool, true, false, List, Option, Some, None, Result, Ok, Err}
use Rattle.std.specs.Io.KnownBytes.{Appends, Keeps}
use Rattle.camac_word.specs.Writing.{AppendsPrefix}
use Rattle.camac_engines.specs.Report.{Report, report_of}
use Rattle.camac_engines.specs.declared.fault.ToolFault.{ToolFault}
use Rattle.camac_engines.specs.declared.fault.ToolFault.TheVariants as fault
use Rattle.camac_engines.specs.declared.outcome.Outcome.{Outcome}
use Rattle.camac_engines.specs.declared.outcome.Outcome.TheVariants.{Good, Refused}
use Rattle.camac_engines.specs.declared.judging.Judged.{Judged}

-- a script was judged, or memory was refused
abbrev pub Judges : Result Judged ToolFault → Report → Type 0
Judges (Ok j) r = r ≡ report_of j
Judges (Err fault.Memory) r = Unit {0}
Judges (Err _) r = ⊥

abbrev pub AtReport : Report → (Outcome → List ℕ → Type 0) → Type 0
AtReport None P = ⊥
AtReport (Some r) P = P r.0 r.1

-- a report was written: all of it at its outcome, or after a write fault a prefix of it
abbrev pub Shows : Report → Option (List ℕ) → Option (List ℕ) → Result Outcome ToolFault → Type 0
Shows r old new (Ok outcome) = AtReport r (λ told text. (outcome ≡ told) × Appends old new text)
Shows r old new (Err fault.Write) = AtReport r (λ told text. AppendsPrefix old new text)
Shows r old new (Err _) = ⊥

-- A text of which this is true was written: all of it at its outcome, or after a write fault a prefix of it; nothing where memory was refused.
abbrev pub IsWritten : (Says : Outcome → List ℕ → Type 0) → (o p : Option (List ℕ)) → Result Outcome ToolFault → Type 0
IsWritten Says o p (Ok outcome) = (text : List ℕ) × Says outcome text × Appends o p text
IsWritten Says o p (Err fault.Write) = (outcome : Outcome) × (text : List ℕ) × Says outcome text × AppendsPrefix o p text
IsWritten Says o p (Err fault.Memory) = Keeps o p
IsWritten Says o p (Err _) = ⊥

-- What an engine answers: what was read is told of, and nothing is written where a fault came before that.
module _ {T : Type 0} (WasRead : T → Type 0) (Says : T → Outcome → List ℕ → Type 0) (IsTooLong : Type 0) (o p : Option (List ℕ)) where
  abbrev pub TellsRead : Result Outcome ToolFault → Type 0
  TellsRead r = (found : T) × WasRead found × IsWritten (Says found) o p r

  abbrev pub Answers : Result Outcome ToolFault → Type 0
  Answers (Ok outcome) = TellsRead (Ok outcome)
  Answers (Err fault.Write) = TellsRead (Err fault.Write)
  Answers (Err fault.TooLong) = IsTooLong × Keeps o p
  Answers (Err _) = Keeps o p

abbrev pub is_write_fault : {T : Type 0} → Result T ToolFault → Bool
is_write_fault (Err fault.Write) = true
is_write_fault _ = false

abbrev pub status_of : Result Outcome ToolFault → ℕ
status_of (Ok Good) = 0
status_of (Ok Refused) = 1
status_of (Err f) = 3
