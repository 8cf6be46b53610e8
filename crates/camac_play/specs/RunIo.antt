-- The reader and both writers of a run, as a clause sees them before a call and after it.
use Rattle.std.specs.Prelude.{◌≡◌, ◌||◌, ℕ, Bool, List, Option}
use Rattle.std.specs.Io.KnownBytes.{Keeps}
use Rattle.camac_play.specs.Sent.{Outputs}

pub record RunState : Type 0 where
  -- the bytes that are left to read, those that were listed and those that were recorded, where they are known
  pub remaining : Option (List ℕ)
  pub listed : Option (List ℕ)
  pub recorded : Option (List ℕ)
  -- whether a call of the reader, or of a writer, has failed so far
  pub read_failed : Bool
  pub write_failed : Bool
  -- whether what is listed or recorded may be held, and handed on by a later call
  pub gathers : Bool
  -- the names of the streams that are borrowed
  pub names : List ℕ

abbrev pub sent_in : RunState → Outputs
sent_in s = record { listing = s.listed; events = s.recorded }

-- the listing alone changes, and a writer has failed where this is true
pub record OnlyLists (old new : RunState) (failed : Bool) : Type 0 where
  pub left : new.remaining ≡ old.remaining
  pub records : new.recorded ≡ old.recorded
  pub in_failed : new.read_failed ≡ old.read_failed
  pub out_failed : new.write_failed ≡ (old.write_failed || failed)
  pub gathers : new.gathers ≡ old.gathers
  pub same : new.names ≡ old.names

-- the same of the event file
pub record OnlyRecords (old new : RunState) (failed : Bool) : Type 0 where
  pub left : new.remaining ≡ old.remaining
  pub listing : new.listed ≡ old.listed
  pub in_failed : new.read_failed ≡ old.read_failed
  pub out_failed : new.write_failed ≡ (old.write_failed || failed)
  pub gathers : new.gathers ≡ old.gathers
  pub same : new.names ≡ old.names

-- what was given to the writers is kept, and a writer or the reader has failed where this is true
pub record OnlyReads (old new : RunState) (wrote read : Bool) : Type 0 where
  pub listing : Keeps old.listed new.listed
  pub records : Keeps old.recorded new.recorded
  pub in_failed : new.read_failed ≡ (old.read_failed || read)
  pub out_failed : new.write_failed ≡ (old.write_failed || wrote)
  pub gathers : new.gathers ≡ old.gathers
  pub same : new.names ≡ old.names

-- a writer or the reader has failed where this is true
pub record FailsBy (old new : RunState) (wrote read : Bool) : Type 0 where
  pub out_failed : new.write_failed ≡ (old.write_failed || wrote)
  pub in_failed : new.read_failed ≡ (old.read_failed || read)
  pub gathers : new.gathers ≡ old.gathers
  pub same : new.names ≡ old.names
