-- The events that are read from the bytes of a file where they lie.
use Rattle.std.specs.Prelude.{◌≡◌, ℕ, zero, suc, ◌+◌, ◌*◌, ◌<◌, ◌≤◌, ◌^◌, List, [], ◌∷◌, length, drop, Result, Ok, Err}
use Rattle.std.specs.List.{AllByRecursion}
use Rattle.byteorder.specs.Endian.{big_number}
use Rattle.camac_event.specs.declared.event.Version.{Version}
use Rattle.camac_event.specs.Spelling.{Entry, records_from, IsEvent}
use Rattle.camac_event.specs.Reading.{Flaw, records_at}

-- the first words of four bytes each
unfoldable pub words_in : ℕ → List ℕ → List ℕ
words_in zero bytes = []
words_in (suc count) bytes = big_number 4 bytes ∷ words_in count (drop 4 bytes)

-- the bytes are that many words
pub record AreWords (count : ℕ) (bytes : List ℕ) : Type 0 where
  pub all : length bytes ≡ 4 * count
  pub fit : AllByRecursion (λ w. w < 2 ^ 24) (words_in count bytes)

-- the events that were read, where the bytes are right
abbrev pub events_read : Result (List Entry) Flaw → List Entry
events_read (Ok es) = es
events_read (Err _) = []

-- the events of records that are numbered from this number on
unfoldable pub events_in : Version → ℕ → List ℕ → List Entry
events_in version number bytes = events_read (records_at (length bytes) version number 0 bytes)

-- the bytes are the records of these events
pub record AreRecords (version : Version) (number : ℕ) (bytes : List ℕ) (es : List Entry) : Type 0 where
  pub spelled : bytes ≡ records_from number es
  pub right : AllByRecursion (IsEvent version) es
  pub few : number + length es ≤ 2 ^ 32

-- the events that are still to be read, and how many were read
pub record Unread : Type 0 where
  pub version : Version
  pub read : ℕ
  pub events : List Entry
