-- What events are, and the one spelling of each list of them in either version (own). Numbers are big-endian.
use Rattle.std.specs.Prelude.{◌≡◌, ℕ, ◌+◌, ◌<◌, ◌≤◌, ◌^◌, List, [], ◌∷◌, ◌++◌, length, map, codes, Option, Some, None}
use Rattle.std.specs.List.{flat_map, AllByRecursion}
use Rattle.byteorder.specs.Endian.{big_bytes}
use Rattle.camac_event.specs.declared.event.Event.{Event}
use Rattle.camac_event.specs.declared.event.Usage.{Usage}
use Rattle.camac_event.specs.declared.event.Version.{Version}
use Rattle.camac_event.specs.declared.event.Version.TheVariants.{One, Two}

-- what a service left that ended: its bit of the graded-L pattern, in version Two its usage, and its words
pub record Entry : Type 0 where
  pub gl : ℕ
  pub usage : Option Usage
  pub words : List ℕ

abbrev pub entry_of : Event → Entry
entry_of e = record { gl = e.gl; usage = e.usage; words = e.words.items }

abbrev pub entries_of : List Event → List Entry
entries_of es = map entry_of es

-- events with the version that they are written in
pub record Listing : Type 0 where
  pub version : Version
  pub events : List Entry

abbrev pub parts_of : Listing → Version × List Entry
parts_of l = (l.version, l.events)

abbrev pub header : Version → List ℕ
header One = codes "CAMACEV1"
header Two = codes "CAMACEV2"

abbrev pub usage_fields : Option Usage → List ℕ
usage_fields None = []
usage_fields (Some u) = big_bytes 4 u.cycles ++ big_bytes 2 u.missed

-- what stands before the words of an event: marker, GL number, event number, usage, count of words
abbrev pub head_of : ℕ → ℕ → Option Usage → ℕ → List ℕ
head_of number gl usage words = big_bytes 2 0xCA4D ++ big_bytes 2 gl ++ big_bytes 4 number ++ usage_fields usage ++ big_bytes 2 words

-- an event under its number
abbrev pub record_of : ℕ → Entry → List ℕ
record_of number e = head_of number e.gl e.usage (length e.words) ++ flat_map (big_bytes 4) e.words

-- the events, numbered one after the other
abbrev pub records_from : ℕ → List Entry → List ℕ
records_from number [] = []
records_from number (e ∷ es) = record_of number e ++ records_from (number + 1) es

-- a whole file
abbrev pub spelling : Version → List Entry → List ℕ
spelling version es = header version ++ records_from 1 es

-- a usage stands exactly in version Two, where no more cycles were missed than made
abbrev pub HasUsage : Version → Option Usage → Type 0
HasUsage One usage = usage ≡ None
HasUsage Two None = ⊥
HasUsage Two (Some u) = u.missed ≤ u.cycles

-- its numbers fit their fields
abbrev pub UsageFits : Option Usage → Type 0
UsageFits None = Unit {0}
UsageFits (Some u) = (u.cycles < 2 ^ 32) × (u.missed < 2 ^ 16)

-- an event that has a spelling
pub record IsEvent (version : Version) (e : Entry) : Type 0 where
  pub gl_low : 1 ≤ e.gl
  pub gl_high : e.gl ≤ 24
  pub usage : HasUsage version e.usage
  pub usage_fits : UsageFits e.usage
  pub count : length e.words ≤ 4096
  pub words : AllByRecursion (λ w. w < 2 ^ 24) e.words

-- events that have a spelling
abbrev pub AreEvents : Version → List Entry → Type 0
AreEvents version es = (length es < 2 ^ 32) × AllByRecursion (IsEvent version) es
