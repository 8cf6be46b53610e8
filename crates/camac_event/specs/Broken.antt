-- Where an event file is wrong: up to there it is whole fields of a right file, and no right file has more of its fields there.
use Rattle.std.specs.Prelude.{◌≡◌, ℕ, ◌+◌, ◌≤◌, ◌<◌, nat_lt, List, [], ◌∷◌, ◌++◌, map, length, slice_index, Option, Some, None, Err, if◌then◌else◌}
use Rattle.std.specs.List.{AllByRecursion}
use Rattle.byteorder.specs.Endian.{big_bytes}
use Rattle.camac_event.specs.declared.event.Usage.{Usage}
use Rattle.camac_event.specs.declared.event.Version.{Version}
use Rattle.camac_event.specs.declared.fault.EventRule.{EventRule}
use Rattle.camac_event.specs.declared.fault.EventRule.TheVariants.{WrongHeader, WrongMarker, GlOutOfRange, NumberOutOfOrder, MissedAboveCycles, CountAboveLimit, WordTooWide, Truncated}
use Rattle.camac_event.specs.Spelling.{Entry, header, spelling, IsEvent, AreEvents}
use Rattle.camac_event.specs.Reading.{Flaw, file_at}

-- the bytes of a field, the rule that other bytes break, and the one that is broken where the file ends inside it
pub record Field : Type 0 where
  pub bytes : List ℕ
  pub wrong : EventRule
  pub cut : EventRule

abbrev pub field : EventRule → List ℕ → Field
field rule bytes = record { bytes = bytes; wrong = rule; cut = Truncated }

-- The fields of a usage. Each number of four bytes is right as cycles.
abbrev pub usage_parts : Option Usage → List Field
usage_parts None = []
usage_parts (Some u) = field Truncated (big_bytes 4 u.cycles) ∷ field MissedAboveCycles (big_bytes 2 u.missed) ∷ []

abbrev pub word_field : ℕ → Field
word_field w = field WordTooWide (big_bytes 4 w)

abbrev pub counted_words : List ℕ → List Field
counted_words ws = field CountAboveLimit (big_bytes 2 (length ws)) ∷ map word_field ws

abbrev pub record_fields : ℕ → Entry → List Field
record_fields number e =
    field WrongMarker (big_bytes 2 0xCA4D)
    ∷ field GlOutOfRange (big_bytes 2 e.gl)
    ∷ field NumberOutOfOrder (big_bytes 4 number)
    ∷ (usage_parts e.usage ++ counted_words e.words)

abbrev pub fields_from : ℕ → List Entry → List Field
fields_from number [] = []
fields_from number (e ∷ es) = record_fields number e ++ fields_from (number + 1) es

abbrev pub header_field : Version → Field
header_field version = record { bytes = header version; wrong = WrongHeader; cut = WrongHeader }

-- the fields of a whole file
abbrev pub file_fields : Version → List Entry → List Field
file_fields version es = header_field version ∷ fields_from 1 es

abbrev pub joined : List Field → List ℕ
joined [] = []
joined (f ∷ fs) = f.bytes ++ joined fs

-- they are the file's spelling
abbrev pub FieldsSpell : Type 0
FieldsSpell = (version : Version) (es : List Entry) → joined (file_fields version es) ≡ spelling version es

-- the bytes are the first of these fields up to the flaw, and there is no room for the next one, or it is another
pub record Reaches (bytes : List ℕ) (fields : List Field) (f : Flaw) : Type 0 where
  pub before : List Field
  pub next : Field
  pub after : List Field
  pub rest : List ℕ
  pub are_fields : fields ≡ before ++ next ∷ after
  pub parts : bytes ≡ joined before ++ rest
  pub offset : f.offset ≡ length (joined before)
  pub rule : f.rule ≡ (if nat_lt (length rest) (length next.bytes) then next.cut else next.wrong)

pub record IsWrongAt (bytes : List ℕ) (f : Flaw) : Type 0 where
  -- the flaw is at a field of some right events,
  pub version : Version
  pub events : List Entry
  pub right : AllByRecursion (IsEvent version) events
  pub reaches : Reaches bytes (file_fields version events) f
  -- and no right file has whole fields in common with the bytes beyond it
  pub furthest : (other : Version) (others : List Entry) → AreEvents other others
      → (before after : List Field) (rest : List ℕ) → file_fields other others ≡ before ++ after → bytes ≡ joined before ++ rest
      → length (joined before) ≤ f.offset

-- where a file is refused
abbrev pub FileFaultsStand : Type 0
FileFaultsStand =
    (bytes : List ℕ) → ((i : ℕ) → slice_index bytes i < 256) → (f : Flaw) → file_at bytes ≡ Err f → IsWrongAt bytes f
