-- The lines of an event file.
use Rattle.std.specs.Prelude.{ℕ, ◌+◌, List, [], ◌∷◌, ◌++◌, codes, decimal, length, Option, Some, None}
use Rattle.std.specs.List.{flat_map}
use Rattle.camac_event.specs.declared.event.Usage.{Usage}
use Rattle.camac_event.specs.Spelling.{Entry}
use Rattle.camac_lines.specs.Digits.{hex_word}

-- what a service used, where the file tells it
abbrev pub usage_text : Option Usage → List ℕ
usage_text None = []
usage_text (Some u) = codes " cycles " ++ decimal u.cycles ++ codes " missed " ++ decimal u.missed

-- the line of an event up to its words
abbrev pub start_text : (number gl : ℕ) → Option Usage → (words : ℕ) → List ℕ
start_text number gl usage words = codes "event " ++ decimal number ++ codes " gl " ++ decimal gl ++ usage_text usage ++ codes " words " ++ decimal words

abbrev pub event_start : ℕ → Entry → List ℕ
event_start number e = start_text number e.gl e.usage (length e.words)

-- a word after a space
abbrev pub word_text : ℕ → List ℕ
word_text word = codes " " ++ hex_word word

-- an event under its number
unfoldable pub event_line : ℕ → Entry → List ℕ
event_line number e = event_start number e ++ flat_map word_text e.words ++ codes "\n"

-- the events, numbered one after the other
abbrev pub event_lines : ℕ → List Entry → List ℕ
event_lines number [] = []
event_lines number (e ∷ es) = event_line number e ++ event_lines (number + 1) es

abbrev pub last_line : ℕ → List ℕ
last_line events = codes "events " ++ decimal events ++ codes "\n"

-- a line for each event, and the number of them
abbrev pub events_text : List Entry → List ℕ
events_text es = event_lines 1 es ++ last_line (length es)
