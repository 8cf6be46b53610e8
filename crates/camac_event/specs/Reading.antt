-- Reading an event file from left to right, up to the first field that is wrong. `total` is the length of the file, so that a field's
-- offset is the total without what is left at the field's start.
use Rattle.std.specs.Prelude.{◌≡◌, ℕ, zero, suc, ◌+◌, ◌-◌, ◌^◌, Bool, ◌&&◌, ◌==◌, nat_eq, nat_lt, nat_le, List, [], ◌∷◌, length, drop, Option, Some, None, Result, Ok, Err, if◌then◌else◌}
use Rattle.std.specs.List.{starts_with}
use Rattle.byteorder.specs.Endian.{big_number}
use Rattle.camac_event.specs.declared.event.Usage.{Usage}
use Rattle.camac_event.specs.declared.event.Version.{Version}
use Rattle.camac_event.specs.declared.event.Version.TheVariants.{One, Two}
use Rattle.camac_event.specs.declared.fault.EventRule.{EventRule}
use Rattle.camac_event.specs.declared.fault.EventRule.TheVariants.{WrongHeader, WrongMarker, GlOutOfRange, NumberOutOfOrder, MissedAboveCycles, CountAboveLimit, WordTooWide, Truncated}
use Rattle.camac_event.specs.declared.fault.EventFault.{EventFault}
use Rattle.camac_event.specs.declared.fault.EventFault.TheVariants as faults
use Rattle.camac_event.specs.declared.fault.EventFlaw.{EventFlaw}
use Rattle.camac_event.specs.declared.reading.EventHead.{EventHead}
use Rattle.camac_event.specs.Spelling.{Entry, header}

abbrev pub Flaw : Type 0
Flaw = EventFlaw

infixl 10 ◌>>=◌
abbrev pub ◌>>=◌ : {A B : Type 0} → Result A Flaw → (A → Result B Flaw) → Result B Flaw
(Ok x) >>= f = f x
(Err e) >>= f = Err e

-- what a function returned, seen by view, and the rest that it left, are what reading gives
abbrev pub Gives : {X Y : Type 0} → (X → Y) → Result X EventFlaw → List ℕ → Result (Y × List ℕ) Flaw → Type 0
Gives view (Ok x) rest read = read ≡ Ok (view x, rest)
Gives view (Err f) rest read = read ≡ Err f

-- the same where nothing is left
abbrev pub ReadsAll : {X Y : Type 0} → (X → Y) → Result X EventFlaw → Result Y Flaw → Type 0
ReadsAll view (Ok x) read = read ≡ Ok (view x)
ReadsAll view (Err f) read = read ≡ Err f

-- the same unless memory ran out
abbrev pub Fails : {Y : Type 0} → EventFault → Result Y Flaw → Type 0
Fails faults.OutOfMemory read = Unit {0}
Fails (faults.Broken rule offset) read = read ≡ Err (record { rule = rule; offset = offset })

abbrev pub GivesAll : {X Y : Type 0} → (X → Y) → Result X EventFault → Result Y Flaw → Type 0
GivesAll view (Ok x) read = read ≡ Ok (view x)
GivesAll view (Err e) read = Fails e read

-- a function that keeps nothing of what it reads left this rest
abbrev pub Passes : {X Y : Type 0} → Result X EventFlaw → List ℕ → Result (Y × List ℕ) Flaw → Type 0
Passes {Y = Y} (Ok _) rest read = (y : Y) × (read ≡ Ok (y, rest))
Passes (Err f) rest read = read ≡ Err f

-- the same where nothing is left
abbrev pub PassesAll : {X Y : Type 0} → Result X EventFlaw → Result Y Flaw → Type 0
PassesAll {Y = Y} (Ok _) read = (y : Y) × (read ≡ Ok y)
PassesAll (Err f) read = read ≡ Err f

-- a rule broken by the field at which these bytes begin
abbrev pub flaw_at : ℕ → List ℕ → EventRule → Flaw
flaw_at total bytes rule = record { rule = rule; offset = total - length bytes }

-- A field is a value and the bytes after it.
abbrev pub number_at : ℕ → ℕ → List ℕ → Result (ℕ × List ℕ) Flaw
number_at width total bytes =
    if nat_lt (length bytes) width then Err (flaw_at total bytes Truncated) else Ok (big_number width bytes, drop width bytes)

-- a number that passes a test
abbrev pub tested_at : EventRule → (ℕ → Bool) → ℕ → ℕ → List ℕ → Result (ℕ × List ℕ) Flaw
tested_at rule test width total bytes = do
  n ← number_at width total bytes
  if test n.0 then Ok n else Err (flaw_at total bytes rule)

unfoldable pub marker_at : ℕ → List ℕ → Result (ℕ × List ℕ) Flaw
marker_at = tested_at WrongMarker (λ n. n == 0xCA4D) 2

unfoldable pub gl_at : ℕ → List ℕ → Result (ℕ × List ℕ) Flaw
gl_at = tested_at GlOutOfRange (λ n. nat_le 1 n && nat_le n 24) 2

unfoldable pub event_number_at : ℕ → ℕ → List ℕ → Result (ℕ × List ℕ) Flaw
event_number_at number = tested_at NumberOutOfOrder (λ n. n == number) 4

unfoldable pub missed_at : ℕ → ℕ → List ℕ → Result (ℕ × List ℕ) Flaw
missed_at cycles = tested_at MissedAboveCycles (λ n. nat_le n cycles) 2

unfoldable pub count_at : ℕ → List ℕ → Result (ℕ × List ℕ) Flaw
count_at = tested_at CountAboveLimit (λ n. nat_le n 4096) 2

unfoldable pub word_at : ℕ → List ℕ → Result (ℕ × List ℕ) Flaw
word_at = tested_at WordTooWide (λ n. nat_lt n (2 ^ 24)) 4

unfoldable pub usage_at : Version → ℕ → List ℕ → Result (Option Usage × List ℕ) Flaw
usage_at One total bytes = Ok (None, bytes)
usage_at Two total bytes = do
  cycles ← number_at 4 total bytes
  missed ← missed_at cycles.0 total cycles.1
  Ok (Some (record { cycles = cycles.0; missed = missed.0 }), missed.1)

unfoldable pub words_at : ℕ → ℕ → List ℕ → Result (List ℕ × List ℕ) Flaw
words_at zero total bytes = Ok ([], bytes)
words_at (suc n) total bytes = do
  first ← word_at total bytes
  others ← words_at n total first.1
  Ok (first.0 ∷ others.0, others.1)

unfoldable pub record_at : Version → ℕ → ℕ → List ℕ → Result (Entry × List ℕ) Flaw
record_at version number total bytes = do
  marker ← marker_at total bytes
  gl ← gl_at total marker.1
  named ← event_number_at number total gl.1
  usage ← usage_at version total named.1
  count ← count_at total usage.1
  words ← words_at count.0 total count.1
  Ok (record { gl = gl.0; usage = usage.0; words = words.0 }, words.1)

-- the fields of a record before its words were read, and this rest begins with them
abbrev pub GivesHead : ℕ → Result EventHead EventFlaw → List ℕ → Result (Entry × List ℕ) Flaw → Type 0
GivesHead total (Ok h) rest read =
    read ≡ (words_at h.words total rest >>= λ words. Ok (record { gl = h.gl; usage = h.usage; words = words.0 }, words.1))
GivesHead total (Err f) rest read = read ≡ Err f

-- The records up to the end of the bytes. A record takes bytes, so there are no more of them than bytes.
unfoldable pub records_at : ℕ → Version → ℕ → ℕ → List ℕ → Result (List Entry) Flaw
records_at most version number total [] = Ok []
records_at zero version number total (b ∷ bytes) = Err (flaw_at total (b ∷ bytes) Truncated)
records_at (suc most) version number total (b ∷ bytes) = do
  first ← record_at version number total (b ∷ bytes)
  others ← records_at most version (number + 1) total first.1
  Ok (first.0 ∷ others)

unfoldable pub header_at : ℕ → List ℕ → Result (Version × List ℕ) Flaw
header_at total bytes =
    if starts_with nat_eq bytes (header One) then Ok (One, drop 8 bytes)
    else (if starts_with nat_eq bytes (header Two) then Ok (Two, drop 8 bytes) else Err (flaw_at total bytes WrongHeader))

-- all of a file
unfoldable pub file_at : List ℕ → Result (Version × List Entry) Flaw
file_at bytes = do
  version ← header_at (length bytes) bytes
  events ← records_at (length version.1) version.0 1 (length bytes) version.1
  Ok (version.0, events)
