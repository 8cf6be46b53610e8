-- What a clause reads of a writer that gathers, and of the streams of a run.
use Rattle.std.specs.Prelude.{◌≡◌, ◌||◌, ℕ, Bool, true, List, [], Option}
use Rattle.std.specs.Io.KnownBytes.{append_known, prepend_known}
use Rattle.camac_play.specs.RunIo.{RunState}
use Rattle.camac_tool_host.specs.declared.ahead.Ahead.{Ahead}
use Rattle.camac_tool_host.specs.declared.gathered.Gathered.{Gathered}
use Rattle.camac_tool_host.specs.declared.streams.Streams.{Streams}

-- the writer that it hands on to
abbrev pub device_of : {W : Type 0} → Gathered W → W
device_of g = g.inner.0

-- the bytes that it was given and has not handed on
abbrev pub held_in : {W : Type 0} → Gathered W → List ℕ
held_in g = g.room

-- a call of the writer behind it has failed
abbrev pub has_stopped : {W : Type 0} → (failed : W → Bool) → Gathered W → Bool
has_stopped failed g = failed (device_of g)

-- all that it was given: what was handed on, where that is known, and then what is held
abbrev pub given_to : {W : Type 0} → (W → Option (List ℕ)) → Gathered W → Option (List ℕ)
given_to contents g = append_known (contents (device_of g)) (held_in g)

-- the reader behind one that reads ahead
abbrev pub behind : {R : Type 0} → Ahead R → R
behind a = a.reader

-- the bytes that were read ahead
abbrev pub unread_in : {R : Type 0} → Ahead R → List ℕ
unread_in a = a.unread

-- what it has left: what was read ahead, and then what the reader behind has
abbrev pub left_ahead : {R : Type 0} → (R → Option (List ℕ)) → Ahead R → Option (List ℕ)
left_ahead remaining a = prepend_known (unread_in a) (remaining (behind a))

-- the reader of the answers, the listing and the event file
abbrev pub answers_of : {R W E : Type 0} → Streams R W E → Ahead R
answers_of s = s.answers

abbrev pub listing_of : {R W E : Type 0} → Streams R W E → Gathered W
listing_of s = s.listing

abbrev pub records_of : {R W E : Type 0} → Streams R W E → Gathered E
records_of s = s.records

-- a call of either output has failed
abbrev pub have_stopped : {R W E : Type 0} → (W → Bool) → (E → Bool) → Streams R W E → Bool
have_stopped listing records s = has_stopped listing (listing_of s) || has_stopped records (records_of s)

-- all that was given to either output was handed on
abbrev pub HoldNothing : {R W E : Type 0} → Streams R W E → Type 0
HoldNothing s = (held_in (listing_of s) ≡ []) × (held_in (records_of s) ≡ [])

-- the streams as a run sees them
abbrev pub run_state : {R W E : Type 0} → (R → Option (List ℕ)) → (R → Bool) → (W → Option (List ℕ)) → (W → Bool) → (E → Option (List ℕ)) → (E → Bool) → Streams R W E → RunState
run_state remaining read_failed listed list_failed recorded record_failed s = record {
  remaining = left_ahead remaining (answers_of s);
  listed = given_to listed (listing_of s);
  recorded = given_to recorded (records_of s);
  read_failed = read_failed (behind (answers_of s));
  write_failed = have_stopped list_failed record_failed s;
  gathers = true;
  names = [];
}

-- before a run: what is left to read of the answers, what the listing and the event file hold, and whether the first or one of these has failed
abbrev pub before : (answers listing records : Option (List ℕ)) → (read_failed failed : Bool) → RunState
before answers listing records read_failed failed = record {
  remaining = answers;
  listed = listing;
  recorded = records;
  read_failed = read_failed;
  write_failed = failed;
  gathers = true;
  names = [];
}
