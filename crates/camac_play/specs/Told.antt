-- What a run writes, to its listing or as requests and to its event file, in one order, from the script and the text of its answers.
use Rattle.std.specs.Prelude.{ℕ, zero, suc, ◌+◌, Bool, true, false, List, [], ◌∷◌, ◌++◌, length, take, drop, Option, Some, None, Result, is_none, nat_eq, option_map, unwrap_or, if◌then◌else◌}
use Rattle.camac_lang.specs.Tree.{Script}
use Rattle.camac_branch.specs.Branch.{Answer}
use Rattle.camac_branch.specs.Plan.{Layout}
use Rattle.camac_event.specs.Spelling.{header, record_of}
use Rattle.camac_event.specs.declared.event.Version.TheVariants.{Two}
use Rattle.camac_model.specs.Behaviour.{Piece, demanded, event_left, Stop, short, overrun, pieces, stop_of, events, events_in, uses}
use Rattle.camac_model.specs.Laws.{is_short}
use Rattle.camac_model.specs.Run.{the_run}
use Rattle.camac_answer.specs.Reading.{Reading, broken, no_more, with_given}
use Rattle.camac_answer.specs.declared.answers.TheConstants.{FILE_ANSWERS, LIVE_ANSWERS}
use Rattle.camac_answer.specs.declared.fault.AnswerFault.{AnswerFault}
use Rattle.camac_answer.specs.declared.fault.AnswerRule.TheVariants.{LineShape}
use Rattle.camac_answer.specs.declared.given.Given.{Given}
use Rattle.camac_answer.specs.declared.given.Given.TheVariants as gives
use Rattle.camac_lines.specs.declared.refusal.Refusal.TheVariants as refusal
use Rattle.camac_lines.specs.Refusal.{refusal_text}
use Rattle.camac_report.specs.Items.{end_text, item_text, abandoned_text, request_text, live_text}
use Rattle.camac_run.specs.Headline.{entry_of}
use Rattle.camac_machine.specs.MachineState.{Left}
use Rattle.camac_run.specs.Ends.{stop_in}
use Rattle.camac_run.specs.Operation.{Wants, wanted_after}
use Rattle.camac_run.specs.Runner.{RunnerState}
use Rattle.camac_run.specs.declared.progress.End.TheVariants as end
use Rattle.camac_run.specs.declared.progress.Wanted.{Wanted}
use Rattle.camac_play.specs.Sent.{Sent, to_listing, to_events}
use Rattle.camac_play.specs.declared.ending.Ending.{Ending}
use Rattle.camac_play.specs.declared.ending.Ending.TheVariants as how
use Rattle.camac_play.specs.declared.telling.Telling.{Telling}
use Rattle.camac_play.specs.declared.telling.Telling.TheVariants.{Listing, Requests}
use Rattle.camac_word.specs.Writing.{Writes}

-- how many answers a run takes at most
abbrev pub most_answers : Telling → ℕ
most_answers Listing = FILE_ANSWERS
most_answers Requests = LIVE_ANSWERS

-- what is written before the answer to an operation: a listing asks for nothing
abbrev pub asked_text : Telling → Wanted → List ℕ
asked_text Listing o = []
asked_text Requests o = request_text o

-- what is written after the answer of what it was used for: who was asked for it is told nothing more
abbrev pub item_line : Telling → Script → Piece → List ℕ
item_line Listing script p = item_text script p
item_line Requests script p = []

-- the line of a piece of a run
abbrev pub line_of : Telling → Script → Piece → List ℕ
line_of Listing script p = item_text script p
line_of Requests script p = live_text p

-- the record of an event under its number; other pieces have none
abbrev pub record_text : ℕ → Piece → List ℕ
record_text n (event_left e) = record_of n (entry_of e)
record_text n _ = []

-- the number of the next event after a piece
abbrev pub number_after : ℕ → Piece → ℕ
number_after n (event_left e) = n + 1
number_after n _ = n

-- the line, in these words, or the record of a piece
abbrev pub piece_sent : (Piece → List ℕ) → ℕ → Piece → List Sent
piece_sent line n p = to_listing (line p) ++ to_events (record_text n p)

-- pieces one after another, where n is the number of the next event
abbrev pub pieces_sent : (Piece → List ℕ) → ℕ → List Piece → List Sent
pieces_sent line n [] = []
pieces_sent line n (p ∷ ps) = piece_sent line n p ++ pieces_sent line (number_after n p) ps

-- the answers that were used for an operation: one whose wait is not permitted is not
abbrev pub used_of : Layout → Script → List Answer → List Answer
used_of plan script answers = take (uses (pieces (the_run plan script answers))) answers

-- what asks for the operation that was wanted last
abbrev pub open_text : Telling → Layout → Script → List Answer → List ℕ
open_text telling plan script answers = unwrap_or (option_map (asked_text telling) (wanted_after plan script (used_of plan script answers))) []

-- The line `abandon` leaves the service in progress: the run goes on at the demand that called it, as if that and all answers since had not
-- been. So the answers of a service that is left do not count.

-- how many of the first n answers come before the service in progress: the most after which the run is at a graded-L operation
abbrev pub count_before : Layout → Script → List Answer → ℕ → ℕ
count_before plan script answers zero = 0
count_before plan script answers (suc n) =
    if is_none (stop_of (the_run plan script (take (suc n) answers))) then suc n else count_before plan script answers n

abbrev pub before_service : Layout → Script → List Answer → List Answer
before_service plan script answers = take (count_before plan script answers (length answers)) answers

-- the service that is called, after a piece
abbrev pub called_after : Option ℕ → Piece → Option ℕ
called_after v (demanded pattern service) = service
called_after v _ = v

abbrev pub last_called : Option ℕ → List Piece → Option ℕ
last_called v [] = v
last_called v (p ∷ ps) = last_called (called_after v p) ps

-- what is written of a service that is left: who was asked for its operations is told nothing
abbrev pub left_line : Telling → Script → Option ℕ → List ℕ
left_line Listing script service = abandoned_text script service
left_line Requests script service = []

-- the lines alone of pieces: a service that is left leaves no event
abbrev pub lines_sent : (Piece → List ℕ) → List Piece → List Sent
lines_sent line [] = []
lines_sent line (p ∷ ps) = to_listing (line p) ++ lines_sent line ps

-- what is sent of the run on these answers after the pieces before
abbrev pub sent_after : (Piece → List ℕ) → List Piece → Layout → Script → List Answer → List Sent
sent_after line before plan script answers =
    pieces_sent line (1 + length (events_in before)) (drop (length before) (pieces (the_run plan script answers)))

-- what is sent of the service in progress, which so many pieces come before, where it is left: its lines, the request that is open, and its name
abbrev pub left_sent : Telling → Layout → Script → List Answer → ℕ → List Sent
left_sent telling plan script answers n =
    lines_sent (line_of telling script) (drop n (pieces (the_run plan script answers)))
    ++ to_listing (open_text telling plan script answers ++ left_line telling script (last_called None (pieces (the_run plan script answers))))

-- What the lines of a text come to
pub record Counted : Type 0 where
  -- the answers that count
  pub answers : List Answer
  -- the pieces of the run before the service that was left last, and what was sent up to its name
  pub before : List Piece
  pub sent : List Sent

abbrev pub none_counted : Counted
none_counted = record { answers = []; before = []; sent = [] }

-- the run is at the demand after these answers again
abbrev pub back_to : Telling → Layout → Script → Counted → List Answer → Counted
back_to telling plan script c answers = record {
  answers = answers;
  before = pieces (the_run plan script answers);
  sent = c.sent
      ++ (sent_after (line_of telling script) c.before plan script answers
      ++ left_sent telling plan script c.answers (length (pieces (the_run plan script answers))));
}

abbrev pub then_given : Telling → Layout → Script → Counted → Given → Counted
then_given telling plan script c (gives.Answer a) = record c { answers = c.answers ++ a ∷ [] }
then_given telling plan script c gives.Abandon = back_to telling plan script c (before_service plan script c.answers)

abbrev pub counted_from : Telling → Layout → Script → Counted → List Given → Counted
counted_from telling plan script c [] = c
counted_from telling plan script c (g ∷ gs) = counted_from telling plan script (then_given telling plan script c g) gs

abbrev pub counted : Telling → Layout → Script → List Given → Counted
counted telling plan script gs = counted_from telling plan script none_counted gs

abbrev pub that_count : Telling → Layout → Script → List Given → List Answer
that_count telling plan script gs = (counted telling plan script gs).answers

-- a run is short inside a service
abbrev pub is_inside : Option Stop → Bool
is_inside None = false
is_inside (Some w) = is_short w

-- whether a run takes what a line gives: there `abandon`, elsewhere an answer alone
abbrev pub takes : Layout → Script → Counted → Given → Bool
takes plan script c (gives.Answer a) = true
takes plan script c gives.Abandon = is_inside (stop_of (the_run plan script c.answers))

-- what it takes of a text after n lines: what it does not take has not the shape of a line
abbrev pub taken_from : Telling → Layout → Script → Counted → ℕ → List Given → Option AnswerFault → Reading
taken_from telling plan script c n [] fault = no_more fault
taken_from telling plan script c n (g ∷ gs) fault =
    if takes plan script c g then with_given g (taken_from telling plan script (then_given telling plan script c g) (n + 1) gs fault)
    else no_more (Some (broken LineShape (n + 1)))

abbrev pub taken_of : Telling → Layout → Script → Reading → Reading
taken_of telling plan script r = taken_from telling plan script none_counted 0 r.given r.fault

-- The pieces of the run on these lines, and the request that is open: all that they call for. Nothing in it is owed to a line that is yet to
-- come.
abbrev pub called_by : Telling → Layout → Script → Counted → List Sent
called_by telling plan script c =
    c.sent ++ (sent_after (line_of telling script) c.before plan script c.answers ++ to_listing (open_text telling plan script c.answers))

abbrev pub called_for : Telling → Layout → Script → List Given → List Sent
called_for telling plan script gs = called_by telling plan script (counted telling plan script gs)

-- Whether the event file is begun: that of a live run before its first request, that of a listing once its first answer is good or the
-- answers have ended.
abbrev pub is_begun : Telling → List Given → (ended : Bool) → Bool
is_begun Requests gs ended = true
is_begun Listing [] ended = ended
is_begun Listing (first ∷ gs) ended = true

-- it is begun after so many lines
abbrev pub begins_after : Telling → (given : ℕ) → Bool
begins_after Listing given = nat_eq given 0
begins_after Requests given = false

-- what is there once the event file is begun
abbrev pub if_begun : {A : Type 0} → Bool → List A → List A
if_begun true sent = sent
if_begun false sent = []

-- the same after the header, which begins the event file: before that nothing is sent
abbrev pub report_by : (ended : Bool) → Telling → Layout → Script → List Given → List Sent
report_by ended telling plan script gs = if_begun (is_begun telling gs ended) (to_events (header Two) ++ called_for telling plan script gs)

-- where more lines may come
abbrev pub report : Telling → Layout → Script → List Given → List Sent
report = report_by false

-- of all that a run takes of a text, which ends after a good line or has a fault
abbrev pub whole_report : Telling → Layout → Script → Reading → List Sent
whole_report telling plan script r = report_by (is_none r.fault) telling plan script r.given

-- How a run ends, by why it stopped and what is wrong with the text of its answers. Such a fault counts only where the run comes to
-- the end of the answers. A run of a checked script stops for no other reasons.
abbrev pub ending_of : Option Stop → Option AnswerFault → Ending
ending_of (Some (overrun c w)) fault = how.End (end.Overrun (record { c = c; wait = w }))
ending_of stop (Some f) = how.Refused f
ending_of (Some short) fault = how.End end.Short
ending_of stop fault = how.End end.Ended

-- the last line, after so many events
abbrev pub ending_text : Ending → ℕ → List ℕ
ending_text (how.End e) n = end_text (stop_in e) n
ending_text (how.Refused f) n = refusal_text (refusal.Answer f.rule f.line)

abbrev pub ending : Telling → Layout → Script → Reading → Ending
ending telling plan script r = ending_of (stop_of (the_run plan script (that_count telling plan script r.given))) r.fault

abbrev pub last_line : Telling → Layout → Script → Reading → List ℕ
last_line telling plan script r =
    ending_text (ending telling plan script r) (length (events (the_run plan script (that_count telling plan script r.given))))

-- all that a run writes: what it tells, and its last line
abbrev pub played : Telling → Layout → Script → Reading → List Sent
played telling plan script r = whole_report telling plan script r ++ to_listing (last_line telling plan script r)

-- the record of the event that a service left, where one was left
abbrev pub event_record : Option Left → List ℕ → List ℕ
event_record None words = []
event_record (Some e) words = record_of e.0 (record { gl = e.1; usage = Some e.2; words = words })

-- what the run wants was asked for, or a prefix of that was written
abbrev pub Asks : {T E : Type 0} → Telling → RunnerState → (old new : Option (List ℕ)) → Result T E → Type 0
Asks telling h old new r = (o : Wanted) × Wants h (Some o) × Writes old new r (asked_text telling o)
