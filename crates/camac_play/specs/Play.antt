-- What a play takes from its answers, and writes. `left` is what the text of the answers gave at first, `now` the text that is left.
use Rattle.std.specs.Prelude.{◌≡◌, ◌+◌, ◌<◌, ◌^◌, ◌⊎◌, ℕ, Bool, true, false, List, [], ◌∷◌, ◌++◌, length, Option, Some, None, Result, Ok, Err}
use Rattle.camac_lang.specs.Tree.{Script}
use Rattle.camac_branch.specs.Plan.{Layout}
use Rattle.camac_model.specs.Behaviour.{events}
use Rattle.camac_model.specs.Run.{the_run}
use Rattle.camac_answer.specs.Answers.{left_in, window, IsOpen, IsNext}
use Rattle.camac_answer.specs.Reading.{Reading, Answered, broken}
use Rattle.camac_answer.specs.declared.fault.AnswerRule.TheVariants.{LineShape}
use Rattle.camac_answer.specs.declared.given.Given.{Given}
use Rattle.camac_answer.specs.declared.given.Given.TheVariants as gives
use Rattle.camac_run.specs.declared.progress.End.TheVariants as end
use Rattle.camac_play.specs.RunIo.{RunState, sent_in}
use Rattle.camac_play.specs.Sent.{Outputs, Sends, SendsPrefix, SendsLastPart, Sent}
use Rattle.camac_play.specs.Told.{most_answers, that_count, taken_of, ending, report, whole_report, played}
use Rattle.camac_play.specs.declared.ending.Ending.{Ending}
use Rattle.camac_play.specs.declared.ending.Ending.TheVariants as how
use Rattle.camac_play.specs.declared.fault.PlayFault.{PlayFault}
use Rattle.camac_play.specs.declared.fault.PlayFault.TheVariants as fault
use Rattle.camac_play.specs.declared.telling.Telling.{Telling}

-- what a text gives after n lines, as a run hears it that is in a service or not: elsewhere `abandon` has not the shape of a line
abbrev pub heard : (inside : Bool) → ℕ → Answered → Answered
heard false n (Ok (Some gives.Abandon)) = Err (broken LineShape (n + 1))
heard _ n r = r

abbrev pub IsHeard : Bool → ℕ → Option Reading → Answered → Option Reading → Type 0
IsHeard inside n left r now = (read : Answered) × IsNext left read now × (r ≡ heard inside n read)

-- this is what a run takes of the text of the answers, where its bytes are known
abbrev pub Gives : Telling → Layout → Script → Option Reading → Reading → Type 0
Gives telling plan script left r = (whole : Reading) → left ≡ Some whole → taken_of telling plan script whole ≡ r

-- it takes these lines first, where its bytes are known
abbrev pub GivesFirst : Telling → Layout → Script → Option Reading → List Given → Type 0
GivesFirst telling plan script left taken =
    (whole : Reading) → left ≡ Some whole → (more : List Given) × ((taken_of telling plan script whole).given ≡ taken ++ more)

-- these lines and then what this gives
abbrev pub with_taken : List Given → Reading → Reading
with_taken taken r = record r { given = taken ++ r.given }

-- these lines alone
abbrev pub only : List Given → Reading
only taken = record { given = taken; fault = None }

-- the text gave these lines, which a run takes, and has this left
abbrev pub HasGiven : Telling → Layout → Script → Option Reading → Option Reading → List Given → Type 0
HasGiven telling plan script left now taken =
    (whole : Reading) → left ≡ Some whole
    → (r : Reading) × (now ≡ Some r) × (whole ≡ with_taken taken r) × (taken_of telling plan script (only taken) ≡ only taken)

-- these lines were read, and no more: this text is left of them
abbrev pub HasRead : Telling → Layout → Script → Option Reading → Option (List ℕ) → List Given → Type 0
HasRead telling plan script left now taken = HasGiven telling plan script left (left_in (most_answers telling) (length taken) now) taken

-- a wait that was not permitted ends a run at once: no line after it was read
abbrev pub ReadsNoMore : Telling → Layout → Script → Option Reading → Option (List ℕ) → Ending → Type 0
ReadsNoMore telling plan script left now (how.End (end.Overrun o)) =
    (taken : List Given) × HasRead telling plan script left now taken × (ending telling plan script (only taken) ≡ how.End (end.Overrun o))
ReadsNoMore telling plan script left now _ = Unit {0}

-- A read failed in the line after these, before the line could be judged. All that they call for was sent, and their events can
-- be numbered.
abbrev pub FailsAtRead : Telling → Layout → Script → Option Reading → Option (List ℕ) → Outputs → Outputs → (List Given → List Sent) → Type 0
FailsAtRead telling plan script left now old new calls =
    (taken : List Given) × (before : Option (List ℕ)) × HasRead telling plan script left before taken × IsOpen (window (most_answers telling) (length taken)) before now
    × (length (events (the_run plan script (that_count telling plan script taken))) < 2 ^ 32) × Sends old new (calls taken)

-- A write failed before a line was read; or after one, and then all that the lines before that one call for was sent.
abbrev pub FailsAtWrite : Telling → Layout → Script → Option Reading → Option (List ℕ) → Outputs → Outputs → (List Given → List Sent) → Type 0
FailsAtWrite telling plan script left now old new calls =
    (HasRead telling plan script left now [] × SendsPrefix old new (calls []))
    ⊎ ((taken : List Given) × (last : Given) × HasRead telling plan script left now (taken ++ last ∷ []) × SendsLastPart old new (calls taken) (calls (taken ++ last ∷ [])))

-- A run that stops before its last line. No line is read before what the ones before it call for was sent: a write fails in what the last
-- line that was read calls for, or in what the end of the text does.
abbrev pub StopsBy : Telling → Layout → Script → Option Reading → Option (List ℕ) → Outputs → Outputs → PlayFault → Type 0
StopsBy telling plan script left now old new fault.Write =
    FailsAtWrite telling plan script left now old new (report telling plan script)
    ⊎ ((r : Reading) × Gives telling plan script left r × ReadsNoMore telling plan script left now (ending telling plan script r)
    × SendsLastPart old new (report telling plan script r.given) (played telling plan script r))
StopsBy telling plan script left now old new fault.Read = FailsAtRead telling plan script left now old new (report telling plan script)

-- All was written at an ending. A fault of the text counts only where the run comes to it.
abbrev pub Plays : Telling → Layout → Script → Option Reading → Option (List ℕ) → Outputs → Outputs → Result Ending PlayFault → Type 0
Plays telling plan script left now old new (Ok e) =
    (r : Reading) × Gives telling plan script left r × (e ≡ ending telling plan script r) × ReadsNoMore telling plan script left now e
    × (length (events (the_run plan script (that_count telling plan script r.given))) < 2 ^ 32) × Sends old new (played telling plan script r)
Plays telling plan script left now old new (Err f) = StopsBy telling plan script left now old new f

-- the same before the last line, with the number of events
abbrev pub Feeds : Telling → Layout → Script → Option Reading → Option (List ℕ) → Outputs → Outputs → Result (Ending × ℕ) PlayFault → Type 0
Feeds telling plan script left now old new (Ok v) =
    (r : Reading) × Gives telling plan script left r × (v.0 ≡ ending telling plan script r) × ReadsNoMore telling plan script left now v.0
    × (v.1 ≡ length (events (the_run plan script (that_count telling plan script r.given)))) × Sends old new (whole_report telling plan script r)
Feeds telling plan script left now old new (Err f) = StopsBy telling plan script left now old new f

-- What was given could not be handed on, where it is held: all that the lines so far call for was given, and no more was read.
abbrev pub FailsAtHandingOn : Bool → Telling → Layout → Script → Option Reading → Option (List ℕ) → Outputs → Outputs → (List Given → List Sent) → Type 0
FailsAtHandingOn gathers telling plan script left now old new calls =
    (gathers ≡ true) × ((taken : List Given) × HasRead telling plan script left now taken × Sends old new (calls taken))

-- the same over streams that may hold what they are given
abbrev pub FeedsOver : Bool → Telling → Layout → Script → Option Reading → Option (List ℕ) → Outputs → Outputs → Result (Ending × ℕ) PlayFault → Type 0
FeedsOver gathers telling plan script left now old new r =
    Feeds telling plan script left now old new r ⊎ ((r ≡ Err fault.Write) × FailsAtHandingOn gathers telling plan script left now old new (report telling plan script))

abbrev pub PlaysOver : Bool → Telling → Layout → Script → Option Reading → Option (List ℕ) → Outputs → Outputs → Result Ending PlayFault → Type 0
PlaysOver gathers telling plan script left now old new r =
    Plays telling plan script left now old new r ⊎ ((r ≡ Err fault.Write) × FailsAtHandingOn gathers telling plan script left now old new (report telling plan script))

-- what the text of the answers gives from here on
abbrev pub left_of : Telling → RunState → Option Reading
left_of telling s = left_in (most_answers telling) 0 s.remaining

abbrev pub FeedsIn : Telling → Layout → Script → (old new : RunState) → Result (Ending × ℕ) PlayFault → Type 0
FeedsIn telling plan script old new r = FeedsOver old.gathers telling plan script (left_of telling old) new.remaining (sent_in old) (sent_in new) r

abbrev pub PlaysIn : Telling → Layout → Script → (old new : RunState) → Result Ending PlayFault → Type 0
PlaysIn telling plan script old new r = PlaysOver old.gathers telling plan script (left_of telling old) new.remaining (sent_in old) (sent_in new) r

abbrev pub is_write_fault : {T : Type 0} → Result T PlayFault → Bool
is_write_fault (Err fault.Write) = true
is_write_fault _ = false

abbrev pub is_read_fault : {T : Type 0} → Result T PlayFault → Bool
is_read_fault (Err fault.Read) = true
is_read_fault _ = false
