-- The headline of a play, with what its event file has got.
use Rattle.std.specs.Prelude.{◌≡◌, ℕ, false, List, Option, IfSome, is_none, Result, Ok, Err}
use Rattle.std.specs.Io.KnownBytes.{Appends}
use Rattle.camac_lang.specs.Tree.{Script}
use Rattle.camac_branch.specs.Branch.{Answer}
use Rattle.camac_branch.specs.Plan.{Layout}
use Rattle.camac_model.specs.Fine.{Bounds}
use Rattle.camac_answer.specs.Reading.{Reading}
use Rattle.camac_answer.specs.declared.given.Given.{Given}
use Rattle.camac_run.specs.Headline.{event_file, Headline, RunsAlways}
use Rattle.camac_run.specs.Requested.{IsSafeRequest, held_after}
use Rattle.camac_run.specs.Operation.{wanted_after}
use Rattle.camac_play.specs.Play.{Gives, GivesFirst}
use Rattle.camac_play.specs.Sent.{events_of}
use Rattle.camac_play.specs.Told.{that_count, is_begun, if_begun, report, played, used_of}
use Rattle.camac_play.specs.declared.ending.Ending.{Ending}
use Rattle.camac_play.specs.declared.fault.PlayFault.{PlayFault}
use Rattle.camac_play.specs.declared.fault.PlayFault.TheVariants as fault
use Rattle.camac_play.specs.declared.telling.Telling.{Telling}

-- What is sent to the event file is the spelling of the events of the run on the answers that count, however the run is told. Where it is not
-- begun, nothing is.
abbrev pub ReportSendsEventFile : Type 0
ReportSendsEventFile =
    (telling : Telling) (plan : Layout) (script : Script) (gs : List Given)
    → events_of (report telling plan script gs) ≡ if_begun (is_begun telling gs false) (event_file plan script (that_count telling plan script gs))

abbrev pub PlayedSendsEventFile : Type 0
PlayedSendsEventFile =
    (telling : Telling) (plan : Layout) (script : Script) (r : Reading)
    → events_of (played telling plan script r)
    ≡ if_begun (is_begun telling r.given (is_none r.fault)) (event_file plan script (that_count telling plan script r.given))

-- Of the run on these answers and of these bytes of its event file the headline is true, and the operation that is wanted last may be made. Of
-- each list of answers, so up to a service that was left, it is true but for the file.
abbrev pub IsByHeadline : Layout → Script → List Bounds → List Answer → List ℕ → Type 0
IsByHeadline plan script ks answers file =
    Headline plan script ks answers file × RunsAlways plan script ks × IfSome (wanted_after plan script (used_of plan script answers)) (IsSafeRequest plan (held_after plan script (used_of plan script answers)))

-- this is taken of the text, and the event file has got these bytes, once it is begun
abbrev pub PlaysByHeadline : Telling → Layout → Script → List Bounds → Option Reading → (old new : Option (List ℕ)) → Type 0
PlaysByHeadline telling plan script ks left old new =
    (r : Reading) × (file : List ℕ) × Gives telling plan script left r × Appends old new (if_begun (is_begun telling r.given (is_none r.fault)) file)
    × IsByHeadline plan script ks (that_count telling plan script r.given) file

-- the same of the lines before one that could not be read
abbrev pub PlaysByHeadlineSoFar : Telling → Layout → Script → List Bounds → Option Reading → (old new : Option (List ℕ)) → Type 0
PlaysByHeadlineSoFar telling plan script ks left old new =
    (taken : List Given) × (file : List ℕ) × GivesFirst telling plan script left taken × Appends old new (if_begun (is_begun telling taken false) file)
    × IsByHeadline plan script ks (that_count telling plan script taken) file

-- wherever all that was sent was written
abbrev pub KeepsHeadline : Telling → Layout → Script → List Bounds → Option Reading → (old new : Option (List ℕ)) → Result Ending PlayFault → Type 0
KeepsHeadline telling plan script ks left old new (Ok e) = PlaysByHeadline telling plan script ks left old new
KeepsHeadline telling plan script ks left old new (Err fault.Read) = PlaysByHeadlineSoFar telling plan script ks left old new
KeepsHeadline telling plan script ks left old new (Err fault.Write) = Unit {0}
