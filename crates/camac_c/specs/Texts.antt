-- What the calls on texts answer.
use Rattle.std.specs.Prelude.{◌≡◌, ◌<◌, ◌⊎◌, ℕ, List, [], length, nat_eq, Option, Some, None, Result, Ok, Err, if◌then◌else◌}
use Rattle.camac_event.specs.Reading.{file_at}
use Rattle.camac_engines.specs.Ask.{TellsFound, TellsPlan}
use Rattle.camac_engines.specs.Found.{Found, IsJudged}
use Rattle.camac_engines.specs.Report.{Reports, report_events}
use Rattle.camac_engines.specs.declared.ask.Ask.{Ask}
use Rattle.camac_engines.specs.declared.ask.Ask.TheVariants as ask
use Rattle.camac_engines.specs.declared.ask.PlanAsk.{PlanAsk}
use Rattle.camac_engines.specs.declared.ask.PlanAsk.TheVariants as plan_ask
use Rattle.camac_engines.specs.declared.fault.ToolFault.{ToolFault}
use Rattle.camac_engines.specs.declared.fault.ToolFault.TheVariants as fault
use Rattle.camac_engines.specs.declared.judging.Judged.{Judged}
use Rattle.camac_engines.specs.declared.outcome.Outcome.{Outcome}
use Rattle.camac_engines.specs.declared.outcome.Outcome.TheVariants.{Good, Refused}
use Rattle.camac_engines.specs.declared.reading.TheConstants.{TEXT_LIMIT, EVENTS_LIMIT}
use Rattle.camac_c.specs.Filled.{Gives, GivesNothing}
use Rattle.camac_engines.specs.Plan.{PlanFound, plan_found}

abbrev pub code_of : Outcome → ℕ
code_of Good = 0
code_of Refused = 1

-- Text and code of an outcome, of which this is true; or nothing, at 3 for want of memory, and at 7 where a text is too long.
abbrev pub Answers : (Says : Outcome → List ℕ → Type 0) (IsLong : Type 0) → ℕ → (old new : List ℕ) (size : ℕ) → Type 0
Answers Says IsLong code old new size =
    ((outcome : Outcome) × (text : List ℕ) × Says outcome text × (code ≡ code_of outcome) × Gives text old new size)
    ⊎ ((code ≡ 3) × GivesNothing old new size)
    ⊎ ((code ≡ 7) × IsLong × GivesNothing old new size)

abbrev pub IsLongText : List ℕ → Type 0
IsLongText text = TEXT_LIMIT < length text

abbrev pub AreLongTexts : (plan script : List ℕ) → Type 0
AreLongTexts plan script = IsLongText plan ⊎ IsLongText script

-- of a plan
abbrev pub AnswersPlan : PlanAsk → (plan : List ℕ) → ℕ → (old new : List ℕ) (size : ℕ) → Type 0
AnswersPlan a plan = Answers (TellsPlan a (plan_found plan)) (IsLongText plan)

-- what is found of two texts
abbrev pub found_in : PlanFound → (script : List ℕ) → Found
found_in (Ok plan) script = Ok (plan, script)
found_in (Err rule) script = Err rule

-- of a plan and a script
abbrev pub AnswersTexts : Ask → (plan script : List ℕ) → ℕ → (old new : List ℕ) (size : ℕ) → Type 0
AnswersTexts a plan script = Answers (TellsFound a (found_in (plan_found plan) script)) (AreLongTexts plan script)

-- what a number asks of a plan alone, and of a plan and a script
abbrev pub plan_asked : ℕ → Option PlanAsk
plan_asked n = if nat_eq n 1 then Some plan_ask.Lines else if nat_eq n 2 then Some plan_ask.Explain else None

abbrev pub texts_asked : (n line column : ℕ) → Option Ask
texts_asked n line column =
    if nat_eq n 3 then Some ask.Check
    else if nat_eq n 4 then Some ask.Explain
    else if nat_eq n 5 then Some ask.ExplainBounds
    else if nat_eq n 6 then Some ask.Bounds
    else if nat_eq n 7 then Some ask.Costs
    else if nat_eq n 8 then Some ask.Tell
    else if nat_eq n 9 then Some (ask.ExplainAt line column [])
    else None

-- of either; nothing, at 2, where a number asks neither
abbrev pub AnswersAsked : Option PlanAsk → Option Ask → (plan script : List ℕ) → ℕ → (old new : List ℕ) (size : ℕ) → Type 0
AnswersAsked (Some a) b plan script code old new size = AnswersPlan a plan code old new size
AnswersAsked None (Some a) plan script code old new size = AnswersTexts a plan script code old new size
AnswersAsked None None plan script code old new size = (code ≡ 2) × GivesNothing old new size

-- of an event file
abbrev pub AnswersEvents : (file : List ℕ) → ℕ → (old new : List ℕ) (size : ℕ) → Type 0
AnswersEvents file = Answers (Reports (report_events (file_at file))) (EVENTS_LIMIT < length file)

-- this was found of the two
abbrev pub IsFound : PlanFound → (script : List ℕ) → Judged → Type 0
IsFound says script = IsJudged (found_in says script)

-- the code of an answer of an engine; a slice is read without a fault, and a write into memory fails for want of it
abbrev pub fault_code : ToolFault → ℕ
fault_code fault.Read = 3
fault_code fault.Write = 3
fault_code fault.Memory = 3
fault_code fault.TooLong = 7

-- what goes out of what an engine wrote
abbrev pub GoesOut : Result Outcome ToolFault → (text old new : List ℕ) (size : ℕ) → Type 0
GoesOut (Ok outcome) text old new size = Gives text old new size
GoesOut (Err fault) text old new size = GivesNothing old new size

abbrev pub engine_code : Result Outcome ToolFault → ℕ
engine_code (Ok outcome) = code_of outcome
engine_code (Err fault) = fault_code fault
