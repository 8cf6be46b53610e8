-- What the engines tell, by what is asked.
use Rattle.std.specs.Prelude.{ℕ, ◌+◌, List, Option, Result, Ok, Err}
use Rattle.camac_branch.specs.Plan.{Layout}
use Rattle.camac_event.specs.Reading.{file_at}
use Rattle.camac_engines.specs.Headings.{costs_report, headings_report}
use Rattle.camac_engines.specs.Engine.{Answers}
use Rattle.camac_engines.specs.Reading.{ConsumesSome, WasRead}
use Rattle.camac_engines.specs.Explain.{PlanExplained, ReportsMore, TellsExplained, TellsHeadings}
use Rattle.camac_engines.specs.Found.{Found, HasRead, IsTooLong}
use Rattle.camac_engines.specs.Known.{known_report}
use Rattle.camac_engines.specs.Plan.{IsPlanTooLong, PlanFound, Says}
use Rattle.camac_engines.specs.Tell.{TellsAll}
use Rattle.camac_engines.specs.Report.{Reports, report, report_commands, report_events, report_plan}
use Rattle.camac_engines.specs.declared.ask.Ask.{Ask}
use Rattle.camac_engines.specs.declared.ask.Ask.TheVariants as ask
use Rattle.camac_engines.specs.declared.ask.PlanAsk.{PlanAsk}
use Rattle.camac_engines.specs.declared.ask.PlanAsk.TheVariants as plan_ask
use Rattle.camac_engines.specs.declared.fault.ToolFault.{ToolFault}
use Rattle.camac_engines.specs.declared.outcome.Outcome.{Outcome}
use Rattle.camac_engines.specs.declared.plan.PlanSource.{PlanSource}
use Rattle.camac_engines.specs.declared.reading.TheConstants.{EVENTS_LIMIT}

-- of a plan, by what it reads as
abbrev pub TellsPlan : PlanAsk → PlanFound → Outcome → List ℕ → Type 0
TellsPlan plan_ask.Lines read = Reports (report_plan read)
TellsPlan plan_ask.Commands read = Reports (report_commands read)
TellsPlan plan_ask.Explain read = ReportsMore (PlanExplained read) (report_plan read)

-- of a script's text, for a plan
abbrev pub TellsScript : Ask → Layout → List ℕ → Outcome → List ℕ → Type 0
TellsScript ask.Check plan text = Reports (report plan text)
TellsScript ask.Explain plan text = TellsExplained plan text
TellsScript ask.ExplainBounds plan text = TellsHeadings plan text
TellsScript (ask.ExplainAt line column turns) plan text = Reports (known_report line column turns plan text)
TellsScript ask.Bounds plan text = Reports (headings_report plan text)
TellsScript ask.Costs plan text = Reports (costs_report plan text)
TellsScript ask.Tell plan text = TellsAll plan text

-- what is asked of a plan that is refused
abbrev pub of_plan : Ask → PlanAsk
of_plan ask.Explain = plan_ask.Explain
of_plan ask.ExplainBounds = plan_ask.Explain
of_plan ask.Tell = plan_ask.Explain
of_plan _ = plan_ask.Lines

-- of a plan and a script
abbrev pub TellsFound : Ask → Found → Outcome → List ℕ → Type 0
TellsFound a (Ok found) = TellsScript a found.0 found.1
TellsFound a (Err why) = TellsPlan (of_plan a) (Err why)

abbrev pub AnswersPlan : PlanAsk → {R : Type 0} → (left : R → Option (List ℕ)) → (plan plan' : PlanSource R) → (o p : Option (List ℕ)) → Result Outcome ToolFault → Type 0
AnswersPlan a left plan plan' = Answers (Says left plan plan') (TellsPlan a) (IsPlanTooLong left plan plan')

abbrev pub AnswersTexts : Ask → {R : Type 0} → (left : R → Option (List ℕ)) → (plan plan' : PlanSource R) → (s t : Option (List ℕ)) → (o p : Option (List ℕ)) → Result Outcome ToolFault → Type 0
AnswersTexts a left plan plan' s t = Answers (HasRead left plan plan' s t) (TellsFound a) (IsTooLong left plan plan' s t)

-- of an event file
abbrev pub AnswersEvents : (s t : Option (List ℕ)) → (o p : Option (List ℕ)) → Result Outcome ToolFault → Type 0
AnswersEvents s t = Answers (WasRead EVENTS_LIMIT s t) (λ bytes. Reports (report_events (file_at bytes))) (ConsumesSome s t (EVENTS_LIMIT + 1))
