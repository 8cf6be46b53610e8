-- What `camac plan` tells of a plan, `camac check` of a plan and a script, and `camac events` of an event file.
use Rattle.std.specs.Prelude.{◌≡◌, ℕ, List, ◌++◌, Option, Some, None, Result, Ok, Err}
use Rattle.camac_lang.specs.Tree.{Script}
use Rattle.camac_branch.specs.Plan.{Layout}
use Rattle.camac_tokens.specs.Fault.{Fault as TextFault}
use Rattle.camac_tokens.specs.Rules.{rule_of}
use Rattle.camac_text.specs.Parser.{script_of}
use Rattle.camac_names.specs.Link.{link_fault}
use Rattle.camac_names.specs.declared.fault.LinkFault.{LinkFault}
use Rattle.camac_names.specs.declared.fault.LinkFault.TheVariants as link_fault_of
use Rattle.camac_rules.specs.Fault.{Fault as CheckFault, broken}
use Rattle.camac_rules.specs.Accept.{accept}
use Rattle.camac_model.specs.Fine.{Bounds}
use Rattle.camac_event.specs.declared.event.Version.{Version}
use Rattle.camac_event.specs.Spelling.{Entry}
use Rattle.camac_event.specs.Reading.{Flaw}
use Rattle.camac_explain.specs.Explanation.{refusal_of}
use Rattle.camac_lines.specs.Events.{events_text}
use Rattle.camac_lines.specs.Plan.{plan_text, plan_with_commands}
use Rattle.camac_lines.specs.Refusal.{refusal_text}
use Rattle.camac_lines.specs.Verdict.{verdict_text}
use Rattle.camac_lines.specs.declared.refusal.Refusal.{Refusal}
use Rattle.camac_lines.specs.declared.refusal.Refusal.TheVariants as refusal
use Rattle.camac_engines.specs.Plan.{PlanFound}
use Rattle.camac_engines.specs.declared.judging.Judged.{Judged}
use Rattle.camac_engines.specs.declared.judging.Judged.TheVariants as judged
use Rattle.camac_engines.specs.declared.outcome.Outcome.{Outcome}
use Rattle.camac_engines.specs.declared.outcome.Outcome.TheVariants.{Good, Refused}

-- the outcome and the text; none where memory was refused
abbrev pub Report : Type 0
Report = Option (Outcome × List ℕ)

-- it says this
abbrev pub Reports : Report → Outcome → List ℕ → Type 0
Reports r outcome text = r ≡ Some (outcome, text)

abbrev pub refused : Refusal → Report
refused r = Some (Refused, refusal_text r)

-- with lines after it
abbrev pub refused_and : Refusal → List ℕ → Report
refused_and r more = Some (Refused, refusal_text r ++ more)

-- of what acceptance says of the script
abbrev pub report_accepted : Layout → Script → Result (List Bounds) CheckFault → Report
report_accepted plan script (Ok bounds) = Some (Good, verdict_text plan script bounds)
report_accepted plan script (Err (broken rule spot case)) = refused (refusal.Check rule spot.line)

-- of what linking says of the script
abbrev pub report_linked : Layout → Script → Option LinkFault → Report
report_linked plan script None = report_accepted plan script (accept plan script)
report_linked plan script (Some (link_fault_of.Broken rule spot case)) = refused (refusal.Link rule spot.line)
report_linked plan script (Some link_fault_of.OutOfMemory) = None

-- of what reading the text gives
abbrev pub report_read : Layout → Result Script TextFault → Report
report_read plan (Ok script) = report_linked plan script (link_fault plan script)
report_read plan (Err fault) = refused (refusal.Text (rule_of fault.case) fault.spot.line)

-- of a script's text
abbrev pub report : Layout → List ℕ → Report
report plan text = report_read plan (script_of text)

-- of what the plan says
abbrev pub report_plan : PlanFound → Report
report_plan (Ok plan) = Some (Good, plan_text plan)
report_plan (Err (text, rule)) = refused (refusal.Plan rule)

-- the same with the commands of the types
abbrev pub report_commands : PlanFound → Report
report_commands (Ok plan) = Some (Good, plan_with_commands plan)
report_commands (Err (text, rule)) = refused (refusal.Plan rule)

-- of what an event file says
abbrev pub report_events : Result (Version × List Entry) Flaw → Report
report_events (Ok file) = Some (Good, events_text file.1)
report_events (Err flaw) = refused (refusal.Event flaw)

abbrev pub report_of : Judged → Report
report_of (judged.Accepted c) = Some (Good, verdict_text c.plan c.script c.bounds)
report_of (judged.Refused f) = refused (refusal_of f)
