-- What `camac bounds` and `camac costs` tell of a plan and a script.
use Rattle.std.specs.Prelude.{◌≡◌, ℕ, List, Some, None, Result, Ok, Err}
use Rattle.camac_lang.specs.Tree.{Script}
use Rattle.camac_branch.specs.Plan.{Layout}
use Rattle.camac_tokens.specs.Fault.{Fault as TextFault}
use Rattle.camac_tokens.specs.Rules.{rule_of}
use Rattle.camac_text.specs.Parser.{script_of}
use Rattle.camac_check.specs.Least.{least}
use Rattle.camac_check.specs.declared.fault.LeastFault.{LeastFault}
use Rattle.camac_check.specs.declared.fault.LeastFault.TheVariants as least_fault
use Rattle.camac_explain.specs.Explanation.{refusal_of}
use Rattle.camac_explain.specs.declared.finding.Finding.TheVariants as finding
use Rattle.camac_lines.specs.Headings.{headings_text}
use Rattle.camac_rules.specs.Capped.{capped}
use Rattle.camac_check_costs.specs.Bodies.{costs_with}
use Rattle.camac_check_costs.specs.Texts.{costs_text}
use Rattle.camac_engines.specs.Accepted.{Accepted, accepted}
use Rattle.camac_engines.specs.Report.{Report, refused}
use Rattle.camac_engines.specs.declared.fault.ToolFault.{ToolFault}
use Rattle.camac_engines.specs.declared.fault.ToolFault.TheVariants as fault
use Rattle.camac_engines.specs.declared.judging.Judged.{Judged}
use Rattle.camac_engines.specs.declared.judging.Judged.TheVariants as judged
use Rattle.camac_engines.specs.declared.outcome.Outcome.TheVariants.{Good}

-- the script with its least headings, or what refuses it whatever its headings say, with its case
abbrev pub headed_found : Result Script LeastFault → Accepted
headed_found (Ok script) = Some (Ok script)
headed_found (Err (least_fault.Link rule spot case)) = Some (Err (finding.Link rule spot case))
headed_found (Err (least_fault.Check rule spot case)) = Some (Err (finding.Check rule spot case))
headed_found (Err least_fault.OutOfMemory) = None

-- by what reading the text gives
abbrev pub headed_read : Layout → Result Script TextFault → Accepted
headed_read plan (Ok script) = headed_found (least plan script)
headed_read plan (Err flaw) = Some (Err (finding.Text (rule_of flaw.case) flaw.spot))

abbrev pub headed : Layout → List ℕ → Accepted
headed plan text = headed_read plan (script_of text)

-- its headings, or the line of the refusal
abbrev pub headings_told : Accepted → Report
headings_told (Some (Ok script)) = Some (Good, headings_text script)
headings_told (Some (Err f)) = refused (refusal_of f)
headings_told None = None

-- of a script's text
abbrev pub headings_report : Layout → List ℕ → Report
headings_report plan text = headings_told (headed plan text)

abbrev pub headings_report_of : Judged → Report
headings_report_of (judged.Accepted c) = Some (Good, headings_text c.script)
headings_report_of (judged.Refused f) = refused (refusal_of f)

-- the least headings were found, or memory was refused
abbrev pub FindsHeadings : Result Judged ToolFault → Report → Type 0
FindsHeadings (Ok j) r = r ≡ headings_report_of j
FindsHeadings (Err fault.Memory) r = Unit {0}
FindsHeadings (Err _) r = ⊥

-- the costs of an accepted script
abbrev pub costs_shown : Layout → Script → Report
costs_shown plan script = Some (Good, costs_text None plan script (costs_with capped plan script))

-- of a refused one the line that `camac check` writes
abbrev pub costs_found : Layout → Accepted → Report
costs_found plan (Some (Ok script)) = costs_shown plan script
costs_found plan (Some (Err f)) = refused (refusal_of f)
costs_found plan None = None

-- of a script's text
abbrev pub costs_report : Layout → List ℕ → Report
costs_report plan text = costs_found plan (accepted plan text)

abbrev pub costs_report_of : Judged → Report
costs_report_of (judged.Accepted c) = costs_shown c.plan c.script
costs_report_of (judged.Refused f) = refused (refusal_of f)
