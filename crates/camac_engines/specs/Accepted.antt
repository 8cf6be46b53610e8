-- The script of a text for a plan, or what is found wrong, with its case.
use Rattle.std.specs.Prelude.{◌≡◌, List, ℕ, Option, Some, None, Result, Ok, Err}
use Rattle.camac_lang.specs.Tree.{Script}
use Rattle.camac_branch.specs.Plan.{Layout}
use Rattle.camac_tokens.specs.Fault.{Fault as TextFault}
use Rattle.camac_tokens.specs.Rules.{rule_of}
use Rattle.camac_text.specs.Parser.{script_of}
use Rattle.camac_names.specs.Link.{link_fault}
use Rattle.camac_names.specs.declared.fault.LinkFault.{LinkFault}
use Rattle.camac_names.specs.declared.fault.LinkFault.TheVariants as link_fault_of
use Rattle.camac_rules.specs.Fault.{Fault as CheckFault, broken}
use Rattle.camac_rules.specs.Accept.{accept}
use Rattle.camac_model.specs.Fine.{Bounds}
use Rattle.camac_explain.specs.declared.finding.Finding.{Finding}
use Rattle.camac_explain.specs.declared.finding.Finding.TheVariants as finding
use Rattle.camac_engines.specs.declared.fault.ToolFault.{ToolFault}
use Rattle.camac_engines.specs.declared.fault.ToolFault.TheVariants as fault
use Rattle.camac_engines.specs.declared.judging.Judged.{Judged}
use Rattle.camac_engines.specs.declared.judging.Judged.TheVariants as judged

-- none where memory was refused
abbrev pub Accepted : Type 0
Accepted = Option (Result Script Finding)

-- by what the checker says of the script
abbrev pub accepted_checked : Script → Result (List Bounds) CheckFault → Accepted
accepted_checked script (Ok bounds) = Some (Ok script)
accepted_checked script (Err (broken rule spot case)) = Some (Err (finding.Check rule spot case))

-- by what linking says of it
abbrev pub accepted_linked : Layout → Script → Option LinkFault → Accepted
accepted_linked plan script None = accepted_checked script (accept plan script)
accepted_linked plan script (Some (link_fault_of.Broken rule spot case)) = Some (Err (finding.Link rule spot case))
accepted_linked plan script (Some link_fault_of.OutOfMemory) = None

-- by what reading the text gives
abbrev pub accepted_read : Layout → Result Script TextFault → Accepted
accepted_read plan (Ok script) = accepted_linked plan script (link_fault plan script)
accepted_read plan (Err flaw) = Some (Err (finding.Text (rule_of flaw.case) flaw.spot))

abbrev pub accepted : Layout → List ℕ → Accepted
accepted plan text = accepted_read plan (script_of text)

-- the script was judged for the plan, or memory was refused
abbrev pub Accepts : Result Judged ToolFault → Layout → Accepted → Type 0
Accepts (Ok (judged.Accepted c)) plan a = (c.plan ≡ plan) × (a ≡ Some (Ok c.script))
Accepts (Ok (judged.Refused f)) plan a = a ≡ Some (Err f)
Accepts (Err fault.Memory) plan a = Unit {0}
Accepts (Err _) plan a = ⊥
