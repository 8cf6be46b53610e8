-- What `camac explain` tells of a plan and a script, and of a code.
use Rattle.std.specs.Prelude.{◌≡◌, ℕ, List, ◌++◌, Some, None, Result, Ok, Err}
use Rattle.std.specs.Result.{result_ok}
use Rattle.camac_lang.specs.Tree.{Script}
use Rattle.camac_tokens.specs.Fault.{Fault as TextFault}
use Rattle.camac_tokens.specs.Rules.{rule_of}
use Rattle.camac_text.specs.Parser.{script_of}
use Rattle.camac_branch.specs.Plan.{Layout}
use Rattle.camac_plan.specs.declared.fault.PlanCase.{PlanCase}
use Rattle.camac_plan.specs.declared.fault.PlanFault.TheVariants.{Broken}
use Rattle.camac_plan.specs.Reading.{TellsCase}
use Rattle.camac_explain.specs.Explanation.{IsPlanExplanation, explanation_of, text_explanation}
use Rattle.camac_explain_rule.specs.Advice.{IsRuleText}
use Rattle.camac_explain.specs.Sentence.{sentence_of}
use Rattle.camac_explain.specs.declared.finding.Finding.{Finding}
use Rattle.camac_explain.specs.declared.finding.Finding.TheVariants as finding
use Rattle.camac_explain_rule.specs.declared.rule.Rule.{Rule}
use Rattle.camac_explain_text.specs.Sentence.{Said, IsTextTold}
use Rattle.camac_engines.specs.Accepted.{Accepted, accepted}
use Rattle.camac_engines.specs.Headings.{headed, headings_report}
use Rattle.camac_engines.specs.Plan.{PlanFound}
use Rattle.camac_engines.specs.Refusals.{told_after}
use Rattle.camac_engines.specs.Report.{Report, report}
use Rattle.camac_engines.specs.declared.explaining.TextExplained.{TextExplained}
use Rattle.camac_engines.specs.declared.outcome.Outcome.{Outcome}
use Rattle.camac_engines.specs.declared.outcome.Outcome.TheVariants.{Good, Refused}

-- by what the rule knew of a script, or by what is told of any other text's fault
abbrev pub ExplainedBy : List ℕ → Result Script TextFault → Finding → List ℕ → Type 0
ExplainedBy text (Ok script) f more = more ≡ explanation_of text f (sentence_of script f)
ExplainedBy text (Err flaw) f more = (said : Said) × IsTextTold text flaw said × (more ≡ text_explanation text f said.0 said.1)

-- the lines that explain what was found in a script's text
abbrev pub Explained : List ℕ → Finding → List ℕ → Type 0
Explained text = ExplainedBy text (script_of text)

-- and then its turn, and a line for each further refusal
abbrev pub AllExplained : Layout → List ℕ → Finding → List ℕ → Type 0
AllExplained plan text f more = (lines : List ℕ) × Explained text f lines × (more ≡ lines ++ told_after plan text (result_ok (script_of text)))

-- what explains a finding, where there is one
abbrev pub ExplainedIf : (Explains : Finding → List ℕ → Type 0) → Accepted → List ℕ → Type 0
ExplainedIf Explains (Some (Err f)) more = Explains f more
ExplainedIf Explains _ more = ⊥

-- those that explain a plan's refusal, by the case in which its text breaks the rule
abbrev pub PlanExplained : PlanFound → List ℕ → Type 0
PlanExplained (Err (text, rule)) more = (case : PlanCase) × TellsCase text (Broken rule case) × IsPlanExplanation text rule case more
PlanExplained (Ok plan) more = ⊥

-- after the text of a refusal comes what explains it
abbrev pub Followed : (Follows : List ℕ → Type 0) → Outcome → (text whole : List ℕ) → Type 0
Followed Follows Good text whole = whole ≡ text
Followed Follows Refused text whole = (more : List ℕ) × Follows more × (whole ≡ text ++ more)

abbrev pub ReportsMore : (Follows : List ℕ → Type 0) → Report → Outcome → List ℕ → Type 0
ReportsMore Follows None outcome whole = ⊥
ReportsMore Follows (Some told) outcome whole = (outcome ≡ told.0) × Followed Follows told.0 told.1 whole

-- of a script's text, for a plan
abbrev pub TellsExplained : Layout → List ℕ → Outcome → List ℕ → Type 0
TellsExplained plan text = ReportsMore (ExplainedIf (AllExplained plan text) (accepted plan text)) (report plan text)

-- with its least headings
abbrev pub TellsHeadings : Layout → List ℕ → Outcome → List ℕ → Type 0
TellsHeadings plan text = ReportsMore (ExplainedIf (Explained text) (headed plan text)) (headings_report plan text)

-- the text is this script, or it has this fault, which is explained
abbrev pub IsRead : List ℕ → Result Script TextExplained → Type 0
IsRead text (Ok script) = script_of text ≡ Ok script
IsRead text (Err told) =
    (flaw : TextFault) × (script_of text ≡ Err flaw) × (told.finding ≡ finding.Text (rule_of flaw.case) flaw.spot) × Explained text told.finding told.lines.items

-- of a code
abbrev pub TellsRule : Rule → Outcome → List ℕ → Type 0
TellsRule rule outcome text = (outcome ≡ Good) × IsRuleText rule text
