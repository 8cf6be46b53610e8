-- What `camac tell` tells of a plan and a script.
use Rattle.std.specs.Prelude.{◌≡◌, ℕ, List, [], ◌++◌, Some, None, Result, Ok, Err, flat_map}
use Rattle.camac_lang.specs.Tree.{Script}
use Rattle.camac_branch.specs.Plan.{Layout}
use Rattle.camac_tokens.specs.Fault.{Fault as TextFault}
use Rattle.camac_tokens.specs.Rules.{rule_of}
use Rattle.camac_text.specs.Parser.{script_of}
use Rattle.camac_rules.specs.Checked.{CheckedScript}
use Rattle.camac_rules.specs.Capped.{capped}
use Rattle.camac_check_costs.specs.Bodies.{costs_with}
use Rattle.camac_check_costs.specs.Texts.{costs_text}
use Rattle.camac_response_times.specs.declared.source.Source.{Source}
use Rattle.camac_response.specs.Checked.{AreTold}
use Rattle.camac_response.specs.Lines.{unkept_text}
use Rattle.camac_explain.specs.Explanation.{explanation_of}
use Rattle.camac_explain.specs.Sentence.{sentence_of}
use Rattle.camac_explain.specs.declared.finding.Finding.{Finding}
use Rattle.camac_explain.specs.declared.finding.Finding.TheVariants as finding
use Rattle.camac_engines.specs.Accepted.{Accepted, accepted}
use Rattle.camac_engines.specs.Explain.{Explained}
use Rattle.camac_engines.specs.Refusals.{detail_lines, findings_of, placed_refusal}
use Rattle.camac_engines.specs.Report.{Report, Reports, report, report_of}
use Rattle.camac_engines.specs.Response.{unkept_in}
use Rattle.camac_engines.specs.declared.judging.Judged.TheVariants as judged
use Rattle.camac_engines.specs.declared.outcome.Outcome.{Outcome}
use Rattle.camac_engines.specs.declared.outcome.Outcome.TheVariants.{Refused}

-- what `camac costs` tells of an accepted script, each row with its column in the text
abbrev pub told_costs : Layout → (text : List ℕ) → Script → List ℕ
told_costs plan text script = costs_text (Some text) plan script (costs_with capped plan script)

abbrev pub and_more : Report → (more : List ℕ) → Report
and_more None more = None
and_more (Some told) more = Some (told.0, told.1 ++ more)

-- a refusal in full: its line with its column, what explains it, and its details
abbrev pub told_refusal : Layout → (text : List ℕ) → Script → Finding → List ℕ
told_refusal plan text script f = placed_refusal text f ++ (explanation_of text f (sentence_of script f) ++ detail_lines plan text script f)

-- the fault of a text that is no script, in full
abbrev pub TellsFault : (text : List ℕ) → Finding → List ℕ → Type 0
TellsFault text f whole = (lines : List ℕ) × Explained text f lines × (whole ≡ placed_refusal text f ++ lines)

-- each refusal of a text in full, by what it reads as
abbrev pub TellsRefusals : Layout → (text : List ℕ) → Result Script TextFault → List ℕ → Type 0
TellsRefusals plan text (Ok script) whole = whole ≡ flat_map (told_refusal plan text script) (findings_of plan script)
TellsRefusals plan text (Err flaw) whole = TellsFault text (finding.Text (rule_of flaw.case) flaw.spot) whole

-- a text is refused, and this is told
abbrev pub IsRefused : (Says : List ℕ → Type 0) → Outcome → List ℕ → Type 0
IsRefused Says outcome whole = (outcome ≡ Refused) × Says whole

-- of a checked script what `camac check` tells, what its bounds consist of, and what it does not do for its look-at-mes
abbrev pub TellsChecked : CheckedScript → (text : List ℕ) → Outcome → List ℕ → Type 0
TellsChecked c text outcome whole =
    (sources : List Source)
    × AreTold c [] sources
    × Reports (and_more (report_of (judged.Accepted c)) (told_costs c.plan text c.script ++ unkept_text c.script (unkept_in c sources))) outcome whole

-- of an accepted script all of this; of a refused one each refusal
abbrev pub TellsJudged : Layout → (text : List ℕ) → Accepted → Outcome → List ℕ → Type 0
TellsJudged plan text (Some (Ok script)) = λ outcome whole.
    (c : CheckedScript) × (c.plan ≡ plan) × (c.script ≡ script) × (report plan text ≡ report_of (judged.Accepted c)) × TellsChecked c text outcome whole
TellsJudged plan text (Some (Err f)) = IsRefused (TellsRefusals plan text (script_of text))
TellsJudged plan text None = λ outcome whole. ⊥

abbrev pub TellsAll : Layout → (text : List ℕ) → Outcome → List ℕ → Type 0
TellsAll plan text = TellsJudged plan text (accepted plan text)

-- it accepts what `check` accepts, and refuses what that refuses
abbrev pub TellEndsAsCheck : Type 0
TellEndsAsCheck =
    (plan : Layout) (text : List ℕ) (outcome : Outcome) (whole : List ℕ) → TellsAll plan text outcome whole
    → (told : List ℕ) × (report plan text ≡ Some (outcome, told))
