-- The lines that follow a refusal.
use Rattle.camac_explain.specs.declared.finding.Finding.{Finding}
use Rattle.camac_explain.specs.declared.finding.Finding.TheVariants as finding
use Rattle.camac_lines.specs.declared.refusal.Refusal.{Refusal}
use Rattle.camac_lines.specs.declared.refusal.Refusal.TheVariants as refusal
use Rattle.std.specs.Prelude.{◌≡◌, ℕ, List, [], ◌++◌, Option, Some, None, codes, map}
use Rattle.camac_lines.specs.Codes.{plan_code}
use Rattle.camac_lines.specs.Refusal.{code_of}
use Rattle.camac_plan.specs.declared.fault.PlanCase.{PlanCase}
use Rattle.camac_plan.specs.declared.fault.PlanRule.{PlanRule}
use Rattle.camac_explain_plan.specs.Sentence.{IsPlanSentence}
use Rattle.camac_explain_plan.specs.Told.{plan_hint}
use Rattle.camac_explain_rule.specs.Advice.{Told, check_told, line_of, rule_told}
use Rattle.camac_explain.specs.Source.{shown_byte, source_of}
use Rattle.camac_explain_rule.specs.declared.rule.Rule.TheVariants as of
use Rattle.camac_explain_rule.specs.declared.pages.TheConstants.{MORE}

-- What is found wrong, without its case.

abbrev pub refusal_of : Finding → Refusal
refusal_of (finding.Plan rule) = refusal.Plan rule
refusal_of (finding.Text rule spot) = refusal.Text rule spot.line
refusal_of (finding.Link rule spot case) = refusal.Link rule spot.line
refusal_of (finding.Check rule spot case) = refusal.Check rule spot.line

-- The lines that follow a refusal: the source line, at most one sentence, and the hint of a fault, or what is told of the rule.

abbrev pub told_of : Finding → Told
told_of (finding.Plan rule) = rule_told (of.Plan rule)
told_of (finding.Text rule spot) = rule_told (of.Text rule)
told_of (finding.Link rule spot case) = rule_told (of.Link rule)
told_of (finding.Check rule spot case) = check_told rule case

abbrev pub advice_text : Told → (code : List ℕ) → List ℕ
advice_text told code =
    line_of (codes "Why: ") told.why ++ line_of (codes "Fix: ") told.fix ++ line_of MORE.now code

-- a sentence is one line, since a line feed would be shown as `?`
abbrev pub sentence_line : Option (List ℕ) → List ℕ
sentence_line None = []
sentence_line (Some sentence) = map shown_byte sentence ++ codes "\n"

-- a fault's own hint is the fix, in place of what is told of the rule
abbrev pub closing : (hint : Option (List ℕ)) → Told → (code : List ℕ) → List ℕ
closing None told code = advice_text told code
closing (Some hint) told code = codes "Fix: " ++ sentence_line (Some hint) ++ line_of MORE.now code

abbrev pub explanation : (source : List ℕ) → (sentence hint : Option (List ℕ)) → Told → (code : List ℕ) → List ℕ
explanation source sentence hint told code = source ++ sentence_line sentence ++ closing hint told code

-- of a refused text, whose fault may have a hint
abbrev pub text_explanation : (text : List ℕ) → Finding → (sentence hint : Option (List ℕ)) → List ℕ
text_explanation text f sentence hint = explanation (source_of text f) sentence hint (told_of f) (code_of (refusal_of f)).0

-- of a script's refusal
abbrev pub explanation_of : (text : List ℕ) → Finding → (sentence : Option (List ℕ)) → List ℕ
explanation_of text f sentence = text_explanation text f sentence None

-- of a refused plan, by its rule in this case
abbrev pub IsPlanExplanation : (text : List ℕ) → PlanRule → PlanCase → List ℕ → Type 0
IsPlanExplanation text rule case bytes =
    (sentence : Option (List ℕ)) × IsPlanSentence text case sentence × (bytes ≡ explanation [] sentence (plan_hint text case) (rule_told (of.Plan rule)) (plan_code rule).0)
