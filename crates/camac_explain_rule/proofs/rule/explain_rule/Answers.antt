use Rattle.std.proofs.Common.{◌≡◌, ℕ, List, ◌++◌, codes, ap, ◌∙◌}
use Rattle.camac_explain_rule.specs.Advice.{rule_told, line_of, fixes_of, rule_code, Grows}
use Rattle.camac_explain_rule.specs.declared.pages.TheConstants.{MORE}
use Rattle.camac_explain_rule.proofs.rule.explain_rule.Goals as goal

-- the text of a rule, with an example that has no clause
rule_parts : (l1 l2 l3 l4 l5 a b m d : List ℕ) → l1 ≡ a → l2 ≡ l1 ++ b → l3 ≡ l2 ++ m → Grows l3 l4 → l5 ≡ l4 ++ d
    → (example : List ℕ) × (l5 ≡ (((a ++ b) ++ m) ++ example) ++ d)
rule_parts l1 l2 l3 l4 l5 a b m d e1 e2 e3 (example, e4) e5 =
    (example, e5 ∙ ap (λ l. l ++ d) (e4 ∙ ap (λ l. l ++ example) (e3 ∙ ap (λ l. l ++ m) (e2 ∙ ap (λ l. l ++ b) e1))))

pub returns : goal.returns
returns c =
    let rule = c.args.rule in
    let name = c.code-code.ensures.name in
    let head : c.push_labelled.new.lines.items ≡ line_of ((rule_code rule).0 ++ codes ": ") (rule_code rule).1 =
    c.in_ok-push_labelled.ensures ∙ ap (λ l. l ++ line_of (c.code-code.result.name.now ++ codes ": ") c.code-code.result.meaning.now) c.new-lines.ensures.items
    ∙ ap (λ n. line_of (n ++ codes ": ") c.code-code.result.meaning.now) name ∙ ap (λ m. line_of ((rule_code rule).0 ++ codes ": ") m) c.code-code.ensures.meaning in
    let why : c.push_line.new.lines.items ≡ c.push_labelled.new.lines.items ++ line_of (codes "Why: ") (rule_told rule).why =
    c.in_ok-push_line.ensures ∙ ap (λ w. c.push_labelled.new.lines.items ++ line_of (codes "Why: ") w) c.rule_advice.ensures.why in
    let page : c.push_line-2.new.lines.items ≡ c.push_example.new.lines.items ++ line_of MORE.now (rule_code rule).0 =
    c.in_ok-push_line-2.ensures ∙ ap (λ n. c.push_example.new.lines.items ++ line_of MORE.now n) name in
    rule_parts c.push_labelled.new.lines.items c.push_line.new.lines.items c.push_fixes.new.lines.items c.push_example.new.lines.items c.push_line-2.new.lines.items
    (line_of ((rule_code rule).0 ++ codes ": ") (rule_code rule).1) (line_of (codes "Why: ") (rule_told rule).why) (fixes_of rule) (line_of MORE.now (rule_code rule).0)
    head why c.in_ok-push_fixes.ensures c.in_ok-push_example.ensures page
