use Rattle.std.proofs.Common.{ap, ◌∙◌, ◌++◌, refl}
use Rattle.camac_lines.specs.Refusal.{code_of}
use Rattle.camac_explain.specs.Explanation.{told_of}
use Rattle.camac_explain.specs.Source.{source_of}
use Rattle.camac_explain.proofs.Told.{explained, same_closing}
use Rattle.camac_explain.proofs.explanation.explain_fault.Goals as goal

pub returns : goal.returns
returns c =
    explained (source_of c.args.text.now c.args.finding) _ _ _ _ _ _ _
    (c.in_ok-push_source.ensures ∙ ap (λ l. l ++ source_of c.args.text.now c.args.finding) c.new-lines.ensures.items) c.in_ok-push_sentence.ensures
    refl c.in_ok-push_closing.ensures
    (same_closing _ _ _ _ _ _ (told_of c.args.finding) c.shown.ensures c.advice_of.ensures.why c.advice_of.ensures.fix
    (c.code-code.ensures.name ∙ ap (λ r. (code_of r).0) c.refusal.ensures))
