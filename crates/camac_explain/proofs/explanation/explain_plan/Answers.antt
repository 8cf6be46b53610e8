use Rattle.std.proofs.Common.{[], refl, option_map, string_bytes}
use Rattle.camac_explain_rule.specs.Advice.{rule_told}
use Rattle.camac_explain_rule.specs.declared.rule.Rule.TheVariants as of
use Rattle.camac_explain.proofs.Told.{explained, same_closing}
use Rattle.camac_explain.proofs.explanation.explain_plan.Goals as goal

pub returns : goal.returns
returns c = (
  option_map string_bytes c.in_ok-sentence.sentence,
  c.in_ok-sentence.ensures,
  explained [] _ _ _ _ _ _ _ c.new-lines.ensures.items c.in_ok-push_sentence.ensures refl c.in_ok-push_closing.ensures
      (same_closing _ _ _ _ _ _ (rule_told (of.Plan c.args.rule)) c.plan_hint.ensures c.rule_advice.ensures.why c.rule_advice.ensures.fix c.code-code.ensures.name),
)
