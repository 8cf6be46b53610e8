use Rattle.std.proofs.Common.{not, ap, ◌∙◌}
use Rattle.camac_text_phrases.proofs.KeepsRead.{free_of_list}
use Rattle.camac_text_phrases.proofs.keeping.is_free.Goals as goal

pub returns-then-place-variable : goal.returns-then-place-variable
returns-then-place-variable c = ap not c.is_kept.ensures ∙ free_of_list c.args.variable c.args.own c.args.keeps.now (λ same. c.if-place-variable.true (c.place.ensures ∙ same))
