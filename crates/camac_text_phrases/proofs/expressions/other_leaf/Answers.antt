use Rattle.std.proofs.Common.{rules, refl}
use Rattle.camac_lang.specs.Nodes.{expression_in}
use Rattle.camac_text_phrases.specs.Expressions.{factor_with}
use Rattle.camac_text_phrases.proofs.expressions.other_leaf.Goals as goal

pub returns-in_ok-of_variable-in-Some-Name : goal.returns-in_ok-of_variable-in-Some-Name
unfolding factor_with expression_in
returns-in_ok-of_variable-in-Some-Name c room so_far = rw c.in_ok-of_variable-in-Some-Name.ensures (refl, search rules)
