use Rattle.std.proofs.Common.{sym, ◌∙◌}
use Rattle.std.specs.Prelude.{nat_eq}
use Rattle.std.proofs.lemmas.Bool.{eqb-true, eq-eqb}
use lib.Pointwise.{pointwise_decides}
use Rattle.camac_tool_words.proofs.words.is_word.Goals as goal

pub returns : goal.returns
returns c =
    let decides = pointwise_decides {E = nat_eq} (λ x y. (eqb-true x y, eq-eqb x y)) c.args.word.now c.args.text.now in
    (λ found. decides.0 (sym c.eq.ensures ∙ found), λ same. c.eq.ensures ∙ decides.1 same)
