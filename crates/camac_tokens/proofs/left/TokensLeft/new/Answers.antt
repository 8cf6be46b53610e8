use Rattle.std.proofs.Common.{◌∙◌}
use Rattle.camac_tokens.specs.Scanning.{tokens_of}
use Rattle.camac_tokens.proofs.Steps.{whole_ahead}
use Rattle.camac_tokens.proofs.left.TokensLeft.new.Goals as goal

pub returns-clause-exact : goal.returns-clause-exact
unfolding tokens_of
returns-clause-exact c = c.cut-line.ensures.ahead

pub returns-clause-whole : goal.returns-clause-whole
unfolding tokens_of
returns-clause-whole c = λ ts e. c.cut-line.ensures.ahead ∙ whole_ahead c.args.text.now ts e
