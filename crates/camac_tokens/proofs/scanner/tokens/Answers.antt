use Rattle.camac_tokens.proofs.Uncut.{answer_cut, answer_only}
use Rattle.camac_tokens.proofs.scanner.tokens.Goals as goal

pub returns-clause-cut : goal.returns-clause-cut
returns-clause-cut c = answer_cut c.args.text.now c.scan.result c.scan.ensures

pub returns-clause-only : goal.returns-clause-only
returns-clause-only c = answer_only c.args.text.now c.scan.result c.scan.ensures
