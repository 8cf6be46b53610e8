use Rattle.camac_text.proofs.Faults.{fault_placed}
use Rattle.camac_text.proofs.reading.parse.Goals as goal

pub returns-clause-placed : goal.returns-clause-placed
returns-clause-placed c = fault_placed c.args.text.now c.parse_expecting.result c.parse_expecting.ensures.exact
