use Rattle.std.proofs.Common.{arith}
use Rattle.camac_run.proofs.Steps.{seen_is}
use Rattle.camac_run.proofs.ahead.seen.Goals as goal

pub returns : goal.returns
returns g c = seen_is c.args.places c.args.all.now c.args.i c.index-all-places.result (omega arith) (omega arith) c.index-all-places.is
