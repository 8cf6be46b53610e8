use Rattle.camac_model.proofs.Grown.{counts_grow}
use Rattle.camac_model.proofs.laws.counts_grow.Goals as goal

pub returns : goal.returns
returns c = counts_grow
