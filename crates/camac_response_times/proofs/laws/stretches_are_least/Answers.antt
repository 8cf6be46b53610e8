use Rattle.camac_response_times.proofs.Rates.{stretches_are_least}
use Rattle.camac_response_times.proofs.laws.stretches_are_least.Goals as goal

pub returns : goal.returns
returns c = stretches_are_least
