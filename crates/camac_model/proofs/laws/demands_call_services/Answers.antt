use Rattle.camac_model.proofs.Demands.{demands_call_services}
use Rattle.camac_model.proofs.laws.demands_call_services.Goals as goal

pub returns : goal.returns
returns c = demands_call_services
