use Rattle.std.proofs.Common.{subst, arith}
use Rattle.camac_lang.specs.View.{service_of}
use Rattle.camac_check_simple.specs.Gives.{Gives}
use Rattle.camac_check.proofs.Capped.{service_cut}
use Rattle.camac_check.proofs.accept.accept_service.Goals as goal

pub returns : goal.returns
returns c =
    subst (λ r. Gives (λ b. b) c.accept_in_64_bits.result r)
    (service_cut c.args.context.now (service_of c.args.service.now) (omega arith) (omega arith)) c.accept_in_64_bits.ensures
