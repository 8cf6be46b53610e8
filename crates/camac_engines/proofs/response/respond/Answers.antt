use Rattle.std.proofs.Common.{◌∙◌, ap, Err}
use Rattle.std.proofs.lemmas.Result.{err_from_is_err_and}
use Rattle.camac_word.specs.Watched.{inner_of}
use Rattle.camac_engines.proofs.Told.{refusal_responds}
use Rattle.camac_engines.proofs.response.respond.Goals as goal

pub returns-in_err-refuse-in-Refused-clause-responds : goal.returns-in_err-refuse-in-Refused-clause-responds
returns-in_err-refuse-in-Refused-clause-responds g c =
    let fault = err_from_is_err_and c.from_residual.result c.from_residual.ensures.1 in
    rw c.in-Refused.is (refusal_responds c.args.settings.now c.in-Refused.finding c.refusal.result (g.W.Write.contents (inner_of c.args.out.now)) (g.W.Write.contents (inner_of c.refuse.new.out)) c.from_residual.result c.in_err-refuse-in-Refused.field-0.0 c.refusal.ensures (fault.1 ∙ ap Err fault.2) c.in_err-refuse-in-Refused.ensures.shows)
