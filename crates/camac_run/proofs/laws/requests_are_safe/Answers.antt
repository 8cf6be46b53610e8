use Rattle.camac_run.proofs.Requested.{requests_are_safe}
use Rattle.camac_run.proofs.laws.requests_are_safe.Goals as goal

pub returns : goal.returns
returns c =
    let k = c.args.checked.now in
    requests_are_safe k.plan k.script k.bounds c.is_checked.ensures.runs
