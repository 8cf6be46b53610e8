use Rattle.std.proofs.Common.{sym}
use Rattle.camac_response.proofs.Lams.{lam_there, no_lam}
use Rattle.camac_response.proofs.clears.lam_at.Goals as goal

pub returns-in-Some : goal.returns-in-Some
returns-in-Some c =
    let l = c.in-Some.lam.now in
    let there = c.in-Some.ensures.lookup in
    sym (lam_there c.args.lams.now c.args.number l c.get-in-Some.result there.3.0 (there.3.1 l) c.get-in-Some.ensures.value)

pub returns-in-None : goal.returns-in-None
returns-in-None c =
    let there = c.in-None.ensures.lookup in
    sym (no_lam c.args.lams.now c.args.number there.3)
