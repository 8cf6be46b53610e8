use Rattle.std.proofs.Common.{sym, ◌∙◌}
use Rattle.camac_check_simple.proofs.Steps.{lam_there, no_lam, same_region}
use Rattle.camac_check_simple.proofs.calls.lam_region.Goals as goal

pub returns-in-Some : goal.returns-in-Some
returns-in-Some c =
    let ls = c.args.context.now.lams.now in
    let l = c.in-Some.lam.now in
    let there = c.in-Some.ensures.lookup in
    sym
    (lam_there ls c.args.lam l there.3.0 (there.3.1 l)
    ∙ same_region c.new.result c.only.result c.only-in-Some.result c.only-in-Some-2.result l.crate_no l.station c.get-in-Some.result l.sub_address
    c.new.ensures c.only.ensures c.only-in-Some.ensures c.only-in-Some-2.ensures c.get-in-Some.ensures.value)

pub returns-in-None : goal.returns-in-None
returns-in-None c =
    let there = c.in-None.ensures.lookup in
    sym (no_lam c.args.context.now.lams.now c.args.lam there.3)
