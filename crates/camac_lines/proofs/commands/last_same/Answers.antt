use Rattle.std.proofs.Common.{◌≡◌, true, arith, rules}
use Rattle.camac_branch.specs.Plan.{kind}
use Rattle.camac_module.specs.Commands.{declared, entry}
use Rattle.camac_lines.specs.Commands.{is_same}
use Rattle.camac_lines.proofs.Neighbours.{same_next}
use Rattle.camac_lines.proofs.commands.last_same.Goals as goal

pub places-preserved : goal.places-preserved
places-preserved c =
    let commands = (kind c.args.plan.now c.args.t).commands in
    let same : is_same (declared c.args.d.now) (entry commands c.args.d.now.f c.places.a) ≡ true = search rules in
    let next = same_next commands c.args.d.now.f (declared c.args.d.now) c.places.a c.places-test.true same in
    (omega (arith, next, c.places.invariant.0), omega (arith, c.places.invariant.1), omega (arith, c.places-test.true))
