use Rattle.std.proofs.Common.{◌<◌, ◌≤◌, ◌∙◌, length, arith}
use Rattle.std.specs.Prelude.{min}
use Rattle.camac_check_known.proofs.Steps.{join_grows, join_all}
use Rattle.camac_check_known.proofs.joined.join_registers.Goals as goal

pub places-preserved : goal.places-preserved
places-preserved c =
    let gs = c.args.first.now in
    let hs = c.args.second.now in
    let lt : c.places.i < min (length gs) (length hs) = omega arith in
    c.in_ok-push.ensures.items
    ∙ join_grows gs hs c.places.all.items c.places.i c.join_set.result c.region_in.result c.region_in-in-places.result
    c.places.invariant lt c.join_set.ensures c.region_in.ensures c.region_in-in-places.ensures

pub returns : goal.returns
returns c =
    let gs = c.args.first.now in
    let hs = c.args.second.now in
    let le : min (length gs) (length hs) ≤ c.places.i = omega arith in
    join_all gs hs c.places.all.items c.places.i c.places.invariant le
