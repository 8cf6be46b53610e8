use Rattle.std.proofs.Common.{◌<◌, ◌≤◌, ◌∙◌, length, arith}
use Rattle.std.specs.Prelude.{max}
use Rattle.camac_check_known.proofs.Steps.{hulls_grow, hulls_all}
use Rattle.camac_check_known.proofs.joined.hulls.Goals as goal

pub places-preserved : goal.places-preserved
places-preserved c =
    let rs = c.args.first.now in
    let ss = c.args.second.now in
    let lt : c.places.i < max (length rs) (length ss) = omega arith in
    c.in_ok-push.ensures.items
    ∙ hulls_grow rs ss c.places.all.items c.places.i c.hull.result c.range_in.result c.range_in-in-places.result
    c.places.invariant lt c.hull.ensures c.range_in.ensures c.range_in-in-places.ensures

pub returns : goal.returns
returns c =
    let rs = c.args.first.now in
    let ss = c.args.second.now in
    let le : max (length rs) (length ss) ≤ c.places.i = omega arith in
    hulls_all rs ss c.places.all.items c.places.i c.places.invariant le
