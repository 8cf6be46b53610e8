use Rattle.std.proofs.Common.{Some, ap, sym, ◌∙◌}
use Rattle.std.specs.Prelude.{option_map}
use Rattle.camac_model.specs.Fine.{Bounds}
use Rattle.camac_response.proofs.Told.{one_more_told}
use Rattle.camac_response.proofs.of_checked.sources_of.Goals as goal

pub services-preserved : goal.services-preserved
services-preserved c =
    one_more_told c.args.checked.now c.args.every.now c.services.i c.services.sources.items c.push-in-services.new.self.items
    (record { bit = c.gl.result; cycles = c.push.inside.cycles; every = c.rate_of.result }) c.services.invariant c.in_ok-push.ensures.items
    (record {
      bit = c.gl.ensures;
      cycles = ap (option_map (λ (k : Bounds). k.cycles)) c.bounds.ensures ∙ ap (λ (k : Bounds). Some k.cycles) (sym c.push.view_is);
      rate = c.rate_of.ensures;
    })
