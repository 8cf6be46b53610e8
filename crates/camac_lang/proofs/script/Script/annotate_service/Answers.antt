use Rattle.std.proofs.Common.{◌<◌, ◌∙◌, List, ap, sym, subst, refl, map, length, arith}
use Rattle.std.proofs.lemmas.List.{length-map}
use Rattle.std.proofs.lemmas.Bool.{le-leb}
use Rattle.camac_lang.specs.Headings.{annotate_service, changed_at}
use Rattle.camac_lang.specs.Scope.{is_well_formed}
use Rattle.camac_lang.specs.Tree.{Service, Script}
use Rattle.camac_lang.specs.View.{service_of, tree_of}
use Rattle.camac_lang.proofs.Annotated.{changed_map, service_formed}
use Rattle.camac_lang.proofs.script.Script.annotate_service.Goals as goal

pub invariant_of-self : goal.invariant_of-self
invariant_of-self c =
    let k = c.self.inside in
    let s : Script = tree_of k.order.items k.tables.items k.lams.items k.variables.items k.procedures.items k.services.items in
    let here : c.args.i < length (map service_of k.services.items) = subst (λ (t : Script). c.args.i < length t.services) (sym c.self.view_is) c.requires in
    let count = length-map k.services.items service_of in
    let lt : c.args.i < length k.services.items = omega (arith, here, count) in
    let same = changed_map service_of (annotate_service c.args.cycles c.args.words) k.services.items c.args.i _ c.index_mut-service.result.now lt c.index_mut-service.ensures.value refl in
    ap (λ (vs : List Service). is_well_formed (record s { services = vs })) same
    ∙ service_formed s c.args.i c.args.cycles c.args.words (le-leb c.args.cycles 4294967295 (omega arith)) (le-leb c.args.words 4294967295 (omega arith)) c.self.invariant

pub returns : goal.returns
returns c =
    let k = c.self.inside in
    let s : Script = tree_of k.order.items k.tables.items k.lams.items k.variables.items k.procedures.items k.services.items in
    let here : c.args.i < length (map service_of k.services.items) = subst (λ (t : Script). c.args.i < length t.services) (sym c.self.view_is) c.requires in
    let count = length-map k.services.items service_of in
    let lt : c.args.i < length k.services.items = omega (arith, here, count) in
    let same = changed_map service_of (annotate_service c.args.cycles c.args.words) k.services.items c.args.i _ c.index_mut-service.result.now lt c.index_mut-service.ensures.value refl in
    ap (λ (vs : List Service). record s { services = vs }) same
    ∙ ap (λ (t : Script). record t { services = changed_at c.args.i (annotate_service c.args.cycles c.args.words) t.services }) c.self.view_is
