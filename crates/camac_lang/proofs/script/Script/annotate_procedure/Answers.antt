use Rattle.std.proofs.Common.{◌<◌, ◌∙◌, List, ap, sym, subst, refl, map, length, arith}
use Rattle.std.proofs.lemmas.List.{length-map}
use Rattle.std.proofs.lemmas.Bool.{le-leb}
use Rattle.camac_lang.specs.Headings.{annotate, changed_at}
use Rattle.camac_lang.specs.Scope.{is_well_formed}
use Rattle.camac_lang.specs.Tree.{Procedure, Script}
use Rattle.camac_lang.specs.View.{procedure_of, tree_of}
use Rattle.camac_lang.proofs.Annotated.{changed_map, procedure_formed}
use Rattle.camac_lang.proofs.script.Script.annotate_procedure.Goals as goal

pub invariant_of-self : goal.invariant_of-self
invariant_of-self c =
    let k = c.self.inside in
    let s : Script = tree_of k.order.items k.tables.items k.lams.items k.variables.items k.procedures.items k.services.items in
    let here : c.args.i < length (map procedure_of k.procedures.items) = subst (λ (t : Script). c.args.i < length t.procedures) (sym c.self.view_is) c.requires in
    let count = length-map k.procedures.items procedure_of in
    let lt : c.args.i < length k.procedures.items = omega (arith, here, count) in
    let same = changed_map procedure_of (annotate c.args.cycles c.args.words c.args.steps) k.procedures.items c.args.i _ c.index_mut-procedure.result.now lt c.index_mut-procedure.ensures.value refl in
    ap (λ (ps : List Procedure). is_well_formed (record s { procedures = ps })) same
    ∙ procedure_formed s c.args.i c.args.cycles c.args.words c.args.steps (le-leb c.args.cycles 4294967295 (omega arith)) (le-leb c.args.words 4294967295 (omega arith)) (le-leb c.args.steps 4294967295 (omega arith)) c.self.invariant

pub returns : goal.returns
returns c =
    let k = c.self.inside in
    let s : Script = tree_of k.order.items k.tables.items k.lams.items k.variables.items k.procedures.items k.services.items in
    let here : c.args.i < length (map procedure_of k.procedures.items) = subst (λ (t : Script). c.args.i < length t.procedures) (sym c.self.view_is) c.requires in
    let count = length-map k.procedures.items procedure_of in
    let lt : c.args.i < length k.procedures.items = omega (arith, here, count) in
    let same = changed_map procedure_of (annotate c.args.cycles c.args.words c.args.steps) k.procedures.items c.args.i _ c.index_mut-procedure.result.now lt c.index_mut-procedure.ensures.value refl in
    ap (λ (ps : List Procedure). record s { procedures = ps }) same
    ∙ ap (λ (t : Script). record t { procedures = changed_at c.args.i (annotate c.args.cycles c.args.words c.args.steps) t.procedures }) c.self.view_is
