use Rattle.std.proofs.Common.{◌∙◌, List, ap, sym, map, add-one}
use Rattle.camac_lang.specs.Headings.{annotate, annotate_service, changed_at}
use Rattle.camac_lang.specs.Tree.{Procedure, Service, Script}
use Rattle.camac_lang.proofs.Annotated.{changed_to, changed_to_next}
use Rattle.camac_lang.proofs.script.Script.unannotate.Goals as goal

pub procedures-preserved : goal.procedures-preserved
procedures-preserved c =
    let s : Script = c.args.self.now in
    let i = c.procedures.i in
    record {
      same =
          c.annotate_procedure.ensures
          ∙ ap (λ (t : Script). record t { procedures = changed_at i (annotate 0 0 0) t.procedures }) c.procedures.invariant.same
          ∙ ap (λ (ps : List Procedure). record s { procedures = ps }) (changed_to_next i (annotate 0 0 0) s.procedures)
          ∙ ap (λ j. record s { procedures = changed_to j (annotate 0 0 0) s.procedures }) (sym (add-one i));
      end = c.procedures.invariant.end;
    }

pub services-preserved : goal.services-preserved
services-preserved c =
    let s : Script = record c.args.self.now { procedures = map (annotate 0 0 0) c.args.self.now.procedures } in
    let i = c.services.i in
    record {
      same =
          c.annotate_service.ensures
          ∙ ap (λ (t : Script). record t { services = changed_at i (annotate_service 0 0) t.services }) c.services.invariant.same
          ∙ ap (λ (vs : List Service). record s { services = vs }) (changed_to_next i (annotate_service 0 0) s.services)
          ∙ ap (λ j. record s { services = changed_to j (annotate_service 0 0) s.services }) (sym (add-one i));
      end = c.services.invariant.end;
    }
