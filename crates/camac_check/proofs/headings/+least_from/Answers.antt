use Rattle.std.proofs.Common.{rules, ◌≡◌, ◌∙◌, length, Some, Ok, ap, sym, subst, arith}
use Rattle.std.specs.Prelude.{slice_get}
use Rattle.std.proofs.lemmas.List.{length-map}
use Rattle.std.proofs.lemmas.Option.{slice_get_past}
use Rattle.std.proofs.lemmas.Result.{err_from_is_err_and}
use Rattle.camac_lang.specs.Tree.{Script, next_table, next_lam, next_variables, next_procedure, next_service}
use Rattle.camac_lang.specs.View.{item_of, procedure_of, service_of}
use Rattle.camac_lang.proofs.Annotated.{changed_length}
use Rattle.camac_check.specs.Least.{Heads}
use Rattle.camac_check.proofs.Heading.{element, heads_none, heads_procedure, heads_procedure_fault, heads_service, heads_service_fault, lam_item, no_procedure, no_service, table_item, variables_item}
use Rattle.camac_check.proofs.headings.+least_from.Goals as goal

pub returns-then-k-order : goal.returns-then-k-order
returns-then-k-order t c =
    let s = c.args.script.now in
    let mapped = length-map c.order.result.now item_of in
    let same = ap length c.order.ensures.value in
    heads_none c.args.plan.now s c.args.k c.args.done c.args.served (slice_get_past s.order c.args.k (omega (arith, mapped, same)))

pub returns-in-None : goal.returns-in-None
returns-in-None t c = heads_none c.args.plan.now c.args.script.now c.args.k c.args.done c.args.served (search rules)

pub returns-then-done-procedures : goal.returns-then-done-procedures
returns-then-done-procedures t c =
    let s = c.args.script.now in
    let at : slice_get s.order c.args.k ≡ Some next_procedure = search rules in
    let mapped = length-map c.procedures.result.now procedure_of in
    let same = ap length c.procedures.ensures in
    subst (λ r. Heads r s c.least_from.new.script c.args.done c.args.served c.least_from.result)
    (sym (no_procedure c.args.plan.now s c.args.k c.args.done c.args.served at (omega (arith, mapped, same)))) c.least_from.ensures

pub returns-then-served-services : goal.returns-then-served-services
returns-then-served-services t c =
    let s = c.args.script.now in
    let at : slice_get s.order c.args.k ≡ Some next_service = search rules in
    let mapped = length-map c.services.result.now service_of in
    let same = ap length c.services.ensures in
    subst (λ r. Heads r s c.least_from-then-served-services.new.script c.args.done c.args.served c.least_from-then-served-services.result)
    (sym (no_service c.args.plan.now s c.args.k c.args.done c.args.served at (omega (arith, mapped, same)))) c.least_from-then-served-services.ensures

pub returns-in_err-needs-in-Some-Procedure : goal.returns-in_err-needs-in-Some-Procedure
returns-in_err-needs-in-Some-Procedure t c =
    let s = c.args.script.now in
    let at : slice_get s.order c.args.k ≡ Some next_procedure = search rules in
    let mapped = length-map c.procedures.result.now procedure_of in
    let same = ap length c.procedures.ensures in
    let there = element s.procedures c.args.done (omega (arith, mapped, same)) in
    let p = err_from_is_err_and c.from_residual.result c.from_residual.ensures.1 in
    rw (p.1, p.2) (heads_procedure_fault c.args.plan.now s s c.args.k c.args.done c.args.served there.0 c.in_err-needs-in-Some-Procedure.field-0.0 at there.1 (c.in_err-needs-in-Some-Procedure.ensures there.0 there.1))

pub returns-in_err-needs-in-Some-Service : goal.returns-in_err-needs-in-Some-Service
returns-in_err-needs-in-Some-Service t c =
    let s = c.args.script.now in
    let at : slice_get s.order c.args.k ≡ Some next_service = search rules in
    let mapped = length-map c.services.result.now service_of in
    let same = ap length c.services.ensures in
    let there = element s.services c.args.served (omega (arith, mapped, same)) in
    let p = err_from_is_err_and c.from_residual-in_err-needs-in-Some-Service.result c.from_residual-in_err-needs-in-Some-Service.ensures.1 in
    rw (p.1, p.2) (heads_service_fault c.args.plan.now s s c.args.k c.args.done c.args.served there.0 c.in_err-needs-in-Some-Service.field-0.0 at there.1 (c.in_err-needs-in-Some-Service.ensures there.0 there.1))

pub returns-in_ok-needs-in-Some-Procedure : goal.returns-in_ok-needs-in-Some-Procedure
returns-in_ok-needs-in-Some-Procedure t c =
    let s = c.args.script.now in
    let at : slice_get s.order c.args.k ≡ Some next_procedure = search rules in
    let mapped = length-map c.procedures.result.now procedure_of in
    let same = ap length c.procedures.ensures in
    let there = element s.procedures c.args.done (omega (arith, mapped, same)) in
    heads_procedure c.args.plan.now s c.annotate_procedure.new.self c.least_from-in-Some-Procedure.new.script c.args.k c.args.done c.args.served there.0
    (record { cycles = c.needs.inside.cycles; words = c.needs.inside.words; steps = c.needs.inside.steps }) c.least_from-in-Some-Procedure.result at there.1
    (c.in_ok-needs-in-Some-Procedure.ensures there.0 there.1 ∙ ap (λ x. Ok x) (sym c.needs.view_is)) c.annotate_procedure.ensures c.least_from-in-Some-Procedure.ensures

pub returns-in_ok-needs-in-Some-Service : goal.returns-in_ok-needs-in-Some-Service
returns-in_ok-needs-in-Some-Service t c =
    let s = c.args.script.now in
    let at : slice_get s.order c.args.k ≡ Some next_service = search rules in
    let mapped = length-map c.services.result.now service_of in
    let same = ap length c.services.ensures in
    let there = element s.services c.args.served (omega (arith, mapped, same)) in
    heads_service c.args.plan.now s c.annotate_service.new.self c.least_from-in-Some-Service.new.script c.args.k c.args.done c.args.served there.0
    (record { cycles = c.needs-in-Some-Service.inside.cycles; words = c.needs-in-Some-Service.inside.words; steps = c.needs-in-Some-Service.inside.steps }) c.least_from-in-Some-Service.result at there.1
    (c.in_ok-needs-in-Some-Service.ensures there.0 there.1 ∙ ap (λ x. Ok x) (sym c.needs-in-Some-Service.view_is)) c.annotate_service.ensures c.least_from-in-Some-Service.ensures

pub least_from-requires-in-Some-Procedure : goal.least_from-requires-in-Some-Procedure
least_from-requires-in-Some-Procedure t c =
    let s = c.args.script.now in
    let is = c.annotate_procedure.ensures in
    let order = ap (λ (x : Script). length x.order) is in
    let services = ap (λ (x : Script). length x.services) is in
    let procedures = ap (λ (x : Script). length x.procedures) is ∙ changed_length c.args.done _ s.procedures in
    let mapped = length-map c.procedures.result.now procedure_of in
    let same = ap length c.procedures.ensures in
    let items = length-map c.order.result.now item_of in
    let items_same = ap length c.order.ensures.value in
    (omega (arith, order, items, items_same), (omega (arith, order, items, items_same), (omega (arith, procedures, mapped, same), omega (arith, services))))

pub least_from-requires-in-Some-Service : goal.least_from-requires-in-Some-Service
least_from-requires-in-Some-Service t c =
    let s = c.args.script.now in
    let is = c.annotate_service.ensures in
    let order = ap (λ (x : Script). length x.order) is in
    let procedures = ap (λ (x : Script). length x.procedures) is in
    let services = ap (λ (x : Script). length x.services) is ∙ changed_length c.args.served _ s.services in
    let mapped = length-map c.services.result.now service_of in
    let same = ap length c.services.ensures in
    let items = length-map c.order.result.now item_of in
    let items_same = ap length c.order.ensures.value in
    (omega (arith, order, items, items_same), (omega (arith, order, items, items_same), (omega (arith, procedures), omega (arith, services, mapped, same))))

pub returns-in-Some-Table : goal.returns-in-Some-Table
returns-in-Some-Table t c =
    let s = c.args.script.now in
    let at : slice_get s.order c.args.k ≡ Some next_table = search rules in
    subst (λ r. Heads r s c.least_from-in-Some-Table.new.script c.args.done c.args.served c.least_from-in-Some-Table.result)
    (sym (table_item c.args.plan.now s c.args.k c.args.done c.args.served at)) c.least_from-in-Some-Table.ensures

pub returns-in-Some-Lam : goal.returns-in-Some-Lam
returns-in-Some-Lam t c =
    let s = c.args.script.now in
    let at : slice_get s.order c.args.k ≡ Some next_lam = search rules in
    subst (λ r. Heads r s c.least_from-in-Some-Lam.new.script c.args.done c.args.served c.least_from-in-Some-Lam.result)
    (sym (lam_item c.args.plan.now s c.args.k c.args.done c.args.served at)) c.least_from-in-Some-Lam.ensures

pub returns-in-Some-Variables : goal.returns-in-Some-Variables
returns-in-Some-Variables t c =
    let s = c.args.script.now in
    let at : slice_get s.order c.args.k ≡ Some (next_variables c.in-Some-Variables.field-0-0 c.in-Some-Variables.field-0-1) = search rules in
    subst (λ r. Heads r s c.least_from-in-Some-Variables.new.script c.args.done c.args.served c.least_from-in-Some-Variables.result)
    (sym (variables_item c.args.plan.now s c.args.k c.args.done c.args.served c.in-Some-Variables.field-0-0 c.in-Some-Variables.field-0-1 at)) c.least_from-in-Some-Variables.ensures
