use Rattle.std.proofs.Common.{◌∙◌, ◌<◌, length, map, sym, ap, refl, arith}
use Rattle.std.proofs.Math.Bool.{or-false}
use Rattle.camac_lines.proofs.Lines.{headings_none, lam_has_none, next_is_procedure, next_is_service, procedure_lacks, service_lacks, table_has_none, under_way_begins, under_way_same, variables_have_none, under_way_next, under_way_stops, Writes-at_err}
use Rattle.camac_lines.proofs.Texts.{under_way_ends}
use Rattle.camac_lines.specs.Headings.{headings_of, service_heading}
use Rattle.camac_lines.specs.Verdict.{lam_name}
use Rattle.camac_lang.specs.View.{item_of, procedure_of, service_of}
use Rattle.camac_lines.proofs.headings.write_headings.Goals.{in-Procedure+in_default, in-Procedure+in-len1-up+in_ok-write_procedure-in-Procedure, in-Service+in_default-services, in-Service+in-len1-up-services+in_ok-write_text-in-Service, in-Table, in-Lam, in-Variables}
use Rattle.camac_lines.proofs.headings.write_headings.Goals as goal

pub items-init : goal.items-init
items-init g c =
    let s = c.args.script.now in
    let rest = ap (λ items. headings_of s.lams items s.procedures s.services) (sym c.order-item-items.ensures.value)
    ∙ ap (λ ps. headings_of s.lams (map item_of c.order-item-items.result.now) ps s.services) (sym c.procedures-procedures.ensures)
    ∙ ap (λ vs. headings_of s.lams (map item_of c.order-item-items.result.now) (map procedure_of c.procedures-procedures.result.now) vs) (sym c.services-services.ensures) in
    (under_way_begins _ _ _ rest, refl)

pub returns-in_err-write_procedure-in-Procedure-clause-text : goal.returns-in_err-write_procedure-in-Procedure-clause-text
returns-in_err-write_procedure-in-Procedure-clause-text g c =
    let some : 0 < length c.items.procedures.now = omega (arith, c.in-len1-up.len_at_least) in
    let parts = next_is_procedure c.args.script.now.lams c.order-item-items.result.now c.items.item-index c.items.procedures.now _ c.procedure-item.result c.items.services.now
    c.items-test.true c.in-Procedure.is some (sym c.procedure-item.is) in
    Writes-at_err c.from_residual.result _ _ _ c.from_residual.ensures.0
    (under_way_stops _ _ _ _ _ _ _ c.items.invariant.0 parts c.in_err-write_procedure-in-Procedure.ensures.text)

pub returns-in_err-write_text-in-Service-clause-text : goal.returns-in_err-write_text-in-Service-clause-text
returns-in_err-write_text-in-Service-clause-text g c =
    let lams = c.args.script.now.lams in
    let v = c.service-item.result in
    let line = c.line_of_service.ensures ∙ ap (λ ls. service_heading (lam_name ls v.lam) (service_of v)) c.lams.ensures in
    let some : 0 < length c.items.services.now = omega (arith, c.in-len1-up-services.len_at_least) in
    let parts = next_is_service lams c.order-item-items.result.now c.items.item-index c.items.procedures.now c.items.services.now _ v c.line_of_service.result
    c.items-test.true c.in-Service.is some (sym c.service-item.is) line in
    Writes-at_err c.from_residual-in_err-write_text-in-Service.result _ _ _ c.from_residual-in_err-write_text-in-Service.ensures.0
    (under_way_stops _ _ _ _ _ _ _ c.items.invariant.0 parts (rw c.as_bytes.ensures at c.in_err-write_text-in-Service.ensures.text))

pub items-preserved : goal.items-preserved
items-preserved g c =
    let lams = c.args.script.now.lams in
    let items = c.order-item-items.result.now in
    let i = c.items.item-index in
    let ps = c.items.procedures.now in
    let vs = c.items.services.now in
    elim c.match-item.branch [
      | in-Procedure+in_default w ↦
          rw (w.out-is, w.procedures-is, w.services-is)
          (under_way_same _ _ _ _ _ c.items.invariant.0 (procedure_lacks lams items i ps vs c.items-test.true w.in-Procedure.is w.in_default.len_below), c.items.invariant.1)
      | in-Procedure+in-len1-up+in_ok-write_procedure-in-Procedure w ↦
          let some : 0 < length ps = omega (arith, w.in-len1-up.len_at_least) in
          let parts = next_is_procedure lams items i ps _ w.procedure-item.result vs c.items-test.true w.in-Procedure.is some (sym w.procedure-item.is) in
          rw (w.out-is, w.procedures-is, w.services-is) (
            under_way_next _ _ _ _ _ _ _ c.items.invariant.0 parts w.in_ok-write_procedure-in-Procedure.ensures.text,
            w.in_ok-write_procedure-in-Procedure.ensures.failed ∙ or-false _ ∙ c.items.invariant.1,
          )
      | in-Service+in_default-services w ↦
          rw (w.out-is, w.procedures-is, w.services-is)
          (under_way_same _ _ _ _ _ c.items.invariant.0 (service_lacks lams items i ps vs c.items-test.true w.in-Service.is w.in_default-services.len_below), c.items.invariant.1)
      | in-Service+in-len1-up-services+in_ok-write_text-in-Service w ↦
          let v = w.service-item.result in
          let line = w.line_of_service.ensures ∙ ap (λ ls. service_heading (lam_name ls v.lam) (service_of v)) w.lams.ensures in
          let some : 0 < length vs = omega (arith, w.in-len1-up-services.len_at_least) in
          let parts = next_is_service lams items i ps vs _ v w.line_of_service.result c.items-test.true w.in-Service.is some (sym w.service-item.is) line in
          rw (w.out-is, w.procedures-is, w.services-is) (
            under_way_next _ _ _ _ _ _ _ c.items.invariant.0 parts (rw w.as_bytes.ensures at w.in_ok-write_text-in-Service.ensures.text),
            w.in_ok-write_text-in-Service.ensures.failed ∙ or-false _ ∙ c.items.invariant.1,
          )
      | in-Table w ↦
          rw (w.out-is, w.procedures-is, w.services-is)
          (under_way_same _ _ _ _ _ c.items.invariant.0 (table_has_none lams items i ps vs c.items-test.true w.in-Table.is), c.items.invariant.1)
      | in-Lam w ↦
          rw (w.out-is, w.procedures-is, w.services-is)
          (under_way_same _ _ _ _ _ c.items.invariant.0 (lam_has_none lams items i ps vs c.items-test.true w.in-Lam.is), c.items.invariant.1)
      | in-Variables w ↦
          rw (w.out-is, w.procedures-is, w.services-is)
          (under_way_same _ _ _ _ _ c.items.invariant.0 (variables_have_none _ _ lams items i ps vs c.items-test.true w.in-Variables.is), c.items.invariant.1)
    ]

pub returns-clause-text : goal.returns-clause-text
returns-clause-text g c = under_way_ends _ _ _ _ c.items.invariant.0 (headings_none c.args.script.now.lams c.order-item-items.result.now c.items.item-index c.items.procedures.now c.items.services.now c.items-test.false)
