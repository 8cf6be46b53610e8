use Rattle.std.proofs.Common.{◌∙◌, Ok, ap, sym, subst}
use Rattle.std.proofs.lemmas.Result.{err_from_is_err_and}
use Rattle.camac_lang.specs.Headings.{unannotated}
use Rattle.camac_lang.specs.Tree.{Script}
use Rattle.camac_names.specs.Link.{link_fault}
use Rattle.camac_names.specs.Linked.{LinkedScript}
use Rattle.camac_rules.specs.declared.checked.Checked.{Checked}
use Rattle.camac_check.specs.Least.{AreHeadings, least}
use Rattle.camac_check.proofs.LeastFound.{is_headed, never_refused, never_unlinked, not_headed, same_bounds, unlinked}
use Rattle.camac_check.proofs.headings.least.Goals as goal

pub returns-in_err-link-clause-least : goal.returns-in_err-link-clause-least
returns-in_err-link-clause-least c =
    let p = err_from_is_err_and c.from_residual.result c.from_residual.ensures.1 in
    rw (p.1, p.2) (unlinked {X = Checked} (λ c'. c'.script) c.args.plan.now c.args.script c.unannotate.new.self c.in_err-link.field-0.0 c.unannotate.ensures c.in_err-link.ensures)

pub returns-in_err-least_from-clause-least : goal.returns-in_err-least_from-clause-least
returns-in_err-least_from-clause-least c =
    let p = err_from_is_err_and c.from_residual-in_err-least_from.result c.from_residual-in_err-least_from.ensures.1 in
    rw (p.1, p.2) (not_headed {X = Checked} (λ c'. c'.script) c.args.plan.now c.args.script c.unannotate.new.self c.least_from.new.script c.in_ok-link.field-0 c.in_err-least_from.field-0.0 c.unannotate.ensures c.in_ok-link.ensures c.in_err-least_from.ensures)

pub returns-in_err-linked-clause-least : goal.returns-in_err-linked-clause-least
returns-in_err-linked-clause-least c =
    let headed = is_headed c.args.plan.now c.args.script c.unannotate.new.self c.least_from.new.script c.in_ok-link.field-0 c.in_ok-least_from.field-0 c.unannotate.ensures c.in_ok-link.ensures c.in_ok-least_from.ensures in
    let p = err_from_is_err_and c.from_residual-in_err-linked.result c.from_residual-in_err-linked.ensures.1 in
    rw (p.1, p.2) (never_unlinked {X = Checked} (λ c'. c'.script) (least c.args.plan.now c.args.script) (link_fault c.args.plan.now c.least_from.new.script) c.in_err-linked.field-0.0 headed.again c.in_err-linked.ensures.refused)

pub returns-in_err-check-clause-least : goal.returns-in_err-check-clause-least
returns-in_err-check-clause-least c =
    let headed = is_headed c.args.plan.now c.args.script c.unannotate.new.self c.least_from.new.script c.in_ok-link.field-0 c.in_ok-least_from.field-0 c.unannotate.ensures c.in_ok-link.ensures c.in_ok-least_from.ensures in
    let p = err_from_is_err_and c.from_residual-in_err-check.result c.from_residual-in_err-check.ensures.1 in
    rw (p.1, p.2) (never_refused {X = Checked} (λ c'. c'.script) (least c.args.plan.now c.args.script) c.args.plan.now c.least_from.new.script c.in_ok-linked.linked c.in_err-check.field-0.0 headed.bounds c.in_ok-linked.ensures.ok.1 headed.accepted c.in_err-check.ensures.exact)

pub returns-clause-least : goal.returns-clause-least
returns-clause-least c =
    let headed = is_headed c.args.plan.now c.args.script c.unannotate.new.self c.least_from.new.script c.in_ok-link.field-0 c.in_ok-least_from.field-0 c.unannotate.ensures c.in_ok-link.ensures c.in_ok-least_from.ensures in
    let there = ap (λ (l : LinkedScript). l.script) c.in_ok-linked.ensures.ok.1 in
    headed.found ∙ ap (λ x. Ok x) (sym (c.in_ok-check.ensures.exact.1 ∙ there))

pub returns-clause-same : goal.returns-clause-same
returns-clause-same c =
    let headed = is_headed c.args.plan.now c.args.script c.unannotate.new.self c.least_from.new.script c.in_ok-link.field-0 c.in_ok-least_from.field-0 c.unannotate.ensures c.in_ok-link.ensures c.in_ok-least_from.ensures in
    let there = ap (λ (l : LinkedScript). l.script) c.in_ok-linked.ensures.ok.1 in
    ap unannotated (c.in_ok-check.ensures.exact.1 ∙ there) ∙ headed.same

pub returns-clause-exact : goal.returns-clause-exact
returns-clause-exact c =
    let headed = is_headed c.args.plan.now c.args.script c.unannotate.new.self c.least_from.new.script c.in_ok-link.field-0 c.in_ok-least_from.field-0 c.unannotate.ensures c.in_ok-link.ensures c.in_ok-least_from.ensures in
    let there = ap (λ (l : LinkedScript). l.script) c.in_ok-linked.ensures.ok.1 in
    let bounds = same_bounds c.args.plan.now c.least_from.new.script c.in_ok-linked.linked headed.bounds c.in_ok-check.field-0.bounds c.in_ok-linked.ensures.ok.1 headed.accepted c.in_ok-check.ensures.exact.2 in
    subst (λ (s : Script). AreHeadings c.in_ok-check.field-0.bounds s.services) (sym (c.in_ok-check.ensures.exact.1 ∙ there))
    (subst (λ ks. AreHeadings ks c.least_from.new.script.services) bounds headed.headings)
