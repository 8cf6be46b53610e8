use Rattle.std.proofs.Common.{ap, sym, subst, ◌∙◌}
use Rattle.std.specs.Prelude.{IsTrue}
use Rattle.camac_lang.specs.Scope.{is_well_formed}
use Rattle.camac_lang.specs.Tree.{Script}
use Rattle.camac_branch.specs.Plan.{Layout, IsPlan}
use Rattle.camac_rules.specs.Accept.{accept}
use Rattle.camac_rules.specs.Checked.{IsChecked}
use Rattle.camac_check.proofs.Judged.{is_checked}
use Rattle.camac_check.proofs.judge.check.Goals as goal

pub new-requires : goal.new-requires
new-requires c =
    let plan = c.args.linked.plan in
    let script = c.args.linked.script in
    let P : Layout → Type 0 = λ p. IsPlan p in
    let F : Script → Type 0 = λ s. IsTrue (is_well_formed s) in
    is_checked (record { plan = plan; script = script; bounds = c.in_ok-bounds.bounds.items })
    (subst P c.plan.ensures c.is_plan.ensures)
    (subst F c.script.ensures.value c.order-order.ensures.well_formed)
    c.script.ensures.linked
    (ap (λ p. accept p script) (sym c.plan-2.ensures) ∙ ap (λ s. accept c.plan-2.result.now s) (sym c.script-2.ensures.value) ∙ c.in_ok-bounds.ensures)

pub returns-clause-safe : goal.returns-clause-safe
returns-clause-safe c =
    let plan = c.args.linked.plan in
    let script = c.args.linked.script in
    let P : Layout → Type 0 = λ p. IsPlan p in
    let F : Script → Type 0 = λ s. IsTrue (is_well_formed s) in
    subst IsChecked (sym c.new.ensures)
    (is_checked (record { plan = plan; script = script; bounds = c.in_ok-bounds.bounds.items })
    (subst P c.plan.ensures c.is_plan.ensures)
    (subst F c.script.ensures.value c.order-order.ensures.well_formed)
    c.script.ensures.linked
    (ap (λ p. accept p script) (sym c.plan-2.ensures) ∙ ap (λ s. accept c.plan-2.result.now s) (sym c.script-2.ensures.value) ∙ c.in_ok-bounds.ensures))
