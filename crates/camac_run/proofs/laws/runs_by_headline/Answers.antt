use Rattle.std.proofs.Common.{subst}
use Rattle.std.specs.Prelude.{IsTrue}
use Rattle.camac_lang.specs.Scope.{is_well_formed}
use Rattle.camac_lang.specs.Tree.{Script}
use Rattle.camac_branch.specs.Plan.{Layout, IsPlan}
use Rattle.camac_run.proofs.Headline.{runs_always, runs_by_headline, leaves_few_events}
use Rattle.camac_run.proofs.laws.runs_by_headline.Goals as goal

pub returns-clause-headline : goal.returns-clause-headline
returns-clause-headline c =
    let P : Layout → Type 0 = λ p. IsPlan p in
    let F : Script → Type 0 = λ s. IsTrue (is_well_formed s) in
    let k = c.args.checked.now in
    runs_by_headline k.plan k.script k.bounds (subst P c.plan.ensures c.is_plan.ensures) (subst F c.script.ensures c.well_formed-2.ensures) c.is_checked.ensures.services c.is_checked.ensures.runs c.is_checked.ensures.headings

pub returns-clause-always : goal.returns-clause-always
returns-clause-always c =
    let k = c.args.checked.now in
    runs_always k.plan k.script k.bounds c.is_checked.ensures.services c.is_checked.ensures.runs c.is_checked.ensures.headings

pub returns-clause-few : goal.returns-clause-few
returns-clause-few c =
    let k = c.args.checked.now in
    leaves_few_events k.plan k.script k.bounds c.is_checked.ensures.runs
