use Rattle.std.proofs.Common.{subst}
use Rattle.std.specs.Prelude.{IsTrue}
use Rattle.camac_lang.specs.Scope.{is_well_formed}
use Rattle.camac_lang.specs.Tree.{Script}
use Rattle.camac_branch.specs.Plan.{Layout, IsPlan}
use Rattle.camac_rules.proofs.Fitting.{fits_greatest}
use Rattle.camac_rules.proofs.checked.Checked.fits_greatest.Goals as goal

pub returns : goal.returns
returns c =
    let P : Layout → Type 0 = λ p. IsPlan p in
    let F : Script → Type 0 = λ s. IsTrue (is_well_formed s) in
    let k = c.args.self.now in
    fits_greatest k.plan k.script k.bounds (subst P c.plan.ensures c.is_plan.ensures) (subst F c.script.ensures c.well_formed-2.ensures) c.is_checked.ensures.headings
