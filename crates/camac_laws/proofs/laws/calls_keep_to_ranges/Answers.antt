use Rattle.std.proofs.Common.{subst}
use Rattle.std.specs.Prelude.{IsTrue}
use Rattle.camac_lang.specs.Scope.{is_well_formed}
use Rattle.camac_lang.specs.Tree.{Script}
use Rattle.camac_branch.specs.Plan.{Layout, IsPlan}
use Rattle.camac_laws.specs.Calls.{AcceptedCallsKeep}
use Rattle.camac_laws.proofs.Guarded.{accepted_calls_keep}
use Rattle.camac_laws.proofs.laws.calls_keep_to_ranges.Goals as goal

pub returns : goal.returns
unfolding AcceptedCallsKeep
returns c =
    let P : Layout → Type 0 = λ p. IsPlan p in
    let F : Script → Type 0 = λ s. IsTrue (is_well_formed s) in
    let k = c.args.checked.now in
    accepted_calls_keep k.plan k.script k.bounds (subst P c.plan.ensures c.is_plan.ensures) (subst F c.script.ensures c.well_formed-2.ensures) c.is_checked.ensures.accepted
