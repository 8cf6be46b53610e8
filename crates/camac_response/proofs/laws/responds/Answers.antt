use Rattle.std.proofs.Common.{subst}
use Rattle.std.specs.Prelude.{IsTrue}
use Rattle.camac_lang.specs.Scope.{is_well_formed}
use Rattle.camac_branch.specs.Plan.{IsPlan}
use Rattle.camac_response.specs.Checked.{CheckedRespond}
use Rattle.camac_response.proofs.Told.{checked_respond}
use Rattle.camac_response.proofs.laws.responds.Goals as goal

pub returns : goal.returns
unfolding CheckedRespond
returns c =
    checked_respond c.args.checked.now (subst IsPlan c.plan.ensures c.is_plan.ensures) c.is_linked.ensures (subst (λ s. IsTrue (is_well_formed s)) c.script.ensures c.well_formed-2.ensures) c.is_checked.ensures
