use Rattle.std.proofs.Common.{◌≡◌, Some, length, map, sym, ap, subst, ◌∙◌, arith}
use Rattle.std.proofs.lemmas.List.{length-map}
use Rattle.std.specs.Prelude.{slice_get}
use Rattle.camac_branch.specs.Address.{address}
use Rattle.camac_branch.specs.Allowed.{AllowsCommands}
use Rattle.camac_branch.specs.Plan.{Layout}
use Rattle.camac_esone.specs.Calls.{IsOnBranch, command_at, lam_function}
use Rattle.camac_func.specs.declared.data.DataMove.TheVariants as moved
use Rattle.camac_lang.specs.View.{lam_of}
use Rattle.camac_model.specs.Meaning.{lam_address}
use Rattle.camac_machine.specs.MachineState.{context_in}
use Rattle.camac_machine.proofs.Actions.{lam_can, lam_wants}
use Rattle.camac_machine.proofs.Commands.{on_branch}
use Rattle.camac_machine.proofs.Lams.{lam_at}
use Rattle.camac_machine.proofs.machine.Machine.call_lam.Goals as goal

pub bounds-lams-action : goal.bounds-lams-action
bounds-lams-action g c =
    let ls = c.args.self.now.checked.now.script.lams in
    let e : map lam_of c.lams.result.now ≡ ls = c.lams.ensures ∙ ap (λ s. s.lams) c.script.ensures in
    let n : length ls ≡ length c.lams.result.now = sym (ap length e) ∙ length-map c.lams.result.now lam_of in
    omega (arith, c.requires.fits, n)

pub offset_bounds-lams-action : goal.offset_bounds-lams-action
offset_bounds-lams-action g c =
    let ls = c.args.self.now.checked.now.script.lams in
    let e : map lam_of c.lams.result.now ≡ ls = c.lams.ensures ∙ ap (λ s. s.lams) c.script.ensures in
    let n : length ls ≡ length c.lams.result.now = sym (ap length e) ∙ length-map c.lams.result.now lam_of in
    omega (arith, c.requires.fits, n, c.lams.type_inv)

pub script-requires : goal.script-requires
script-requires g c = tt

pub lams-requires : goal.lams-requires
lams-requires g c = tt

pub get-requires : goal.get-requires
get-requires g c = tt

pub lam_call-requires : goal.lam_call-requires
lam_call-requires g c =
    let P : Layout → Type 0 = λ p. AllowsCommands p in
    let h = c.args.self.now in
    let l = c.index-lams-action.result in
    let e : map lam_of c.lams.result.now ≡ h.checked.now.script.lams = c.lams.ensures ∙ ap (λ s. s.lams) c.script.ensures in
    let there : slice_get (context_in h.checked.now).lams c.args.action.now.lam ≡ Some (lam_address (lam_of l)) = lam_at c.lams.result.now h.checked.now.script.lams c.args.action.now.lam l e c.requires.fits c.index-lams-action.is in
    subst (λ a. IsOnBranch (address l.crate_no l.station a)) (sym c.get.ensures.value)
    (on_branch h.checked.now.plan (subst P c.plan-plan.ensures c.allows_commands.ensures) (lam_address (lam_of l)) (lam_function c.args.action.now.call) moved.None
    (lam_can h c.args.action.now.call c.args.action.now.lam (lam_address (lam_of l)) there c.requires.fine).1)

pub returns : goal.returns
returns g c =
    let h = c.args.self.now in
    let l = c.index-lams-action.result in
    let e : map lam_of c.lams.result.now ≡ h.checked.now.script.lams = c.lams.ensures ∙ ap (λ s. s.lams) c.script.ensures in
    let there : slice_get (context_in h.checked.now).lams c.args.action.now.lam ≡ Some (lam_address (lam_of l)) = lam_at c.lams.result.now h.checked.now.script.lams c.args.action.now.lam l e c.requires.fits c.index-lams-action.is in
    lam_wants h c.args.action.now.call c.args.action.now.lam (lam_address (lam_of l)) c.lam_call.result there
    (c.lam_call.ensures ∙ ap (λ a. command_at (address l.crate_no l.station a) (lam_function c.args.action.now.call) moved.None) c.get.ensures.value)
    (lam_can h c.args.action.now.call c.args.action.now.lam (lam_address (lam_of l)) there c.requires.fine)
