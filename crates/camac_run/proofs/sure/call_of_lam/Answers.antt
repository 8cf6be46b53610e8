use Rattle.std.proofs.Common.{◌≡◌, ◌<◌, Some, length, map, sym, ap, ◌∙◌, arith}
use Rattle.std.proofs.lemmas.List.{length-map}
use Rattle.std.proofs.lemmas.Option.{slice_get_past}
use Rattle.std.specs.Prelude.{option_and_then, slice_get}
use Rattle.camac_branch.specs.Address.{address}
use Rattle.camac_esone.specs.Calls.{lam_function}
use Rattle.camac_func.specs.declared.data.DataMove.TheVariants as moved
use Rattle.camac_lang.specs.View.{lam_action_of, lam_of}
use Rattle.camac_machine.proofs.Lams.{lam_at}
use Rattle.camac_model.specs.Meaning.{lam_address}
use Rattle.camac_run.specs.Foreseen.{known_command, known_cycle}
use Rattle.camac_run.specs.Sure.{MakesCycle, context_before}
use Rattle.camac_run.proofs.Foreseen.{cycle_is_so, so_of, some_is}
use Rattle.camac_run.proofs.sure.call_of_lam.Goals as goal

pub returns-then-action-lams-clause-exact : goal.returns-then-action-lams-clause-exact
returns-then-action-lams-clause-exact c known registers i =
    let script = c.args.checked.now.script in
    let l = c.index-lams-action.result in
    let call = c.args.action.now.call in
    let e : map lam_of c.lams-lams.result.now ≡ script.lams = c.lams-lams.ensures ∙ ap (λ s. s.lams) c.script.ensures in
    let n : length script.lams ≡ length c.lams-lams.result.now = sym (ap length e) ∙ length-map c.lams-lams.result.now lam_of in
    let less : c.args.action.now.lam < length script.lams = omega (arith, n, c.if-action-lams.true) in
    let there : slice_get (map lam_address script.lams) c.args.action.now.lam ≡ Some (lam_address (lam_of l)) = lam_at c.lams-lams.result.now script.lams c.args.action.now.lam l e less c.index-lams-action.is in
    c.command_at.ensures.exact
    ∙ ap (λ a. known_command c.lam_function.result moved.None (address l.crate_no l.station a)) c.get.ensures.value
    ∙ ap (λ f. known_command f moved.None (lam_address (lam_of l))) c.lam_function.ensures
    ∙ ap (option_and_then (known_command (lam_function call) moved.None)) (sym there)

pub returns-then-action-lams-clause-sure : goal.returns-then-action-lams-clause-sure
returns-then-action-lams-clause-sure c =
    let st = lam_action_of c.args.action.now in
    some_is c.command_at.result _
    (λ k is known registers i.
    let x = context_before c.args.checked.now i in
    so_of c.command_at.result (known_cycle x.lams known registers st) (λ k. MakesCycle x known registers st k known) (cycle_is_so x known registers st) (returns-then-action-lams-clause-exact c known registers i) k is)

pub returns-else-action-lams-clause-exact : goal.returns-else-action-lams-clause-exact
returns-else-action-lams-clause-exact c known registers i =
    let script = c.args.checked.now.script in
    let lams = map lam_address script.lams in
    let e : map lam_of c.lams-lams.result.now ≡ script.lams = c.lams-lams.ensures ∙ ap (λ s. s.lams) c.script.ensures in
    let n : length lams ≡ length c.lams-lams.result.now = length-map script.lams lam_address ∙ sym (ap length e) ∙ length-map c.lams-lams.result.now lam_of in
    ap (option_and_then (known_command (lam_function c.args.action.now.call) moved.None)) (sym (slice_get_past lams c.args.action.now.lam (omega (arith, n, c.if-action-lams.false))))
