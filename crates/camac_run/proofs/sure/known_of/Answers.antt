use Rattle.std.proofs.Common.{◌≡◌, refl}
use Rattle.camac_lang.specs.View.{crate_action_of, expression_of, lam_action_of, q_repeat_of, q_stop_of, scan_of, single_of}
use Rattle.camac_run.specs.Foreseen.{known_after, known_cycle}
use Rattle.camac_run.specs.Sure.{context_before}
use Rattle.camac_run.proofs.Foreseen.{so_of, told}
use Rattle.camac_run.proofs.Steps.{assign_needs_none, map_some, put_needs_none, register_needs_none, sure_is}
use Rattle.camac_run.proofs.Begun.{transfers_are}
use Rattle.camac_run.proofs.sure.known_of.Goals as goal

pub returns-in-Put-clause-sure : goal.returns-in-Put-clause-sure
returns-in-Put-clause-sure c =
    let s = c.in-Put.field-0 in
    rw (c.in-Put.is) (λ i. put_needs_none (context_before c.args.checked.now i) c.args.variables.now c.args.registers.now s.spot (expression_of s.value))

pub returns-in-Assign-clause-sure : goal.returns-in-Assign-clause-sure
returns-in-Assign-clause-sure c =
    let s = c.in-Assign.assignment in
    rw (c.in-Assign.is, c.note.ensures)
    (λ i. assign_needs_none (context_before c.args.checked.now i) c.args.variables.now c.args.registers.now s.spot s.variable (expression_of s.value) c.value_of-value.result c.value_of-value.ensures.sure)

pub returns-in-SetRegister-clause-sure : goal.returns-in-SetRegister-clause-sure
returns-in-SetRegister-clause-sure c =
    let s = c.in-SetRegister.setting in
    rw (c.in-SetRegister.is, c.note-in-SetRegister.ensures)
    (λ i. register_needs_none (context_before c.args.checked.now i) c.args.variables.now c.args.registers.now s.spot s.register (expression_of s.crate_no) (expression_of s.station) (expression_of s.sub_address) c.address_of-at.result c.address_of-at.ensures.sure)

pub returns-in-Single-clause-sure : goal.returns-in-Single-clause-sure
returns-in-Single-clause-sure c =
    let s = c.in-Single.action in
    rw (c.in-Single.is, c.made.ensures)
    (λ i. sure_is (context_before c.args.checked.now i) c.args.variables.now c.args.registers.now (single_of s) c.single.result c.single.new.variables (map_some c.single.result _ _ (λ k m. m (context_before c.args.checked.now i)) c.single.ensures.sure))

pub returns-in-CrateCall-clause-sure : goal.returns-in-CrateCall-clause-sure
returns-in-CrateCall-clause-sure c =
    let s = c.in-CrateCall.action in
    rw (c.in-CrateCall.is, c.made-in-CrateCall.ensures)
    (λ i. sure_is (context_before c.args.checked.now i) c.args.variables.now c.args.registers.now (crate_action_of s) c.call_of_crate.result c.args.variables.now (map_some c.call_of_crate.result _ _ (λ k m. m (context_before c.args.checked.now i) c.args.registers.now) c.call_of_crate.ensures.sure))

pub returns-in-LamCall-clause-sure : goal.returns-in-LamCall-clause-sure
returns-in-LamCall-clause-sure c =
    let s = c.in-LamCall.action in
    rw (c.in-LamCall.is, c.made-in-LamCall.ensures)
    (λ i. sure_is (context_before c.args.checked.now i) c.args.variables.now c.args.registers.now (lam_action_of s) c.call_of_lam.result c.args.variables.now (map_some c.call_of_lam.result _ _ (λ k m. m c.args.variables.now c.args.registers.now i) c.call_of_lam.ensures.sure))

pub returns-in-Scan-clause-sure : goal.returns-in-Scan-clause-sure
returns-in-Scan-clause-sure c =
    let s = c.in-Scan.scan in
    rw (c.in-Scan.is, c.transfers.ensures)
    (λ i. transfers_are (context_before c.args.checked.now i) c.args.variables.now c.args.registers.now (scan_of s) c.scan_block.result c.scan_block.new.variables (map_some c.scan_block.result _ _ (λ t m. m (context_before c.args.checked.now i)) c.scan_block.ensures))

pub returns-in-QStop-clause-sure : goal.returns-in-QStop-clause-sure
returns-in-QStop-clause-sure c =
    let s = c.in-QStop.transfer in
    rw (c.in-QStop.is, c.transfers-in-QStop.ensures)
    (λ i. transfers_are (context_before c.args.checked.now i) c.args.variables.now c.args.registers.now (q_stop_of s) c.q_stop_block.result c.q_stop_block.new.variables (map_some c.q_stop_block.result _ _ (λ t m. m (context_before c.args.checked.now i)) c.q_stop_block.ensures))

pub returns-in-QRepeat-clause-sure : goal.returns-in-QRepeat-clause-sure
returns-in-QRepeat-clause-sure c =
    let s = c.in-QRepeat.transfer in
    let l = c.in-QRepeat.limit in
    rw (c.in-QRepeat.is, c.transfers-in-QRepeat.ensures)
    (λ i. transfers_are (context_before c.args.checked.now i) c.args.variables.now c.args.registers.now (q_repeat_of s l) c.q_repeat_block.result c.q_repeat_block.new.variables (map_some c.q_repeat_block.result _ _ (λ t m. m (context_before c.args.checked.now i)) c.q_repeat_block.ensures))

pub returns-in-Single-clause-cycles : goal.returns-in-Single-clause-cycles
returns-in-Single-clause-cycles c i =
    let s = c.in-Single.action in
    let known = c.args.variables.now in
    let lams = (context_before c.args.checked.now i).lams in
    let after = c.single.new.variables ≡ known_after known (single_of s) in
    rw c.in-Single.is
    (told c.single.result (known_cycle lams known c.args.registers.now (single_of s)) c.made.result (λ k. after) c.made.ensures (c.single.ensures.exact lams) (so_of c.single.result c.single.result (λ k. after) c.single.ensures.after refl))

pub returns-in-CrateCall-clause-cycles : goal.returns-in-CrateCall-clause-cycles
returns-in-CrateCall-clause-cycles c i =
    let s = c.in-CrateCall.action in
    let known = c.args.variables.now in
    let registers = c.args.registers.now in
    let lams = (context_before c.args.checked.now i).lams in
    rw c.in-CrateCall.is
    (told c.call_of_crate.result (known_cycle lams known registers (crate_action_of s)) c.made-in-CrateCall.result (λ k. known ≡ known) c.made-in-CrateCall.ensures (c.call_of_crate.ensures.exact lams registers) (λ k e. refl))

pub returns-in-LamCall-clause-cycles : goal.returns-in-LamCall-clause-cycles
returns-in-LamCall-clause-cycles c i =
    let s = c.in-LamCall.action in
    let known = c.args.variables.now in
    let registers = c.args.registers.now in
    let lams = (context_before c.args.checked.now i).lams in
    rw c.in-LamCall.is
    (told c.call_of_lam.result (known_cycle lams known registers (lam_action_of s)) c.made-in-LamCall.result (λ k. known ≡ known) c.made-in-LamCall.ensures (c.call_of_lam.ensures.exact known registers i) (λ k e. refl))
