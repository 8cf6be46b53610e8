use Rattle.std.proofs.Common.{◌≡◌, ℕ, ◌+◌, Bool, sym, ap, subst, arith, rules}
use Rattle.std.specs.Prelude.{Option, Some, None, is_some}
use Rattle.camac_lang.specs.Tree.{choose, choose_else, for_each, locked, on_line}
use Rattle.camac_lang.specs.View.{assignment_of, call_of, condition_of, crate_action_of, expression_of, for_of, lam_action_of, put_of, q_repeat_of, q_stop_of, scan_of, setting_of, single_of, statement_of, statements_of, while_of}
use Rattle.camac_model.specs.Fine.{most_turns}
use Rattle.camac_model.specs.Meaning.{turns, block_meaning}
use Rattle.camac_machine.specs.declared.machine.Pending.{Pending}
use Rattle.camac_machine.specs.MachineState.{free, reach, wanted_if, Advances}
use Rattle.camac_machine.proofs.Actions.{begun}
use Rattle.camac_machine.proofs.Courses.{proceeds_advance, proceeds_pace}
use Rattle.camac_machine.proofs.Rooms.{room_kept}
use Rattle.camac_machine.proofs.Frames.{wants_advance, wants_first, enter_advances, step_advances}
use Rattle.camac_machine.proofs.Loops.{while_begins}
use Rattle.camac_machine.proofs.Fine.{turns_are}
use Rattle.camac_lang.specs.declared.tree.Action.TheVariants as act
use Rattle.camac_lang.proofs.Trees.{action_is, choose_is, choose_else_is, lock_is, for_is, each_is, while_is}
use Rattle.camac_machine.proofs.machine.Machine.begin.Goals as goal

-- what a transfer wants is told by whether it wants something
wanted_same : (o : Option Pending) (b : Bool) → b ≡ is_some o → wanted_if b o ≡ o
wanted_same None b e = ap (λ c. wanted_if c None) e
wanted_same (Some w) b e = ap (λ c. wanted_if c (Some w)) e

pub overflow_add-self : goal.overflow_add-self
overflow_add-self g c =
    let h = c.args.self.now in
    let s = begun h (statement_of c.args.statement.now) (reach h) (free h) c.requires.fits c.requires.fine in
    let r = c.requires.room.steps in omega arith

-- statements without a cycle
pub assign-requires : goal.assign-requires
assign-requires g c =
    let e = action_is (act.Assign c.in-Assign.assignment) in
    (search, (room_kept c.requires.room, (rw (c.in-Action.is, c.in-Assign.is, e) at c.requires.fits, rw (c.in-Action.is, c.in-Assign.is, e) at c.requires.fine)))

pub returns-in-Assign-clause-advances : goal.returns-in-Assign-clause-advances
returns-in-Assign-clause-advances g c =
    let s = c.in-Assign.assignment in
    rw (c.in-Action.is, c.in-Assign.is, action_is (act.Assign s)) (step_advances c.args.self.now (assignment_of s) None c.assign.new.self c.assign.ensures)

pub set_register-requires : goal.set_register-requires
set_register-requires g c =
    let e = action_is (act.SetRegister c.in-SetRegister.setting) in
    (search, (room_kept c.requires.room, (rw (c.in-Action.is, c.in-SetRegister.is, e) at c.requires.fits, rw (c.in-Action.is, c.in-SetRegister.is, e) at c.requires.fine)))

pub returns-in-SetRegister-clause-advances : goal.returns-in-SetRegister-clause-advances
returns-in-SetRegister-clause-advances g c =
    let s = c.in-SetRegister.setting in
    rw (c.in-Action.is, c.in-SetRegister.is, action_is (act.SetRegister s)) (step_advances c.args.self.now (setting_of s) None c.set_register.new.self c.set_register.ensures)

pub put-requires : goal.put-requires
put-requires g c =
    let e = action_is (act.Put c.in-Put.action) in
    (search, (room_kept c.requires.room, (rw (c.in-Action.is, c.in-Put.is, e) at c.requires.fits, rw (c.in-Action.is, c.in-Put.is, e) at c.requires.fine)))

pub returns-in-Put-clause-advances : goal.returns-in-Put-clause-advances
returns-in-Put-clause-advances g c =
    let s = c.in-Put.action in
    rw (c.in-Action.is, c.in-Put.is, action_is (act.Put s)) (step_advances c.args.self.now (put_of s) None c.put.new.self c.put.ensures)

-- statements of one cycle
pub single-requires : goal.single-requires
single-requires g c =
    let e = action_is (act.Single c.in-Single.action) in
    (search, (room_kept c.requires.room, (rw (c.in-Action.is, c.in-Single.is, e) at c.requires.fits, rw (c.in-Action.is, c.in-Single.is, e) at c.requires.fine)))

pub returns-in-Single-clause-advances : goal.returns-in-Single-clause-advances
returns-in-Single-clause-advances g c =
    let s = c.in-Single.action in
    rw (c.in-Action.is, c.in-Single.is, action_is (act.Single s)) (wants_advance c.args.self.now (single_of s) c.single.new.pending c.requires.room c.single.ensures)

pub returns-in-Single-clause-wants : goal.returns-in-Single-clause-wants
returns-in-Single-clause-wants g c = λ yes.
    let s = c.in-Single.action in
    rw (c.in-Action.is, c.in-Single.is, action_is (act.Single s)) (wants_first c.args.self.now (single_of s) c.single.new.pending c.single.ensures)

pub call_crate-requires : goal.call_crate-requires
call_crate-requires g c =
    let e = action_is (act.CrateCall c.in-CrateCall.action) in
    (search, (room_kept c.requires.room, (rw (c.in-Action.is, c.in-CrateCall.is, e) at c.requires.fits, rw (c.in-Action.is, c.in-CrateCall.is, e) at c.requires.fine)))

pub returns-in-CrateCall-clause-advances : goal.returns-in-CrateCall-clause-advances
returns-in-CrateCall-clause-advances g c =
    let s = c.in-CrateCall.action in
    rw (c.in-Action.is, c.in-CrateCall.is, action_is (act.CrateCall s)) (wants_advance c.args.self.now (crate_action_of s) c.call_crate.new.pending c.requires.room c.call_crate.ensures)

pub returns-in-CrateCall-clause-wants : goal.returns-in-CrateCall-clause-wants
returns-in-CrateCall-clause-wants g c = λ yes.
    let s = c.in-CrateCall.action in
    rw (c.in-Action.is, c.in-CrateCall.is, action_is (act.CrateCall s)) (wants_first c.args.self.now (crate_action_of s) c.call_crate.new.pending c.call_crate.ensures)

pub call_lam-requires : goal.call_lam-requires
call_lam-requires g c =
    let e = action_is (act.LamCall c.in-LamCall.action) in
    (search, (rw (c.in-Action.is, c.in-LamCall.is, e) at c.requires.fits, rw (c.in-Action.is, c.in-LamCall.is, e) at c.requires.fine))

pub returns-in-LamCall-clause-advances : goal.returns-in-LamCall-clause-advances
returns-in-LamCall-clause-advances g c =
    let s = c.in-LamCall.action in
    rw (c.in-Action.is, c.in-LamCall.is, action_is (act.LamCall s)) (wants_advance c.args.self.now (lam_action_of s) c.call_lam.new.pending c.requires.room c.call_lam.ensures)

pub returns-in-LamCall-clause-wants : goal.returns-in-LamCall-clause-wants
returns-in-LamCall-clause-wants g c = λ yes.
    let s = c.in-LamCall.action in
    rw (c.in-Action.is, c.in-LamCall.is, action_is (act.LamCall s)) (wants_first c.args.self.now (lam_action_of s) c.call_lam.new.pending c.call_lam.ensures)

-- transfers
pub scan-requires : goal.scan-requires
scan-requires g c =
    let w = c.in-Scan in
    let e = action_is (act.Scan w.scan) in
    (search, (room_kept c.requires.room, (rw (c.in-Action.is, w.is, e) at c.requires.fits, rw (c.in-Action.is, w.is, e) at c.requires.fine)))

pub returns-in-Scan-clause-advances : goal.returns-in-Scan-clause-advances
returns-in-Scan-clause-advances g c =
    let w = c.in-Scan in
    rw (c.in-Action.is, w.is, action_is (act.Scan w.scan), wanted_same c.scan.new.pending c.scan.result c.scan.ensures.some)
    (proceeds_advance c.args.self.now (scan_of w.scan) c.scan.new.pending c.scan.new.self c.scan.ensures.goes)

pub returns-in-Scan-clause-wants : goal.returns-in-Scan-clause-wants
returns-in-Scan-clause-wants g c = λ yes.
    let w = c.in-Scan in
    rw (c.in-Action.is, w.is, action_is (act.Scan w.scan)) c.scan.ensures.goes.wants

pub returns-in-Scan-clause-pace : goal.returns-in-Scan-clause-pace
returns-in-Scan-clause-pace g c =
    let w = c.in-Scan in
    proceeds_pace c.args.self.now (scan_of w.scan) c.scan.new.pending c.scan.new.self c.scan.ensures.goes

pub q_stop-requires : goal.q_stop-requires
q_stop-requires g c =
    let w = c.in-QStop in
    let e = action_is (act.QStop w.transfer) in
    (search, (room_kept c.requires.room, (rw (c.in-Action.is, w.is, e) at c.requires.fits, rw (c.in-Action.is, w.is, e) at c.requires.fine)))

pub returns-in-QStop-clause-advances : goal.returns-in-QStop-clause-advances
returns-in-QStop-clause-advances g c =
    let w = c.in-QStop in
    rw (c.in-Action.is, w.is, action_is (act.QStop w.transfer), wanted_same c.q_stop.new.pending c.q_stop.result c.q_stop.ensures.some)
    (proceeds_advance c.args.self.now (q_stop_of w.transfer) c.q_stop.new.pending c.q_stop.new.self c.q_stop.ensures.goes)

pub returns-in-QStop-clause-wants : goal.returns-in-QStop-clause-wants
returns-in-QStop-clause-wants g c = λ yes.
    let w = c.in-QStop in
    rw (c.in-Action.is, w.is, action_is (act.QStop w.transfer)) c.q_stop.ensures.goes.wants

pub returns-in-QStop-clause-pace : goal.returns-in-QStop-clause-pace
returns-in-QStop-clause-pace g c =
    let w = c.in-QStop in
    proceeds_pace c.args.self.now (q_stop_of w.transfer) c.q_stop.new.pending c.q_stop.new.self c.q_stop.ensures.goes

pub q_repeat-requires : goal.q_repeat-requires
q_repeat-requires g c =
    let w = c.in-QRepeat in
    let e = action_is (act.QRepeat w.transfer w.limit) in
    (search, (room_kept c.requires.room, (rw (c.in-Action.is, w.is, e) at c.requires.fits, rw (c.in-Action.is, w.is, e) at c.requires.fine)))

pub returns-in-QRepeat-clause-advances : goal.returns-in-QRepeat-clause-advances
returns-in-QRepeat-clause-advances g c =
    let w = c.in-QRepeat in
    rw (c.in-Action.is, w.is, action_is (act.QRepeat w.transfer w.limit), wanted_same c.q_repeat.new.pending c.q_repeat.result c.q_repeat.ensures.some)
    (proceeds_advance c.args.self.now (q_repeat_of w.transfer w.limit) c.q_repeat.new.pending c.q_repeat.new.self c.q_repeat.ensures.goes)

pub returns-in-QRepeat-clause-wants : goal.returns-in-QRepeat-clause-wants
returns-in-QRepeat-clause-wants g c = λ yes.
    let w = c.in-QRepeat in
    rw (c.in-Action.is, w.is, action_is (act.QRepeat w.transfer w.limit)) c.q_repeat.ensures.goes.wants

pub returns-in-QRepeat-clause-pace : goal.returns-in-QRepeat-clause-pace
returns-in-QRepeat-clause-pace g c =
    let w = c.in-QRepeat in
    proceeds_pace c.args.self.now (q_repeat_of w.transfer w.limit) c.q_repeat.new.pending c.q_repeat.new.self c.q_repeat.ensures.goes

-- statements with blocks
pub choose-requires : goal.choose-requires
choose-requires g c =
    let w = c.in-If in
    let e = choose_is w.spot w.test w.then in
    let fits = rw (w.is, e) at c.requires.fits in
    let fine = rw (w.is, e) at c.requires.fine in (
      search,
      (
        room_kept c.requires.room,
        (
          rw c.deref.ensures.value fits.0,
          (rw c.deref-in-If.ensures.value (fits.1, fits.2), ((fits.1, tt), rw (c.deref.ensures.value, c.deref-in-If.ensures.value) fine)),
        ),
      ),
    )

pub returns-in-If-clause-advances : goal.returns-in-If-clause-advances
returns-in-If-clause-advances g c =
    let w = c.in-If in
    rw (w.is, choose_is w.spot w.test w.then)
    (enter_advances c.args.self.now (choose (on_line 0) (condition_of w.test) (statements_of w.then.items)) c.choose.new.self (rw (c.deref.ensures.value, c.deref-in-If.ensures.value) at c.choose.ensures))

pub choose-requires-in-IfElse : goal.choose-requires-in-IfElse
choose-requires-in-IfElse g c =
    let w = c.in-IfElse in
    let e = choose_else_is w.spot w.test w.then w.otherwise in
    let fits = rw (w.is, e) at c.requires.fits in
    let fine = rw (w.is, e) at c.requires.fine in (
      search rules,
      (
        room_kept c.requires.room,
        (
          rw c.deref-in-IfElse.ensures.value fits.0,
          (
            rw c.deref-in-IfElse-2.ensures.value (fits.1, fits.2),
            (rw c.deref-in-IfElse-3.ensures.value (fits.1, fits.3), rw (c.deref-in-IfElse.ensures.value, c.deref-in-IfElse-2.ensures.value, c.deref-in-IfElse-3.ensures.value) fine),
          ),
        ),
      ),
    )

pub returns-in-IfElse-clause-advances : goal.returns-in-IfElse-clause-advances
returns-in-IfElse-clause-advances g c =
    let w = c.in-IfElse in
    rw (w.is, choose_else_is w.spot w.test w.then w.otherwise)
    (enter_advances c.args.self.now (choose_else (on_line 0) (condition_of w.test) (statements_of w.then.items) (statements_of w.otherwise.items)) c.choose-in-IfElse.new.self
    (rw (c.deref-in-IfElse.ensures.value, c.deref-in-IfElse-2.ensures.value, c.deref-in-IfElse-3.ensures.value) at c.choose-in-IfElse.ensures))

pub want_lock-requires : goal.want_lock-requires
want_lock-requires g c =
    let w = c.in-Lock in
    let e = lock_is w.spot w.crate_no w.body in
    let fits = rw (w.is, e) at c.requires.fits in
    let fine = rw (w.is, e) at c.requires.fine in
    (search, (room_kept c.requires.room, (fits.0, (rw c.deref-in-Lock.ensures.value (fits.1, fits.2), rw c.deref-in-Lock.ensures.value fine))))

pub returns-in-Lock-clause-advances : goal.returns-in-Lock-clause-advances
returns-in-Lock-clause-advances g c =
    let w = c.in-Lock in
    rw (w.is, lock_is w.spot w.crate_no w.body, ← c.deref-in-Lock.ensures.value)
    (wants_advance c.args.self.now (locked (on_line 0) (expression_of w.crate_no) (statements_of c.deref-in-Lock.result.now)) c.want_lock.new.pending c.requires.room c.want_lock.ensures)

pub returns-in-Lock-clause-wants : goal.returns-in-Lock-clause-wants
returns-in-Lock-clause-wants g c = λ yes.
    let w = c.in-Lock in
    rw (w.is, lock_is w.spot w.crate_no w.body, ← c.deref-in-Lock.ensures.value)
    (wants_first c.args.self.now (locked (on_line 0) (expression_of w.crate_no) (statements_of c.deref-in-Lock.result.now)) c.want_lock.new.pending c.want_lock.ensures)

pub begin_for-requires : goal.begin_for-requires
begin_for-requires g c =
    let w = c.in-For in
    let e = for_is w.head w.body in
    let fits = rw (w.is, e) at c.requires.fits in
    let fine = rw (w.is, e) at c.requires.fine in
    (search, (room_kept c.requires.room, (rw c.deref-in-For.ensures.value fits, rw c.deref-in-For.ensures.value fine)))

pub returns-in-For-clause-advances : goal.returns-in-For-clause-advances
returns-in-For-clause-advances g c =
    let w = c.in-For in
    rw (w.is, for_is w.head w.body)
    (step_advances c.args.self.now (for_of w.head (statements_of w.body.items)) None c.begin_for.new.self (rw c.deref-in-For.ensures.value at c.begin_for.ensures))

pub begin_from-requires : goal.begin_from-requires
begin_from-requires g c =
    let w = c.in-ForEach in
    let e = each_is w.spot w.variable w.first w.last w.body in
    let fits = rw (w.is, e) at c.requires.fits in
    let fine = rw (w.is, e) at c.requires.fine in
    (search, (room_kept c.requires.room, (fits.0, (rw c.deref-in-ForEach.ensures.value (fits.1, fits.2), rw c.deref-in-ForEach.ensures.value fine))))

pub returns-in-ForEach-clause-advances : goal.returns-in-ForEach-clause-advances
returns-in-ForEach-clause-advances g c =
    let w = c.in-ForEach in
    rw (w.is, each_is w.spot w.variable w.first w.last w.body)
    (step_advances c.args.self.now (for_each w.spot w.variable w.first w.last (statements_of w.body.items)) None c.begin_from.new.self (rw c.deref-in-ForEach.ensures.value at c.begin_from.ensures))

pub test_while-requires : goal.test_while-requires
test_while-requires g c =
    let h = c.args.self.now in
    let w = c.in-While in
    let e = while_is w.head w.body in
    let fits = rw (w.is, e) at c.requires.fits in
    let fine = rw (w.is, e) at c.requires.fine in
    let few = while_begins (record h { steps = h.steps + 1 }) 65535 c.deref-in-While.result.now w.head.test.parts.items c.deref-in-While-2.result.now w.body.items turns_are c.deref-in-While.ensures.value c.deref-in-While-2.ensures.value fine in
    (search, (room_kept c.requires.room, (rw c.deref-in-While.ensures.value fits.0, (rw c.deref-in-While-2.ensures.value (fits.1, fits.2), few))))

pub returns-in-While-clause-advances : goal.returns-in-While-clause-advances
returns-in-While-clause-advances g c =
    let h = c.args.self.now in
    let w = c.in-While in
    let b = statements_of w.body.items in
    let A : ℕ → Type 0 = λ n. Advances 1 (record h { steps = h.steps + 1 }) (λ k. turns n (condition_of w.head.test) (block_meaning k most_turns b)) None c.test_while.new.self in
    let few : A 65535 = rw (c.deref-in-While.ensures.value, c.deref-in-While-2.ensures.value) at c.test_while.ensures in
    rw (w.is, while_is w.head w.body)
    (step_advances h (while_of w.head b) None c.test_while.new.self (subst A (sym turns_are) few))

pub call-requires : goal.call-requires
call-requires g c =
    let e = action_is (act.Call c.in-Call.call) in
    (search, (room_kept c.requires.room, (rw (c.in-Action.is, c.in-Call.is, e) at c.requires.fits, rw (c.in-Action.is, c.in-Call.is, e) at c.requires.fine)))

pub returns-in-Call-clause-advances : goal.returns-in-Call-clause-advances
returns-in-Call-clause-advances g c =
    let s = c.in-Call.call in
    rw (c.in-Action.is, c.in-Call.is, action_is (act.Call s)) (enter_advances c.args.self.now (call_of s) c.call.new.self c.call.ensures)
