use Rattle.std.proofs.Common.{rules, refl, ap, subst, ◌+◌, ◌<◌, arith}
use Rattle.std.specs.Prelude.{None}
use Rattle.camac_model.specs.Behaviour.{Action}
use Rattle.camac_model.specs.Meaning.{Context}
use Rattle.camac_machine.specs.declared.machine.Machine.{Machine}
use Rattle.camac_machine.specs.MachineState.{after_pending, asked}
use Rattle.camac_machine.proofs.Courses.{mid_quiet, wants_settles, over_fine, over_settles}
use Rattle.camac_machine.proofs.Standing.{stands_on}
use Rattle.camac_machine.proofs.Pauses.{never_pauses, pauses_never}
use Rattle.camac_machine.proofs.machine.Machine.go_further.Goals as goal

pub settle-requires : goal.settle-requires
settle-requires g c =
    let h = c.args.self.now in
    let go : Context → Action = λ k. after_pending k c.args.pending.now in
    let p = c.if-not-follow_transfer.ensures.tally refl in
    (search rules, (p.room, (mid_quiet h go c.follow_transfer.new.self c.requires.quiet None p, over_fine h go c.follow_transfer.new.self c.requires.quiet c.requires.fine p)))

pub returns-then-not-follow_transfer-clause-settles : goal.returns-then-not-follow_transfer-clause-settles
returns-then-not-follow_transfer-clause-settles g c =
    over_settles c.args.self.now (λ k. after_pending k c.args.pending.now) c.follow_transfer.new.self c.requires.quiet c.settle.new.pending c.settle.new.self (c.if-not-follow_transfer.ensures.tally refl) c.settle.ensures.settles

pub returns-then-not-follow_transfer-clause-pauses : goal.returns-then-not-follow_transfer-clause-pauses
returns-then-not-follow_transfer-clause-pauses g c = λ yes.
    let p = c.if-not-follow_transfer.ensures.tally refl in
    subst (λ n. n + c.args.most < c.settle.new.self.steps) (ap (λ (m : Machine g.row.V g.row.DEPTH g.row.CAP). m.steps) p.same) (c.settle.ensures.pauses yes)

pub returns-else-not-follow_transfer-clause-pauses : goal.returns-else-not-follow_transfer-clause-pauses
returns-else-not-follow_transfer-clause-pauses g c = λ yes.
    let p = c.if-not-follow_transfer.ensures.cycle refl in pauses_never _ (never_pauses c.follow_transfer.new.self c.follow_transfer.new.pending p.1.awaits) yes

pub returns-else-not-follow_transfer-clause-settles : goal.returns-else-not-follow_transfer-clause-settles
returns-else-not-follow_transfer-clause-settles g c =
    let p = c.if-not-follow_transfer.ensures.cycle refl in
    wants_settles c.args.self.now (λ k. after_pending k c.args.pending.now) c.follow_transfer.new.self c.requires.quiet c.follow_transfer.new.pending p.0
    (stands_on c.args.self.now c.follow_transfer.new.self (asked c.args.pending.now) c.follow_transfer.new.pending p.1.same c.requires.begun (c.if-not-follow_transfer.ensures.same refl)) p.1

pub returns-then-not-follow_transfer-clause-soon : goal.returns-then-not-follow_transfer-clause-soon
returns-then-not-follow_transfer-clause-soon g c =
    let p = c.if-not-follow_transfer.ensures.tally refl in
    let n = ap (λ (m : Machine g.row.V g.row.DEPTH g.row.CAP). m.steps) p.same in
    let s = c.settle.ensures.soon in omega (arith, n, s)

pub returns-else-not-follow_transfer-clause-soon : goal.returns-else-not-follow_transfer-clause-soon
returns-else-not-follow_transfer-clause-soon g c =
    let p = c.if-not-follow_transfer.ensures.cycle refl in
    let n = ap (λ (m : Machine g.row.V g.row.DEPTH g.row.CAP). m.steps) p.1.same in omega (arith, n)
