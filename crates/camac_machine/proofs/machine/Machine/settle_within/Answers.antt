use Rattle.std.proofs.Common.{[], refl, ap, ◌∙◌, rules, arith}
use Rattle.camac_machine.specs.Rest.{says}
use Rattle.camac_machine.proofs.Lists.{some_of, none_of}
use Rattle.camac_machine.proofs.Pauses.{never_pauses, pauses_never, stands_paused, steps_fit}
use Rattle.camac_machine.proofs.Settled.{fine_still, stays_on, settles_on, smaller_on}
use Rattle.camac_machine.proofs.machine.Machine.settle_within.Goals as goal

pub loop-pending-init : goal.loop-pending-init
loop-pending-init g c = record { stays = record { room = c.requires.room; checked = refl; service = refl; goes = λ answers. rw c.requires.quiet refl }; soon = omega arith }

pub go_on-requires : goal.go_on-requires
go_on-requires g c =
    let v = c.loop-pending.invariant.stays in
    (search rules, (v.room, (some_of c.loop-pending.self.frames.items c.loop-pending-test.ensures, fine_still v c.requires.fine)))

pub returns-then-go_on-clause-settles : goal.returns-then-go_on-clause-settles
returns-then-go_on-clause-settles g c =
    let yes = c.if-go_on.true in
    settles_on c.loop-pending.invariant.stays (rw yes at c.go_on.ensures.goes) (c.go_on.ensures.some yes) (c.go_on.ensures.begun yes)

pub returns-then-go_on-clause-pauses : goal.returns-then-go_on-clause-pauses
returns-then-go_on-clause-pauses g c = λ yes.
    let a = rw c.if-go_on.true at c.go_on.ensures.goes.advances in pauses_never _ (never_pauses c.go_on.new.self c.go_on.new.pending a.awaits) yes

pub returns-then-self-end-clause-settles : goal.returns-then-self-end-clause-settles
returns-then-self-end-clause-settles g c =
    let h = c.loop-pending.self in
    let v = c.loop-pending.invariant.stays in
    rw c.pause.ensures (record {
      room = v.room;
      checked = v.checked;
      service = v.service;
      awaits = tt;
      begun = tt;
      over = tt;
      goes = λ answers. ap (says h.unlocks.items) (stands_paused h answers) ∙ v.goes answers;
    })

pub returns-then-self-end-clause-pauses : goal.returns-then-self-end-clause-pauses
returns-then-self-end-clause-pauses g c = λ yes.
    let h = c.loop-pending.self in
    let v = c.loop-pending.invariant.stays in
    let few = steps_fit h v.room (fine_still v c.requires.fine []) in
    let end = c.saturating_add-end.ensures in
    let over = c.if-self-end.true in omega (arith, few, end, over)

pub loop-pending-smaller : goal.loop-pending-smaller
loop-pending-smaller g c = smaller_on c.loop-pending.invariant.stays c.requires.fine (rw c.if-go_on.false at c.go_on.ensures.goes)

pub loop-pending-preserved : goal.loop-pending-preserved
loop-pending-preserved g c =
    let on = rw c.if-go_on.false at c.go_on.ensures.goes in
    let few = on.advances.few in
    let end = c.saturating_add-end.ensures in
    let below = c.if-self-end.false in record { stays = stays_on c.loop-pending.invariant.stays on; soon = omega (arith, few, end, below) }

pub returns-clause-settles : goal.returns-clause-settles
returns-clause-settles g c =
    let h = c.loop-pending.self in
    let v = c.loop-pending.invariant.stays in
    rw c.wait_for_none.ensures (record { room = v.room; checked = v.checked; service = v.service; awaits = tt; begun = tt; over = none_of h.frames.items c.loop-pending-test.ensures; goes = v.goes })

pub returns-then-go_on-clause-soon : goal.returns-then-go_on-clause-soon
returns-then-go_on-clause-soon g c =
    let few = (rw c.if-go_on.true at c.go_on.ensures.goes.advances).few in
    let end = c.saturating_add-end.ensures in
    let below = c.if-self-end.false in omega (arith, few, end, below)

pub returns-then-self-end-clause-soon : goal.returns-then-self-end-clause-soon
returns-then-self-end-clause-soon g c = c.loop-pending.invariant.soon

pub returns-clause-soon : goal.returns-clause-soon
returns-clause-soon g c = c.loop-pending.invariant.soon
