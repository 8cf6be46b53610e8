use Rattle.std.proofs.Common.{refl, rules}
use Rattle.camac_machine.proofs.Lists.{some_of, none_of}
use Rattle.camac_machine.proofs.Pauses.{never_pauses}
use Rattle.camac_machine.proofs.Settled.{fine_still, stays_on, settles_on, smaller_on}
use Rattle.camac_machine.proofs.machine.Machine.settle_at_once.Goals as goal

pub loop-self-init : goal.loop-self-init
loop-self-init g c = record { room = c.requires.room; checked = refl; service = refl; goes = λ answers. rw c.requires.quiet refl }

pub go_on-requires : goal.go_on-requires
go_on-requires g c =
    let v = c.loop-self.invariant in
    (search rules, (v.room, (some_of c.loop-self.self.frames.items c.loop-self-test.ensures, fine_still v c.requires.fine)))

pub returns-then-go_on-clause-settles : goal.returns-then-go_on-clause-settles
returns-then-go_on-clause-settles g c =
    let yes = c.if-go_on.true in
    settles_on c.loop-self.invariant (rw yes at c.go_on.ensures.goes) (c.go_on.ensures.some yes) (c.go_on.ensures.begun yes)

pub returns-then-go_on-clause-awake : goal.returns-then-go_on-clause-awake
returns-then-go_on-clause-awake g c =
    let a = rw c.if-go_on.true at c.go_on.ensures.goes.advances in never_pauses c.go_on.new.self c.go_on.new.pending a.awaits

pub loop-self-smaller : goal.loop-self-smaller
loop-self-smaller g c = smaller_on c.loop-self.invariant c.requires.fine (rw c.if-go_on.false at c.go_on.ensures.goes)

pub loop-self-preserved : goal.loop-self-preserved
loop-self-preserved g c = stays_on c.loop-self.invariant (rw c.if-go_on.false at c.go_on.ensures.goes)

pub returns-clause-awake : goal.returns-clause-awake
returns-clause-awake g c = rw c.wait_for_none.ensures refl

pub returns-clause-settles : goal.returns-clause-settles
returns-clause-settles g c =
    let h = c.loop-self.self in
    let v = c.loop-self.invariant in
    rw c.wait_for_none.ensures (record { room = v.room; checked = v.checked; service = v.service; awaits = tt; begun = tt; over = none_of h.frames.items c.loop-self-test.ensures; goes = v.goes })
