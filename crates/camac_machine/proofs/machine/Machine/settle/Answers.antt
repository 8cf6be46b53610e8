use Rattle.std.proofs.Common.{[], arith}
use Rattle.camac_machine.specs.MachineState.{bounds_of}
use Rattle.camac_machine.proofs.Fine.{fine_says}
use Rattle.camac_machine.proofs.Frames.{fine_along}
use Rattle.camac_machine.proofs.Settled.{settled_fit}
use Rattle.camac_machine.proofs.machine.Machine.settle.Goals as goal

pub returns-then-most-eq-NO_PAUSE-clause-soon : goal.returns-then-most-eq-NO_PAUSE-clause-soon
returns-then-most-eq-NO_PAUSE-clause-soon g c =
    let new = c.settle_at_once.new.self in
    let next' = c.settle_at_once.new.pending in
    let s = c.settle_at_once.ensures.settles in
    let fine = fine_says new.checked.now.plan (bounds_of new) new.unlocks.items _ (fine_along new c.args.self.now s.checked s.service _ _ (s.goes []) (c.requires.fine [])) in
    let few = settled_fit new next' s.room s.awaits fine in
    let most = c.if-most-eq-NO_PAUSE.true in omega (arith, few, most)
