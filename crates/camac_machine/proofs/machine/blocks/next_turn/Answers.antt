use Rattle.std.proofs.Common.{arith}
use Rattle.camac_machine.proofs.Lists.{turned_again}
use Rattle.camac_machine.proofs.machine.blocks.next_turn.Goals as goal

pub returns-then-current-last-clause-turn : goal.returns-then-current-last-clause-turn
returns-then-current-last-clause-turn c =
    let f = c.in-For in
    rw c.saturating_sub.ensures (turned_again c.args.frames.now c.index-frames-count.result f.variable f.current f.last f.turns f.body (omega (arith, c.if-count-eq0.false)) f.is c.if-current-last.true)
