use Rattle.std.proofs.Common.{◌+◌, ◌-◌, suc, sym}
use Rattle.std.specs.Prelude.{None}
use Rattle.camac_lang.specs.View.{statements_of}
use Rattle.camac_model.specs.Fine.{most_turns}
use Rattle.camac_model.specs.Meaning.{for_from, for_turns, block_meaning}
use Rattle.camac_machine.proofs.Loops.{fine_as, advances_as, unchanged, count_goes, count_none}
use Rattle.camac_machine.proofs.machine.Machine.begin_from.Goals as goal

pub turn-requires : goal.turn-requires
turn-requires g c =
    let h = c.args.self.now in
    let x = c.args.variable in
    let v = c.args.first in
    let w = c.args.last in
    let b = statements_of c.args.body.now in
    let fine = fine_as h (λ k. for_from (w + 1 - v) most_turns x v w (block_meaning k most_turns b)) (λ k. for_turns (suc (w - v)) 65535 x v w (block_meaning k most_turns b))
    (count_goes h x v w b c.if-first-last.true) c.requires.fine in
    (search, (c.requires.room, (c.requires.variable, (c.requires.body, fine))))

pub returns-then-first-last : goal.returns-then-first-last
returns-then-first-last g c =
    let h = c.args.self.now in
    let x = c.args.variable in
    let v = c.args.first in
    let w = c.args.last in
    let b = statements_of c.args.body.now in
    advances_as h (λ k. for_turns (suc (w - v)) 65535 x v w (block_meaning k most_turns b)) (λ k. for_from (w + 1 - v) most_turns x v w (block_meaning k most_turns b)) None c.turn.new.self
    (λ answers. sym (count_goes h x v w b c.if-first-last.true answers)) c.turn.ensures

pub returns-else-first-last : goal.returns-else-first-last
returns-else-first-last g c =
    let h = c.args.self.now in
    let x = c.args.variable in
    let v = c.args.first in
    let w = c.args.last in
    let b = statements_of c.args.body.now in
    unchanged h (λ k. for_from (w + 1 - v) most_turns x v w (block_meaning k most_turns b)) (count_none h x v w b c.if-first-last.false) c.requires.room
