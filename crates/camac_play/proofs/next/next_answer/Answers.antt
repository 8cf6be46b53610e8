use Rattle.std.proofs.Common.{◌≡◌, ◌≤◌, ◌∙◌, length, rules}
use Rattle.camac_answer.specs.Answers.{window}
use Rattle.camac_answer.proofs.Readings.{read_is_next, room_for}
use Rattle.camac_play.proofs.next.next_answer.Goals as goal

pub returns-clause-next : goal.returns-clause-next
returns-clause-next g c =
    let line = c.read_line.new.line in
    let room : length line ≡ window c.args.limit c.args.given = c.in_ok-len.ensures.len ∙ room_for c.args.limit c.args.given c.judged_by.result _ (search rules) c.judged_by.ensures in
    let within : c.in_ok-len.len ≤ length line = search rules in
    rw c.show_refused.ensures (
      c.judge.result,
      read_is_next c.args.limit c.args.given (g.I.RunIo.state c.args.io.now).remaining (g.I.RunIo.state c.read_line.new.self).remaining line c.in_ok-len.len c.judge.result
          c.in_ok-len.ensures.bytes room within (rw (← c.in_ok-len.ensures.len) at c.in_ok-len.ensures.short) c.in_ok-len.ensures.no_more c.judge.ensures.value,
      c.heard-read.ensures,
    )
