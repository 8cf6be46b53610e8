use Rattle.std.proofs.Common.{◌≡◌, ◌++◌, List, ℕ, rules, subst}
use Rattle.camac_event.specs.Found.{entry_in}
use Rattle.camac_word.specs.Writing.{AppendsPrefix}
use Rattle.camac_lines.specs.Events.{event_start}
use Rattle.camac_lines.specs.Texts.{Puts}
use Rattle.camac_lines.proofs.Lines.{event_line-laid}
use Rattle.camac_lines.proofs.Texts.{Puts-at_err, Puts-then}
use Rattle.camac_lines.proofs.events.put_record.Goals as goal

pub returns-in_err-put_file_words-clause-text : goal.returns-in_err-put_file_words-clause-text
returns-in_err-put_file_words-clause-text g c =
    let number = c.args.record.now.number in
    let e = entry_in c.args.record.now in
    let started : c.push_start.new.line ≡ c.args.line.now ++ event_start number e = search rules in
    let laid = event_line-laid number e c.args.line.now c.push_start.new.line started in
    Puts-at_err c.from_residual.result _ _ _ _ c.from_residual.ensures.0
    (subst (λ (l : List ℕ). AppendsPrefix (g.W.TextWriter.contents c.args.out.now) (g.W.TextWriter.contents c.put_file_words.new.out) l) laid c.in_err-put_file_words.ensures.text)

pub returns-clause-text : goal.returns-clause-text
returns-clause-text g c =
    let number = c.args.record.now.number in
    let e = entry_in c.args.record.now in
    let started : c.push_start.new.line ≡ c.args.line.now ++ event_start number e = search rules in
    let laid = event_line-laid number e c.args.line.now c.push_start.new.line started in
    subst (λ (l : List ℕ). Puts (g.W.TextWriter.contents c.args.out.now) (g.W.TextWriter.contents c.make_room.new.out) c.make_room.result l c.make_room.new.line) laid
    (Puts-then c.make_room.result _ _ _ _ _ _ c.in_ok-put_file_words.ensures.text c.make_room.ensures.text)
