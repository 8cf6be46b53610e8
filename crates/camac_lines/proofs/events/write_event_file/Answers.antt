use Rattle.std.proofs.Common.{◌≡◌, ◌+◌, ◌∙◌, ◌++◌, List, ℕ, length, ap, arith}
use Rattle.std.proofs.Math.Bool.{or-false}
use Rattle.camac_event.specs.Spelling.{Entry}
use Rattle.camac_event.specs.Found.{entry_in}
use Rattle.camac_event.specs.Records.{Unread}
use Rattle.camac_lines.specs.Events.{event_lines, last_line}
use Rattle.camac_lines.proofs.Lines.{Writes-at_err, event_lines-first}
use Rattle.camac_lines.proofs.Texts.{under_way_last, under_way_put, under_way_put_stops}
use Rattle.camac_lines.proofs.events.write_event_file.Goals as goal

pub returns-in_err-put_record-clause-text : goal.returns-in_err-put_record-clause-text
returns-in_err-put_record-clause-text g c =
    let next = c.in-Some.ensures in
    let r = c.in-Some.record in
    let parts = event_lines-first c.records.records.events c.next.new.self.events c.records.records.read c.next.new.self.read r.number (entry_in r) (last_line (length c.args.file.now.events)) next.some next.number next.read in
    Writes-at_err c.from_residual.result _ _ _ c.from_residual.ensures.0 (under_way_put_stops _ _ _ _ _ _ _ _ c.records.invariant.0 parts c.in_err-put_record.ensures.text)

pub records-preserved : goal.records-preserved
records-preserved g c =
    let next = c.in-Some.ensures in
    let r = c.in-Some.record in
    let parts = event_lines-first c.records.records.events c.next.new.self.events c.records.records.read c.next.new.self.read r.number (entry_in r) (last_line (length c.args.file.now.events)) next.some next.number next.read in (
      under_way_put _ _ _ _ _ _ _ _ _ c.records.invariant.0 parts c.in_ok-put_record.ensures.text,
      c.in_ok-put_record.ensures.failed ∙ or-false _ ∙ c.records.invariant.1,
      omega (arith, c.records.invariant.2, ap length next.some, next.read),
      c.in_ok-put_record.ensures.room,
    )

pub returns-clause-text : goal.returns-clause-text
returns-clause-text g c =
    let last = last_line (length c.args.file.now.events) in
    let none = c.in_default.ensures.none in
    let read : c.records.records.read ≡ length c.args.file.now.events = omega (arith, c.records.invariant.2, ap length none.0) in
    let held = c.records.line in
    let all = c.as_bytes.ensures ∙ c.push_last.ensures ∙ ap (λ (n : ℕ). held ++ last_line n) (c.read.ensures ∙ ap (λ (u : Unread). u.read) none.1 ∙ read) in
    under_way_last c.put_text.result _ _ (held ++ last) _ _ _ c.records.invariant.0 (ap (λ (es : List Entry). held ++ (event_lines (c.records.records.read + 1) es ++ last)) none.0)
    (rw all at c.put_text.ensures.text)
