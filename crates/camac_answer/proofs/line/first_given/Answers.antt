use Rattle.std.proofs.Common.{◌≡◌, ◌∙◌, ℕ, List, length, take, sym, ap}
use Rattle.camac_answer.specs.Lines.{is_abandon, first_line}
use Rattle.camac_answer.proofs.Spelled.{first_taken, given_answer, given_abandon, given_rule}
use Rattle.camac_answer.proofs.line.first_given.Goals as goal

-- the bytes up to the first LF
judged_line : (bytes : List ℕ) (n : ℕ) → n ≡ length (first_line bytes) → is_abandon (take n bytes) ≡ is_abandon (first_line bytes)
judged_line bytes n e = ap (λ (k : ℕ). is_abandon (take k bytes)) e ∙ ap is_abandon (first_taken bytes)

pub returns-in-Ok : goal.returns-in-Ok
returns-in-Ok c = given_answer (first_line c.args.bytes.now) c.in-Ok.answer (sym c.first_answer.ensures ∙ c.in-Ok.is)

pub returns-then-is_abandon : goal.returns-then-is_abandon
returns-then-is_abandon c =
    given_abandon (first_line c.args.bytes.now) (sym c.if-is_abandon.true ∙ c.is_abandon.ensures ∙ judged_line c.args.bytes.now c.line_length.result c.line_length.ensures)

pub returns-else-is_abandon : goal.returns-else-is_abandon
returns-else-is_abandon c =
    given_rule (first_line c.args.bytes.now) c.in-Err.rule (sym c.first_answer.ensures ∙ c.in-Err.is)
    (sym c.if-is_abandon.false ∙ c.is_abandon.ensures ∙ judged_line c.args.bytes.now c.line_length.result c.line_length.ensures)
