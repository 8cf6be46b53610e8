use Rattle.std.proofs.Common.{ℕ, ◌<◌, length, Result, Ok, Err, sym, ap, ◌∙◌}
use Rattle.std.proofs.lemmas.Bool.{eqb-true}
use Rattle.camac_tokens.specs.Fault.{Fault}
use Rattle.camac_tokens.specs.Left.{Ahead}
use Rattle.camac_tokens.proofs.Scans.{some_left}
use Rattle.camac_tokens.proofs.Steps.{end_behind, end_here, fault_here}
use Rattle.camac_tokens.proofs.left.TokensLeft.end.Goals as goal

pub returns-then-is_empty : goal.returns-then-is_empty
returns-then-is_empty c =
    let t = c.self.inside in
    sym (ap (λ (a : Ahead). a.end) c.self.view_is)
    ∙ end_behind t.next t.line t.rest.now
    ∙ end_here t.line t.rest.now (eqb-true _ 0 (sym c.is_empty.ensures ∙ c.if-is_empty.true))
    ∙ ap (λ (l : ℕ). let r : Result ℕ Fault = Ok l in r) (sym c.line_number-line.ensures)

pub returns : goal.returns
returns c =
    let t = c.self.inside in
    let some : 0 < length t.rest.now = some_left (length t.rest.now) (sym c.is_empty.ensures ∙ c.if-is_empty.false) in
    sym (ap (λ (a : Ahead). a.end) c.self.view_is)
    ∙ end_behind t.next t.line t.rest.now
    ∙ fault_here t.line t.rest.now c.fault_at.result some c.fault_at.ensures
    ∙ ap (λ (l : ℕ). let r : Result ℕ Fault = Err (record { case = c.fault_at.result; spot = record { line = l; left = length t.rest.now } }) in r) (sym c.line_number-line.ensures)
