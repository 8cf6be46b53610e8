use Rattle.std.proofs.Common.{◌≡◌, suc, ◌+◌, ◌<◌, Result, sym, ap, ◌∙◌, arith}
use Rattle.std.proofs.lemmas.Result.{err_from_is_err_and}
use Rattle.camac_text_cursor.specs.declared.choice.Choice.TheVariants as choice
use Rattle.camac_text_cursor.specs.Reading.{State, then_read, give, Fault, until}
use Rattle.camac_text_cursor.specs.Readers.{is_name, new_variable}
use Rattle.camac_text.specs.Declarations.{one_more_variable}
use Rattle.camac_text_cursor.specs.Parser.{state}
use Rattle.camac_text.proofs.Variables.{variables_progress, new_variable_ok, one_variable_less}
use Rattle.camac_text_cursor.proofs.Loops.{until_goes, until_fails, until_ends, then_fails}
use Rattle.camac_text.proofs.declarations.more_variables.Goals as goal

pub returns-in_err-new_variable : goal.returns-in_err-new_variable
returns-in_err-new_variable c =
    let p = err_from_is_err_and c.from_residual.result c.from_residual.ensures.1 in
    rw (p.1, p.2) (until_fails choice.Name is_name one_more_variable variables_progress c.loop-parser.count (state c.loop-parser.parser) (until choice.Name is_name one_more_variable 1 (state c.args.parser.now)) c.in_err-new_variable.field-0.0 (state c.new_variable.new.self).tried (sym c.next_is_name.ensures ∙ c.loop-parser-test.true)
    (then_fails c.in_err-new_variable.field-0.0 (state c.new_variable.new.self).tried (new_variable (state c.loop-parser.parser)) (λ _. give (c.loop-parser.count + 1)) c.in_err-new_variable.ensures) c.loop-parser.invariant.0)

pub loop-parser-smaller : goal.loop-parser-smaller
loop-parser-smaller c =
    let d = new_variable_ok (state c.loop-parser.parser) (tt, state c.new_variable.new.self) c.in_ok-new_variable.ensures in
    one_variable_less (state c.loop-parser.parser) d.0 (state c.new_variable.new.self) d.1

-- no more variables are counted than there is room for
pub overflow_add-count : goal.overflow_add-count
overflow_add-count c =
    let d = new_variable_ok (state c.loop-parser.parser) (tt, state c.new_variable.new.self) c.in_ok-new_variable.ensures in
    let room : (state c.loop-parser.parser).variable_count < 64 = d.1.room in
    omega (arith, c.loop-parser.invariant.1, room)

pub loop-parser-preserved : goal.loop-parser-preserved
loop-parser-preserved c =
    let d = new_variable_ok (state c.loop-parser.parser) (tt, state c.new_variable.new.self) c.in_ok-new_variable.ensures in
    let counted : (state c.new_variable.new.self).variable_count ≡ suc (state c.loop-parser.parser).variable_count = ap (λ (s : State). s.variable_count) d.1.left in (
      until_goes choice.Name is_name one_more_variable variables_progress c.loop-parser.count (state c.loop-parser.parser) (until choice.Name is_name one_more_variable 1 (state c.args.parser.now)) (c.loop-parser.count + 1) (state c.new_variable.new.self) (sym c.next_is_name.ensures ∙ c.loop-parser-test.true)
          (ap (λ (r : Result (Unit {0} × State) Fault). then_read r (λ _. give (c.loop-parser.count + 1))) c.in_ok-new_variable.ensures) c.loop-parser.invariant.0,
      omega (arith, c.loop-parser.invariant.1, counted),
    )

pub returns : goal.returns
returns c = rw c.miss.ensures (until_ends choice.Name is_name one_more_variable variables_progress c.loop-parser.count (state c.loop-parser.parser) (until choice.Name is_name one_more_variable 1 (state c.args.parser.now)) (sym c.next_is_name.ensures ∙ c.loop-parser-test.false) c.loop-parser.invariant.0)
