use Rattle.std.proofs.Common.{rules, refl}
use Rattle.camac_lang.specs.Nodes.{expression_in}
use Rattle.camac_text_cursor.specs.Parser.{state}
use Rattle.camac_text_phrases.proofs.ExpressionsRead.{number_taken, variable_taken}
use Rattle.camac_text_phrases.proofs.expressions.quick_leaf.Goals as goal

pub returns-in-Some-Number : goal.returns-in-Some-Number
unfolding expression_in
returns-in-Some-Number c room so_far =
    rw c.advance.ensures (refl, number_taken room so_far c.in-Some-Number.number (state c.args.parser.now) (search rules))

pub returns-in_ok-of_variable-in-Some : goal.returns-in_ok-of_variable-in-Some
unfolding expression_in
returns-in_ok-of_variable-in-Some c room so_far =
    rw c.in_ok-of_variable-in-Some.ensures (refl, variable_taken room so_far c.in-Some.place (state c.args.parser.now) (state c.take_variable.new.self) (c.in-Some.ensures.name refl) c.in-Some.ensures.some)
