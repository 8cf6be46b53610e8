use Rattle.std.proofs.Common.{◌≡◌, ◌++◌, ◌∷◌, [], map, sym, ◌∙◌}
use Rattle.std.proofs.lemmas.Result.{err_from_is_err_and}
use Rattle.std.proofs.lemmas.List.{map_push}
use Rattle.camac_lang.specs.View.{parameter_of}
use Rattle.camac_tokens.specs.declared.token.Sign.TheVariants as sign
use Rattle.camac_text_cursor.specs.declared.choice.Choice.TheVariants as choice
use Rattle.camac_text_cursor.specs.Reading.{one_more}
use Rattle.camac_text_cursor.specs.Readers.{is_sign}
use Rattle.camac_text_cursor.specs.Parser.{state}
use Rattle.camac_text_cursor.proofs.Loops.{until_more, until_more_fails, until_ends}
use Rattle.camac_text.specs.Procedures.{next_parameter, parameter_list}
use Rattle.camac_text.proofs.ParametersRead.{next_parameter_less, parameters_progress}
use Rattle.camac_text.proofs.procedures.parameter_list.Goals as goal

pub returns-in_err-parameter : goal.returns-in_err-parameter
returns-in_err-parameter c =
    let p = err_from_is_err_and c.from_residual-in_err-parameter.result c.from_residual-in_err-parameter.ensures.1 in
    rw (p.1, p.2) (until_more_fails (choice.Mark sign.Comma) (is_sign sign.Comma) next_parameter parameters_progress (map parameter_of c.loop-parser.parameters.items) (state c.loop-parser.parser) (parameter_list (state c.args.parser.now)) c.in_err-parameter.field-0.0 (state c.next_parameter.new.parser).tried (sym c.next_is_sign.ensures ∙ c.loop-parser-test.true) c.in_err-parameter.ensures c.loop-parser.invariant)

pub loop-parser-smaller : goal.loop-parser-smaller
loop-parser-smaller c = next_parameter_less (state c.loop-parser.parser) (parameter_of c.in_ok-parameter.parameter, state c.next_parameter.new.parser) (sym c.next_is_sign.ensures ∙ c.loop-parser-test.true) c.in_ok-parameter.ensures

pub loop-parser-preserved : goal.loop-parser-preserved
loop-parser-preserved c =
    let e : map parameter_of c.push-in-loop-parser.new.self.items ≡ map parameter_of c.loop-parser.parameters.items ++ parameter_of c.in_ok-parameter.parameter ∷ [] = rw c.in_ok-push-2.ensures.items (map_push parameter_of c.loop-parser.parameters.items c.in_ok-parameter.parameter) in
    rw e (until_more (choice.Mark sign.Comma) (is_sign sign.Comma) next_parameter parameters_progress (map parameter_of c.loop-parser.parameters.items) (state c.loop-parser.parser) (parameter_list (state c.args.parser.now)) (parameter_of c.in_ok-parameter.parameter) (state c.next_parameter.new.parser) (sym c.next_is_sign.ensures ∙ c.loop-parser-test.true) c.in_ok-parameter.ensures c.loop-parser.invariant)

pub returns : goal.returns
returns c = rw c.miss.ensures (until_ends (choice.Mark sign.Comma) (is_sign sign.Comma) (one_more next_parameter) parameters_progress (map parameter_of c.loop-parser.parameters.items) (state c.loop-parser.parser) (parameter_list (state c.args.parser.now)) (sym c.next_is_sign.ensures ∙ c.loop-parser-test.false) c.loop-parser.invariant)
