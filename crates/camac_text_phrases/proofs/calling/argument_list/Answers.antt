use Rattle.std.proofs.Common.{◌≡◌, ℕ, suc, ◌-◌, List, ◌++◌, ◌∷◌, [], length, map, Ok, arith, sym, ap, subst, ◌∙◌, length-append}
use Rattle.std.proofs.lemmas.Result.{err_from_is_err_and}
use Rattle.std.proofs.lemmas.List.{map_push}
use Rattle.camac_lang.specs.Tree.{Expression}
use Rattle.camac_lang.specs.View.{expression_of}
use Rattle.camac_text_cursor.specs.Parser.{state, FailsWith}
use Rattle.camac_text_phrases.specs.Arguments.{argument_after, more_arguments}
use Rattle.camac_text_phrases.proofs.ArgumentsRead.{arguments_go, arguments_fail, arguments_end}
use Rattle.camac_text_phrases.proofs.calling.argument_list.Goals as goal

pub returns-in_err-argument : goal.returns-in_err-argument
returns-in_err-argument c =
    let p = err_from_is_err_and c.from_residual.result c.from_residual.ensures.1 in
    let items = map expression_of c.loop-parser.arguments.items in
    let same : map expression_of c.deref.result.now ≡ items = ap (map expression_of) c.deref.ensures.value in
    let left : c.args.count - length c.loop-parser.arguments.items ≡ suc (c.args.count - suc (length c.loop-parser.arguments.items)) = omega (arith, c.loop-parser-test.true, c.len.ensures, c.loop-parser.arguments.ok.0) in
    rw (p.1, p.2) (arguments_fail c.args.count c.args.room (c.args.count - suc (length c.loop-parser.arguments.items)) items (state c.loop-parser.parser) c.in_err-argument.field-0.0 (state c.argument.new.parser).tried (more_arguments c.args.count c.args.room c.args.count [] (state c.args.parser.now))
    (subst (λ (es : List Expression). FailsWith c.in_err-argument.field-0.0 (state c.argument.new.parser).tried (argument_after c.args.count c.args.room es (state c.loop-parser.parser))) same c.in_err-argument.ensures)
    (ap (λ (n : ℕ). more_arguments c.args.count c.args.room n items (state c.loop-parser.parser)) (sym left) ∙ c.loop-parser.invariant.0))

pub loop-parser-preserved : goal.loop-parser-preserved
loop-parser-preserved c =
    let items = map expression_of c.loop-parser.arguments.items in
    let e : Expression = expression_of c.in_ok-argument.argument in
    let same : map expression_of c.deref.result.now ≡ items = ap (map expression_of) c.deref.ensures.value in
    let left : c.args.count - length c.loop-parser.arguments.items ≡ suc (c.args.count - suc (length c.loop-parser.arguments.items)) = omega (arith, c.loop-parser-test.true, c.len.ensures, c.loop-parser.arguments.ok.0) in
    let longer : map expression_of c.push.new.self.items ≡ items ++ e ∷ [] = rw c.in_ok-push.ensures.items (map_push expression_of c.loop-parser.arguments.items c.in_ok-argument.argument) in
    let one : length c.push.new.self.items ≡ suc (length c.loop-parser.arguments.items) = rw c.in_ok-push.ensures.items (omega (arith, length-append c.loop-parser.arguments.items (c.in_ok-argument.argument ∷ []))) in
    let took : argument_after c.args.count c.args.room items (state c.loop-parser.parser) ≡ Ok (e, state c.argument.new.parser) = subst (λ (es : List Expression). argument_after c.args.count c.args.room es (state c.loop-parser.parser) ≡ Ok (e, state c.argument.new.parser)) same c.in_ok-argument.ensures in
    let go = arguments_go c.args.count c.args.room (c.args.count - suc (length c.loop-parser.arguments.items)) items (state c.loop-parser.parser) e (state c.argument.new.parser) (more_arguments c.args.count c.args.room c.args.count [] (state c.args.parser.now)) took (ap (λ (n : ℕ). more_arguments c.args.count c.args.room n items (state c.loop-parser.parser)) (sym left) ∙ c.loop-parser.invariant.0) in
    (rw (longer, one) go, rw one (omega (arith, c.loop-parser-test.true, c.len.ensures, c.loop-parser.arguments.ok.0)))

pub returns : goal.returns
returns c =
    let none : c.args.count - length c.loop-parser.arguments.items ≡ 0 = omega (arith, c.loop-parser-test.false, c.len.ensures, c.loop-parser.arguments.ok.0) in
    arguments_end c.args.count c.args.room (map expression_of c.loop-parser.arguments.items) (state c.loop-parser.parser) (more_arguments c.args.count c.args.room c.args.count [] (state c.args.parser.now)) (ap (λ (n : ℕ). more_arguments c.args.count c.args.room n (map expression_of c.loop-parser.arguments.items) (state c.loop-parser.parser)) (sym none) ∙ c.loop-parser.invariant.0)
