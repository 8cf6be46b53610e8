use Rattle.std.proofs.Common.{◌≡◌, [], List, ◌++◌, subst, sym, ap, ◌∙◌}
use Rattle.std.proofs.lemmas.Result.{err_from_is_err_and}
use Rattle.camac_lang.specs.Nodes.{AreWhole, expression_in, nodes_of}
use Rattle.camac_lang.specs.View.{expression_of}
use Rattle.camac_lang.specs.declared.expression.Node.{Node}
use Rattle.camac_lang.proofs.Terms.{expression_in-nodes_of, whole}
use Rattle.camac_text_cursor.specs.Parser.{state}
use Rattle.camac_text_phrases.proofs.ExpressionsRead.{factor_fails, is_read, leaf_stays, products_fail, sums_fail}
use Rattle.camac_text_phrases.proofs.expressions.long_expression.Goals as goal

pub returns-in_err-operators : goal.returns-in_err-operators
returns-in_err-operators c before leaf =
    let p = err_from_is_err_and c.from_residual.result c.from_residual.ensures.1 in
    let failed = c.in_err-operators.ensures before (leaf_stays c.args.room 0 before c.args.first c.args.parser.now c.take_nodes-nodes.new.self c.take_nodes-nodes.ensures.same leaf) in
    rw (p.1, p.2) (factor_fails c.args.room before c.in_err-operators.field-0.0 (state c.factor_from.new.parser).tried failed)

pub returns-in_err-operators-2 : goal.returns-in_err-operators-2
returns-in_err-operators-2 c before leaf =
    let p = err_from_is_err_and c.from_residual-in_err-operators-2.result c.from_residual-in_err-operators-2.ensures.1 in
    let one = c.in_ok-operators.ensures before (leaf_stays c.args.room 0 before c.args.first c.args.parser.now c.take_nodes-nodes.new.self c.take_nodes-nodes.ensures.same leaf) in
    rw (p.1, p.2) (products_fail c.args.room before c.in_err-operators-2.field-0.0 (state c.products.new.parser).tried _ _ one.2 (c.in_err-operators-2.ensures one.0))

pub returns-in_err-sums : goal.returns-in_err-sums
returns-in_err-sums c before leaf =
    let p = err_from_is_err_and c.from_residual-in_err-sums.result c.from_residual-in_err-sums.ensures.1 in
    let one = c.in_ok-operators.ensures before (leaf_stays c.args.room 0 before c.args.first c.args.parser.now c.take_nodes-nodes.new.self c.take_nodes-nodes.ensures.same leaf) in
    let two = c.in_ok-operators-2.ensures one.0 in
    rw (p.1, p.2) (sums_fail c.args.room before _ _ _ _ one.2 two.2 c.in_err-sums.field-0.0 (state c.sums.new.parser).tried (c.in_err-sums.ensures two.0))

pub of_nodes-requires : goal.of_nodes-requires
of_nodes-requires c =
    let before = c.requires.0 in
    let leaf = c.requires.1 in
    let one = c.in_ok-operators.ensures before (leaf_stays c.args.room 0 before c.args.first c.args.parser.now c.take_nodes-nodes.new.self c.take_nodes-nodes.ensures.same leaf) in
    let two = c.in_ok-operators-2.ensures one.0 in
    let three = c.in_ok-sums.ensures two.0 in
    let start : c.factor_from.new.nodes.items ≡ nodes_of one.0 = one.1 ∙ ap (λ ns. ns ++ nodes_of one.0) c.take_nodes-nodes.ensures.empty in
    let are : c.deref.result.now ≡ nodes_of three.0 = c.deref.ensures.value ∙ three.1 [] (two.1 [] start) in
    subst (λ (ns : List Node). AreWhole ns) (sym are) (whole three.0)

pub returns : goal.returns
returns c before leaf =
    let one = c.in_ok-operators.ensures before (leaf_stays c.args.room 0 before c.args.first c.args.parser.now c.take_nodes-nodes.new.self c.take_nodes-nodes.ensures.same leaf) in
    let two = c.in_ok-operators-2.ensures one.0 in
    let three = c.in_ok-sums.ensures two.0 in
    let start : c.factor_from.new.nodes.items ≡ nodes_of one.0 = one.1 ∙ ap (λ ns. ns ++ nodes_of one.0) c.take_nodes-nodes.ensures.empty in
    let are : c.deref.result.now ≡ nodes_of three.0 = c.deref.ensures.value ∙ three.1 [] (two.1 [] start) in
    let value : expression_of c.in_ok-whole.whole ≡ three.0 = c.in_ok-whole.ensures ∙ ap expression_in are ∙ expression_in-nodes_of three.0 in
    rw (value, c.give_back_nodes.ensures) (is_read c.args.room before _ _ _ _ one.2 two.2 _ _ three.2)
