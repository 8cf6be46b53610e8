use Rattle.std.proofs.Common.{rules, ◌≡◌, Option, Ok, [], ◌∷◌, ◌++◌, length, arith, refl, sym, ap, subst, ◌∙◌}
use Rattle.camac_lang.specs.Tree.{number, group, add, subtract, multiply, divide, remainder}
use Rattle.std.proofs.lemmas.Result.{err_from_is_err_and}
use Rattle.camac_text_cursor.specs.Parser.{state}
use Rattle.camac_text_cursor.proofs.Loops.{until_goes, until_fails, until_ends}
use Rattle.camac_text_phrases.proofs.BracketsRead.{product_progress, sum_progress, bracketed_ok}
use Rattle.camac_text_cursor.specs.declared.choice.Choice.TheVariants as choice
use Rattle.camac_text_cursor.specs.Reading.{until}
use Rattle.camac_text_phrases.specs.Expressions.{counted, is_product_sign, is_sum_sign, bracketed, sum_turn, product_turn}
use Rattle.camac_text_phrases.specs.Views.{Leaf, Puts}
use Rattle.camac_text_phrases.proofs.ExpressionsRead.{one_more, both, right_size}
use Rattle.camac_text_phrases.proofs.expressions.+expression.Goals as goal
use Rattle.camac_text_phrases.proofs.expressions.+expression.Goals.{sum_turn-then-is_difference, sum_turn-else-is_difference}
use Rattle.camac_lang.specs.Nodes.{expression_in, size}
use Rattle.camac_lang.specs.declared.expression.Node.{Node}
use Rattle.camac_lang.specs.declared.expression.Node.TheVariants as node

pub factor_from-returns-in_ok-push-in-Some : goal.factor_from-returns-in_ok-push-in-Some
factor_from-returns-in_ok-push-in-Some t c before leaf =
    let p = subst (λ (o : Option Node). Leaf c.args.room c.args.so_far before (Ok o) c.args.parser.now) c.in-Some.is leaf in
    (expression_in (c.in-Some.node ∷ []), c.in_ok-push-in-Some.ensures.items ∙ ap (λ ns. c.args.nodes.now.items ++ ns) p.0, p.1)

pub factor_from-returns-in-None : goal.factor_from-returns-in-None
factor_from-returns-in-None t c before leaf =
    let p = subst (λ (o : Option Node). Leaf c.args.room c.args.so_far before (Ok o) c.args.parser.now) c.in-None.is leaf in
    subst (λ r. Puts c.args.nodes.now.items c.bracket.new.nodes.items c.bracket.result c.bracket.new.parser r) (sym p) c.bracket.ensures

pub in_brackets-returns : goal.in_brackets-returns
unfolding bracketed
in_brackets-returns t c =
    let p = c.in_ok-operators.ensures in
    (group p.0, one_more _ _ _ _ _ p.1 c.in_ok-push.ensures.items, search rules)

pub product_turn-returns-in_ok-push-in-Some-Sign-Over : goal.product_turn-returns-in_ok-push-in-Some-Sign-Over
unfolding product_turn
product_turn-returns-in_ok-push-in-Some-Sign-Over t c left =
    (divide left c.in_ok-divisor-in-Some-Sign-Over.divisor, λ before is. one_more _ _ _ _ _ is c.in_ok-push-in-Some-Sign-Over.ensures.items, search rules)

pub product_turn-returns-in_ok-push-in-Some-Sign-Modulo : goal.product_turn-returns-in_ok-push-in-Some-Sign-Modulo
unfolding product_turn
product_turn-returns-in_ok-push-in-Some-Sign-Modulo t c left =
    (remainder left c.in_ok-divisor-in-Some-Sign-Modulo.divisor, λ before is. one_more _ _ _ _ _ is c.in_ok-push-in-Some-Sign-Modulo.ensures.items, search rules)

pub product_turn-returns-in_ok-push-in_default : goal.product_turn-returns-in_ok-push-in_default
unfolding product_turn
product_turn-returns-in_ok-push-in_default t c left =
    let q = c.in_ok-operators-in_default.ensures in
    let count : c.in_ok-right-in_default.right ≡ size q.0 = omega (arith, c.in_ok-right-in_default.ensures, ap length c.deref.ensures.value, c.len-left.ensures, right_size q.0 _ _ q.1) in
    let put = c.in_ok-push-in_default.ensures.items ∙ ap (λ k. c.factor.new.nodes.items ++ node.Multiply k ∷ []) count in
    (multiply left q.0, λ before is. one_more before _ _ _ _ (both before _ _ _ _ is q.1) put, search rules)

pub sum_turn-returns : goal.sum_turn-returns
unfolding sum_turn
sum_turn-returns t c left =
    let q = c.in_ok-operators.ensures in
    let count : c.in_ok-right.right ≡ size q.0 = omega (arith, c.in_ok-right.ensures, ap length c.deref.ensures.value, c.len-left.ensures, right_size q.0 _ _ q.1) in
    let put = c.in_ok-push.ensures.items in
    elim c.if-is_difference.branch [
      | sum_turn-then-is_difference w ↦ (subtract left q.0, λ before is. one_more before _ _ _ _ (both before _ _ _ _ is q.1) (put ∙ ap (λ n. c.product.new.nodes.items ++ n ∷ []) (w.node-is ∙ ap node.Subtract count)), search rules)
      | sum_turn-else-is_difference w ↦ (add left q.0, λ before is. one_more before _ _ _ _ (both before _ _ _ _ is q.1) (put ∙ ap (λ n. c.product.new.nodes.items ++ n ∷ []) (w.node-is ∙ ap node.Add count)), search rules)
    ]

pub products-loop-parser-init : goal.products-loop-parser-init
products-loop-parser-init t c left = (left, λ before is. is, refl)

pub products-returns-in_err-operators : goal.products-returns-in_err-operators
products-returns-in_err-operators t c left =
    let inv = c.loop-parser.invariant left in
    let p = err_from_is_err_and c.from_residual.result c.from_residual.ensures.1 in
    rw (p.1, p.2) (until_fails choice.Product is_product_sign (product_turn (bracketed c.args.room)) (product_progress c.args.room (bracketed c.args.room) (bracketed_ok c.args.room)) (counted inv.0 c.loop-parser.operators) (state c.loop-parser.parser) (until choice.Product is_product_sign (product_turn (bracketed c.args.room)) (counted left c.args.so_far) (state c.args.parser.now)) c.in_err-operators.field-0.0 (state c.product_turn.new.parser).tried (sym c.is_product_sign.ensures ∙ c.loop-parser-test.true) (c.in_err-operators.ensures inv.0) inv.2)

pub products-loop-parser-smaller : goal.products-loop-parser-smaller
products-loop-parser-smaller t c =
    let p = c.in_ok-operators.ensures (number 0) in
    product_progress c.args.room (bracketed c.args.room) (bracketed_ok c.args.room) (counted (number 0) c.loop-parser.operators) (state c.loop-parser.parser) (counted p.0 c.in_ok-operators.operators) (state c.product_turn.new.parser) (sym c.is_product_sign.ensures ∙ c.loop-parser-test.true) p.2

pub products-loop-parser-preserved : goal.products-loop-parser-preserved
products-loop-parser-preserved t c left =
    let inv = c.loop-parser.invariant left in
    let p = c.in_ok-operators.ensures inv.0 in
    (p.0, λ before is. p.1 before (inv.1 before is), until_goes choice.Product is_product_sign (product_turn (bracketed c.args.room)) (product_progress c.args.room (bracketed c.args.room) (bracketed_ok c.args.room)) (counted inv.0 c.loop-parser.operators) (state c.loop-parser.parser) (until choice.Product is_product_sign (product_turn (bracketed c.args.room)) (counted left c.args.so_far) (state c.args.parser.now)) (counted p.0 c.in_ok-operators.operators) (state c.product_turn.new.parser) (sym c.is_product_sign.ensures ∙ c.loop-parser-test.true) p.2 inv.2)

pub products-returns : goal.products-returns
products-returns t c left =
    let inv = c.loop-parser.invariant left in
    (inv.0, inv.1, rw c.miss.ensures (until_ends choice.Product is_product_sign (product_turn (bracketed c.args.room)) (product_progress c.args.room (bracketed c.args.room) (bracketed_ok c.args.room)) (counted inv.0 c.loop-parser.operators) (state c.loop-parser.parser) (until choice.Product is_product_sign (product_turn (bracketed c.args.room)) (counted left c.args.so_far) (state c.args.parser.now)) (sym c.is_product_sign.ensures ∙ c.loop-parser-test.false) inv.2))

pub sums-loop-parser-init : goal.sums-loop-parser-init
sums-loop-parser-init t c left = (left, λ before is. is, refl)

pub sums-returns-in_err-operators : goal.sums-returns-in_err-operators
sums-returns-in_err-operators t c left =
    let inv = c.loop-parser.invariant left in
    let p = err_from_is_err_and c.from_residual.result c.from_residual.ensures.1 in
    rw (p.1, p.2) (until_fails choice.Sum is_sum_sign (sum_turn (bracketed c.args.room)) (sum_progress c.args.room (bracketed c.args.room) (bracketed_ok c.args.room)) (counted inv.0 c.loop-parser.operators) (state c.loop-parser.parser) (until choice.Sum is_sum_sign (sum_turn (bracketed c.args.room)) (counted left c.args.so_far) (state c.args.parser.now)) c.in_err-operators.field-0.0 (state c.sum_turn.new.parser).tried (sym c.is_sum_sign.ensures ∙ c.loop-parser-test.true) (c.in_err-operators.ensures inv.0) inv.2)

pub sums-loop-parser-smaller : goal.sums-loop-parser-smaller
sums-loop-parser-smaller t c =
    let p = c.in_ok-operators.ensures (number 0) in
    sum_progress c.args.room (bracketed c.args.room) (bracketed_ok c.args.room) (counted (number 0) c.loop-parser.operators) (state c.loop-parser.parser) (counted p.0 c.in_ok-operators.operators) (state c.sum_turn.new.parser) (sym c.is_sum_sign.ensures ∙ c.loop-parser-test.true) p.2

pub sums-loop-parser-preserved : goal.sums-loop-parser-preserved
sums-loop-parser-preserved t c left =
    let inv = c.loop-parser.invariant left in
    let p = c.in_ok-operators.ensures inv.0 in
    (p.0, λ before is. p.1 before (inv.1 before is), until_goes choice.Sum is_sum_sign (sum_turn (bracketed c.args.room)) (sum_progress c.args.room (bracketed c.args.room) (bracketed_ok c.args.room)) (counted inv.0 c.loop-parser.operators) (state c.loop-parser.parser) (until choice.Sum is_sum_sign (sum_turn (bracketed c.args.room)) (counted left c.args.so_far) (state c.args.parser.now)) (counted p.0 c.in_ok-operators.operators) (state c.sum_turn.new.parser) (sym c.is_sum_sign.ensures ∙ c.loop-parser-test.true) p.2 inv.2)

pub sums-returns : goal.sums-returns
sums-returns t c left =
    let inv = c.loop-parser.invariant left in
    (inv.0, inv.1, rw c.miss.ensures (until_ends choice.Sum is_sum_sign (sum_turn (bracketed c.args.room)) (sum_progress c.args.room (bracketed c.args.room) (bracketed_ok c.args.room)) (counted inv.0 c.loop-parser.operators) (state c.loop-parser.parser) (until choice.Sum is_sum_sign (sum_turn (bracketed c.args.room)) (counted left c.args.so_far) (state c.args.parser.now)) (sym c.is_sum_sign.ensures ∙ c.loop-parser-test.false) inv.2))
