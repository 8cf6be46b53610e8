use Rattle.std.proofs.Common.{◌≡◌, ap, false, Option, [], ◌∷◌, refl, subst, sym, ◌∙◌}
use Rattle.camac_lang.specs.Nodes.{expression_in}
use Rattle.camac_lang.specs.View.{expression_of}
use Rattle.camac_lang.specs.declared.expression.Node.{Node}
use Rattle.camac_text_cursor.specs.declared.choice.Choice.TheVariants as choice
use Rattle.camac_text_cursor.specs.Readers.{is_number}
use Rattle.camac_text_cursor.specs.Reading.{State, kind_of, missed}
use Rattle.camac_text_cursor.specs.Parser.{Gives, state}
use Rattle.camac_text_cursor.proofs.Loops.{until_ends}
use Rattle.camac_text_phrases.specs.Expressions.{bracketed, counted, expression_at, is_product_sign, is_sum_sign, product_turn, sum_turn}
use Rattle.camac_text_phrases.specs.Views.{Tries}
use Rattle.camac_text_phrases.proofs.BracketsRead.{product_progress, sum_progress, bracketed_ok}
use Rattle.camac_text_phrases.proofs.ExpressionsRead.{is_read}
use Rattle.camac_text_phrases.proofs.expressions.expression.Goals as goal

pub long_expression-requires : goal.long_expression-requires
long_expression-requires c = (state c.args.parser.now, subst (λ (o : Option Node). Tries c.args.room 0 (state c.args.parser.now) o c.quick_leaf.new.parser) c.in-Some.is (c.in_ok-node.ensures c.args.room 0))

pub returns-then-is_product_sign : goal.returns-then-is_product_sign
returns-then-is_product_sign c = c.long_expression.ensures (state c.args.parser.now) (subst (λ (o : Option Node). Tries c.args.room 0 (state c.args.parser.now) o c.quick_leaf.new.parser) c.in-Some.is (c.in_ok-node.ensures c.args.room 0))

pub of_node-requires : goal.of_node-requires
of_node-requires c =
    let leaf = subst (λ (o : Option Node). Tries c.args.room 0 (state c.args.parser.now) o c.quick_leaf.new.parser) c.in-Some.is (c.in_ok-node.ensures c.args.room 0) in
    leaf.0

pub other_expression-requires : goal.other_expression-requires
other_expression-requires c =
    let tried = subst (λ (o : Option Node). Tries 0 0 (state c.args.parser.now) o c.quick_leaf.new.parser) c.in-None.is (c.in_ok-node.ensures 0 0) in
    subst (λ (s : State). is_number (kind_of s.rest) ≡ false) (sym tried.0) tried.1

-- no operator follows
pub returns-else-is_sum_sign : goal.returns-else-is_sum_sign
returns-else-is_sum_sign c =
    let leaf = subst (λ (o : Option Node). Tries c.args.room 0 (state c.args.parser.now) o c.quick_leaf.new.parser) c.in-Some.is (c.in_ok-node.ensures c.args.room 0) in
    let room = c.args.room in
    let x = counted (expression_in (c.in-Some.node ∷ [])) 0 in
    let s = state c.quick_leaf.new.parser in
    let t = missed choice.Product s in
    let no_factor = until_ends choice.Product is_product_sign (product_turn (bracketed room)) (product_progress room (bracketed room) (bracketed_ok room)) x s _ (sym c.is_product_sign.ensures ∙ c.if-is_product_sign.false) refl in
    let no_term = until_ends choice.Sum is_sum_sign (sum_turn (bracketed room)) (sum_progress room (bracketed room) (bracketed_ok room)) x t _ (sym c.is_sum_sign.ensures ∙ c.if-is_sum_sign.false) refl in
    let last : state c.miss-in-Some.new.self ≡ missed choice.Sum t = c.miss-in-Some.ensures ∙ ap (missed choice.Sum) c.miss.ensures in
    rw (c.of_node.ensures, last) (is_read room (state c.args.parser.now) x x s t leaf.1 no_factor x (missed choice.Sum t) no_term)

pub returns-in-None : goal.returns-in-None
returns-in-None c =
    let tried = subst (λ (o : Option Node). Tries 0 0 (state c.args.parser.now) o c.quick_leaf.new.parser) c.in-None.is (c.in_ok-node.ensures 0 0) in
    subst (λ (s : State). Gives expression_of c.other_expression.result c.other_expression.new.parser (expression_at c.args.room s)) tried.0 c.other_expression.ensures
