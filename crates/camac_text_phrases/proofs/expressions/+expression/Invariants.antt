use Rattle.std.proofs.Common.{◌≡◌, ◌+◌, ◌*◌, List, ◌++◌, length}
use Rattle.camac_lang.specs.Tree.{Expression}
use Rattle.camac_lang.specs.declared.expression.Node.{Node}
use Rattle.camac_lang.specs.Nodes.{nodes_of}
use Rattle.camac_text_cursor.specs.declared.choice.Choice.TheVariants as choice
use Rattle.camac_text_cursor.specs.Reading.{until}
use Rattle.camac_text_phrases.specs.Expressions.{counted, is_product_sign, is_sum_sign, product_turn, sum_turn, bracketed}
use Rattle.camac_text_cursor.specs.Parser.{state}
use Rattle.camac_text_phrases.proofs.expressions.+expression.Given as goal

abbrev pub decreases-bracketed : goal.decreases-bracketed
decreases-bracketed l = 11 * l.room

abbrev pub decreases-bracket : goal.decreases-bracket
decreases-bracket l = 11 * l.room + 1

abbrev pub decreases-factor_from : goal.decreases-factor_from
decreases-factor_from l = 11 * l.room + 2

abbrev pub decreases-factor : goal.decreases-factor
decreases-factor l = 11 * l.room + 3

abbrev pub decreases-product_turn : goal.decreases-product_turn
decreases-product_turn l = 11 * l.room + 4

abbrev pub decreases-products : goal.decreases-products
decreases-products l = 11 * l.room + 5

abbrev pub decreases-product : goal.decreases-product
decreases-product l = 11 * l.room + 6

abbrev pub decreases-sum_turn : goal.decreases-sum_turn
decreases-sum_turn l = 11 * l.room + 7

abbrev pub decreases-sums : goal.decreases-sums
decreases-sums l = 11 * l.room + 8

abbrev pub decreases-sum : goal.decreases-sum
decreases-sum l = 11 * l.room + 9

abbrev pub decreases-in_brackets : goal.decreases-in_brackets
decreases-in_brackets l = 11 * l.room + 10

abbrev pub invariant-products-loop-parser : goal.invariant-products-loop-parser
invariant-products-loop-parser l =
    (left : Expression)
    → (now : Expression)
    × ((before : List Node) → l.fn.nodes.items ≡ before ++ nodes_of left → l.nodes.items ≡ before ++ nodes_of now)
    × (until choice.Product is_product_sign (product_turn (bracketed l.room)) (counted now l.operators) (state l.parser) ≡ until choice.Product is_product_sign (product_turn (bracketed l.fn.room)) (counted left l.fn.so_far) (state l.fn.parser))

abbrev pub decreases-products-loop-parser : goal.decreases-products-loop-parser
decreases-products-loop-parser l = length (state l.parser).rest

abbrev pub invariant-sums-loop-parser : goal.invariant-sums-loop-parser
invariant-sums-loop-parser l =
    (left : Expression)
    → (now : Expression)
    × ((before : List Node) → l.fn.nodes.items ≡ before ++ nodes_of left → l.nodes.items ≡ before ++ nodes_of now)
    × (until choice.Sum is_sum_sign (sum_turn (bracketed l.room)) (counted now l.operators) (state l.parser) ≡ until choice.Sum is_sum_sign (sum_turn (bracketed l.fn.room)) (counted left l.fn.so_far) (state l.fn.parser))

abbrev pub decreases-sums-loop-parser : goal.decreases-sums-loop-parser
decreases-sums-loop-parser l = length (state l.parser).rest
