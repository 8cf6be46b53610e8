use Rattle.std.proofs.Common.{◌≡◌, false, Option, subst, sym}
use Rattle.camac_lang.specs.declared.expression.Node.{Node}
use Rattle.camac_text_cursor.specs.Readers.{is_number}
use Rattle.camac_text_cursor.specs.Reading.{State, kind_of}
use Rattle.camac_text_cursor.specs.Parser.{state}
use Rattle.camac_text_phrases.specs.Views.{Leaf, Tries}
use Rattle.camac_text_phrases.proofs.expressions.leaf.Goals as goal

pub other_leaf-requires : goal.other_leaf-requires
other_leaf-requires c =
    let tried = subst (λ (o : Option Node). Tries 0 0 (state c.args.parser.now) o c.quick_leaf.new.parser) c.in-None.is (c.in_ok-node.ensures 0 0) in
    subst (λ (s : State). is_number (kind_of s.rest) ≡ false) (sym tried.0) tried.1

pub returns-in-Some : goal.returns-in-Some
returns-in-Some c room so_far = subst (λ (o : Option Node). Tries room so_far (state c.args.parser.now) o c.quick_leaf.new.parser) c.in-Some.is (c.in_ok-node.ensures room so_far)

pub returns-in-None : goal.returns-in-None
returns-in-None c room so_far =
    let tried = subst (λ (o : Option Node). Tries room so_far (state c.args.parser.now) o c.quick_leaf.new.parser) c.in-None.is (c.in_ok-node.ensures room so_far) in
    subst (λ (s : State). Leaf room so_far s c.other_leaf.result c.other_leaf.new.parser) tried.0 (c.other_leaf.ensures room so_far)
