use Rattle.std.proofs.Common.{◌≡◌, length}
use Rattle.camac_text_cursor.specs.Reading.{while_next}
use Rattle.camac_text.specs.Declarations.{is_token, declaration_at, declarations_at}
use Rattle.camac_text_cursor.specs.Parser.{state}
use Rattle.camac_text.proofs.declarations.declarations.Given as goal

abbrev pub invariant-loop-parser : goal.invariant-loop-parser
invariant-loop-parser l = while_next is_token (λ _. declaration_at) tt (state l.parser) ≡ declarations_at (state l.fn.parser)

abbrev pub decreases-loop-parser : goal.decreases-loop-parser
decreases-loop-parser l = length (state l.parser).rest
