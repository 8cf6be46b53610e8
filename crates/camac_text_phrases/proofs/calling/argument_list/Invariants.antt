use Rattle.std.proofs.Common.{◌≡◌, ◌-◌, ◌≤◌, length, map, []}
use Rattle.camac_lang.specs.View.{expression_of}
use Rattle.camac_text_cursor.specs.Parser.{state}
use Rattle.camac_text_phrases.specs.Arguments.{more_arguments}
use Rattle.camac_text_phrases.proofs.calling.argument_list.Given as goal

abbrev pub invariant-loop-parser : goal.invariant-loop-parser
invariant-loop-parser l = (more_arguments l.count l.room (l.count - length l.arguments.items) (map expression_of l.arguments.items) (state l.parser) ≡ more_arguments l.fn.count l.fn.room l.fn.count [] (state l.fn.parser)) × (length l.arguments.items ≤ l.count)

abbrev pub decreases-loop-parser : goal.decreases-loop-parser
decreases-loop-parser l = l.count - length l.arguments.items
