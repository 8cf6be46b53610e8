use Rattle.std.proofs.Common.{◌≡◌, ◌+◌, ◌≤◌, length}
use Rattle.camac_text_cursor.specs.declared.choice.Choice.TheVariants as choice
use Rattle.camac_text_cursor.specs.Reading.{until}
use Rattle.camac_text_cursor.specs.Readers.{is_name}
use Rattle.camac_text.specs.Declarations.{one_more_variable}
use Rattle.camac_text_cursor.specs.Parser.{state}
use Rattle.camac_text.proofs.declarations.more_variables.Given as goal

abbrev pub invariant-loop-parser : goal.invariant-loop-parser
invariant-loop-parser l = (until choice.Name is_name one_more_variable l.count (state l.parser) ≡ until choice.Name is_name one_more_variable 1 (state l.fn.parser)) × (l.count + (state l.fn.parser).variable_count ≤ 1 + (state l.parser).variable_count)

abbrev pub decreases-loop-parser : goal.decreases-loop-parser
decreases-loop-parser l = length (state l.parser).rest
