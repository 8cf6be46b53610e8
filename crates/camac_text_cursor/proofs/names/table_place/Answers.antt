use Rattle.std.proofs.Common.{sym, ◌∙◌}
use Rattle.camac_text_cursor.proofs.Searches.{table_place_map}
use Rattle.camac_text_cursor.proofs.names.table_place.Goals as goal

pub returns : goal.returns
returns c = c.table_position.ensures ∙ sym (table_place_map c.args.name.now c.args.tables.now)
