use Rattle.std.proofs.Common.{sym, ◌∙◌}
use Rattle.camac_text_cursor.proofs.Searches.{procedure_place_map}
use Rattle.camac_text_cursor.proofs.names.procedure_place.Goals as goal

pub returns : goal.returns
returns c = c.procedure_position.ensures ∙ sym (procedure_place_map c.args.name.now c.args.procedures.now)
