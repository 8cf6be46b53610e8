use Rattle.std.proofs.Common.{sym, ◌∙◌}
use Rattle.camac_text_cursor.proofs.Searches.{lam_place_map}
use Rattle.camac_text_cursor.proofs.names.lam_place.Goals as goal

pub returns : goal.returns
returns c = c.lam_position.ensures ∙ sym (lam_place_map c.args.name.now c.args.lams.now)
