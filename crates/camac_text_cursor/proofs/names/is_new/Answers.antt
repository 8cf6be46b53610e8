use Rattle.std.proofs.Common.{ap, ◌∙◌}
use Rattle.std.specs.Prelude.{is_none}
use Rattle.camac_text_cursor.proofs.Searches.{is_new_none}
use Rattle.camac_text_cursor.proofs.names.is_new.Goals as goal

pub returns-in-Some : goal.returns-in-Some
returns-in-Some c = ap is_none (c.in-Some.ensures) ∙ is_new_none c.args.name.now c.args.names.now

pub returns-in-None : goal.returns-in-None
returns-in-None c = ap is_none (c.in-None.ensures) ∙ is_new_none c.args.name.now c.args.names.now
