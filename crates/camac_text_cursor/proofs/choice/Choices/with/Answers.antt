use Rattle.camac_text_cursor.proofs.Sets.{held_with}
use Rattle.camac_text_cursor.proofs.choice.Choices.with.Goals as goal

pub returns : goal.returns
returns c = rw c.place.ensures (held_with c.args.self c.args.choice)
