use Rattle.std.proofs.Common.{sym, ap, ◌∙◌, length}
use Rattle.camac_event.proofs.InPlace.{length-words_in}
use Rattle.camac_event.proofs.file.EventWords.len.Goals as goal

pub returns : goal.returns
returns c = sym (ap length (sym c.self.view_is) ∙ length-words_in c.self.inside.count c.self.inside.bytes.now)
