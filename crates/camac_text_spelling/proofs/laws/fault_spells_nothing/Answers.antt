use Rattle.camac_text_spelling.proofs.Read as read
use Rattle.camac_text_spelling.proofs.laws.fault_spells_nothing.Goals as goal

pub returns : goal.returns
returns c = read.fault_spells_nothing
