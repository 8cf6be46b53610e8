use Rattle.camac_text_spelling.proofs.Read as read
use Rattle.camac_text_spelling.proofs.laws.refused_is_not_spelled.Goals as goal

pub returns : goal.returns
returns c = read.refused_is_not_spelled
