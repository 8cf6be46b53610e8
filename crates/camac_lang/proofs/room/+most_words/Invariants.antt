use Rattle.std.proofs.Common.{length}
use Rattle.camac_lang.proofs.room.+most_words.Given as goal

abbrev pub decreases-most_words : goal.decreases-most_words
decreases-most_words l = length l.services.now
