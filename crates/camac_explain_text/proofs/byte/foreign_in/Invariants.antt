use Rattle.std.proofs.Common.{◌≡◌, length}
use Rattle.camac_explain_text.specs.Byte.{foreign_in}
use Rattle.camac_explain_text_place.specs.Before.{standing_of}
use Rattle.camac_explain_text.proofs.byte.foreign_in.Given as goal

abbrev pub invariant-loop-rest : goal.invariant-loop-rest
invariant-loop-rest l = foreign_in (standing_of l.before) l.rest ≡ foreign_in (standing_of l.before) l.tokens

abbrev pub decreases-loop-rest : goal.decreases-loop-rest
decreases-loop-rest l = length l.rest
