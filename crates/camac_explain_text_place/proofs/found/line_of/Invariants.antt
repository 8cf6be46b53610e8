use Rattle.std.proofs.Common.{◌≡◌, length}
use Rattle.camac_explain_text_place.specs.Place.{line_from}
use Rattle.camac_explain_text_place.proofs.found.line_of.Given as goal

abbrev pub invariant-loop-rest : goal.invariant-loop-rest
invariant-loop-rest l = line_from l.line l.rest ≡ line_from l.text l.text

abbrev pub decreases-loop-rest : goal.decreases-loop-rest
decreases-loop-rest l = length l.rest
