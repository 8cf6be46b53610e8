use Rattle.std.proofs.Common.{◌≡◌, drop}
use Rattle.camac_lang.specs.View.{statements_of}
use Rattle.camac_check_costs.specs.Places.{holds}
use Rattle.camac_check_costs.proofs.place.+holds.Given as goal

abbrev pub invariant-holds-statements : goal.invariant-holds-statements
invariant-holds-statements l = holds l.left (statements_of (drop l.statement-index l.block)) ≡ holds l.left (statements_of l.block)
