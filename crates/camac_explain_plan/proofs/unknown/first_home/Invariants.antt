use Rattle.std.proofs.Common.{◌≡◌, drop}
use Rattle.camac_explain_plan.specs.Told.{home_of}
use Rattle.camac_explain_plan.proofs.unknown.first_home.Given as goal

abbrev pub invariant-tables : goal.invariant-tables
invariant-tables l = home_of l.key (drop l.home-index l.tables) ≡ home_of l.key l.tables
