use Rattle.std.proofs.Common.{◌≡◌, drop}
use Rattle.camac_explain_plan.specs.Told.{near_key}
use Rattle.camac_explain_plan.proofs.unknown.near_key.Given as goal

abbrev pub invariant-known : goal.invariant-known
invariant-known l = near_key l.key (drop l.near-index l.known) ≡ near_key l.key l.known
