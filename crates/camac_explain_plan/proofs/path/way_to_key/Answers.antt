use Rattle.std.proofs.Common.{sym}
use Rattle.camac_explain_plan.proofs.path.way_to_key.Goals as goal

pub returns : goal.returns
returns c = rw (sym c.known_for-own.ensures, sym c.comma-comma.ensures, sym c.text-key.ensures) c.format.ensures.ok
