use Rattle.std.proofs.Common.{length}
use Rattle.camac_response.proofs.bodies.+push_bodies.Given as goal

abbrev pub decreases-push_bodies : goal.decreases-push_bodies
decreases-push_bodies g l = length l.items.now
