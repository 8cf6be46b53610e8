use Rattle.std.proofs.Common.{ℕ, ◌<◌}
use Rattle.camac_response_times.specs.Found.{response_at}
use Rattle.camac_response_times.specs.Setting.{told_for}
use Rattle.camac_response.specs.Checked.{service_name, IsKept}
use Rattle.camac_response.proofs.kept.are_kept.Given as goal

abbrev pub invariant-services : goal.invariant-services
invariant-services l = (i : ℕ) → i < l.number → IsKept (told_for l.within (service_name l.checked.script i)) (response_at l.responses i)
