use Rattle.std.proofs.Common.{length}
use Rattle.camac_response_times.proofs.setting.+told_for.Given as goal

abbrev pub decreases-told_for : goal.decreases-told_for
decreases-told_for l = length l.settings.now
