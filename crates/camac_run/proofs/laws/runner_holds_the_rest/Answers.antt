use Rattle.camac_run.proofs.Holds.{all_is_told, going_on_holds, resuming_holds, wants_are_wanted}
use Rattle.camac_run.proofs.laws.runner_holds_the_rest.Goals as goal

pub returns : goal.returns
returns c = record { goes_on = going_on_holds; resumes = resuming_holds; told = all_is_told; wanted = wants_are_wanted }
