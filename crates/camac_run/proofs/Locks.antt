-- No crate is locked where a service of a run ends, nor where the run ends.
use Rattle.std.proofs.Common.{List, length, false, refl, arith}
use Rattle.camac_lang.specs.Tree.{Script}
use Rattle.camac_branch.specs.Branch.{Answer, start}
use Rattle.camac_branch.specs.Plan.{Layout}
use Rattle.camac_model.specs.Headline.{locked_after, NoneHeld}
use Rattle.camac_model.specs.Moments.{Meets, AnyStop}
use Rattle.camac_model.specs.Run.{the_run}
use Rattle.camac_model.proofs.Headline.{NoneTold, told_service}
use Rattle.camac_model.proofs.Rounds.{rounds_meet}
use Rattle.camac_run.specs.Headline.{NoneLocked}

pub none_stays : (plan : Layout) (script : Script) (answers : List Answer) → Meets locked_after NoneHeld AnyStop NoneLocked (λ c. false) (the_run plan script answers)
none_stays plan script answers =
    rounds_meet locked_after NoneHeld AnyStop plan script 65535 NoneTold (λ l a rest p none. (tt, none)) (told_service plan script) (length answers) (λ c. false) start answers (omega arith) (λ c. refl)
