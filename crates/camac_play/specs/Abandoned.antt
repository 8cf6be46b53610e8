-- What a line `abandon` comes to.
use Rattle.std.specs.Prelude.{◌≡◌, false, ℕ, ◌+◌, ◌<◌, List, ◌∷◌, ◌++◌, length, take, map, Option, Some, None}
use Rattle.std.specs.List.{All}
use Rattle.camac_answer.specs.Lines.{is_abandon, lines}
use Rattle.camac_answer.specs.Reading.{reading}
use Rattle.camac_answer.specs.declared.fault.AnswerFault.{AnswerFault}
use Rattle.camac_answer.specs.declared.given.Given.{Given}
use Rattle.camac_answer.specs.declared.given.Given.TheVariants as gives
use Rattle.camac_branch.specs.Branch.{Answer}
use Rattle.camac_branch.specs.Plan.{Layout}
use Rattle.camac_lang.specs.Tree.{Script}
use Rattle.camac_model.specs.Behaviour.{short, stop_of}
use Rattle.camac_model.specs.Run.{the_run}
use Rattle.camac_play.specs.Told.{counted, none_counted, taken_of, that_count}
use Rattle.camac_play.specs.declared.telling.Telling.{Telling}

-- of a text with no line `abandon` all that it gives are answers
abbrev pub TextsGiveAnswers : Type 0
TextsGiveAnswers =
    (limit : ℕ) (text : List ℕ) → All (λ line. is_abandon line ≡ false) (lines text) → (answers : List Answer) × ((reading limit text).given ≡ map gives.Answer answers)

-- of these a run takes all, and all count
abbrev pub AnswersCount : Type 0
AnswersCount =
    (telling : Telling) (plan : Layout) (script : Script) (answers : List Answer) (fault : Option AnswerFault)
    → (taken_of telling plan script (record { given = map gives.Answer answers; fault = fault }) ≡ record { given = map gives.Answer answers; fault = fault })
    × (counted telling plan script (map gives.Answer answers) ≡ record none_counted { answers = answers })

-- a run is at a graded-L operation after these answers, and in a service after each of those since
pub record IsServing (plan : Layout) (script : Script) (answers since : List Answer) : Type 0 where
  pub before : stop_of (the_run plan script answers) ≡ None
  pub inside : (n : ℕ) → n < length since → stop_of (the_run plan script (answers ++ take (n + 1) since)) ≡ Some short

-- what counts is as if the service that was left, with its demand, had not been
abbrev pub ServicesAreLeft : Type 0
ServicesAreLeft =
    (telling : Telling) (plan : Layout) (script : Script) (answers since : List Answer) (gs : List Given)
    → IsServing plan script answers since
    → that_count telling plan script (map gives.Answer (answers ++ since) ++ gives.Abandon ∷ gs) ≡ that_count telling plan script (map gives.Answer answers ++ gs)
