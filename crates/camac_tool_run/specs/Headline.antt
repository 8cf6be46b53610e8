-- The headline of `camac run` and `camac drive`: of the plan, the script and the answers that are read, and of the event file that is written.
use Rattle.std.specs.Prelude.{◌≡◌, ◌⊎◌, ℕ, List, [], Option, Result, Ok, Err}
use Rattle.std.specs.Io.KnownBytes.{Appends}
use Rattle.camac_answer.specs.Answers.{left_in}
use Rattle.camac_rules.specs.Checked.{CheckedScript}
use Rattle.camac_rules.specs.Accept.{accept}
use Rattle.camac_engines.specs.Found.{HasJudged}
use Rattle.camac_engines.specs.declared.fault.ToolFault.{ToolFault}
use Rattle.camac_engines.specs.declared.fault.ToolFault.TheVariants as fault
use Rattle.camac_engines.specs.declared.judging.Judged.{Judged}
use Rattle.camac_engines.specs.declared.judging.Judged.TheVariants as judged
use Rattle.camac_engines.specs.declared.outcome.Outcome.{Outcome}
use Rattle.camac_play.specs.Told.{most_answers}
use Rattle.camac_play.specs.declared.telling.Telling.{Telling}
use Rattle.camac_play.specs.Headline.{PlaysByHeadline, PlaysByHeadlineSoFar}
use Rattle.camac_tool_run.specs.World.{World}

-- Of a run that came to its end the headline is true, and where an answer could not be read of the run on the answers before it. The answers'
-- text is u, and e and f are what the event file holds before the run and after it.
abbrev pub RunKeeps : Telling → CheckedScript → (u e f : Option (List ℕ)) → Result Outcome ToolFault → Type 0
RunKeeps telling c u e f (Ok outcome) = PlaysByHeadline telling c.plan c.script c.bounds (left_in (most_answers telling) 0 u) e f
RunKeeps telling c u e f (Err fault.Read) = PlaysByHeadlineSoFar telling c.plan c.script c.bounds (left_in (most_answers telling) 0 u) e f
RunKeeps telling c u e f (Err _) = Unit {0}

-- with the bounds that the checker gives; a refused script sends nothing
abbrev pub JudgedKeeps : Telling → Judged → (u e f : Option (List ℕ)) → Result Outcome ToolFault → Type 0
JudgedKeeps telling (judged.Accepted c) u e f r = (accept c.plan c.script ≡ Ok c.bounds) × RunKeeps telling c u e f r
JudgedKeeps telling (judged.Refused why) u e f r = Unit {0}

module _ {P : Type 0} (old new : World P) where
  abbrev pub FoundKeeps : Telling → Result Outcome ToolFault → Type 0
  FoundKeeps telling r =
      (j : Judged) × HasJudged old.left old.plan new.plan old.script new.script j × JudgedKeeps telling j old.answers old.outputs.events new.outputs.events r

  -- Where an input could not be read, that may have been the plan or the script: nothing went to the event file then.
  abbrev pub KeepsHeadline : Telling → Result Outcome ToolFault → Type 0
  KeepsHeadline telling (Ok outcome) = FoundKeeps telling (Ok outcome)
  KeepsHeadline telling (Err fault.Read) = Appends old.outputs.events new.outputs.events [] ⊎ FoundKeeps telling (Err fault.Read)
  KeepsHeadline telling (Err _) = Unit {0}
