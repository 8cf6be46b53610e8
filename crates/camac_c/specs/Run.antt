-- What a run on texts answers.
use Rattle.std.specs.Prelude.{◌≡◌, ◌⊎◌, ℕ, false, List, [], Option, Some, Ok}
use Rattle.camac_tool_run.specs.Headline.{JudgedKeeps}
use Rattle.camac_tool_run.specs.Run.{RunsJudged}
use Rattle.camac_engines.specs.declared.judging.Judged.{Judged}
use Rattle.camac_engines.specs.declared.outcome.Outcome.{Outcome}
use Rattle.camac_play.specs.Sent.{Outputs}
use Rattle.camac_play.specs.declared.telling.Telling.TheVariants.{Listing}
use Rattle.camac_c.specs.Filled.{Gives, GivesNothing}
use Rattle.camac_c.specs.Texts.{AreLongTexts, IsFound, code_of}
use Rattle.camac_engines.specs.Plan.{plan_found}

-- what two writers hold that held nothing
abbrev pub holding : (listing file : List ℕ) → Outputs
holding listing file = record { listing = Some listing; events = Some file }

-- What is found is run on the answers, and this listing and this event file are all that it sends. The headline is true of them.
pub record RunSays (plan script answers : List ℕ) (outcome : Outcome) (listing file : List ℕ) : Type 0 where
  pub runs : (j : Judged) × (left : Option (List ℕ)) × IsFound (plan_found plan) script j × RunsJudged false Listing j (Some answers) left (holding [] []) (holding listing file) (Ok outcome)
  pub headline : (j : Judged) × IsFound (plan_found plan) script j × JudgedKeeps Listing j (Some answers) (Some []) (Some file) (Ok outcome)

-- a call on texts with two buffers, as `Answers`
abbrev pub AnswersRun : (plan script answers : List ℕ) → ℕ → (old new : List ℕ) (size : ℕ) (file file' : List ℕ) (file_size : ℕ) → Type 0
AnswersRun plan script answers code old new size file file' file_size =
    ((outcome : Outcome) × (listing events : List ℕ) × RunSays plan script answers outcome listing events × (code ≡ code_of outcome) × Gives listing old new size × Gives events file file' file_size)
    ⊎ ((code ≡ 3) × GivesNothing old new size × GivesNothing file file' file_size)
    ⊎ ((code ≡ 7) × AreLongTexts plan script × GivesNothing old new size × GivesNothing file file' file_size)
