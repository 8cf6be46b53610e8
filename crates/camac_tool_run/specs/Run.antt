-- What `camac run` and `camac drive` take from their readers, write and answer. They differ in how a run is told.
use Rattle.std.specs.Prelude.{◌≡◌, ◌⊎◌, ℕ, Bool, true, false, ◌||◌, List, [], Option, Result, Ok, Err}
use Rattle.camac_lang.specs.Tree.{Script}
use Rattle.camac_branch.specs.Plan.{Layout}
use Rattle.camac_answer.specs.Answers.{left_in}
use Rattle.camac_lines.specs.Refusal.{refusal_text}
use Rattle.camac_lines.specs.declared.refusal.Refusal.{Refusal}
use Rattle.camac_run.specs.declared.progress.End.TheVariants as end
use Rattle.camac_explain.specs.Explanation.{refusal_of}
use Rattle.camac_engines.specs.Engine.{is_write_fault}
use Rattle.camac_engines.specs.Reading.{is_read_fault}
use Rattle.camac_engines.specs.Found.{HasJudged, IsTooLong}
use Rattle.camac_engines.specs.declared.fault.ToolFault.{ToolFault}
use Rattle.camac_engines.specs.declared.fault.ToolFault.TheVariants as fault
use Rattle.camac_engines.specs.declared.judging.Judged.{Judged}
use Rattle.camac_engines.specs.declared.judging.Judged.TheVariants as judged
use Rattle.camac_engines.specs.declared.outcome.Outcome.{Outcome}
use Rattle.camac_engines.specs.declared.outcome.Outcome.TheVariants.{Good, Refused}
use Rattle.camac_play.specs.Play.{PlaysOver}
use Rattle.camac_play.specs.Told.{most_answers}
use Rattle.camac_play.specs.Sent.{Outputs, Sends, SendsPrefix, to_listing}
use Rattle.camac_play.specs.declared.ending.Ending.{Ending}
use Rattle.camac_play.specs.declared.ending.Ending.TheVariants as how
use Rattle.camac_play.specs.declared.fault.PlayFault.TheVariants as play
use Rattle.camac_play.specs.declared.telling.Telling.{Telling}
use Rattle.camac_tool_run.specs.Headline.{KeepsHeadline}
use Rattle.camac_tool_run.specs.World.{World}

-- a wait that is not permitted and a fault of the answers refuse, the end of the answers does not
abbrev pub outcome_of : Ending → Outcome
outcome_of (how.End end.Ended) = Good
outcome_of (how.End end.Short) = Good
outcome_of (how.End (end.Overrun o)) = Refused
outcome_of (how.Refused f) = Refused

-- the line of a refusal, and nothing else
abbrev pub Refuses : Refusal → Outputs → Outputs → Result Outcome ToolFault → Type 0
Refuses r a b (Ok outcome) = (outcome ≡ Refused) × Sends a b (to_listing (refusal_text r))
Refuses r a b (Err fault.Write) = SendsPrefix a b (to_listing (refusal_text r))
Refuses r a b (Err _) = ⊥

-- A checked script is run on answers whose text is u before it and v after it, with writers that may hold what they are given, or not.
abbrev pub RunsScript : Bool → Telling → Layout → Script → (u v : Option (List ℕ)) → Outputs → Outputs → Result Outcome ToolFault → Type 0
RunsScript gathers telling plan script u v a b (Ok outcome) = (e : Ending) × (outcome ≡ outcome_of e) × PlaysOver gathers telling plan script (left_in (most_answers telling) 0 u) v a b (Ok e)
RunsScript gathers telling plan script u v a b (Err fault.Write) = PlaysOver gathers telling plan script (left_in (most_answers telling) 0 u) v a b (Err play.Write)
RunsScript gathers telling plan script u v a b (Err fault.Read) = PlaysOver gathers telling plan script (left_in (most_answers telling) 0 u) v a b (Err play.Read)
RunsScript gathers telling plan script u v a b (Err _) = ⊥

-- of a refused one no answer is read
abbrev pub RunsJudged : Bool → Telling → Judged → (u v : Option (List ℕ)) → Outputs → Outputs → Result Outcome ToolFault → Type 0
RunsJudged gathers telling (judged.Accepted c) u v a b r = RunsScript gathers telling c.plan c.script u v a b r
RunsJudged gathers telling (judged.Refused why) u v a b r = (v ≡ u) × Refuses (refusal_of why) a b r

module _ {P : Type 0} (old new : World P) where
  -- nothing is sent, and no answer read
  abbrev pub StaysQuiet : Type 0
  StaysQuiet = (new.answers ≡ old.answers) × Sends old.outputs new.outputs []

  -- the plan and then the script were read and judged, and what was judged is run
  abbrev pub RunsFound : Telling → Result Outcome ToolFault → Type 0
  RunsFound telling r =
      (j : Judged) × HasJudged old.left old.plan new.plan old.script new.script j × RunsJudged old.gathers telling j old.answers new.answers old.outputs new.outputs r

  -- a fault may come before that
  abbrev pub RunsOn : Telling → Result Outcome ToolFault → Type 0
  RunsOn telling (Ok outcome) = RunsFound telling (Ok outcome)
  RunsOn telling (Err fault.Write) = RunsFound telling (Err fault.Write)
  RunsOn telling (Err fault.Read) = StaysQuiet ⊎ RunsFound telling (Err fault.Read)
  RunsOn telling (Err fault.Memory) = StaysQuiet
  RunsOn telling (Err fault.TooLong) = IsTooLong old.left old.plan new.plan old.script new.script × StaysQuiet

  -- what an engine does
  pub record Runs (telling : Telling) (r : Result Outcome ToolFault) : Type 0 where
    -- all that was read and written, by how it ended
    pub runs : RunsOn telling r
    -- the headline, of the script and of the bytes of the event file
    pub headline : KeepsHeadline old new telling r
    -- a write fault is one of a writer, and a read fault one of a reader
    pub out_failed : new.writers_failed ≡ (old.writers_failed || is_write_fault r)
    pub in_failed : (new.texts_failed || new.answers_failed) ≡ ((old.texts_failed || old.answers_failed) || is_read_fault r)
    -- where the reader of the plan or of the script failed
    pub unread : old.texts_failed ≡ false → new.texts_failed ≡ true → StaysQuiet
    -- where that of the answers failed
    pub begun : old.answers_failed ≡ false → new.answers_failed ≡ true → RunsFound telling r
