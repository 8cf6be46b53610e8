-- What a job tells its output, of the inputs that its words name, and how it ends.
use Rattle.std.specs.Prelude.{◌≡◌, ◌⊎◌, ℕ, Bool, true, false, List, [], codes, map, Option, Some, None, Result, Ok, Err}
use Rattle.std.specs.Io.KnownBytes.{Keeps}
use Rattle.clap.specs.Words.{Text}
use Rattle.camac_event.specs.Reading.{file_at}
use Rattle.camac_explain_rule.specs.Advice.{IsRuleOf}
use Rattle.camac_explain_rule.specs.declared.rule.Rule.{Rule}
use Rattle.camac_play.specs.Sent.{Outputs, Sends}
use Rattle.camac_play.specs.declared.telling.Telling.{Telling}
use Rattle.camac_play.specs.declared.telling.Telling.TheVariants.{Listing, Requests}
use Rattle.camac_response_times.specs.Setting.{ReadsSettings}
use Rattle.camac_response_times.specs.declared.setting.Misuse.{Misuse}
use Rattle.camac_response_times.specs.declared.setting.Settings.{Settings}
use Rattle.camac_engines.specs.Ask.{TellsFound, TellsPlan}
use Rattle.camac_engines.specs.Engine.{IsWritten}
use Rattle.camac_engines.specs.Found.{Found}
use Rattle.camac_engines.specs.Plan.{PlanFound}
use Rattle.camac_engines.specs.Report.{Reports, report_events}
use Rattle.camac_engines.specs.Response.{NamesNone, TellsResponse}
use Rattle.camac_engines.specs.Explain.{TellsRule}
use Rattle.camac_engines.specs.declared.ask.Ask.{Ask}
use Rattle.camac_engines.specs.declared.ask.Ask.TheVariants as ask
use Rattle.camac_engines.specs.declared.ask.PlanAsk.{PlanAsk}
use Rattle.camac_engines.specs.declared.ask.PlanAsk.TheVariants as plan_ask
use Rattle.camac_engines.specs.declared.fault.ToolFault.{ToolFault}
use Rattle.camac_engines.specs.declared.fault.ToolFault.TheVariants.{TooLong, Write}
use Rattle.camac_engines.specs.declared.judging.Judged.{Judged}
use Rattle.camac_engines.specs.declared.outcome.Outcome.{Outcome}
use Rattle.camac_engines.specs.declared.reading.TheConstants.{EVENTS_LIMIT}
use Rattle.camac_tool_words.specs.declared.words.Job.{Job}
use Rattle.camac_tool_words.specs.declared.words.Job.TheVariants as job
use Rattle.camac_tool_host.specs.Apart.{IsApartFrom, Words, is_sample}
use Rattle.camac_tool.specs.Devices.{HasBeginning, IsKept}
use Rattle.camac_tool_run.specs.Headline.{JudgedKeeps}
use Rattle.camac_tool.specs.Input.{HaveLong, IsFoundIn, IsJudgedIn, IsLong, IsLongPlan, IsPlanOf, IsTextOf}
use Rattle.camac_tool_run.specs.Run.{RunsJudged}
use Rattle.camac_tool_host.specs.declared.host.Earlier.TheVariants.{Emptied, Refused}
use Rattle.camac_tool_host.specs.declared.host.FileId.{FileId}
use Rattle.camac_tool.specs.declared.program.Done.{Done}
use Rattle.camac_tool.specs.declared.program.Done.TheVariants.{Answered, Misused, NoCode}
use Rattle.camac_tool.specs.declared.program.Question.{Question}
use Rattle.camac_tool.specs.declared.program.Question.TheVariants as question

-- What an output had is o, and what it has is p. Such a text came to it: all of it at its outcome, and after a write fault a prefix of it. After another
-- fault nothing did. No input is too long unless this is so.
abbrev pub TellsText : (IsTooLong : Type 0) → (Says : Outcome → List ℕ → Type 0) → (o p : Option (List ℕ)) → Result Done ToolFault → Type 0
TellsText IsTooLong Says o p (Ok (Answered outcome)) = IsWritten Says o p (Ok outcome)
TellsText IsTooLong Says o p (Ok _) = ⊥
TellsText IsTooLong Says o p (Err Write) = IsWritten Says o p (Err Write)
TellsText IsTooLong Says o p (Err TooLong) = IsTooLong × Keeps o p
TellsText IsTooLong Says o p (Err _) = Keeps o p

-- the same, or words are wrong
abbrev pub TellsUnless : (AreWrong : Misuse → Type 0) → (IsTooLong : Type 0) → (Says : Outcome → List ℕ → Type 0) → (o p : Option (List ℕ)) → Result Done ToolFault → Type 0
TellsUnless AreWrong IsTooLong Says o p (Ok (Misused misuse)) = AreWrong misuse × Keeps o p
TellsUnless AreWrong IsTooLong Says o p r = TellsText IsTooLong Says o p r

-- of a rule by its code, and of a word that is none
abbrev pub ExplainsRule : Text → (o p : Option (List ℕ)) → Result Done ToolFault → Type 0
ExplainsRule code o p (Ok (NoCode word)) = IsRuleOf code None × Keeps o p
ExplainsRule code o p r = (rule : Rule) × IsRuleOf code (Some rule) × TellsText ⊥ (TellsRule rule) o p r

abbrev pub run_words : (plan script answers events : Text) → Words
run_words plan script answers events = record { plan = plan; script = script; answers = answers; events = events; earlier = Emptied }

-- A live run has its answers from standard input, and empties no EVENTS that holds bytes.
abbrev pub drive_words : (plan script events : Text) → Words
drive_words plan script events = record { plan = plan; script = script; answers = codes "@in"; events = events; earlier = Refused }

-- the streams of `run` may hold what they are given
abbrev pub gathers : Telling → Bool
gathers Listing = true
gathers Requests = false

-- a run, and then the event file is on the disk, or that is a write fault
abbrev pub IsSettled : Result Outcome ToolFault → Result Done ToolFault → Type 0
IsSettled (Ok outcome) done = (done ≡ Ok (Answered outcome)) ⊎ (done ≡ Err Write)
IsSettled (Err fault) done = done ≡ Err fault

-- it ends so, or a write fault comes after that
abbrev pub OrWriteFault : (Result Done ToolFault → Type 0) → Result Done ToolFault → Type 0
OrWriteFault Ends (Ok done) = Ends (Ok done)
OrWriteFault Ends (Err fault) = Ends (Err fault) ⊎ ((fault ≡ Write) × ((ended : Result Done ToolFault) × Ends ended))

-- the device of an output that gathers has got all that was given, and after a fault its beginning
abbrev pub IsGot : (given got : Option (List ℕ)) → Result Done ToolFault → Type 0
IsGot given got (Ok done) = Keeps given got
IsGot given got (Err fault) = HasBeginning given got

abbrev pub HandsOn : (Gives : (o given : Option (List ℕ)) → Result Done ToolFault → Type 0) → (o p : Option (List ℕ)) → Result Done ToolFault → Type 0
HandsOn Gives o p r = (given : Option (List ℕ)) × OrWriteFault (Gives o given) r × IsGot given p r

-- an output alone is told, and EVENTS holds what it held
abbrev pub ToOutput : (Says : (o p : Option (List ℕ)) → Result Done ToolFault → Type 0) → (a b : Outputs) → Result Done ToolFault → Type 0
ToOutput Says a b r = Says a.listing b.listing r × (b.events ≡ a.events)

-- of each word the bytes of the input that it names
module _ (bytes_of : Text → Option (List ℕ)) where
  -- of a plan; of a plan and a script; of an event file
  abbrev pub PlanTells : (plan : Text) → PlanAsk → (o p : Option (List ℕ)) → Result Done ToolFault → Type 0
  PlanTells plan a = TellsText (IsLongPlan (is_sample plan) (bytes_of plan)) (λ outcome text. (says : PlanFound) × IsPlanOf bytes_of plan says × TellsPlan a says outcome text)

  abbrev pub ScriptTells : (plan script : Text) → Ask → (o p : Option (List ℕ)) → Result Done ToolFault → Type 0
  ScriptTells plan script a = TellsText (HaveLong bytes_of plan script) (λ outcome text. (found : Found) × IsFoundIn bytes_of plan script found × TellsFound a found outcome text)

  abbrev pub EventsTell : (file : Text) → (o p : Option (List ℕ)) → Result Done ToolFault → Type 0
  EventsTell file =
      TellsText (IsLong EVENTS_LIMIT (bytes_of file)) (λ outcome text. (bytes : List ℕ) × IsTextOf EVENTS_LIMIT (bytes_of file) bytes × Reports (report_events (file_at bytes)) outcome text)

  -- of a plan and a script, at the settings of the words
  abbrev pub ResponseTells : (plan script : Text) → (every within : List Text) → Outcome → List ℕ → Type 0
  ResponseTells plan script every within outcome text =
      (s : Settings) × ReadsSettings every within (Ok s) × ((j : Judged) × IsJudgedIn bytes_of plan script j × TellsResponse s j outcome text)

  -- the words are wrong: by themselves, or since the script has no such service
  abbrev pub AreWrong : (plan script : Text) → (every within : List Text) → Misuse → Type 0
  AreWrong plan script every within misuse =
      ReadsSettings every within (Err misuse) ⊎ ((s : Settings) × ReadsSettings every within (Ok s) × ((j : Judged) × IsJudgedIn bytes_of plan script j × NamesNone s j misuse))

  abbrev pub Responds : (plan script : Text) → (every within : List Text) → (o p : Option (List ℕ)) → Result Done ToolFault → Type 0
  Responds plan script every within = TellsUnless (AreWrong plan script every within) (HaveLong bytes_of plan script) (ResponseTells plan script every within)

  abbrev pub Replies : Question → (o p : Option (List ℕ)) → Result Done ToolFault → Type 0
  Replies (question.Plan a plan) = PlanTells plan.now a
  Replies (question.Script a plan script) = ScriptTells plan.now script.now a
  Replies (question.Known line column turns plan script) = ScriptTells plan.now script.now (ask.ExplainAt line column turns.items)
  Replies (question.Response plan script every within) = Responds plan.now script.now (map (λ w. w.now) every.items) (map (λ w. w.now) within.items)

  -- the system finds files by their names
  module _ (finds : Text → Option FileId → Type 0) (w : Words) where
    module _ (telling : Telling) (a b : Outputs) where
      -- What was found of a plan and a script is run on these answers. EVENTS is none of the inputs.
      abbrev pub RunTells : Result Outcome ToolFault → Type 0
      RunTells r =
          IsApartFrom finds w × ((j : Judged) × IsJudgedIn bytes_of w.plan w.script j
          × ((u v : Option (List ℕ)) × Keeps (bytes_of w.answers) u × RunsJudged (gathers telling) telling j u v a b r))

      -- the headline, of that event file
      abbrev pub HasHeadline : Outcome → Type 0
      HasHeadline outcome =
          (j : Judged) × IsJudgedIn bytes_of w.plan w.script j × ((u : Option (List ℕ)) × Keeps (bytes_of w.answers) u × JudgedKeeps telling j u a.events b.events (Ok outcome))

      abbrev pub RunsTold : Result Done ToolFault → Type 0
      RunsTold (Ok (Answered outcome)) = RunTells (Ok outcome) × HasHeadline outcome
      RunsTold (Ok _) = ⊥
      RunsTold (Err TooLong) = HaveLong bytes_of w.plan w.script × Sends a b []
      RunsTold (Err fault) = Sends a b [] ⊎ RunTells (Err fault)

    module _ (saves : Option (List ℕ) → Bool) (a b : Outputs) where
      -- at the end without a fault EVENTS is on the disk
      abbrev pub IsSaved : Result Done ToolFault → Type 0
      IsSaved (Ok done) = IsKept a.events saves b.events
      IsSaved (Err fault) = Unit {0}

      -- its output and EVENTS have got what they were given
      abbrev pub DoesRun : Result Done ToolFault → Type 0
      DoesRun r = (given : Outputs) × OrWriteFault (RunsTold Listing a given) r × IsGot given.listing b.listing r × IsGot given.events b.events r × IsSaved r

      abbrev pub Drives : Result Done ToolFault → Type 0
      Drives r = OrWriteFault (RunsTold Requests a b) r × IsSaved r

  -- what is on the disk is known by the words of a run
  abbrev pub DoesJob : (finds : Text → Option FileId → Type 0) → (saved : Words → Option (List ℕ) → Bool) → Job → (a b : Outputs) → Result Done ToolFault → Type 0
  DoesJob finds saved (job.Plan plan) = ToOutput (HandsOn (PlanTells plan.now plan_ask.Lines))
  DoesJob finds saved (job.Commands plan) = ToOutput (HandsOn (PlanTells plan.now plan_ask.Commands))
  DoesJob finds saved (job.ExplainPlan plan) = ToOutput (HandsOn (PlanTells plan.now plan_ask.Explain))
  DoesJob finds saved (job.ExplainRule code) = ToOutput (ExplainsRule code.now)
  DoesJob finds saved (job.Check plan script) = ToOutput (HandsOn (ScriptTells plan.now script.now ask.Check))
  DoesJob finds saved (job.Explain plan script) = ToOutput (HandsOn (ScriptTells plan.now script.now ask.Explain))
  DoesJob finds saved (job.ExplainBounds plan script) = ToOutput (HandsOn (ScriptTells plan.now script.now ask.ExplainBounds))
  DoesJob finds saved (job.ExplainAt line column turns plan script) = ToOutput (HandsOn (ScriptTells plan.now script.now (ask.ExplainAt line column turns.items)))
  DoesJob finds saved (job.Bounds plan script) = ToOutput (HandsOn (ScriptTells plan.now script.now ask.Bounds))
  DoesJob finds saved (job.Costs plan script) = ToOutput (HandsOn (ScriptTells plan.now script.now ask.Costs))
  DoesJob finds saved (job.Tell plan script) = ToOutput (HandsOn (ScriptTells plan.now script.now ask.Tell))
  DoesJob finds saved (job.Response plan script every within) =
      ToOutput (HandsOn (Responds plan.now script.now (map (λ w. w.now) every.items) (map (λ w. w.now) within.items)))
  DoesJob finds saved (job.Events file) = ToOutput (HandsOn (EventsTell file.now))
  DoesJob finds saved (job.Run plan script answers events) =
      let w = run_words plan.now script.now answers.now events.now in DoesRun finds w (saved w)
  DoesJob finds saved (job.Drive plan script events) =
      let w = drive_words plan.now script.now events.now in Drives finds w (saved w)
