-- How a job ends, by what its engine says of its readers and writers.
use Rattle.std.proofs.Common.{◌≡◌, ◌⊎◌, ℕ, Bool, true, List, [], Option, None, Some, refl, sym, ap, subst, ◌∙◌, inl, inr, append-nil}
use Rattle.std.specs.Prelude.{false, IfOk, Result, Ok, Err}
use Rattle.std.specs.Io.KnownBytes.{Keeps, append_known}
use Rattle.std.proofs.KnownBytes.{Keeps-refl}
use Rattle.std.proofs.Math.Bool.{or-false}
use Rattle.clap.specs.Words.{Text}
use Rattle.camac_play.proofs.Sending.{sends_nothing}
use Rattle.camac_play.specs.RunIo.{RunState, sent_in}
use Rattle.camac_play.specs.Sent.{Outputs}
use Rattle.camac_play.specs.declared.telling.Telling.{Telling}
use Rattle.camac_play.specs.declared.telling.Telling.TheVariants.{Listing, Requests}
use Rattle.camac_response_times.specs.Setting.{ReadsSettings}
use Rattle.camac_response_times.specs.declared.setting.Settings.{Settings}
use Rattle.camac_engines.specs.Engine.{Answers}
use Rattle.camac_engines.specs.Found.{HasJudged, IsTooLong}
use Rattle.camac_engines.specs.Response.{RespondsOn}
use Rattle.camac_engines.specs.declared.fault.ToolFault.{ToolFault}
use Rattle.camac_engines.specs.declared.fault.ToolFault.TheVariants.{Read, Write, Memory, TooLong}
use Rattle.camac_engines.specs.declared.outcome.Outcome.{Outcome}
use Rattle.camac_engines.specs.declared.judging.Judged.{Judged}
use Rattle.camac_engines.specs.declared.response.Responded.{Responded}
use Rattle.camac_tool_run.proofs.Runs.{ends_before}
use Rattle.camac_tool_host.specs.Apart.{IsApartFrom, Words}
use Rattle.camac_tool.specs.Devices.{HasBeginning, IsKept, RunsOnDevices}
use Rattle.camac_tool_host.specs.Streams.{device_of, given_to, held_in}
use Rattle.camac_tool.specs.Input.{HaveLong, IsJudgedIn}
use Rattle.camac_tool.specs.Jobs.{DoesRun, Drives, HandsOn, IsGot, IsSaved, IsSettled, OrWriteFault, Responds, RunTells, RunsTold, TellsText, gathers}
use Rattle.camac_tool_run.specs.Run.{Runs, RunsFound, RunsJudged, StaysQuiet}
use Rattle.camac_tool.specs.Status.{EndsStopped}
use Rattle.camac_tool_run.specs.World.{World}
use Rattle.camac_tool_host.specs.declared.gathered.Gathered.{Gathered}
use Rattle.camac_tool_host.specs.declared.host.FileId.{FileId}
use Rattle.camac_tool.specs.declared.program.Done.{Done}
use Rattle.camac_tool.specs.declared.program.Done.TheVariants.{Answered}

-- what an engine answers, of what was read: it is that of the words
module _ {T : Type 0} (WasRead Is : T → Type 0) (Says : T → Outcome → List ℕ → Type 0) (IsTooLong IsLong : Type 0) (o p : Option (List ℕ)) (is : (found : T) → WasRead found → Is found) (long : IsTooLong → IsLong) where
  abbrev Told : Outcome → List ℕ → Type 0
  Told told text = (found : T) × Is found × Says found told text

  pub stopped : (e : ToolFault) (r : Result Done ToolFault) → r ≡ Err e → Answers WasRead Says IsTooLong o p (Err e) → TellsText IsLong Told o p r
  stopped Write r same h = rw same (h.2.0, h.2.1, (h.0, is h.0 h.1, h.2.2), h.2.3)
  stopped TooLong r same h = rw same (long h.0, h.1)
  stopped Read r same h = rw same h
  stopped Memory r same h = rw same h

-- of `response`, by whatever the engine says of what it judged and read
module _ (Judges : Judged → Type 0) (IsLong : Type 0) (s : Settings) (o p : Option (List ℕ)) where
  abbrev pub RespondsBy : Result Responded ToolFault → Type 0
  RespondsBy (Ok responded) = (j : Judged) × Judges j × RespondsOn s j o p (Ok responded)
  RespondsBy (Err Write) = (j : Judged) × Judges j × RespondsOn s j o p (Err Write)
  RespondsBy (Err TooLong) = IsLong × Keeps o p
  RespondsBy (Err _) = Keeps o p

  pub response_stopped : (e : ToolFault) (r : Result Done ToolFault) → r ≡ Err e → RespondsBy (Err e) → (bytes_of : Text → Option (List ℕ)) (plan script : Text) (every within : List Text)
      → ReadsSettings every within (Ok s) → ((j : Judged) → Judges j → IsJudgedIn bytes_of plan script j) → (IsLong → HaveLong bytes_of plan script) → Responds bytes_of plan script every within o p r
  response_stopped Write r is h bytes_of plan script every within read finds long = rw is (h.2.0, h.2.1, (s, read, (h.0, finds h.0 h.1, h.2.2)), h.2.3)
  response_stopped TooLong r is h bytes_of plan script every within read finds long = rw is (long h.0, h.1)
  response_stopped Read r is h bytes_of plan script every within read finds long = rw is h
  response_stopped Memory r is h bytes_of plan script every within read finds long = rw is h

-- a device without what is held for it
pub nothing_held : (o : Option (List ℕ)) → append_known o [] ≡ o
nothing_held None = refl
nothing_held (Some xs) = ap Some (append-nil xs)

pub beginning : (given got : Option (List ℕ)) → Keeps given got → HasBeginning given got
beginning given got kept = ([], subst (Keeps given) (sym (nothing_held got)) kept)

is_got : (given got : Option (List ℕ)) (done : Result Done ToolFault) → Keeps given got → IsGot given got done
is_got given got (Ok done) kept = kept
is_got given got (Err fault) kept = beginning given got kept

-- a writer that gathers, before anything is told
pub started : {W : Type 0} (contents : W → Option (List ℕ)) (g : Gathered W) (w : W) → device_of g ≡ w → held_in g ≡ [] → given_to contents g ≡ contents w
started contents g w inner empty =
    ap (append_known (contents (device_of g))) empty ∙ nothing_held (contents (device_of g)) ∙ ap contents inner

-- what was told and is held still is lost
module _ (Replied : (o given : Option (List ℕ)) → Result Done ToolFault → Type 0) (o o' given got : Option (List ℕ)) (held : List ℕ) (same : o' ≡ o) (kept : Keeps given (append_known got held)) where
  pub not_flushed : (done : Result Done ToolFault) → Replied o' given done → HandsOn Replied o got (Err Write)
  not_flushed done replied = (given, inr (refl, (done, subst (λ (x : Option (List ℕ)). Replied x given done) same replied)), (held, kept))

  pub flushed : held ≡ [] → (done : Done) → Replied o' given (Ok done) → HandsOn Replied o got (Ok done)
  flushed empty done replied = (given, subst (λ (x : Option (List ℕ)). Replied x given (Ok done)) same replied, subst (Keeps given) (ap (append_known got) empty ∙ nothing_held got) kept)

  pub faulted : (fault : ToolFault) → Replied o' given (Err fault) → HandsOn Replied o got (Err fault)
  faulted fault replied = (given, inl (subst (λ (x : Option (List ℕ)). Replied x given (Err fault)) same replied), (held, kept))

-- before a run nothing is told
module _ (bytes_of : Text → Option (List ℕ)) (finds : Text → Option FileId → Type 0) (w : Words) (a : Outputs) where
  pub none_run : (t : Telling) (fault : ToolFault) → ((fault ≡ Read) ⊎ (fault ≡ Write)) → RunsTold bytes_of finds w t a a (Err fault)
  none_run t fault (inl is) = rw is (inl (sends_nothing a))
  none_run t fault (inr is) = rw is (inl (sends_nothing a))

  pub not_begun : (saves : Option (List ℕ) → Bool) (fault : ToolFault) → ((fault ≡ Read) ⊎ (fault ≡ Write)) → DoesRun bytes_of finds w saves a a (Err fault)
  not_begun saves fault is = (a, inl (none_run Listing fault is), beginning a.listing a.listing (Keeps-refl a.listing), beginning a.events a.events (Keeps-refl a.events), tt)

abbrev done_of : Result Outcome ToolFault → Result Done ToolFault
done_of (Ok outcome) = Ok (Answered outcome)
done_of (Err fault) = Err fault

settles : (Ends : Result Done ToolFault → Type 0) (ran : Result Outcome ToolFault) (done : Result Done ToolFault) → IsSettled ran done → Ends (done_of ran) → OrWriteFault Ends done
settles Ends (Ok outcome) done (inl is) ends = rw is ends
settles Ends (Ok outcome) done (inr is) ends = rw is (inr (refl, (Ok (Answered outcome), ends)))
settles Ends (Err fault) done is ends = rw is (inl ends)

-- a run in a world, and one on devices, of the words' inputs, where EVENTS held e
module _ (bytes_of : Text → Option (List ℕ)) (finds : Text → Option FileId → Type 0) (e begun : Option (List ℕ)) (was : e ≡ begun) (words : Words) (saves : Option (List ℕ) → Bool) (apart : IsApartFrom finds words)
    {I : Type 0} (w : World I) (held : w.outputs.events ≡ e) (answered : Keeps (bytes_of words.answers) w.answers)
    (judged : (w' : World I) (j : Judged) → HasJudged w.left w.plan w'.plan w.script w'.script j → IsJudgedIn bytes_of words.plan words.script j)
    (long : (w' : World I) → IsTooLong w.left w.plan w'.plan w.script w'.script → HaveLong bytes_of words.plan words.script) where
  abbrev from : Option (List ℕ) → Outputs
  from x = record { listing = w.outputs.listing; events = x }

  saved_as : (b : Outputs) (done : Result Done ToolFault) → IfOk done (λ _. IsKept begun saves b.events) → IsSaved bytes_of finds words saves (from e) b done
  saved_as b (Ok done) saved = subst (λ x. IsKept x saves b.events) (sym was) saved
  saved_as b (Err fault) saved = tt

  module _ (t : Telling) (same : w.gathers ≡ gathers t) where
    abbrev RunIsTold : (b : Outputs) → Result Done ToolFault → Type 0
    RunIsTold = RunsTold bytes_of finds words t w.outputs

    found_told : (w' : World I) (r : Result Outcome ToolFault) → RunsFound w w' t r → RunTells bytes_of finds words t w.outputs w'.outputs r
    found_told w' r found = (
      apart,
      (
        found.0,
        judged w' found.0 found.1,
        (w.answers, w'.answers, answered, subst (λ (b : Bool). RunsJudged b t found.0 w.answers w'.answers w.outputs w'.outputs r) same found.2),
      ),
    )

    told : (w' : World I) (r : Result Outcome ToolFault) → Runs w w' t r → RunIsTold w'.outputs (done_of r)
    told w' (Ok outcome) h =
        (found_told w' (Ok outcome) h.runs, (h.headline.0, judged w' h.headline.0 h.headline.1, (w.answers, answered, h.headline.2)))
    told w' (Err Write) h = inr (found_told w' (Err Write) h.runs)
    told w' (Err Memory) h = inl h.runs.1
    told w' (Err TooLong) h = (long w' h.runs.0, h.runs.1.1)
    told w' (Err Read) h = by h.runs
      where
        by : (StaysQuiet w w' ⊎ RunsFound w w' t (Err Read)) → RunIsTold w'.outputs (Err Read)
        by (inl still) = inl still.1
        by (inr found) = inr (found_told w' (Err Read) found)

    run_told : (w' : World I) (r : Result Outcome ToolFault) → Runs w w' t r → RunsTold bytes_of finds words t (from e) w'.outputs (done_of r)
    run_told w' r h = subst (λ x. RunsTold bytes_of finds words t (from x) w'.outputs (done_of r)) held (told w' r h)

  pub run_settled : w.gathers ≡ false → (w' : World I) (r : Result Outcome ToolFault) (done : Result Done ToolFault) → Runs w w' Requests r → IsSettled r done
      → IfOk done (λ _. IsKept begun saves w'.outputs.events) → Drives bytes_of finds words saves (from e) w'.outputs done
  run_settled same w' r done h settled saved =
      (settles (RunsTold bytes_of finds words Requests (from e) w'.outputs) r done settled (run_told Requests same w' r h), saved_as w'.outputs done saved)

  pub run_handed : w.gathers ≡ true → (after : RunState → World I) (b : Outputs) (r : Result Outcome ToolFault) (done : Result Done ToolFault) → ((s : RunState) → (after s).outputs ≡ sent_in s)
      → RunsOnDevices w after b.listing b.events r → IsSettled r done → IfOk done (λ _. IsKept begun saves b.events) → DoesRun bytes_of finds words saves (from e) b done
  run_handed same after b r done is (ran, given, runs, handed) settled saved = by handed.2
    where
      Told : Result Done ToolFault → Type 0
      Told = RunsTold bytes_of finds words Listing (from e) (sent_in given)

      got : Told (done_of ran)
      got = subst (λ x. RunsTold bytes_of finds words Listing (from e) x (done_of ran)) (is given) (run_told Listing same (after given) ran runs)

      by : (((r ≡ ran) × Keeps given.listed b.listing × Keeps given.recorded b.events) ⊎ (r ≡ Err Write)) → DoesRun bytes_of finds words saves (from e) b done
      by (inl all) =
          (sent_in given, settles Told ran done (subst (λ x. IsSettled x done) all.0 settled) got, is_got given.listed b.listing done all.1, is_got given.recorded b.events done all.2, saved_as b done saved)
      by (inr failed) = rw (subst (λ x. IsSettled x done) failed settled) (sent_in given, inr (refl, (done_of ran, got)), handed.0, handed.1, tt)

-- memory is out before a run
pub no_run : {I : Type 0} (w : World I) (after : RunState → World I) (s : RunState) → after s ≡ w → RunsOnDevices w after s.listed s.recorded (Err Memory)
no_run w after s is = (Err Memory, s, runs, (beginning _ _ (Keeps-refl _), beginning _ _ (Keeps-refl _), inl (refl, Keeps-refl _, Keeps-refl _)))
  where
    runs : Runs w (after s) Listing (Err Memory)
    runs = rw is (ends_before w w Listing (refl, sends_nothing _) (Err Memory) Memory refl tt refl refl (sym (or-false w.texts_failed)))

-- of memory and of what cannot be read the status is 3, whichever call failed last
pub memory_ends : (s : ℕ) → EndsStopped Memory s → s ≡ 3
memory_ends s e = e.1
