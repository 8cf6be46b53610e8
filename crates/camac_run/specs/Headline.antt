-- The headline: what is promised of every run of an accepted script, and of its event file.
use Rattle.std.specs.Prelude.{◌≡◌, ℕ, ◌<◌, ◌≤◌, ◌^◌, List, length, map, Some, Ok, false}
use Rattle.camac_lang.specs.Tree.{Script}
use Rattle.camac_branch.specs.Branch.{Answer}
use Rattle.camac_branch.specs.Plan.{Layout}
use Rattle.camac_event.specs.Spelling.{Entry, spelling}
use Rattle.camac_event.specs.Reading.{file_at}
use Rattle.camac_event.specs.declared.event.Version.TheVariants.{Two}
use Rattle.camac_model.specs.Behaviour.{Behaviour, Event, pieces, events}
use Rattle.camac_model.specs.Fine.{Bounds, AreFineServices}
use Rattle.camac_model.specs.Headline.{AreSafe, WithinHeadings, Locked, no_lock, first_moment, nothing, right_watch, words_watch, cost_watch, short_watch, locks_watch}
use Rattle.camac_model.specs.Moments.{Holds}
use Rattle.camac_model.specs.Run.{the_run}

-- an event as an event file of version Two has it
abbrev pub entry_of : Event → Entry
entry_of e = record { gl = e.bit; usage = Some (record { cycles = e.cycles; missed = e.missed }); words = e.words }

-- the events of a run
abbrev pub entries_in : Behaviour (Unit {0}) → List Entry
entries_in run = map entry_of (events run)

abbrev pub run_events : Layout → Script → List Answer → List Entry
run_events plan script answers = entries_in (the_run plan script answers)

-- and their one spelling
abbrev pub event_file : Layout → Script → List Answer → List ℕ
event_file plan script answers = spelling Two (run_events plan script answers)

abbrev pub NoneLocked : Locked → Unit {0} → Type 0
NoneLocked l u = (c : ℕ) → l c ≡ false

-- For these answers
pub record RunHeadline (plan : Layout) (script : Script) (ks : List Bounds) (answers : List Answer) : Type 0 where
  -- the run sends only commands that are declared, moves data only as the function code says and within the register's width,
  pub safe_cycles : AreSafe plan (pieces (the_run plan script answers))
  -- keeps each event within its declared words,
  pub words_within : Holds (words_watch ks) (first_moment answers) (the_run plan script answers)
  -- and every service within its annotated dataway cycles,
  pub cost_within : Holds (cost_watch ks) (first_moment answers) (the_run plan script answers)
  -- where the bounds keep to the headings;
  pub within_headings : WithinHeadings plan script ks
  -- at each moment of a service, as of all that it counts, its steps are within its bounds;
  pub services : AreFineServices plan script ks
  -- every service ends, while answers last and auxiliaries keep their waits:
  pub right_and_ending : Holds right_watch nothing (the_run plan script answers)
  pub short_of_answers : Holds (short_watch ks) (first_moment answers) (the_run plan script answers)
  -- no crate stays locked where a service ends, and where the run ends
  pub locks_released : Holds (locks_watch NoneLocked) no_lock (the_run plan script answers)

-- And with these bytes of an event file
pub record Headline (plan : Layout) (script : Script) (ks : List Bounds) (answers : List Answer) (file : List ℕ) : Type 0 where
  pub run : RunHeadline plan script ks answers
  -- the file decodes to exactly the events of the run, whose spelling it is
  pub decodes : file_at file ≡ Ok (Two, run_events plan script answers)
  pub is_spelled : file ≡ event_file plan script answers

-- the law of the run: of each list of answers
abbrev pub RunsAlways : Layout → Script → List Bounds → Type 0
RunsAlways plan script ks = (answers : List Answer) → RunHeadline plan script ks answers

-- and with its event file: of each list of answers on which the run leaves events that can be numbered
abbrev pub RunsByHeadline : Layout → Script → List Bounds → Type 0
RunsByHeadline plan script ks =
    (answers : List Answer) → length (run_events plan script answers) < 2 ^ 32
    → Headline plan script ks answers (event_file plan script answers)

-- a run leaves no more events than it has answers
abbrev pub LeavesFewEvents : Layout → Script → Type 0
LeavesFewEvents plan script = (answers : List Answer) → length (run_events plan script answers) ≤ length answers
