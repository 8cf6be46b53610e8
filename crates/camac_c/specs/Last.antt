-- What is told of what a run did last: nothing at its beginning, and nothing of a wait that was not permitted.
use Rattle.std.specs.Prelude.{ℕ, List, [], ◌++◌}
use Rattle.camac_lang.specs.Tree.{Script}
use Rattle.camac_report.specs.Items.{item_text, unlock_texts}
use Rattle.camac_run.specs.declared.progress.Progress.{Progress}
use Rattle.camac_run.specs.declared.progress.Progress.TheVariants.{Went, Overrun}
use Rattle.camac_run.specs.declared.progress.Used.{Used}
use Rattle.camac_machine.specs.MachineState.{piece_of}
use Rattle.camac_play.specs.Told.{event_record}
use Rattle.camac_c.specs.declared.last.Last.{Last}
use Rattle.camac_c.specs.declared.last.Deed.{Deed}
use Rattle.camac_c.specs.declared.last.Deed.TheVariants.{Nothing, Answer, Pause}

-- the lines of the listing, as a run writes them
abbrev pub lines_after : Script → Deed → Used → List ℕ
lines_after script Nothing used = []
lines_after script Answer used = item_text script (piece_of used.item) ++ unlock_texts used.unlocks.items
lines_after script Pause used = unlock_texts used.unlocks.items

abbrev pub last_lines : Script → Last → List ℕ
last_lines script last = lines_after script last.deed last.used

-- the record of the event file, as a run writes it
abbrev pub record_after : Deed → Used → (words : List ℕ) → List ℕ
record_after Nothing used words = []
record_after Answer used words = event_record used.event words
record_after Pause used words = event_record used.event words

abbrev pub last_record : Last → (words : List ℕ) → List ℕ
last_record last words = record_after last.deed last.used words

-- what is kept of an answer; after a wait that was not permitted nothing is told
abbrev pub kept_of : Progress → Last → Last
kept_of (Went item unlocks event) last = record { deed = Answer; used = record { item = item; unlocks = unlocks; event = event } }
kept_of (Overrun o) last = record last { deed = Nothing }
