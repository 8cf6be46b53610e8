-- What a log tells of a run.
use Rattle.std.specs.Prelude.{◌≡◌, ℕ, List, [], ◌∷◌, map, Option, Some, None}
use Rattle.camac_event.specs.Spelling.{Entry}
use Rattle.camac_event.specs.declared.event.Version.TheVariants.{Two}
use Rattle.camac_run.specs.Ends.{stop_in}
use Rattle.camac_model.specs.Behaviour.{Behaviour, items, stop_of}
use Rattle.camac_machine.specs.MachineState.{piece_of, Left}
use Rattle.camac_machine.specs.declared.item.Item.{Item}
use Rattle.camac_machine.specs.declared.item.Item.TheVariants as item
use Rattle.camac_run.specs.Headline.{entries_in}
use Rattle.camac_run.specs.declared.log.Log.{Log}

-- each item and each event in its place, and how the run ended
pub record IsLogOf (log : Log) (run : Behaviour (Unit {0})) : Type 0 where
  pub same_items : map piece_of log.items ≡ items run
  pub same_events : log.events ≡ record { version = Two; events = entries_in run }
  pub same_end : stop_in log.end ≡ stop_of run

-- the event that an answer left, where it left one, with these words
abbrev pub left_entries : Option Left → List ℕ → List Entry
left_entries None words = []
left_entries (Some e) words = record { gl = e.1; usage = Some e.2; words = words } ∷ []

-- the crates into which auxiliary controllers were let again
abbrev pub unlock_items : List ℕ → List Item
unlock_items crates = map item.Unlock crates
