-- The lines of what a run tells: its pieces, its end, and what a live run asks a driver for.
use Rattle.std.specs.Prelude.{ℕ, List, [], ◌++◌, codes, decimal, Option, Some, None, option_map, unwrap_or, slice_get}
use Rattle.std.specs.List.{flat_map}
use Rattle.camac_lines.specs.Cycles.{cycle_text, cycle_start}
use Rattle.camac_lines.specs.Digits.{hex_word}
use Rattle.camac_lang.specs.Tree.{Script}
use Rattle.camac_model.specs.Behaviour.{Piece, demanded, cycled, lock_taken, lock_released, event_left, Stop, short, overrun, wrong, more}
use Rattle.camac_lines.specs.Verdict.{lam_name}
use Rattle.camac_func.specs.declared.data.DataMove.{DataMove}
use Rattle.camac_func.specs.declared.data.DataMove.TheVariants as moved
use Rattle.camac_branch.specs.Address.{address}
use Rattle.camac_run.specs.declared.progress.Wanted.{Wanted}
use Rattle.camac_run.specs.declared.progress.Wanted.TheVariants as wanted

-- a service has the name of its LAM
abbrev pub service_name : Script → ℕ → List ℕ
service_name script i = unwrap_or (option_map (λ v. lam_name script.lams v.lam) (slice_get script.services i)) []

abbrev pub called_text : Script → Option ℕ → List ℕ
called_text script None = codes "-"
called_text script (Some i) = service_name script i

-- `demand PATTERN SERVICE`, with `-` where no service is called
abbrev pub demand_text : Script → ℕ → Option ℕ → List ℕ
demand_text script pattern service =
    codes "demand " ++ hex_word pattern ++ codes " " ++ called_text script service ++ codes "\n"

-- `lock CRATE wait WAIT`
abbrev pub lock_text : ℕ → ℕ → List ℕ
lock_text crate_no wait = codes "lock " ++ decimal crate_no ++ codes " wait " ++ decimal wait ++ codes "\n"

-- `unlock CRATE`
abbrev pub unlock_text : ℕ → List ℕ
unlock_text crate_no = codes "unlock " ++ decimal crate_no ++ codes "\n"

-- `abandoned service SERVICE`, of one that was left
abbrev pub abandoned_text : Script → Option ℕ → List ℕ
abandoned_text script service = codes "abandoned service " ++ called_text script service ++ codes "\n"

-- the line of a piece of a run; an event has none, it goes to the event file
abbrev pub item_text : Script → Piece → List ℕ
item_text script (demanded pattern service) = demand_text script pattern service
item_text script (cycled at f moves r wait) = cycle_text at f moves r wait
item_text script (lock_taken crate_no wait) = lock_text crate_no wait
item_text script (lock_released crate_no) = unlock_text crate_no
item_text script (event_left e) = []

-- the lines of crates that were let in again, one after another
abbrev pub unlock_texts : List ℕ → List ℕ
unlock_texts cs = flat_map unlock_text cs

-- `events COUNT`
abbrev pub events_text : ℕ → List ℕ
events_text count = codes "events " ++ decimal count ++ codes "\n"

-- the last line of a run with so many events: it ended, it was short of answers, or a wait was not permitted
abbrev pub end_text : Option Stop → ℕ → List ℕ
end_text None count = codes "ended " ++ events_text count
end_text (Some short) count = codes "short " ++ events_text count
end_text (Some (overrun crate_no wait)) count =
    codes "overrun " ++ decimal crate_no ++ codes " wait " ++ decimal wait ++ codes " " ++ events_text count
end_text (Some wrong) count = []
end_text (Some more) count = []

-- a word is to come in, this one is to go out, or none moves
abbrev pub asked_text : DataMove → List ℕ
asked_text moved.In = codes "in"
asked_text (moved.Out word) = codes "out " ++ hex_word word
asked_text moved.None = codes "none"

-- `demand`, `cycle CRATE STATION SUB_ADDRESS FUNCTION MOVE` or `lock CRATE`
abbrev pub request_text : Wanted → List ℕ
request_text wanted.Demand = codes "demand\n"
request_text (wanted.Cycle k) = cycle_start (address k.c k.n k.a) k.f ++ asked_text k.mv ++ codes "\n"
request_text (wanted.Lock crate_no) = codes "lock " ++ decimal crate_no ++ codes "\n"

-- what a driver is told of a piece of a run: its request, or that a lock is released; an event goes to the event file alone
abbrev pub live_text : Piece → List ℕ
live_text (demanded pattern service) = request_text wanted.Demand
live_text (cycled at f moves r wait) = cycle_start at f ++ asked_text moves ++ codes "\n"
live_text (lock_taken crate_no wait) = request_text (wanted.Lock crate_no)
live_text (lock_released crate_no) = unlock_text crate_no
live_text (event_left e) = []
