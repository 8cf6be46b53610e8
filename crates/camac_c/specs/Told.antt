-- What C is told, in numbers.
use Rattle.std.specs.Prelude.{ℕ, ◌+◌, ◌-◌, ◌^◌, ◌%◌, ◌<◌, ◌≤◌, min, List, replicate, Bool, true, false, Option, None, Some, not, nat_eq, nat_lt, if◌then◌else◌}
use Rattle.camac_branch.specs.Branch.{Answer}
use Rattle.camac_branch.specs.declared.answer.CycleDone.{CycleDone}
use Rattle.camac_func.specs.declared.data.DataMove.{DataMove}
use Rattle.camac_func.specs.declared.data.DataMove.TheVariants as moves
use Rattle.camac_machine.specs.MachineState.{Left}
use Rattle.camac_machine.specs.declared.item.Item.{Item}
use Rattle.camac_machine.specs.declared.item.Item.TheVariants as item
use Rattle.camac_run.specs.Runner.{RunnerState}
use Rattle.camac_run.specs.Size.{size_in}
use Rattle.camac_run.specs.Waits.{waits_of}
use Rattle.camac_run.specs.declared.progress.Progress.{Progress}
use Rattle.camac_run.specs.declared.progress.Progress.TheVariants.{Went, Overrun}
use Rattle.camac_run.specs.declared.progress.Wanted.{Wanted}
use Rattle.camac_run.specs.declared.progress.Wanted.TheVariants.{Demand, Cycle, Lock}
use Rattle.camac_c.specs.Filled.{filled}
use Rattle.camac_c.specs.Plain.{no_want, no_progress, only_code, short_in}
use Rattle.camac_c.specs.declared.plain.CamacAnswer.{CamacAnswer}
use Rattle.camac_c.specs.declared.plain.CamacWant.{CamacWant}
use Rattle.camac_c.specs.declared.plain.CamacProgress.{CamacProgress}
use Rattle.camac_c.specs.declared.plain.Told.{Told}

-- an answer of C that is one of a branch
abbrev pub InRange : CamacAnswer → Type 0
InRange a = (a.word < 2 ^ 24) × (a.gl < 2 ^ 24) × (a.wait ≤ 15)

-- and which one; x and q are true where they are not 0
abbrev pub answer_in : CamacAnswer → Answer
answer_in a = record { x = not (nat_eq a.x 0); q = not (nat_eq a.q 0); word = a.word; wait = a.wait; gl = a.gl }

-- 0 where nothing moves, 1 where a word is read, 2 where one is written
abbrev pub movement_in : DataMove → ℕ
movement_in moves.None = 0
movement_in moves.In = 1
movement_in (moves.Out word) = 2

-- the word that is written
abbrev pub written_in : DataMove → ℕ
written_in moves.None = 0
written_in moves.In = 0
written_in (moves.Out word) = word

-- what is read; 0 where nothing is
abbrev pub read_in : DataMove → ℕ → ℕ
read_in moves.None n = 0
read_in moves.In n = n
read_in (moves.Out written) n = 0

-- what is wanted: 1 a demand, 2 a cycle, 3 a lock; with the longest wait that is permitted, and the width of what is read
abbrev pub want_in : (width : ℕ) → RunnerState → Wanted → CamacWant
want_in width h Demand = record no_want { kind = 1; waits = waits_of h Demand; width = width }
want_in width h (Cycle k) = record no_want { kind = 2; c = k.c; n = k.n; a = k.a; f = k.f; «data» = movement_in k.mv; waits = waits_of h (Cycle k); width = width; word = written_in k.mv }
want_in width h (Lock c) = record no_want { kind = 3; c = c; waits = waits_of h (Lock c); width = width }

-- with whether that moves 16 bits; 4 and zeros where nothing is wanted, after a wait that was not permitted
abbrev pub asked : (width : ℕ) → RunnerState → Option Wanted → Told
asked width h (Some wanted) = record (only_code 0) { want = record (want_in width h wanted) { is_short = short_in (size_in h) } }
asked width h None = only_code 4

-- the code is 8 while the run pauses
abbrev pub while_paused : Bool → Told → Told
while_paused true told = record told { code = 8 }
while_paused false told = told

-- so many there are
abbrev pub counted : ℕ → Told
counted count = record (only_code 0) { count = count }

-- crates in their order, and zeros behind them: there are seven at most
abbrev pub crates_in : List ℕ → List ℕ
crates_in crates = filled crates (replicate 8 0)

-- the number of a service, from 1 in text order; 0 where none was called
abbrev pub service_in : Option ℕ → ℕ
service_in None = 0
service_in (Some number) = min number 4294967294 + 1

abbrev pub flag_in : Bool → ℕ
flag_in true = 1
flag_in false = 0

-- the word that a cycle read
abbrev pub word_in : CycleDone → ℕ
word_in done = read_in done.command.mv done.reply.word

-- its bits above this width; a word has 24
abbrev pub cut_in : (width : ℕ) → CycleDone → ℕ
cut_in width done = if nat_lt width 24 then word_in done - word_in done % 2 ^ width else 0

-- what an answer was used for: 1 a demand, 2 a cycle, 3 a lock
abbrev pub item_in : (width : ℕ) → Item → CamacProgress
item_in width (item.Demand pattern service) = record no_progress { kind = 1; pattern = pattern; service = service_in service }
item_in width (item.Cycle done) = record no_progress { kind = 2; wait = done.wait; x = flag_in done.reply.x; q = flag_in done.reply.q; word = word_in done; cut = cut_in width done }
item_in width (item.Lock c wait) = record no_progress { kind = 3; c = c; wait = wait }
item_in width (item.Unlock c) = no_progress

-- with the event that it left, of this many words
abbrev pub event_in : Option Left → ℕ → CamacProgress → CamacProgress
event_in None words told = told
event_in (Some event) words told = record told { event = event.0; event_gl = event.1; event_words = words; event_cycles = event.2.cycles; event_missed = event.2.missed }

-- what an answer did; 4 is a wait that is not permitted
abbrev pub progress_in : (width : ℕ) → Progress → ℕ → CamacProgress
progress_in width (Went item unlocks event) words = event_in event words (record (item_in width item) { unlocked = crates_in unlocks.items })
progress_in width (Overrun o) words = record no_progress { kind = 4; c = o.c; wait = o.wait }

abbrev pub did : (width : ℕ) → Progress → ℕ → Told
did width (Went item unlocks event) words = record (only_code 0) { progress = progress_in width (Went item unlocks event) words }
did width (Overrun o) words = record (only_code 4) { progress = progress_in width (Overrun o) words }

-- what it did after a pause
abbrev pub did_on : List ℕ → Option Left → ℕ → Told
did_on unlocks event words = record (only_code 0) { progress = event_in event words (record no_progress { unlocked = crates_in unlocks }) }
