-- What the calls of a session say.
use Rattle.std.specs.Prelude.{◌≡◌, ◌<◌, ◌≤◌, ◌-◌, ℕ, zero, suc, List, [], length, map, reverse, true, false, Option, None, Some, IfSome, nat_eq, option_map, slice_get, unwrap_or, if◌then◌else◌}
use Rattle.camac_branch.specs.Branch.{Answer as BranchAnswer}
use Rattle.camac_branch.specs.declared.answer.Overrun.{Overrun}
use Rattle.camac_rules.specs.Checked.{CheckedScript}
use Rattle.camac_model.specs.Run.{the_run}
use Rattle.camac_lang.specs.Tree.{Service}
use Rattle.camac_run.specs.Ahead.{BeginsWith, IsAhead}
use Rattle.camac_run.specs.Back.{SettingBackHolds, back_in}
use Rattle.camac_run.specs.Holds.{HoldsAfter}
use Rattle.camac_run.specs.Operation.{Wants}
use Rattle.camac_run.specs.Requested.{IsSafeRequest, held_in}
use Rattle.camac_run.specs.Runner.{RunnerState, rest, last_words_in, KeepsLimit, Progresses}
use Rattle.camac_run.specs.Waits.{GoesOnUpTo, waits_of}
use Rattle.camac_run.specs.declared.member.Member.{Member}
use Rattle.camac_run.specs.declared.place.Place.{Place}
use Rattle.camac_run.specs.declared.progress.Progress.{Progress}
use Rattle.camac_run.specs.declared.progress.Wanted.{Wanted}
use Rattle.camac_run.specs.declared.transfer.TransferLeft.{TransferLeft}
use Rattle.camac_machine.specs.Course.{words_sent}
use Rattle.camac_machine.specs.Rest.{Operation, is_paused}
use Rattle.camac_c.specs.Abandoned.{LeavesService}
use Rattle.camac_c.specs.Ahead.{numbers_ahead, of_none}
use Rattle.camac_c.specs.Filled.{filled, filled_words}
use Rattle.camac_c.specs.Held.{held_then}
use Rattle.camac_c.specs.Last.{kept_of, last_lines, last_record}
use Rattle.camac_c.specs.Paused.{GoesOnIf, Limits}
use Rattle.camac_c.specs.Place.{IsAt, numbers_of_place}
use Rattle.camac_c.specs.Plain.{only_code}
use Rattle.camac_c.specs.Service.{name_at, numbers_at}
use Rattle.camac_c.specs.Told.{InRange, answer_in, asked, counted, did, while_paused}
use Rattle.camac_c.specs.Transfer.{IsOfTransfer, numbers_in}
use Rattle.camac_c.specs.Width.{KnowsWidth}
use Rattle.camac_c.specs.declared.last.Deed.TheVariants.{Nothing}
use Rattle.camac_c.specs.declared.plain.SessionAsk.{SessionAsk}
use Rattle.camac_c.specs.declared.plain.SessionAsk.TheVariants as ask
use Rattle.camac_c.specs.declared.plain.CamacAnswer.{CamacAnswer}
use Rattle.camac_c.specs.declared.plain.CamacProgress.{CamacProgress}
use Rattle.camac_c.specs.declared.plain.CamacWant.{CamacWant}
use Rattle.camac_c.specs.declared.plain.Told.{Told}
use Rattle.camac_c.specs.declared.session.Session.{Session}

-- at the beginning of the run of this script: no answer was used, and no event left
pub record Begins (c : CheckedScript) (s : Session) : Type 0 where
  pub runs : (answers : List BranchAnswer) → rest s.runner answers ≡ the_run c.plan c.script answers
  pub holds : HoldsAfter c.plan c.script [] [] s.runner
  pub checked : s.runner.checked ≡ c
  pub script : s.checked.now ≡ c
  pub fed : s.runner.fed ≡ 0
  pub events : s.runner.events ≡ 0
  pub overrun : s.runner.overrun ≡ None
  pub quiet : last_words_in s.runner ≡ []
  pub last : s.last.deed ≡ Nothing
  pub held : s.held.items ≡ []
  pub width : s.width ≡ 0
  pub awake : is_paused s.runner.pending ≡ false

-- and it may make all its steps at once
abbrev pub StartsOn : CheckedScript → Session → Type 0
StartsOn c s = Begins c s × (s.runner.limit ≡ 4294967295)

-- what the run wants its next answer for, which may be made, and up to which wait it is
pub record IsWanted (h : RunnerState) (wanted : Option Wanted) : Type 0 where
  pub wants : Wants h wanted
  pub safe : IfSome wanted (IsSafeRequest h.checked.plan (held_in h))
  pub waits : IfSome wanted (λ o. GoesOnUpTo h (waits_of h o))

-- that is told, 8 while it pauses, and nothing changes
abbrev pub TellsWant : Session → Session → Told → Type 0
TellsWant s after told =
    (after ≡ s) × ((wanted : Option Wanted) × IsWanted s.runner wanted × (told ≡ while_paused (is_paused s.runner.pending) (asked s.width s.runner wanted)))

-- an answer is not taken, and nothing changes
abbrev pub Declines : ℕ → Session → Session → Told → Type 0
Declines code s after told = (after ≡ s) × (told ≡ only_code code)

-- it is used, and told and kept is what it did
pub record Uses (a : BranchAnswer) (s after : Session) (told : Told) : Type 0 where
  pub progress : Progress
  pub progresses : Progresses s.runner a progress after.runner
  pub keeps : KeepsLimit s.runner after.runner
  pub told_is : told ≡ did s.width progress (length (last_words_in after.runner))
  pub last : after.last ≡ kept_of progress s.last
  pub held : after.held.items ≡ held_then progress s.held.items
  pub checked : after.checked ≡ s.checked

-- it may be taken, and is used
pub record IsUsed (a : CamacAnswer) (s after : Session) (told : Told) : Type 0 where
  pub awake : is_paused s.runner.pending ≡ false
  pub in_range : InRange a
  pub few : s.runner.fed < 4294967295
  pub uses : Uses (answer_in a) s after told

-- it is taken; 8 where the run pauses then
pub record Takes (a : CamacAnswer) (s after : Session) (told : Told) : Type 0 where
  pub used : Session
  pub done : Told
  pub uses : Uses (answer_in a) s used done
  pub after_is : after ≡ record used { width = after.width }
  pub told_is : told ≡ while_paused (is_paused after.runner.pending) done
  pub knows : KnowsWidth after

-- 8 while the run pauses, 5 where the answer is out of its range, 6 where the run has used the most answers
pub record TellsNext (a : CamacAnswer) (s after : Session) (told : Told) : Type 0 where
  pub busy : is_paused s.runner.pending ≡ true → Declines 8 s after told
  pub range : is_paused s.runner.pending ≡ false → (InRange a → ⊥) → Declines 5 s after told
  pub spent : is_paused s.runner.pending ≡ false → InRange a → 4294967295 ≤ s.runner.fed → Declines 6 s after told
  pub taken : is_paused s.runner.pending ≡ false → InRange a → s.runner.fed < 4294967295 → Takes a s after told

-- where that is done, told is also what the run wants then
abbrev pub with_want : (next wants : Told) → Told
with_want next wants = if nat_eq next.code 0 then record next { want = wants.want } else next

pub record TellsStep (a : CamacAnswer) (s after : Session) (told : Told) : Type 0 where
  pub next : Told
  pub takes : TellsNext a s after next
  pub wants : Told
  pub tells : TellsWant after after wants
  pub told_is : told ≡ with_want next wants

-- so it is told after what an answer did
abbrev pub TellsThen : Session → (did told : Told) → Type 0
TellsThen s did told =
    let pauses = is_paused s.runner.pending in
    (wanted : Option Wanted) × IsWanted s.runner wanted × (told ≡ with_want (while_paused pauses did) (while_paused pauses (asked s.width s.runner wanted)))

-- words, as many as there is room for
abbrev pub TellsWords : List ℕ → (old new : List ℕ) → Told → Type 0
TellsWords words old new told = (new ≡ filled_words words old) × (told ≡ counted (length words))

-- where the run stands
abbrev pub TellsPlace : RunnerState → (old new : List ℕ) → Told → Type 0
TellsPlace h old new told = (place : Option Place) × IsAt h place × TellsWords (numbers_of_place place) old new told

-- what comes next, whatever is answered
abbrev pub TellsAhead : Session → (old new : List ℕ) → Told → Type 0
TellsAhead s old new told = (os : List Member) × IsAhead s.runner os × TellsWords (numbers_ahead s.checked.now.plan s.runner os) old new told

-- what a service surely makes first, where there is such a service: 2 where no demand is wanted
abbrev pub TellsFirst : Session → (service : ℕ) → Option Service → Option Operation → (old new : List ℕ) → Told → Type 0
TellsFirst s i None pending old new told = (new ≡ old) × (told ≡ only_code 5)
TellsFirst s i (Some v) (Some w) old new told = (new ≡ old) × (told ≡ only_code 2)
TellsFirst s i (Some v) None old new told =
    (os : List Member) × BeginsWith s.checked.now i os × TellsWords (numbers_ahead s.checked.now.plan s.runner os) old new told

abbrev pub TellsNumbered : Session → (number : ℕ) → (old new : List ℕ) → Told → Type 0
TellsNumbered s zero old new told = TellsFirst s zero None None old new told
TellsNumbered s (suc i) old new told = TellsFirst s i (slice_get s.checked.now.script.services i) s.runner.pending old new told

-- by its number from 1 on
pub record TellsServiceAhead (s : Session) (number : ℕ) (old new : List ℕ) (told : Told) : Type 0 where
  pub tells : TellsNumbered s number old new told

-- what sets the crates back, of which this is true
abbrev pub TellsBack : Session → (old new : List ℕ) → Told → Type 0
TellsBack s old new told = SettingBackHolds × TellsWords (numbers_ahead s.checked.now.plan s.runner (map of_none (back_in s.runner))) old new told

-- what is left of the transfer whose cycle is waited for
abbrev pub TellsTransfer : (TransferLeft → List ℕ) → RunnerState → (old new : List ℕ) → Told → Type 0
TellsTransfer numbers h old new told = (left : Option TransferLeft) × IsOfTransfer h left × TellsWords (unwrap_or (option_map numbers left) []) old new told

-- a text, as far as there is room
abbrev pub Lists : List ℕ → (old new : List ℕ) → Told → Type 0
Lists text old new told = (new ≡ filled text old) × (told ≡ counted (length text))

-- 5 where there are none
abbrev pub TellsIf : (List ℕ → (old new : List ℕ) → Told → Type 0) → Option (List ℕ) → (old new : List ℕ) → Told → Type 0
TellsIf Tells None old new told = (new ≡ old) × (told ≡ only_code 5)
TellsIf Tells (Some listed) old new told = Tells listed old new told

-- how many answers a run may still use: none after a wait that was not permitted
abbrev pub left_from : Option Overrun → (fed : ℕ) → ℕ
left_from None fed = 4294967295 - fed
left_from (Some o) fed = 0

abbrev pub answers_left : RunnerState → ℕ
answers_left h = left_from h.overrun h.fed

-- where bytes are asked for, they are written, and nothing changes
abbrev pub Steps : Session → SessionAsk → Session → (old new : List ℕ) → Told → Type 0
Steps s ask.Wants after old new told = (new ≡ old) × TellsWant s after told
Steps s (ask.Ahead far) after old new told = (after ≡ s) × TellsAhead s old new told
Steps s (ask.ServiceAhead k far) after old new told = (after ≡ s) × TellsServiceAhead s k old new told
Steps s ask.Transfer after old new told = (after ≡ s) × TellsTransfer numbers_in s.runner old new told
Steps s ask.ToWrite after old new told = (after ≡ s) × TellsTransfer (λ t. unwrap_or (words_sent t.table) []) s.runner old new told
Steps s ask.Back after old new told = (after ≡ s) × TellsBack s old new told
Steps s (ask.Next a) after old new told = (new ≡ old) × TellsNext a s after told
Steps s (ask.Step a) after old new told = (new ≡ old) × TellsStep a s after told
Steps s ask.Words after old new told = (after ≡ s) × TellsWords (last_words_in s.runner) old new told
Steps s ask.Record after old new told = (after ≡ s) × Lists (last_record s.last (last_words_in s.runner)) old new told
Steps s ask.Item after old new told = (after ≡ s) × Lists (last_lines s.checked.now.script s.last) old new told
Steps s ask.Held after old new told = (after ≡ s) × TellsWords (reverse s.held.items) old new told
Steps s ask.Where after old new told = (after ≡ s) × TellsPlace s.runner old new told
Steps s ask.Left after old new told = (new ≡ old) × (after ≡ s) × (told ≡ counted (answers_left s.runner))
Steps s ask.Services after old new told = (new ≡ old) × (after ≡ s) × (told ≡ counted (length s.checked.now.script.services))
Steps s (ask.Name k) after old new told = (after ≡ s) × TellsIf Lists (name_at s.checked.now.script k) old new told
Steps s (ask.Numbers k) after old new told = (after ≡ s) × TellsIf TellsWords (numbers_at s.checked.now k) old new told
Steps s (ask.Limit most) after old new told = (new ≡ old) × Limits most s after × (told ≡ only_code 0)
Steps s ask.GoOn after old new told = (new ≡ old) × GoesOnIf (is_paused s.runner.pending) s after told
Steps s ask.Abandon after old new told = LeavesService s after old new told
Steps s ask.Rewind after old new told = (new ≡ old) × Begins s.checked.now after × (after.runner.limit ≡ s.runner.limit) × (told ≡ only_code 0)

abbrev pub Talks : Option Session → SessionAsk → Told → Option Session → (old new : List ℕ) → Told → Type 0
Talks None ask none after old new told = (after ≡ None) × (new ≡ old) × (told ≡ none)
Talks (Some s) ask none (Some after) old new told = Steps s ask after old new told
Talks (Some s) ask none None old new told = ⊥

-- what each call of C answers; of none it is told 2 and zeros
abbrev pub Asks : Option Session → SessionAsk → Option Session → (old new : List ℕ) → Told → Type 0
Asks v ask after old new told = Talks v ask (only_code 2) after old new told

abbrev pub AnswersWants : Option Session → Option Session → ℕ → CamacWant → Type 0
AnswersWants v after code want = (told : Told) × Asks v ask.Wants after [] [] told × (code ≡ told.code) × (want ≡ told.want)

abbrev pub AnswersNext : Option Session → CamacAnswer → Option Session → ℕ → CamacProgress → Type 0
AnswersNext v a after code progress = (told : Told) × Asks v (ask.Next a) after [] [] told × (code ≡ told.code) × (progress ≡ told.progress)

abbrev pub AnswersStep : Option Session → CamacAnswer → Option Session → ℕ → CamacProgress → CamacWant → Type 0
AnswersStep v a after code progress want =
    (told : Told) × Asks v (ask.Step a) after [] [] told × (code ≡ told.code) × (progress ≡ told.progress) × (want ≡ told.want)

abbrev pub AnswersGoOn : Option Session → Option Session → ℕ → CamacProgress → Type 0
AnswersGoOn v after code progress = (told : Told) × Asks v ask.GoOn after [] [] told × (code ≡ told.code) × (progress ≡ told.progress)

-- what is only counted, or only done
abbrev pub AnswersCount : Option Session → SessionAsk → Option Session → ℕ → Type 0
AnswersCount v ask after n = (told : Told) × Asks v ask after [] [] told × (n ≡ told.count)

abbrev pub AnswersCode : Option Session → SessionAsk → Option Session → ℕ → Type 0
AnswersCode v ask after code = (told : Told) × Asks v ask after [] [] told × (code ≡ told.code)

-- what goes out into a buffer, without a code and with one
abbrev pub AnswersBytes : Option Session → SessionAsk → Option Session → (old new : List ℕ) → ℕ → Type 0
AnswersBytes v ask after old new n = (told : Told) × Asks v ask after old new told × (n ≡ told.count)

abbrev pub AnswersText : Option Session → SessionAsk → Option Session → ℕ → (old new : List ℕ) (size : ℕ) → Type 0
AnswersText v ask after code old new size = (told : Told) × Asks v ask after old new told × (code ≡ told.code) × (size ≡ told.count)

-- there is a session, and it is so
abbrev pub Holds : Option Session → (Session → Type 0) → Type 0
Holds None P = ⊥
Holds (Some s) P = P s
