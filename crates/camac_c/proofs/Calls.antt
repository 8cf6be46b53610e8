-- What C is told of a run, from what passes between a call and the run.
use Rattle.std.proofs.Common.{◌≡◌, ℕ, zero, suc, List, [], length, map, refl, ap, ◌∙◌, subst, arith}
use Rattle.std.specs.Prelude.{Option, Some, None, min, option_map, reverse, slice_get, unwrap_or}
use Rattle.camac_lang.specs.Tree.{Service}
use Rattle.camac_run.specs.Runner.{last_words_in}
use Rattle.camac_run.specs.Back.{back_in}
use Rattle.camac_c.specs.Ahead.{numbers_ahead, of_none}
use Rattle.camac_c.specs.Filled.{filled, filled_words, over, over_words}
use Rattle.camac_c.specs.Last.{last_lines, last_record}
use Rattle.camac_c.specs.Place.{numbers_of_place}
use Rattle.camac_c.specs.Plain.{only_code}
use Rattle.camac_c.specs.Service.{name_at, numbers_at}
use Rattle.camac_c.specs.Talk.{AnswersBytes, AnswersCode, AnswersCount, AnswersGoOn, AnswersNext, AnswersStep, AnswersText, AnswersWants, Lists, Talks, TellsFirst, TellsIf, TellsNumbered, TellsWords}
use Rattle.camac_machine.specs.Course.{words_sent}
use Rattle.camac_machine.specs.Rest.{Operation}
use Rattle.camac_run.specs.declared.transfer.TransferLeft.{TransferLeft}
use Rattle.camac_c.specs.Transfer.{numbers_in}
use Rattle.camac_c.specs.declared.plain.SessionAsk.{SessionAsk}
use Rattle.camac_c.specs.declared.plain.SessionAsk.TheVariants as ask
use Rattle.camac_c.specs.declared.plain.CamacAnswer.{CamacAnswer}
use Rattle.camac_c.specs.declared.plain.Told.{Told}
use Rattle.camac_c.specs.declared.session.Session.{Session}

-- nothing is written into no room
none_of : (n : ℕ) → min n 0 ≡ 0
none_of n = omega arith

filled_none : (text : List ℕ) → filled text [] ≡ []
filled_none text = ap (λ (n : ℕ). over n text []) (none_of (length text))

filled_words_none : (words : List ℕ) → filled_words words [] ≡ []
filled_words_none words = ap (λ (n : ℕ). over_words n words []) (none_of (length words))

listed_none : (its : Option (List ℕ)) (told : Told) (ws : List ℕ) → TellsIf Lists its [] ws told → ws ≡ []
listed_none None told ws h = h.0
listed_none (Some its) told ws h = h.0 ∙ filled_none its

numbered_none : (its : Option (List ℕ)) (told : Told) (ws : List ℕ) → TellsIf TellsWords its [] ws told → ws ≡ []
numbered_none None told ws h = h.0
numbered_none (Some its) told ws h = h.0 ∙ filled_words_none its

first_none : (s : Session) (i : ℕ) (service : Option Service) (pending : Option Operation) (told : Told) (ws : List ℕ) → TellsFirst s i service pending [] ws told → ws ≡ []
first_none s i None pending told ws h = h.0
first_none s i (Some v) (Some w) told ws h = h.0
first_none s i (Some v) None told ws h = h.2.0 ∙ filled_words_none (numbers_ahead s.checked.now.plan s.runner h.0)

begun_none : (s : Session) (k : ℕ) (told : Told) (ws : List ℕ) → TellsNumbered s k [] ws told → ws ≡ []
begun_none s zero told ws h = first_none s zero None None told ws h
begun_none s (suc i) told ws h = first_none s i (slice_get s.checked.now.script.services i) s.runner.pending told ws h

written : (v after : Option Session) (a : SessionAsk) (none told : Told) (ws : List ℕ) → Talks v a none after [] ws told → ws ≡ []
written None after a none told ws h = h.1
written (Some s) None a none told ws h = absurd h
written (Some s) (Some after) ask.Wants none told ws h = h.0
written (Some s) (Some after) (ask.Ahead far) none told ws h = h.1.2.0 ∙ filled_words_none (numbers_ahead s.checked.now.plan s.runner h.1.0)
written (Some s) (Some after) (ask.ServiceAhead k far) none told ws h = begun_none s k told ws h.1.tells
written (Some s) (Some after) ask.Transfer none told ws h = h.1.2.0 ∙ filled_words_none (unwrap_or (option_map numbers_in h.1.0) [])
written (Some s) (Some after) ask.ToWrite none told ws h = h.1.2.0 ∙ filled_words_none (unwrap_or (option_map (λ (t : TransferLeft). unwrap_or (words_sent t.table) []) h.1.0) [])
written (Some s) (Some after) ask.Back none told ws h = h.1.1.0 ∙ filled_words_none (numbers_ahead s.checked.now.plan s.runner (map of_none (back_in s.runner)))
written (Some s) (Some after) (ask.Next a) none told ws h = h.0
written (Some s) (Some after) (ask.Step a) none told ws h = h.0
written (Some s) (Some after) ask.Words none told ws h = h.1.0 ∙ filled_words_none (last_words_in s.runner)
written (Some s) (Some after) ask.Record none told ws h = h.1.0 ∙ filled_none (last_record s.last (last_words_in s.runner))
written (Some s) (Some after) ask.Item none told ws h = h.1.0 ∙ filled_none (last_lines s.checked.now.script s.last)
written (Some s) (Some after) ask.Held none told ws h = h.1.0 ∙ filled_words_none (reverse s.held.items)
written (Some s) (Some after) ask.Where none told ws h = h.1.2.0 ∙ filled_words_none (numbers_of_place h.1.0)
written (Some s) (Some after) ask.Left none told ws h = h.0
written (Some s) (Some after) ask.Services none told ws h = h.0
written (Some s) (Some after) (ask.Name k) none told ws h = listed_none (name_at s.checked.now.script k) told ws h.1
written (Some s) (Some after) (ask.Numbers k) none told ws h = numbered_none (numbers_at s.checked.now k) told ws h.1
written (Some s) (Some after) (ask.Limit most) none told ws h = h.0
written (Some s) (Some after) ask.GoOn none told ws h = h.0
written (Some s) (Some after) ask.Abandon none told ws h = h.written ∙ filled_words_none h.unlocks
written (Some s) (Some after) ask.Rewind none told ws h = h.0

asked : (v after : Option Session) (a : SessionAsk) (told : Told) (ws : List ℕ) → Talks v a (only_code 2) after [] ws told → Talks v a (only_code 2) after [] [] told
asked v after a told ws h = subst (λ (l : List ℕ). Talks v a (only_code 2) after [] l told) (written v after a (only_code 2) told ws h) h

pub wants_answers : (v after : Option Session) (ws : List ℕ) (told : Told) → Talks v ask.Wants (only_code 2) after [] ws told → AnswersWants v after told.code told.want
wants_answers v after ws told h = (told, asked v after ask.Wants told ws h, refl, refl)

pub next_answers : (v after : Option Session) (a : CamacAnswer) (ws : List ℕ) (told : Told) → Talks v (ask.Next a) (only_code 2) after [] ws told → AnswersNext v a after told.code told.progress
next_answers v after a ws told h = (told, asked v after (ask.Next a) told ws h, refl, refl)

pub step_answers : (v after : Option Session) (a : CamacAnswer) (ws : List ℕ) (told : Told) → Talks v (ask.Step a) (only_code 2) after [] ws told
    → AnswersStep v a after told.code told.progress told.want
step_answers v after a ws told h = (told, asked v after (ask.Step a) told ws h, refl, refl, refl)

pub go_on_answers : (v after : Option Session) (ws : List ℕ) (told : Told) → Talks v ask.GoOn (only_code 2) after [] ws told → AnswersGoOn v after told.code told.progress
go_on_answers v after ws told h = (told, asked v after ask.GoOn told ws h, refl, refl)

pub count_answers : (v after : Option Session) (a : SessionAsk) (ws : List ℕ) (told : Told) → Talks v a (only_code 2) after [] ws told → AnswersCount v a after told.count
count_answers v after a ws told h = (told, asked v after a told ws h, refl)

pub code_answers : (v after : Option Session) (a : SessionAsk) (ws : List ℕ) (told : Told) → Talks v a (only_code 2) after [] ws told → AnswersCode v a after told.code
code_answers v after a ws told h = (told, asked v after a told ws h, refl)

pub bytes_answer : (v after : Option Session) (a : SessionAsk) (old new : List ℕ) (told : Told) → Talks v a (only_code 2) after old new told → AnswersBytes v a after old new told.count
bytes_answer v after a old new told h = (told, h, refl)

pub text_answers : (v after : Option Session) (a : SessionAsk) (old new : List ℕ) (told : Told) → Talks v a (only_code 2) after old new told
    → AnswersText v a after told.code old new told.count
text_answers v after a old new told h = (told, h, refl, refl)
