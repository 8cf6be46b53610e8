-- What a runner holds after answers, and what it wants then.
use Rattle.std.proofs.Common.{◌≡◌, ℕ, ◌<◌, List, [], ◌∷◌, ◌++◌, length, Option, Some, None, refl, sym, ap, ◌∙◌, append_assoc, append-nil, arith}
use Rattle.std.specs.Prelude.{slice_get, option_and_then}
use Rattle.camac_lang.specs.Tree.{Script}
use Rattle.camac_branch.specs.Branch.{Answer}
use Rattle.camac_branch.specs.Plan.{Layout}
use Rattle.camac_model.specs.Behaviour.{Behaviour, does, ends, stops, Piece, lock_released, pieces, stop_of, short, overrun, wrong, more}
use Rattle.camac_model.specs.Run.{the_run}
use Rattle.camac_machine.specs.MachineState.{Left, piece_of}
use Rattle.camac_machine.specs.Rest.{says}
use Rattle.camac_run.specs.Holds.{after, HoldsAfter, event_pieces, told_after, GoingOnHolds, ResumingHolds, AllIsTold, WantsAreWanted}
use Rattle.camac_run.specs.Operation.{Begins, Waits, operation_of, quiet_answer}
use Rattle.camac_run.specs.Runner.{RunnerState, rest, with_event, last_words_in}
use Rattle.camac_run.specs.declared.progress.Wanted.{Wanted}

pub pieces-after : {A : Type 0} (ps : List Piece) (b : Behaviour A) → pieces (after ps b) ≡ ps ++ pieces b
pieces-after [] b = refl
pieces-after (p ∷ ps) b = ap (λ (l : List Piece). p ∷ l) (pieces-after ps b)

pub stop_of-after : {A : Type 0} (ps : List Piece) (b : Behaviour A) → stop_of (after ps b) ≡ stop_of b
stop_of-after [] b = refl
stop_of-after (p ∷ ps) b = stop_of-after ps b

pub after-append : {A : Type 0} (ps qs : List Piece) (b : Behaviour A) → after ps (after qs b) ≡ after (ps ++ qs) b
after-append [] qs b = refl
after-append {A} (p ∷ ps) qs b = ap (λ (x : Behaviour A). does p x) (after-append ps qs b)

pub waits_quietly : {A : Type 0} (b : Behaviour A) → Waits b → pieces b ≡ []
waits_quietly (does p b) h = absurd h
waits_quietly (ends x) h = refl
waits_quietly (stops w s) h = refl

with_event-after : (event : Option Left) (words : List ℕ) (b : Behaviour (Unit {0})) → with_event event words b ≡ after (event_pieces event words) b
with_event-after None words b = refl
with_event-after (Some e) words b = refl

pub says-after : (ks : List ℕ) (event : Option Left) (words : List ℕ) (b : Behaviour (Unit {0})) → says ks (with_event event words b) ≡ after (told_after ks event words) b
says-after [] event words b = with_event-after event words b
says-after (k ∷ ks) event words b = ap (λ (x : Behaviour (Unit {0})). does (lock_released k) x) (says-after ks event words b)

abbrev pub going_on_holds : GoingOnHolds
going_on_holds plan script answers a told old new item unlocks event h g =
    let ps : List Piece = told_after unlocks event (last_words_in new) in
    record {
      goes = λ (more' : List Answer).
          ap (the_run plan script) (append_assoc answers (a ∷ []) more') ∙ h.goes (a ∷ more')
          ∙ ap (after told) (g.goes more' ∙ ap (λ (x : Behaviour (Unit {0})). does (piece_of item) x) (says-after unlocks event (last_words_in new) (rest new more')))
          ∙ after-append told (piece_of item ∷ ps) (rest new more');
    }

abbrev pub resuming_holds : ResumingHolds
resuming_holds plan script answers told old new unlocks event h g = record {
  goes = λ (more' : List Answer).
      h.goes more'
      ∙ ap (after told) (g.goes more' ∙ says-after unlocks event (last_words_in new) (rest new more'))
      ∙ after-append told (told_after unlocks event (last_words_in new)) (rest new more');
}

-- with no wait the operation is made
made : {A : Type 0} (o : Wanted) (b : Behaviour A) → Begins o quiet_answer b → (p : Piece) × (rest : Behaviour A) × (b ≡ does p rest) × (operation_of p ≡ Some o)
made o (does p b) h = (p, b, refl, h)
made o (ends x) h = absurd h
made o (stops short s) h = absurd h
made o (stops (overrun c w) s) h = let no : 0 < 0 = h.2 in absurd (omega (arith, no))
made o (stops wrong s) h = absurd h
made o (stops more s) h = absurd h

get_at : {A : Type 0} (xs ys : List A) (x : A) → slice_get (xs ++ x ∷ ys) (length xs) ≡ Some x
get_at [] ys x = refl
get_at (y ∷ xs) ys x = get_at xs ys x

-- what was told is what the run does on these answers
pub told_all : (plan : Layout) (script : Script) (answers : List Answer) (told : List Piece) (h : RunnerState) → HoldsAfter plan script answers told h → Waits (rest h []) → pieces (the_run plan script answers) ≡ told
told_all plan script answers told h holds waits =
    ap (λ (l : List Answer). pieces (the_run plan script l)) (sym (append-nil answers)) ∙ ap (λ (x : Behaviour (Unit {0})). pieces x) (holds.goes [])
    ∙ pieces-after told (rest h []) ∙ ap (λ (ps : List Piece). told ++ ps) (waits_quietly (rest h []) waits) ∙ append-nil told

pub all_is_told : AllIsTold
all_is_told plan script answers told h holds waiting = told_all plan script answers told h holds waiting.1.1

pub wants_are_wanted : WantsAreWanted
wants_are_wanted plan script answers told h o holds wants =
    let m = made o (rest h (quiet_answer ∷ [])) (wants.2 quiet_answer []) in
    let all : pieces (the_run plan script (answers ++ quiet_answer ∷ [])) ≡ told ++ m.0 ∷ pieces m.1 =
    ap (λ (x : Behaviour (Unit {0})). pieces x) (holds.goes (quiet_answer ∷ [])) ∙ pieces-after told (rest h (quiet_answer ∷ []))
    ∙ ap (λ (x : Behaviour (Unit {0})). told ++ pieces x) m.2 in
    ap (λ (ps : List Piece). option_and_then operation_of (slice_get (pieces (the_run plan script (answers ++ quiet_answer ∷ []))) (length ps))) (told_all plan script answers told h holds wants.1)
    ∙ ap (λ (ps : List Piece). option_and_then operation_of (slice_get ps (length told))) all
    ∙ ap (λ (x : Option Piece). option_and_then operation_of x) (get_at told (pieces m.1) m.0)
    ∙ m.3
