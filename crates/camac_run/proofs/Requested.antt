-- Each operation that a run wants is one of the pieces of a run, and these are safe.
use Rattle.std.proofs.Common.{◌≡◌, List, [], ◌∷◌, ◌++◌, length, sym, subst}
use Rattle.std.specs.Prelude.{IfSome, slice_get, option_and_then}
use Rattle.camac_lang.specs.Tree.{Script}
use Rattle.camac_branch.specs.Plan.{Layout}
use Rattle.camac_model.specs.Behaviour.{Behaviour, does, ends, stops, Piece, demanded, cycled, lock_taken, lock_released, event_left, pieces}
use Rattle.camac_model.specs.Moments.{Meets, Any, AnyStop}
use Rattle.camac_model.proofs.Runs.{more_pieces, run_answers_extend}
use Rattle.camac_model.specs.Fine.{Bounds}
use Rattle.camac_model.specs.Headline.{AreSafe, Locked, locked_after, NoneHeld, no_lock, RunsSafely}
use Rattle.camac_model.specs.Run.{the_run}
use Rattle.camac_model.specs.Safe.{IsSafePiece}
use Rattle.camac_run.specs.Operation.{operation_of, quiet_answer}
use Rattle.camac_run.specs.Requested.{IsSafeRequest, locked_from, RequestsAreSafe}

safe_operation : (plan : Layout) (held : Locked) (p : Piece) → IsSafePiece plan p → NoneHeld held p → IfSome (operation_of p) (IsSafeRequest plan held)
safe_operation plan held (demanded n v) h g = tt
safe_operation plan held (cycled at f d r w) h g = h
safe_operation plan held (lock_taken c w) h g = (h, g)
safe_operation plan held (lock_released c) h g = tt
safe_operation plan held (event_left e) h g = tt

-- the operation that comes after so many pieces of the same behaviour, some of which are these
safe_at : {A : Type 0} (plan : Layout) (held : Locked) (b : Behaviour A) (front : List Piece) → AreSafe plan (pieces b) → Meets locked_after NoneHeld AnyStop Any held b
    → (later : List Piece) × (front ++ later ≡ pieces b) → IfSome (option_and_then operation_of (slice_get (pieces b) (length front))) (IsSafeRequest plan (locked_from held front))
safe_at plan held (does p b) [] h m e = safe_operation plan held p h.0 m.0
safe_at plan held (does p b) (q ∷ front) h m e =
    let (same, rest) = parts q p (front ++ e.0) (pieces b) e.1 in
    subst (λ o. IfSome (option_and_then operation_of (slice_get (pieces b) (length front))) (IsSafeRequest plan (locked_from (locked_after held o) front))) (sym same)
    (safe_at plan (locked_after held p) b front h.1 m.1 (e.0, rest))
  where
    parts : (x y : Piece) (xs ys : List Piece) → x ∷ xs ≡ y ∷ ys → (x ≡ y) × (xs ≡ ys)
    parts x y xs ys e = (cc, cc)
safe_at plan held (ends u) front h m e = tt
safe_at plan held (stops w s) front h m e = tt

pub requests_are_safe : (plan : Layout) (script : Script) (ks : List Bounds) → RunsSafely plan script ks → RequestsAreSafe plan script
requests_are_safe plan script ks runs answers =
    let more = answers ++ quiet_answer ∷ [] in
    safe_at plan no_lock (the_run plan script more) (pieces (the_run plan script answers)) (runs.safe_cycles more) (runs.locks_released more)
    (let go = more_pieces (quiet_answer ∷ []) (the_run plan script answers) (the_run plan script more) (run_answers_extend plan script 65535 answers (quiet_answer ∷ [])) in (go.0, sym go.1))
