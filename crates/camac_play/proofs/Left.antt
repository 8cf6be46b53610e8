-- A service in progress: what came before it, and what leaving it comes to.
use Rattle.std.proofs.Common.{◌≡◌, ℕ, suc, ◌+◌, ◌≤◌, List, [], ◌∷◌, ◌++◌, length, take, drop, map, Option, Some, None, Bool, true, false, refl, sym, ap, ◌∙◌, append_assoc, length-append, arith}
use Rattle.std.proofs.Math.Seq.{take-append_seam}
use Rattle.std.proofs.lemmas.List.{drop_at, take-append-le}
use Rattle.std.specs.Prelude.{IfSome, IfNone}
use Rattle.camac_branch.specs.Branch.{Answer}
use Rattle.camac_branch.specs.Plan.{Layout}
use Rattle.camac_lang.specs.Tree.{Script, Service}
use Rattle.camac_model.specs.Behaviour.{Behaviour, does, ends, stops, Piece, demanded, lock_released, pieces, uses}
use Rattle.camac_model.specs.Meaning.{Context}
use Rattle.camac_model.specs.Run.{the_run}
use Rattle.camac_model.specs.State.{State}
use Rattle.camac_machine.specs.MachineState.{Left, bit_at, context_in, piece_of}
use Rattle.camac_machine.specs.Rest.{Operation, onward, served}
use Rattle.camac_machine.specs.declared.item.Item.{Item}
use Rattle.camac_run.specs.Holds.{HoldsAfter, told_of, event_pieces}
use Rattle.camac_run.specs.Runner.{RunnerState, GoesOn, rest, rest_from, last_words_in}
use Rattle.camac_play.specs.Sent.{Sent, to_listing}
use Rattle.camac_play.specs.Told.{Counted, back_to, before_service, called_after, count_before, last_called, left_line, left_sent, line_of, lines_sent, open_text, pieces_sent, sent_after}
use Rattle.camac_play.specs.declared.telling.Telling.{Telling}
use Rattle.camac_play.proofs.Counting.{before_all, before_more, before_now, is_between, most}
use Rattle.camac_play.proofs.Sending.{answer_counts, count_of, count-append, no_records, pieces_sent-append, to_listing-append}

-- what the runner held at its demand, after which answers, and what was done up to there and since
pub record IsBased (plan : Layout) (script : Script) (c : Counted) (done since : List Piece) (called : Option ℕ) (runner : RunnerState) : Type 0 where
  pub at : RunnerState
  pub base : List Answer
  pub told : List Piece
  pub later : List Piece
  pub service : List Piece
  pub n : ℕ
  pub holds : HoldsAfter plan script base told at
  pub idle : at.pending ≡ None
  pub checked : runner.checked ≡ at.checked
  pub crates : runner.at_demand ≡ at.crates
  pub did : pieces (the_run plan script base) ≡ told
  pub used : uses told ≡ length base
  pub told_is : told ≡ c.before ++ later
  pub since_is : since ≡ later ++ service
  pub no_event : count_of service ≡ 0
  pub long : length c.answers ≡ suc n
  pub first : take (length base) c.answers ≡ base
  pub counts : count_before plan script c.answers n ≡ length base
  pub calls : called ≡ last_called None done

last_called-append : (v : Option ℕ) (ps qs : List Piece) → last_called v (ps ++ qs) ≡ last_called (last_called v ps) qs
last_called-append v [] qs = refl
last_called-append v (p ∷ ps) qs = last_called-append (called_after v p) ps qs

released_calls : (v : Option ℕ) (ks : List ℕ) (ps : List Piece) → last_called v (map lock_released ks ++ ps) ≡ last_called v ps
released_calls v [] ps = refl
released_calls v (k ∷ ks) ps = released_calls v ks ps

event_calls : (v : Option ℕ) (event : Option Left) (words : List ℕ) → last_called v (event_pieces event words) ≡ v
event_calls v None words = refl
event_calls v (Some e) words = refl

-- what an answer did calls what its item does
item_calls : (v : Option ℕ) (done : List Piece) (told : Item) (ks : List ℕ) (event : Option Left) (words : List ℕ) → v ≡ last_called None done
    → called_after v (piece_of told) ≡ last_called None (done ++ told_of told ks event words)
item_calls v done told ks event words is =
    ap (λ (u : Option ℕ). called_after u (piece_of told)) is
    ∙ sym (last_called-append None done (told_of told ks event words)
    ∙ released_calls (called_after (last_called None done) (piece_of told)) ks (event_pieces event words)
    ∙ event_calls (called_after (last_called None done) (piece_of told)) event words)

demand_calls : (v : Option ℕ) (done : List Piece) (told : Item) (ks : List ℕ) (event : Option Left) (words : List ℕ) (pattern : ℕ) (service : Option ℕ) → piece_of told ≡ demanded pattern service
    → called_after v (piece_of told) ≡ last_called None (done ++ told_of told ks event words)
demand_calls v done told ks event words pattern service is =
    let any : (u : Option ℕ) → called_after u (piece_of told) ≡ service = λ u. ap (called_after u) is in
    any v ∙ sym (any (last_called None done)) ∙ item_calls (last_called None done) done told ks event words refl

abbrev has_ended : Behaviour (Unit {0}) → Bool
has_ended (does p b) = false
has_ended (ends u) = true
has_ended (stops w s) = false

-- a service in progress does not end without its event
not_ended : (ctx : Context) (vs : List Service) (bit : ℕ) (b : Behaviour State) → served ctx vs bit b ≡ ends tt → ⊥
unfolding served
not_ended ctx vs bit (does p b) e = let no : false ≡ true = ap has_ended e in absurd cc
not_ended ctx vs bit (ends s) e = let no : false ≡ true = ap has_ended e in absurd cc
not_ended ctx vs bit (stops w s) e = let no : false ≡ true = ap has_ended e in absurd cc

idle_by : (p : Option Operation) (h : RunnerState) → rest_from p h [] ≡ ends tt → p ≡ None
idle_by None h e = refl
idle_by (Some w) h e = absurd (not_ended (context_in h.checked) h.checked.script.services (bit_at h.checked h.service) _ e)

-- a run that is at its end has no service in progress
pub idle_at_end : (h : RunnerState) → rest h [] ≡ ends tt → h.pending ≡ None
idle_at_end h e = idle_by h.pending h e

abbrev first_of : Behaviour (Unit {0}) → Option Piece
first_of (does p b) = Some p
first_of (ends u) = None
first_of (stops w s) = None

abbrev IsDemand : Piece → Type 0
IsDemand p = (pattern : ℕ) × (service : Option ℕ) × (p ≡ demanded pattern service)

idle_first : (h : RunnerState) (a : Answer) → h.pending ≡ None → (q : Piece) × IsDemand q × (first_of (rest h (a ∷ [])) ≡ Some q)
unfolding onward
idle_first h a idle = rw idle (_, (_, _, refl), refl)

some_piece : (x y : Piece) → Some x ≡ Some y → x ≡ y
some_piece x y e = cc

-- between services an answer is used for a graded-L operation
idle_item : (h : RunnerState) (a : Answer) (p : Piece) (b : Behaviour (Unit {0})) → h.pending ≡ None → rest h (a ∷ []) ≡ does p b → IsDemand p
idle_item h a p b idle goes =
    let first = idle_first h a idle in
    (first.1.0, first.1.1, some_piece p first.0 (sym (ap first_of goes) ∙ first.2) ∙ first.1.2)

-- while a service goes on it leaves no event
quiet_step : (told : Item) (ks : List ℕ) (event : Option Left) (words : List ℕ) (p : Option Operation) (w : Operation) → IfSome event (λ e. p ≡ None) → p ≡ Some w → count_of (told_of told ks event words) ≡ 0
quiet_step told ks None words p w ended some = let none = answer_counts told ks None words 0 0 refl tt tt in omega (arith, none)
quiet_step told ks (Some e) words p w ended some = let no : None ≡ Some w = sym ended ∙ some in absurd cc

more_long : (answers : List Answer) (a : Answer) → length (answers ++ a ∷ []) ≡ suc (length answers)
more_long answers a = omega (arith, length-append answers (a ∷ []))

module _ (plan : Layout) (script : Script) (c : Counted) (a : Answer) (done since : List Piece) (called : Option ℕ) (old new : RunnerState) (told : Item) (ks : List ℕ) (event : Option Left) (g : GoesOn old a told ks event new) (did : pieces (the_run plan script c.answers) ≡ done) where
  abbrev now : Counted
  now = record c { answers = c.answers ++ a ∷ [] }

  abbrev step : List Piece
  step = told_of told ks event (last_words_in new)

  begins_service : (w : Operation) → HoldsAfter plan script c.answers done old → done ≡ c.before ++ since → uses done ≡ length c.answers → is_between plan script c.answers ≡ true → old.pending ≡ None → new.pending ≡ Some w
      → IsBased plan script now (done ++ step) (since ++ step) (called_after called (piece_of told)) new
  begins_service w holds parts used between idle some =
      let item = idle_item old a (piece_of told) _ idle (g.goes []) in record {
        at = old;
        base = c.answers;
        told = done;
        later = since;
        service = step;
        n = length c.answers;
        holds = holds;
        idle = idle;
        checked = g.checked;
        crates = (rw (some, idle) at g.at_demand);
        did = did;
        used = used;
        told_is = parts;
        since_is = refl;
        no_event = quiet_step told ks event (last_words_in new) new.pending w g.ended some;
        long = more_long c.answers a;
        first = take-append_seam c.answers (a ∷ []);
        counts = before_all plan script c.answers (a ∷ []) (length c.answers) refl between;
        calls = demand_calls called done told ks event (last_words_in new) item.0 item.1 item.2;
      }

  goes_on_in : (v w : Operation) → IsBased plan script c done since called old → is_between plan script c.answers ≡ false → old.pending ≡ Some v → new.pending ≡ Some w
      → IsBased plan script now (done ++ step) (since ++ step) (called_after called (piece_of told)) new
  goes_on_in v w b inside was some =
      let fewer = most plan script c.answers b.n in
      let within : length b.base ≤ length c.answers = omega (arith, fewer, b.counts, b.long) in
      let none = quiet_step told ks event (last_words_in new) new.pending w g.ended some in record {
        at = b.at;
        base = b.base;
        told = b.told;
        later = b.later;
        service = b.service ++ step;
        n = length c.answers;
        holds = b.holds;
        idle = b.idle;
        checked = g.checked ∙ b.checked;
        crates = (rw (some, was) at g.at_demand) ∙ b.crates;
        did = b.did;
        used = b.used;
        told_is = b.told_is;
        since_is = ap (λ (l : List Piece). l ++ step) b.since_is ∙ append_assoc b.later b.service step;
        no_event = omega (arith, count-append b.service step, b.no_event, none);
        long = more_long c.answers a;
        first = take-append-le (length b.base) c.answers (a ∷ []) within ∙ b.first;
        counts = before_more plan script c.answers (a ∷ []) (length c.answers) (omega arith) ∙ before_now plan script c.answers b.n b.long inside ∙ b.counts;
        calls = item_calls called done told ks event (last_words_in new) b.calls;
      }

  -- a service that is in progress then
  pub based_then : (p q : Option Operation) → old.pending ≡ p → new.pending ≡ q → HoldsAfter plan script c.answers done old → done ≡ c.before ++ since → uses done ≡ length c.answers
      → IfNone p (is_between plan script c.answers ≡ true) → IfSome p (λ w. is_between plan script c.answers ≡ false) → IfSome p (λ w. IsBased plan script c done since called old)
      → IfSome q (λ w. IsBased plan script now (done ++ step) (since ++ step) (called_after called (piece_of told)) new)
  based_then p None was is holds parts used between inside based = tt
  based_then None (Some w) was is holds parts used between inside based = begins_service w holds parts used between was is
  based_then (Some v) (Some w) was is holds parts used between inside based = goes_on_in v w based inside was is

module _ (t : Telling) (plan : Layout) (script : Script) (c : Counted) (done since : List Piece) (called : Option ℕ) (runner : RunnerState) (b : IsBased plan script c done since called runner) (did : pieces (the_run plan script c.answers) ≡ done) (parts : done ≡ c.before ++ since) where
  -- the answers before it
  pub base_is : is_between plan script c.answers ≡ false → before_service plan script c.answers ≡ b.base
  base_is inside = ap (λ (k : ℕ). take k c.answers) (before_now plan script c.answers b.n b.long inside ∙ b.counts) ∙ b.first

  abbrev line : List Piece → List Sent
  line ps = pieces_sent (line_of t script) (1 + count_of c.before) ps

  pub whole : done ≡ b.told ++ b.service
  whole =
      parts ∙ ap (λ (l : List Piece). c.before ++ l) b.since_is ∙ sym (append_assoc c.before b.later b.service) ∙ ap (λ (l : List Piece). l ++ b.service) (sym b.told_is)

  before_it : sent_after (line_of t script) c.before plan script b.base ≡ line b.later
  before_it = ap line (ap (drop (length c.before)) (b.did ∙ b.told_is) ∙ drop_at c.before b.later (length c.before) refl)

  after_it : drop (length (pieces (the_run plan script b.base))) (pieces (the_run plan script c.answers)) ≡ b.service
  after_it = (λ k. drop (length (b.did k)) (did k)) ∙ ap (drop (length b.told)) whole ∙ drop_at b.told b.service (length b.told) refl

  both_sent : line b.later ++ lines_sent (line_of t script) b.service ≡ line since
  both_sent =
      ap (λ (l : List Sent). line b.later ++ l) (sym (no_records (line_of t script) ((1 + count_of c.before) + count_of b.later) b.service b.no_event))
      ∙ sym (ap line b.since_is ∙ pieces_sent-append (line_of t script) (1 + count_of c.before) b.later b.service)

  -- what is sent then is what was, and its name
  pub sent_left : (asked : List ℕ) → open_text t plan script c.answers ≡ asked
      → (back_to t plan script c b.base).sent ≡ (c.sent ++ (line since ++ to_listing asked)) ++ to_listing (left_line t script called)
  sent_left asked is =
      let name : List ℕ = left_line t script called in
      let item : List Sent = lines_sent (line_of t script) b.service in
      let named : last_called None (pieces (the_run plan script c.answers)) ≡ called = ap (last_called None) did ∙ sym b.calls in
      let last : left_sent t plan script c.answers (length (pieces (the_run plan script b.base))) ≡ item ++ (to_listing asked ++ to_listing name) =
      (λ k. lines_sent (line_of t script) (after_it k) ++ to_listing (is k ++ left_line t script (named k))) ∙ ap (λ (l : List Sent). item ++ l) (to_listing-append asked name) in
      (λ k. c.sent ++ (before_it k ++ last k))
      ∙ ap (λ (l : List Sent). c.sent ++ l) (sym (append_assoc (line b.later) item (to_listing asked ++ to_listing name))
      ∙ ap (λ (l : List Sent). l ++ (to_listing asked ++ to_listing name)) both_sent
      ∙ sym (append_assoc (line since) (to_listing asked) (to_listing name)))
      ∙ sym (append_assoc c.sent (line since ++ to_listing asked) (to_listing name))
