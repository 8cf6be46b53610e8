-- What was told so far, and what the rest tells, is what the whole run tells.
use Rattle.std.proofs.Common.{◌≡◌, ℕ, zero, suc, ◌+◌, ◌<◌, ◌≤◌, List, [], ◌∷◌, ◌++◌, map, length, drop, get_or, Option, Some, None, refl, sym, ap, subst, ◌∙◌, append_assoc, append-nil, length-append, arith}
use Rattle.std.specs.Prelude.{IfNone}
use Rattle.std.proofs.lemmas.List.{map-append}
use Rattle.camac_lang.specs.Tree.{Script}
use Rattle.camac_branch.specs.Branch.{Answer}
use Rattle.camac_branch.specs.Plan.{Layout}
use Rattle.camac_branch.specs.declared.answer.Overrun.{Overrun}
use Rattle.camac_event.specs.Spelling.{Entry, Listing, spelling}
use Rattle.camac_event.specs.declared.event.Version.TheVariants.{Two}
use Rattle.camac_run.specs.Ends.{stop_in}
use Rattle.camac_model.specs.Behaviour.{Behaviour, does, stops, Event, Piece, item_of, event_in, lock_released, items, events, stop_of, Stop, overrun}
use Rattle.camac_model.specs.Fine.{Bounds}
use Rattle.camac_model.specs.Run.{the_run}
use Rattle.camac_machine.specs.declared.item.Item.{Item}
use Rattle.camac_machine.specs.declared.item.Item.TheVariants as item
use Rattle.camac_machine.specs.MachineState.{piece_of, Left}
use Rattle.camac_machine.specs.Rest.{says}
use Rattle.camac_run.specs.Runner.{RunnerState, rest, state_in, with_event, last_words_in, GoesOn, Stops}
use Rattle.camac_run.specs.Headline.{entry_of, entries_in, event_file, Headline, RunsByHeadline, LeavesFewEvents}
use Rattle.camac_run.specs.Log.{IsLogOf, left_entries, unlock_items}
use Rattle.camac_run.specs.declared.log.Log.{Log}

abbrev Run : Type 0
Run = Behaviour (Unit {0})

-- a list from an index on
pub from_index : {A : Type 0} (xs : List A) (i : ℕ) (x : A) → i < length xs → x ≡ get_or xs i x → drop i xs ≡ x ∷ drop (i + 1) xs
from_index [] i x lt is = absurd (omega arith)
from_index (y ∷ xs) zero x lt is = ap (λ z. z ∷ xs) (sym is)
from_index (y ∷ xs) (suc i) x lt is =
    let same : suc (i + 1) ≡ suc i + 1 = omega arith in
    from_index xs i x (omega arith) is ∙ ap (λ (j : ℕ). x ∷ drop j (y ∷ xs)) same

item_is : (item : Item) → item_of (piece_of item) ≡ piece_of item ∷ []
item_is (item.Cycle d) = refl
item_is (item.Lock c w) = refl
item_is (item.Unlock c) = refl
item_is (item.Demand p v) = refl

no_event : (item : Item) → event_in (piece_of item) ≡ []
no_event (item.Cycle d) = refl
no_event (item.Lock c w) = refl
no_event (item.Unlock c) = refl
no_event (item.Demand p v) = refl

says_items : (ks : List ℕ) (event : Option Left) (words : List ℕ) (b : Run) → items (says ks (with_event event words b)) ≡ map lock_released ks ++ items b
says_items [] None words b = refl
says_items [] (Some e) words b = refl
says_items (k ∷ ks) event words b = ap (λ (ps : List Piece). lock_released k ∷ ps) (says_items ks event words b)

says_events : (ks : List ℕ) (event : Option Left) (words : List ℕ) (b : Run) → entries_in (says ks (with_event event words b)) ≡ left_entries event words ++ entries_in b
says_events [] None words b = refl
says_events [] (Some e) words b = refl
says_events (k ∷ ks) event words b = says_events ks event words b

says_stop : (ks : List ℕ) (event : Option Left) (words : List ℕ) (b : Run) → stop_of (says ks (with_event event words b)) ≡ stop_of b
says_stop [] None words b = refl
says_stop [] (Some e) words b = refl
says_stop (k ∷ ks) event words b = says_stop ks event words b

released : (ks : List ℕ) → map piece_of (unlock_items ks) ≡ map lock_released ks
released [] = refl
released (k ∷ ks) = ap (λ (ps : List Piece). lock_released k ∷ ps) (released ks)

-- an answer was used for an item; then these locks were released, and an event may have been left
module _ (whole old new : Run) (item : Item) (ks : List ℕ) (event : Option Left) (words : List ℕ) (e : old ≡ does (piece_of item) (says ks (with_event event words new))) where
  pub items_told : (xs ys zs : List Item) → items whole ≡ map piece_of xs ++ items old → ys ≡ xs ++ item ∷ [] → zs ≡ ys ++ unlock_items ks → items whole ≡ map piece_of zs ++ items new
  items_told xs ys zs h p n =
      let later : List Piece = map lock_released ks ++ items new in
      let first : List Piece = map piece_of xs in
      let pushed : map piece_of ys ≡ first ++ piece_of item ∷ [] = ap (map piece_of) p ∙ map-append piece_of xs (item ∷ []) in
      let noted : map piece_of zs ≡ map piece_of ys ++ map lock_released ks =
      ap (map piece_of) n ∙ map-append piece_of ys (unlock_items ks) ∙ ap (λ (ps : List Piece). map piece_of ys ++ ps) (released ks) in
      let here : items old ≡ piece_of item ∷ later =
      ap (λ (b : Run). items b) e ∙ ap (λ (ps : List Piece). ps ++ items (says ks (with_event event words new))) (item_is item) ∙ ap (λ (ps : List Piece). piece_of item ∷ ps) (says_items ks event words new) in
      h ∙ ap (λ (ps : List Piece). first ++ ps) here
      ∙ sym (append_assoc first (piece_of item ∷ []) later)
      ∙ ap (λ (ps : List Piece). ps ++ later) (sym pushed)
      ∙ sym (append_assoc (map piece_of ys) (map lock_released ks) (items new))
      ∙ ap (λ (ps : List Piece). ps ++ items new) (sym noted)

  pub events_told : (first kept : List Entry) → entries_in whole ≡ first ++ entries_in old → kept ≡ first ++ left_entries event words → entries_in whole ≡ kept ++ entries_in new
  events_told first kept h p =
      let here : entries_in old ≡ left_entries event words ++ entries_in new =
      ap (λ (b : Run). entries_in b) e ∙ ap (λ (es : List Event). map entry_of (es ++ events (says ks (with_event event words new)))) (no_event item) ∙ says_events ks event words new in
      h ∙ ap (λ (es : List Entry). first ++ es) here
      ∙ sym (append_assoc first (left_entries event words) (entries_in new))
      ∙ ap (λ (es : List Entry). es ++ entries_in new) (sym p)

  pub stop_told : stop_of whole ≡ stop_of old → stop_of whole ≡ stop_of new
  stop_told h = h ∙ ap (λ (b : Run). stop_of b) e ∙ says_stop ks event words new

one_left : (event : Option Left) (words : List ℕ) → length (left_entries event words) ≤ 1
one_left None words = omega arith
one_left (Some e) words = omega arith

pub few_left : (first kept : List Entry) (event : Option Left) (words : List ℕ) (n : ℕ) → kept ≡ first ++ left_entries event words → length first ≤ n → length kept ≤ n + 1
few_left first kept event words n p le =
    let one = one_left event words in
    let lengths : length kept ≡ length first + length (left_entries event words) = ap length p ∙ length-append first (left_entries event words) in
    omega arith

-- what an answer was used for
pub goes_here : (old new : RunnerState) (answer : Answer) (item : Item) (ks : List ℕ) (event : Option Left) → GoesOn old answer item ks event new → (answers : List Answer) (i : ℕ) → i < length answers → answer ≡ get_or answers i answer
    → rest old (drop i answers) ≡ does (piece_of item) (says ks (with_event event (last_words_in new) (rest new (drop (i + 1) answers))))
goes_here old new answer item ks event g answers i lt is = ap (rest old) (from_index answers i answer lt is) ∙ g.goes (drop (i + 1) answers)

stops_now : (o : Option Overrun) (P : Type 0) → o ≡ None → IfNone o P → P
stops_now None P e h = h
stops_now (Some x) P e h = cc

-- a run that stops, and tells nothing more
pub record Over (left : Run) (stop : Option Stop) : Type 0 where
  pub no_items : items left ≡ []
  pub no_events : entries_in left ≡ []
  pub stop_is : stop_of left ≡ stop

over_at : (left now : Run) (stop : Option Stop) → left ≡ now → Over now stop → Over left stop
over_at left now stop e h = record {
  no_items = ap (λ (b : Run). items b) e ∙ h.no_items;
  no_events = ap (λ (b : Run). entries_in b) e ∙ h.no_events;
  stop_is = ap (λ (b : Run). stop_of b) e ∙ h.stop_is;
}

pub stopped : (old new : RunnerState) (answer : Answer) (o : Overrun) → old.overrun ≡ None → Stops old answer o new → (answers : List Answer) (i : ℕ) → i < length answers → answer ≡ get_or answers i answer → Over (rest old (drop i answers)) (Some (overrun o.c o.wait))
stopped old new answer o first s answers i lt is =
    let after : List Answer = drop (i + 1) answers in
    over_at (rest old (drop i answers)) (stops (overrun o.c o.wait) (state_in old (answer ∷ after))) (Some (overrun o.c o.wait))
    (ap (rest old) (from_index answers i answer lt is)
    ∙ stops_now old.overrun ((more : List Answer) → rest old (answer ∷ more) ≡ stops (overrun o.c o.wait) (state_in old (answer ∷ more))) first s.now after)
    (record { no_items = refl; no_events = refl; stop_is = refl })

past_end : {A : Type 0} (xs : List A) (i : ℕ) → length xs ≤ i → drop i xs ≡ []
past_end [] zero le = refl
past_end [] (suc i) le = refl
past_end (x ∷ xs) zero le = absurd (omega arith)
past_end (x ∷ xs) (suc i) le = past_end xs i (omega arith)

pub used_up : (held : RunnerState) (answers : List Answer) (i : ℕ) (stop : Option Stop) → length answers ≤ i → items (rest held []) ≡ [] → events (rest held []) ≡ [] → stop ≡ stop_of (rest held []) → Over (rest held (drop i answers)) stop
used_up held answers i stop le no_items no_events is =
    over_at (rest held (drop i answers)) (rest held []) stop (ap (rest held) (past_end answers i le))
    (record { no_items = no_items; no_events = ap (map entry_of) no_events; stop_is = sym is })

-- the log where the run is over
pub is_log : (log : Log) (whole left : Run) → log.events.version ≡ Two → items whole ≡ map piece_of log.items ++ items left → entries_in whole ≡ log.events.events ++ entries_in left → stop_of whole ≡ stop_of left → Over left (stop_in log.end) → IsLogOf log whole
is_log log whole left version same_items same_events same_stop h =
    let entries : entries_in whole ≡ log.events.events = same_events ∙ ap (λ (es : List Entry). log.events.events ++ es) h.no_events ∙ append-nil log.events.events in
    record {
      same_items = sym (same_items ∙ ap (λ (ps : List Piece). map piece_of log.items ++ ps) h.no_items ∙ append-nil (map piece_of log.items));
      same_events = ap (λ v. record { version = v; events = log.events.events }) version ∙ ap (λ (es : List Entry). record { version = Two; events = es }) (sym entries);
      same_end = sym (same_stop ∙ h.stop_is);
    }

-- and the headline with its event file
pub by_log : (plan : Layout) (script : Script) (ks : List Bounds) (answers : List Answer) (log : Log) → RunsByHeadline plan script ks → LeavesFewEvents plan script → length answers ≤ 1000000 → IsLogOf log (the_run plan script answers)
    → Headline plan script ks answers (spelling log.events.version log.events.events)
by_log plan script ks answers log law few short h =
    let le = few answers in
    let file : event_file plan script answers ≡ spelling log.events.version log.events.events = ap (λ (l : Listing). spelling l.version l.events) (sym h.same_events) in
    subst (λ (bytes : List ℕ). Headline plan script ks answers bytes) file (law answers (omega arith))
