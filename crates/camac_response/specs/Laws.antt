-- In every run the answers are in time, while the rates are kept.
use Rattle.std.specs.Prelude.{◌≡◌, ℕ, ◌≤◌, List, map, Some, None, slice_get}
use Rattle.camac_lang.specs.Tree.{Script}
use Rattle.camac_branch.specs.Branch.{Answer, IsSet}
use Rattle.camac_branch.specs.Plan.{Layout, IsPlan}
use Rattle.camac_model.specs.Meaning.{context}
use Rattle.camac_model.specs.Run.{service_bit, the_run}
use Rattle.camac_model.specs.Fine.{Bounds}
use Rattle.camac_model.specs.Behaviour.{Piece, demanded}
use Rattle.camac_model.specs.Moments.{Watch, Holds, Any, AnyStop}
use Rattle.camac_model.specs.Headline.{RunsSafely, no_count, nothing}
use Rattle.camac_response_times.specs.declared.source.Source.{Source}
use Rattle.camac_response_times.specs.Response.{stretch_wants, IsEnough, StartsBy}
use Rattle.camac_response.specs.Stretch.{no_stretch, stretch_watch, answers_watch}
use Rattle.camac_response.specs.Modules.{Raises, Pauses, at_start, waits_watch}
use Rattle.camac_response.specs.Lams.{Clears, Moods, lams_of, first_page, services_watch, ModulesKeep}

-- these are the services of a script with their bounds, in their order, at any rates; each has a bit of its own
pub record AreSources (plan : Layout) (script : Script) (ks : List Bounds) (ts : List Source) : Type 0 where
  pub bits : map (service_bit (context plan script)) script.services ≡ map (λ t. Some t.bit) ts
  pub cycles : map (λ k. k.cycles) ks ≡ map (λ t. t.cycles) ts
  pub apart : (i j : ℕ) (t u : Source) → slice_get ts i ≡ Some t → slice_get ts j ≡ Some u → t.bit ≡ u.bit → i ≡ j

-- the law of stretches: of each bit, whatever the branch answers
unfoldable pub StretchesEnd : Type 0
StretchesEnd =
    (plan : Layout) (script : Script) (ks : List Bounds) → RunsSafely plan script ks → (ts : List Source) → AreSources plan script ks ts
    → (g most : ℕ) → IsEnough (stretch_wants ts g) most → (answers : List Answer) → Holds (stretch_watch ts g most) (no_stretch None) (the_run plan script answers)

-- the law of answers in time: of each service, whatever the branch answers
unfoldable pub AnswersInTime : Type 0
AnswersInTime =
    (plan : Layout) (script : Script) (ks : List Bounds) → RunsSafely plan script ks → (ts : List Source) → AreSources plan script ks ts
    → (s : ℕ) (source : Source) → slice_get ts s ≡ Some source → (start : ℕ) → StartsBy ts source start
    → (answers : List Answer) → Holds (answers_watch ts s source start) (no_stretch None) (the_run plan script answers)

-- the lowest bit in a pattern that has a service is that of this one
pub record IsLowest (ts : List Source) (pattern number : ℕ) : Type 0 where
  pub source : Source
  pub numbered : slice_get ts number ≡ Some source
  pub asked : IsSet pattern source.bit
  pub least : (i : ℕ) (t : Source) → slice_get ts i ≡ Some t → IsSet pattern t.bit → source.bit ≤ t.bit

abbrev pub CallsLowest : List Source → Unit {0} → Piece → Type 0
CallsLowest ts u (demanded p None) = (i : ℕ) (t : Source) → slice_get ts i ≡ Some t → IsSet p t.bit → ⊥
CallsLowest ts u (demanded p (Some j)) = IsLowest ts p j
CallsLowest ts u _ = Unit {0}

abbrev pub lowest_watch : List Source → Watch (Unit {0}) (Unit {0})
lowest_watch ts = record { step = no_count; at_piece = CallsLowest ts; at_stop = AnyStop; at_end = Any }

-- the law of patterns: each operation calls the service of the lowest bit that has one, or none where none has
unfoldable pub LowestAreCalled : Type 0
LowestAreCalled =
    (plan : Layout) → IsPlan plan → (script : Script) (ks : List Bounds) (ts : List Source) → AreSources plan script ks ts
    → (answers : List Answer) → Holds (lowest_watch ts) nothing (the_run plan script answers)

-- the law of look-at-mes: where services clear their own look-at-mes and hide none, and modules do what a user believes of them, each look-at-me is
-- answered in time, and none waits longer
unfoldable pub LookAtMesAreAnswered : Type 0
LookAtMesAreAnswered =
    (plan : Layout) → IsPlan plan → (script : Script) (ks : List Bounds) → RunsSafely plan script ks → (ts : List Source) → AreSources plan script ks ts
    → (s : ℕ) (source : Source) → slice_get ts s ≡ Some source → (start : ℕ) → StartsBy ts source start
    → (by_plan : Clears) (moods : Moods) (raises : Raises) (pauses : Pauses) (answers : List Answer)
    → Holds (services_watch ts (lams_of script) by_plan source.bit) first_page (the_run plan script answers)
    → ModulesKeep ts (lams_of script) by_plan moods raises pauses source.bit (the_run plan script answers)
    → Holds (waits_watch ts raises pauses s source start) at_start (the_run plan script answers)
