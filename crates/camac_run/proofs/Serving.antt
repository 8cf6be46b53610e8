-- From one answer of a runner to the next.
use Rattle.std.proofs.Common.{◌≡◌, ℕ, ◌≤◌, List, [], ◌∷◌, length, Option, Some, None, refl, sym, ap, subst, ◌∙◌}
use Rattle.std.specs.Prelude.{option_map}
use Rattle.camac_lang.specs.Tree.{Service, Script}
use Rattle.camac_branch.specs.Branch.{Branch, Answer, pattern_of}
use Rattle.camac_branch.specs.Plan.{Layout}
use Rattle.camac_model.specs.State.{State}
use Rattle.camac_model.specs.Behaviour.{Behaviour, does, ends, stops, Stop, Piece, then_do, demanded, lock_released, event_left, pieces, uses, reached}
use Rattle.camac_model.specs.Fine.{most_turns}
use Rattle.camac_model.specs.Laws.{EndsWith}
use Rattle.camac_model.specs.Meaning.{Context, context}
use Rattle.camac_model.specs.Run.{Chosen, service_for, service_meaning, event_of, serve, rounds}
use Rattle.camac_model.proofs.AnswersUsed.{rounds_suffice}
use Rattle.camac_model.proofs.Counts.{services_count}
use Rattle.camac_model.proofs.Runs.{where_reached, drop_length}
use Rattle.camac_machine.proofs.Fine.{turns_are}
use Rattle.camac_machine.specs.Rest.{says, onward, served}

-- what goes on in the same way at each end of a kind
then_same : {A : Type 0} (Q : State → Type 0) (b : Behaviour State) (f g : State → Behaviour A) → EndsWith Q b → ((s : State) → Q s → f s ≡ g s) → then_do b f ≡ then_do b g
then_same Q (does p b) f g q h = ap (does p) (then_same Q b f g q h)
then_same Q (ends s) f g q h = h s q
then_same Q (stops w s) f g q h = refl

pub starts : (plan : Layout) (script : Script) (b : Branch) (answers : List Answer) → onward (context plan script) script.services b answers ≡ rounds (length answers) (context plan script) 65535 script.services b answers
unfolding onward
starts plan script b answers = ap (λ n. rounds (length answers) (context plan script) n script.services b answers) turns_are

module _ (plan : Layout) (script : Script) where
  abbrev around : Context
  around = context plan script

  -- an operation that calls no service
  pub onward_passes : (b : Branch) (a : Answer) (answers : List Answer) → service_for around (pattern_of plan b a.gl) script.services ≡ None → onward around script.services b (a ∷ answers) ≡ does (demanded (pattern_of plan b a.gl) None) (onward around script.services b answers)
  unfolding onward
  onward_passes b a answers e =
      let p : ℕ = pattern_of plan b a.gl in
      ap (λ (o : Option Chosen). does (demanded p (option_map (λ v. v.number) o)) (serve around most_turns o b answers (rounds (length answers) around most_turns script.services))) e

  served_same : (v : Chosen) (b : Branch) (answers : List Answer) → serve around most_turns (Some v) b answers (rounds (length answers) around most_turns script.services) ≡ served around script.services v.bit (service_meaning around most_turns v.service b answers)
  unfolding onward served
  served_same v b answers =
      let o : Behaviour State = service_meaning around most_turns v.service b answers in
      let left = (services_count plan script most_turns v.service b answers).answers_left in
      let fewer : length (reached o).answers ≤ length answers = subst (λ l. length l ≤ length answers) (sym left) (drop_length (uses (pieces o)) answers) in
      then_same (λ t. length t.answers ≤ length answers) o
      (λ s. does (event_left (event_of v.bit s)) (rounds (length answers) around most_turns script.services s.branch s.answers))
      (λ s. does (event_left (event_of v.bit s)) (rounds (length s.answers) around most_turns script.services s.branch s.answers))
      (where_reached (λ t. length t.answers ≤ length answers) o fewer)
      (λ s l. ap (does (event_left (event_of v.bit s))) (rounds_suffice plan script most_turns (length answers) s.branch s.answers l))

  -- one that calls a service
  pub onward_serves : (b : Branch) (a : Answer) (answers : List Answer) (v : Chosen) → service_for around (pattern_of plan b a.gl) script.services ≡ Some v → onward around script.services b (a ∷ answers) ≡ does (demanded (pattern_of plan b a.gl) (Some v.number)) (served around script.services v.bit (service_meaning around most_turns v.service b answers))
  unfolding onward
  onward_serves b a answers v e =
      let p : ℕ = pattern_of plan b a.gl in
      ap (λ (o : Option Chosen). does (demanded p (option_map (λ v. v.number) o)) (serve around most_turns o b answers (rounds (length answers) around most_turns script.services))) e
      ∙ ap (does (demanded p (Some v.number))) (served_same v b answers)

module _ (c : Context) (vs : List Service) (bit : ℕ) where
  pub served_does : (p : Piece) (b : Behaviour State) → served c vs bit (does p b) ≡ does p (served c vs bit b)
  unfolding served
  served_does p b = refl

  pub served_stops : (w : Stop) (s : State) → served c vs bit (stops w s) ≡ stops w s
  unfolding served
  served_stops w s = refl

  pub served_says : (ks : List ℕ) (b : Behaviour State) → served c vs bit (says ks b) ≡ says ks (served c vs bit b)
  served_says [] b = refl
  served_says (k ∷ ks) b = served_does (lock_released k) (says ks b) ∙ ap (does (lock_released k)) (served_says ks b)

pub onward_over : (c : Context) (vs : List Service) (b : Branch) → onward c vs b [] ≡ ends tt
unfolding onward
onward_over c vs b = refl
