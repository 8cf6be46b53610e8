-- What a service surely makes first, after the demand that calls it.
use Rattle.std.proofs.Common.{◌≡◌, ◌∙◌, ℕ, zero, suc, ◌<◌, List, [], ◌∷◌, length, get_or, replicate, Bool, false, Option, None, Some, refl, sym, ap, subst, arith}
use Rattle.std.proofs.Math.Path.{fun_ext}
use Rattle.std.proofs.lemmas.Option.{same_Some}
use Rattle.std.specs.Prelude.{slice_get}
use Rattle.camac_branch.specs.Address.{Address}
use Rattle.camac_branch.specs.Branch.{Answer, Branch, pattern_of}
use Rattle.camac_branch.specs.Crates.{branch_of}
use Rattle.camac_branch.specs.Plan.{IsPlan}
use Rattle.camac_rules.specs.Checked.{CheckedScript, IsChecked}
use Rattle.camac_lang.specs.Tree.{Service}
use Rattle.camac_model.specs.Behaviour.{Behaviour, does, ends, Piece, demanded, event_left, Action, then_do}
use Rattle.camac_model.specs.Fine.{most_turns}
use Rattle.camac_model.specs.Meaning.{block_meaning}
use Rattle.camac_model.specs.Run.{Chosen, event_of, service_for, service_meaning}
use Rattle.camac_model.specs.State.{fresh}
use Rattle.camac_model.proofs.Demands.{demands_call_services}
use Rattle.camac_machine.specs.MachineState.{bounds_at, context_in}
use Rattle.camac_machine.specs.Rest.{Operation, onward, says, served}
use Rattle.camac_machine.proofs.Blocks.{then_ends}
use Rattle.camac_machine.proofs.Bounds.{fine_at}
use Rattle.camac_run.specs.Ahead.{AreAhead, BeginsWith, releases_first}
use Rattle.camac_run.specs.Operation.{past_first}
use Rattle.camac_run.specs.Runner.{last_words_in, rest, rest_from, with_event}
use Rattle.camac_run.specs.Sure.{Adds, IsKnown, LeadsTo}
use Rattle.camac_run.specs.declared.ahead.Known.{Known}
use Rattle.camac_run.specs.declared.member.Member.{Member}
use Rattle.camac_run.proofs.Following.{quiet_between}
use Rattle.camac_run.proofs.Making.{goes_first, leads_along}
use Rattle.camac_run.proofs.Serving.{onward_passes, onward_serves}

-- where it begins all variables are 0, and no register is set
abbrev pub at_begin : Known
at_begin = record { variables = replicate 64 (Some 0); registers = replicate 64 None }

all_zero : (n i v : ℕ) → get_or (replicate n (Some 0)) i None ≡ Some v → 0 ≡ v
all_zero zero i v e = absurd (cc)
all_zero (suc n) zero v e = same_Some 0 v e
all_zero (suc n) (suc i) v e = all_zero n i v e

none_set : (n i : ℕ) (at : Address) → get_or (replicate n None) i None ≡ Some at → ⊥
none_set zero i at e = absurd (cc)
none_set (suc n) zero at e = absurd (cc)
none_set (suc n) (suc i) at e = none_set n i at e

begin_known : (b : Branch) (answers : List Answer) → IsKnown at_begin.variables at_begin.registers (fresh b answers)
begin_known b answers = record { variables_are = λ i v e. all_zero 64 i v e; registers_are = λ i at e. absurd (none_set 64 i at e) }

-- where no service is called, nothing is surely made
pub begins_with_none : (c : CheckedScript) (i : ℕ) → BeginsWith c i []
begins_with_none c i old new a pattern unlocks event same idle g = (tt, λ some. absurd (omega (arith, some)))

same_piece : (p q : Piece) (f g : Behaviour (Unit {0})) → does p f ≡ does q g → p ≡ q
same_piece p q f g e = cc

same_number : (p q j i : ℕ) → demanded p (Some j) ≡ demanded q (Some i) → j ≡ i
same_number p q j i e = cc

none_is_called : (p q i : ℕ) → demanded p None ≡ demanded q (Some i) → ⊥
none_is_called p q i e = absurd (cc)

module _ (c : CheckedScript) (checked : IsChecked c) (planned : IsPlan c.plan) (i : ℕ) (v : Service) (os : List Member) (there : slice_get c.script.services i ≡ Some v) (after : Known) (all : Bool) (no_release : releases_first os ≡ false) (adds : Adds c.plan (block_meaning (context_in c) most_turns v.body) at_begin [] all after os) where
  abbrev body : Action
  body = block_meaning (context_in c) most_turns v.body

  leads : (b : Branch) → LeadsTo c.plan (bounds_at c i) body (fresh b []) os
  leads b =
      subst (λ l. LeadsTo c.plan (bounds_at c i) body (fresh b []) l) (sym adds.1)
      (leads_along c.plan (bounds_at c i) body (λ u. then_do (body u) (λ s. ends s)) (fresh b []) (fresh b []) adds.0 (λ answers. sym (then_ends (body (fresh b answers))))
      (goes_first c.plan body at_begin after at_begin adds.0 all adds.2 (bounds_at c i) (λ s. ends s) (fresh b []) (begin_known b [])))

  served_ahead : (bit : ℕ) (b : Branch) → AreAhead os (λ answers. served (context_in c) c.script.services bit (service_meaning (context_in c) most_turns v b answers))
  unfolding served
  served_ahead bit b =
      leads b (λ answers. fine_at c c.bounds c.script.services i v (record { cycles = 0; words = 0; steps = 0 }) checked.services there most_turns (omega arith) b answers)
      (λ s. does (event_left (event_of bit s)) (onward (context_in c) c.script.services s.branch s.answers))

  pub begins_with : BeginsWith c i os
  begins_with old new a pattern unlocks event same idle g = by (service_for (context_in c) p c.script.services) refl
    where
      b : Branch
      b = branch_of old.crates

      p : ℕ
      p = pattern_of c.plan b a.gl

      later : List Answer → Behaviour (Unit {0})
      later answers = says unlocks (with_event event (last_words_in new) (rest new answers))

      goes : (answers : List Answer) → onward (context_in c) c.script.services b (a ∷ answers) ≡ does (demanded pattern (Some i)) (later answers)
      goes answers =
          sym (ap (λ (w : Option Operation). rest_from w old (a ∷ answers)) idle ∙ ap (λ (k : CheckedScript). onward (context_in k) k.script.services b (a ∷ answers)) same)
          ∙ g.goes answers

      by : (o : Option Chosen) → service_for (context_in c) p c.script.services ≡ o → AreAhead os (rest new) × (0 < length os → (unlocks ≡ []) × (event ≡ None))
      by None e =
          absurd (none_is_called p pattern i (same_piece (demanded p None) (demanded pattern (Some i)) (onward (context_in c) c.script.services b []) (later []) (sym (onward_passes c.plan c.script b a [] e) ∙ goes [])))
      by (Some u) e =
          let its : Service → List Answer → Behaviour (Unit {0}) = λ w answers. served (context_in c) c.script.services u.bit (service_meaning (context_in c) most_turns w b answers) in
          let first : (answers : List Answer) → does (demanded p (Some u.number)) (its u.service answers) ≡ does (demanded pattern (Some i)) (later answers) = λ answers. sym (onward_serves c.plan c.script b a answers u e) ∙ goes answers in
          let number : u.number ≡ i = same_number p pattern u.number i (same_piece (demanded p (Some u.number)) (demanded pattern (Some i)) (its u.service []) (later []) (first [])) in
          let listed : slice_get c.script.services u.number ≡ Some u.service = (((demands_call_services c.plan planned c.script p).called u).0 e).asked.numbered in
          let same_service : v ≡ u.service = same_Some v u.service (sym there ∙ ap (slice_get c.script.services) (sym number) ∙ listed) in
          quiet_between os unlocks event (last_words_in new) (rest new) no_release
          (subst (λ (r : List Answer → Behaviour (Unit {0})). AreAhead os r) (fun_ext (λ answers. ap (λ w. its w answers) same_service ∙ ap past_first (first answers))) (served_ahead u.bit b))
