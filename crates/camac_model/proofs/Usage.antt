-- The usage of each event of a run is that of its service's pieces.
use Rattle.std.proofs.Common.{◌≡◌, ℕ, zero, suc, ◌+◌, List, [], ◌∷◌, length, Option, Some, None, refl, ap}
use Rattle.std.specs.Prelude.{min}
use Rattle.camac_lang.specs.Tree.{Script}
use Rattle.camac_branch.specs.Branch.{pattern_of, Branch, Answer, start}
use Rattle.camac_branch.specs.Plan.{Layout}
use Rattle.camac_model.specs.State.{State, fresh}
use Rattle.camac_model.specs.Behaviour.{Behaviour, does, ends, stops, Stop, pieces, event_left}
use Rattle.camac_model.specs.Meaning.{context}
use Rattle.camac_model.specs.Run.{Chosen, service_for, service_meaning, event_of, serve, rounds, run}
use Rattle.camac_model.specs.Laws.{Usage, none_used, used_with, TellsUsage, EventsTell, RunEventsTell}
use Rattle.camac_model.proofs.Rules.{Meets, then_meets}
use Rattle.camac_model.proofs.Kept.{IsStepwise, Still, script_keeps}
use Rattle.camac_model.proofs.Counts.{one_missed}

-- a state counts the usage so far
abbrev Counted : Usage → State → Type 0
Counted u s = (s.cost ≡ u.cycles) × (s.missed ≡ min 65535 u.missed)

stepwise : IsStepwise used_with TellsUsage Counted
stepwise = record {
  on_step = λ u s i. i;
  on_store = λ u env regs s i. i;
  on_word = λ u w s i. i;
  on_cycle = λ u at f d r a rest s e i. (tt, (ap (λ k. k + (1 + a.wait)) i.0, one_missed r.x s.missed u.missed i.1));
  on_lock = λ u c a rest s e free i. (tt, (ap (λ k. k + a.wait) i.0, i.1));
  on_release = λ u c s i. (tt, i);
}

abbrev AnyStop : Usage → Stop → State → Type 0
AnyStop u w s = Unit {0}

abbrev AnyEnd : Usage → Unit {0} → Type 0
AnyEnd u v = Unit {0}

abbrev MeetsUsage : Usage → Behaviour (Unit {0}) → Type 0
MeetsUsage u b = Meets used_with TellsUsage AnyStop AnyEnd u b

at_any_stop : (u : Usage) (b : Behaviour State) → Meets used_with TellsUsage (Still used_with TellsUsage Counted) Counted u b → Meets used_with TellsUsage AnyStop Counted u b
at_any_stop u (does p b) h = (h.0, at_any_stop (used_with u p) b h.1)
at_any_stop u (ends s) h = h
at_any_stop u (stops w s) h = tt

module _ (plan : Layout) (script : Script) (n : ℕ) where
  rounds_tell : (k : ℕ) (u : Usage) (b : Branch) (answers : List Answer) → MeetsUsage u (rounds k (context plan script) n script.services b answers)
  rounds_tell zero u b answers = tt
  rounds_tell (suc k) u b [] = tt
  rounds_tell (suc k) u b (a ∷ rest) = (tt, go (service_for (context plan script) (pattern_of plan b a.gl) script.services) (λ u' b' rest'. rounds_tell k u' b' rest'))
    where
      go : (o : Option Chosen) → ((u' : Usage) (b' : Branch) (rest' : List Answer) → MeetsUsage u' (rounds k (context plan script) n script.services b' rest')) → MeetsUsage none_used (serve (context plan script) n o b rest (rounds k (context plan script) n script.services))
      go None ih = ih none_used b rest
      go (Some v) ih =
          let o : Behaviour State = service_meaning (context plan script) n v.service b rest in
          then_meets used_with TellsUsage AnyStop Counted AnyEnd none_used o (λ s. does (event_left (event_of v.bit s)) (rounds k (context plan script) n script.services s.branch s.answers))
          (at_any_stop none_used o (script_keeps used_with TellsUsage Counted stepwise plan script v.service.body n none_used (fresh b rest) (refl, refl)))
          (λ u' s i. (i, ih u' s.branch s.answers))

events_tell : (u : Usage) (b : Behaviour (Unit {0})) → MeetsUsage u b → EventsTell u (pieces b)
events_tell u (does p b) h = (h.0, events_tell (used_with u p) b h.1)
events_tell u (ends v) h = tt
events_tell u (stops w s) h = tt

pub run_events_tell : RunEventsTell
run_events_tell plan script n answers =
    events_tell none_used (run n plan script answers) (rounds_tell plan script n (length answers) none_used start answers)
