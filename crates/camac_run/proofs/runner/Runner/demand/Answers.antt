use Rattle.std.proofs.Common.{◌≡◌, ℕ, ◌+◌, ◌<◌, Some, false, refl, sym, subst, ap, ◌∙◌, arith}
use Rattle.std.specs.Prelude.{None, option_map, unwrap_or}
use Rattle.camac_branch.specs.Branch.{pattern_of}
use Rattle.camac_branch.specs.Crates.{Crates, branch_of}
use Rattle.camac_model.specs.Behaviour.{does, demanded}
use Rattle.std.specs.Borrow.{Bor}
use Rattle.camac_rules.specs.Checked.{CheckedScript}
use Rattle.camac_model.specs.Fine.{most_turns}
use Rattle.camac_model.specs.Run.{Chosen, service_for, service_meaning}
use Rattle.camac_machine.specs.MachineState.{context_in, pending_of, is_paused_at, bit_at}
use Rattle.camac_machine.specs.Rest.{onward, served, says}
use Rattle.camac_run.specs.Runner.{RunnerState, rest, with_event, last_words_in}
use Rattle.camac_run.specs.Sound.{runner_state}
use Rattle.camac_machine.proofs.Lists.{place}
use Rattle.camac_run.proofs.Early.{idle_free}
use Rattle.camac_run.proofs.Serving.{onward_passes, onward_serves}
use Rattle.camac_run.proofs.Sizes.{machine_fits}
use Rattle.camac_run.proofs.Told.{told_along, counted, keeps_limit, keeps_awake, each_none, sound_after, sound_counted, serve_fine, none_wanted, below_along, each_some, along_some}
use Rattle.camac_run.proofs.runner.Runner.demand.Goals as goal

pub serve-requires : goal.serve-requires
serve-requires g c =
    let inv = c.self.invariant in
    let pending : c.self.inside.pending ≡ None = none_wanted pending_of c.self.inside.pending (ap (λ h. h.pending) c.self.view_is ∙ c.requires.idle) in
    let idle = rw pending at inv.idle in
    (machine_fits _ c.requires-raw.1.1.1.0, (inv.room, (inv.quiet, (idle, (inv.fits, c.in-Some.ensures.known)))))

pub invariant_of-self : goal.invariant_of-self
invariant_of-self g c =
    let inv = c.self.invariant in
    let pending : c.self.inside.pending ≡ None = none_wanted pending_of c.self.inside.pending (ap (λ h. h.pending) c.self.view_is ∙ c.requires.idle) in
    let more : c.self.inside.fed < 4294967295 = subst (λ (h : RunnerState). h.fed < 4294967295) (sym c.self.view_is) c.requires.fed in
    let few = inv.events in
    sound_counted _ _ _ _ _ (c.self.inside.fed + 1) c.self.inside.events inv (omega (arith, few)) (omega (arith, more)) (rw pending tt)

pub returns-in-None-clause-keeps : goal.returns-in-None-clause-keeps
returns-in-None-clause-keeps g c =
    let r = c.self.inside in
    let pending : r.pending ≡ None = none_wanted pending_of r.pending (ap (λ h. h.pending) c.self.view_is ∙ c.requires.idle) in
    rw (← c.self.view_is) (keeps_awake _ _ refl (ap is_paused_at pending) (each_none r.overrun _ (rw pending (omega arith))))

pub returns-in-None-clause-goes : goal.returns-in-None-clause-goes
returns-in-None-clause-goes g c =
    let r = c.self.inside in
    let k = r.machine.checked.now in
    let pending : r.pending ≡ None = none_wanted pending_of r.pending (ap (λ h. h.pending) c.self.view_is ∙ c.requires.idle) in
    let first : r.overrun ≡ None = ap (λ h. h.overrun) c.self.view_is ∙ c.requires.first in
    let pat : c.demand-pattern.result ≡ pattern_of k.plan (branch_of r.machine.branch) c.args.answer.gl = c.demand-pattern.ensures ∙ ap (λ p. pattern_of p (branch_of r.machine.branch) c.args.answer.gl) c.plan.ensures in
    let none : service_for (context_in k) (pattern_of k.plan (branch_of r.machine.branch) c.args.answer.gl) k.script.services ≡ None = ap (λ n. service_for (context_in k) n k.script.services) (sym pat) ∙ c.in-None.ensures.chosen in
    rw (← c.self.view_is, c.tell_event.ensures) (record {
      first = first;
      goes = λ answers. rw pending
          (onward_passes k.plan k.script (branch_of r.machine.branch) c.args.answer answers none
          ∙ ap (λ n. does (demanded n None) (onward (context_in k) k.script.services (branch_of r.machine.branch) answers)) (sym pat)
          ∙ ap (λ us. does (demanded c.demand-pattern.result None) (says us (onward (context_in k) k.script.services (branch_of r.machine.branch) answers))) (sym c.clear.ensures));
      fed = refl;
      same = refl;
      next = tt;
      none = refl;
      ended = tt;
      overrun = first;
      checked = refl;
      at_demand = rw pending tt;
    })

pub invariant_of-self-in-Some : goal.invariant_of-self-in-Some
invariant_of-self-in-Some g c =
    let inv = c.self.invariant in
    let r = c.self.inside in
    let k = r.machine.checked.now in
    let i = c.in-Some.called.number in
    let p = place k.script.services i c.in-Some.ensures.known in
    let s = c.serve.ensures.serves p.0 p.1 in
    let new = c.serve.new.self in
    let few = inv.events in
    let more : r.fed < 4294967295 = subst (λ (h : RunnerState). h.fed < 4294967295) (sym c.self.view_is) c.requires.fed in
    let pending : r.pending ≡ None = none_wanted pending_of r.pending (ap (λ h. h.pending) c.self.view_is ∙ c.requires.idle) in
    let free : (n : ℕ) → (branch_of c.copy-self-inside.result n).locked ≡ false = λ n. subst (λ (b : Crates). (branch_of b n).locked ≡ false) (sym c.copy-self-inside.ensures) (idle_free r.machine (rw pending at inv.idle) inv.room n) in
    sound_after r.machine new c.tell_unlocks.new.unlocks r.pending c.serve.new.pending r.fed (r.fed + 1) r.events i r.at_demand c.copy-self-inside.result c.tell_unlocks.ensures.taken inv (omega (arith, few)) (omega (arith, more)) (each_some c.serve.new.pending _ free) s.room s.checked s.service c.in-Some.ensures.known s.awaits s.begun s.over
    (serve_fine r.machine new i p.0 c.serve.new.pending inv.checked p.1 s)

pub close-event-requires : goal.close-event-requires
close-event-requires g c =
    let inv = c.self.invariant in
    let r = c.self.inside in
    let i = c.in-Some.called.number in
    let p = place r.machine.checked.now.script.services i c.in-Some.ensures.known in
    let s = c.serve.ensures.serves p.0 p.1 in
    let few : r.fed < 4294967295 = subst (λ (h : RunnerState). h.fed < 4294967295) (sym c.self.view_is) c.requires.fed in
    let most = inv.events in
    (search, (below_along c.serve.new.self r.machine.checked i s.checked s.service c.in-Some.ensures.known, (omega (arith, most), omega (arith, few))))

pub returns-in-Some-clause-keeps : goal.returns-in-Some-clause-keeps
returns-in-Some-clause-keeps g c =
    let r = c.self.inside in
    let i = c.in-Some.called.number in
    let new = c.serve.new.self in
    let next' = c.serve.new.pending in
    let p = place r.machine.checked.now.script.services i c.in-Some.ensures.known in
    let s = c.serve.ensures.serves p.0 p.1 in
    let pending : r.pending ≡ None = none_wanted pending_of r.pending (ap (λ h. h.pending) c.self.view_is ∙ c.requires.idle) in
    rw (← c.self.view_is)
    (keeps_limit (runner_state r.machine r.pending r.fed r.events r.has_event r.overrun r.at_demand r.limit) new next' c.close-event.result (r.fed + 1) r.events r.has_event r.overrun c.copy-self-inside.result r.limit c.close-event.new.self s.room refl
    (λ e. rw pending (c.serve.ensures.pauses e))
    (rw pending (let soon = c.serve.ensures.soon in omega (arith, soon)))
    s.awaits (serve_fine r.machine new i p.0 next' c.self.invariant.checked p.1 s) c.close-event.ensures.ended c.close-event.ensures.goes_on)

pub returns-in-Some-clause-goes : goal.returns-in-Some-clause-goes
returns-in-Some-clause-goes g c =
    let r = c.self.inside in
    let k = r.machine.checked.now in
    let b = branch_of r.machine.branch in
    let i = c.in-Some.called.number in
    let bit = c.in-Some.called.gl in
    let new = c.serve.new.self in
    let next' = c.serve.new.pending in
    let event = c.close-event.result in
    let after = c.close-event.new.self in
    let p = place k.script.services i c.in-Some.ensures.known in
    let s = c.serve.ensures.serves p.0 p.1 in
    let v : Chosen = record { number = i; bit = bit; service = p.0 } in
    let pending : r.pending ≡ None = none_wanted pending_of r.pending (ap (λ h. h.pending) c.self.view_is ∙ c.requires.idle) in
    let first : r.overrun ≡ None = ap (λ h. h.overrun) c.self.view_is ∙ c.requires.first in
    let pat : c.demand-pattern.result ≡ pattern_of k.plan b c.args.answer.gl = c.demand-pattern.ensures ∙ ap (λ p. pattern_of p b c.args.answer.gl) c.plan.ensures in
    let called : service_for (context_in k) (pattern_of k.plan b c.args.answer.gl) k.script.services ≡ Some v =
    ap (λ n. service_for (context_in k) n k.script.services) (sym pat) ∙ c.in-Some.ensures.chosen ∙ ap (option_map (λ w. record { number = i; bit = bit; service = w })) p.1 in
    let its : bit_at k i ≡ bit = ap (λ o. unwrap_or o 0) c.in-Some.ensures.bit in
    let all = counted new next' event (r.fed + 1) r.events r.has_event r.overrun c.copy-self-inside.result r.limit after s.room.missed c.close-event.ensures.ended c.close-event.ensures.goes_on in
    rw (← c.self.view_is, c.tell_event-in-Some.ensures, c.tell_unlocks.ensures.same) (record {
      first = first;
      goes = λ answers. rw pending
          (onward_serves k.plan k.script b c.args.answer answers v called
          ∙ ap (λ n. does (demanded n (Some i)) (served (context_in k) k.script.services bit (service_meaning (context_in k) most_turns p.0 b answers))) (sym pat)
          ∙ ap (does (demanded c.demand-pattern.result (Some i)))
          (ap (served (context_in k) k.script.services bit) (sym (s.goes answers))
          ∙ told_along new r.machine.checked i bit next' event (r.fed + 1) r.events r.has_event r.overrun c.copy-self-inside.result r.limit after answers s.checked s.service its s.over c.close-event.ensures.ended c.close-event.ensures.goes_on new.unlocks.items
          ∙ ap (λ us. says us (with_event event (last_words_in after) (rest after answers))) (sym c.tell_unlocks.ensures.told)));
      fed = all.3;
      same = all.0;
      next = all.1;
      none = all.2;
      ended = all.7;
      overrun = all.4 ∙ first;
      checked = all.5 ∙ ap (λ (z : Bor CheckedScript). z.now) s.checked;
      at_demand = rw pending (along_some after.pending after.at_demand c.copy-self-inside.result r.machine.branch c.copy-self-inside.ensures all.6);
    })
