use Rattle.std.proofs.Common.{◌≡◌, ℕ, ◌+◌, ◌<◌, Some, refl, sym, subst, ap, ◌∙◌, arith}
use Rattle.std.specs.Prelude.{None, false}
use Rattle.std.specs.Borrow.{Bor}
use Rattle.arrayvec.specs.ArrayVec.{ArrayVec}
use Rattle.camac_rules.specs.Checked.{CheckedScript}
use Rattle.camac_model.specs.Behaviour.{does, then_do}
use Rattle.camac_machine.specs.declared.machine.Machine.{Machine}
use Rattle.camac_machine.specs.MachineState.{context_in, state_of, left_in, pending_of, asked, is_paused_at, IsPending, piece_of, bit_at}
use Rattle.camac_machine.specs.Rest.{is_paused, follows, served, says}
use Rattle.camac_run.specs.Runner.{RunnerState, rest, with_event, last_words_in}
use Rattle.camac_run.specs.Sound.{runner_state}
use Rattle.camac_run.proofs.Serving.{served_does, served_stops}
use Rattle.camac_run.proofs.Sizes.{machine_fits}
use Rattle.camac_run.proofs.Told.{asked_is, told_along, counted, keeps_limit, keeps_awake, each_none, sound_after, stays_in, take_fine, settle_fine, below_along, each_some}
use Rattle.camac_run.proofs.runner.Runner.resume.Goals as goal

pub take-taken-requires : goal.take-taken-requires
take-taken-requires g c =
    let pending : c.self.inside.pending ≡ Some c.in-Some.pending = c.in-Some.is in
    let inv = c.self.invariant in
    let awake : is_paused_at c.self.inside.pending ≡ false = ap (λ h. is_paused h.pending) c.self.view_is ∙ c.requires.awake in
    (machine_fits _ c.requires-raw.1.1.1.0, (inv.room, (inv.quiet, (asked_is c.self.inside.pending c.in-Some.pending (IsPending c.self.inside.machine) pending awake inv.awaits, rw pending at inv.fine))))

pub go_further-requires : goal.go_further-requires
go_further-requires g c =
    let pending : c.self.inside.pending ≡ Some c.in-Some.pending = c.in-Some.is in
    let inv = c.self.invariant in
    let t = c.in-None-taken.ensures.took in (
      machine_fits _ c.requires-raw.1.1.1.0,
      (
        t.room,
        (
          ap (λ (v : ArrayVec ℕ). v.items) t.unlocks ∙ inv.quiet,
          rw pending (t.can_follow, (stays_in c.self.inside.machine c.take-taken.new.self (asked (Some c.in-Some.pending)) t.begun t.checked (rw pending at inv.begun), take_fine c.self.inside.machine c.take-taken.new.self c.in-Some.pending c.args.answer c.take-taken.new.item (rw pending at inv.fine) t)),
        ),
      ),
    )

pub invariant_of-self : goal.invariant_of-self
invariant_of-self g c =
    let pending : c.self.inside.pending ≡ Some c.in-Some.pending = c.in-Some.is in
    let inv = c.self.invariant in
    let r = c.self.inside in
    let mid = c.take-taken.new.self in
    let new = c.go_further.new.self in
    let next' = c.go_further.new.pending in
    let t = c.in-None-taken.ensures.took in
    let s = rw pending at c.go_further.ensures.settles in
    let few = inv.events in
    let more : r.fed < 4294967295 = subst (λ (h : RunnerState). h.fed < 4294967295) (sym c.self.view_is) c.requires.fed in
    let fine = take_fine r.machine mid c.in-Some.pending c.args.answer c.take-taken.new.item (rw pending at inv.fine) t in
    sound_after r.machine new c.tell_unlocks.new.unlocks r.pending next' r.fed (r.fed + 1) r.events r.machine.service r.at_demand r.at_demand c.tell_unlocks.ensures.taken inv (omega (arith, few)) (omega (arith, more)) (each_some next' _ (rw pending at inv.free)) s.room (s.checked ∙ t.checked) (s.service ∙ t.service) (rw pending at inv.service) s.awaits s.begun s.over
    (settle_fine mid new (λ z. follows z (pending_of c.in-Some.pending)) next' fine s)

pub close-event-requires : goal.close-event-requires
close-event-requires g c =
    let pending : c.self.inside.pending ≡ Some c.in-Some.pending = c.in-Some.is in
    let inv = c.self.invariant in
    let r = c.self.inside in
    let t = c.in-None-taken.ensures.took in
    let s = rw pending at c.go_further.ensures.settles in
    let few : r.fed < 4294967295 = subst (λ (h : RunnerState). h.fed < 4294967295) (sym c.self.view_is) c.requires.fed in
    let most = inv.events in
    (search, (below_along c.go_further.new.self r.machine.checked r.machine.service (s.checked ∙ t.checked) (s.service ∙ t.service) (rw pending at inv.service), (omega (arith, most), omega (arith, few))))

pub returns-in-None-taken-clause-goes : goal.returns-in-None-taken-clause-goes
returns-in-None-taken-clause-goes g c =
    let pending : c.self.inside.pending ≡ Some c.in-Some.pending = c.in-Some.is in
    let r = c.self.inside in
    let k = r.machine.checked.now in
    let ctx = context_in k in
    let vs = k.script.services in
    let bit = bit_at k r.machine.service in
    let mid = c.take-taken.new.self in
    let new = c.go_further.new.self in
    let next' = c.go_further.new.pending in
    let event = c.close-event.result in
    let after = c.close-event.new.self in
    let d = c.take-taken.new.item in
    let first : r.overrun ≡ None = ap (λ h. h.overrun) c.self.view_is ∙ c.requires.first in
    let t = c.in-None-taken.ensures.took in
    let s = rw pending at c.go_further.ensures.settles in
    let all = counted new next' event (r.fed + 1) r.events r.has_event r.overrun r.at_demand r.limit after s.room.missed c.close-event.ensures.ended c.close-event.ensures.goes_on in
    rw (← c.self.view_is, c.tell_event.ensures, c.tell_unlocks.ensures.same) (record {
      first = first;
      goes = λ answers. rw pending
          (ap (served ctx vs bit) (t.goes answers)
          ∙ served_does ctx vs bit (piece_of d) (then_do (follows (context_in mid.checked.now) (pending_of c.in-Some.pending) (state_of mid answers)) (left_in mid))
          ∙ ap (does (piece_of d))
          (ap (served ctx vs bit) (sym (s.goes answers))
          ∙ told_along new r.machine.checked r.machine.service bit next' event (r.fed + 1) r.events r.has_event r.overrun r.at_demand r.limit after answers (s.checked ∙ t.checked) (s.service ∙ t.service) refl s.over c.close-event.ensures.ended c.close-event.ensures.goes_on new.unlocks.items
          ∙ ap (λ us. says us (with_event event (last_words_in after) (rest after answers))) (sym c.tell_unlocks.ensures.told)));
      fed = all.3;
      same = all.0;
      next = all.1;
      none = all.2;
      ended = all.7;
      overrun = all.4 ∙ first;
      checked = all.5 ∙ ap (λ (z : Bor CheckedScript). z.now) (s.checked ∙ t.checked);
      at_demand = rw pending all.6;
    })

pub returns-in-None-taken-clause-keeps : goal.returns-in-None-taken-clause-keeps
returns-in-None-taken-clause-keeps g c =
    let pending : c.self.inside.pending ≡ Some c.in-Some.pending = c.in-Some.is in
    let inv = c.self.invariant in
    let r = c.self.inside in
    let mid = c.take-taken.new.self in
    let new = c.go_further.new.self in
    let next' = c.go_further.new.pending in
    let t = c.in-None-taken.ensures.took in
    let s = rw pending at c.go_further.ensures.settles in
    let fine = take_fine r.machine mid c.in-Some.pending c.args.answer c.take-taken.new.item (rw pending at inv.fine) t in
    let more = t.steps in
    let few = t.few in
    rw (← c.self.view_is)
    (keeps_limit (runner_state r.machine r.pending r.fed r.events r.has_event r.overrun r.at_demand r.limit) new next' c.close-event.result (r.fed + 1) r.events r.has_event r.overrun r.at_demand r.limit c.close-event.new.self s.room refl
    (λ e. rw pending (let late = c.go_further.ensures.pauses e in omega (arith, late, more)))
    (rw pending (let soon = c.go_further.ensures.soon in omega (arith, soon, few)))
    s.awaits (settle_fine mid new (λ z. follows z (pending_of c.in-Some.pending)) next' fine s) c.close-event.ensures.ended c.close-event.ensures.goes_on)

pub returns-in-Some-taken-clause-keeps : goal.returns-in-Some-taken-clause-keeps
returns-in-Some-taken-clause-keeps g c =
    let pending : c.self.inside.pending ≡ Some c.in-Some.pending = c.in-Some.is in
    let r = c.self.inside in
    let awake : is_paused_at r.pending ≡ false = ap (λ h. is_paused h.pending) c.self.view_is ∙ c.requires.awake in
    let steps = ap (λ (m : Machine g.row.V g.row.DEPTH g.row.CAP). m.steps) c.in-Some-taken.ensures.same.0 in
    rw (← c.self.view_is) (keeps_awake _ _ refl awake (each_none r.overrun _ (rw pending (omega (arith, steps)))))

pub returns-in-Some-taken-clause-stops : goal.returns-in-Some-taken-clause-stops
returns-in-Some-taken-clause-stops g c =
    let pending : c.self.inside.pending ≡ Some c.in-Some.pending = c.in-Some.is in
    let r = c.self.inside in
    let k = r.machine.checked.now in
    let first : r.overrun ≡ None = ap (λ h. h.overrun) c.self.view_is ∙ c.requires.first in
    rw (← c.self.view_is) (record {
      now = rw first (λ answers. rw pending
          (ap (served (context_in k) k.script.services (bit_at k r.machine.service)) (c.in-Some-taken.ensures.overrun answers)
          ∙ served_stops (context_in k) k.script.services (bit_at k r.machine.service) _ _));
      again = rw first tt;
      same =
          ap (λ (m : Machine g.row.V g.row.DEPTH g.row.CAP). runner_state m r.pending r.fed r.events r.has_event (Some c.in-Some-taken.overrun) r.at_demand r.limit) c.in-Some-taken.ensures.same.0;
    })
