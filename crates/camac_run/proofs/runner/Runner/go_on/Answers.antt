use Rattle.std.proofs.Common.{◌≡◌, ℕ, true, Some, refl, sym, ap, ◌∙◌, arith}
use Rattle.std.specs.Borrow.{Bor}
use Rattle.arrayvec.specs.ArrayVec.{ArrayVec}
use Rattle.camac_rules.specs.Checked.{CheckedScript}
use Rattle.camac_machine.specs.declared.machine.Pending.TheVariants.{Pause}
use Rattle.camac_machine.specs.MachineState.{after_pending, context_in, is_paused_at, bit_at}
use Rattle.camac_machine.specs.Rest.{is_paused, served, says}
use Rattle.camac_machine.proofs.Pauses.{paused_is}
use Rattle.camac_run.specs.Runner.{rest, with_event, last_words_in}
use Rattle.camac_run.specs.Sound.{runner_state}
use Rattle.camac_run.proofs.Sizes.{machine_fits}
use Rattle.camac_run.proofs.Told.{told_along, counted, keeps_limit, pause_fine, pause_goes, sound_after, settle_fine, below_along, each_some}
use Rattle.camac_run.proofs.runner.Runner.go_on.Goals as goal

pub go_further-requires : goal.go_further-requires
go_further-requires g c =
    let r = c.self.inside in
    let paused : is_paused_at r.pending ≡ true = ap (λ h. is_paused h.pending) c.self.view_is ∙ c.requires in
    let pending : r.pending ≡ Some Pause = paused_is r.pending paused in
    let inv = c.self.invariant in
    (machine_fits _ c.requires-raw.1.1.1.0, (inv.room, (inv.quiet, rw pending (tt, (tt, pause_fine r.machine (rw pending at inv.fine))))))

pub invariant_of-self : goal.invariant_of-self
invariant_of-self g c =
    let r = c.self.inside in
    let paused : is_paused_at r.pending ≡ true = ap (λ h. is_paused h.pending) c.self.view_is ∙ c.requires in
    let pending : r.pending ≡ Some Pause = paused_is r.pending paused in
    let inv = c.self.invariant in
    let new = c.go_further.new.self in
    let next' = c.go_further.new.pending in
    let s = rw pending at c.go_further.ensures.settles in
    sound_after r.machine new c.take-unlocks.new.self r.pending next' r.fed r.fed r.events r.machine.service r.at_demand r.at_demand c.take-unlocks.ensures.after inv (rw pending at inv.under) inv.most (each_some next' _ (rw pending at inv.free)) s.room s.checked s.service (rw pending at inv.service) s.awaits s.begun s.over
    (settle_fine r.machine new (λ z. after_pending z (Some Pause)) next' (pause_fine r.machine (rw pending at inv.fine)) s)

pub close-event-requires : goal.close-event-requires
close-event-requires g c =
    let r = c.self.inside in
    let paused : is_paused_at r.pending ≡ true = ap (λ h. is_paused h.pending) c.self.view_is ∙ c.requires in
    let pending : r.pending ≡ Some Pause = paused_is r.pending paused in
    let inv = c.self.invariant in
    let s = rw pending at c.go_further.ensures.settles in
    (search, (below_along c.go_further.new.self r.machine.checked r.machine.service s.checked s.service (rw pending at inv.service), (rw pending at inv.under, inv.most)))

pub returns-clause-resumes : goal.returns-clause-resumes
returns-clause-resumes g c =
    let r = c.self.inside in
    let paused : is_paused_at r.pending ≡ true = ap (λ h. is_paused h.pending) c.self.view_is ∙ c.requires in
    let pending : r.pending ≡ Some Pause = paused_is r.pending paused in
    let k = r.machine.checked.now in
    let ctx = context_in k in
    let vs = k.script.services in
    let bit = bit_at k r.machine.service in
    let new = c.go_further.new.self in
    let next' = c.go_further.new.pending in
    let event = c.close-event.result in
    let after = c.close-event.new.self in
    let s = rw pending at c.go_further.ensures.settles in
    let all = counted new next' event r.fed r.events r.has_event r.overrun r.at_demand r.limit after s.room.missed c.close-event.ensures.ended c.close-event.ensures.goes_on in
    rw (← c.self.view_is) (record {
      goes = λ answers. rw pending
          (ap (served ctx vs bit) (pause_goes r.machine answers ∙ sym (s.goes answers))
          ∙ told_along new r.machine.checked r.machine.service bit next' event r.fed r.events r.has_event r.overrun r.at_demand r.limit after answers s.checked s.service refl s.over c.close-event.ensures.ended c.close-event.ensures.goes_on new.unlocks.items
          ∙ ap (λ us. says us (with_event event (last_words_in after) (rest after answers))) (ap (λ (v : ArrayVec ℕ). v.items) (sym c.take-unlocks.ensures.value)));
      fed = all.3;
      same = all.0;
      next = all.1;
      none = all.2;
      overrun = all.4;
      checked = all.5 ∙ ap (λ (z : Bor CheckedScript). z.now) s.checked;
      at_demand = all.6;
    })

pub returns-clause-keeps : goal.returns-clause-keeps
returns-clause-keeps g c =
    let r = c.self.inside in
    let paused : is_paused_at r.pending ≡ true = ap (λ h. is_paused h.pending) c.self.view_is ∙ c.requires in
    let pending : r.pending ≡ Some Pause = paused_is r.pending paused in
    let inv = c.self.invariant in
    let new = c.go_further.new.self in
    let next' = c.go_further.new.pending in
    let s = rw pending at c.go_further.ensures.settles in
    rw (← c.self.view_is)
    (keeps_limit (runner_state r.machine r.pending r.fed r.events r.has_event r.overrun r.at_demand r.limit) new next' c.close-event.result r.fed r.events r.has_event r.overrun r.at_demand r.limit c.close-event.new.self s.room refl
    (λ e. rw pending (c.go_further.ensures.pauses e))
    (rw pending (let soon = c.go_further.ensures.soon in omega (arith, soon)))
    s.awaits (settle_fine r.machine new (λ z. after_pending z (Some Pause)) next' (pause_fine r.machine (rw pending at inv.fine)) s) c.close-event.ensures.ended c.close-event.ensures.goes_on)
