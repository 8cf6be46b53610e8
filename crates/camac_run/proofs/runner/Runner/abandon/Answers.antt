use Rattle.std.proofs.Common.{◌≡◌, ℕ, false, refl, sym, subst, ap, ◌∙◌}
use Rattle.std.specs.Borrow.{Bor}
use Rattle.arrayvec.specs.ArrayVec.{ArrayVec}
use Rattle.camac_branch.specs.Crates.{Crates, branch_of}
use Rattle.camac_rules.specs.Checked.{CheckedScript}
use Rattle.camac_machine.specs.MachineState.{context_in}
use Rattle.camac_machine.specs.Rest.{onward}
use Rattle.camac_run.proofs.Sizes.{machine_fits}
use Rattle.camac_run.proofs.Told.{sound_idle}
use Rattle.camac_run.proofs.runner.Runner.abandon.Goals as goal

pub leave_service-requires : goal.leave_service-requires
leave_service-requires g c =
    let inv = c.self.invariant in
    let free = rw c.in-Some.is at inv.free in
    (machine_fits _ c.requires-raw.1.1.1, (inv.room, (inv.quiet, λ n. subst (λ (b : Crates). (branch_of b n).locked ≡ false) (sym c.copy.ensures) (free n))))

pub invariant_of-self : goal.invariant_of-self
invariant_of-self g c =
    let r = c.self.inside in
    let m = c.leave_service.ensures in
    sound_idle r.machine c.leave_service.new.machine c.take.new.self r.pending r.fed r.events r.at_demand c.take.ensures.after c.self.invariant m.room m.checked m.idle

pub returns-in-Some : goal.returns-in-Some
returns-in-Some g c =
    let r = c.self.inside in
    let m = c.leave_service.ensures in
    let new = c.leave_service.new.machine in
    let k = r.machine.checked.now in
    let branch : new.branch ≡ r.at_demand = m.branch ∙ c.copy.ensures in
    rw (← c.self.view_is, c.in-Some.is) (record {
      goes = λ answers. ap (λ (b : Bor CheckedScript). onward (context_in b.now) b.now.script.services (branch_of new.branch) answers) m.checked
          ∙ ap (λ (b : Crates). onward (context_in k) k.script.services (branch_of b) answers) branch;
      idle = refl;
      crates = branch;
      released = ap (λ (v : ArrayVec ℕ). v.items) c.take.ensures.value ∙ m.released;
      quiet = refl;
      fed = refl;
      events = refl;
      overrun = refl;
      checked = ap (λ (b : Bor CheckedScript). b.now) m.checked;
      limit = refl;
    })
