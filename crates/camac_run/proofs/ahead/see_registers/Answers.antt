use Rattle.std.proofs.Common.{◌≡◌, get_or, None, Some, sym, subst, arith}
use Rattle.std.specs.Prelude.{IfSome, slice_get}
use Rattle.camac_branch.specs.Address.{Address}
use Rattle.camac_machine.specs.Store.{held_at}
use Rattle.camac_run.proofs.Steps.{filled, filled_on, register_held}
use Rattle.camac_run.proofs.ahead.see_registers.Goals as goal
use Rattle.camac_run.proofs.ahead.see_registers.Goals.{in-Some, in-None}

pub registers-preserved : goal.registers-preserved
registers-preserved c =
    let held = held_at c.args.places c.args.all.now in
    let its = c.match-seen.known in
    let here : IfSome its (λ (v : Address). get_or held c.registers.i None ≡ Some v) =
    elim c.match-seen.branch [
      | in-Some w ↦
          let there = subst (λ o. IfSome o (λ v. slice_get held c.registers.i ≡ Some v)) w.in-Some.is c.seen.ensures in
          subst (λ o. IfSome o (λ (v : Address). get_or held c.registers.i None ≡ Some v)) (sym w.known-is) (register_held held c.registers.i w.in-Some.register there)
      | in-None w ↦ subst (λ o. IfSome o (λ (v : Address). get_or held c.registers.i None ≡ Some v)) (sym w.known-is) tt
    ] in
    filled_on (λ j (v : Address). get_or held j None ≡ Some v) c.registers.known c.registers.i its c.registers.invariant here

pub others-preserved : goal.others-preserved
others-preserved c =
    let held = held_at c.args.places c.args.all.now in
    filled_on (λ j (v : Address). get_or held j None ≡ Some v) c.others.known c.others.i None c.others.invariant tt

pub returns : goal.returns
returns c =
    let held = held_at c.args.places c.args.all.now in
    filled (λ j (v : Address). get_or held j None ≡ Some v) c.others.known (λ j v less e. c.others.invariant j v (omega (arith, less)) e)
