use Rattle.std.proofs.Common.{Bool, refl, sym, ap}
use Rattle.std.specs.Prelude.{if◌then◌else◌}
use Rattle.camac_machine.specs.Rest.{is_paused}
use Rattle.camac_c.specs.Told.{asked, while_paused}
use Rattle.camac_c.specs.declared.plain.Told.{Told}
use Rattle.camac_c.proofs.session.next_and_wants.Goals as goal

pub returns-else-take : goal.returns-else-take
returns-else-take c =
    let next = c.take.new.told in let s = c.take.new.session in let its = c.wants.ensures in
    let wants : Told = while_paused (is_paused s.runner.pending) (asked s.width s.runner c.wants.result) in
    record {
      next = next;
      takes = c.take.ensures.declined c.if-take.false;
      wants = wants;
      tells = (refl, (c.wants.result, record { wants = its.wants; safe = its.safe; waits = its.waits }, refl));
      told_is = ap (λ (b : Bool). if b then record next { want = wants.want } else next) (sym (c.take.ensures.code c.if-take.false));
    }
