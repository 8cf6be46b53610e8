use Rattle.std.proofs.Common.{◌-◌, ◌∙◌, ap, sym, arith}
use Rattle.camac_c.proofs.Begun.{told_first}
use Rattle.camac_c.proofs.ahead.first_of.Goals as goal

pub returns-else-in_service : goal.returns-else-in_service
returns-else-in_service c =
    told_first c.args.session.now c.args.number (c.args.number - 1) c.args.bytes.now c.tell_members.new.bytes c.tell_members.result c.services.result.now c.get.result c.in-Some.field-0 c.service_ahead-members.result.items (omega (arith, c.if-number-eq0.false))
    (c.services.ensures ∙ ap (λ s. s.services) c.script.ensures) c.get.ensures.lookup c.in-Some.is (sym c.in_service.ensures.some ∙ c.if-in_service.false) c.service_ahead-members.ensures (rw c.as_slice.ensures.value at c.tell_members.ensures)
