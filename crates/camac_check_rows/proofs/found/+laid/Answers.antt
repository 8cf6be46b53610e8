use Rattle.std.proofs.Common.{◌≡◌, subst, ap}
use Rattle.std.specs.Prelude.{OnOk}
use Rattle.camac_check_rows.proofs.Laid.{inner_laid, parts_rows}
use Rattle.camac_check_rows.proofs.found.+laid.Goals as goal

pub lay_part-returns : goal.lay_part-returns
lay_part-returns t c =
    subst (λ rows. OnOk c.lay.result (c.lay.new.rows.items ≡ rows))
    (inner_laid c.args.level c.within.result c.args.part.now c.args.rows.now.items c.push_laid.new.rows.items c.push.new.self.items
    (parts_rows c.deref-2.result.now) c.deref-3.result.now c.deref.result.now c.laid.result
    c.in_ok-push_laid.ensures c.deref.ensures.value c.in_ok-push.ensures.items c.laid.ensures c.within.ensures (ap parts_rows c.deref-2.ensures.value) c.deref-3.ensures.value)
    c.lay.ensures
