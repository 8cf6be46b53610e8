use Rattle.std.proofs.Common.{◌≡◌, subst, ap}
use Rattle.std.specs.Prelude.{OnOk}
use Rattle.camac_check_rows.proofs.Laid.{outer_laid, parts_rows}
use Rattle.camac_check_rows.proofs.found.lay_outer.Goals as goal

pub returns : goal.returns
returns c =
    subst (λ rows. OnOk c.lay.result (c.lay.new.rows.items ≡ rows))
    (outer_laid c.of.result c.args.part.now c.args.rows.now.items c.extend_from_slice.new.self.items c.push.new.self.items
    (parts_rows c.deref-2.result.now) c.deref-3.result.now c.deref.result.now
    c.in_ok-extend_from_slice.ensures.items c.deref.ensures.value c.in_ok-push.ensures.items c.of.ensures (ap parts_rows c.deref-2.ensures.value) c.deref-3.ensures.value)
    c.lay.ensures
