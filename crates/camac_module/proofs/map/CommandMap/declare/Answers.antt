use Rattle.std.proofs.Common.{◌<◌, length, subst, sym, map}
use Rattle.camac_module.specs.Row.{entries_of}
use Rattle.camac_module.specs.Commands.{IsCommandMap, DeclaresOne}
use Rattle.camac_module.proofs.Entries.{map-entries_of-declared, declares_one, is_declarable, is_command_map-with_declared}
use Rattle.camac_module.proofs.map.CommandMap.declare.Goals as goal

pub invariant_of-self : goal.invariant_of-self
invariant_of-self g c =
    let below : c.get-a.result < length c.self.inside.rows = rw c.self.told c.if-a.false in
    let made = map-entries_of-declared c.self.inside.rows c.args.d c.get-a.result c.get-2.result _ c.declare.new.self c.get-a.ensures.value c.get-2.ensures.value below c.declare.ensures in
    let function : c.args.d.f < 32 = rw (← c.get-2.ensures.value) c.get-2.ensures.in_range in
    let place : c.args.d.a < 16 = rw (← c.get-a.ensures.value) c.get-a.ensures.in_range in
    subst IsCommandMap (sym made) (is_command_map-with_declared (map entries_of c.self.inside.rows) c.args.d (is_declarable c.args.d function place (sym c.if-not-fits_width.ensures)) c.self.invariant)

pub returns-clause-ok : goal.returns-clause-ok
returns-clause-ok g c =
    let below : c.get-a.result < length c.self.inside.rows = rw c.self.told c.if-a.false in
    rw (← c.self.view_is) (map-entries_of-declared c.self.inside.rows c.args.d c.get-a.result c.get-2.result _ c.declare.new.self c.get-a.ensures.value c.get-2.ensures.value below c.declare.ensures)

pub returns-clause-one : goal.returns-clause-one
returns-clause-one g c =
    let below : c.get-a.result < length c.self.inside.rows = rw c.self.told c.if-a.false in
    let made = map-entries_of-declared c.self.inside.rows c.args.d c.get-a.result c.get-2.result _ c.declare.new.self c.get-a.ensures.value c.get-2.ensures.value below c.declare.ensures in
    let function : c.args.d.f < 32 = rw (← c.get-2.ensures.value) c.get-2.ensures.in_range in
    let place : c.args.d.a < length c.self.inside.rows = rw (← c.get-a.ensures.value) below in
    let one = declares_one c.self.inside.rows c.args.d c.declare.new.self function place in
    rw (← c.self.view_is) (subst (λ m. DeclaresOne (map entries_of c.self.inside.rows) m c.args.d) (sym made) one)
