use Rattle.std.proofs.Common.{◌<◌, sym, ◌∙◌, ap, length, option_map, get_or, None, []}
use Rattle.std.proofs.lemmas.List.{get_or-map}
use Rattle.camac_module.specs.Row.{entries_of}
use Rattle.camac_module.proofs.Entries.{width-if_some}
use Rattle.camac_module.proofs.map.CommandMap.width.Goals as goal

pub returns-then-a-clause-in_range : goal.returns-then-a-clause-in_range
returns-then-a-clause-in_range g c =
    let below : c.get-a.result < length c.self.inside.rows = rw c.self.told c.if-a.true in
    let row = get_or-map entries_of c.self.inside.rows c.get-a.result _ [] below in
    width-if_some _ c.self.invariant c.get.result c.get-a.result c.width.result (c.width.ensures ∙ sym (ap (λ es. option_map (λ e. e.width) (get_or es c.get.result None)) row))
