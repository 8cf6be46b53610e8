use Rattle.std.proofs.Common.{◌≤◌, ◌⊎◌, length, take, ◌∙◌, refl}
use Rattle.std.proofs.lemmas.List.{take_all}
use Rattle.camac_module.proofs.Entries.{commands-counted, probes-counted, min_enough}
use Rattle.camac_module.proofs.map.CommandMap.counts.Goals as goal

pub returns : goal.returns
returns g c =
    let enough : (length c.self.inside.rows ≤ c.min.result) ⊎ (16 ≤ c.min.result) = rw (c.self.told, c.min.ensures) (min_enough g.row.A) in
    let all = take_all c.rows.row-index (take c.min.result c.self.inside.rows) c.rows-test.false in
    let commands = rw all at c.rows.invariant.commands ∙ commands-counted c.self.inside.rows c.min.result enough c.self.invariant in
    let probes = rw all at c.rows.invariant.probes ∙ probes-counted c.self.inside.rows c.min.result enough c.self.invariant in
    rw (← c.self.view_is, commands, probes) refl
