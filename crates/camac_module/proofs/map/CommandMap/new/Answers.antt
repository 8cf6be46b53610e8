use Rattle.std.proofs.Common.{subst, sym}
use Rattle.camac_module.specs.Commands.{IsCommandMap}
use Rattle.camac_module.proofs.Entries.{map-new, is_command_map-none_declared}
use Rattle.camac_module.proofs.map.CommandMap.new.Goals as goal

pub invariant_of-result : goal.invariant_of-result
invariant_of-result g c = subst IsCommandMap (sym (map-new c.new.result g.row.A c.new.ensures)) (is_command_map-none_declared g.row.A)

pub returns : goal.returns
returns g c = map-new c.new.result g.row.A c.new.ensures
