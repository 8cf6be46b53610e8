use Rattle.std.proofs.Common.{sym, subst}
use Rattle.camac_module.specs.Commands.{IsCommandMap}
use Rattle.camac_module.proofs.map.CommandMap.is_command_map.Goals as goal

pub returns : goal.returns
returns g c = subst IsCommandMap c.self.view_is c.self.invariant
