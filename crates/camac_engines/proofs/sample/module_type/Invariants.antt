use Rattle.std.proofs.Common.{◌≡◌, drop}
use Rattle.camac_module.specs.Commands.{none_declared}
use Rattle.camac_engines.specs.Sample.{declare_all}
use Rattle.camac_engines.proofs.sample.module_type.Given as goal

abbrev pub invariant-commands : goal.invariant-commands
invariant-commands l = declare_all (none_declared 16) l.commands ≡ declare_all l.declared (drop l.command-index l.commands)
