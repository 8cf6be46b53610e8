use Rattle.std.proofs.Common.{arith, ◌∙◌, ap, length}
use Rattle.camac_machine.proofs.Scopes.{held_length}
use Rattle.camac_machine.proofs.machine.Machine.variables.Goals as goal

pub of-requires-clause-order : goal.of-requires-clause-order
of-requires-clause-order g c = c.requires.scope.variables

pub of-requires-clause-inside : goal.of-requires-clause-inside
of-requires-clause-inside g c = omega (arith, c.requires.variables, c.requires.scope.more_variables)

pub returns-clause-count : goal.returns-clause-count
returns-clause-count g c =
    ap length c.of.ensures.values ∙ held_length c.args.self.now.scope.variables c.args.self.now.variables (omega (arith, c.requires.variables, c.requires.scope.more_variables))
