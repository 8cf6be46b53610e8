use Rattle.std.proofs.Common.{arith, ◌∙◌, ap, length}
use Rattle.camac_machine.proofs.Scopes.{held_length}
use Rattle.camac_machine.proofs.machine.Machine.registers.Goals as goal

pub of-requires-clause-order : goal.of-requires-clause-order
of-requires-clause-order g c = c.requires.scope.registers

pub of-requires-clause-inside : goal.of-requires-clause-inside
of-requires-clause-inside g c = omega (arith, c.requires.registers, c.requires.scope.more_registers)

pub returns-clause-count : goal.returns-clause-count
returns-clause-count g c =
    ap length c.of.ensures.values ∙ held_length c.args.self.now.scope.registers c.args.self.now.registers (omega (arith, c.requires.registers, c.requires.scope.more_registers))
