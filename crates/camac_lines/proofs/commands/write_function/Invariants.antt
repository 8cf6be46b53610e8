use Rattle.std.proofs.Common.{◌≡◌, ◌-◌}
use Rattle.camac_branch.specs.Plan.{kind}
use Rattle.camac_word.specs.Watched.{inner_of, has_failed}
use Rattle.camac_word.proofs.Prefixes.{IsUnderWay}
use Rattle.camac_lines.specs.Commands.{command_text}
use Rattle.camac_lines.specs.Texts.{texts}
use Rattle.camac_lines.proofs.commands.write_function.Given as goal

abbrev pub invariant-places : goal.invariant-places
invariant-places g l =
    IsUnderWay (texts (command_text (kind l.plan l.t).commands l.f) 0 16) (texts (command_text (kind l.plan l.t).commands l.f) l.a (16 - l.a))
    (g.W.Write.contents (inner_of l.fn.out)) (g.W.Write.contents (inner_of l.out))
    × (has_failed l.out ≡ has_failed l.fn.out)
