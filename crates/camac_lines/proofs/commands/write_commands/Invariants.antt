use Rattle.std.proofs.Common.{◌≡◌, ◌-◌}
use Rattle.camac_branch.specs.Plan.{kind}
use Rattle.camac_word.specs.Watched.{inner_of, has_failed}
use Rattle.camac_word.proofs.Prefixes.{IsUnderWay}
use Rattle.camac_lines.specs.Commands.{function_text}
use Rattle.camac_lines.specs.Texts.{texts}
use Rattle.camac_lines.proofs.commands.write_commands.Given as goal

abbrev pub invariant-functions : goal.invariant-functions
invariant-functions g l =
    IsUnderWay (texts (function_text (kind l.plan l.t).commands) 0 32) (texts (function_text (kind l.plan l.t).commands) l.f (32 - l.f))
    (g.W.Write.contents (inner_of l.fn.out)) (g.W.Write.contents (inner_of l.out))
    × (has_failed l.out ≡ has_failed l.fn.out)
