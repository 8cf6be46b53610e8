use Rattle.std.proofs.Common.{◌≡◌, ◌≤◌, ◌+◌, ◌-◌}
use Rattle.std.specs.List.{prefix_len}
use Rattle.camac_branch.specs.Plan.{kind}
use Rattle.camac_module.specs.Commands.{declared}
use Rattle.camac_lines.specs.Commands.{is_same, entries_from, last_same}
use Rattle.camac_lines.proofs.commands.last_same.Given as goal

abbrev pub invariant-places : goal.invariant-places
invariant-places l =
    (l.a + prefix_len (is_same (declared l.d)) (entries_from (kind l.plan l.t).commands l.d.f l.a (16 - l.a))
    ≡ last_same (kind l.plan l.t).commands l.d.f l.d.a (declared l.d) + 1)
    × (l.d.a + 1 ≤ l.a)
    × (l.a ≤ 16)
