use Rattle.std.proofs.Common.{◌≡◌, ◌-◌}
use Rattle.camac_plan.specs.Commands.{commands_view, with_places, with_command}
use Rattle.camac_plan.proofs.command.declare_command.Given as goal

abbrev pub invariant-places : goal.invariant-places
invariant-places l =
    with_places (commands_view l.all) l.place l.line l.commands l.x (l.x-end - l.x) ≡ with_command (commands_view l.all) l.place l.line l.initial.commands
