use Rattle.std.proofs.Common.{◌≡◌, drop}
use Rattle.toml.specs.View.{items_view}
use Rattle.camac_plan.specs.Commands.{commands_view, with_commands}
use Rattle.camac_plan.proofs.command.add_commands.Given as goal

abbrev pub invariant-commands : goal.invariant-commands
invariant-commands l =
    with_commands (commands_view l.all) l.place l.commands (items_view (drop l.place l.all.items.now.items))
    ≡ with_commands (commands_view l.all) 0 l.initial.commands (items_view l.all.items.now.items)
