use Rattle.std.proofs.Common.{sym, ◌∙◌, ◌≡◌, ℕ, ◌+◌, ◌-◌, ◌<◌, suc, Ok, Err, arith, refl}
use Rattle.camac_plan.specs.Commands.{commands_view, TypeCommands, with_new, command_at, with_places}
use Rattle.camac_plan.proofs.command.declare_command.Goals as goal
use Rattle.camac_module.specs.Commands.{Commands}
use Rattle.camac_plan.specs.declared.fault.BrokenRule.{BrokenRule}
use Rattle.camac_plan.specs.declared.command.CommandLine.{CommandLine}

-- A command, a sub-address at a time.

with_places-next : (all : TypeCommands) (n : ℕ) (line : CommandLine) (commands new : Commands) (a end : ℕ) → a < end
    → with_new all n commands (command_at line a) ≡ Ok new → with_places all n line commands a (end - a) ≡ with_places all n line new (a + 1) (end - (a + 1))
with_places-next all n line commands new a end below h =
    let longer : end - a ≡ suc (end - (a + 1)) = omega arith in
    rw longer (rw h refl)

with_places-stops : (all : TypeCommands) (n : ℕ) (line : CommandLine) (commands : Commands) (e : BrokenRule) (a end : ℕ) → a < end
    → with_new all n commands (command_at line a) ≡ Err e → with_places all n line commands a (end - a) ≡ Err e
with_places-stops all n line commands e a end below h =
    let longer : end - a ≡ suc (end - (a + 1)) = omega arith in
    rw longer (rw h refl)

pub places-preserved : goal.places-preserved
places-preserved c =
    let declared = rw c.in-Some.ensures.kept at c.in-Ok.ensures in
    sym (with_places-next (commands_view c.args.all.now) c.args.place c.args.line.now c.places.commands c.declare_at.new.commands c.places.x _ c.places-test.true declared)
    ∙ c.places.invariant

pub returns-in-Err : goal.returns-in-Err
returns-in-Err c =
    let refused = rw c.in-Some.ensures.kept at c.in-Err.ensures in
    sym c.places.invariant
    ∙ with_places-stops (commands_view c.args.all.now) c.args.place c.args.line.now c.places.commands c.in-Err.rule c.places.x _ c.places-test.true refused
