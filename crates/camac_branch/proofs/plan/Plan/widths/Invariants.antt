use Rattle.std.proofs.Common.{◌≡◌, ◌-◌, map}
use Rattle.std.specs.List.{range_with_len}
use Rattle.camac_module.specs.Commands.{extremes}
use Rattle.camac_branch.specs.Address.{address}
use Rattle.camac_branch.specs.Allowed.{allowed, widths}
use Rattle.camac_branch.proofs.plan.Plan.widths.Given as goal

abbrev pub invariant-places : goal.invariant-places
invariant-places l =
    extremes (l.least, l.greatest) (map (λ a. allowed l.self (address l.c l.n a) l.f) (range_with_len l.a (l.a-end - l.a)))
    ≡ widths l.self l.c l.n l.f l.fn.first l.fn.last
