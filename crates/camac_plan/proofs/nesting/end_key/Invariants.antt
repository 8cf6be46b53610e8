use Rattle.std.proofs.Common.{◌≡◌, reverse, length}
use Rattle.camac_plan.specs.Nesting.{without_dots}
use Rattle.camac_plan.proofs.nesting.end_key.Given as goal

abbrev pub invariant-dots : goal.invariant-dots
invariant-dots l = without_dots (reverse l.opened.items) ≡ without_dots (reverse l.fn.opened.items)

abbrev pub decreases-dots : goal.decreases-dots
decreases-dots l = length l.opened.items
