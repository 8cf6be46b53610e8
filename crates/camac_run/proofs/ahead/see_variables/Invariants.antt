use Rattle.std.proofs.Common.{◌≡◌, ◌<◌, ℕ, get_or, Some, None}
use Rattle.camac_machine.specs.Store.{held_at}
use Rattle.camac_run.proofs.ahead.see_variables.Given as goal

abbrev pub invariant-variables : goal.invariant-variables
invariant-variables l = (j v : ℕ) → j < l.i → get_or l.known j None ≡ Some v → get_or (held_at l.places l.all) j 0 ≡ v

abbrev pub invariant-others : goal.invariant-others
invariant-others l = (j v : ℕ) → j < l.i → get_or l.known j None ≡ Some v → get_or (held_at l.fn.places l.all) j 0 ≡ v
