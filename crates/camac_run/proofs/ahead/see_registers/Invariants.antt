use Rattle.std.proofs.Common.{◌≡◌, ◌<◌, ℕ, get_or, Some, None}
use Rattle.camac_branch.specs.Address.{Address}
use Rattle.camac_machine.specs.Store.{held_at}
use Rattle.camac_run.proofs.ahead.see_registers.Given as goal

abbrev pub invariant-registers : goal.invariant-registers
invariant-registers l = (j : ℕ) (v : Address) → j < l.i → get_or l.known j None ≡ Some v → get_or (held_at l.places l.all) j None ≡ Some v

abbrev pub invariant-others : goal.invariant-others
invariant-others l = (j : ℕ) (v : Address) → j < l.i → get_or l.known j None ≡ Some v → get_or (held_at l.fn.places l.all) j None ≡ Some v
