use Rattle.std.proofs.Common.{◌≡◌, ◌<◌, ℕ, get_or, map, Some, None}
use Rattle.std.specs.Prelude.{IsSomeAnd, slice_get}
use Rattle.camac_lang.specs.View.{expression_of}
use Rattle.camac_run.specs.Sure.{HasValue}
use Rattle.camac_run.proofs.ahead.pass.Given as goal

abbrev pub invariant-arguments : goal.invariant-arguments
invariant-arguments l = (j v : ℕ) → j < l.i → get_or l.known j None ≡ Some v → IsSomeAnd (slice_get (map expression_of l.arguments) j) (λ e. HasValue l.variables e v)
