-- What C is told where a service is left before its end.
use Rattle.std.specs.Prelude.{◌≡◌, ℕ, List, [], length}
use Rattle.camac_run.specs.Abandoned.{Abandons}
use Rattle.camac_c.specs.Filled.{filled_words}
use Rattle.camac_c.specs.Told.{counted}
use Rattle.camac_c.specs.declared.plain.Told.{Told}
use Rattle.camac_c.specs.declared.session.Session.{Session}

-- the service is left; told are the crates to be released, and none is held from then on
pub record LeavesService (s after : Session) (old new : List ℕ) (told : Told) : Type 0 where
  pub unlocks : List ℕ
  pub abandons : Abandons s.runner unlocks after.runner
  pub written : new ≡ filled_words unlocks old
  pub told_is : told ≡ counted (length unlocks)
  pub held : after.held.items ≡ []
  pub width : after.width ≡ 0
  pub last : after.last ≡ s.last
  pub checked : after.checked ≡ s.checked
