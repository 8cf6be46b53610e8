-- The locks that open blocks hold.
use Rattle.std.specs.Prelude.{ℕ, List, [], ◌∷◌, ◌++◌}
use Rattle.camac_machine.specs.Rest.{Owner, releases, Open}

abbrev pub lock_of : Owner → List ℕ
lock_of (releases k) = k ∷ []
lock_of _ = []

-- in the order in which they are to be released: that of the innermost block first, which is the last
abbrev pub locks_in : List Open → List ℕ
locks_in [] = []
locks_in (o ∷ os) = locks_in os ++ lock_of o.owner
