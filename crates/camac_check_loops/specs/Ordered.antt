-- Kept ranges that have a number.
use Rattle.std.specs.Prelude.{Bool, true, ◌&&◌, List, [], ◌∷◌, nat_le}
use Rattle.camac_lang.specs.Tree.{Keep}

abbrev pub are_ordered : List Keep → Bool
are_ordered [] = true
are_ordered (q ∷ qs) = nat_le q.low q.high && are_ordered qs
