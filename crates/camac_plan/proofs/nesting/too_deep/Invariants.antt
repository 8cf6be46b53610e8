use Rattle.std.proofs.Common.{◌≡◌, ◌≤◌, drop}
use Rattle.arrayvec.specs.ArrayVec.{array_vec_len}
use Rattle.camac_plan.specs.Nesting.{standing_of, first_deeper, too_deep}
use Rattle.camac_plan.proofs.nesting.too_deep.Given as goal

abbrev pub invariant-bytes : goal.invariant-bytes
invariant-bytes l =
    (first_deeper l.at (standing_of l.place) (drop l.byte-index l.bytes) ≡ too_deep l.bytes)
    × (l.at ≡ l.byte-index) × (array_vec_len l.place.around.opened ≤ 16)
