-- The classes of the functions, by their ranges (EUR 4100, IEEE 583), and the moves of data that fit them.
use Rattle.std.specs.Prelude.{ℕ, Bool, true, false, ◌&&◌, nat_le, if◌then◌else◌, List, [], ◌∷◌, codes, find, nat_eq, option_map, unwrap_or}
use Rattle.camac_func.specs.declared.code.FunctionClass.{FunctionClass}
use Rattle.camac_func.specs.declared.code.FunctionClass.TheVariants.{Read, Write, Control}
use Rattle.camac_func.specs.declared.data.DataMove.{DataMove}
use Rattle.camac_func.specs.declared.data.DataMove.TheVariants.{In, Out, None}

abbrev pub is_between : (first last f : ℕ) → Bool
is_between first last f = nat_le first f && nat_le f last

-- F0 to F7 read, F16 to F23 write, all others move no data
abbrev pub class_of : ℕ → FunctionClass
class_of f = if is_between 0 7 f then Read else if is_between 16 23 f then Write else Control

-- a read takes a word in, a write sends one out, a control function moves none
abbrev pub fits : FunctionClass → DataMove → Bool
fits Read In = true
fits Read (Out word) = false
fits Read None = false
fits Write In = false
fits Write (Out word) = true
fits Write None = false
fits Control In = false
fits Control (Out word) = false
fits Control None = true

-- The names of the functions (EUR 4100, IEEE 583).

abbrev pub row : ℕ → List ℕ → ℕ × List ℕ
row f text = (f, text)

-- each function with its name
abbrev pub function_names : List (ℕ × List ℕ)
function_names =
    row 0 (codes "read group 1") ∷
    row 1 (codes "read group 2") ∷
    row 2 (codes "read and clear group 1") ∷
    row 3 (codes "read complement of group 1") ∷
    row 4 (codes "non-standard") ∷
    row 5 (codes "reserved") ∷
    row 6 (codes "non-standard") ∷
    row 7 (codes "reserved") ∷
    row 8 (codes "test LAM") ∷
    row 9 (codes "clear group 1") ∷
    row 10 (codes "clear LAM") ∷
    row 11 (codes "clear group 2") ∷
    row 12 (codes "non-standard") ∷
    row 13 (codes "reserved") ∷
    row 14 (codes "non-standard") ∷
    row 15 (codes "reserved") ∷
    row 16 (codes "overwrite group 1") ∷
    row 17 (codes "overwrite group 2") ∷
    row 18 (codes "selective set group 1") ∷
    row 19 (codes "selective set group 2") ∷
    row 20 (codes "non-standard") ∷
    row 21 (codes "selective clear group 1") ∷
    row 22 (codes "non-standard") ∷
    row 23 (codes "selective clear group 2") ∷
    row 24 (codes "disable") ∷
    row 25 (codes "execute") ∷
    row 26 (codes "enable") ∷
    row 27 (codes "test status") ∷
    row 28 (codes "non-standard") ∷
    row 29 (codes "reserved") ∷
    row 30 (codes "non-standard") ∷
    row 31 (codes "reserved") ∷
    []

-- the name of a function, none past the last one
unfoldable pub name_of : ℕ → List ℕ
name_of f = unwrap_or (option_map (λ r. r.1) (find (λ r. nat_eq r.0 f) function_names)) []
