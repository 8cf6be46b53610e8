-- What the checker knows where a statement begins.
use Rattle.std.specs.Prelude.{ℕ, zero, suc, List, [], ◌∷◌, Option, Some, None, slice_index_or}
use Rattle.camac_range.specs.Interval.{Interval, only}

-- a list as a map from all numbers, with one place changed; it grows where it is too short
abbrev pub write : {A : Type 0} → A → List A → ℕ → A → List A
write d [] zero v = v ∷ []
write d [] (suc i) v = d ∷ write d [] i v
write d (x ∷ xs) zero v = v ∷ xs
write d (x ∷ xs) (suc i) v = x ∷ write d xs i v

-- the addresses that a register can hold
pub record Region : Type 0 where
  pub crates : Interval
  pub stations : Interval
  pub sub_addresses : Interval

abbrev pub region : (crates stations sub_addresses : Interval) → Region
region c n a = record { crates = c; stations = n; sub_addresses = a }

-- A range for each variable, 0 past the end. For each register its addresses, or none where it may be unset, as past the end.
pub record Facts : Type 0 where
  pub ranges : List Interval
  pub registers : List (Option Region)

abbrev pub facts : List Interval → List (Option Region) → Facts
facts ranges registers = record { ranges = ranges; registers = registers }

-- none where it can't be reached
abbrev pub Known : Type 0
Known = Option Facts

abbrev pub range_at : List Interval → ℕ → Interval
range_at rs x = slice_index_or rs x (only 0)

abbrev pub region_at : List (Option Region) → ℕ → Option Region
region_at gs r = slice_index_or gs r None

abbrev pub with_range : ℕ → Interval → Facts → Facts
with_range x r k = facts (write (only 0) k.ranges x r) k.registers

abbrev pub with_region : ℕ → Region → Facts → Facts
with_region r g k = facts k.ranges (write None k.registers r (Some g))
