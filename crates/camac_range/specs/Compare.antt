-- Comparisons of two numbers.
use Rattle.std.specs.Prelude.{ℕ, Bool, not, nat_eq, nat_lt, nat_le}
use Rattle.camac_range.specs.declared.comparison.Cmp.{Cmp}
use Rattle.camac_range.specs.declared.comparison.Cmp.TheVariants.{Less, AtMost, More, AtLeast, Same, Differs}

abbrev pub compared : Cmp → ℕ → ℕ → Bool
compared Less v w = nat_lt v w
compared AtMost v w = nat_le v w
compared More v w = nat_lt w v
compared AtLeast v w = nat_le w v
compared Same v w = nat_eq v w
compared Differs v w = not (nat_eq v w)

-- the comparison that holds where this one does not
abbrev pub opposite : Cmp → Cmp
opposite Less = AtLeast
opposite AtMost = More
opposite More = AtMost
opposite AtLeast = Less
opposite Same = Differs
opposite Differs = Same

-- the comparison read from the right
abbrev pub turned : Cmp → Cmp
turned Less = More
turned AtMost = AtLeast
turned More = Less
turned AtLeast = AtMost
turned Same = Same
turned Differs = Differs
