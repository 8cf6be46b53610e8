-- Setting and clearing one of two bits, by their four states.
use Rattle.std.proofs.Common.{◌≡◌, ℕ, Bool, true, false, if◌then◌else◌, bit_or, refl, ap, sym, ◌∙◌}
use Rattle.bitflags.specs.Sets.{without}
use Rattle.camac_crate.specs.State.{CrateBits, bits_of, number_of, HasNoOther}

abbrev pub bits : (inhibit demand : Bool) → CrateBits
bits i d = record { inhibit = i; demand = d }

-- the number with a bit set or cleared
abbrev pub with_bit : ℕ → Bool → ℕ → ℕ
with_bit bit value n = if value then bit_or n bit else without 8 n bit

inhibit-is : (i d v : Bool) → with_bit 1 v (number_of (bits i d)) ≡ number_of (bits v d)
inhibit-is false false false = refl
inhibit-is false false true = refl
inhibit-is false true false = refl
inhibit-is false true true = refl
inhibit-is true false false = refl
inhibit-is true false true = refl
inhibit-is true true false = refl
inhibit-is true true true = refl

demand-is : (i d v : Bool) → with_bit 2 v (number_of (bits i d)) ≡ number_of (bits i v)
demand-is false false false = refl
demand-is false false true = refl
demand-is false true false = refl
demand-is false true true = refl
demand-is true false false = refl
demand-is true false true = refl
demand-is true true false = refl
demand-is true true true = refl

same : (i d : Bool) → bits_of (number_of (bits i d)) ≡ bits i d
same false false = refl
same false true = refl
same true false = refl
same true true = refl

pub number-only : (b : CrateBits) → HasNoOther (number_of b)
number-only b = ap number_of (same b.inhibit b.demand)

pub inhibit-number : (n : ℕ) (v : Bool) → HasNoOther n → with_bit 1 v n ≡ number_of (record (bits_of n) { inhibit = v })
inhibit-number n v h = ap (with_bit 1 v) (sym h) ∙ inhibit-is (bits_of n).inhibit (bits_of n).demand v

pub demand-number : (n : ℕ) (v : Bool) → HasNoOther n → with_bit 2 v n ≡ number_of (record (bits_of n) { demand = v })
demand-number n v h = ap (with_bit 2 v) (sym h) ∙ demand-is (bits_of n).inhibit (bits_of n).demand v

pub bits-of-number : (b : CrateBits) → bits_of (number_of b) ≡ b
bits-of-number b = same b.inhibit b.demand
