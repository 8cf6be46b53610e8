-- Tests of lists, of names and of numbers.
use Rattle.std.specs.Prelude.{ℕ, ◌+◌, max, List, [], ◌∷◌, Option, Some, None, Bool, true, false, not, ◌&&◌, nat_eq, nat_le, bytes_eq, length}
use Rattle.camac_lang.specs.Tree.{Text}

-- whether a test holds of each, and of the value that is there
abbrev pub each : {A : Type 0} → (A → Bool) → List A → Bool
each test [] = true
each test (a ∷ rest) = test a && each test rest

abbrev pub has : {A : Type 0} → Option A → (A → Bool) → Bool
has None test = false
has (Some a) test = test a

-- a value, unless a rule is broken
abbrev pub unless_broken : {A : Type 0} → Bool → A → Option A
unless_broken true a = Some a
unless_broken false a = None

abbrev pub total : {A : Type 0} → (A → ℕ) → List A → ℕ
total f [] = 0
total f (a ∷ rest) = f a + total f rest

abbrev pub most : {A : Type 0} → (A → ℕ) → List A → ℕ
most f [] = 0
most f (a ∷ rest) = max (f a) (most f rest)

-- names and numbers, of which none is there twice
abbrev pub is_new : Text → List Text → Bool
is_new x ys = each (λ y. not (bytes_eq x y)) ys

abbrev pub are_new : List Text → List Text → Bool
are_new [] ys = true
are_new (x ∷ xs) ys = is_new x ys && are_new xs (x ∷ ys)

abbrev pub are_distinct : List ℕ → Bool
are_distinct [] = true
are_distinct (x ∷ xs) = each (λ y. not (nat_eq x y)) xs && are_distinct xs

-- a number of the language, a function code, a sub-address, a word of 24 bits
abbrev pub is_number : ℕ → Bool
is_number n = nat_le n 4294967295

abbrev pub is_function : ℕ → Bool
is_function f = nat_le f 31

abbrev pub is_sub_address : ℕ → Bool
is_sub_address a = nat_le a 15

abbrev pub is_word : ℕ → Bool
is_word w = nat_le w 16777215

-- a name has 1 to 32 bytes
abbrev pub is_name : Text → Bool
is_name x = nat_le 1 (length x) && nat_le (length x) 32
