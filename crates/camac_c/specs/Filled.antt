-- What goes out into a buffer of C.
use Rattle.std.specs.Prelude.{◌≡◌, ℕ, ◌*◌, ◌/◌, min, List, ◌++◌, length, take, drop}
use Rattle.std.specs.List.{flat_map}
use Rattle.byteorder.specs.Endian.{little_bytes}

-- the first n of these, and then what stood there
abbrev pub over : ℕ → List ℕ → List ℕ → List ℕ
over n list buffer = take n list ++ drop n buffer

-- as many as there is room for, at the front
abbrev pub filled : List ℕ → List ℕ → List ℕ
filled list buffer = over (min (length list) (length buffer)) list buffer

-- the first n words, the least byte of each first, and then what stood there
abbrev pub over_words : ℕ → (words bytes : List ℕ) → List ℕ
over_words n words bytes = flat_map (little_bytes 4) (take n words) ++ drop (4 * n) bytes

-- whole words, as many as there is room for
abbrev pub filled_words : (words bytes : List ℕ) → List ℕ
filled_words words bytes = over_words (min (length words) (length bytes / 4)) words bytes

-- the size is that of the whole text, also where the buffer is too small
abbrev pub Gives : (text old new : List ℕ) (size : ℕ) → Type 0
Gives text old new size = (size ≡ length text) × (new ≡ filled text old)

abbrev pub GivesNothing : (old new : List ℕ) (size : ℕ) → Type 0
GivesNothing old new size = (size ≡ 0) × (new ≡ old)
