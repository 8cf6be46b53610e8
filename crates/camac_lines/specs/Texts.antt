-- Texts one after another.
use Rattle.std.specs.Prelude.{◌≡◌, ℕ, List, ◌++◌, Option, Result, MatchResult}
use Rattle.std.specs.Io.KnownBytes.{Appends}
use Rattle.std.specs.List.{flat_map, range_with_len}
use Rattle.camac_word.specs.Writing.{AppendsPrefix}

-- the texts of so many numbers from the first on
unfoldable pub texts : (ℕ → List ℕ) → (first count : ℕ) → List ℕ
texts text first count = flat_map text (range_with_len first count)

-- at `Ok` new is old and the text but its end, which is left, and else old and a prefix of the text
abbrev pub Puts : {T E : Type 0} → Option (List ℕ) → Option (List ℕ) → Result T E → (text left : List ℕ) → Type 0
Puts old new r text left = MatchResult r (λ _. (written : List ℕ) × (text ≡ written ++ left) × Appends old new written) (λ _. AppendsPrefix old new text)
