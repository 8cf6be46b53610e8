-- A sentence: a text, and what is put into its gaps.
use Rattle.std.specs.Prelude.{ℕ, ◌-◌, ◌^◌, ◌==◌, nat_eq, Bool, List, [], ◌∷◌, ◌++◌, codes, decimal, if◌then◌else◌}
use Rattle.std.specs.Fmt.{signed_decimal}
use Rattle.std.specs.List.{after_first, before_first}
use Rattle.camac_lines.specs.Words.{quoted, shown_text}
use Rattle.camac_sentence.specs.declared.part.Part.{Part}
use Rattle.camac_sentence.specs.declared.part.Part.TheVariants as part

-- a `%`
abbrev pub is_gap : ℕ → Bool
is_gap b = b == 37

-- the text with these parts in its gaps, one after the other
abbrev pub filled : (text : List ℕ) → (parts : List (List ℕ)) → List ℕ
filled text [] = text
filled text (p ∷ ps) = before_first is_gap text ++ (p ++ filled (after_first is_gap text) ps)

-- the text with this in its only gap
abbrev pub with : (text part : List ℕ) → List ℕ
with text part = filled text (part ∷ [])

-- one number, or the first and the last of several
abbrev pub range : (low high : ℕ) → List ℕ
range low high = if nat_eq low high then decimal low else decimal low ++ codes " to " ++ decimal high

-- a cost past 64 bits is given as the greatest number of them
abbrev pub cost : ℕ → List ℕ
cost n = (if nat_eq n (2 ^ 64 - 1) then codes "more than " else []) ++ decimal n

abbrev pub part_text : Part → List ℕ
part_text (part.Word word) = word.now
part_text (part.Name name) = shown_text name.now
part_text (part.Quoted name) = quoted name.0.now
part_text (part.Number n) = decimal n
part_text (part.Large n) = decimal n
part_text (part.Count n) = decimal n
part_text (part.Signed n) = signed_decimal n
part_text (part.Range low high) = range low high
part_text (part.Cost n) = cost n
