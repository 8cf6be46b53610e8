-- What the language does not have, and what to write in its place.
use Rattle.std.specs.Prelude.{ℕ, Bool, false, ◌&&◌, ◌||◌, ◌==◌, nat_eq, not, List, [], ◌∷◌, find, length, map, Option, Some, None, option_map, if◌then◌else◌}
use Rattle.std.specs.Borrow.{Bor}
use Rattle.std.specs.List.{ends_with, starts_with}
use Rattle.std.specs.Char.{is_ascii_alphabetic}
use Rattle.std.specs.Str.{str_eq_ignore_ascii_case}
use Rattle.camac_tokens.specs.Words.{or_else}
use Rattle.camac_explain_text_words.specs.declared.absent.Absent.{Absent}
use Rattle.camac_explain_text_words.specs.declared.absent.TheConstants.{ABSENT}

-- words and signs of other languages, and what a script has in their place: the rows of src/absent.rt
unfoldable pub absent_table : List (List (List ℕ) × List ℕ)
absent_table = map (λ r. (map (λ s. s.now) r.0.now, r.1.now)) ABSENT

-- a row, where it is read
abbrev pub row_of : Bor (List (Bor (List ℕ))) × Bor (List ℕ) → List (List ℕ) × List ℕ
row_of r = (map (λ (s : Bor (List ℕ)). s.now) r.0.now, r.1.now)

-- a word or a sign as it is spelled, and what to write in its place
abbrev pub absent_of : Absent → List ℕ × List ℕ
absent_of a = (a.spelled.now, a.write.now)

-- one of these is the word, in any case of its letters
abbrev pub is_spelled : List (List ℕ) → (word : List ℕ) → Bool
is_spelled [] word = false
is_spelled (s ∷ ss) word = str_eq_ignore_ascii_case s word || is_spelled ss word

-- what the first row says that has the word
abbrev pub word_in : List (List (List ℕ) × List ℕ) → (word : List ℕ) → Option (List ℕ × List ℕ)
word_in [] word = None
word_in (r ∷ rs) word = if is_spelled r.0 word then Some (word, r.1) else word_in rs word

abbrev pub absent_word : (word : List ℕ) → Option (List ℕ × List ℕ)
absent_word word = word_in absent_table word

abbrev pub is_no_word : List ℕ → Bool
is_no_word [] = false
is_no_word (b ∷ bs) = not (is_ascii_alphabetic b)

-- a sign of two bytes or more begins with the last byte before a place, and goes on from there
abbrev pub begins_before : (sign before rest : List ℕ) → Bool
begins_before [] before rest = false
begins_before (b ∷ bs) before rest = not (length bs == 0) && (ends_with nat_eq before (b ∷ []) && starts_with nat_eq rest bs)

-- a sign of so many bytes stands at a place, or begins one byte before it
abbrev pub is_sign_around : (sign : List ℕ) → (size : ℕ) → (before rest : List ℕ) → Bool
is_sign_around sign size before rest = (length sign == size) && (is_no_word sign && (starts_with nat_eq rest sign || begins_before sign before rest))

abbrev pub sign_at : List (List ℕ) → (size : ℕ) → (before rest : List ℕ) → Option (List ℕ)
sign_at spellings size before rest = find (λ s. is_sign_around s size before rest) spellings

-- the first sign of so many bytes that stands around a place
abbrev pub sign_in : List (List (List ℕ) × List ℕ) → (size : ℕ) → (before rest : List ℕ) → Option (List ℕ × List ℕ)
sign_in [] size before rest = None
sign_in (r ∷ rs) size before rest =
    or_else (option_map (λ s. (s, r.1)) (sign_at r.0 size before rest)) (sign_in rs size before rest)

-- the longest sign of the table that stands around a place; of several the first
abbrev pub absent_sign : (before rest : List ℕ) → Option (List ℕ × List ℕ)
absent_sign before rest =
    or_else (sign_in absent_table 5 before rest)
    (or_else (sign_in absent_table 4 before rest)
    (or_else (sign_in absent_table 3 before rest) (or_else (sign_in absent_table 2 before rest) (sign_in absent_table 1 before rest))))
