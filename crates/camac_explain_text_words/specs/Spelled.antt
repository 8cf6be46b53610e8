-- How words, signs and numbers are spelled, and the character with which a text begins.
use Rattle.std.specs.Prelude.{ℕ, Bool, ◌&&◌, ◌||◌, List, [], ◌∷◌, ◌++◌, codes, drop, length, map, nat_le, nat_lt, take_while, if◌then◌else◌, take}
use Rattle.std.specs.Char.{is_ascii_digit, is_ascii_graphic}
use Rattle.std.specs.Str.{str_eq_ignore_ascii_case, is_utf8}
use denote.Enum.Bare.{sameb}
use Rattle.camac_tokens.specs.Words.{Spelling, action_words, call_words, control_words, declaration_words, pair_signs, single_signs}
use Rattle.camac_tokens.specs.contracts.token.Keyword as keyword_type
use Rattle.camac_tokens.specs.contracts.token.Sign as sign_type
use Rattle.camac_tokens.specs.declared.token.Keyword.{Keyword}
use Rattle.camac_tokens.specs.declared.token.Sign.{Sign}

abbrev pub is_word : (w v : Keyword) → Bool
is_word w v = sameb keyword_type.the_type w v

abbrev pub is_mark : (s t : Sign) → Bool
is_mark s t = sameb sign_type.the_type s t

-- the bytes of the first row that spells it
abbrev pub bytes_in : {W : Type 0} → (is_it : W → Bool) → List (Spelling W) → List ℕ
bytes_in is_it [] = []
bytes_in is_it (s ∷ ss) = if is_it s.spelled then s.bytes else bytes_in is_it ss

-- the words of the language, by their lists
abbrev pub words : List (Spelling Keyword)
words = declaration_words ++ (action_words ++ (call_words ++ control_words))

abbrev pub keywords : List Keyword
keywords = map (λ s. s.spelled) words

unfoldable pub word_text : Keyword → List ℕ
word_text w = bytes_in (is_word w) words

unfoldable pub sign_text : Sign → List ℕ
sign_text s = bytes_in (is_mark s) (pair_signs ++ single_signs)

abbrev pub is_hexadecimal_digit : ℕ → Bool
is_hexadecimal_digit b = is_ascii_digit b || ((nat_le 65 b && nat_le b 70) || (nat_le 97 b && nat_le b 102))

-- a number in other languages: hexadecimal digits, and then an `h`
abbrev pub is_hexadecimal : (word : List ℕ) → Bool
is_hexadecimal word =
    nat_lt 0 (length (take_while is_hexadecimal_digit word))
    && str_eq_ignore_ascii_case (codes "h") (drop (length (take_while is_hexadecimal_digit word)) word)

abbrev pub first_byte : (text : List ℕ) → ℕ
first_byte [] = 0
first_byte (b ∷ bs) = b

abbrev pub character_size : (first : ℕ) → ℕ
character_size b =
    if is_ascii_graphic b then 1 else (if nat_lt b 195 then 0 else (if nat_lt b 224 then 2 else (if nat_lt b 240 then 3 else 4)))

-- bytes that are a text, or nothing
abbrev pub or_empty : List ℕ → List ℕ
or_empty bytes = if is_utf8 bytes then bytes else []

-- the bytes of the character with which a text begins, where it is one that can be shown
abbrev pub character : (text : List ℕ) → List ℕ
character text = or_empty (take (character_size (first_byte text)) text)
