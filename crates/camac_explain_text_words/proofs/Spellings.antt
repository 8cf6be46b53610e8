-- Each word and sign is spelled in one way; bytes that are a text, and bytes that are none.
use Rattle.std.proofs.Common.{◌≡◌, ℕ, List, Option, Some, None, inl, inr, rules, Bool, true, false, refl}
use Rattle.std.specs.Prelude.{◌⊎◌}
use Rattle.std.specs.Str.{IsUtf8, is_utf8}
use Rattle.std.proofs.lemmas.Str.{IsUtf8-from_is_utf8}
use Rattle.camac_tokens.specs.Words.{action_words, call_words, control_words, declaration_words, keyword, or_else, pair_signs, single_signs, spelled_in}
use Rattle.camac_tokens.specs.declared.token.Keyword.{Keyword}
use Rattle.camac_tokens.specs.declared.token.Sign.{Sign}
use Rattle.camac_tokens.proofs.Uncut.{Each, entry_of}
use Rattle.camac_explain_text_words.specs.Spelled.{sign_text, word_text}

either : {W : Type 0} (a b : Option W) (w : W) → or_else a b ≡ Some w → (a ≡ Some w) ⊎ (b ≡ Some w)
either (Some x) b w e = inl e
either None b w e = inr e

abbrev IsText : List ℕ → Keyword → Type 0
IsText bytes w = bytes ≡ word_text w

abbrev IsSignText : List ℕ → Sign → Type 0
IsSignText bytes s = bytes ≡ sign_text s

declarations : Each IsText declaration_words
unfolding word_text
declarations = search rules

actions : Each IsText action_words
unfolding word_text
actions = search rules

calls : Each IsText call_words
unfolding word_text
calls = search rules

controls : Each IsText control_words
unfolding word_text
controls = search rules

pairs : Each IsSignText pair_signs
unfolding sign_text
pairs = search rules

singles : Each IsSignText single_signs
unfolding sign_text
singles = search rules

pub of_word : (text : List ℕ) (w : Keyword) → keyword text ≡ Some w → text ≡ word_text w
unfolding keyword
of_word text w e =
    elim (either (spelled_in declaration_words text) _ w e) [
      | inl d ↦ entry_of IsText declaration_words text w declarations d
      | inr e' ↦ elim (either (spelled_in action_words text) _ w e') [
        | inl a ↦ entry_of IsText action_words text w actions a
        | inr e'' ↦ elim (either (spelled_in call_words text) _ w e'') [
          | inl c ↦ entry_of IsText call_words text w calls c
          | inr k ↦ entry_of IsText control_words text w controls k
        ]
      ]
    ]

pub of_sign : (text : List ℕ) (s : Sign) → or_else (spelled_in pair_signs text) (spelled_in single_signs text) ≡ Some s → text ≡ sign_text s
of_sign text s e =
    elim (either (spelled_in pair_signs text) _ s e) [
      | inl p ↦ entry_of IsSignText pair_signs text s pairs p
      | inr n ↦ entry_of IsSignText single_signs text s singles n
    ]

is_no_text_by : (bytes : List ℕ) (b : Bool) → is_utf8 bytes ≡ b → ¬ (IsUtf8 bytes) → false ≡ b
is_no_text_by bytes true e h = absurd (h (IsUtf8-from_is_utf8 bytes e))
is_no_text_by bytes false e h = refl

pub is_no_text : (bytes : List ℕ) → ¬ (IsUtf8 bytes) → false ≡ is_utf8 bytes
is_no_text bytes h = is_no_text_by bytes (is_utf8 bytes) refl h
