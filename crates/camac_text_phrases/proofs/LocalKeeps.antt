-- Readers of kept ranges are local.
use Rattle.std.proofs.Common.{◌≡◌, refl, ◌∙◌, ℕ, Bool, true, false, nat_eq, Option, List, [], ◌∷◌, ◌++◌, cond}
use Rattle.camac_lang.specs.Tree.{Keep}
use Rattle.camac_tokens.specs.declared.fault.TextCase.TheVariants as text_case
use Rattle.camac_tokens.specs.declared.token.Keyword.TheVariants as word
use Rattle.camac_tokens.specs.declared.token.Sign.TheVariants as sign
use Rattle.camac_tokens.specs.declared.token.TokenKind.{TokenKind}
use Rattle.camac_tokens.specs.declared.token.TokenKind.TheVariants as kind
use Rattle.camac_text_cursor.specs.declared.choice.Choice.TheVariants as choice
use Rattle.camac_text_cursor.specs.Reading.{State, ◌>>=◌, ◌>>◌, give, advance, check, kind_of, until}
use Rattle.camac_text_cursor.specs.Places.{IsName, CaseFits}
use Rattle.camac_text_cursor.specs.Readers.{is_keyword, is_sign, expect, expect_sign, any_number}
use Rattle.camac_text_phrases.specs.declared.keeping.Own.{Own}
use Rattle.camac_text_phrases.specs.declared.keeping.Own.TheVariants as of_loop
use Rattle.camac_text_phrases.specs.Keeps.{own_place, own_case, is_free, kept_case, keep_at, next_keep, one_more_keep, keep_list, keeps_at}
use Rattle.camac_text_cursor.specs.Expected.{is_of_order}
use Rattle.camac_text_phrases.proofs.KeepsRead.{kept, range_of, keeps_progress}
use Rattle.camac_text_cursor.proofs.Places.{admits_one, IsLocal, Begins, IsHere, local_then, begins_then}
use Rattle.camac_text_cursor.proofs.Primitives.{local_give, begins_advance, begins_check, here_admitted, local_test, local_until}
use Rattle.camac_text_cursor.proofs.Local.{local_expect, local_expect_sign, local_any_number, local_variable_here}

own_fits : (own : Own) (at : Option TokenKind) → IsName at → CaseFits (own_case own) at
own_fits (of_loop.Counter v) at is = is
own_fits (of_loop.Measure v) at is = is

kept_fits : (own : Own) (place : ℕ) (at : Option TokenKind) → IsName at → CaseFits (kept_case own place) at
kept_fits own place at is = by (nat_eq (own_place own) place) where
  by : (b : Bool) → CaseFits (cond b (own_case own) text_case.KeptTwice) at
  by true = own_fits own at is
  by false = is

kept_out_of_order : (own : Own) (place : ℕ) → is_of_order (kept_case own place) ≡ false
kept_out_of_order own place = by own (nat_eq (own_place own) place) where
  by : (w : Own) (b : Bool) → is_of_order (cond b (own_case w) text_case.KeptTwice) ≡ false
  by (of_loop.Counter v) true = refl
  by (of_loop.Measure v) true = refl
  by w false = refl

begins_range : (place : ℕ) (s : State) → IsHere s → Begins (range_of place) s
begins_range place s here =
    begins_then advance (λ _. expect word.In >> (any_number >>= λ low. expect_sign sign.UpTo >> (any_number >>= λ high. give (kept place low high)))) s (begins_advance s here) (λ _ u.
    local_then (expect word.In) (λ _. any_number >>= λ low. expect_sign sign.UpTo >> (any_number >>= λ high. give (kept place low high))) u (local_expect word.In u) (λ _ u.
    local_then any_number (λ low. expect_sign sign.UpTo >> (any_number >>= λ high. give (kept place low high))) u (local_any_number u) (λ low u.
    local_then (expect_sign sign.UpTo) (λ _. any_number >>= λ high. give (kept place low high)) u (local_expect_sign sign.UpTo u) (λ _ u.
    local_then any_number (λ high. give (kept place low high)) u (local_any_number u) (λ high u. local_give (kept place low high) u)))))

local_keep : (own : Own) (keeps : List Keep) (s : State) → IsLocal (keep_at own keeps) s
unfolding keep_at
local_keep own keeps s =
    local_variable_here (λ place. check (is_free place own keeps) (kept_case own place) >> range_of place) s (λ place x u at.
    begins_check (is_free place own keeps) (kept_case own place) (range_of place) u (kept_out_of_order own place) (kept_fits own place (kind_of u.rest) (x, at)) (λ _. begins_range place u (kind.Name x, at)))

begins_next_keep : (own : Own) (keeps : List Keep) (s : State) → IsHere s → Begins (next_keep own keeps) s
unfolding next_keep
begins_next_keep own keeps s here = begins_then advance (λ _. keep_at own keeps) s (begins_advance s here) (λ _ u. local_keep own keeps u)

begins_keep_list : (own : Own) (s : State) → IsHere s → Begins (keep_list own) s
unfolding keep_list
begins_keep_list own s here =
    begins_then advance (λ _. keep_at own [] >>= λ first. until (choice.Mark sign.Comma) (is_sign sign.Comma) (one_more_keep own) (first ∷ [])) s (begins_advance s here) (λ _ u.
    local_then (keep_at own []) (λ first. until (choice.Mark sign.Comma) (is_sign sign.Comma) (one_more_keep own) (first ∷ [])) u (local_keep own [] u) (λ first u.
    local_until (choice.Mark sign.Comma) (is_sign sign.Comma) (one_more_keep own) (keeps_progress own) (λ at. refl) (λ ks v is.
    begins_then (next_keep own ks) (λ k. give (ks ++ k ∷ [])) v (begins_next_keep own ks v (here_admitted (choice.Mark sign.Comma ∷ []) v (admits_one (choice.Mark sign.Comma) (kind_of v.rest) ∙ is))) (λ k w. local_give (ks ++ k ∷ []) w)) (first ∷ []) u))

pub local_keeps : (own : Own) (s : State) → IsLocal (keeps_at own) s
unfolding keeps_at
local_keeps own s =
    local_test (choice.Word word.Keep) (is_keyword word.Keep) (λ at. refl) (keep_list own) (give []) s
    (λ u is. begins_keep_list own u (here_admitted (choice.Word word.Keep ∷ []) u (admits_one (choice.Word word.Keep) (kind_of u.rest) ∙ is))) (λ u. local_give [] u)
