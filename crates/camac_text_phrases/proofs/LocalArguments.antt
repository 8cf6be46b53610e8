-- Readers of arguments are local.
use Rattle.std.proofs.Common.{◌≡◌, ℕ, zero, suc, Bool, true, false, Option, Some, None, cond, List, [], ◌∷◌, ◌++◌, refl, sym, ◌∙◌}
use Rattle.camac_lang.specs.Tree.{Expression}
use Rattle.camac_tokens.specs.declared.fault.Limit.TheVariants as limit
use Rattle.camac_tokens.specs.declared.fault.TextCase.TheVariants as text_case
use Rattle.camac_tokens.specs.declared.token.Sign.{Sign}
use Rattle.camac_tokens.specs.declared.token.Sign.TheVariants as sign
use Rattle.camac_tokens.specs.declared.token.TokenKind.{TokenKind}
use Rattle.camac_text_cursor.specs.declared.choice.Choice.TheVariants as choice
use Rattle.camac_text_cursor.specs.Reading.{State, Reader, peek, ◌>>=◌, ◌>>◌, give, advance, fail, kind_of, unexpected}
use Rattle.camac_text_cursor.specs.Readers.{is_sign, expect_sign}
use Rattle.camac_tokens.specs.declared.token.TokenKind.TheVariants as kind
use Rattle.camac_text_cursor.proofs.Places.{admits, admits_one, IsLocal, local_then, begins_peek}
use Rattle.camac_text_cursor.proofs.Primitives.{local_give, local_fail, begins_fail, begins_advance, begins_if, here_admitted, refusal, local_refusing, local_test}
use Rattle.camac_text_cursor.proofs.Local.{local_expect_sign}
use Rattle.camac_text_phrases.specs.Expressions.{expression_at}
use Rattle.camac_text_phrases.specs.Arguments.{counted_sign, shows_more, argument_after, more_arguments, arguments_at}
use Rattle.camac_text_phrases.proofs.LocalExpressions.{values, local_expression, begins_expression, no_expression}

-- how many arguments a token tells that shows others
abbrev wants : ℕ → Bool → Option ℕ
wants wanted shows = cond shows (Some wanted) None

local_counted : (w : Sign) (shows : Option TokenKind → Bool) (wanted : ℕ) (s : State) → IsLocal (counted_sign w shows wanted) s
unfolding counted_sign
local_counted w shows wanted s =
    local_refusing (choice.Mark w ∷ []) (λ k. wants wanted (shows k)) (peek >>= λ k. cond (is_sign w k) advance (cond (shows k) (fail (text_case.ArgumentCount wanted)) (unexpected (choice.Mark w)))) s
    (λ u is. begins_peek (λ k. cond (is_sign w k) advance (cond (shows k) (fail (text_case.ArgumentCount wanted)) (unexpected (choice.Mark w)))) u
    (begins_if (is_sign w (kind_of u.rest)) advance (cond (shows (kind_of u.rest)) (fail (text_case.ArgumentCount wanted)) (unexpected (choice.Mark w))) u
    (λ _. begins_advance u (here_admitted (choice.Mark w ∷ []) u is)) (λ not_it. absurd (let both = sym (admits_one (choice.Mark w) (kind_of u.rest) ∙ not_it) ∙ is in cc))))
    (λ u free. by u (is_sign w (kind_of u.rest)) (shows (kind_of u.rest)) (sym (admits_one (choice.Mark w) (kind_of u.rest)) ∙ free)) where
      by : (u : State) (b shown : Bool) → b ≡ false → (let f : Reader (Unit {0}) = cond b advance (cond shown (fail (text_case.ArgumentCount wanted)) (unexpected (choice.Mark w))) in f u) ≡ refusal (choice.Mark w ∷ []) (wants wanted shown) u
      by u true shown free = absurd cc
      by u false true free = refl
      by u false false free = refl

no_value : (k : Option TokenKind) → admits values k ≡ true → is_sign sign.RightBracket k ≡ true → ⊥
no_value (Some (kind.Sign sign.RightBracket)) is ends = absurd cc
no_value _ is ends = absurd cc

local_argument : (wanted room : ℕ) (es : List Expression) (s : State) → IsLocal (argument_after wanted room es) s
local_argument wanted room [] s =
    local_refusing values (λ k. wants wanted (is_sign sign.RightBracket k)) (peek >>= λ k. cond (is_sign sign.RightBracket k) (fail (text_case.ArgumentCount wanted)) (expression_at room)) s
    (λ u is. begins_peek (λ k. cond (is_sign sign.RightBracket k) (fail (text_case.ArgumentCount wanted)) (expression_at room)) u
    (begins_if (is_sign sign.RightBracket (kind_of u.rest)) (fail (text_case.ArgumentCount wanted)) (expression_at room) u (λ ends. absurd (no_value (kind_of u.rest) is ends)) (λ _. begins_expression room u is)))
    (λ u free. by u (is_sign sign.RightBracket (kind_of u.rest)) (no_expression room u free)) where
      by : (u : State) (ends : Bool) → expression_at room u ≡ refusal values None u → (let f : Reader Expression = cond ends (fail (text_case.ArgumentCount wanted)) (expression_at room) in f u) ≡ refusal values (wants wanted ends) u
      by u true refused = refl
      by u false refused = refused
local_argument wanted room (x ∷ xs) s =
    local_then (counted_sign sign.Comma (is_sign sign.RightBracket) wanted) (λ _. expression_at room) s (local_counted sign.Comma (is_sign sign.RightBracket) wanted s) (λ _ u. local_expression room u)

local_more : (wanted room n : ℕ) (es : List Expression) (s : State) → IsLocal (more_arguments wanted room n es) s
unfolding more_arguments
local_more wanted room zero es s = local_give es s
local_more wanted room (suc n) es s = local_then (argument_after wanted room es) (λ e. more_arguments wanted room n (es ++ e ∷ [])) s (local_argument wanted room es s) (λ e u. local_more wanted room n (es ++ e ∷ []) u)

pub local_arguments : (room n : ℕ) (s : State) → IsLocal (arguments_at room n) s
unfolding arguments_at
local_arguments zero n s =
    local_test (choice.Mark sign.LeftBracket) (is_sign sign.LeftBracket) (λ at. refl) (fail (text_case.Limit limit.Depth)) (fail text_case.Unexpected) s (λ u _. begins_fail (text_case.Limit limit.Depth) u refl tt) (λ u. local_fail text_case.Unexpected u tt)
local_arguments (suc room) n s =
    local_then (expect_sign sign.LeftBracket) (λ _. more_arguments n room n [] >>= λ es. counted_sign sign.RightBracket (shows_more n) n >> give es) s (local_expect_sign sign.LeftBracket s) (λ _ u.
    local_then (more_arguments n room n []) (λ es. counted_sign sign.RightBracket (shows_more n) n >> give es) u (local_more n room n [] u) (λ es u.
    local_then (counted_sign sign.RightBracket (shows_more n) n) (λ _. give es) u (local_counted sign.RightBracket (shows_more n) n u) (λ _ v. local_give es v)))
