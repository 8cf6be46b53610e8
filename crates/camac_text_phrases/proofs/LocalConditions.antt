-- Readers of conditions are local.
use Rattle.std.proofs.Common.{◌≡◌, ℕ, true, false, List, [], ◌∷◌, ◌++◌, nat_lt, length, Option, Some, None, refl, sym, ◌∙◌}
use Rattle.camac_range.specs.declared.comparison.Cmp.{Cmp}
use Rattle.camac_range.specs.declared.comparison.Cmp.TheVariants as cmp
use Rattle.camac_lang.specs.Tree.{flag_q, flag_x, compare, plain, negated}
use Rattle.camac_tokens.specs.declared.fault.Limit.TheVariants as limit
use Rattle.camac_tokens.specs.declared.fault.TextCase.TheVariants as text_case
use Rattle.camac_tokens.specs.declared.token.Keyword.TheVariants as word
use Rattle.camac_tokens.specs.declared.token.Sign.TheVariants as sign
use Rattle.camac_tokens.specs.declared.token.TokenKind.{TokenKind}
use Rattle.camac_tokens.specs.declared.token.TokenKind.TheVariants as kind
use Rattle.camac_text_cursor.specs.declared.choice.Choice.TheVariants as choice
use Rattle.camac_text_cursor.specs.Reading.{State, Reader, ◌>>=◌, ◌>>◌, give, peek, advance, fail, kind_of, until}
use Rattle.camac_text_cursor.specs.Readers.{is_keyword}
use Rattle.camac_text_phrases.specs.Expressions.{expression_at}
use Rattle.camac_text_phrases.specs.Conditions.{comparison_by, comparison_sign, compared, test_by, test_at, part_by, part_at, no_part_by, part_limit, and_part, one_more_part, condition_at}
use Rattle.camac_text_phrases.proofs.ConditionsRead.{parts_progress}
use Rattle.camac_text_cursor.specs.Expected.{suits}
use Rattle.camac_text_cursor.specs.declared.choice.Choice.{Choice}
use Rattle.camac_text_cursor.proofs.Places.{missed_all, admits, admits_one, IsLocal, Begins, IsHere, local_then, begins_then, begins_peek}
use Rattle.camac_text_cursor.proofs.Primitives.{local_give, begins_fail, begins_advance, local_if, here_admitted, refusal, local_match, local_wanting, local_until}
use Rattle.camac_text_cursor.proofs.Local.{begins_take, begins_variable_here}
use Rattle.camac_text_phrases.proofs.LocalExpressions.{local_expression}

begins_comparison_by : (k : Option TokenKind) (s : State) → IsHere s → suits choice.Comparison k ≡ true → Begins (comparison_by k) s
begins_comparison_by (Some (kind.Sign sign.Less)) s here is = begins_take cmp.Less s here
begins_comparison_by (Some (kind.Sign sign.AtMost)) s here is = begins_take cmp.AtMost s here
begins_comparison_by (Some (kind.Sign sign.More)) s here is = begins_take cmp.More s here
begins_comparison_by (Some (kind.Sign sign.AtLeast)) s here is = begins_take cmp.AtLeast s here
begins_comparison_by (Some (kind.Sign sign.Same)) s here is = begins_take cmp.Same s here
begins_comparison_by (Some (kind.Sign sign.Differs)) s here is = begins_take cmp.Differs s here
begins_comparison_by _ s here is = absurd cc

no_comparison_by : (k : Option TokenKind) (s : State) → suits choice.Comparison k ≡ false → comparison_by k s ≡ (let f : Reader Cmp = refusal (choice.Comparison ∷ []) None in f s)
no_comparison_by (Some (kind.Sign sign.Less)) s free = absurd cc
no_comparison_by (Some (kind.Sign sign.AtMost)) s free = absurd cc
no_comparison_by (Some (kind.Sign sign.More)) s free = absurd cc
no_comparison_by (Some (kind.Sign sign.AtLeast)) s free = absurd cc
no_comparison_by (Some (kind.Sign sign.Same)) s free = absurd cc
no_comparison_by (Some (kind.Sign sign.Differs)) s free = absurd cc
no_comparison_by _ s free = refl

local_comparison : (s : State) → IsLocal comparison_sign s
unfolding comparison_sign
local_comparison s =
    local_wanting (choice.Comparison ∷ []) (peek >>= comparison_by) s
    (λ u is. begins_peek comparison_by u (begins_comparison_by (kind_of u.rest) u (here_admitted (choice.Comparison ∷ []) u is) (sym (admits_one choice.Comparison (kind_of u.rest)) ∙ is)))
    (λ u free. no_comparison_by (kind_of u.rest) u (sym (admits_one choice.Comparison (kind_of u.rest)) ∙ free))

local_compared : (room : ℕ) (s : State) → IsLocal (compared room) s
unfolding compared
local_compared room s =
    local_then (expression_at room) (λ a. comparison_sign >>= λ how. expression_at room >>= λ b. give (compare a how b)) s (local_expression room s) (λ a u.
    local_then comparison_sign (λ how. expression_at room >>= λ b. give (compare a how b)) u (local_comparison u) (λ how u.
    local_then (expression_at room) (λ b. give (compare a how b)) u (local_expression room u) (λ b v. local_give (compare a how b) v)))

begins_test_by : (room : ℕ) (k : Option TokenKind) (s : State) → IsHere s → suits choice.Flag k ≡ true → Begins (test_by room k) s
begins_test_by room (Some (kind.Keyword word.Q)) s here is = begins_take flag_q s here
begins_test_by room (Some (kind.Keyword word.X)) s here is = begins_take flag_x s here
begins_test_by room _ s here is = absurd cc

no_test_by : (room : ℕ) (k : Option TokenKind) (s : State) → suits choice.Flag k ≡ false → test_by room k s ≡ compared room (missed_all (choice.Flag ∷ []) s)
no_test_by room (Some (kind.Keyword word.Q)) s free = absurd cc
no_test_by room (Some (kind.Keyword word.X)) s free = absurd cc
no_test_by room _ s free = refl

local_test : (room : ℕ) (s : State) → IsLocal (test_at room) s
unfolding test_at
local_test room s =
    local_match (choice.Flag ∷ []) (peek >>= test_by room) (compared room) s
    (λ u is. begins_peek (test_by room) u (begins_test_by room (kind_of u.rest) u (here_admitted (choice.Flag ∷ []) u is) (sym (admits_one choice.Flag (kind_of u.rest)) ∙ is)))
    (λ u free. no_test_by room (kind_of u.rest) u (sym (admits_one choice.Flag (kind_of u.rest)) ∙ free))
    (local_compared room)

local_plain : (room : ℕ) (s : State) → IsLocal (test_at room >>= λ t. give (plain t)) s
local_plain room s = local_then (test_at room) (λ t. give (plain t)) s (local_test room s) (λ t u. local_give (plain t) u)

begins_part_by : (room : ℕ) (k : Option TokenKind) (s : State) → IsHere s → suits (choice.Word word.Not) k ≡ true → Begins (part_by room k) s
begins_part_by room (Some (kind.Keyword word.Not)) s here is =
    begins_then advance (λ _. test_at room >>= λ t. give (negated t)) s (begins_advance s here) (λ _ u.
    local_then (test_at room) (λ t. give (negated t)) u (local_test room u) (λ t v. local_give (negated t) v))
begins_part_by room _ s here is = absurd cc

no_part_at : (room : ℕ) (k : Option TokenKind) (s : State) → suits (choice.Word word.Not) k ≡ false → part_by room k s ≡ (test_at room >>= λ t. give (plain t)) (missed_all (choice.Word word.Not ∷ []) s)
no_part_at room (Some (kind.Keyword word.Not)) s free = absurd cc
no_part_at room _ s free = refl

local_part : (room : ℕ) (s : State) → IsLocal (part_at room) s
unfolding part_at
local_part room s =
    local_match (choice.Word word.Not ∷ []) (peek >>= part_by room) (test_at room >>= λ t. give (plain t)) s
    (λ u is. begins_peek (part_by room) u (begins_part_by room (kind_of u.rest) u (here_admitted (choice.Word word.Not ∷ []) u is) (sym (admits_one (choice.Word word.Not) (kind_of u.rest)) ∙ is)))
    (λ u free. no_part_at room (kind_of u.rest) u (sym (admits_one (choice.Word word.Not) (kind_of u.rest)) ∙ free))
    (local_plain room)

-- what begins a part
abbrev parts : List Choice
parts = choice.Mark sign.LeftBracket ∷ choice.Name ∷ choice.Number ∷ choice.Flag ∷ choice.Word word.Not ∷ []

begins_no_part_by : (k : Option TokenKind) (s : State) → kind_of s.rest ≡ k → admits parts k ≡ true → Begins (no_part_by k) s
begins_no_part_by (Some (kind.Keyword word.Q)) s at is = begins_fail (text_case.Limit limit.Parts) s refl tt
begins_no_part_by (Some (kind.Keyword word.X)) s at is = begins_fail (text_case.Limit limit.Parts) s refl tt
begins_no_part_by (Some (kind.Keyword word.Not)) s at is = begins_fail (text_case.Limit limit.Parts) s refl tt
begins_no_part_by (Some (kind.Number n)) s at is = begins_fail (text_case.Limit limit.Parts) s refl tt
begins_no_part_by (Some (kind.Name x)) s at is = begins_variable_here (λ _. fail (text_case.Limit limit.Parts)) s x at (λ _. begins_fail (text_case.Limit limit.Parts) s refl tt)
begins_no_part_by (Some (kind.Sign sign.LeftBracket)) s at is = begins_fail (text_case.Limit limit.Parts) s refl tt
begins_no_part_by _ s at is = absurd cc

refuses_part : (k : Option TokenKind) (s : State) → admits parts k ≡ false → no_part_by k s ≡ (let f : Reader (Unit {0}) = refusal parts None in f s)
refuses_part (Some (kind.Keyword word.Q)) s free = absurd cc
refuses_part (Some (kind.Keyword word.X)) s free = absurd cc
refuses_part (Some (kind.Keyword word.Not)) s free = absurd cc
refuses_part (Some (kind.Number n)) s free = absurd cc
refuses_part (Some (kind.Name x)) s free = absurd cc
refuses_part (Some (kind.Sign sign.LeftBracket)) s free = absurd cc
refuses_part _ s free = refl

local_part_limit : (count : ℕ) (s : State) → IsLocal (part_limit count) s
unfolding part_limit
local_part_limit count s = local_if (nat_lt count 16) (give tt) (peek >>= no_part_by) s (λ _. local_give tt s) (λ _.
    local_wanting parts (peek >>= no_part_by) s (λ u is. begins_peek no_part_by u (begins_no_part_by (kind_of u.rest) u refl is)) (λ u free. refuses_part (kind_of u.rest) u free))

begins_and_part : (room count : ℕ) (s : State) → IsHere s → Begins (and_part room count) s
unfolding and_part
begins_and_part room count s here =
    begins_then advance (λ _. part_limit count >> part_at room) s (begins_advance s here) (λ _ u.
    local_then (part_limit count) (λ _. part_at room) u (local_part_limit count u) (λ _ v. local_part room v))

pub local_condition : (room : ℕ) (s : State) → IsLocal (condition_at room) s
unfolding condition_at
local_condition room s =
    local_then (part_at room) (λ first. until (choice.Word word.And) (is_keyword word.And) (one_more_part room) (first ∷ [])) s (local_part room s) (λ first u.
    local_until (choice.Word word.And) (is_keyword word.And) (one_more_part room) (parts_progress room) (λ at. refl) (λ xs v is.
    begins_then (and_part room (length xs)) (λ x. give (xs ++ x ∷ [])) v (begins_and_part room (length xs) v (here_admitted (choice.Word word.And ∷ []) v (admits_one (choice.Word word.And) (kind_of v.rest) ∙ is))) (λ x w. local_give (xs ++ x ∷ []) w)) (first ∷ []) u)
