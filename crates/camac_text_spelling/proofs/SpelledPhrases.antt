-- Expressions, conditions and single actions that are read are spelled so.
use Rattle.std.proofs.Common.{◌≡◌, ℕ, zero, suc, true, List, Option, Some, Ok, refl, Bool, false, cond, nat_lt, [], ◌∷◌, length, sym, ap, subst, ◌+◌, ◌++◌, None, ◌∙◌}
use Rattle.std.specs.Str.{bytes_eq}
use Rattle.camac_lang.specs.Tree.{Expression, Test, flag_q, flag_x, Part, plain, negated, Condition, Move, no_data, into, from, Keep, Text, Statement, assign, set_register, single, put, crate_call, lam_call}
use Rattle.camac_lang.specs.declared.word.WordSize.{WordSize}
use Rattle.camac_lang.specs.declared.word.CrateCall.{CrateCall}
use Rattle.camac_lang.specs.declared.word.CrateCall.TheVariants as crate_word
use Rattle.camac_lang.specs.declared.word.LamCall.{LamCall}
use Rattle.camac_lang.specs.declared.word.LamCall.TheVariants as lam_word
use Rattle.camac_lang.specs.declared.spot.Spot.{Spot}
use Rattle.camac_tokens.specs.declared.token.Sign.TheVariants as mark
use Rattle.camac_tokens.specs.declared.token.TokenKind.{TokenKind}
use Rattle.camac_tokens.specs.declared.token.TokenKind.TheVariants as kind
use Rattle.camac_tokens.specs.declared.fault.Limit.TheVariants as limit
use Rattle.camac_tokens.specs.declared.fault.TextCase.TheVariants as text_case
use Rattle.camac_tokens.specs.declared.token.Keyword.TheVariants as keyword
use Rattle.camac_tokens.specs.declared.token.Keyword.{Keyword}
use Rattle.camac_text_cursor.specs.declared.choice.Choice.TheVariants as choice
use Rattle.camac_text_cursor.specs.Reading.{State, Reader, ◌>>=◌, give, kind_of, missed, past, ◌>>◌, peek, advance, fail, check, missing, change, spot_of}
use Rattle.camac_text_cursor.specs.Readers.{any_number, used_variable, expect_sign, is_keyword, is_sign, expect, variable_here, other_registers, branch_number, function_number, new_name, with_register, register_at, set_name, used_register, used_lam, begin}
use Rattle.camac_text_cursor.specs.Names.{name_place}
use Rattle.camac_text_cursor.proofs.Steps.{then_ok, err_no_ok, until_keeps, ok_is}
use Rattle.camac_text_cursor.proofs.Moves.{any_number_ok, check_ok, function_ok, new_name_ok}
use Rattle.camac_text_phrases.specs.Expressions.{Counted, counted, operator, divisor, bracket_by, factor_by, factor_with, is_product_sign, product_by, product_turn, product_with, is_sum_sign, joined, sum_turn, sum_with, bracketed, expression_at}
use Rattle.camac_text_phrases.specs.Conditions.{comparison_by, comparison_sign, compared, test_by, test_at, part_by, part_at, no_part_by, part_limit, and_part, condition_at}
use Rattle.camac_text_phrases.specs.declared.keeping.Own.{Own}
use Rattle.camac_text_phrases.specs.Keeps.{is_free, kept_case, keep_at, next_keep, keep_list, keeps_at}
use Rattle.camac_text_phrases.proofs.ExpressionsRead.{operator_ok, divisor_ok}
use Rattle.camac_text_spelling.specs.Pieces.{Piece, Names, word, sign, piece, first_piece, first_word, Prefix, text_at, name_at}
use Rattle.camac_text_spelling.specs.Phrases as phrase
use Rattle.camac_text_spelling.specs.Phrases.{expression}
use Rattle.camac_text_spelling.specs.Statements as spell
use Rattle.camac_text_spelling.proofs.Takes.{Took, join, returns, took_one, took_token, took_sign, took_variable, then_missed, missed_then, nothing, took_word, keyword_is, sign_is, sees_variable, seen, Knows, KnowsNames, took_branch, named, took_register, took_lam, took_list, prefix_begin, found_later, found_last}
use Rattle.camac_range.specs.declared.comparison.Cmp.{Cmp}
use Rattle.camac_range.specs.declared.comparison.Cmp.TheVariants as cmp
use Rattle.camac_text_statements.specs.Statements.{move_by, move_at, assignment, register_setting, single_action, put_action, switch_by, switch, crate_action, crate_switch, lam_action, lam_switch, lam_call_by, crate_call_by}
use Rattle.camac_text_statements.proofs.Acts.{begin_ok}

-- Expressions that are read are spelled so.

abbrev value : Names → Counted → List Piece
value n c = expression n c.value

module _ (n : Names) (inner : ℕ → Reader Counted) (inner_took : (so_far : ℕ) (s : State) (y : Counted × State) → kind_of s.rest ≡ Some (kind.Sign mark.LeftBracket) → inner so_far s ≡ Ok y → Took n s (value n y.0) y.1) where
  took_bracket_by : (so_far : ℕ) (k : Option TokenKind) (s : State) (y : Counted × State) → kind_of s.rest ≡ k → bracket_by inner so_far k s ≡ Ok y → Took n s (value n y.0) y.1
  took_bracket_by so_far (Some (kind.Sign mark.LeftBracket)) s y next e = inner_took so_far s y next e
  took_bracket_by so_far _ s y next e = absurd (err_no_ok _ _ e)

  took_factor_by : (so_far : ℕ) (k : Option TokenKind) (s : State) (y : Counted × State) → kind_of s.rest ≡ k → factor_by inner so_far k s ≡ Ok y → Took n s (value n y.0) y.1
  took_factor_by so_far (Some (kind.Number j)) s y next e =
      let m = then_ok (any_number s) _ y e in
      returns (value n) m.2 (took_token (any_number_ok s m.0 m.1))
  took_factor_by so_far (Some (kind.Name x)) s y next e =
      let m = then_ok (used_variable s) _ y e in
      returns (value n) m.2 (took_variable s m.0 m.1)
  took_factor_by so_far k s y next e = missed_then choice.Number (missed_then choice.Name (took_bracket_by so_far k (missed choice.Name (missed choice.Number s)) y next e))

  took_factor : (so_far : ℕ) (s : State) (y : Counted × State) → factor_with inner so_far s ≡ Ok y → Took n s (value n y.0) y.1
  unfolding factor_with
  took_factor so_far s y e = took_factor_by so_far (kind_of s.rest) s y refl e

  took_product_by : (s : State) (x : Counted) (k : Option TokenKind) (u : State) (y : Counted × State) → Took n s (value n x) u → is_product_sign k ≡ true → kind_of u.rest ≡ k → product_by inner x k u ≡ Ok y → Took n s (value n y.0) y.1
  took_product_by s x (Some (kind.Sign mark.Over)) u y left on next e =
      let a = then_ok (operator x.operators u) _ y e in
      let b = then_ok (divisor a.0.1) _ y a.2 in
      returns (value n) b.2 (join left (join (took_one next (operator_ok x.operators u a.0 a.1).left) (took_token (divisor_ok a.0.1 b.0 b.1).one)))
  took_product_by s x (Some (kind.Sign mark.Modulo)) u y left on next e =
      let a = then_ok (operator x.operators u) _ y e in
      let b = then_ok (divisor a.0.1) _ y a.2 in
      returns (value n) b.2 (join left (join (took_one next (operator_ok x.operators u a.0 a.1).left) (took_token (divisor_ok a.0.1 b.0 b.1).one)))
  took_product_by s x (Some (kind.Sign mark.Times)) u y left on next e =
      let a = then_ok (operator x.operators u) _ y e in
      let b = then_ok (factor_with inner a.0.0 a.0.1) _ y a.2 in
      returns (value n) b.2 (join left (join (took_one next (operator_ok x.operators u a.0 a.1).left) (took_factor a.0.0 a.0.1 b.0 b.1)))
  took_product_by s x _ u y left on next e = absurd cc

  took_product : (so_far : ℕ) (s : State) (y : Counted × State) → product_with inner so_far s ≡ Ok y → Took n s (value n y.0) y.1
  unfolding product_with product_turn
  took_product so_far s y e =
      let m = then_ok (factor_with inner so_far s) _ y e in
      until_keeps (λ (x : Counted) (u : State). Took n s (value n x) u) choice.Product (λ x u took. then_missed choice.Product took) is_product_sign (product_turn inner) (λ x u z t left on took. took_product_by s x (kind_of u.rest) u (z, t) left on refl took) m.0.0 m.0.1 y (took_factor so_far s m.0 m.1) m.2

  took_sum_by : (s : State) (x : Counted) (k : Option TokenKind) (u : State) (y : Counted × State) → Took n s (value n x) u → is_sum_sign k ≡ true → kind_of u.rest ≡ k → (operator x.operators >>= λ so_far. product_with inner so_far >>= λ right. give (counted (joined k x.value right.value) right.operators)) u ≡ Ok y → Took n s (value n y.0) y.1
  took_sum_by s x (Some (kind.Sign mark.Plus)) u y left on next e =
      let a = then_ok (operator x.operators u) _ y e in
      let b = then_ok (product_with inner a.0.0 a.0.1) _ y a.2 in
      returns (value n) b.2 (join left (join (took_one next (operator_ok x.operators u a.0 a.1).left) (took_product a.0.0 a.0.1 b.0 b.1)))
  took_sum_by s x (Some (kind.Sign mark.Minus)) u y left on next e =
      let a = then_ok (operator x.operators u) _ y e in
      let b = then_ok (product_with inner a.0.0 a.0.1) _ y a.2 in
      returns (value n) b.2 (join left (join (took_one next (operator_ok x.operators u a.0 a.1).left) (took_product a.0.0 a.0.1 b.0 b.1)))
  took_sum_by s x _ u y left on next e = absurd cc

  pub took_sum : (so_far : ℕ) (s : State) (y : Counted × State) → sum_with inner so_far s ≡ Ok y → Took n s (value n y.0) y.1
  unfolding sum_with sum_turn
  took_sum so_far s y e =
      let m = then_ok (product_with inner so_far s) _ y e in
      until_keeps (λ (x : Counted) (u : State). Took n s (value n x) u) choice.Sum (λ x u took. then_missed choice.Sum took) is_sum_sign (sum_turn inner) (λ x u z t left on took. took_sum_by s x (kind_of u.rest) u (z, t) left on refl took) m.0.0 m.0.1 y (took_product so_far s m.0 m.1) m.2

took_bracketed : (n : Names) (room so_far : ℕ) (s : State) (y : Counted × State) → kind_of s.rest ≡ Some (kind.Sign mark.LeftBracket) → bracketed room so_far s ≡ Ok y → Took n s (value n y.0) y.1
unfolding bracketed
took_bracketed n zero so_far s y next e = absurd (err_no_ok _ _ e)
took_bracketed n (suc room) so_far s y next e =
    let u : State = past s in
    let a = then_ok (sum_with (bracketed room) so_far u) _ y e in
    let inside = took_sum n (bracketed room) (took_bracketed n room) so_far u a.0 a.1 in
    let b = then_ok (expect_sign mark.RightBracket a.0.1) _ y a.2 in
    returns (value n) b.2 (join (took_one {s' = u} next refl) (join inside (took_sign mark.RightBracket a.0.1 b.0 b.1)))

pub took_expression : {n : Names} (room : ℕ) (s : State) (y : Expression × State) → expression_at room s ≡ Ok y → Took n s (expression n y.0) y.1
unfolding expression_at
took_expression {n} room s y e =
    let m = then_ok (sum_with (bracketed room) 0 s) _ y e in
    returns (expression n) m.2 (took_sum n (bracketed room) (took_bracketed n room) 0 s m.0 m.1)

-- Conditions, moves and kept ranges that are read are spelled so.

-- ---- conditions

abbrev compares : Cmp → List Piece
compares how = sign (phrase.comparison how) ∷ []

took_comparison_by : (n : Names) (k : Option TokenKind) (s : State) (y : Cmp × State) → kind_of s.rest ≡ k → comparison_by k s ≡ Ok y → Took n s (compares y.0) y.1
took_comparison_by n (Some (kind.Sign mark.Less)) s y next e = returns {x = cmp.Less} compares e (took_one next refl)
took_comparison_by n (Some (kind.Sign mark.AtMost)) s y next e = returns {x = cmp.AtMost} compares e (took_one next refl)
took_comparison_by n (Some (kind.Sign mark.More)) s y next e = returns {x = cmp.More} compares e (took_one next refl)
took_comparison_by n (Some (kind.Sign mark.AtLeast)) s y next e = returns {x = cmp.AtLeast} compares e (took_one next refl)
took_comparison_by n (Some (kind.Sign mark.Same)) s y next e = returns {x = cmp.Same} compares e (took_one next refl)
took_comparison_by n (Some (kind.Sign mark.Differs)) s y next e = returns {x = cmp.Differs} compares e (took_one next refl)
took_comparison_by n _ s y next e = absurd (err_no_ok _ _ e)

took_comparison : {n : Names} (s : State) (y : Cmp × State) → comparison_sign s ≡ Ok y → Took n s (compares y.0) y.1
unfolding comparison_sign
took_comparison {n} s y e = took_comparison_by n (kind_of s.rest) s y refl e

took_compared : {n : Names} (room : ℕ) (s : State) (y : Test × State) → compared room s ≡ Ok y → Took n s (phrase.test n y.0) y.1
unfolding compared
took_compared {n} room s y e =
    let a = then_ok (expression_at room s) _ y e in
    let b = then_ok (comparison_sign a.0.1) _ y a.2 in
    let c = then_ok (expression_at room b.0.1) _ y b.2 in
    returns (phrase.test n) c.2 (join (took_expression room s a.0 a.1) (join (took_comparison a.0.1 b.0 b.1) (took_expression room b.0.1 c.0 c.1)))

took_test_by : {n : Names} (room : ℕ) (k : Option TokenKind) (s : State) (y : Test × State) → kind_of s.rest ≡ k → test_by room k s ≡ Ok y → Took n s (phrase.test n y.0) y.1
took_test_by {n} room (Some (kind.Keyword keyword.Q)) s y next e = returns {x = flag_q} (phrase.test n) e (took_one next refl)
took_test_by {n} room (Some (kind.Keyword keyword.X)) s y next e = returns {x = flag_x} (phrase.test n) e (took_one next refl)
took_test_by room _ s y next e = missed_then choice.Flag (took_compared room (missed choice.Flag s) y e)

took_test : {n : Names} (room : ℕ) (s : State) (y : Test × State) → test_at room s ≡ Ok y → Took n s (phrase.test n y.0) y.1
unfolding test_at
took_test room s y e = took_test_by room (kind_of s.rest) s y refl e

took_plain : {n : Names} (room : ℕ) (s : State) (y : Part × State) → (test_at room >>= λ t. give (plain t)) s ≡ Ok y → Took n s (phrase.part n y.0) y.1
took_plain {n} room s y e =
    let m = then_ok (test_at room s) (λ t. give (plain t)) y e in
    returns {x = plain m.0.0} (phrase.part n) m.2 (took_test room s m.0 m.1)

took_part_by : {n : Names} (room : ℕ) (k : Option TokenKind) (s : State) (y : Part × State) → kind_of s.rest ≡ k → part_by room k s ≡ Ok y → Took n s (phrase.part n y.0) y.1
took_part_by {n} room (Some (kind.Keyword keyword.Not)) s y next e =
    let u : State = past s in
    let m = then_ok (test_at room u) (λ t. give (negated t)) y e in
    returns {x = negated m.0.0} (phrase.part n) m.2 (join (took_one {s' = u} next refl) (took_test room u m.0 m.1))
took_part_by room _ s y next e = missed_then (choice.Word keyword.Not) (took_plain room (missed (choice.Word keyword.Not) s) y e)

took_part : {n : Names} (room : ℕ) (s : State) (y : Part × State) → part_at room s ≡ Ok y → Took n s (phrase.part n y.0) y.1
unfolding part_at
took_part room s y e = took_part_by room (kind_of s.rest) s y refl e

no_part : (k : Option TokenKind) (s : State) (y : Unit {0} × State) → no_part_by k s ≡ Ok y → ⊥
no_part (Some (kind.Name x)) s y e = let m = then_ok (variable_here s) (λ _. fail (text_case.Limit limit.Parts)) y e in err_no_ok _ _ m.2
no_part (Some (kind.Keyword keyword.Q)) s y e = err_no_ok _ _ e
no_part (Some (kind.Keyword keyword.X)) s y e = err_no_ok _ _ e
no_part (Some (kind.Keyword keyword.Not)) s y e = err_no_ok _ _ e
no_part (Some (kind.Number n)) s y e = err_no_ok _ _ e
no_part (Some (kind.Sign mark.LeftBracket)) s y e = err_no_ok _ _ e
no_part _ s y e = err_no_ok _ _ e

limit_is : (b : Bool) (s : State) (y : Unit {0} × State) → cond b (give tt) (peek >>= no_part_by) s ≡ Ok y → y.1 ≡ s
limit_is true s y e = sym (ap (λ (p : Unit {0} × State). p.1) (ok_is (tt, s) y e))
limit_is false s y e = absurd (no_part (kind_of s.rest) s y e)

limit_stays : (count : ℕ) (s : State) (y : Unit {0} × State) → part_limit count s ≡ Ok y → y.1 ≡ s
unfolding part_limit
limit_stays count s y e = limit_is (nat_lt count 16) s y e

took_and_part : {n : Names} (room count : ℕ) (s : State) (y : Part × State) → is_keyword keyword.And (kind_of s.rest) ≡ true → and_part room count s ≡ Ok y → Took n s (word keyword.And ∷ phrase.part n y.0) y.1
unfolding and_part
took_and_part room count s y on e =
    let u : State = past s in
    let m = then_ok (part_limit count u) (λ _. part_at room) y e in
    let at : part_at room u ≡ Ok y = subst (λ (w : State). part_at room w ≡ Ok y) (limit_stays count u m.0 m.1) m.2 in
    join (took_one {s' = u} (keyword_is keyword.And (kind_of s.rest) on) refl) (took_part room u y at)

pub took_condition : {n : Names} (room : ℕ) (s : State) (y : Condition × State) → condition_at room s ≡ Ok y → Took n s (phrase.condition n y.0) y.1
unfolding condition_at
took_condition {n} room s y e =
    let m = then_ok (part_at room s) _ y e in
    let l = took_list (choice.Word keyword.And) n (word keyword.And) (phrase.part n) (is_keyword keyword.And) (λ parts. and_part room (length parts)) (λ xs u z on took. took_and_part room (length xs) u z on took) m.0.0 s m.0.1 (took_part room s m.0 m.1) y m.2 in
    subst (λ (c : Condition). Took n s (phrase.condition n c) y.1) (sym l.same) l.took

-- ---- moves

took_move_by : {n : Names} (room : ℕ) (k : Option TokenKind) (s : State) (y : Move × State) → kind_of s.rest ≡ k → move_by room k s ≡ Ok y → Took n s (phrase.move n y.0) y.1
took_move_by {n} room (Some (kind.Sign mark.Into)) s y next e =
    let u : State = past s in
    let m = then_ok (used_variable u) (λ place. give (into place)) y e in
    returns {x = into m.0.0} (phrase.move n) m.2 (join (took_one {s' = u} next refl) (took_variable u m.0 m.1))
took_move_by {n} room (Some (kind.Sign mark.From)) s y next e =
    let u : State = past s in
    let m = then_ok (expression_at room u) (λ v. give (from v)) y e in
    returns {x = from m.0.0} (phrase.move n) m.2 (join (took_one {s' = u} next refl) (took_expression room u m.0 m.1))
took_move_by {n} room _ s y next e = returns {x = no_data} (phrase.move n) e (then_missed choice.Arrow (nothing n s))

pub took_move : {n : Names} (room : ℕ) (s : State) (y : Move × State) → move_at room s ≡ Ok y → Took n s (phrase.move n y.0) y.1
unfolding move_at
took_move room s y e = took_move_by room (kind_of s.rest) s y refl e

-- ---- kept ranges

abbrev kept : ℕ → ℕ → ℕ → Keep
kept place low high = record { variable = place; low = low; high = high }

took_keep : {n : Names} (own : Own) (keeps : List Keep) (s : State) (y : Keep × State) → keep_at own keeps s ≡ Ok y → Took n s (phrase.keep n y.0) y.1
unfolding keep_at
took_keep {n} own keeps s y e =
    let v = then_ok (variable_here s) _ y e in
    let here = sees_variable {n = n} s v.0 v.1 in
    let range : ℕ → Reader Keep = λ place. advance >> (expect keyword.In >> (any_number >>= λ low. expect_sign mark.UpTo >> (any_number >>= λ high. give (kept place low high)))) in
    let at : (check (is_free v.0.0 own keeps) (kept_case own v.0.0) >> range v.0.0) s ≡ Ok y = subst (λ (w : State). (check (is_free v.0.0 own keeps) (kept_case own v.0.0) >> range v.0.0) w ≡ Ok y) here.left v.2 in
    let c = check_ok (is_free v.0.0 own keeps) _ (range v.0.0) s y at in
    let u : State = past s in
    let a = then_ok (expect keyword.In u) _ y c.1 in
    let b = then_ok (any_number a.0.1) _ y a.2 in
    let d = then_ok (expect_sign mark.UpTo b.0.1) _ y b.2 in
    let f = then_ok (any_number d.0.1) (λ high. give (kept v.0.0 b.0.0 high)) y d.2 in
    returns {x = kept v.0.0 b.0.0 f.0.0} (phrase.keep n) f.2
    (join (seen here (took_one {s' = u} here.next refl)) (join (took_word keyword.In u a.0 a.1) (join (took_token (any_number_ok a.0.1 b.0 b.1)) (join (took_sign mark.UpTo b.0.1 d.0 d.1) (took_token (any_number_ok d.0.1 f.0 f.1))))))

took_next_keep : {n : Names} (own : Own) (keeps : List Keep) (s : State) (y : Keep × State) → is_sign mark.Comma (kind_of s.rest) ≡ true → next_keep own keeps s ≡ Ok y → Took n s (sign mark.Comma ∷ phrase.keep n y.0) y.1
unfolding next_keep
took_next_keep own keeps s y on e =
    let u : State = past s in
    join (took_one {s' = u} (sign_is mark.Comma (kind_of s.rest) on) refl) (took_keep own keeps u y e)

took_keep_list : {n : Names} (own : Own) (s : State) (y : List Keep × State) → kind_of s.rest ≡ Some (kind.Keyword keyword.Keep) → keep_list own s ≡ Ok y → Took n s (phrase.keeps n y.0) y.1
unfolding keep_list
took_keep_list {n} own s y next e =
    let u : State = past s in
    let m = then_ok (keep_at own [] u) _ y e in
    let l = took_list (choice.Mark mark.Comma) n (sign mark.Comma) (phrase.keep n) (is_sign mark.Comma) (next_keep own) (λ xs w z on took. took_next_keep own xs w z on took) m.0.0 u m.0.1 (took_keep own [] u m.0 m.1) y m.2 in
    subst (λ (ks : List Keep). Took n s (phrase.keeps n ks) y.1) (sym l.same) (join (took_one {s' = u} next refl) l.took)

took_keeps_by : {n : Names} (b : Bool) (own : Own) (s : State) (y : List Keep × State) → is_keyword keyword.Keep (kind_of s.rest) ≡ b → cond b (keep_list own) (missing (choice.Word keyword.Keep) []) s ≡ Ok y → Took n s (phrase.keeps n y.0) y.1
took_keeps_by true own s y on e = took_keep_list own s y (keyword_is keyword.Keep (kind_of s.rest) on) e
took_keeps_by {n} false own s y on e = returns {x = []} (phrase.keeps n) e (then_missed (choice.Word keyword.Keep) (nothing n s))

pub took_keeps : {n : Names} (own : Own) (s : State) (y : List Keep × State) → keeps_at own s ≡ Ok y → Took n s (phrase.keeps n y.0) y.1
unfolding keeps_at
took_keeps own s y e = took_keeps_by (is_keyword keyword.Keep (kind_of s.rest)) own s y refl e

-- Assignments, `cdreg`, single actions, `put` and calls that are read are spelled so.

-- the first token of a statement
pub took_begin : {n : Names} (s : State) (k : TokenKind) (y : Unit {0} × State) → kind_of s.rest ≡ Some k → begin s ≡ Ok y → Took n s (first_piece (spot_of s.rest s.end_line) k ∷ []) y.1
took_begin {n} s k y next e =
    subst (λ (u : State). Took n s (first_piece (spot_of s.rest s.end_line) k ∷ []) u) (sym (begin_ok s y e).1)
    (record { prefix = λ t. prefix_begin s.rest s.end_line k next; tells = λ t. t; same = refl })

pub took_assignment : {n : Names} (room : ℕ) (s : State) (y : Statement × State) → assignment room (spot_of s.rest s.end_line) s ≡ Ok y → Took n s (spell.statement n y.0) y.1
unfolding assignment
took_assignment {n} room s y e =
    let spot : Spot = spot_of s.rest s.end_line in
    let v = then_ok (variable_here s) (λ place. begin >> (expect_sign mark.Equals >> (expression_at room >>= λ value. give (assign spot place value)))) y e in
    let here = sees_variable {n = n} s v.0 v.1 in
    let rest : Reader Statement = expect_sign mark.Equals >> (expression_at room >>= λ value. give (assign spot v.0.0 value)) in
    let from_s : (begin >> rest) s ≡ Ok y = subst (λ (u : State). (begin >> rest) u ≡ Ok y) here.left v.2 in
    let a = then_ok (begin s) (λ _. rest) y from_s in
    let b = then_ok (expect_sign mark.Equals a.0.1) _ y a.2 in
    let c = then_ok (expression_at room b.0.1) (λ value. give (assign spot v.0.0 value)) y b.2 in
    let begins : Took n s (first_piece spot (kind.Name here.name) ∷ []) a.0.1 = took_begin s (kind.Name here.name) a.0 here.next a.1 in
    let named_so : Took n s (first_piece spot (kind.Name (text_at n.variables v.0.0)) ∷ []) a.0.1 = record {
      prefix = λ t. subst (λ (x : Text). Prefix s.rest (first_piece spot (kind.Name x) ∷ []) a.0.1.rest) (here.same (begins.tells t)) (begins.prefix t);
      tells = begins.tells;
      same = begins.same;
    } in
    returns {x = assign spot v.0.0 c.0.0} (spell.statement n) c.2 (join named_so (join (took_sign mark.Equals a.0.1 b.0 b.1) (took_expression room b.0.1 c.0 c.1)))

-- ---- registers

known_before : (n : Names) (s : State) (x : Text) → Knows n s.variables (s.registers ++ x ∷ []) s.lams s.tables s.procedures → KnowsNames n s
known_before n s x k = record {
  variables = k.variables;
  registers = λ z p e. k.registers z p (found_later (bytes_eq z) 0 p s.registers (x ∷ []) e);
  lams = k.lams;
  tables = k.tables;
  procedures = k.procedures;
}

took_register_at : {n : Names} (s : State) (x : Text) (place : Option ℕ) (y : ℕ × State) → kind_of s.rest ≡ Some (kind.Name x) → name_place x s.registers ≡ place → register_at x place s ≡ Ok y → Took n s (name_at n.registers y.0 ∷ []) y.1
took_register_at {n} s x (Some place) y next found e =
    let u : State = past s in
    returns {x = place} (λ r. name_at n.registers r ∷ []) e (named {s' = u} (text_at n.registers place) (λ t. t.registers x place found) (took_one {s' = u} next refl))
took_register_at {n} s x None y next found e =
    let c = check_ok (nat_lt (other_registers s + length s.registers) 64) _ (advance >> (change (with_register x) >> give (length s.registers))) s y e in
    let u : State = past s in
    let v : State = record u { registers = s.registers ++ x ∷ [] } in
    let one : Took n s (piece (kind.Name x) ∷ []) u = took_one {s' = u} next refl in
    let grown : Took n s (piece (kind.Name x) ∷ []) v = record {
      prefix = λ t. one.prefix (known_before n s x t);
      tells = λ t. known_before n s x t;
      same = refl;
    } in
    returns {x = length s.registers} (λ r. name_at n.registers r ∷ []) c.1
    (named {s' = v} (text_at n.registers (length s.registers)) (λ t. t.registers x (length s.registers) (found_last x s.registers found)) grown)

took_set_name : {n : Names} (s : State) (y : ℕ × State) → set_name s ≡ Ok y → Took n s (name_at n.registers y.0 ∷ []) y.1
unfolding set_name
took_set_name s y e =
    let m = then_ok (new_name s) _ y e in
    let h = new_name_ok s m.0 m.1 in
    let at : register_at m.0.0 (name_place m.0.0 s.registers) s ≡ Ok y = subst (λ (u : State). register_at m.0.0 (name_place m.0.0 u.registers) u ≡ Ok y) h.left m.2 in
    took_register_at s m.0.0 (name_place m.0.0 s.registers) y h.next refl at

pub took_setting : {n : Names} (room : ℕ) (s : State) (y : Statement × State) → kind_of s.rest ≡ Some (kind.Keyword keyword.Cdreg) → register_setting room (spot_of s.rest s.end_line) s ≡ Ok y → Took n s (spell.statement n y.0) y.1
unfolding register_setting
took_setting {n} room s y next e =
    let spot : Spot = spot_of s.rest s.end_line in
    let a = then_ok (begin s) _ y e in
    let r = then_ok (set_name a.0.1) _ y a.2 in
    let b = then_ok (branch_number r.0.1) _ y r.2 in
    let c = then_ok (expression_at room b.0.1) _ y b.2 in
    let d = then_ok (expression_at room c.0.1) _ y c.2 in
    let f = then_ok (expression_at room d.0.1) (λ a'. give (set_register spot r.0.0 c.0.0 d.0.0 a')) y d.2 in
    returns {x = set_register spot r.0.0 c.0.0 d.0.0 f.0.0} (spell.statement n) f.2
    (join (took_begin s (kind.Keyword keyword.Cdreg) a.0 next a.1) (join (took_set_name a.0.1 r.0 r.1) (join (took_branch r.0.1 b.0 b.1)
    (join (took_expression room b.0.1 c.0 c.1) (join (took_expression room c.0.1 d.0 d.1) (took_expression room d.0.1 f.0 f.1))))))

-- ---- actions

pub took_single : {n : Names} (size : WordSize) (room : ℕ) (s : State) (y : Statement × State) → kind_of s.rest ≡ Some (kind.Keyword (spell.single_word size)) → single_action size room (spot_of s.rest s.end_line) s ≡ Ok y → Took n s (spell.statement n y.0) y.1
unfolding single_action
took_single {n} size room s y next e =
    let spot : Spot = spot_of s.rest s.end_line in
    let a = then_ok (begin s) _ y e in
    let f = then_ok (function_number a.0.1) _ y a.2 in
    let r = then_ok (used_register f.0.1) _ y f.2 in
    let m = then_ok (move_at room r.0.1) (λ move. give (single spot size f.0.0 r.0.0 move)) y r.2 in
    returns {x = single spot size f.0.0 r.0.0 m.0.0} (spell.statement n) m.2
    (join (took_begin s (kind.Keyword (spell.single_word size)) a.0 next a.1) (join (took_token (function_ok a.0.1 f.0 f.1).one) (join (took_register f.0.1 r.0 r.1) (took_move room r.0.1 m.0 m.1))))

pub took_put : {n : Names} (room : ℕ) (s : State) (y : Statement × State) → kind_of s.rest ≡ Some (kind.Keyword keyword.Put) → put_action room (spot_of s.rest s.end_line) s ≡ Ok y → Took n s (spell.statement n y.0) y.1
unfolding put_action
took_put {n} room s y next e =
    let spot : Spot = spot_of s.rest s.end_line in
    let a = then_ok (begin s) _ y e in
    let v = then_ok (expression_at room a.0.1) (λ value. give (put spot value)) y a.2 in
    returns {x = put spot v.0.0} (spell.statement n) v.2 (join (took_begin s (kind.Keyword keyword.Put) a.0 next a.1) (took_expression room a.0.1 v.0 v.1))

-- ---- calls

abbrev switched : Bool → List Piece
switched on = word (cond on keyword.On keyword.Off) ∷ []

took_switch_by : {n : Names} (k : Option TokenKind) (s : State) (y : Bool × State) → kind_of s.rest ≡ k → switch_by k s ≡ Ok y → Took n s (switched y.0) y.1
took_switch_by (Some (kind.Keyword keyword.On)) s y next e = returns {x = true} switched e (took_one next refl)
took_switch_by (Some (kind.Keyword keyword.Off)) s y next e = returns {x = false} switched e (took_one next refl)
took_switch_by _ s y next e = absurd (err_no_ok _ _ e)

took_switch : {n : Names} (s : State) (y : Bool × State) → switch s ≡ Ok y → Took n s (switched y.0) y.1
unfolding switch
took_switch s y e = took_switch_by (kind_of s.rest) s y refl e

took_crate : {n : Names} (call : CrateCall) (room : ℕ) (s : State) (y : Statement × State) → ((u : State) → Took n u (spell.crate_switch call) u) → kind_of s.rest ≡ Some (kind.Keyword (spell.crate_keyword call)) → crate_action call room (spot_of s.rest s.end_line) s ≡ Ok y → Took n s (spell.statement n y.0) y.1
unfolding crate_action
took_crate {n} call room s y silent next e =
    let spot : Spot = spot_of s.rest s.end_line in
    let a = then_ok (begin s) _ y e in
    let c = then_ok (expression_at room a.0.1) (λ crate_no. give (crate_call spot call crate_no)) y a.2 in
    returns {x = crate_call spot call c.0.0} (spell.statement n) c.2
    (join (took_begin s (kind.Keyword (spell.crate_keyword call)) a.0 next a.1) (join (took_expression room a.0.1 c.0 c.1) (silent c.0.1)))

took_crate_switch : {n : Names} (on off : CrateCall) (w : Keyword) (room : ℕ) (s : State) (y : Statement × State) → ((b : Bool) → (spell.crate_keyword (cond b on off) ≡ w) × (spell.crate_switch (cond b on off) ≡ switched b)) → kind_of s.rest ≡ Some (kind.Keyword w) → crate_switch on off room (spot_of s.rest s.end_line) s ≡ Ok y → Took n s (spell.statement n y.0) y.1
unfolding crate_switch
took_crate_switch {n} on off w room s y words next e =
    let spot : Spot = spot_of s.rest s.end_line in
    let a = then_ok (begin s) _ y e in
    let c = then_ok (expression_at room a.0.1) _ y a.2 in
    let b = then_ok (switch c.0.1) (λ is_on. give (crate_call spot (cond is_on on off) c.0.0)) y c.2 in
    let call : CrateCall = cond b.0.0 on off in
    let same = words b.0.0 in
    let begins : Took n s (first_word spot (spell.crate_keyword call) ∷ []) a.0.1 = took_begin s (kind.Keyword (spell.crate_keyword call)) a.0 (next ∙ ap (λ (v : Keyword). Some (kind.Keyword v)) (sym same.0)) a.1 in
    let switches : Took n c.0.1 (spell.crate_switch call) b.0.1 = subst (λ (ps : List Piece). Took n c.0.1 ps b.0.1) (sym same.1) (took_switch c.0.1 b.0 b.1) in
    returns {x = crate_call spot call c.0.0} (spell.statement n) b.2 (join begins (join (took_expression room a.0.1 c.0 c.1) switches))

took_lam_action : {n : Names} (call : LamCall) (s : State) (y : Statement × State) → ((u : State) → Took n u (spell.lam_switch call) u) → kind_of s.rest ≡ Some (kind.Keyword (spell.lam_keyword call)) → lam_action call (spot_of s.rest s.end_line) s ≡ Ok y → Took n s (spell.statement n y.0) y.1
unfolding lam_action
took_lam_action {n} call s y silent next e =
    let spot : Spot = spot_of s.rest s.end_line in
    let a = then_ok (begin s) _ y e in
    let l = then_ok (used_lam a.0.1) (λ lam. give (lam_call spot call lam)) y a.2 in
    returns {x = lam_call spot call l.0.0} (spell.statement n) l.2
    (join (took_begin s (kind.Keyword (spell.lam_keyword call)) a.0 next a.1) (join (took_lam a.0.1 l.0 l.1) (silent l.0.1)))

lam_words : (b : Bool) → (spell.lam_keyword (cond b lam_word.Enable lam_word.Disable) ≡ keyword.Cclm) × (spell.lam_switch (cond b lam_word.Enable lam_word.Disable) ≡ switched b)
lam_words true = (refl, refl)
lam_words false = (refl, refl)

took_lam_switch : {n : Names} (s : State) (y : Statement × State) → kind_of s.rest ≡ Some (kind.Keyword keyword.Cclm) → lam_switch (spot_of s.rest s.end_line) s ≡ Ok y → Took n s (spell.statement n y.0) y.1
unfolding lam_switch
took_lam_switch {n} s y next e =
    let spot : Spot = spot_of s.rest s.end_line in
    let a = then_ok (begin s) _ y e in
    let l = then_ok (used_lam a.0.1) _ y a.2 in
    let b = then_ok (switch l.0.1) (λ is_on. give (lam_call spot (cond is_on lam_word.Enable lam_word.Disable) l.0.0)) y l.2 in
    let call : LamCall = cond b.0.0 lam_word.Enable lam_word.Disable in
    let same = lam_words b.0.0 in
    let begins : Took n s (first_word spot (spell.lam_keyword call) ∷ []) a.0.1 = took_begin s (kind.Keyword (spell.lam_keyword call)) a.0 (next ∙ ap (λ (v : Keyword). Some (kind.Keyword v)) (sym same.0)) a.1 in
    let switches : Took n l.0.1 (spell.lam_switch call) b.0.1 = subst (λ (ps : List Piece). Took n l.0.1 ps b.0.1) (sym same.1) (took_switch l.0.1 b.0 b.1) in
    returns {x = lam_call spot call l.0.0} (spell.statement n) b.2 (join begins (join (took_lam a.0.1 l.0 l.1) switches))

inhibit_words : (b : Bool) → (spell.crate_keyword (cond b crate_word.InhibitOn crate_word.InhibitOff) ≡ keyword.Ccci) × (spell.crate_switch (cond b crate_word.InhibitOn crate_word.InhibitOff) ≡ switched b)
inhibit_words true = (refl, refl)
inhibit_words false = (refl, refl)

demand_words : (b : Bool) → (spell.crate_keyword (cond b crate_word.DemandOn crate_word.DemandOff) ≡ keyword.Cccd) × (spell.crate_switch (cond b crate_word.DemandOn crate_word.DemandOff) ≡ switched b)
demand_words true = (refl, refl)
demand_words false = (refl, refl)

took_lam_call : {n : Names} (s : State) (k : Option TokenKind) (y : Statement × State) → kind_of s.rest ≡ k → lam_call_by (spot_of s.rest s.end_line) k s ≡ Ok y → Took n s (spell.statement n y.0) y.1
took_lam_call s (Some (kind.Keyword keyword.Cclm)) y next e = took_lam_switch s y next e
took_lam_call {n} s (Some (kind.Keyword keyword.Cclc)) y next e = took_lam_action lam_word.Clear s y (λ u. nothing n u) next e
took_lam_call {n} s (Some (kind.Keyword keyword.Ctlm)) y next e = took_lam_action lam_word.Test s y (λ u. nothing n u) next e
took_lam_call s _ y next e = absurd (err_no_ok _ _ e)

pub took_crate_call : {n : Names} (room : ℕ) (s : State) (k : Option TokenKind) (y : Statement × State) → kind_of s.rest ≡ k → crate_call_by room (spot_of s.rest s.end_line) k s ≡ Ok y → Took n s (spell.statement n y.0) y.1
took_crate_call {n} room s (Some (kind.Keyword keyword.Cccz)) y next e = took_crate crate_word.Initialise room s y (λ u. nothing n u) next e
took_crate_call {n} room s (Some (kind.Keyword keyword.Cccc)) y next e = took_crate crate_word.Clear room s y (λ u. nothing n u) next e
took_crate_call {n} room s (Some (kind.Keyword keyword.Ctci)) y next e = took_crate crate_word.TestInhibit room s y (λ u. nothing n u) next e
took_crate_call {n} room s (Some (kind.Keyword keyword.Ctcd)) y next e = took_crate crate_word.TestDemandOutput room s y (λ u. nothing n u) next e
took_crate_call {n} room s (Some (kind.Keyword keyword.Ctgl)) y next e = took_crate crate_word.TestDemand room s y (λ u. nothing n u) next e
took_crate_call room s (Some (kind.Keyword keyword.Ccci)) y next e = took_crate_switch crate_word.InhibitOn crate_word.InhibitOff keyword.Ccci room s y inhibit_words next e
took_crate_call room s (Some (kind.Keyword keyword.Cccd)) y next e = took_crate_switch crate_word.DemandOn crate_word.DemandOff keyword.Cccd room s y demand_words next e
took_crate_call room s k y next e = took_lam_call s k y next e
