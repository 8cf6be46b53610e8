-- What readers of arguments leave.
use Rattle.std.proofs.Common.{◌≡◌, ℕ, zero, suc, ◌+◌, ◌≤◌, Bool, true, false, cond, List, [], ◌∷◌, ◌++◌, length, Option, Result, Ok, refl, sym, ap, subst, ◌∙◌, length-append, arith}
use Rattle.camac_lang.specs.Depth.{expression_depth}
use Rattle.camac_lang.specs.Expressions.{Scope, expression_fits}
use Rattle.camac_lang.specs.Tests.{each, most}
use Rattle.camac_lang.specs.Tree.{Expression}
use Rattle.camac_text_cursor.specs.Parser.{FailsWith}
use Rattle.camac_text_cursor.specs.Tried.{Tried}
use Rattle.camac_tokens.specs.declared.fault.TextFault.{TextFault}
use Rattle.camac_tokens.specs.declared.fault.TextFault.TheVariants as fault
use Rattle.camac_tokens.specs.declared.fault.Limit.TheVariants as limit
use Rattle.camac_tokens.specs.declared.fault.TextCase.TheVariants as text_case
use Rattle.camac_tokens.specs.declared.token.Sign.{Sign}
use Rattle.camac_tokens.specs.declared.token.Sign.TheVariants as sign
use Rattle.camac_tokens.specs.declared.token.TokenKind.{TokenKind}
use Rattle.camac_text_cursor.specs.declared.choice.Choice.TheVariants as choice
use Rattle.camac_text_cursor.specs.Reading.{State, then_read, ◌>>=◌, give, advance, fail, kind_of, Fault, unexpected}
use Rattle.camac_text_cursor.specs.Readers.{is_sign, expect_sign}
use Rattle.camac_text_cursor.proofs.Steps.{then_ok, ok_is, err_no_ok}
use Rattle.camac_text_cursor.proofs.Moves.{AllFit, Moves, stays, moved, then_moves, expect_sign_ok}
use Rattle.camac_text_cursor.proofs.Uses.{scope_of, same_scope}
use Rattle.camac_text_cursor.proofs.Registers.{each_push}
use Rattle.camac_text_phrases.specs.Expressions.{expression_at}
use Rattle.camac_text_phrases.specs.Arguments.{counted_sign, shows_more, argument_after, more_arguments, arguments_at}
use Rattle.camac_text_phrases.proofs.BracketsRead.{ReadsExpression, expression_ok}
use Rattle.camac_text_phrases.proofs.ConditionsRead.{most_push}

-- ---- one argument

counted_by : (w : Sign) (on shown : Bool) (wanted : ℕ) (s : State) (y : Unit {0} × State) → cond on advance (cond shown (fail (text_case.ArgumentCount wanted)) (unexpected (choice.Mark w))) s ≡ Ok y → Moves s y.1
counted_by w true shown wanted s y e = subst (λ (p : Unit {0} × State). Moves s p.1) (ok_is _ y e) (moved s)
counted_by w false true wanted s y e = absurd (err_no_ok _ _ e)
counted_by w false false wanted s y e = absurd (err_no_ok _ _ e)

pub counted_sign_ok : (w : Sign) (shows : Option TokenKind → Bool) (wanted : ℕ) (s : State) (y : Unit {0} × State) → counted_sign w shows wanted s ≡ Ok y → Moves s y.1
unfolding counted_sign
counted_sign_ok w shows wanted s y e = counted_by w (is_sign w (kind_of s.rest)) (shows (kind_of s.rest)) wanted s y e

first_ok : (b : Bool) (wanted room : ℕ) (s : State) (y : Expression × State) → cond b (fail (text_case.ArgumentCount wanted)) (expression_at room) s ≡ Ok y → ReadsExpression room s y.0 y.1
first_ok true wanted room s y e = absurd (err_no_ok _ _ e)
first_ok false wanted room s y e = expression_ok room s y e

argument_ok : (wanted room : ℕ) (es : List Expression) (s : State) (y : Expression × State) → argument_after wanted room es s ≡ Ok y → ReadsExpression room s y.0 y.1
argument_ok wanted room [] s y e = first_ok (is_sign sign.RightBracket (kind_of s.rest)) wanted room s y e
argument_ok wanted room (x ∷ xs) s y e =
    let a = then_ok (counted_sign sign.Comma (is_sign sign.RightBracket) wanted s) (λ _. expression_at room) y e in
    let to_a : Moves s a.0.1 = counted_sign_ok sign.Comma (is_sign sign.RightBracket) wanted s a.0 a.1 in
    let read = expression_ok room a.0.1 y a.2 in
    record {
      moves = then_moves s a.0.1 y.1 to_a read.moves;
      fits = λ h. subst (λ (c : Scope). expression_fits c y.0 ≡ true) (same_scope s a.0.1 to_a) (read.fits (to_a.fit h));
      deep = read.deep;
    }

-- ---- so many

-- arguments are read, after which there are so many in all
pub record ReadsArguments (room count : ℕ) (s : State) (es : List Expression) (s' : State) : Type 0 where
  pub moves : Moves s s'
  pub counted : length es ≡ count
  pub fit : AllFit s.rest → each (expression_fits (scope_of s)) es ≡ true
  pub deep : most expression_depth es ≤ room

one_longer : (room count : ℕ) (s : State) (es : List Expression) (u : State) (e : Expression) (t : State) → ReadsArguments room count s es u → ReadsExpression room u e t → ReadsArguments room (suc count) s (es ++ e ∷ []) t
one_longer room count s es u e t so x = record {
  moves = then_moves s u t so.moves x.moves;
  counted = let one : length (es ++ e ∷ []) ≡ length es + 1 = length-append es (e ∷ []) in omega (arith, so.counted);
  fit = λ h. each_push (expression_fits (scope_of s)) es e (so.fit h) (subst (λ (c : Scope). expression_fits c e ≡ true) (same_scope s u so.moves) (x.fits (so.moves.fit h)));
  deep = most_push expression_depth es e room so.deep x.deep;
}

more_ok : (wanted room n count : ℕ) (s : State) (es : List Expression) (u : State) (y : List Expression × State) → ReadsArguments room count s es u → more_arguments wanted room n es u ≡ Ok y → ReadsArguments room (n + count) s y.0 y.1
unfolding more_arguments
more_ok wanted room zero count s es u y so e =
    let same : count ≡ zero + count = omega arith in
    subst (λ (p : List Expression × State). ReadsArguments room (zero + count) s p.0 p.1) (ok_is (es, u) y e) (subst (λ (k : ℕ). ReadsArguments room k s es u) same so)
more_ok wanted room (suc n) count s es u y so e =
    let a = then_ok (argument_after wanted room es u) (λ x. more_arguments wanted room n (es ++ x ∷ [])) y e in
    let longer = one_longer room count s es u a.0.0 a.0.1 so (argument_ok wanted room es u a.0 a.1) in
    let same : n + suc count ≡ suc n + count = omega arith in
    subst (λ (k : ℕ). ReadsArguments room k s y.0 y.1) same (more_ok wanted room n (suc count) s (es ++ a.0.0 ∷ []) a.0.1 y longer a.2)

none_yet : (room : ℕ) (s : State) → ReadsArguments room 0 s [] s
none_yet room s = record { moves = stays s; counted = refl; fit = λ h. refl; deep = omega arith }

-- in their brackets
no_room : (b : Bool) (s : State) (y : List Expression × State) → cond b (fail (text_case.Limit limit.Depth)) (unexpected (choice.Mark sign.LeftBracket)) s ≡ Ok y → ⊥
no_room true s y e = err_no_ok _ _ e
no_room false s y e = err_no_ok _ _ e

pub record ReadsCall (room count : ℕ) (s : State) (es : List Expression) (s' : State) : Type 0 where
  pub moves : Moves s s'
  pub counted : length es ≡ count
  pub fit : AllFit s.rest → each (expression_fits (scope_of s)) es ≡ true
  pub deep : suc (most expression_depth es) ≤ room

pub arguments_ok : (room count : ℕ) (s : State) (y : List Expression × State) → arguments_at room count s ≡ Ok y → ReadsCall room count s y.0 y.1
unfolding arguments_at
arguments_ok zero count s y e = absurd (no_room (is_sign sign.LeftBracket (kind_of s.rest)) s y e)
arguments_ok (suc room) count s y e =
    let a = then_ok (expect_sign sign.LeftBracket s) _ y e in
    let b = then_ok (more_arguments count room count [] a.0.1) (λ es. counted_sign sign.RightBracket (shows_more count) count >>= λ _. give es) y a.2 in
    let c = then_ok (counted_sign sign.RightBracket (shows_more count) count b.0.1) _ y b.2 in
    let to_a : Moves s a.0.1 = expect_sign_ok sign.LeftBracket s a.0 a.1 in
    let read = more_ok count room count 0 a.0.1 [] a.0.1 b.0 (none_yet room a.0.1) b.1 in
    let to_b : Moves s b.0.1 = then_moves s a.0.1 b.0.1 to_a read.moves in
    let deep : most expression_depth b.0.0 ≤ room = read.deep in
    let all : length b.0.0 ≡ count + 0 = read.counted in
    subst (λ (p : List Expression × State). ReadsCall (suc room) count s p.0 p.1) (ok_is (b.0.0, c.0.1) y c.2) (record {
      moves = then_moves s b.0.1 c.0.1 to_b (counted_sign_ok sign.RightBracket (shows_more count) count b.0.1 c.0 c.1);
      counted = omega arith;
      fit = λ h. subst (λ (s' : Scope). each (expression_fits s') b.0.0 ≡ true) (same_scope s a.0.1 to_a) (read.fit (to_a.fit h));
      deep = omega arith;
    })

-- ---- the loop of the program

-- one turn
pub arguments_go : (wanted room n : ℕ) (es : List Expression) (s : State) (e : Expression) (t : State) (total : Result (List Expression × State) Fault) → argument_after wanted room es s ≡ Ok (e, t) → more_arguments wanted room (suc n) es s ≡ total → more_arguments wanted room n (es ++ e ∷ []) t ≡ total
unfolding more_arguments
arguments_go wanted room n es s e t total took so_far = ap (λ (r : Result (Expression × State) Fault). then_read r (λ x. more_arguments wanted room n (es ++ x ∷ []))) (sym took) ∙ so_far

pub arguments_fail : (wanted room n : ℕ) (es : List Expression) (s : State) (f : TextFault) (tried : Tried) (total : Result (List Expression × State) Fault) → FailsWith f tried (argument_after wanted room es s) → more_arguments wanted room (suc n) es s ≡ total → FailsWith f tried total
unfolding more_arguments
arguments_fail wanted room n es s fault.OutOfMemory tried total failed so_far = tt
arguments_fail wanted room n es s (fault.Broken case spot) tried total failed so_far = sym so_far ∙ ap (λ (r : Result (Expression × State) Fault). then_read r (λ x. more_arguments wanted room n (es ++ x ∷ []))) failed

pub arguments_end : (wanted room : ℕ) (es : List Expression) (s : State) (total : Result (List Expression × State) Fault) → more_arguments wanted room 0 es s ≡ total → total ≡ Ok (es, s)
unfolding more_arguments
arguments_end wanted room es s total so_far = sym so_far
