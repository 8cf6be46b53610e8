-- What readers of conditions leave.
use Rattle.std.proofs.Common.{◌≡◌, ℕ, ◌+◌, ◌≤◌, ◌<◌, Bool, true, false, cond, nat_lt, max, List, [], ◌∷◌, ◌++◌, length, Option, Some, None, Ok, refl, sym, ap, subst, length-append, arith}
use Rattle.std.proofs.lemmas.Bool.{ltb-true}
use Rattle.camac_range.specs.declared.comparison.Cmp.{Cmp}
use Rattle.camac_range.specs.declared.comparison.Cmp.TheVariants as cmp
use Rattle.camac_lang.specs.Depth.{test_depth, part_depth}
use Rattle.camac_lang.specs.Expressions.{Scope, expression_fits, test_fits, part_fits, condition_fits}
use Rattle.camac_lang.specs.Tests.{each, most}
use Rattle.camac_lang.specs.Tree.{Test, flag_q, flag_x, compare, Part, plain, negated, Condition}
use Rattle.camac_tokens.specs.declared.fault.Limit.TheVariants as limit
use Rattle.camac_tokens.specs.declared.fault.TextCase.TheVariants as text_case
use Rattle.camac_tokens.specs.declared.token.Keyword.{Keyword}
use Rattle.camac_tokens.specs.declared.token.Keyword.TheVariants as word
use Rattle.camac_tokens.specs.declared.token.Sign.TheVariants as sign
use Rattle.camac_tokens.specs.declared.token.TokenKind.{TokenKind}
use Rattle.camac_tokens.specs.declared.token.TokenKind.TheVariants as kind
use Rattle.camac_text_cursor.specs.declared.choice.Choice.TheVariants as choice
use Rattle.camac_text_cursor.specs.Reading.{State, ◌>>=◌, give, peek, fail, kind_of, after_first, missed, past, until}
use Rattle.camac_text_cursor.specs.Readers.{is_keyword, variable_here}
use Rattle.camac_text_phrases.specs.Expressions.{expression_at}
use Rattle.camac_text_phrases.specs.Conditions.{comparison_by, comparison_sign, compared, test_by, test_at, part_by, part_at, no_part_by, part_limit, and_part, one_more_part, condition_at}
use Rattle.camac_text_cursor.proofs.Steps.{then_ok, ok_is, err_no_ok, Progresses, until_keeps}
use Rattle.camac_text_cursor.proofs.Moves.{AllFit, Moves, after_less, moved, unmoved, then_moves}
use Rattle.camac_text_cursor.proofs.Uses.{scope_of, same_scope}
use Rattle.camac_text_phrases.proofs.BracketsRead.{expression_ok}
use Rattle.camac_text_cursor.proofs.Registers.{both, below_le, each_push}

-- ---- comparisons

comparison_is : (k : Option TokenKind) (s : State) (y : Cmp × State) → comparison_by k s ≡ Ok y → Moves s y.1
comparison_is (Some (kind.Sign sign.Less)) s y e = subst (λ (p : Cmp × State). Moves s p.1) (ok_is (cmp.Less, past s) y e) (moved s)
comparison_is (Some (kind.Sign sign.AtMost)) s y e = subst (λ (p : Cmp × State). Moves s p.1) (ok_is (cmp.AtMost, past s) y e) (moved s)
comparison_is (Some (kind.Sign sign.More)) s y e = subst (λ (p : Cmp × State). Moves s p.1) (ok_is (cmp.More, past s) y e) (moved s)
comparison_is (Some (kind.Sign sign.AtLeast)) s y e = subst (λ (p : Cmp × State). Moves s p.1) (ok_is (cmp.AtLeast, past s) y e) (moved s)
comparison_is (Some (kind.Sign sign.Same)) s y e = subst (λ (p : Cmp × State). Moves s p.1) (ok_is (cmp.Same, past s) y e) (moved s)
comparison_is (Some (kind.Sign sign.Differs)) s y e = subst (λ (p : Cmp × State). Moves s p.1) (ok_is (cmp.Differs, past s) y e) (moved s)
comparison_is _ s y e = absurd (err_no_ok _ _ e)

comparison_ok : (s : State) (y : Cmp × State) → comparison_sign s ≡ Ok y → Moves s y.1
unfolding comparison_sign
comparison_ok s y e = comparison_is (kind_of s.rest) s y e

record ReadsTest (room : ℕ) (s : State) (x : Test) (s' : State) : Type 0 where
  moves : Moves s s'
  fits : AllFit s.rest → test_fits (scope_of s) x ≡ true
  deep : test_depth x ≤ room

compared_ok : (room : ℕ) (s : State) (y : Test × State) → compared room s ≡ Ok y → ReadsTest room s y.0 y.1
unfolding compared
compared_ok room s y e =
    let a = then_ok (expression_at room s) (λ left. comparison_sign >>= λ how. expression_at room >>= λ right. give (compare left how right)) y e in
    let left = expression_ok room s a.0 a.1 in
    let b = then_ok (comparison_sign a.0.1) (λ how. expression_at room >>= λ right. give (compare a.0.0 how right)) y a.2 in
    let to_b : Moves s b.0.1 = then_moves s a.0.1 b.0.1 left.moves (comparison_ok a.0.1 b.0 b.1) in
    let c = then_ok (expression_at room b.0.1) (λ right. give (compare a.0.0 b.0.0 right)) y b.2 in
    let right = expression_ok room b.0.1 c.0 c.1 in
    let deep_left = left.deep in
    let deep_right = right.deep in
    subst (λ (p : Test × State). ReadsTest room s p.0 p.1) (ok_is (compare a.0.0 b.0.0 c.0.0, c.0.1) y c.2) (record {
      moves = then_moves s b.0.1 c.0.1 to_b right.moves;
      fits = λ h. both _ _ (left.fits h) (subst (λ (scope : Scope). expression_fits scope c.0.0 ≡ true) (same_scope s b.0.1 to_b) (right.fits (to_b.fit h)));
      deep = most_of_two _ _ room deep_left deep_right;
    })
  where
    most_of_two : (a b n : ℕ) → a ≤ n → b ≤ n → max a b ≤ n
    most_of_two a b n p q = omega arith

test_is : (room : ℕ) (k : Option TokenKind) (s : State) (y : Test × State) → test_by room k s ≡ Ok y → ReadsTest room s y.0 y.1
test_is room (Some (kind.Keyword word.Q)) s y e = subst (λ (p : Test × State). ReadsTest room s p.0 p.1) (ok_is (flag_q, past s) y e) (record { moves = moved s; fits = λ h. refl; deep = omega arith })
test_is room (Some (kind.Keyword word.X)) s y e = subst (λ (p : Test × State). ReadsTest room s p.0 p.1) (ok_is (flag_x, past s) y e) (record { moves = moved s; fits = λ h. refl; deep = omega arith })
test_is room _ s y e = let read = compared_ok room (missed choice.Flag s) y e in record { moves = then_moves s (missed choice.Flag s) y.1 (unmoved choice.Flag s) read.moves; fits = read.fits; deep = read.deep }

test_ok : (room : ℕ) (s : State) (y : Test × State) → test_at room s ≡ Ok y → ReadsTest room s y.0 y.1
unfolding test_at
test_ok room s y e = test_is room (kind_of s.rest) s y e

-- ---- parts

pub record ReadsPart (room : ℕ) (s : State) (x : Part) (s' : State) : Type 0 where
  pub moves : Moves s s'
  pub fits : AllFit s.rest → part_fits (scope_of s) x ≡ true
  pub deep : part_depth x ≤ room

plain_is : (room : ℕ) (s : State) (y : Part × State) → (test_at room >>= λ t. give (plain t)) s ≡ Ok y → ReadsPart room s y.0 y.1
plain_is room s y e =
    let m = then_ok (test_at room s) (λ t. give (plain t)) y e in
    let test = test_ok room s m.0 m.1 in
    subst (λ (p : Part × State). ReadsPart room s p.0 p.1) (ok_is (plain m.0.0, m.0.1) y m.2) (record { moves = test.moves; fits = test.fits; deep = test.deep })

part_is : (room : ℕ) (k : Option TokenKind) (s : State) (y : Part × State) → part_by room k s ≡ Ok y → ReadsPart room s y.0 y.1
part_is room (Some (kind.Keyword word.Not)) s y e =
    let t : State = past s in
    let m = then_ok (test_at room t) (λ x. give (negated x)) y e in
    let test = test_ok room t m.0 m.1 in
    subst (λ (p : Part × State). ReadsPart room s p.0 p.1) (ok_is (negated m.0.0, m.0.1) y m.2) (record {
      moves = then_moves s t m.0.1 (moved s) test.moves;
      fits = λ h. test.fits ((moved s).fit h);
      deep = test.deep;
    })
part_is room _ s y e =
    let t : State = missed (choice.Word word.Not) s in
    let read = plain_is room t y e in
    record { moves = then_moves s t y.1 (unmoved (choice.Word word.Not) s) read.moves; fits = read.fits; deep = read.deep }

part_ok : (room : ℕ) (s : State) (y : Part × State) → part_at room s ≡ Ok y → ReadsPart room s y.0 y.1
unfolding part_at
part_ok room s y e = part_is room (kind_of s.rest) s y e

no_part : (k : Option TokenKind) (s : State) (y : Unit {0} × State) → no_part_by k s ≡ Ok y → ⊥
no_part (Some (kind.Name x)) s y e =
    let m = then_ok (variable_here s) (λ _. fail (text_case.Limit limit.Parts)) y e in
    err_no_ok _ _ m.2
no_part (Some (kind.Keyword word.Q)) s y e = err_no_ok _ _ e
no_part (Some (kind.Keyword word.X)) s y e = err_no_ok _ _ e
no_part (Some (kind.Keyword word.Not)) s y e = err_no_ok _ _ e
no_part (Some (kind.Number n)) s y e = err_no_ok _ _ e
no_part (Some (kind.Sign sign.LeftBracket)) s y e = err_no_ok _ _ e
no_part _ s y e = err_no_ok _ _ e

limit_is : (b : Bool) (s : State) (y : Unit {0} × State) → cond b (give tt) (peek >>= no_part_by) s ≡ Ok y → (b ≡ true) × (y.1 ≡ s)
limit_is true s y e = (refl, sym (ap (λ (p : Unit {0} × State). p.1) (ok_is (tt, s) y e)))
limit_is false s y e = absurd (no_part (kind_of s.rest) s y e)

limit_ok : (count : ℕ) (s : State) (y : Unit {0} × State) → part_limit count s ≡ Ok y → (nat_lt count 16 ≡ true) × (y.1 ≡ s)
unfolding part_limit
limit_ok count s y e = limit_is (nat_lt count 16) s y e

-- a part after `and`
pub record AndPart (room count : ℕ) (s : State) (x : Part) (s' : State) : Type 0 where
  pub room_left : count < 16
  pub part : ReadsPart room (past s) x s'

pub and_part_ok : (room count : ℕ) (s : State) (y : Part × State) → and_part room count s ≡ Ok y → AndPart room count s y.0 y.1
unfolding and_part
and_part_ok room count s y e =
    let t : State = past s in
    let m = then_ok (part_limit count t) (λ _. part_at room) y e in
    let limit = limit_ok count t m.0 m.1 in
    let at : part_at room t ≡ Ok y = subst (λ (u : State). part_at room u ≡ Ok y) limit.1 m.2 in
    record { room_left = ltb-true count 16 limit.0; part = part_ok room t y at }

-- ---- conditions

pub most_push : {A : Type 0} (f : A → ℕ) (xs : List A) (x : A) (n : ℕ) → most f xs ≤ n → f x ≤ n → most f (xs ++ x ∷ []) ≤ n
most_push f [] x n h k = omega arith
most_push f (y ∷ ys) x n h k = let rest : most f (ys ++ x ∷ []) ≤ n = most_push f ys x n (omega arith) k in omega arith

-- parts are read
pub record ReadsParts (room : ℕ) (s : State) (xs : Condition) (s' : State) : Type 0 where
  pub moves : Moves s s'
  pub fit : AllFit s.rest → each (part_fits (scope_of s)) xs ≡ true
  pub some : 1 ≤ length xs
  pub few : length xs ≤ 16
  pub deep : most part_depth xs ≤ room

first_part : (room : ℕ) (s : State) (x : Part) (s' : State) → ReadsPart room s x s' → ReadsParts room s (x ∷ []) s'
first_part room s x s' p =
    let deep : part_depth x ≤ room = p.deep in
    record { moves = p.moves; fit = λ h. both _ _ (p.fits h) refl; some = omega arith; few = omega arith; deep = omega arith }

still : (room : ℕ) (s : State) (xs : Condition) (u : State) → ReadsParts room s xs u → ReadsParts room s xs (missed (choice.Word word.And) u)
still room s xs u r = record { moves = then_moves s u (missed (choice.Word word.And) u) r.moves (unmoved (choice.Word word.And) u); fit = r.fit; some = r.some; few = r.few; deep = r.deep }

longer_parts : (room : ℕ) (s : State) (xs : Condition) (u : State) (x : Part) (t : State) → ReadsParts room s xs u → AndPart room (length xs) u x t → ReadsParts room s (xs ++ x ∷ []) t
longer_parts room s xs u x t ps a =
    let v : State = past u in
    let to_v : Moves s v = then_moves s u v ps.moves (moved u) in
    let below : length xs < 16 = a.room_left in
    let some : 1 ≤ length xs = ps.some in
    let longer : length (xs ++ x ∷ []) ≡ length xs + 1 = length-append xs (x ∷ []) in
    record {
      moves = then_moves s v t to_v a.part.moves;
      fit = λ h. each_push (part_fits (scope_of s)) xs x (ps.fit h) (subst (λ (scope : Scope). part_fits scope x ≡ true) (same_scope s v to_v) (a.part.fits (to_v.fit h)));
      some = omega arith;
      few = omega arith;
      deep = most_push part_depth xs x room ps.deep a.part.deep;
    }

parts_turn : (room : ℕ) (s : State) (xs : Condition) (u : State) (ys : Condition) (t : State) → ReadsParts room s xs u → one_more_part room xs u ≡ Ok (ys, t) → ReadsParts room s ys t
parts_turn room s xs u ys t ps e =
    let m = then_ok (and_part room (length xs) u) (λ x. give (xs ++ x ∷ [])) (ys, t) e in
    subst (λ (p : Condition × State). ReadsParts room s p.0 p.1) (ok_is (xs ++ m.0.0 ∷ [], m.0.1) (ys, t) m.2) (longer_parts room s xs u m.0.0 m.0.1 ps (and_part_ok room (length xs) u m.0 m.1))

keyword_some : (w : Keyword) (k : Option TokenKind) → is_keyword w k ≡ true → (j : TokenKind) × (k ≡ Some j)
keyword_some w (Some j) on = (j, refl)
keyword_some w None on = absurd cc

pub and_part_less : (room count : ℕ) (s : State) (y : Part × State) → is_keyword word.And (kind_of s.rest) ≡ true → and_part room count s ≡ Ok y → length y.1.rest < length s.rest
and_part_less room count s y on e =
    let k = keyword_some word.And (kind_of s.rest) on in
    let less : length (after_first s.rest) < length s.rest = after_less s.rest k.0 k.1 in
    let shorter : length y.1.rest ≤ length (after_first s.rest) = (and_part_ok room count s y e).part.moves.shorter in
    omega arith

pub parts_progress : (room : ℕ) → Progresses (is_keyword word.And) (one_more_part room)
parts_progress room xs s ys s' on took =
    let m = then_ok (and_part room (length xs) s) (λ x. give (xs ++ x ∷ [])) (ys, s') took in
    subst (λ (p : Condition × State). length p.1.rest < length s.rest) (ok_is (xs ++ m.0.0 ∷ [], m.0.1) (ys, s') m.2) (and_part_less room (length xs) s m.0 on m.1)

pub record ReadsCondition (room : ℕ) (s : State) (x : Condition) (s' : State) : Type 0 where
  pub moves : Moves s s'
  pub fits : AllFit s.rest → condition_fits (scope_of s) x ≡ true
  pub deep : most part_depth x ≤ room

pub condition_ok : (room : ℕ) (s : State) (y : Condition × State) → condition_at room s ≡ Ok y → ReadsCondition room s y.0 y.1
unfolding condition_at
condition_ok room s y e =
    let m = then_ok (part_at room s) (λ first. until (choice.Word word.And) (is_keyword word.And) (one_more_part room) (first ∷ [])) y e in
    let ps = until_keeps (λ (xs : Condition) (u : State). ReadsParts room s xs u) (choice.Word word.And) (λ xs u r. still room s xs u r) (is_keyword word.And) (one_more_part room) (λ xs u ys t ps on took. parts_turn room s xs u ys t ps took) (m.0.0 ∷ []) m.0.1 y (first_part room s m.0.0 m.0.1 (part_ok room s m.0 m.1)) m.2 in
    record {
      moves = ps.moves;
      fits = λ h. both _ _ (below_le 1 (length y.0) ps.some) (both _ _ (below_le (length y.0) 16 ps.few) (ps.fit h));
      deep = ps.deep;
    }
