-- What a `for`, a `while` and a `lock` leave, where this is what a block leaves.
use Rattle.std.proofs.Common.{not, ◌≡◌, ℕ, ◌≤◌, ◌<◌, Bool, true, false, cond, nat_lt, List, length, Option, Some, Ok, refl, ap, subst, arith}
use Rattle.std.specs.Prelude.{option_and_then}
use Rattle.std.proofs.lemmas.Bool.{lt-ltb}
use Rattle.camac_lang.specs.Depth.{expression_depth, part_depth, inner_depth}
use Rattle.camac_lang.specs.Expressions.{Scope, expression_fits}
use Rattle.camac_lang.specs.Statements.{keeps_fit, after_block}
use Rattle.camac_lang.specs.Tests.{most, unless_broken, is_number}
use Rattle.camac_lang.specs.Tree.{Expression, Condition, Keep, Statement, number, for_, for_each, while_, locked}
use Rattle.camac_lang.specs.View.{block_of}
use Rattle.camac_tokens.specs.declared.fault.TextCase.TheVariants as text_case
use Rattle.camac_tokens.specs.declared.token.Keyword.TheVariants as word
use Rattle.camac_tokens.specs.declared.token.Sign.TheVariants as sign
use Rattle.camac_tokens.specs.declared.token.TokenKind.{TokenKind}
use Rattle.camac_tokens.specs.declared.token.TokenKind.TheVariants as kind
use Rattle.camac_text_cursor.specs.declared.choice.Choice.TheVariants as choice
use Rattle.camac_text_cursor.specs.Reading.{State, Reader, ◌>>=◌, ◌>>◌, give, kind_of, miss, missed, past}
use Rattle.camac_text_cursor.specs.Readers.{begin, is_each, expect, expect_sign, any_number, used_variable}
use Rattle.camac_text_phrases.specs.Expressions.{expression_at}
use Rattle.camac_text_phrases.specs.Conditions.{condition_at}
use Rattle.camac_text_phrases.specs.declared.keeping.Own.TheVariants as of_loop
use Rattle.camac_text_phrases.specs.Keeps.{keeps_at}
use Rattle.camac_text_statements.specs.Statements.{single_number, for_ends, each_ends, ends_by, for_statement, while_statement, lock_statement}
use Rattle.camac_text_cursor.proofs.Steps.{then_ok, ok_is}
use Rattle.camac_text_cursor.proofs.Moves.{check_ok, AllFit, Moves, kind_fit, moved, unmoved, then_moves, one_moves, any_number_ok, expect_ok, expect_sign_ok}
use Rattle.camac_text_cursor.proofs.Uses.{scope_of, same_scope, used_variable_ok}
use Rattle.camac_text_phrases.proofs.BracketsRead.{expression_ok}
use Rattle.camac_text_phrases.proofs.ConditionsRead.{condition_ok}
use Rattle.camac_text_phrases.proofs.KeepsRead.{keeps_ok, keeps_stand}
use Rattle.camac_text_cursor.proofs.Registers.{both, first_of_both}
use Rattle.camac_text_statements.proofs.Acts.{begun, begin_ok, Acts}
use Rattle.camac_text_statements.proofs.Blocks.{Body, after_moves, holds_block}
use Rattle.camac_lang.specs.declared.spot.Spot.{Spot}

-- what fits after some tokens fits before them
expression_before : (s t : State) (e : Expression) → Moves s t → (AllFit t.rest → expression_fits (scope_of t) e ≡ true) → AllFit s.rest → expression_fits (scope_of s) e ≡ true
expression_before s t e m fits h = subst (λ (c : Scope). expression_fits c e ≡ true) (same_scope s t m) (fits (m.fit h))

variable_before : (s t : State) (x : ℕ) → Moves s t → x < length t.variables → nat_lt x (length s.variables) ≡ true
variable_before s t x m below = subst (λ (u : State). nat_lt x (length u.variables) ≡ true) m.same (lt-ltb x (length t.variables) below)

keeps_before : (s t : State) (own : ℕ) (ks : List Keep) → Moves s t → (AllFit t.rest → keeps_fit (scope_of t) own ks ≡ true) → AllFit s.rest → keeps_fit (scope_of s) own ks ≡ true
keeps_before s t own ks m fits h = subst (λ (c : Scope). keeps_fit c own ks ≡ true) (same_scope s t m) (fits (m.fit h))

pub number_of : (e : Expression) (n : ℕ) → single_number e ≡ Some n → e ≡ number n
number_of (number m) n is = ap number (same m n is) where
  same : (a b : ℕ) → Some a ≡ Some b → a ≡ b
  same a b h = cc
number_of _ n is = absurd cc

module _ (room : ℕ) (block : Reader (List Statement)) (block_is : (s : State) (y : List Statement × State) → block s ≡ Ok y → Body room s y.0 y.1) where
  -- the variable and both ends of a `for` are read
  record Bounded (s : State) (j : TokenKind) (own : ℕ) (first last : Expression) (u : State) : Type 0 where
    next : kind_of s.rest ≡ Some j
    below : s.statements < 4096
    within : own < length s.variables
    moves : Moves (begun s) u
    first_fits : AllFit s.rest → expression_fits (scope_of s) first ≡ true
    first_deep : expression_depth first ≤ room
    last_fits : AllFit s.rest → expression_fits (scope_of s) last ≡ true
    last_deep : expression_depth last ≤ room

  for_ends_is : (s : State) (j : TokenKind) (spot : Spot) (own : ℕ) (first last : Expression) (u : State) (y : Statement × State) → Bounded s j own first last u → for_ends block spot own first last u ≡ Ok y → Acts room s y.0 y.1
  for_ends_is s j spot own first last u y r e =
      let c = then_ok (keeps_at (of_loop.Counter own) u) (λ ks. block >>= λ xs. give (for_ spot own first last ks (block_of xs))) y e in
      let keeps = keeps_ok (of_loop.Counter own) u c.0 c.1 in
      let to_c : Moves (begun s) c.0.1 = then_moves (begun s) u c.0.1 r.moves keeps.moves in
      let d = then_ok (block c.0.1) (λ xs. give (for_ spot own first last c.0.0 (block_of xs))) y c.2 in
      let body : Body room (begun s) d.0.0 d.0.1 = after_moves room (begun s) c.0.1 d.0.0 d.0.1 to_c (block_is c.0.1 d.0 d.1) in
      let deep_first : expression_depth first ≤ room = r.first_deep in
      let deep_last : expression_depth last ≤ room = r.last_deep in
      let inner : inner_depth s.callables (block_of d.0.0) < room = body.deep in
      subst (λ (p : Statement × State). Acts room s p.0 p.1) (ok_is (for_ spot own first last c.0.0 (block_of d.0.0), d.0.1) y d.2)
      (holds_block room s j (for_ spot own first last c.0.0 (block_of d.0.0)) d.0.0 d.0.1 r.next r.below
      (λ h.
      let h_b : AllFit (begun s).rest = (moved s).fit h in
      ap (λ (holds : Bool). option_and_then (λ (n : ℕ). after_block (scope_of s) n (block_of d.0.0)) (unless_broken holds (length s.registers)))
      (both _ _ (lt-ltb own (length s.variables) r.within)
      (both _ _ (r.first_fits h)
      (both _ _ (r.last_fits h)
      (keeps_before (begun s) u own c.0.0 r.moves (keeps_stand (of_loop.Counter own) u c.0.0 c.0.1 keeps) h_b)))))
      refl (omega arith) body)

  number_fits : (s : State) (e : Expression) (n : ℕ) → e ≡ number n → expression_fits (scope_of s) e ≡ true → is_number n ≡ true
  number_fits s e n is fits = first_of_both (is_number n) _ (subst (λ (w : Expression). expression_fits (scope_of s) w ≡ true) is fits)

  each_ends_is : (s : State) (j : TokenKind) (spot : Spot) (own : ℕ) (first last : Expression) (a b : ℕ) (u : State) (y : Statement × State) → Bounded s j own first last u → first ≡ number a → last ≡ number b → each_ends block spot own a b u ≡ Ok y → Acts room s y.0 y.1
  each_ends_is s j spot own first last a b u y r is_first is_last e =
      let t : State = past u in
      let d = then_ok (block t) (λ xs. give (for_each spot own a b (block_of xs))) y e in
      let body : Body room (begun s) d.0.0 d.0.1 = after_moves room (begun s) t d.0.0 d.0.1 (then_moves (begun s) u t r.moves (moved u)) (block_is t d.0 d.1) in
      let inner : inner_depth s.callables (block_of d.0.0) < room = body.deep in
      subst (λ (p : Statement × State). Acts room s p.0 p.1) (ok_is (for_each spot own a b (block_of d.0.0), d.0.1) y d.2)
      (holds_block room s j (for_each spot own a b (block_of d.0.0)) d.0.0 d.0.1 r.next r.below
      (λ h.
      ap (λ (holds : Bool). option_and_then (λ (n : ℕ). after_block (scope_of s) n (block_of d.0.0)) (unless_broken holds (length s.registers)))
      (both _ _ (lt-ltb own (length s.variables) r.within)
      (both _ _ (number_fits s first a is_first (r.first_fits h)) (number_fits s last b is_last (r.last_fits h)))))
      refl (omega arith) body)

  missed_bounded : (s : State) (j : TokenKind) (own : ℕ) (first last : Expression) (u : State) → Bounded s j own first last u → Bounded s j own first last (missed choice.Each u)
  missed_bounded s j own first last u r = record {
    next = r.next;
    below = r.below;
    within = r.within;
    moves = then_moves (begun s) u (missed choice.Each u) r.moves (unmoved choice.Each u);
    first_fits = r.first_fits;
    first_deep = r.first_deep;
    last_fits = r.last_fits;
    last_deep = r.last_deep;
  }

  chosen_is : (is_next : Bool) (s : State) (j : TokenKind) (spot : Spot) (own : ℕ) (first last : Expression) (a b : ℕ) (u : State) (y : Statement × State) → Bounded s j own first last u → first ≡ number a → last ≡ number b → cond is_next (each_ends block spot own a b) (miss choice.Each >> for_ends block spot own first last) u ≡ Ok y → Acts room s y.0 y.1
  chosen_is true s j spot own first last a b u y r is_first is_last e = each_ends_is s j spot own first last a b u y r is_first is_last e
  chosen_is false s j spot own first last a b u y r is_first is_last e = for_ends_is s j spot own first last (missed choice.Each u) y (missed_bounded s j own first last u r) e

  ends_is : (s : State) (j : TokenKind) (spot : Spot) (own : ℕ) (first last : Expression) (o p : Option ℕ) (u : State) (y : Statement × State) → Bounded s j own first last u → single_number first ≡ o → single_number last ≡ p → ends_by block spot own first last o p u ≡ Ok y → Acts room s y.0 y.1
  ends_is s j spot own first last (Some a) (Some b) u y r is_first is_last e = chosen_is (is_each (kind_of u.rest)) s j spot own first last a b u y r (number_of first a is_first) (number_of last b is_last) e
  ends_is s j spot own first last _ _ u y r is_first is_last e = for_ends_is s j spot own first last u y r e

  pub for_is : (s : State) (j : TokenKind) (spot : Spot) (y : Statement × State) → kind_of s.rest ≡ Some j → for_statement room block spot s ≡ Ok y → Acts room s y.0 y.1
  unfolding for_statement
  for_is s j spot y next e =
      let to_last : ℕ → Expression → Reader Statement = λ own first. expect word.To >> (expression_at room >>= λ last. ends_by block spot own first last (single_number first) (single_number last)) in
      let rest : Reader Statement = used_variable >>= λ own. expect_sign sign.Equals >> (expression_at room >>= λ first. to_last own first) in
      let z = then_ok (begin s) (λ _. rest) y e in
      let begins = begin_ok s z.0 z.1 in
      let b : State = begun s in
      let at : rest b ≡ Ok y = subst (λ (u : State). rest u ≡ Ok y) begins.1 z.2 in
      let v = then_ok (used_variable b) (λ own. expect_sign sign.Equals >> (expression_at room >>= λ first. to_last own first)) y at in
      let own = used_variable_ok b v.0 v.1 in
      let a1 = then_ok (expect_sign sign.Equals v.0.1) (λ _. expression_at room >>= λ first. to_last v.0.0 first) y v.2 in
      let to_1 : Moves b a1.0.1 = then_moves b v.0.1 a1.0.1 own.1 (expect_sign_ok sign.Equals v.0.1 a1.0 a1.1) in
      let a2 = then_ok (expression_at room a1.0.1) (λ first. to_last v.0.0 first) y a1.2 in
      let first = expression_ok room a1.0.1 a2.0 a2.1 in
      let to_2 : Moves b a2.0.1 = then_moves b a1.0.1 a2.0.1 to_1 first.moves in
      let a3 = then_ok (expect word.To a2.0.1) (λ _. expression_at room >>= λ last. ends_by block spot v.0.0 a2.0.0 last (single_number a2.0.0) (single_number last)) y a2.2 in
      let to_3 : Moves b a3.0.1 = then_moves b a2.0.1 a3.0.1 to_2 (expect_ok word.To a2.0.1 a3.0 a3.1) in
      let a4 = then_ok (expression_at room a3.0.1) (λ last. ends_by block spot v.0.0 a2.0.0 last (single_number a2.0.0) (single_number last)) y a3.2 in
      let last = expression_ok room a3.0.1 a4.0 a4.1 in
      let to_4 : Moves b a4.0.1 = then_moves b a3.0.1 a4.0.1 to_3 last.moves in
      let r : Bounded s j v.0.0 a2.0.0 a4.0.0 a4.0.1 = record {
        next = next;
        below = begins.0;
        within = own.0;
        moves = to_4;
        first_fits = λ h. expression_before b a1.0.1 a2.0.0 to_1 first.fits ((moved s).fit h);
        first_deep = first.deep;
        last_fits = λ h. expression_before b a3.0.1 a4.0.0 to_3 last.fits ((moved s).fit h);
        last_deep = last.deep;
      } in
      ends_is s j spot v.0.0 a2.0.0 a4.0.0 (single_number a2.0.0) (single_number a4.0.0) a4.0.1 y r refl refl a4.2

  pub while_is : (s : State) (j : TokenKind) (spot : Spot) (y : Statement × State) → kind_of s.rest ≡ Some j → while_statement room block spot s ≡ Ok y → Acts room s y.0 y.1
  unfolding while_statement
  while_is s j spot y next e =
      let by_to : Condition → ℕ → Reader Statement = λ c turns. expect word.By >> (used_variable >>= λ own. keeps_at (of_loop.Measure own) >>= λ ks. block >>= λ xs. give (while_ spot c turns own ks (block_of xs))) in
      let rest : Reader Statement = condition_at room >>= λ c. expect word.Turns >> (any_number >>= λ turns. by_to c turns) in
      let z = then_ok (begin s) (λ _. rest) y e in
      let begins = begin_ok s z.0 z.1 in
      let b : State = begun s in
      let at : rest b ≡ Ok y = subst (λ (u : State). rest u ≡ Ok y) begins.1 z.2 in
      let a1 = then_ok (condition_at room b) (λ c. expect word.Turns >> (any_number >>= λ turns. by_to c turns)) y at in
      let test = condition_ok room b a1.0 a1.1 in
      let a2 = then_ok (expect word.Turns a1.0.1) (λ _. any_number >>= λ turns. by_to a1.0.0 turns) y a1.2 in
      let to_2 : Moves b a2.0.1 = then_moves b a1.0.1 a2.0.1 test.moves (expect_ok word.Turns a1.0.1 a2.0 a2.1) in
      let a3 = then_ok (any_number a2.0.1) (λ turns. by_to a1.0.0 turns) y a2.2 in
      let turns = any_number_ok a2.0.1 a3.0 a3.1 in
      let to_3 : Moves b a3.0.1 = then_moves b a2.0.1 a3.0.1 to_2 (one_moves a2.0.1 (kind.Number a3.0.0) a3.0.1 turns) in
      let a4 = then_ok (expect word.By a3.0.1) (λ _. used_variable >>= λ own. keeps_at (of_loop.Measure own) >>= λ ks. block >>= λ xs. give (while_ spot a1.0.0 a3.0.0 own ks (block_of xs))) y a3.2 in
      let to_4 : Moves b a4.0.1 = then_moves b a3.0.1 a4.0.1 to_3 (expect_ok word.By a3.0.1 a4.0 a4.1) in
      let v = then_ok (used_variable a4.0.1) (λ own. keeps_at (of_loop.Measure own) >>= λ ks. block >>= λ xs. give (while_ spot a1.0.0 a3.0.0 own ks (block_of xs))) y a4.2 in
      let own = used_variable_ok a4.0.1 v.0 v.1 in
      let to_v : Moves b v.0.1 = then_moves b a4.0.1 v.0.1 to_4 own.1 in
      let a5 = then_ok (keeps_at (of_loop.Measure v.0.0) v.0.1) (λ ks. block >>= λ xs. give (while_ spot a1.0.0 a3.0.0 v.0.0 ks (block_of xs))) y v.2 in
      let keeps = keeps_ok (of_loop.Measure v.0.0) v.0.1 a5.0 a5.1 in
      let to_5 : Moves b a5.0.1 = then_moves b v.0.1 a5.0.1 to_v keeps.moves in
      let a6 = then_ok (block a5.0.1) (λ xs. give (while_ spot a1.0.0 a3.0.0 v.0.0 a5.0.0 (block_of xs))) y a5.2 in
      let body : Body room b a6.0.0 a6.0.1 = after_moves room b a5.0.1 a6.0.0 a6.0.1 to_5 (block_is a5.0.1 a6.0 a6.1) in
      let x : Statement = while_ spot a1.0.0 a3.0.0 v.0.0 a5.0.0 (block_of a6.0.0) in
      let deep_test : most part_depth a1.0.0 ≤ room = test.deep in
      let inner : inner_depth s.callables (block_of a6.0.0) < room = body.deep in
      subst (λ (p : Statement × State). Acts room s p.0 p.1) (ok_is (x, a6.0.1) y a6.2)
      (holds_block room s j x a6.0.0 a6.0.1 next begins.0
      (λ h.
      let h_b : AllFit b.rest = (moved s).fit h in
      ap (λ (holds : Bool). option_and_then (λ (n : ℕ). after_block (scope_of s) n (block_of a6.0.0)) (unless_broken holds (length s.registers)))
      (both _ _ (test.fits h_b)
      (both _ _ (kind_fit a2.0.1.rest (kind.Number a3.0.0) turns.next (to_2.fit h_b))
      (both _ _ (variable_before b a4.0.1 v.0.0 to_4 own.0)
      (keeps_before b v.0.1 v.0.0 a5.0.0 to_v (keeps_stand (of_loop.Measure v.0.0) v.0.1 a5.0.0 a5.0.1 keeps) h_b)))))
      refl (omega arith) body)

  pub locking_is : (s : State) (j : TokenKind) (spot : Spot) (y : Statement × State) → kind_of s.rest ≡ Some j → lock_statement room block spot s ≡ Ok y → Acts room s y.0 y.1
  unfolding lock_statement
  locking_is s j spot y next e =
      let rest : Reader Statement = expression_at room >>= λ c. block >>= λ xs. give (locked spot c (block_of xs)) in
      let free = check_ok (not s.in_procedure) text_case.LockInProcedure (begin >> rest) s y e in
      let z = then_ok (begin s) (λ _. rest) y free.1 in
      let begins = begin_ok s z.0 z.1 in
      let b : State = begun s in
      let at : rest b ≡ Ok y = subst (λ (u : State). rest u ≡ Ok y) begins.1 z.2 in
      let a1 = then_ok (expression_at room b) (λ c. block >>= λ xs. give (locked spot c (block_of xs))) y at in
      let read = expression_ok room b a1.0 a1.1 in
      let a2 = then_ok (block a1.0.1) (λ xs. give (locked spot a1.0.0 (block_of xs))) y a1.2 in
      let body : Body room b a2.0.0 a2.0.1 = after_moves room b a1.0.1 a2.0.0 a2.0.1 read.moves (block_is a1.0.1 a2.0 a2.1) in
      let x : Statement = locked spot a1.0.0 (block_of a2.0.0) in
      let deep : expression_depth a1.0.0 ≤ room = read.deep in
      let inner : inner_depth s.callables (block_of a2.0.0) < room = body.deep in
      subst (λ (p : Statement × State). Acts room s p.0 p.1) (ok_is (x, a2.0.1) y a2.2)
      (holds_block room s j x a2.0.0 a2.0.1 next begins.0
      (λ h. ap (λ (holds : Bool). option_and_then (λ (n : ℕ). after_block (scope_of s) n (block_of a2.0.0)) (unless_broken holds (length s.registers))) (both _ _ free.0 (read.fits ((moved s).fit h))))
      refl (omega arith) body)
