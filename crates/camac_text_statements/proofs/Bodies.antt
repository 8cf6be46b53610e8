-- What statements leave that are read, and the block that they are.
use Rattle.std.proofs.Common.{◌≡◌, ℕ, List, Option, Some, Ok, refl, ◌<◌, subst, suc, ◌+◌, ◌≤◌, Bool, true, nat_lt, nat_le, max, length, sym, ap, ◌∙◌, arith, zero, false, cond, [], ◌∷◌, ◌++◌, None}
use Rattle.std.proofs.lemmas.Bool.{lt-ltb, ltb-true}
use Rattle.std.specs.Prelude.{option_and_then}
use Rattle.camac_lang.specs.Tree.{Statement, choose, choose_else, Condition, Text, Expression, Move, no_data, into, from, assign, set_register, single, put}
use Rattle.camac_lang.specs.declared.word.WordSize.TheVariants.{Full, Short}
use Rattle.camac_lang.specs.declared.spot.Spot.{Spot}
use Rattle.camac_lang.specs.View.{block_of}
use Rattle.camac_lang.specs.Depth.{move_depth, statement_depth, inner_depth}
use Rattle.camac_lang.specs.Expressions.{Scope, expression_fits, Callable}
use Rattle.camac_lang.specs.Statements.{move_fits, after, after_block, statements_in, statements}
use Rattle.camac_lang.specs.Tests.{is_function, unless_broken}
use Rattle.camac_lang.specs.declared.word.WordSize.{WordSize}
use Rattle.camac_tokens.specs.declared.token.Keyword.TheVariants as word
use Rattle.camac_tokens.specs.declared.token.Sign.TheVariants as sign
use Rattle.camac_tokens.specs.declared.token.TokenKind.{TokenKind}
use Rattle.camac_tokens.specs.declared.token.TokenKind.TheVariants as kind
use Rattle.camac_tokens.specs.declared.fault.Limit.TheVariants as limit
use Rattle.camac_tokens.specs.declared.fault.TextCase.TheVariants as text_case
use Rattle.camac_text_cursor.specs.declared.choice.Choice.TheVariants as choice
use Rattle.camac_text_cursor.specs.Reading.{State, Reader, kind_of, spot_of, missed, ◌>>=◌, give, peek, past, then_read, ◌>>◌, after_first, fail, one_more, many, unexpected}
use Rattle.camac_text_cursor.specs.Readers.{begin, expect_sign, branch_number, function_number, set_name, used_register, used_variable, variable_here, is_sign}
use Rattle.camac_text_cursor.proofs.Steps.{then_ok, ok_is, err_no_ok, Progresses, while_keeps}
use Rattle.camac_text_cursor.proofs.Moves.{moved, unmoved, AllFit, Moves, after_less, then_moves, one_moves, branch_ok, function_ok, expect_sign_ok}
use Rattle.camac_text_cursor.proofs.Uses.{scope_of, same_scope, used_register_ok, used_variable_ok, variable_here_ok}
use Rattle.camac_text_cursor.proofs.Registers.{limits_of, both, below_le, RegistersFit, set_name_ok, Limits}
use Rattle.camac_text_statements.specs.Statements.{nested_by, statement_by, statement_with, else_by, if_statement, assignment, register_setting, move_by, move_at, single_action, put_action, is_no_end, block_at}
use Rattle.camac_text_statements.proofs.Acts.{Acts, acts_missed, begun, begin_ok, acts}
use Rattle.camac_text_statements.proofs.Blocks.{Body, after_moves, before_moves, holds_one, holds_two}
use Rattle.camac_text_statements.proofs.TransfersRead.{transfer_is}
use Rattle.camac_text_statements.proofs.LoopsRead.{for_is, while_is, locking_is}
use Rattle.camac_text_phrases.specs.Conditions.{condition_at}
use Rattle.camac_text_phrases.specs.Expressions.{expression_at}
use Rattle.camac_text_phrases.proofs.ConditionsRead.{ReadsCondition, condition_ok}
use Rattle.camac_text_phrases.proofs.BracketsRead.{expression_ok}

-- What a statement that is read leaves.

-- What an assignment, a `cdreg`, a single action and a `put` leave.

-- ---- what a single action moves

record ReadsMove (room : ℕ) (s : State) (x : Move) (s' : State) : Type 0 where
  moves : Moves s s'
  fits : AllFit s.rest → move_fits (scope_of s) x ≡ true
  deep : move_depth x ≤ room

move_is : (room : ℕ) (k : Option TokenKind) (s : State) (y : Move × State) → move_by room k s ≡ Ok y → ReadsMove room s y.0 y.1
move_is room (Some (kind.Sign sign.Into)) s y e =
    let t : State = past s in
    let m = then_ok (used_variable t) _ y e in
    let used = used_variable_ok t m.0 m.1 in
    subst (λ (p : Move × State). ReadsMove room s p.0 p.1) (ok_is (into m.0.0, m.0.1) y m.2) (record {
      moves = then_moves s t m.0.1 (moved s) used.1;
      fits = λ h. lt-ltb m.0.0 (length s.variables) used.0;
      deep = omega arith;
    })
move_is room (Some (kind.Sign sign.From)) s y e =
    let t : State = past s in
    let m = then_ok (expression_at room t) _ y e in
    let read = expression_ok room t m.0 m.1 in
    subst (λ (p : Move × State). ReadsMove room s p.0 p.1) (ok_is (from m.0.0, m.0.1) y m.2) (record {
      moves = then_moves s t m.0.1 (moved s) read.moves;
      fits = λ h. read.fits ((moved s).fit h);
      deep = read.deep;
    })
move_is room _ s y e = subst (λ (p : Move × State). ReadsMove room s p.0 p.1) (ok_is (no_data, missed choice.Arrow s) y e) (record { moves = unmoved choice.Arrow s; fits = λ h. refl; deep = omega arith })

move_ok : (room : ℕ) (s : State) (y : Move × State) → move_at room s ≡ Ok y → ReadsMove room s y.0 y.1
unfolding move_at
move_ok room s y e = move_is room (kind_of s.rest) s y e

-- ---- statements

pub put_is : (room : ℕ) (s : State) (k : TokenKind) (spot : Spot) (y : Statement × State) → kind_of s.rest ≡ Some k → put_action room spot s ≡ Ok y → Acts room s y.0 y.1
unfolding put_action
put_is room s k spot y next e =
    let a = then_ok (begin s) _ y e in
    let begins = begin_ok s a.0 a.1 in
    let at : then_read (expression_at room (begun s)) (λ value. give (put spot value)) ≡ Ok y = subst (λ (u : State). then_read (expression_at room u) (λ value. give (put spot value)) ≡ Ok y) begins.1 a.2 in
    let b = then_ok (expression_at room (begun s)) (λ value. give (put spot value)) y at in
    let read = expression_ok room (begun s) b.0 b.1 in
    subst (λ (p : Statement × State). Acts room s p.0 p.1) (ok_is (put spot b.0.0, b.0.1) y b.2)
    (acts room s (put spot b.0.0) k b.0.1 next begins.0 read.moves
    (λ h. ap (λ (holds : Bool). unless_broken holds (length s.registers)) (read.fits ((moved s).fit h)))
    read.deep refl)

pub single_is : (room : ℕ) (s : State) (k : TokenKind) (size : WordSize) (spot : Spot) (y : Statement × State) → kind_of s.rest ≡ Some k → single_action size room spot s ≡ Ok y → Acts room s y.0 y.1
unfolding single_action
single_is room s k size spot y next e =
    let a = then_ok (begin s) _ y e in
    let begins = begin_ok s a.0 a.1 in
    let rest : Reader Statement = function_number >>= λ f. used_register >>= λ r. move_at room >>= λ move. give (single spot size f r move) in
    let at : rest (begun s) ≡ Ok y = subst (λ (u : State). rest u ≡ Ok y) begins.1 a.2 in
    let b = then_ok (function_number (begun s)) (λ f. used_register >>= λ r. move_at room >>= λ move. give (single spot size f r move)) y at in
    let f = function_ok (begun s) b.0 b.1 in
    let c = then_ok (used_register b.0.1) (λ r. move_at room >>= λ move. give (single spot size b.0.0 r move)) y b.2 in
    let r = used_register_ok b.0.1 c.0 c.1 in
    let d = then_ok (move_at room c.0.1) (λ move. give (single spot size b.0.0 c.0.0 move)) y c.2 in
    let m = move_ok room c.0.1 d.0 d.1 in
    let to_b : Moves (begun s) b.0.1 = one_moves (begun s) (kind.Number b.0.0) b.0.1 f.one in
    let to_c : Moves (begun s) c.0.1 = then_moves (begun s) b.0.1 c.0.1 to_b r.1 in
    let function_fits : is_function b.0.0 ≡ true = below_le b.0.0 31 (let below : b.0.0 < 32 = ltb-true b.0.0 32 f.below in omega arith) in
    let register_fits : nat_lt c.0.0 (length s.registers) ≡ true = subst (λ (u : State). nat_lt c.0.0 (length u.registers) ≡ true) to_b.same (lt-ltb c.0.0 (length b.0.1.registers) r.0) in
    subst (λ (p : Statement × State). Acts room s p.0 p.1) (ok_is (single spot size b.0.0 c.0.0 d.0.0, d.0.1) y d.2)
    (acts room s (single spot size b.0.0 c.0.0 d.0.0) k d.0.1 next begins.0 (then_moves (begun s) c.0.1 d.0.1 to_c m.moves)
    (λ h.
    let move_stands : move_fits (scope_of s) d.0.0 ≡ true = subst (λ (scope : Scope). move_fits scope d.0.0 ≡ true) (same_scope (begun s) c.0.1 to_c) (m.fits (to_c.fit ((moved s).fit h))) in
    ap (λ (holds : Bool). unless_broken holds (length s.registers)) (both (is_function b.0.0) _ function_fits (both (nat_lt c.0.0 (length s.registers)) _ register_fits move_stands)))
    m.deep refl)

three_deep : (a b c n : ℕ) → a ≤ n → b ≤ n → c ≤ n → max a (max b c) ≤ n
three_deep a b c n p q r = omega arith

pub setting_is : (room : ℕ) (s : State) (k : TokenKind) (spot : Spot) (y : Statement × State) → kind_of s.rest ≡ Some k → register_setting room spot s ≡ Ok y → Acts room s y.0 y.1
unfolding register_setting
setting_is room s k spot y next e =
    let a = then_ok (begin s) _ y e in
    let begins = begin_ok s a.0 a.1 in
    let rest : Reader Statement = set_name >>= λ r. branch_number >> (expression_at room >>= λ c. expression_at room >>= λ n. expression_at room >>= λ a. give (set_register spot r c n a)) in
    let at : rest (begun s) ≡ Ok y = subst (λ (u : State). rest u ≡ Ok y) begins.1 a.2 in
    let b = then_ok (set_name (begun s)) (λ r. branch_number >> (expression_at room >>= λ c. expression_at room >>= λ n. expression_at room >>= λ a. give (set_register spot r c n a))) y at in
    let r = set_name_ok (begun s) b.0 b.1 in
    let u1 = then_ok (branch_number b.0.1) (λ _. expression_at room >>= λ c. expression_at room >>= λ n. expression_at room >>= λ a. give (set_register spot b.0.0 c n a)) y b.2 in
    let branch = branch_ok b.0.1 u1.0 u1.1 in
    let u2 = then_ok (expression_at room u1.0.1) (λ c. expression_at room >>= λ n. expression_at room >>= λ a. give (set_register spot b.0.0 c n a)) y u1.2 in
    let l2 = expression_ok room u1.0.1 u2.0 u2.1 in
    let u3 = then_ok (expression_at room u2.0.1) (λ n. expression_at room >>= λ a. give (set_register spot b.0.0 u2.0.0 n a)) y u2.2 in
    let l3 = expression_ok room u2.0.1 u3.0 u3.1 in
    let u4 = then_ok (expression_at room u3.0.1) (λ a. give (set_register spot b.0.0 u2.0.0 u3.0.0 a)) y u3.2 in
    let l4 = expression_ok room u3.0.1 u4.0 u4.1 in
    let to_1 : Moves b.0.1 u1.0.1 = one_moves b.0.1 (kind.Number branch.0) u1.0.1 branch.1 in
    let to_2 : Moves b.0.1 u2.0.1 = then_moves b.0.1 u1.0.1 u2.0.1 to_1 l2.moves in
    let to_3 : Moves b.0.1 u3.0.1 = then_moves b.0.1 u2.0.1 u3.0.1 to_2 l3.moves in
    let to_4 : Moves b.0.1 u4.0.1 = then_moves b.0.1 u3.0.1 u4.0.1 to_3 l4.moves in
    let x : Statement = set_register spot b.0.0 u2.0.0 u3.0.0 u4.0.0 in
    let t : State = u4.0.1 in
    let registers : t.registers ≡ b.0.1.registers = ap (λ (w : State). w.registers) to_4.same in
    let scope_b : scope_of b.0.1 ≡ scope_of s = ap scope_of r.same in
    let less : length (after_first s.rest) < length s.rest = after_less s.rest k next in
    let below : s.statements < 4096 = begins.0 in
    let counted : t.statements ≡ suc s.statements = ap (λ (w : State). w.statements) to_4.same ∙ ap (λ (w : State). w.statements) r.same in
    let count : suc s.statements ≡ s.statements + 1 = omega arith in
    let shorter_b : length b.0.1.rest ≤ length (after_first s.rest) = r.shorter in
    let shorter_t : length t.rest ≤ length b.0.1.rest = to_4.shorter in
    let stands : (u : State) (e : Expression) → Moves b.0.1 u → expression_fits (scope_of u) e ≡ true → expression_fits (scope_of s) e ≡ true = λ u e m h. subst (λ (scope : Scope). expression_fits scope e ≡ true) (same_scope b.0.1 u m ∙ scope_b) h in
    subst (λ (p : Statement × State). Acts room s p.0 p.1) (ok_is (x, t) y u4.2) (record {
      same = to_4.same ∙ ap (λ (w : State). record w { rest = t.rest; tried = t.tried }) r.same ∙ ap (λ (rs : List Text). record s { rest = t.rest; registers = rs; statements = suc s.statements; tried = t.tried }) (sym registers) ∙ ap (λ (n : ℕ). record s { rest = t.rest; registers = t.registers; statements = n; tried = t.tried }) count;
      fit = λ h. to_4.fit (r.fit ((moved s).fit h));
      less = omega arith;
      few = λ h. omega arith;
      after = λ h.
          let h_b : AllFit b.0.1.rest = r.fit ((moved s).fit h) in
          ap (λ (holds : Bool). unless_broken holds (max (length s.registers) (suc b.0.0)))
          (both (nat_le b.0.0 (length s.registers)) _ (below_le b.0.0 (length s.registers) r.within)
          (both (expression_fits (scope_of s) u2.0.0) _ (stands u1.0.1 u2.0.0 to_1 (l2.fits (to_1.fit h_b)))
          (both (expression_fits (scope_of s) u3.0.0) _ (stands u2.0.1 u3.0.0 to_2 (l3.fits (to_2.fit h_b)))
          (stands u3.0.1 u4.0.0 to_3 (l4.fits (to_3.fit h_b))))))
          ∙ ap (λ (n : ℕ). Some n) (sym r.more ∙ ap (λ (rs : List Text). length rs) (sym registers));
      registers = λ h fits. subst (λ (rs : List Text). RegistersFit (limits_of s) rs) (sym registers) (r.registers ((moved s).fit h) fits);
      deep = three_deep _ _ _ room l2.deep l3.deep l4.deep;
    })

pub assignment_is : (room : ℕ) (s : State) (spot : Spot) (y : Statement × State) → assignment room spot s ≡ Ok y → Acts room s y.0 y.1
unfolding assignment
assignment_is room s spot y e =
    let v = then_ok (variable_here s) (λ place. begin >> (expect_sign sign.Equals >> (expression_at room >>= λ value. give (assign spot place value)))) y e in
    let here = variable_here_ok s v.0 v.1 in
    let rest : Reader Statement = expect_sign sign.Equals >> (expression_at room >>= λ value. give (assign spot v.0.0 value)) in
    let from_s : (begin >> rest) s ≡ Ok y = subst (λ (u : State). (begin >> rest) u ≡ Ok y) here.left v.2 in
    let a = then_ok (begin s) (λ _. rest) y from_s in
    let begins = begin_ok s a.0 a.1 in
    let at : rest (begun s) ≡ Ok y = subst (λ (u : State). rest u ≡ Ok y) begins.1 a.2 in
    let b = then_ok (expect_sign sign.Equals (begun s)) (λ _. expression_at room >>= λ value. give (assign spot v.0.0 value)) y at in
    let to_b : Moves (begun s) b.0.1 = expect_sign_ok sign.Equals (begun s) b.0 b.1 in
    let c = then_ok (expression_at room b.0.1) (λ value. give (assign spot v.0.0 value)) y b.2 in
    let read = expression_ok room b.0.1 c.0 c.1 in
    subst (λ (p : Statement × State). Acts room s p.0 p.1) (ok_is (assign spot v.0.0 c.0.0, c.0.1) y c.2)
    (acts room s (assign spot v.0.0 c.0.0) (kind.Name here.name) c.0.1 here.next begins.0 (then_moves (begun s) b.0.1 c.0.1 to_b read.moves)
    (λ h.
    let value_fits : expression_fits (scope_of s) c.0.0 ≡ true = subst (λ (scope : Scope). expression_fits scope c.0.0 ≡ true) (same_scope (begun s) b.0.1 to_b) (read.fits (to_b.fit ((moved s).fit h))) in
    ap (λ (holds : Bool). unless_broken holds (length s.registers)) (both _ _ (lt-ltb v.0.0 (length s.variables) here.within) value_fits))
    read.deep refl)

-- What an `if` leaves, where this is what a block leaves.

module _ (room : ℕ) (block : Reader (List Statement)) (block_is : (s : State) (y : List Statement × State) → block s ≡ Ok y → Body room s y.0 y.1) where
  else_is : (s : State) (j : TokenKind) (spot : Spot) (c : Condition) (b : State) (xs : List Statement) (u : State) (k : Option TokenKind) (y : Statement × State) → kind_of s.rest ≡ Some j → s.statements < 4096 → ReadsCondition room (begun s) c b → Body room (begun s) xs u → else_by block spot c xs k u ≡ Ok y → Acts room s y.0 y.1
  else_is s j spot c b xs u (Some (kind.Keyword word.Else)) y next below test body e =
      let t : State = past u in
      let m = then_ok (block t) (λ other. give (choose_else spot c (block_of xs) (block_of other))) y e in
      let other : Body room u m.0.0 m.0.1 = after_moves room u t m.0.0 m.0.1 (moved u) (block_is t m.0 m.1) in
      subst (λ (p : Statement × State). Acts room s p.0 p.1) (ok_is (choose_else spot c (block_of xs) (block_of m.0.0), m.0.1) y m.2)
      (holds_two room s j spot c xs u m.0.0 m.0.1 next below (λ h. test.fits ((moved s).fit h)) test.deep body other)
  else_is s j spot c b xs u _ y next below test body e =
      subst (λ (p : Statement × State). Acts room s p.0 p.1) (ok_is (choose spot c (block_of xs), missed (choice.Word word.Else) u) y e)
      (holds_one room s j spot c xs (missed (choice.Word word.Else) u) next below (λ h. test.fits ((moved s).fit h)) test.deep (before_moves room (begun s) xs u (missed (choice.Word word.Else) u) body (unmoved (choice.Word word.Else) u)))

  pub choice_is : (s : State) (j : TokenKind) (spot : Spot) (y : Statement × State) → kind_of s.rest ≡ Some j → if_statement room block spot s ≡ Ok y → Acts room s y.0 y.1
  unfolding if_statement
  choice_is s j spot y next e =
      let rest : Reader Statement = condition_at room >>= λ c. block >>= λ xs. peek >>= λ k. else_by block spot c xs k in
      let a = then_ok (begin s) (λ _. rest) y e in
      let begins = begin_ok s a.0 a.1 in
      let at : rest (begun s) ≡ Ok y = subst (λ (u : State). rest u ≡ Ok y) begins.1 a.2 in
      let b = then_ok (condition_at room (begun s)) (λ c. block >>= λ xs. peek >>= λ k. else_by block spot c xs k) y at in
      let test = condition_ok room (begun s) b.0 b.1 in
      let c = then_ok (block b.0.1) (λ xs. peek >>= λ k. else_by block spot b.0.0 xs k) y b.2 in
      let body : Body room (begun s) c.0.0 c.0.1 = after_moves room (begun s) b.0.1 c.0.0 c.0.1 test.moves (block_is b.0.1 c.0 c.1) in
      else_is s j spot b.0.0 b.0.1 c.0.0 c.0.1 (kind_of c.0.1.rest) y next begins.0 test body c.2

module _ (room : ℕ) (block : Reader (List Statement)) (block_is : (s : State) (y : List Statement × State) → block s ≡ Ok y → Body room s y.0 y.1) where
  nested_is : (s : State) (spot : Spot) (k : Option TokenKind) (y : Statement × State) → kind_of s.rest ≡ k → nested_by room block spot k s ≡ Ok y → Acts room s y.0 y.1
  nested_is s spot (Some (kind.Keyword word.If)) y next e = choice_is room block block_is s (kind.Keyword word.If) spot y next e
  nested_is s spot (Some (kind.Keyword word.For)) y next e = for_is room block block_is s (kind.Keyword word.For) spot y next e
  nested_is s spot (Some (kind.Keyword word.While)) y next e = while_is room block block_is s (kind.Keyword word.While) spot y next e
  nested_is s spot (Some (kind.Keyword word.Lock)) y next e = locking_is room block block_is s (kind.Keyword word.Lock) spot y next e
  nested_is s spot k y next e = transfer_is room s spot k y next e

  statement_is : (s : State) (spot : Spot) (k : Option TokenKind) (y : Statement × State) → kind_of s.rest ≡ k → statement_by room block spot k s ≡ Ok y → Acts room s y.0 y.1
  statement_is s spot (Some (kind.Name x)) y next e = acts_missed room s choice.Statement y.0 y.1 (assignment_is room (missed choice.Statement s) spot y e)
  statement_is s spot (Some (kind.Keyword word.Cdreg)) y next e = setting_is room s (kind.Keyword word.Cdreg) spot y next e
  statement_is s spot (Some (kind.Keyword word.Cfsa)) y next e = single_is room s (kind.Keyword word.Cfsa) Full spot y next e
  statement_is s spot (Some (kind.Keyword word.Cssa)) y next e = single_is room s (kind.Keyword word.Cssa) Short spot y next e
  statement_is s spot (Some (kind.Keyword word.Put)) y next e = put_is room s (kind.Keyword word.Put) spot y next e
  statement_is s spot k y next e = nested_is s spot k y next e

  pub statement_ok : (s : State) (y : Statement × State) → statement_with room block s ≡ Ok y → Acts room s y.0 y.1
  unfolding statement_with
  statement_ok s y e =
      let t : State = missed (choice.Mark sign.RightBrace) s in
      acts_missed room s (choice.Mark sign.RightBrace) y.0 y.1 (statement_is t (spot_of s.rest s.end_line) (kind_of s.rest) y refl e)

-- What the statements of a block leave, and the block.

-- ---- one statement more

some_same : {A : Type 0} (a b : A) → Some a ≡ Some b → a ≡ b
some_same a b e = cc

pub and_then_some : {A B : Type 0} (f : A → Option B) (o : Option A) (b : B) → option_and_then f o ≡ Some b → (a : A) × (o ≡ Some a) × (f a ≡ Some b)
and_then_some f None b e = absurd cc
and_then_some f (Some a) b e = (a, refl, e)

after_push : (c : Scope) (n : ℕ) (xs : List Statement) (x : Statement) (m k : ℕ) → after_block c n (block_of xs) ≡ Some m → after c m x ≡ Some k → after_block c n (block_of (xs ++ x ∷ [])) ≡ Some k
after_push c n [] x m k e h =
    let at : after c n x ≡ Some k = ap (λ (i : ℕ). after c i x) (some_same n m e) ∙ h in
    ap (option_and_then (λ (i : ℕ). Some i)) at
after_push c n (y ∷ ys) x m k e h =
    let first = and_then_some (λ (i : ℕ). after_block c i (block_of ys)) (after c n y) m e in
    ap (option_and_then (λ (i : ℕ). after_block c i (block_of (ys ++ x ∷ [])))) first.1 ∙ after_push c first.0 ys x m k first.2 h

depth_push : (qs : List Callable) (room : ℕ) (xs : List Statement) (x : Statement) → inner_depth qs (block_of xs) < suc room → statement_depth qs x ≤ room → inner_depth qs (block_of (xs ++ x ∷ [])) < suc room
depth_push qs room [] x e h = omega arith
depth_push qs room (y ∷ ys) x e h = let rest : inner_depth qs (block_of (ys ++ x ∷ [])) < suc room = depth_push qs room ys x (omega arith) h in omega arith

count_push : (xs : List Statement) (x : Statement) → statements (block_of (xs ++ x ∷ [])) ≡ statements (block_of xs) + statements_in x
count_push [] x = omega arith
count_push (y ∷ ys) x = let rest : statements (block_of (ys ++ x ∷ [])) ≡ statements (block_of ys) + statements_in x = count_push ys x in omega arith

no_body : (room : ℕ) (s : State) → Body (suc room) s [] s
no_body room s = record {
  same = ap (λ (n : ℕ). record s { statements = n }) (omega arith);
  fit = λ h. h;
  shorter = omega arith;
  few = λ h. h;
  after = λ h. refl;
  registers = λ h fits. fits;
  deep = omega arith;
}

longer_body : (room : ℕ) (s : State) (xs : List Statement) (u : State) (x : Statement) (t : State) → Body (suc room) s xs u → Acts room u x t → Body (suc room) s (xs ++ x ∷ []) t
longer_body room s xs u x t b a =
    let count : (s.statements + statements (block_of xs)) + statements_in x ≡ s.statements + statements (block_of (xs ++ x ∷ [])) = omega (arith, count_push xs x) in
    let callables : u.callables ≡ s.callables = ap (λ (w : State). w.callables) b.same in
    let scope : scope_of u ≡ scope_of s = ap scope_of b.same in
    let limits : limits_of u ≡ limits_of s = ap limits_of b.same in
    let less : length t.rest < length u.rest = a.less in
    let shorter : length u.rest ≤ length s.rest = b.shorter in
    record {
      same = a.same ∙ ap (λ (w : State). record w { rest = t.rest; registers = t.registers; statements = w.statements + statements_in x; tried = t.tried }) b.same ∙ ap (λ (n : ℕ). record s { rest = t.rest; registers = t.registers; statements = n; tried = t.tried }) count;
      fit = λ h. a.fit (b.fit h);
      shorter = omega arith;
      few = λ h. a.few (b.few h);
      after = λ h. after_push (scope_of s) (length s.registers) xs x (length u.registers) (length t.registers) (b.after h) (subst (λ (c : Scope). after c (length u.registers) x ≡ Some (length t.registers)) scope (a.after (b.fit h)));
      registers = λ h fits. subst (λ (limits : Limits). RegistersFit limits t.registers) limits (a.registers (b.fit h) (subst (λ (limits : Limits). RegistersFit limits u.registers) (sym limits) (b.registers h fits)));
      deep = depth_push s.callables room xs x b.deep (subst (λ (qs : List Callable). statement_depth qs x ≤ room) callables a.deep);
    }

module _ (room : ℕ) (block : Reader (List Statement)) (block_is : (s : State) (y : List Statement × State) → block s ≡ Ok y → Body room s y.0 y.1) where
  pub with_progress : Progresses is_no_end (one_more (statement_with room block))
  with_progress xs s y s' on took =
      let m = then_ok (statement_with room block s) (λ x. give (xs ++ x ∷ [])) (y, s') took in
      subst (λ (p : List Statement × State). length p.1.rest < length s.rest) (ok_is (xs ++ m.0.0 ∷ [], m.0.1) (y, s') m.2) (statement_ok room block block_is s m.0 m.1).less

  body_turn : (s : State) (xs : List Statement) (u : State) (ys : List Statement) (t : State) → Body (suc room) s xs u → one_more (statement_with room block) xs u ≡ Ok (ys, t) → Body (suc room) s ys t
  body_turn s xs u ys t b e =
      let m = then_ok (statement_with room block u) (λ x. give (xs ++ x ∷ [])) (ys, t) e in
      subst (λ (p : List Statement × State). Body (suc room) s p.0 p.1) (ok_is (xs ++ m.0.0 ∷ [], m.0.1) (ys, t) m.2) (longer_body room s xs u m.0.0 m.0.1 b (statement_ok room block block_is u m.0 m.1))

  pub body_ok : (s : State) (y : List Statement × State) → many is_no_end (statement_with room block) s ≡ Ok y → Body (suc room) s y.0 y.1
  unfolding many
  body_ok s y e = while_keeps (λ (xs : List Statement) (u : State). Body (suc room) s xs u) is_no_end (one_more (statement_with room block)) (λ xs u ys t b on took. body_turn s xs u ys t b took) [] s y (no_body room s) e

-- ---- a body in its braces

no_room : (b : Bool) (s : State) (y : List Statement × State) → cond b (fail (text_case.Limit limit.Depth)) (unexpected (choice.Mark sign.LeftBrace)) s ≡ Ok y → ⊥
no_room true s y e = err_no_ok _ _ e
no_room false s y e = err_no_ok _ _ e

pub block_ok : (room : ℕ) (s : State) (y : List Statement × State) → block_at room s ≡ Ok y → Body room s y.0 y.1
unfolding block_at
block_ok zero s y e = absurd (no_room (is_sign sign.LeftBrace (kind_of s.rest)) s y e)
block_ok (suc room) s y e =
    let a = then_ok (expect_sign sign.LeftBrace s) _ y e in
    let b = then_ok (many is_no_end (statement_with room (block_at room)) a.0.1) _ y a.2 in
    let c = then_ok (expect_sign sign.RightBrace b.0.1) _ y b.2 in
    let opened = expect_sign_ok sign.LeftBrace s a.0 a.1 in
    let body = body_ok room (block_at room) (block_ok room) a.0.1 b.0 b.1 in
    let closed = expect_sign_ok sign.RightBrace b.0.1 c.0 c.1 in
    subst (λ (p : List Statement × State). Body (suc room) s p.0 p.1) (ok_is (b.0.0, c.0.1) y c.2)
    (before_moves (suc room) s b.0.0 b.0.1 c.0.1 (after_moves (suc room) s a.0.1 b.0.0 b.0.1 opened body) closed)

-- the statements of a block
pub statements_progress : (room : ℕ) → Progresses is_no_end (one_more (statement_with room (block_at room)))
statements_progress room = with_progress room (block_at room) (block_ok room)
