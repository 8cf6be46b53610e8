-- What a block that is read leaves, and a statement that holds blocks.
use Rattle.std.proofs.Common.{◌≡◌, ℕ, suc, ◌+◌, ◌≤◌, ◌<◌, Bool, true, List, length, Some, refl, sym, ap, subst, ◌∙◌, arith}
use Rattle.std.specs.Prelude.{option_and_then}
use Rattle.camac_lang.specs.Depth.{part_depth, statement_depth, inner_depth}
use Rattle.camac_lang.specs.Expressions.{Callable, Scope, condition_fits}
use Rattle.camac_lang.specs.Statements.{after, after_block, statements_in, statements}
use Rattle.camac_lang.specs.Tests.{most, unless_broken}
use Rattle.camac_lang.specs.Tree.{Text, Statement, choose, choose_else, Condition}
use Rattle.camac_lang.specs.View.{block_of}
use Rattle.camac_tokens.specs.declared.token.TokenKind.{TokenKind}
use Rattle.camac_text_cursor.specs.Reading.{State, kind_of, after_first}
use Rattle.camac_text_cursor.proofs.Moves.{AllFit, Moves, after_less, moved}
use Rattle.camac_text_cursor.proofs.Uses.{scope_of}
use Rattle.camac_text_cursor.proofs.Registers.{Limits, limits_of, RegistersFit}
use Rattle.camac_text_statements.proofs.Acts.{begun, Acts}
use Rattle.camac_lang.specs.declared.spot.Spot.{Spot}

-- statements are read, where so many braces may be open, their own too
pub record Body (room : ℕ) (s : State) (xs : List Statement) (s' : State) : Type 0 where
  pub same : s' ≡ record s { rest = s'.rest; registers = s'.registers; statements = s.statements + statements (block_of xs); tried = s'.tried }
  pub fit : AllFit s.rest → AllFit s'.rest
  pub shorter : length s'.rest ≤ length s.rest
  pub few : s.statements ≤ 4096 → s'.statements ≤ 4096
  pub after : AllFit s.rest → after_block (scope_of s) (length s.registers) (block_of xs) ≡ Some (length s'.registers)
  pub registers : AllFit s.rest → RegistersFit (limits_of s) s.registers → RegistersFit (limits_of s) s'.registers
  pub deep : inner_depth s.callables (block_of xs) < room

pub after_moves : (room : ℕ) (s t : State) (xs : List Statement) (u : State) → Moves s t → Body room t xs u → Body room s xs u
after_moves room s t xs u m b =
    let scope : scope_of t ≡ scope_of s = ap scope_of m.same in
    let registers : t.registers ≡ s.registers = ap (λ (w : State). w.registers) m.same in
    let limits : limits_of t ≡ limits_of s = ap limits_of m.same in
    let callables : t.callables ≡ s.callables = ap (λ (w : State). w.callables) m.same in
    let counted : t.statements ≡ s.statements = ap (λ (w : State). w.statements) m.same in
    let shorter_t : length t.rest ≤ length s.rest = m.shorter in
    let shorter_u : length u.rest ≤ length t.rest = b.shorter in
    record {
      same = b.same ∙ ap (λ (w : State). record w { rest = u.rest; registers = u.registers; statements = w.statements + statements (block_of xs); tried = u.tried }) m.same;
      fit = λ h. b.fit (m.fit h);
      shorter = omega arith;
      few = λ h. b.few (omega arith);
      after = λ h. subst (λ (c : Scope). after_block c (length s.registers) (block_of xs) ≡ Some (length u.registers)) scope (subst (λ (rs : List Text). after_block (scope_of t) (length rs) (block_of xs) ≡ Some (length u.registers)) registers (b.after (m.fit h)));
      registers = λ h fits. subst (λ (limits : Limits). RegistersFit limits u.registers) limits (b.registers (m.fit h) (subst (λ (limits : Limits). RegistersFit limits t.registers) (sym limits) (subst (λ (rs : List Text). RegistersFit (limits_of s) rs) (sym registers) fits)));
      deep = subst (λ (qs : List Callable). inner_depth qs (block_of xs) < room) callables b.deep;
    }

pub before_moves : (room : ℕ) (s : State) (xs : List Statement) (t u : State) → Body room s xs t → Moves t u → Body room s xs u
before_moves room s xs t u b m =
    let registers : u.registers ≡ t.registers = ap (λ (w : State). w.registers) m.same in
    let counted : u.statements ≡ t.statements = ap (λ (w : State). w.statements) m.same in
    let shorter_t : length t.rest ≤ length s.rest = b.shorter in
    let shorter_u : length u.rest ≤ length t.rest = m.shorter in
    record {
      same = m.same ∙ ap (λ (w : State). record w { rest = u.rest; tried = u.tried }) b.same ∙ ap (λ (rs : List Text). record s { rest = u.rest; registers = rs; statements = s.statements + statements (block_of xs); tried = u.tried }) (sym registers);
      fit = λ h. m.fit (b.fit h);
      shorter = omega arith;
      few = λ h. let few : t.statements ≤ 4096 = b.few h in omega arith;
      after = λ h. b.after h ∙ ap (λ (rs : List Text). Some (length rs)) (sym registers);
      registers = λ h fits. subst (λ (rs : List Text). RegistersFit (limits_of s) rs) (sym registers) (b.registers h fits);
      deep = b.deep;
    }

-- ---- statements that hold blocks

-- after what tells how it runs, a block
pub holds_block : (room : ℕ) (s : State) (k : TokenKind) (x : Statement) (xs : List Statement) (u : State) → kind_of s.rest ≡ Some k → s.statements < 4096 → (AllFit s.rest → after (scope_of s) (length s.registers) x ≡ after_block (scope_of s) (length s.registers) (block_of xs)) → statements_in x ≡ suc (statements (block_of xs)) → statement_depth s.callables x ≤ room → Body room (begun s) xs u → Acts room s x u
holds_block room s k x xs u next below rule one deep b =
    let count : suc s.statements + statements (block_of xs) ≡ s.statements + statements_in x = omega (arith, one) in
    let less : length (after_first s.rest) < length s.rest = after_less s.rest k next in
    let shorter : length u.rest ≤ length (after_first s.rest) = b.shorter in
    record {
      same = b.same ∙ ap (λ (n : ℕ). record s { rest = u.rest; registers = u.registers; statements = n; tried = u.tried }) count;
      fit = λ h. b.fit ((moved s).fit h);
      less = omega arith;
      few = λ h. b.few (omega arith);
      after = λ h. rule h ∙ b.after ((moved s).fit h);
      registers = λ h fits. b.registers ((moved s).fit h) fits;
      deep = deep;
    }

-- after a condition, a block
pub holds_one : (room : ℕ) (s : State) (k : TokenKind) (spot : Spot) (c : Condition) (xs : List Statement) (u : State) → kind_of s.rest ≡ Some k → s.statements < 4096 → (AllFit s.rest → condition_fits (scope_of s) c ≡ true) → most part_depth c ≤ room → Body room (begun s) xs u → Acts room s (choose spot c (block_of xs)) u
holds_one room s k spot c xs u next below rule deep b =
    let inner : inner_depth s.callables (block_of xs) < room = b.deep in
    holds_block room s k (choose spot c (block_of xs)) xs u next below
    (λ h. ap (λ (holds : Bool). option_and_then (λ (n : ℕ). after_block (scope_of s) n (block_of xs)) (unless_broken holds (length s.registers))) (rule h))
    refl (omega arith) b

-- and another one after `else`
pub holds_two : (room : ℕ) (s : State) (k : TokenKind) (spot : Spot) (c : Condition) (xs : List Statement) (u : State) (ys : List Statement) (t : State) → kind_of s.rest ≡ Some k → s.statements < 4096 → (AllFit s.rest → condition_fits (scope_of s) c ≡ true) → most part_depth c ≤ room → Body room (begun s) xs u → Body room u ys t → Acts room s (choose_else spot c (block_of xs) (block_of ys)) t
holds_two room s k spot c xs u ys t next below rule deep a b =
    let count : (suc s.statements + statements (block_of xs)) + statements (block_of ys) ≡ s.statements + suc (statements (block_of xs) + statements (block_of ys)) = omega arith in
    let less : length (after_first s.rest) < length s.rest = after_less s.rest k next in
    let shorter_u : length u.rest ≤ length (after_first s.rest) = a.shorter in
    let shorter_t : length t.rest ≤ length u.rest = b.shorter in
    let inner_a : inner_depth s.callables (block_of xs) < room = a.deep in
    let callables : u.callables ≡ s.callables = ap (λ (w : State). w.callables) a.same in
    let inner_b : inner_depth s.callables (block_of ys) < room = subst (λ (qs : List Callable). inner_depth qs (block_of ys) < room) callables b.deep in
    let scope : scope_of u ≡ scope_of s = ap scope_of a.same in
    let limits : limits_of u ≡ limits_of s = ap limits_of a.same in
    record {
      same = b.same ∙ ap (λ (w : State). record w { rest = t.rest; registers = t.registers; statements = w.statements + statements (block_of ys); tried = t.tried }) a.same ∙ ap (λ (n : ℕ). record s { rest = t.rest; registers = t.registers; statements = n; tried = t.tried }) count;
      fit = λ h. b.fit (a.fit ((moved s).fit h));
      less = omega arith;
      few = λ h. b.few (a.few (omega arith));
      after = λ h.
          let h_s : AllFit (after_first s.rest) = (moved s).fit h in
          ap (λ (holds : Bool). option_and_then (λ (n : ℕ). after_block (scope_of s) n (block_of ys)) (option_and_then (λ (n : ℕ). after_block (scope_of s) n (block_of xs)) (unless_broken holds (length s.registers)))) (rule h)
          ∙ ap (option_and_then (λ (n : ℕ). after_block (scope_of s) n (block_of ys))) (a.after h_s)
          ∙ subst (λ (sc : Scope). after_block sc (length u.registers) (block_of ys) ≡ Some (length t.registers)) scope (b.after (a.fit h_s));
      registers = λ h fits.
          let h_s : AllFit (after_first s.rest) = (moved s).fit h in
          subst (λ (limits : Limits). RegistersFit limits t.registers) limits (b.registers (a.fit h_s) (subst (λ (limits : Limits). RegistersFit limits u.registers) (sym limits) (a.registers h_s fits)));
      deep = omega arith;
    }
