-- What a statement that is read leaves, and which rules it keeps.
use Rattle.std.proofs.Common.{◌≡◌, ℕ, suc, ◌+◌, ◌≤◌, ◌<◌, nat_lt, List, length, Some, Ok, sym, ap, subst, ◌∙◌, arith}
use Rattle.std.proofs.lemmas.Bool.{ltb-true}
use Rattle.camac_lang.specs.Depth.{statement_depth}
use Rattle.camac_lang.specs.Statements.{after, statements_in}
use Rattle.camac_lang.specs.Tree.{Text, Statement}
use Rattle.camac_tokens.specs.declared.fault.Limit.TheVariants as limit
use Rattle.camac_tokens.specs.declared.fault.TextCase.TheVariants as text_case
use Rattle.camac_tokens.specs.declared.token.TokenKind.{TokenKind}
use Rattle.camac_text_cursor.specs.declared.choice.Choice.{Choice}
use Rattle.camac_text_cursor.specs.Reading.{State, ◌>>◌, change, advance, kind_of, after_first, missed, past}
use Rattle.camac_text_cursor.specs.Readers.{begin}
use Rattle.camac_text_cursor.proofs.Steps.{ok_is}
use Rattle.camac_text_cursor.proofs.Moves.{AllFit, Moves, after_less, moved, check_ok}
use Rattle.camac_text_cursor.proofs.Registers.{limits_of, RegistersFit}
use Rattle.camac_text_cursor.proofs.Uses.{scope_of}

-- the state after the first token of a statement
abbrev pub begun : State → State
begun s = record (past s) { statements = suc s.statements }

pub begin_ok : (s : State) (y : Unit {0} × State) → begin s ≡ Ok y → (s.statements < 4096) × (y.1 ≡ begun s)
unfolding begin
begin_ok s y e =
    let c = check_ok (nat_lt s.statements 4096) (text_case.Limit limit.Statements) (change (λ u. record u { statements = suc u.statements }) >> advance) s y e in
    (ltb-true s.statements 4096 c.0, sym (ap (λ (p : Unit {0} × State). p.1) (ok_is (tt, begun s) y c.1)))

-- a statement is read, where so many brackets and braces may be open
pub record Acts (room : ℕ) (s : State) (x : Statement) (s' : State) : Type 0 where
  pub same : s' ≡ record s { rest = s'.rest; registers = s'.registers; statements = s.statements + statements_in x; tried = s'.tried }
  pub fit : AllFit s.rest → AllFit s'.rest
  pub less : length s'.rest < length s.rest
  pub few : s.statements ≤ 4096 → s'.statements ≤ 4096
  pub after : AllFit s.rest → after (scope_of s) (length s.registers) x ≡ Some (length s'.registers)
  pub registers : AllFit s.rest → RegistersFit (limits_of s) s.registers → RegistersFit (limits_of s) s'.registers
  pub deep : statement_depth s.callables x ≤ room

-- one that sets no register
pub acts : (room : ℕ) (s : State) (x : Statement) (k : TokenKind) (t : State) → kind_of s.rest ≡ Some k → s.statements < 4096 → Moves (begun s) t → (AllFit s.rest → after (scope_of s) (length s.registers) x ≡ Some (length s.registers)) → statement_depth s.callables x ≤ room → statements_in x ≡ 1 → Acts room s x t
acts room s x k t next below m rule deep one =
    let registers : t.registers ≡ s.registers = ap (λ (w : State). w.registers) m.same in
    let counted : t.statements ≡ suc s.statements = ap (λ (w : State). w.statements) m.same in
    let count : suc s.statements ≡ s.statements + statements_in x = omega (arith, one) in
    let less : length (after_first s.rest) < length s.rest = after_less s.rest k next in
    let shorter : length t.rest ≤ length (after_first s.rest) = m.shorter in
    record {
      same = m.same ∙ ap (λ (rs : List Text). record s { rest = t.rest; registers = rs; statements = suc s.statements; tried = t.tried }) (sym registers) ∙ ap (λ (n : ℕ). record s { rest = t.rest; registers = t.registers; statements = n; tried = t.tried }) count;
      fit = λ h. m.fit ((moved s).fit h);
      less = omega arith;
      few = λ h. omega arith;
      after = λ h. rule h ∙ ap (λ (rs : List Text). Some (length rs)) (sym registers);
      registers = λ h fits. subst (λ (rs : List Text). RegistersFit (limits_of s) rs) (sym registers) fits;
      deep = deep;
    }

-- one before which something else was looked for
pub acts_missed : (room : ℕ) (s : State) (c : Choice) (x : Statement) (t : State) → Acts room (missed c s) x t → Acts room s x t
acts_missed room s c x t a = record { same = a.same; fit = a.fit; less = a.less; few = a.few; after = a.after; registers = a.registers; deep = a.deep }
