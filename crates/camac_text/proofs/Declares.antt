-- What a declaration that is read leaves.
use Rattle.std.proofs.Common.{◌≡◌, ℕ, ◌+◌, ◌≤◌, ◌<◌, true, nat_lt, List, length, Option, Some, Ok, refl, sym, ap, subst, arith}
use Rattle.std.proofs.lemmas.Bool.{ltb-true}
use Rattle.camac_lang.specs.Tests.{is_name, is_new, is_number, is_sub_address}
use Rattle.camac_lang.specs.Tree.{Statement, Lam}
use Rattle.camac_tokens.specs.declared.fault.Limit.TheVariants as limit
use Rattle.camac_tokens.specs.declared.fault.TextCase.TheVariants as text_case
use Rattle.camac_tokens.specs.declared.token.Keyword.TheVariants as word
use Rattle.camac_tokens.specs.declared.token.TokenKind.{TokenKind}
use Rattle.camac_tokens.specs.declared.token.TokenKind.TheVariants as kind
use Rattle.camac_text_cursor.specs.declared.choice.Choice.TheVariants as choice
use Rattle.camac_text_cursor.specs.Reading.{State, give, change, kind_of, spot_of, after_first, past, until, missed}
use Rattle.camac_text_cursor.specs.Readers.{new_name, new_variable, is_name as next_is_name, expect, any_number, branch_number, sub_address_number, used_lam}
use Rattle.camac_text_cursor.specs.Declaring.{with_lam, with_variables_of, with_service}
use Rattle.camac_text_statements.specs.Statements.{block_at}
use Rattle.camac_text.specs.Declarations.{lam_declaration, one_more_variable, variable_declaration, service_declaration, declaration_by, declaration_at, is_token}
use Rattle.camac_text_cursor.proofs.Steps.{then_ok, ok_is, err_no_ok, Progresses, until_keeps}
use Rattle.camac_text_cursor.proofs.Moves.{unmoved, AllFit, Moves, kind_fit, after_less, stays, moved, then_moves, one_moves, check_ok, any_number_ok, branch_ok, sub_address_ok, expect_ok, new_name_ok}
use Rattle.camac_text_cursor.proofs.Uses.{used_lam_ok}
use Rattle.camac_text_cursor.proofs.Registers.{below_le}
use Rattle.camac_text_statements.proofs.Blocks.{Body, after_moves}
use Rattle.camac_text_statements.proofs.Bodies.{block_ok}
use Rattle.camac_text.proofs.Variables.{DeclaresVariables, names_then_moves, new_variable_ok, no_variables, one_variable_more, variables_turn}
use Rattle.camac_text.proofs.ParametersRead.{ProcedureDeclaration, procedure_is}
use Rattle.camac_text.proofs.TablesRead.{TableDeclaration, table_is}
use Rattle.camac_lang.specs.declared.spot.Spot.{Spot}

-- ---- declarations

-- variables are declared, of which there is one at least
pub record VariableDeclaration (s s' : State) : Type 0 where
  pub spot : Spot
  pub count : ℕ
  pub between : State
  pub variables : DeclaresVariables s count between
  pub some : 1 ≤ count
  pub left : s' ≡ with_variables_of spot count between
  pub less : length s'.rest < length s.rest

at_least : (s : State) (n : ℕ) (u : State) → 1 ≤ n → (y : ℕ × State) → DeclaresVariables s n u → until choice.Name next_is_name one_more_variable n u ≡ Ok y → DeclaresVariables s y.0 y.1 × (1 ≤ y.0)
at_least s n u some y d e =
    until_keeps (λ (m : ℕ) (t : State). DeclaresVariables s m t × (1 ≤ m)) choice.Name (λ m t both. (record { names = both.0.names; counted = both.0.counted; declares = names_then_moves s both.0.names t (missed choice.Name t) both.0.declares (unmoved choice.Name t) }, both.1)) next_is_name one_more_variable (λ m t k v both on took.
    let a = then_ok (new_variable t) (λ _. give (m + 1)) (k, v) took in
    (variables_turn s m t k v both.0 took, subst (λ (p : ℕ × State). 1 ≤ p.0) (ok_is (m + 1, a.0.1) (k, v) a.2) (let h : 1 ≤ m + 1 = omega arith in h))) n u y (d, some) e

variables_is : (s : State) (k : TokenKind) (spot : Spot) (y : Unit {0} × State) → kind_of s.rest ≡ Some k → variable_declaration spot s ≡ Ok y → VariableDeclaration s y.1
unfolding variable_declaration
variables_is s k spot y next e =
    let t : State = past s in
    let a = then_ok (new_variable t) _ y e in
    let first = new_variable_ok t a.0 a.1 in
    let one : DeclaresVariables t 1 a.0.1 = one_variable_more t 0 t first.0 a.0.1 (no_variables t) first.1 in
    let b = then_ok (until choice.Name next_is_name one_more_variable 1 a.0.1) (λ count. change (with_variables_of spot count)) y a.2 in
    let all = at_least t 1 a.0.1 (omega arith) b.0 one b.1 in
    let d = all.0 in
    let left : y.1 ≡ with_variables_of spot b.0.0 b.0.1 = sym (ap (λ (p : Unit {0} × State). p.1) (ok_is (tt, with_variables_of spot b.0.0 b.0.1) y b.2)) in
    let less : length (after_first s.rest) < length s.rest = after_less s.rest k next in
    let shorter : length b.0.1.rest ≤ length (after_first s.rest) = d.declares.shorter in
    record {
      spot = spot;
      count = b.0.0;
      between = b.0.1;
      variables = record {
        names = d.names;
        counted = d.counted;
        declares = record {
          same = d.declares.same;
          fit = λ h. d.declares.fit ((moved s).fit h);
          shorter = omega arith;
          few = d.declares.few;
          new = λ h. d.declares.new ((moved s).fit h);
        };
      };
      some = all.1;
      left = left;
      less = subst (λ (u : State). length u.rest < length s.rest) (sym left) (let h : length b.0.1.rest < length s.rest = omega arith in h);
    }

-- a LAM is declared
pub record LamDeclaration (s s' : State) : Type 0 where
  pub lam : Lam
  pub between : State
  pub moves : Moves s between
  pub room : length s.lams < 64
  pub free : is_new lam.name s.declared ≡ true
  pub named : AllFit s.rest → is_name lam.name ≡ true
  pub crate_fits : AllFit s.rest → is_number lam.crate_no ≡ true
  pub station_fits : AllFit s.rest → is_number lam.station ≡ true
  pub sub_address_fits : is_sub_address lam.sub_address ≡ true
  pub left : s' ≡ with_lam lam between
  pub less : length s'.rest < length s.rest

lam_is : (s : State) (k : TokenKind) (spot : Spot) (y : Unit {0} × State) → kind_of s.rest ≡ Some k → lam_declaration spot s ≡ Ok y → LamDeclaration s y.1
unfolding lam_declaration
lam_is s k spot y next e =
    let t : State = past s in
    let c0 = check_ok (nat_lt (length s.lams) 64) (text_case.Limit limit.Lams) _ s y e in
    let a = then_ok (new_name t) _ y c0.1 in
    let h = new_name_ok t a.0 a.1 in
    let u : State = past a.0.1 in
    let b = then_ok (branch_number u) _ y a.2 in
    let branch = branch_ok u b.0 b.1 in
    let c = then_ok (any_number b.0.1) _ y b.2 in
    let crate_no = any_number_ok b.0.1 c.0 c.1 in
    let d = then_ok (any_number c.0.1) _ y c.2 in
    let station = any_number_ok c.0.1 d.0 d.1 in
    let f = then_ok (sub_address_number d.0.1) _ y d.2 in
    let sub_address = sub_address_ok d.0.1 f.0 f.1 in
    let l : Lam = record { spot = spot; name = a.0.0; crate_no = c.0.0; station = d.0.0; sub_address = f.0.0 } in
    let to_a : Moves s a.0.1 = subst (λ (w : State). Moves s w) (sym h.left) (moved s) in
    let to_b : Moves s b.0.1 = then_moves s u b.0.1 (then_moves s a.0.1 u to_a (moved a.0.1)) (one_moves u (kind.Number branch.0) b.0.1 branch.1) in
    let to_c : Moves s c.0.1 = then_moves s b.0.1 c.0.1 to_b (one_moves b.0.1 (kind.Number c.0.0) c.0.1 crate_no) in
    let to_d : Moves s d.0.1 = then_moves s c.0.1 d.0.1 to_c (one_moves c.0.1 (kind.Number d.0.0) d.0.1 station) in
    let from_t : Moves t f.0.1 = then_moves t a.0.1 f.0.1 (subst (λ (w : State). Moves t w) (sym h.left) (stays t)) (then_moves a.0.1 u f.0.1 (moved a.0.1) (then_moves u b.0.1 f.0.1 (one_moves u (kind.Number branch.0) b.0.1 branch.1) (then_moves b.0.1 c.0.1 f.0.1 (one_moves b.0.1 (kind.Number c.0.0) c.0.1 crate_no) (then_moves c.0.1 d.0.1 f.0.1 (one_moves c.0.1 (kind.Number d.0.0) d.0.1 station) (one_moves d.0.1 (kind.Number f.0.0) f.0.1 sub_address.one))))) in
    let left : y.1 ≡ with_lam l f.0.1 = sym (ap (λ (p : Unit {0} × State). p.1) (ok_is (tt, with_lam l f.0.1) y f.2)) in
    let less : length (after_first s.rest) < length s.rest = after_less s.rest k next in
    let shorter : length f.0.1.rest ≤ length (after_first s.rest) = from_t.shorter in
    record {
      lam = l;
      between = f.0.1;
      moves = then_moves s t f.0.1 (moved s) from_t;
      room = ltb-true (length s.lams) 64 c0.0;
      free = h.free;
      named = λ fits. kind_fit t.rest (kind.Name a.0.0) h.next ((moved s).fit fits);
      crate_fits = λ fits. kind_fit b.0.1.rest (kind.Number c.0.0) crate_no.next (to_b.fit fits);
      station_fits = λ fits. kind_fit c.0.1.rest (kind.Number d.0.0) station.next (to_c.fit fits);
      sub_address_fits = below_le f.0.0 15 (let below : f.0.0 < 16 = ltb-true f.0.0 16 sub_address.below in omega arith);
      left = left;
      less = subst (λ (w : State). length w.rest < length s.rest) (sym left) (let h : length f.0.1.rest < length s.rest = omega arith in h);
    }

-- a service is declared
pub record ServiceDeclaration (s s' : State) : Type 0 where
  pub spot : Spot
  pub lam : ℕ
  pub cycles : ℕ
  pub words : ℕ
  pub statements : List Statement
  pub between : State
  pub body : Body 16 s statements between
  pub room : length s.services < 24
  pub lam_fits : lam < length s.lams
  pub cycles_fit : AllFit s.rest → is_number cycles ≡ true
  pub words_fit : AllFit s.rest → is_number words ≡ true
  pub left : s' ≡ with_service spot lam cycles words statements between
  pub less : length s'.rest < length s.rest

service_is : (s : State) (k : TokenKind) (spot : Spot) (y : Unit {0} × State) → kind_of s.rest ≡ Some k → service_declaration spot s ≡ Ok y → ServiceDeclaration s y.1
unfolding service_declaration
service_is s k spot y next e =
    let t : State = past s in
    let c0 = check_ok (nat_lt (length s.services) 24) (text_case.Limit limit.Services) _ s y e in
    let a = then_ok (used_lam t) _ y c0.1 in
    let lam = used_lam_ok t a.0 a.1 in
    let b = then_ok (expect word.Within a.0.1) _ y a.2 in
    let c = then_ok (any_number b.0.1) _ y b.2 in
    let cycles = any_number_ok b.0.1 c.0 c.1 in
    let d = then_ok (expect word.Cycles c.0.1) _ y c.2 in
    let f = then_ok (expect word.Event d.0.1) _ y d.2 in
    let g = then_ok (any_number f.0.1) _ y f.2 in
    let words = any_number_ok f.0.1 g.0 g.1 in
    let h = then_ok (expect word.Words g.0.1) _ y g.2 in
    let i = then_ok (block_at 16 h.0.1) _ y h.2 in
    let body = block_ok 16 h.0.1 i.0 i.1 in
    let to_b : Moves t b.0.1 = then_moves t a.0.1 b.0.1 lam.1 (expect_ok word.Within a.0.1 b.0 b.1) in
    let to_c : Moves t c.0.1 = then_moves t b.0.1 c.0.1 to_b (one_moves b.0.1 (kind.Number c.0.0) c.0.1 cycles) in
    let to_d : Moves t d.0.1 = then_moves t c.0.1 d.0.1 to_c (expect_ok word.Cycles c.0.1 d.0 d.1) in
    let to_f : Moves t f.0.1 = then_moves t d.0.1 f.0.1 to_d (expect_ok word.Event d.0.1 f.0 f.1) in
    let to_g : Moves t g.0.1 = then_moves t f.0.1 g.0.1 to_f (one_moves f.0.1 (kind.Number g.0.0) g.0.1 words) in
    let to_h : Moves t h.0.1 = then_moves t g.0.1 h.0.1 to_g (expect_ok word.Words g.0.1 h.0 h.1) in
    let inner : Body 16 t i.0.0 i.0.1 = after_moves 16 t h.0.1 i.0.0 i.0.1 to_h body in
    let left : y.1 ≡ with_service spot a.0.0 c.0.0 g.0.0 i.0.0 i.0.1 = sym (ap (λ (p : Unit {0} × State). p.1) (ok_is (tt, with_service spot a.0.0 c.0.0 g.0.0 i.0.0 i.0.1) y i.2)) in
    let less : length (after_first s.rest) < length s.rest = after_less s.rest k next in
    let shorter : length i.0.1.rest ≤ length (after_first s.rest) = inner.shorter in
    record {
      spot = spot;
      lam = a.0.0;
      cycles = c.0.0;
      words = g.0.0;
      statements = i.0.0;
      between = i.0.1;
      body = after_moves 16 s t i.0.0 i.0.1 (moved s) inner;
      room = ltb-true (length s.services) 24 c0.0;
      lam_fits = lam.0;
      cycles_fit = λ fits. kind_fit b.0.1.rest (kind.Number c.0.0) cycles.next (to_b.fit ((moved s).fit fits));
      words_fit = λ fits. kind_fit f.0.1.rest (kind.Number g.0.0) words.next (to_f.fit ((moved s).fit fits));
      left = left;
      less = subst (λ (w : State). length w.rest < length s.rest) (sym left) (let h : length i.0.1.rest < length s.rest = omega arith in h);
    }

pub data Declares (s s' : State) : Type 0 where
  a_procedure : ProcedureDeclaration s s' → Declares s s'
  a_table : TableDeclaration s s' → Declares s s'
  a_lam : LamDeclaration s s' → Declares s s'
  some_variables : VariableDeclaration s s' → Declares s s'
  a_service : ServiceDeclaration s s' → Declares s s'

declaration_is : (s : State) (spot : Spot) (k : Option TokenKind) (y : Unit {0} × State) → kind_of s.rest ≡ k → declaration_by spot k s ≡ Ok y → Declares s y.1
declaration_is s spot (Some (kind.Keyword word.Table)) y next e = a_table (table_is s (kind.Keyword word.Table) spot y next e)
declaration_is s spot (Some (kind.Keyword word.Proc)) y next e = a_procedure (procedure_is s (kind.Keyword word.Proc) spot y next e)
declaration_is s spot (Some (kind.Keyword word.Cdlam)) y next e = a_lam (lam_is s (kind.Keyword word.Cdlam) spot y next e)
declaration_is s spot (Some (kind.Keyword word.Var)) y next e = some_variables (variables_is s (kind.Keyword word.Var) spot y next e)
declaration_is s spot (Some (kind.Keyword word.Service)) y next e = a_service (service_is s (kind.Keyword word.Service) spot y next e)
declaration_is s spot _ y next e = absurd (err_no_ok _ _ e)

pub declaration_ok : (s : State) (y : Unit {0} × State) → declaration_at s ≡ Ok y → Declares s y.1
unfolding declaration_at
declaration_ok s y e = declaration_is s (spot_of s.rest s.end_line) (kind_of s.rest) y refl e

declares_less : (s s' : State) → Declares s s' → length s'.rest < length s.rest
declares_less s s' (a_procedure d) = d.less
declares_less s s' (a_table d) = d.less
declares_less s s' (a_lam d) = d.less
declares_less s s' (some_variables d) = d.less
declares_less s s' (a_service d) = d.less

pub declaration_less : (s : State) (y : Unit {0} × State) → declaration_at s ≡ Ok y → length y.1.rest < length s.rest
declaration_less s y e = declares_less s y.1 (declaration_ok s y e)

pub declarations_progress : Progresses is_token (λ _. declaration_at)
declarations_progress x s y s' on took = declaration_less s (y, s') took
