-- What transfers and calls leave.
use Rattle.std.proofs.Common.{◌≡◌, ℕ, suc, ◌≤◌, ◌<◌, Bool, true, nat_lt, nat_eq, max, length, Option, Some, None, Ok, refl, sym, ap, subst, ◌∙◌, arith, false, cond}
use Rattle.std.specs.Prelude.{slice_get}
use Rattle.std.proofs.lemmas.Bool.{lt-ltb, ltb-true}
use Rattle.camac_lang.specs.Depth.{expression_depth, depth_of}
use Rattle.camac_lang.specs.Expressions.{Callable, Scope, expression_fits}
use Rattle.camac_lang.specs.Statements.{table_fits}
use Rattle.camac_lang.specs.Tests.{each, has, most, is_function, unless_broken}
use Rattle.camac_lang.specs.Tree.{Expression, Statement, address_scan, q_stop, q_repeat, call, crate_call, lam_call}
use Rattle.camac_tokens.specs.declared.token.Keyword.{Keyword}
use Rattle.camac_tokens.specs.declared.token.Keyword.TheVariants as word
use Rattle.camac_tokens.specs.declared.token.TokenKind.{TokenKind}
use Rattle.camac_tokens.specs.declared.token.TokenKind.TheVariants as kind
use Rattle.camac_text_cursor.specs.declared.choice.Choice.TheVariants as choice
use Rattle.camac_text_cursor.specs.Reading.{State, Reader, ◌>>=◌, ◌>>◌, give, kind_of, missed, past}
use Rattle.camac_text_cursor.specs.Readers.{begin, expect, function_number, used_register, used_variable, used_table, procedure_here, called, used_lam}
use Rattle.camac_text_phrases.specs.Expressions.{expression_at}
use Rattle.camac_text_phrases.specs.Arguments.{arguments_at}
use Rattle.camac_text_statements.specs.Transfers.{last_bound, table_by, table_at, scan_statement, q_stop_statement, q_repeat_statement, call_statement}
use Rattle.camac_text_statements.specs.Statements.{transfer_by, switch_by, switch, crate_action, crate_switch, lam_action, lam_switch, lam_call_by, crate_call_by}
use Rattle.camac_text_cursor.proofs.Steps.{then_ok, ok_is, err_no_ok}
use Rattle.camac_text_cursor.proofs.Moves.{AllFit, Moves, unmoved, moved, then_moves, one_moves, function_ok, expect_ok}
use Rattle.camac_text_cursor.proofs.Registers.{both, below_le}
use Rattle.camac_text_cursor.proofs.Uses.{scope_of, same_scope, used_register_ok, used_variable_ok, used_table_ok, procedure_here_ok, called_ok, used_lam_ok}
use Rattle.camac_text_phrases.proofs.BracketsRead.{expression_ok}
use Rattle.camac_text_phrases.proofs.ArgumentsRead.{arguments_ok}
use Rattle.camac_text_statements.proofs.Acts.{begun, begin_ok, Acts, acts}
use Rattle.camac_lang.specs.declared.spot.Spot.{Spot}
use Rattle.camac_lang.specs.declared.word.CrateCall.{CrateCall}
use Rattle.camac_lang.specs.declared.word.CrateCall.TheVariants as crate_word
use Rattle.camac_lang.specs.declared.word.LamCall.{LamCall}
use Rattle.camac_lang.specs.declared.word.LamCall.TheVariants as lam_word

-- What crate calls and LAM calls leave.

switch_is : (k : Option TokenKind) (s : State) (y : Bool × State) → switch_by k s ≡ Ok y → Moves s y.1
switch_is (Some (kind.Keyword word.On)) s y e = subst (λ (p : Bool × State). Moves s p.1) (ok_is (true, past s) y e) (moved s)
switch_is (Some (kind.Keyword word.Off)) s y e = subst (λ (p : Bool × State). Moves s p.1) (ok_is (false, past s) y e) (moved s)
switch_is _ s y e = absurd (err_no_ok _ _ e)

switch_ok : (s : State) (y : Bool × State) → switch s ≡ Ok y → Moves s y.1
unfolding switch
switch_ok s y e = switch_is (kind_of s.rest) s y e

-- ---- crate calls

crate_is : (room : ℕ) (s : State) (k : TokenKind) (which : CrateCall) (spot : Spot) (y : Statement × State) → kind_of s.rest ≡ Some k → crate_action which room spot s ≡ Ok y → Acts room s y.0 y.1
unfolding crate_action
crate_is room s k which spot y next e =
    let a = then_ok (begin s) _ y e in
    let begins = begin_ok s a.0 a.1 in
    let rest : Reader Statement = expression_at room >>= λ crate_no. give (crate_call spot which crate_no) in
    let at : rest (begun s) ≡ Ok y = subst (λ (u : State). rest u ≡ Ok y) begins.1 a.2 in
    let b = then_ok (expression_at room (begun s)) (λ crate_no. give (crate_call spot which crate_no)) y at in
    let read = expression_ok room (begun s) b.0 b.1 in
    subst (λ (p : Statement × State). Acts room s p.0 p.1) (ok_is (crate_call spot which b.0.0, b.0.1) y b.2)
    (acts room s (crate_call spot which b.0.0) k b.0.1 next begins.0 read.moves
    (λ h. ap (λ (holds : Bool). unless_broken holds (length s.registers)) (read.fits ((moved s).fit h)))
    read.deep refl)

crate_switch_is : (room : ℕ) (s : State) (k : TokenKind) (on off : CrateCall) (spot : Spot) (y : Statement × State) → kind_of s.rest ≡ Some k → crate_switch on off room spot s ≡ Ok y → Acts room s y.0 y.1
unfolding crate_switch
crate_switch_is room s k on off spot y next e =
    let a = then_ok (begin s) _ y e in
    let begins = begin_ok s a.0 a.1 in
    let rest : Reader Statement = expression_at room >>= λ crate_no. switch >>= λ is_on. give (crate_call spot (cond is_on on off) crate_no) in
    let at : rest (begun s) ≡ Ok y = subst (λ (u : State). rest u ≡ Ok y) begins.1 a.2 in
    let b = then_ok (expression_at room (begun s)) (λ crate_no. switch >>= λ is_on. give (crate_call spot (cond is_on on off) crate_no)) y at in
    let read = expression_ok room (begun s) b.0 b.1 in
    let c = then_ok (switch b.0.1) (λ is_on. give (crate_call spot (cond is_on on off) b.0.0)) y b.2 in
    let x : Statement = crate_call spot (cond c.0.0 on off) b.0.0 in
    subst (λ (p : Statement × State). Acts room s p.0 p.1) (ok_is (x, c.0.1) y c.2)
    (acts room s x k c.0.1 next begins.0 (then_moves (begun s) b.0.1 c.0.1 read.moves (switch_ok b.0.1 c.0 c.1))
    (λ h. ap (λ (holds : Bool). unless_broken holds (length s.registers)) (read.fits ((moved s).fit h)))
    read.deep refl)

-- ---- LAM calls

lam_is : (room : ℕ) (s : State) (k : TokenKind) (which : LamCall) (spot : Spot) (y : Statement × State) → kind_of s.rest ≡ Some k → lam_action which spot s ≡ Ok y → Acts room s y.0 y.1
unfolding lam_action
lam_is room s k which spot y next e =
    let a = then_ok (begin s) _ y e in
    let begins = begin_ok s a.0 a.1 in
    let rest : Reader Statement = used_lam >>= λ lam. give (lam_call spot which lam) in
    let at : rest (begun s) ≡ Ok y = subst (λ (u : State). rest u ≡ Ok y) begins.1 a.2 in
    let b = then_ok (used_lam (begun s)) (λ lam. give (lam_call spot which lam)) y at in
    let lam = used_lam_ok (begun s) b.0 b.1 in
    subst (λ (p : Statement × State). Acts room s p.0 p.1) (ok_is (lam_call spot which b.0.0, b.0.1) y b.2)
    (acts room s (lam_call spot which b.0.0) k b.0.1 next begins.0 lam.1
    (λ h. ap (λ (holds : Bool). unless_broken holds (length s.registers)) (lt-ltb b.0.0 (length s.lams) lam.0))
    (omega arith) refl)

lam_switch_is : (room : ℕ) (s : State) (k : TokenKind) (spot : Spot) (y : Statement × State) → kind_of s.rest ≡ Some k → lam_switch spot s ≡ Ok y → Acts room s y.0 y.1
unfolding lam_switch
lam_switch_is room s k spot y next e =
    let a = then_ok (begin s) _ y e in
    let begins = begin_ok s a.0 a.1 in
    let rest : Reader Statement = used_lam >>= λ lam. switch >>= λ is_on. give (lam_call spot (cond is_on lam_word.Enable lam_word.Disable) lam) in
    let at : rest (begun s) ≡ Ok y = subst (λ (u : State). rest u ≡ Ok y) begins.1 a.2 in
    let b = then_ok (used_lam (begun s)) (λ lam. switch >>= λ is_on. give (lam_call spot (cond is_on lam_word.Enable lam_word.Disable) lam)) y at in
    let lam = used_lam_ok (begun s) b.0 b.1 in
    let c = then_ok (switch b.0.1) (λ is_on. give (lam_call spot (cond is_on lam_word.Enable lam_word.Disable) b.0.0)) y b.2 in
    let x : Statement = lam_call spot (cond c.0.0 lam_word.Enable lam_word.Disable) b.0.0 in
    subst (λ (p : Statement × State). Acts room s p.0 p.1) (ok_is (x, c.0.1) y c.2)
    (acts room s x k c.0.1 next begins.0 (then_moves (begun s) b.0.1 c.0.1 lam.1 (switch_ok b.0.1 c.0 c.1))
    (λ h. ap (λ (holds : Bool). unless_broken holds (length s.registers)) (lt-ltb b.0.0 (length s.lams) lam.0))
    (omega arith) refl)

lam_call_is : (room : ℕ) (s : State) (spot : Spot) (k : Option TokenKind) (y : Statement × State) → kind_of s.rest ≡ k → lam_call_by spot k s ≡ Ok y → Acts room s y.0 y.1
lam_call_is room s spot (Some (kind.Keyword word.Cclm)) y next e = lam_switch_is room s (kind.Keyword word.Cclm) spot y next e
lam_call_is room s spot (Some (kind.Keyword word.Cclc)) y next e = lam_is room s (kind.Keyword word.Cclc) lam_word.Clear spot y next e
lam_call_is room s spot (Some (kind.Keyword word.Ctlm)) y next e = lam_is room s (kind.Keyword word.Ctlm) lam_word.Test spot y next e
lam_call_is room s spot _ y next e = absurd (err_no_ok _ _ e)

pub crate_call_is : (room : ℕ) (s : State) (spot : Spot) (k : Option TokenKind) (y : Statement × State) → kind_of s.rest ≡ k → crate_call_by room spot k s ≡ Ok y → Acts room s y.0 y.1
crate_call_is room s spot (Some (kind.Keyword word.Cccz)) y next e = crate_is room s (kind.Keyword word.Cccz) crate_word.Initialise spot y next e
crate_call_is room s spot (Some (kind.Keyword word.Cccc)) y next e = crate_is room s (kind.Keyword word.Cccc) crate_word.Clear spot y next e
crate_call_is room s spot (Some (kind.Keyword word.Ctci)) y next e = crate_is room s (kind.Keyword word.Ctci) crate_word.TestInhibit spot y next e
crate_call_is room s spot (Some (kind.Keyword word.Ctcd)) y next e = crate_is room s (kind.Keyword word.Ctcd) crate_word.TestDemandOutput spot y next e
crate_call_is room s spot (Some (kind.Keyword word.Ctgl)) y next e = crate_is room s (kind.Keyword word.Ctgl) crate_word.TestDemand spot y next e
crate_call_is room s spot (Some (kind.Keyword word.Ccci)) y next e = crate_switch_is room s (kind.Keyword word.Ccci) crate_word.InhibitOn crate_word.InhibitOff spot y next e
crate_call_is room s spot (Some (kind.Keyword word.Cccd)) y next e = crate_switch_is room s (kind.Keyword word.Cccd) crate_word.DemandOn crate_word.DemandOff spot y next e
crate_call_is room s spot k y next e = lam_call_is room s spot k y next e

-- ---- what is after some tokens, seen from before them

expression_before : (s t : State) (e : Expression) → Moves s t → (AllFit t.rest → expression_fits (scope_of t) e ≡ true) → AllFit s.rest → expression_fits (scope_of s) e ≡ true
expression_before s t e m fits h = subst (λ (c : Scope). expression_fits c e ≡ true) (same_scope s t m) (fits (m.fit h))

register_before : (s t : State) (r : ℕ) → Moves s t → r < length t.registers → nat_lt r (length s.registers) ≡ true
register_before s t r m below = subst (λ (u : State). nat_lt r (length u.registers) ≡ true) m.same (lt-ltb r (length t.registers) below)

variable_before : (s t : State) (x : ℕ) → Moves s t → x < length t.variables → nat_lt x (length s.variables) ≡ true
variable_before s t x m below = subst (λ (u : State). nat_lt x (length u.variables) ≡ true) m.same (lt-ltb x (length t.variables) below)

function_fits : (f : ℕ) → nat_lt f 32 ≡ true → is_function f ≡ true
function_fits f e = below_le f 31 (let below : f < 32 = ltb-true f 32 e in omega arith)

-- ---- the last bound and the tally

record ReadsBound (room : ℕ) (s : State) (bound : Expression) (tally : ℕ) (s' : State) : Type 0 where
  moves : Moves s s'
  fits : AllFit s.rest → expression_fits (scope_of s) bound ≡ true
  deep : expression_depth bound ≤ room
  within : nat_lt tally (length s.variables) ≡ true

bound_ok : (w : Keyword) (room : ℕ) (s : State) (y : (Expression × ℕ) × State) → last_bound w room s ≡ Ok y → ReadsBound room s y.0.0 y.0.1 y.1
unfolding last_bound
bound_ok w room s y e =
    let a = then_ok (expect w s) (λ _. expression_at room >>= λ b. expect word.Tally >> (used_variable >>= λ v. give (b, v))) y e in
    let to_a : Moves s a.0.1 = expect_ok w s a.0 a.1 in
    let b = then_ok (expression_at room a.0.1) (λ b. expect word.Tally >> (used_variable >>= λ v. give (b, v))) y a.2 in
    let read = expression_ok room a.0.1 b.0 b.1 in
    let to_b : Moves s b.0.1 = then_moves s a.0.1 b.0.1 to_a read.moves in
    let c = then_ok (expect word.Tally b.0.1) (λ _. used_variable >>= λ v. give (b.0.0, v)) y b.2 in
    let to_c : Moves s c.0.1 = then_moves s b.0.1 c.0.1 to_b (expect_ok word.Tally b.0.1 c.0 c.1) in
    let d = then_ok (used_variable c.0.1) (λ v. give (b.0.0, v)) y c.2 in
    let tally = used_variable_ok c.0.1 d.0 d.1 in
    subst (λ (p : (Expression × ℕ) × State). ReadsBound room s p.0.0 p.0.1 p.1) (ok_is ((b.0.0, d.0.0), d.0.1) y d.2) (record {
      moves = then_moves s c.0.1 d.0.1 to_c tally.1;
      fits = expression_before s a.0.1 b.0.0 to_a read.fits;
      deep = read.deep;
      within = variable_before s c.0.1 d.0.0 to_c tally.0;
    })

-- ---- the table of a write

record ReadsTable (s : State) (table : Option ℕ) (s' : State) : Type 0 where
  moves : Moves s s'
  fits : table_fits (scope_of s) table ≡ true

table_is : (k : Option TokenKind) (s : State) (y : Option ℕ × State) → table_by k s ≡ Ok y → ReadsTable s y.0 y.1
table_is (Some (kind.Keyword word.Table)) s y e =
    let t : State = past s in
    let m = then_ok (used_table t) (λ place. give (Some place)) y e in
    let used = used_table_ok t m.0 m.1 in
    subst (λ (p : Option ℕ × State). ReadsTable s p.0 p.1) (ok_is (Some m.0.0, m.0.1) y m.2) (record {
      moves = then_moves s t m.0.1 (moved s) used.1;
      fits = lt-ltb m.0.0 (length s.tables) used.0;
    })
table_is _ s y e = subst (λ (p : Option ℕ × State). ReadsTable s p.0 p.1) (ok_is (None, missed (choice.Word word.Table) s) y e) (record { moves = unmoved (choice.Word word.Table) s; fits = refl })

table_ok : (s : State) (y : Option ℕ × State) → table_at s ≡ Ok y → ReadsTable s y.0 y.1
unfolding table_at
table_ok s y e = table_is (kind_of s.rest) s y e

table_before : (s t : State) (g : Option ℕ) → Moves s t → table_fits (scope_of t) g ≡ true → table_fits (scope_of s) g ≡ true
table_before s t g m fits = subst (λ (c : Scope). table_fits c g ≡ true) (same_scope s t m) fits

-- ---- transfers

scan_is : (room : ℕ) (s : State) (k : TokenKind) (spot : Spot) (y : Statement × State) → kind_of s.rest ≡ Some k → scan_statement room spot s ≡ Ok y → Acts room s y.0 y.1
unfolding scan_statement
scan_is room s k spot y next e =
    let rest : Reader Statement = function_number >>= λ f. used_register >>= λ r. used_register >>= λ q. last_bound word.Max room >>= λ end. give (address_scan spot f r q end.0 end.1) in
    let z = then_ok (begin s) (λ _. rest) y e in
    let begins = begin_ok s z.0 z.1 in
    let b : State = begun s in
    let at : rest b ≡ Ok y = subst (λ (u : State). rest u ≡ Ok y) begins.1 z.2 in
    let a1 = then_ok (function_number b) (λ f. used_register >>= λ r. used_register >>= λ q. last_bound word.Max room >>= λ end. give (address_scan spot f r q end.0 end.1)) y at in
    let f = function_ok b a1.0 a1.1 in
    let to_1 : Moves b a1.0.1 = one_moves b (kind.Number a1.0.0) a1.0.1 f.one in
    let a2 = then_ok (used_register a1.0.1) (λ r. used_register >>= λ q. last_bound word.Max room >>= λ end. give (address_scan spot a1.0.0 r q end.0 end.1)) y a1.2 in
    let first = used_register_ok a1.0.1 a2.0 a2.1 in
    let to_2 : Moves b a2.0.1 = then_moves b a1.0.1 a2.0.1 to_1 first.1 in
    let a3 = then_ok (used_register a2.0.1) (λ q. last_bound word.Max room >>= λ end. give (address_scan spot a1.0.0 a2.0.0 q end.0 end.1)) y a2.2 in
    let last = used_register_ok a2.0.1 a3.0 a3.1 in
    let to_3 : Moves b a3.0.1 = then_moves b a2.0.1 a3.0.1 to_2 last.1 in
    let a4 = then_ok (last_bound word.Max room a3.0.1) (λ end. give (address_scan spot a1.0.0 a2.0.0 a3.0.0 end.0 end.1)) y a3.2 in
    let end = bound_ok word.Max room a3.0.1 a4.0 a4.1 in
    let x : Statement = address_scan spot a1.0.0 a2.0.0 a3.0.0 a4.0.0.0 a4.0.0.1 in
    subst (λ (p : Statement × State). Acts room s p.0 p.1) (ok_is (x, a4.0.1) y a4.2)
    (acts room s x k a4.0.1 next begins.0 (then_moves b a3.0.1 a4.0.1 to_3 end.moves)
    (λ h. ap (λ (holds : Bool). unless_broken holds (length s.registers))
    (both _ _ (function_fits a1.0.0 f.below)
    (both _ _ (register_before b a1.0.1 a2.0.0 to_1 first.0)
    (both _ _ (register_before b a2.0.1 a3.0.0 to_2 last.0)
    (both _ _ (expression_before b a3.0.1 a4.0.0.0 to_3 end.fits ((moved s).fit h))
    (subst (λ (u : State). nat_lt a4.0.0.1 (length u.variables) ≡ true) to_3.same end.within))))))
    end.deep refl)

stop_is : (room : ℕ) (s : State) (k : TokenKind) (spot : Spot) (y : Statement × State) → kind_of s.rest ≡ Some k → q_stop_statement room spot s ≡ Ok y → Acts room s y.0 y.1
unfolding q_stop_statement
stop_is room s k spot y next e =
    let rest : Reader Statement = function_number >>= λ f. used_register >>= λ r. table_at >>= λ g. last_bound word.Max room >>= λ end. give (q_stop spot f r g end.0 end.1) in
    let z = then_ok (begin s) (λ _. rest) y e in
    let begins = begin_ok s z.0 z.1 in
    let b : State = begun s in
    let at : rest b ≡ Ok y = subst (λ (u : State). rest u ≡ Ok y) begins.1 z.2 in
    let a1 = then_ok (function_number b) (λ f. used_register >>= λ r. table_at >>= λ g. last_bound word.Max room >>= λ end. give (q_stop spot f r g end.0 end.1)) y at in
    let f = function_ok b a1.0 a1.1 in
    let to_1 : Moves b a1.0.1 = one_moves b (kind.Number a1.0.0) a1.0.1 f.one in
    let a2 = then_ok (used_register a1.0.1) (λ r. table_at >>= λ g. last_bound word.Max room >>= λ end. give (q_stop spot a1.0.0 r g end.0 end.1)) y a1.2 in
    let register = used_register_ok a1.0.1 a2.0 a2.1 in
    let to_2 : Moves b a2.0.1 = then_moves b a1.0.1 a2.0.1 to_1 register.1 in
    let a3 = then_ok (table_at a2.0.1) (λ g. last_bound word.Max room >>= λ end. give (q_stop spot a1.0.0 a2.0.0 g end.0 end.1)) y a2.2 in
    let table = table_ok a2.0.1 a3.0 a3.1 in
    let to_3 : Moves b a3.0.1 = then_moves b a2.0.1 a3.0.1 to_2 table.moves in
    let a4 = then_ok (last_bound word.Max room a3.0.1) (λ end. give (q_stop spot a1.0.0 a2.0.0 a3.0.0 end.0 end.1)) y a3.2 in
    let end = bound_ok word.Max room a3.0.1 a4.0 a4.1 in
    let x : Statement = q_stop spot a1.0.0 a2.0.0 a3.0.0 a4.0.0.0 a4.0.0.1 in
    subst (λ (p : Statement × State). Acts room s p.0 p.1) (ok_is (x, a4.0.1) y a4.2)
    (acts room s x k a4.0.1 next begins.0 (then_moves b a3.0.1 a4.0.1 to_3 end.moves)
    (λ h. ap (λ (holds : Bool). unless_broken holds (length s.registers))
    (both _ _ (function_fits a1.0.0 f.below)
    (both _ _ (register_before b a1.0.1 a2.0.0 to_1 register.0)
    (both _ _ (table_before b a2.0.1 a3.0.0 to_2 table.fits)
    (both _ _ (expression_before b a3.0.1 a4.0.0.0 to_3 end.fits ((moved s).fit h))
    (subst (λ (u : State). nat_lt a4.0.0.1 (length u.variables) ≡ true) to_3.same end.within))))))
    end.deep refl)

repeat_is : (room : ℕ) (s : State) (k : TokenKind) (spot : Spot) (y : Statement × State) → kind_of s.rest ≡ Some k → q_repeat_statement room spot s ≡ Ok y → Acts room s y.0 y.1
unfolding q_repeat_statement
repeat_is room s k spot y next e =
    let rest : Reader Statement = function_number >>= λ f. used_register >>= λ r. table_at >>= λ g. expect word.Max >> (expression_at room >>= λ m. last_bound word.Limit room >>= λ end. give (q_repeat spot f r g m end.0 end.1)) in
    let z = then_ok (begin s) (λ _. rest) y e in
    let begins = begin_ok s z.0 z.1 in
    let b : State = begun s in
    let at : rest b ≡ Ok y = subst (λ (u : State). rest u ≡ Ok y) begins.1 z.2 in
    let a1 = then_ok (function_number b) (λ f. used_register >>= λ r. table_at >>= λ g. expect word.Max >> (expression_at room >>= λ m. last_bound word.Limit room >>= λ end. give (q_repeat spot f r g m end.0 end.1))) y at in
    let f = function_ok b a1.0 a1.1 in
    let to_1 : Moves b a1.0.1 = one_moves b (kind.Number a1.0.0) a1.0.1 f.one in
    let a2 = then_ok (used_register a1.0.1) (λ r. table_at >>= λ g. expect word.Max >> (expression_at room >>= λ m. last_bound word.Limit room >>= λ end. give (q_repeat spot a1.0.0 r g m end.0 end.1))) y a1.2 in
    let register = used_register_ok a1.0.1 a2.0 a2.1 in
    let to_2 : Moves b a2.0.1 = then_moves b a1.0.1 a2.0.1 to_1 register.1 in
    let a3 = then_ok (table_at a2.0.1) (λ g. expect word.Max >> (expression_at room >>= λ m. last_bound word.Limit room >>= λ end. give (q_repeat spot a1.0.0 a2.0.0 g m end.0 end.1))) y a2.2 in
    let table = table_ok a2.0.1 a3.0 a3.1 in
    let to_3 : Moves b a3.0.1 = then_moves b a2.0.1 a3.0.1 to_2 table.moves in
    let a4 = then_ok (expect word.Max a3.0.1) (λ _. expression_at room >>= λ m. last_bound word.Limit room >>= λ end. give (q_repeat spot a1.0.0 a2.0.0 a3.0.0 m end.0 end.1)) y a3.2 in
    let to_4 : Moves b a4.0.1 = then_moves b a3.0.1 a4.0.1 to_3 (expect_ok word.Max a3.0.1 a4.0 a4.1) in
    let a5 = then_ok (expression_at room a4.0.1) (λ m. last_bound word.Limit room >>= λ end. give (q_repeat spot a1.0.0 a2.0.0 a3.0.0 m end.0 end.1)) y a4.2 in
    let most_words = expression_ok room a4.0.1 a5.0 a5.1 in
    let to_5 : Moves b a5.0.1 = then_moves b a4.0.1 a5.0.1 to_4 most_words.moves in
    let a6 = then_ok (last_bound word.Limit room a5.0.1) (λ end. give (q_repeat spot a1.0.0 a2.0.0 a3.0.0 a5.0.0 end.0 end.1)) y a5.2 in
    let end = bound_ok word.Limit room a5.0.1 a6.0 a6.1 in
    let x : Statement = q_repeat spot a1.0.0 a2.0.0 a3.0.0 a5.0.0 a6.0.0.0 a6.0.0.1 in
    subst (λ (p : Statement × State). Acts room s p.0 p.1) (ok_is (x, a6.0.1) y a6.2)
    (acts room s x k a6.0.1 next begins.0 (then_moves b a5.0.1 a6.0.1 to_5 end.moves)
    (λ h. ap (λ (holds : Bool). unless_broken holds (length s.registers))
    (both _ _ (function_fits a1.0.0 f.below)
    (both _ _ (register_before b a1.0.1 a2.0.0 to_1 register.0)
    (both _ _ (table_before b a2.0.1 a3.0.0 to_2 table.fits)
    (both _ _ (expression_before b a4.0.1 a5.0.0 to_4 most_words.fits ((moved s).fit h))
    (both _ _ (expression_before b a5.0.1 a6.0.0.0 to_5 end.fits ((moved s).fit h))
    (subst (λ (u : State). nat_lt a6.0.0.1 (length u.variables) ≡ true) to_5.same end.within)))))))
    (two_deep _ _ room most_words.deep end.deep) refl)
  where
    two_deep : (m n room : ℕ) → m ≤ room → n ≤ room → max m n ≤ room
    two_deep m n room p q = omega arith

-- ---- calls

wants_so_many : (found : Option Callable) (q : Callable) (n wanted : ℕ) → found ≡ Some q → wanted ≡ q.parameters → n ≡ wanted → has found (λ c. nat_eq c.parameters n) ≡ true
wants_so_many (Some c) q n wanted at wants counted = let same : c.parameters ≡ q.parameters = ap (λ (o : Option Callable). parameters_in o) at in same_numbers c.parameters n (same ∙ sym wants ∙ sym counted)
  where
    parameters_in : Option Callable → ℕ
    parameters_in None = 0
    parameters_in (Some c) = c.parameters

    same_numbers : (m n : ℕ) → m ≡ n → nat_eq m n ≡ true
    same_numbers m n e = grind arith
wants_so_many None q n wanted at wants counted = absurd cc

deep_enough : (found : Option Callable) (q : Callable) (arguments room : ℕ) → found ≡ Some q → q.depth ≤ room → arguments ≤ room → max arguments (depth_of found) ≤ room
deep_enough found q arguments room at deep inner = let same : depth_of found ≡ q.depth = ap depth_of at in omega arith

call_is : (room : ℕ) (s : State) (k : TokenKind) (spot : Spot) (y : Statement × State) → kind_of s.rest ≡ Some k → call_statement room spot s ≡ Ok y → Acts room s y.0 y.1
unfolding call_statement
call_is room s k spot y next e =
    let rest : Reader Statement = procedure_here >>= λ p. called room p >>= λ n. arguments_at room n >>= λ es. give (call spot p es) in
    let z = then_ok (begin s) (λ _. rest) y e in
    let begins = begin_ok s z.0 z.1 in
    let b : State = begun s in
    let at : rest b ≡ Ok y = subst (λ (u : State). rest u ≡ Ok y) begins.1 z.2 in
    let a1 = then_ok (procedure_here b) (λ p. called room p >>= λ n. arguments_at room n >>= λ es. give (call spot p es)) y at in
    let here = procedure_here_ok b a1.0 a1.1 in
    let from_b : (called room a1.0.0 >>= λ n. arguments_at room n >>= λ es. give (call spot a1.0.0 es)) b ≡ Ok y = subst (λ (u : State). (called room a1.0.0 >>= λ n. arguments_at room n >>= λ es. give (call spot a1.0.0 es)) u ≡ Ok y) here.left a1.2 in
    let a2 = then_ok (called room a1.0.0 b) (λ n. arguments_at room n >>= λ es. give (call spot a1.0.0 es)) y from_b in
    let can = called_ok room a1.0.0 b a2.0 a2.1 in
    let a3 = then_ok (arguments_at room a2.0.0 a2.0.1) (λ es. give (call spot a1.0.0 es)) y a2.2 in
    let read = arguments_ok room a2.0.0 a2.0.1 a3.0 a3.1 in
    let x : Statement = call spot a1.0.0 a3.0.0 in
    subst (λ (p : Statement × State). Acts room s p.0 p.1) (ok_is (x, a3.0.1) y a3.2)
    (acts room s x k a3.0.1 next begins.0 (then_moves b a2.0.1 a3.0.1 can.moves read.moves)
    (λ h. ap (λ (holds : Bool). unless_broken holds (length s.registers))
    (both _ _ (wants_so_many (slice_get s.callables a1.0.0) can.callable (length a3.0.0) a2.0.0 can.found can.wants read.counted)
    (subst (λ (c : Scope). each (expression_fits c) a3.0.0 ≡ true) (same_scope b a2.0.1 can.moves) (read.fit (can.moves.fit ((moved s).fit h))))))
    (deep_enough (slice_get s.callables a1.0.0) can.callable (suc (most expression_depth a3.0.0)) room can.found can.deep read.deep) refl)

pub transfer_is : (room : ℕ) (s : State) (spot : Spot) (k : Option TokenKind) (y : Statement × State) → kind_of s.rest ≡ k → transfer_by room spot k s ≡ Ok y → Acts room s y.0 y.1
transfer_is room s spot (Some (kind.Keyword word.Cfmad)) y next e = scan_is room s (kind.Keyword word.Cfmad) spot y next e
transfer_is room s spot (Some (kind.Keyword word.Cfubc)) y next e = stop_is room s (kind.Keyword word.Cfubc) spot y next e
transfer_is room s spot (Some (kind.Keyword word.Cfubr)) y next e = repeat_is room s (kind.Keyword word.Cfubr) spot y next e
transfer_is room s spot (Some (kind.Keyword word.Call)) y next e = call_is room s (kind.Keyword word.Call) spot y next e
transfer_is room s spot k y next e = crate_call_is room s spot k y next e
