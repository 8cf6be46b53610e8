-- Single actions, calls and transfers that are spelled are read.
use Rattle.std.proofs.Common.{◌≡◌, ℕ, suc, ◌+◌, ◌≤◌, ◌<◌, max, Bool, true, false, cond, nat_lt, nat_le, List, [], ◌∷◌, ◌++◌, length, take, Option, Some, refl, ap, subst, ◌∙◌, arith, None}
use Rattle.std.proofs.lemmas.Bool.{ltb-true, leb-true, lt-ltb}
use Rattle.camac_lang.specs.Depth.{expression_depth, statement_depth}
use Rattle.camac_lang.specs.Expressions.{expression_fits}
use Rattle.camac_lang.specs.Statements.{head_fits, after as reached_by, statements_in, table_fits}
use Rattle.camac_lang.specs.Tests.{is_function}
use Rattle.camac_lang.specs.Tree.{Expression, Move, Statement, assign, set_register, single, put, crate_call, lam_call, address_scan, q_stop, q_repeat}
use Rattle.camac_lang.specs.declared.word.WordSize.{WordSize}
use Rattle.camac_lang.specs.declared.word.WordSize.TheVariants.{Full, Short}
use Rattle.camac_lang.specs.declared.word.CrateCall.{CrateCall}
use Rattle.camac_lang.specs.declared.word.CrateCall.TheVariants as crate_word
use Rattle.camac_lang.specs.declared.word.LamCall.{LamCall}
use Rattle.camac_lang.specs.declared.word.LamCall.TheVariants as lam_word
use Rattle.camac_lang.specs.declared.spot.Spot.{Spot}
use Rattle.camac_lang.proofs.Options.{unless_parts}
use Rattle.camac_tokens.specs.declared.token.Keyword.{Keyword}
use Rattle.camac_tokens.specs.declared.token.Keyword.TheVariants as keyword
use Rattle.camac_tokens.specs.declared.token.Sign.TheVariants as mark
use Rattle.camac_tokens.specs.declared.token.Token.{Token}
use Rattle.camac_tokens.specs.declared.token.TokenKind.{TokenKind}
use Rattle.camac_tokens.specs.declared.token.TokenKind.TheVariants as kind
use Rattle.camac_text_cursor.specs.Names.{name_place}
use Rattle.camac_text_cursor.specs.Reading.{State, Reader, ◌>>=◌, ◌>>◌, give, kind_of, after_first}
use Rattle.camac_text_cursor.specs.Readers.{expect_sign, branch_number, function_number, set_name, used_register, used_lam, variable_here, begin, expect, used_variable, used_table}
use Rattle.camac_text_cursor.proofs.Places.{hushed}
use Rattle.camac_text_cursor.proofs.Uses.{scope_of}
use Rattle.camac_text_cursor.proofs.Registers.{first_of_both, second_of_both}
use Rattle.camac_text_phrases.specs.Expressions.{expression_at}
use Rattle.camac_text_statements.specs.Statements.{assignment, register_setting, move_at, single_action, put_action, switch_by, switch, crate_action, crate_switch, lam_action, lam_switch, statement_by, statement_with, block_at}
use Rattle.camac_text_statements.specs.Transfers.{last_bound, table_by, table_at, scan_statement, q_stop_statement, q_repeat_statement}
use Rattle.camac_text_statements.proofs.Acts.{begun}
use Rattle.camac_text_spelling.specs.Pieces.{Piece, word, sign, numeral, name_at, text_at, Names, Prefix}
use Rattle.camac_text_spelling.specs.Phrases as phrase
use Rattle.camac_text_spelling.specs.Statements as spell
use Rattle.camac_text_spelling.proofs.Takes.{prefix_split, prefix_first, prefix_spot}
use Rattle.camac_text_spelling.proofs.GivesExpressions.{at, ok, after, left, expected_sign, branch_given, function_given, variable_seen, register_given, lam_given, expected, FindsAll, variable_given, table_given, NoSign, expression_given}
use Rattle.camac_text_spelling.proofs.GivesPhrases.{value_begins, value_no_sign, no_sign, move_given}
use Rattle.camac_text_spelling.proofs.Runs.{Runs, left_at, begin_given, first_given, simple_given, Ends, set_name_given}

-- Assignments, `cdreg`, single actions, `put` and calls that are spelled are read.

-- A statement that is spelled is read.
abbrev pub IsGiven : Names → Statement → Type 0
IsGiven n x = (room : ℕ) (s0 : State) → let s : State = hushed s0 in (rest : List Token) (j k m : ℕ) → Runs n s j k m room (reached_by (scope_of s) j x) (statement_depth s.callables x) (statements_in x) → Prefix s.rest (spell.statement n x) rest → Ends (kind_of rest) → statement_with room (block_at room) s ≡ ok x (left_at n s rest k m)

pub put_given : (n : Names) (spot : Spot) (e : Expression) → IsGiven n (put spot e)
unfolding put_action
put_given n spot e room s0 rest j k m c f ends =
    let s : State = hushed s0 in
    let w : Keyword = keyword.Put in
    let ps : List Piece = phrase.expression n e in
    let h = prefix_spot s.rest s.end_line spot (kind.Keyword w) ps rest f in
    let r = unless_parts (head_fits (scope_of s) j (put spot e)) j k c.reached in
    first_given spot room (block_at room) (kind.Keyword w) s ps rest f
    ∙ simple_given n (put spot e) s rest j k m room _ _ _ c r.1
    (after (expression_at room (begun s)) _ e (at (begun s) rest) (expression_given n e room (begun s) rest c.finds r.0 c.deep h.2 ends.signs) refl)

pub assignment_given : (n : Names) (spot : Spot) (x : ℕ) (e : Expression) → IsGiven n (assign spot x e)
unfolding assignment
assignment_given n spot x e room s0 rest j k m c f ends =
    let s : State = hushed s0 in
    let ps : List Piece = sign mark.Equals ∷ phrase.expression n e in
    let named : TokenKind = kind.Name (text_at n.variables x) in
    let h = prefix_spot s.rest s.end_line spot named ps rest f in
    let q = prefix_first (after_first s.rest) (sign mark.Equals) (phrase.expression n e) rest h.2 in
    let r = unless_parts (head_fits (scope_of s) j (assign spot x e)) j k c.reached in
    let ts : List Token = after_first (after_first s.rest) in
    first_given spot room (block_at room) named s ps rest f
    ∙ after (variable_here s) _ x s (variable_seen n s x c.finds (first_of_both (nat_lt x (length s.variables)) _ r.0) h.0)
    (simple_given n (assign spot x e) s rest j k m room _ _ (expect_sign mark.Equals >> (expression_at room >>= λ value. give (assign spot x value))) c r.1
    (after (expect_sign mark.Equals (begun s)) _ tt (at (begun s) ts) (expected_sign mark.Equals (begun s) q.0)
    (after (expression_at room (at (begun s) ts)) _ e (at (begun s) rest) (expression_given n e room (at (begun s) ts) rest c.finds (second_of_both (nat_lt x (length s.variables)) _ r.0) c.deep q.1 ends.signs) refl)))

single_by : (size : WordSize) (room : ℕ) (block : Reader (List Statement)) (spot : Spot) (s0 : State) → let s : State = hushed s0 in statement_by room block spot (Some (kind.Keyword (spell.single_word size))) s ≡ single_action size room spot s
single_by Full room block spot s0 = let s : State = hushed s0 in refl
single_by Short room block spot s0 = let s : State = hushed s0 in refl

pub single_given : (n : Names) (spot : Spot) (size : WordSize) (g r : ℕ) (d : Move) → IsGiven n (single spot size g r d)
unfolding single_action
single_given n spot size g r d room s0 rest j k m c f ends =
    let s : State = hushed s0 in
    let w : Keyword = spell.single_word size in
    let h = prefix_spot s.rest s.end_line spot (kind.Keyword w) (numeral g ∷ name_at n.registers r ∷ phrase.move n d) rest f in
    let t1 : List Token = after_first s.rest in
    let number = prefix_first t1 (numeral g) (name_at n.registers r ∷ phrase.move n d) rest h.2 in
    let t2 : List Token = after_first t1 in
    let register = prefix_first t2 (name_at n.registers r) (phrase.move n d) rest number.1 in
    let t3 : List Token = after_first t2 in
    let rule = unless_parts (head_fits (scope_of s) j (single spot size g r d)) j k c.reached in
    let few : g ≤ 31 = leb-true g 31 (first_of_both (is_function g) _ rule.0) in
    let more = second_of_both (is_function g) _ rule.0 in
    let below : r < j = ltb-true r j (first_of_both (nat_lt r j) _ more) in
    let same : j ≡ k = rule.1 in
    let within : k ≤ length n.registers = c.within in
    first_given spot room (block_at room) (kind.Keyword w) s (numeral g ∷ name_at n.registers r ∷ phrase.move n d) rest f
    ∙ single_by size room (block_at room) spot s
    ∙ simple_given n (single spot size g r d) s rest j k m room _ _ _ c same
    (after (function_number (begun s)) _ g (at (begun s) t2) (function_given (begun s) g number.0 (let less : g < 32 = omega arith in lt-ltb g 32 less))
    (after (used_register (at (begun s) t2)) _ r (at (begun s) t3) (register_given n (at (begun s) t2) r (ap (name_place (text_at n.registers r)) c.registers ∙ c.sets.set r j below (omega arith)) register.0)
    (after (move_at room (at (begun s) t3)) _ d (at (begun s) rest) (move_given n d room (at (begun s) t3) rest c.finds (second_of_both (nat_lt r j) _ more) c.deep register.1 ends.signs ends.no_move) refl)))

pub setting_given : (n : Names) (spot : Spot) (r : ℕ) (e1 e2 e3 : Expression) → IsGiven n (set_register spot r e1 e2 e3)
unfolding register_setting
setting_given n spot r e1 e2 e3 room s0 rest j k m c f ends =
    let s : State = hushed s0 in
    let x : Statement = set_register spot r e1 e2 e3 in
    let w : Keyword = keyword.Cdreg in
    let p1 : List Piece = phrase.expression n e1 in
    let p2 : List Piece = phrase.expression n e2 in
    let p3 : List Piece = phrase.expression n e3 in
    let h = prefix_spot s.rest s.end_line spot (kind.Keyword w) (name_at n.registers r ∷ numeral 1 ∷ (p1 ++ (p2 ++ p3))) rest f in
    let t1 : List Token = after_first s.rest in
    let name' = prefix_first t1 (name_at n.registers r) (numeral 1 ∷ (p1 ++ (p2 ++ p3))) rest h.2 in
    let t2 : List Token = after_first t1 in
    let one = prefix_first t2 (numeral 1) (p1 ++ (p2 ++ p3)) rest name'.1 in
    let t3 : List Token = after_first t2 in
    let s1 = prefix_split t3 p1 (p2 ++ p3) rest one.1 in
    let s2 = prefix_split s1.0 p2 p3 rest s1.2 in
    let ends_1 : NoSign (kind_of s1.0) = value_no_sign (kind_of s1.0) (value_begins n e2 s1.0 s2.0 s2.1) in
    let ends_2 : NoSign (kind_of s2.0) = value_no_sign (kind_of s2.0) (value_begins n e3 s2.0 rest s2.2) in
    let rule = unless_parts (head_fits (scope_of s) j x) (max j (suc r)) k c.reached in
    let below : r ≤ j = leb-true r j (first_of_both (nat_le r j) _ rule.0) in
    let fits = second_of_both (nat_le r j) _ rule.0 in
    let fits_more = second_of_both (expression_fits (scope_of s) e1) _ fits in
    let deep : max (expression_depth e1) (max (expression_depth e2) (expression_depth e3)) ≤ room = c.deep in
    let few : m ≤ 4096 = c.few in
    let counted : m ≡ s.statements + 1 = c.counted in
    let is_m : suc s.statements ≡ m = omega arith in
    let u : State = record (begun s) { registers = take k n.registers } in
    first_given spot room (block_at room) (kind.Keyword w) s (name_at n.registers r ∷ numeral 1 ∷ (p1 ++ (p2 ++ p3))) rest f
    ∙ after (begin s) _ tt (begun s) (begin_given s (omega arith))
    (after (set_name (begun s)) _ r (at u t2) (set_name_given n (begun s) r j k c.sets c.registers below rule.1 c.within name'.0)
    (after (branch_number (at u t2)) _ tt (at u t3) (branch_given (at u t2) one.0)
    (after (expression_at room (at u t3)) _ e1 (at u s1.0) (expression_given n e1 room (at u t3) s1.0 c.finds (first_of_both (expression_fits (scope_of s) e1) _ fits) (omega arith) s1.1 ends_1)
    (after (expression_at room (at u s1.0)) _ e2 (at u s2.0) (expression_given n e2 room (at u s1.0) s2.0 c.finds (first_of_both (expression_fits (scope_of s) e2) _ fits_more) (omega arith) s2.1 ends_2)
    (after (expression_at room (at u s2.0)) _ e3 (at u rest) (expression_given n e3 room (at u s2.0) rest c.finds (second_of_both (expression_fits (scope_of s) e2) _ fits_more) (omega arith) s2.2 ends.signs)
    (ap (λ (i : ℕ). ok x (record s { rest = rest; registers = take k n.registers; statements = i })) is_m))))))

-- ---- calls

switch_given : (b : Bool) (s0 : State) → let s : State = hushed s0 in kind_of s.rest ≡ Some (kind.Keyword (cond b keyword.On keyword.Off)) → switch s ≡ ok b (at s (after_first s.rest))
unfolding switch
switch_given true s0 e = let s : State = hushed s0 in ap (λ (k : Option TokenKind). switch_by k s) e
switch_given false s0 e = let s : State = hushed s0 in ap (λ (k : Option TokenKind). switch_by k s) e

-- a call on a crate without a switch
crate_plain : (n : Names) (call : CrateCall) (spot : Spot) (e : Expression) (room : ℕ) (s0 : State) → let s : State = hushed s0 in (rest : List Token) (j k m : ℕ) → Runs n s j k m room (reached_by (scope_of s) j (crate_call spot call e)) (expression_depth e) 1 → Prefix (after_first s.rest) (phrase.expression n e ++ []) rest → NoSign (kind_of rest) → crate_action call room spot s ≡ ok (crate_call spot call e) (left_at n s rest k m)
unfolding crate_action
crate_plain n call spot e room s0 rest j k m c f ends =
    let s : State = hushed s0 in
    let parts = prefix_split (after_first s.rest) (phrase.expression n e) [] rest f in
    let g : Prefix (after_first s.rest) (phrase.expression n e) rest = subst (λ (ts : List Token). Prefix (after_first s.rest) (phrase.expression n e) ts) parts.2 parts.1 in
    let r = unless_parts (head_fits (scope_of s) j (crate_call spot call e)) j k c.reached in
    simple_given n (crate_call spot call e) s rest j k m room _ _ (expression_at room >>= λ crate_no. give (crate_call spot call crate_no)) c r.1
    (after (expression_at room (begun s)) _ e (at (begun s) rest) (expression_given n e room (begun s) rest c.finds r.0 c.deep g ends) refl)

switch_no_sign : (b : Bool) → NoSign (Some (kind.Keyword (cond b keyword.On keyword.Off)))
switch_no_sign true = record { product = refl; sum = refl }
switch_no_sign false = record { product = refl; sum = refl }

crate_switched : (n : Names) (on off : CrateCall) (b : Bool) (spot : Spot) (e : Expression) (room : ℕ) (s0 : State) → let s : State = hushed s0 in (rest : List Token) (j k m : ℕ) → Runs n s j k m room (reached_by (scope_of s) j (crate_call spot (cond b on off) e)) (expression_depth e) 1 → Prefix (after_first s.rest) (phrase.expression n e ++ word (cond b keyword.On keyword.Off) ∷ []) rest → crate_switch on off room spot s ≡ ok (crate_call spot (cond b on off) e) (left_at n s rest k m)
unfolding crate_switch
crate_switched n on off b spot e room s0 rest j k m c f =
    let s : State = hushed s0 in
    let w : Keyword = cond b keyword.On keyword.Off in
    let parts = prefix_split (after_first s.rest) (phrase.expression n e) (word w ∷ []) rest f in
    let us : List Token = parts.0 in
    let h = prefix_first us (word w) [] rest parts.2 in
    let r = unless_parts (head_fits (scope_of s) j (crate_call spot (cond b on off) e)) j k c.reached in
    simple_given n (crate_call spot (cond b on off) e) s rest j k m room _ _ (expression_at room >>= λ crate_no. switch >>= λ is_on. give (crate_call spot (cond is_on on off) crate_no)) c r.1
    (after (expression_at room (begun s)) _ e (at (begun s) us) (expression_given n e room (begun s) us c.finds r.0 c.deep parts.1 (no_sign (kind_of us) _ h.0 (switch_no_sign b)))
    (after (switch (at (begun s) us)) _ b (at (begun s) (after_first us)) (switch_given b (at (begun s) us) h.0) (left (crate_call spot (cond b on off) e) (begun s) (after_first us) rest h.1)))

pub crate_given : (n : Names) (spot : Spot) (call : CrateCall) (e : Expression) → IsGiven n (crate_call spot call e)
crate_given n spot crate_word.Initialise e room s0 rest j k m c f ends =
    let s : State = hushed s0 in
    let ps : List Piece = phrase.expression n e ++ [] in
    first_given spot room (block_at room) (kind.Keyword keyword.Cccz) s ps rest f ∙ crate_plain n crate_word.Initialise spot e room s rest j k m c (prefix_spot s.rest s.end_line spot (kind.Keyword keyword.Cccz) ps rest f).2 ends.signs
crate_given n spot crate_word.Clear e room s0 rest j k m c f ends =
    let s : State = hushed s0 in
    let ps : List Piece = phrase.expression n e ++ [] in
    first_given spot room (block_at room) (kind.Keyword keyword.Cccc) s ps rest f ∙ crate_plain n crate_word.Clear spot e room s rest j k m c (prefix_spot s.rest s.end_line spot (kind.Keyword keyword.Cccc) ps rest f).2 ends.signs
crate_given n spot crate_word.TestInhibit e room s0 rest j k m c f ends =
    let s : State = hushed s0 in
    let ps : List Piece = phrase.expression n e ++ [] in
    first_given spot room (block_at room) (kind.Keyword keyword.Ctci) s ps rest f ∙ crate_plain n crate_word.TestInhibit spot e room s rest j k m c (prefix_spot s.rest s.end_line spot (kind.Keyword keyword.Ctci) ps rest f).2 ends.signs
crate_given n spot crate_word.TestDemandOutput e room s0 rest j k m c f ends =
    let s : State = hushed s0 in
    let ps : List Piece = phrase.expression n e ++ [] in
    first_given spot room (block_at room) (kind.Keyword keyword.Ctcd) s ps rest f ∙ crate_plain n crate_word.TestDemandOutput spot e room s rest j k m c (prefix_spot s.rest s.end_line spot (kind.Keyword keyword.Ctcd) ps rest f).2 ends.signs
crate_given n spot crate_word.TestDemand e room s0 rest j k m c f ends =
    let s : State = hushed s0 in
    let ps : List Piece = phrase.expression n e ++ [] in
    first_given spot room (block_at room) (kind.Keyword keyword.Ctgl) s ps rest f ∙ crate_plain n crate_word.TestDemand spot e room s rest j k m c (prefix_spot s.rest s.end_line spot (kind.Keyword keyword.Ctgl) ps rest f).2 ends.signs
crate_given n spot crate_word.InhibitOn e room s0 rest j k m c f ends =
    let s : State = hushed s0 in
    let ps : List Piece = phrase.expression n e ++ word keyword.On ∷ [] in
    first_given spot room (block_at room) (kind.Keyword keyword.Ccci) s ps rest f ∙ crate_switched n crate_word.InhibitOn crate_word.InhibitOff true spot e room s rest j k m c (prefix_spot s.rest s.end_line spot (kind.Keyword keyword.Ccci) ps rest f).2
crate_given n spot crate_word.InhibitOff e room s0 rest j k m c f ends =
    let s : State = hushed s0 in
    let ps : List Piece = phrase.expression n e ++ word keyword.Off ∷ [] in
    first_given spot room (block_at room) (kind.Keyword keyword.Ccci) s ps rest f ∙ crate_switched n crate_word.InhibitOn crate_word.InhibitOff false spot e room s rest j k m c (prefix_spot s.rest s.end_line spot (kind.Keyword keyword.Ccci) ps rest f).2
crate_given n spot crate_word.DemandOn e room s0 rest j k m c f ends =
    let s : State = hushed s0 in
    let ps : List Piece = phrase.expression n e ++ word keyword.On ∷ [] in
    first_given spot room (block_at room) (kind.Keyword keyword.Cccd) s ps rest f ∙ crate_switched n crate_word.DemandOn crate_word.DemandOff true spot e room s rest j k m c (prefix_spot s.rest s.end_line spot (kind.Keyword keyword.Cccd) ps rest f).2
crate_given n spot crate_word.DemandOff e room s0 rest j k m c f ends =
    let s : State = hushed s0 in
    let ps : List Piece = phrase.expression n e ++ word keyword.Off ∷ [] in
    first_given spot room (block_at room) (kind.Keyword keyword.Cccd) s ps rest f ∙ crate_switched n crate_word.DemandOn crate_word.DemandOff false spot e room s rest j k m c (prefix_spot s.rest s.end_line spot (kind.Keyword keyword.Cccd) ps rest f).2

lam_plain : (n : Names) (call : LamCall) (spot : Spot) (l room : ℕ) (s0 : State) → let s : State = hushed s0 in (rest : List Token) (j k m : ℕ) → Runs n s j k m room (reached_by (scope_of s) j (lam_call spot call l)) 0 1 → Prefix (after_first s.rest) (name_at n.lams l ∷ []) rest → lam_action call spot s ≡ ok (lam_call spot call l) (left_at n s rest k m)
unfolding lam_action
lam_plain n call spot l room s0 rest j k m c f =
    let s : State = hushed s0 in
    let h = prefix_first (after_first s.rest) (name_at n.lams l) [] rest f in
    let r = unless_parts (head_fits (scope_of s) j (lam_call spot call l)) j k c.reached in
    simple_given n (lam_call spot call l) s rest j k m room _ _ (used_lam >>= λ lam. give (lam_call spot call lam)) c r.1
    (after (used_lam (begun s)) _ l (at (begun s) (after_first (after_first s.rest))) (lam_given n (begun s) l c.finds r.0 h.0) (left (lam_call spot call l) (begun s) (after_first (after_first s.rest)) rest h.1))

lam_switched : (n : Names) (b : Bool) (spot : Spot) (l room : ℕ) (s0 : State) → let s : State = hushed s0 in (rest : List Token) (j k m : ℕ) → Runs n s j k m room (reached_by (scope_of s) j (lam_call spot (cond b lam_word.Enable lam_word.Disable) l)) 0 1 → Prefix (after_first s.rest) (name_at n.lams l ∷ word (cond b keyword.On keyword.Off) ∷ []) rest → lam_switch spot s ≡ ok (lam_call spot (cond b lam_word.Enable lam_word.Disable) l) (left_at n s rest k m)
unfolding lam_switch
lam_switched n b spot l room s0 rest j k m c f =
    let s : State = hushed s0 in
    let call : LamCall = cond b lam_word.Enable lam_word.Disable in
    let w : Keyword = cond b keyword.On keyword.Off in
    let h = prefix_first (after_first s.rest) (name_at n.lams l) (word w ∷ []) rest f in
    let ts : List Token = after_first (after_first s.rest) in
    let g = prefix_first ts (word w) [] rest h.1 in
    let r = unless_parts (head_fits (scope_of s) j (lam_call spot call l)) j k c.reached in
    simple_given n (lam_call spot call l) s rest j k m room _ _ (used_lam >>= λ lam. switch >>= λ is_on. give (lam_call spot (cond is_on lam_word.Enable lam_word.Disable) lam)) c r.1
    (after (used_lam (begun s)) _ l (at (begun s) ts) (lam_given n (begun s) l c.finds r.0 h.0)
    (after (switch (at (begun s) ts)) _ b (at (begun s) (after_first ts)) (switch_given b (at (begun s) ts) g.0) (left (lam_call spot call l) (begun s) (after_first ts) rest g.1)))

pub lam_call_given : (n : Names) (spot : Spot) (call : LamCall) (l : ℕ) → IsGiven n (lam_call spot call l)
lam_call_given n spot lam_word.Clear l room s0 rest j k m c f ends =
    let s : State = hushed s0 in
    let ps : List Piece = name_at n.lams l ∷ [] in
    first_given spot room (block_at room) (kind.Keyword keyword.Cclc) s ps rest f ∙ lam_plain n lam_word.Clear spot l room s rest j k m c (prefix_spot s.rest s.end_line spot (kind.Keyword keyword.Cclc) ps rest f).2
lam_call_given n spot lam_word.Test l room s0 rest j k m c f ends =
    let s : State = hushed s0 in
    let ps : List Piece = name_at n.lams l ∷ [] in
    first_given spot room (block_at room) (kind.Keyword keyword.Ctlm) s ps rest f ∙ lam_plain n lam_word.Test spot l room s rest j k m c (prefix_spot s.rest s.end_line spot (kind.Keyword keyword.Ctlm) ps rest f).2
lam_call_given n spot lam_word.Enable l room s0 rest j k m c f ends =
    let s : State = hushed s0 in
    let ps : List Piece = name_at n.lams l ∷ word keyword.On ∷ [] in
    first_given spot room (block_at room) (kind.Keyword keyword.Cclm) s ps rest f ∙ lam_switched n true spot l room s rest j k m c (prefix_spot s.rest s.end_line spot (kind.Keyword keyword.Cclm) ps rest f).2
lam_call_given n spot lam_word.Disable l room s0 rest j k m c f ends =
    let s : State = hushed s0 in
    let ps : List Piece = name_at n.lams l ∷ word keyword.Off ∷ [] in
    first_given spot room (block_at room) (kind.Keyword keyword.Cclm) s ps rest f ∙ lam_switched n false spot l room s rest j k m c (prefix_spot s.rest s.end_line spot (kind.Keyword keyword.Cclm) ps rest f).2

-- Transfers that are spelled are read.

-- ---- their parts

function_read : (s0 : State) → let s : State = hushed s0 in (g : ℕ) → is_function g ≡ true → kind_of s.rest ≡ Some (kind.Number g) → function_number s ≡ ok g (at s (after_first s.rest))
function_read s0 g fits next =
    let s : State = hushed s0 in
    let few : g ≤ 31 = leb-true g 31 fits in
    function_given s g next (let less : g < 32 = omega arith in lt-ltb g 32 less)

-- a register that is set
register_read : (n : Names) (s0 : State) → let s : State = hushed s0 in (ts : List Token) (r j k m room : ℕ) (reaches : Option ℕ) (depth : ℕ) → Runs n s j k m room reaches depth 1 → j ≡ k → nat_lt r j ≡ true → kind_of ts ≡ Some (kind.Name (text_at n.registers r)) → used_register (at (begun s) ts) ≡ ok r (at (begun s) (after_first ts))
register_read n s0 ts r j k m room reaches depth c same fits next =
    let s : State = hushed s0 in
    let below : r < j = ltb-true r j fits in
    let within : k ≤ length n.registers = c.within in
    register_given n (at (begun s) ts) r (ap (name_place (text_at n.registers r)) c.registers ∙ c.sets.set r j below (omega arith)) next

tally_no_sign : NoSign (Some (kind.Keyword keyword.Tally))
tally_no_sign = record { product = refl; sum = refl }

limit_no_sign : NoSign (Some (kind.Keyword keyword.Limit))
limit_no_sign = record { product = refl; sum = refl }

-- the last bound after its word, and the tally
bound_given : (n : Names) (w : Keyword) (e : Expression) (x room : ℕ) (s0 : State) → let s : State = hushed s0 in (rest : List Token) → FindsAll n s → expression_fits (scope_of s) e ≡ true → expression_depth e ≤ room → nat_lt x (length s.variables) ≡ true → Prefix s.rest (word w ∷ (phrase.expression n e ++ phrase.tally n x)) rest → last_bound w room s ≡ ok (e, x) (at s rest)
unfolding last_bound
bound_given n w e x room s0 rest finds fits deep known f =
    let s : State = hushed s0 in
    let h = prefix_first s.rest (word w) (phrase.expression n e ++ phrase.tally n x) rest f in
    let u : State = at s (after_first s.rest) in
    let parts = prefix_split (after_first s.rest) (phrase.expression n e) (phrase.tally n x) rest h.1 in
    let us : List Token = parts.0 in
    let tally = prefix_first us (word keyword.Tally) (name_at n.variables x ∷ []) rest parts.2 in
    let ts : List Token = after_first us in
    let named = prefix_first ts (name_at n.variables x) [] rest tally.1 in
    after (expect w s) _ tt u (expected w s h.0)
    (after (expression_at room u) _ e (at s us) (expression_given n e room u us finds fits deep parts.1 (no_sign (kind_of us) _ tally.0 tally_no_sign))
    (after (expect keyword.Tally (at s us)) _ tt (at s ts) (expected keyword.Tally (at s us) tally.0)
    (after (used_variable (at s ts)) _ x (at s (after_first ts)) (variable_given n (at s ts) x finds known named.0) (left (e, x) s (after_first ts) rest named.1))))

-- the table of a write, before `max`
write_given : (n : Names) (g : Option ℕ) (s0 : State) → let s : State = hushed s0 in (rest : List Token) → FindsAll n s → table_fits (scope_of s) g ≡ true → Prefix s.rest (phrase.table n g) rest → kind_of rest ≡ Some (kind.Keyword keyword.Max) → table_at s ≡ ok g (at s rest)
unfolding table_at
write_given n None s0 rest finds fits f next =
    let s : State = hushed s0 in
    ap (λ (k : Option TokenKind). table_by k s) (ap kind_of f ∙ next) ∙ left (let none : Option ℕ = None in none) s s.rest rest f
write_given n (Some g) s0 rest finds fits f next =
    let s : State = hushed s0 in
    let h = prefix_first s.rest (word keyword.Table) (name_at n.tables g ∷ []) rest f in
    let ts : List Token = after_first s.rest in
    let named = prefix_first ts (name_at n.tables g) [] rest h.1 in
    ap (λ (k : Option TokenKind). table_by k s) h.0
    ∙ after (used_table (at s ts)) _ g (at s (after_first ts)) (table_given n (at s ts) g finds fits named.0) (left (Some g) s (after_first ts) rest named.1)

-- ---- `cfmad`

pub scan_given : (n : Names) (spot : Spot) (g r1 r2 : ℕ) (e : Expression) (x : ℕ) → IsGiven n (address_scan spot g r1 r2 e x)
unfolding scan_statement
scan_given n spot g r1 r2 e x room s0 rest j k m c f ends =
    let s : State = hushed s0 in
    let y : Statement = address_scan spot g r1 r2 e x in
    let p4 : List Piece = phrase.most n e ++ phrase.tally n x in
    let p3 : List Piece = name_at n.registers r2 ∷ p4 in
    let p2 : List Piece = name_at n.registers r1 ∷ p3 in
    let h = prefix_spot s.rest s.end_line spot (kind.Keyword keyword.Cfmad) (numeral g ∷ p2) rest f in
    let t1 : List Token = after_first s.rest in
    let number = prefix_first t1 (numeral g) p2 rest h.2 in
    let t2 : List Token = after_first t1 in
    let first = prefix_first t2 (name_at n.registers r1) p3 rest number.1 in
    let t3 : List Token = after_first t2 in
    let last = prefix_first t3 (name_at n.registers r2) p4 rest first.1 in
    let t4 : List Token = after_first t3 in
    let rule = unless_parts (head_fits (scope_of s) j y) j k c.reached in
    let q1 = second_of_both (is_function g) _ rule.0 in
    let q2 = second_of_both (nat_lt r1 j) _ q1 in
    let q3 = second_of_both (nat_lt r2 j) _ q2 in
    first_given spot room (block_at room) (kind.Keyword keyword.Cfmad) s (numeral g ∷ p2) rest f
    ∙ simple_given n y s rest j k m room _ _ _ c rule.1
    (after (function_number (begun s)) _ g (at (begun s) t2) (function_read (begun s) g (first_of_both (is_function g) _ rule.0) number.0)
    (after (used_register (at (begun s) t2)) _ r1 (at (begun s) t3) (register_read n s t2 r1 j k m room _ _ c rule.1 (first_of_both (nat_lt r1 j) _ q1) first.0)
    (after (used_register (at (begun s) t3)) _ r2 (at (begun s) t4) (register_read n s t3 r2 j k m room _ _ c rule.1 (first_of_both (nat_lt r2 j) _ q2) last.0)
    (after (last_bound keyword.Max room (at (begun s) t4)) _ (e, x) (at (begun s) rest)
    (bound_given n keyword.Max e x room (at (begun s) t4) rest c.finds (first_of_both (expression_fits (scope_of s) e) _ q3) c.deep (second_of_both (expression_fits (scope_of s) e) _ q3) last.1) refl))))

-- ---- `cfubc`

pub stop_given : (n : Names) (spot : Spot) (g r : ℕ) (t : Option ℕ) (e : Expression) (x : ℕ) → IsGiven n (q_stop spot g r t e x)
unfolding q_stop_statement
stop_given n spot g r t e x room s0 rest j k m c f ends =
    let s : State = hushed s0 in
    let y : Statement = q_stop spot g r t e x in
    let p4 : List Piece = phrase.expression n e ++ phrase.tally n x in
    let p3 : List Piece = phrase.table n t ++ word keyword.Max ∷ p4 in
    let p2 : List Piece = name_at n.registers r ∷ p3 in
    let h = prefix_spot s.rest s.end_line spot (kind.Keyword keyword.Cfubc) (numeral g ∷ p2) rest f in
    let t1 : List Token = after_first s.rest in
    let number = prefix_first t1 (numeral g) p2 rest h.2 in
    let t2 : List Token = after_first t1 in
    let register = prefix_first t2 (name_at n.registers r) p3 rest number.1 in
    let t3 : List Token = after_first t2 in
    let parts = prefix_split t3 (phrase.table n t) (word keyword.Max ∷ p4) rest register.1 in
    let us : List Token = parts.0 in
    let most = prefix_first us (word keyword.Max) p4 rest parts.2 in
    let rule = unless_parts (head_fits (scope_of s) j y) j k c.reached in
    let q1 = second_of_both (is_function g) _ rule.0 in
    let q2 = second_of_both (nat_lt r j) _ q1 in
    let q3 = second_of_both (table_fits (scope_of s) t) _ q2 in
    first_given spot room (block_at room) (kind.Keyword keyword.Cfubc) s (numeral g ∷ p2) rest f
    ∙ simple_given n y s rest j k m room _ _ _ c rule.1
    (after (function_number (begun s)) _ g (at (begun s) t2) (function_read (begun s) g (first_of_both (is_function g) _ rule.0) number.0)
    (after (used_register (at (begun s) t2)) _ r (at (begun s) t3) (register_read n s t2 r j k m room _ _ c rule.1 (first_of_both (nat_lt r j) _ q1) register.0)
    (after (table_at (at (begun s) t3)) _ t (at (begun s) us) (write_given n t (at (begun s) t3) us c.finds (first_of_both (table_fits (scope_of s) t) _ q2) parts.1 most.0)
    (after (last_bound keyword.Max room (at (begun s) us)) _ (e, x) (at (begun s) rest)
    (bound_given n keyword.Max e x room (at (begun s) us) rest c.finds (first_of_both (expression_fits (scope_of s) e) _ q3) c.deep (second_of_both (expression_fits (scope_of s) e) _ q3) parts.2) refl))))

-- ---- `cfubr`

pub q_repeat_given : (n : Names) (spot : Spot) (g r : ℕ) (t : Option ℕ) (e l : Expression) (x : ℕ) → IsGiven n (q_repeat spot g r t e l x)
unfolding q_repeat_statement
q_repeat_given n spot g r t e l x room s0 rest j k m c f ends =
    let s : State = hushed s0 in
    let y : Statement = q_repeat spot g r t e l x in
    let p5 : List Piece = word keyword.Limit ∷ (phrase.expression n l ++ phrase.tally n x) in
    let p4 : List Piece = phrase.expression n e ++ p5 in
    let p3 : List Piece = phrase.table n t ++ word keyword.Max ∷ p4 in
    let p2 : List Piece = name_at n.registers r ∷ p3 in
    let h = prefix_spot s.rest s.end_line spot (kind.Keyword keyword.Cfubr) (numeral g ∷ p2) rest f in
    let t1 : List Token = after_first s.rest in
    let number = prefix_first t1 (numeral g) p2 rest h.2 in
    let t2 : List Token = after_first t1 in
    let register = prefix_first t2 (name_at n.registers r) p3 rest number.1 in
    let t3 : List Token = after_first t2 in
    let parts = prefix_split t3 (phrase.table n t) (word keyword.Max ∷ p4) rest register.1 in
    let us : List Token = parts.0 in
    let most = prefix_first us (word keyword.Max) p4 rest parts.2 in
    let more = prefix_split (after_first us) (phrase.expression n e) p5 rest most.1 in
    let vs : List Token = more.0 in
    let limit = prefix_first vs (word keyword.Limit) (phrase.expression n l ++ phrase.tally n x) rest more.2 in
    let rule = unless_parts (head_fits (scope_of s) j y) j k c.reached in
    let q1 = second_of_both (is_function g) _ rule.0 in
    let q2 = second_of_both (nat_lt r j) _ q1 in
    let q3 = second_of_both (table_fits (scope_of s) t) _ q2 in
    let q4 = second_of_both (expression_fits (scope_of s) e) _ q3 in
    let deep : max (expression_depth e) (expression_depth l) ≤ room = c.deep in
    first_given spot room (block_at room) (kind.Keyword keyword.Cfubr) s (numeral g ∷ p2) rest f
    ∙ simple_given n y s rest j k m room _ _ _ c rule.1
    (after (function_number (begun s)) _ g (at (begun s) t2) (function_read (begun s) g (first_of_both (is_function g) _ rule.0) number.0)
    (after (used_register (at (begun s) t2)) _ r (at (begun s) t3) (register_read n s t2 r j k m room _ _ c rule.1 (first_of_both (nat_lt r j) _ q1) register.0)
    (after (table_at (at (begun s) t3)) _ t (at (begun s) us) (write_given n t (at (begun s) t3) us c.finds (first_of_both (table_fits (scope_of s) t) _ q2) parts.1 most.0)
    (after (expect keyword.Max (at (begun s) us)) _ tt (at (begun s) (after_first us)) (expected keyword.Max (at (begun s) us) most.0)
    (after (expression_at room (at (begun s) (after_first us))) _ e (at (begun s) vs) (expression_given n e room (at (begun s) (after_first us)) vs c.finds (first_of_both (expression_fits (scope_of s) e) _ q3) (omega arith) more.1 (no_sign (kind_of vs) _ limit.0 limit_no_sign))
    (after (last_bound keyword.Limit room (at (begun s) vs)) _ (l, x) (at (begun s) rest)
    (bound_given n keyword.Limit l x room (at (begun s) vs) rest c.finds (first_of_both (expression_fits (scope_of s) l) _ q4) (omega arith) (second_of_both (expression_fits (scope_of s) l) _ q4) more.2) refl))))))
