-- Every statement and every block that is spelled is read.
use Rattle.std.proofs.Common.{◌≡◌, ℕ, zero, suc, ◌+◌, ◌≤◌, max, Bool, true, false, List, [], ◌∷◌, ◌++◌, length, take, Option, Some, refl, ap, ◌∙◌, arith, not, cond, nat_lt, ◌<◌, nat_eq, nat_le, None, sym, subst, append_assoc}
use Rattle.std.proofs.lemmas.Bool.{eqb-true, le-leb}
use Rattle.std.proofs.lemmas.List.{append-nil}
use Rattle.std.proofs.lemmas.Option.{slice_get_within}
use Rattle.std.specs.Prelude.{option_and_then, slice_get}
use Rattle.camac_lang.specs.Depth.{expression_depth, part_depth, inner_depth, depth_of, statement_depth}
use Rattle.camac_lang.specs.Statements.{head_fits, begun as begun_by, after_block, statements, after as reached_by, statements_in}
use Rattle.camac_lang.specs.Tests.{most, unless_broken, is_number, each, has}
use Rattle.camac_lang.specs.Tree.{Expression, Condition, Statement, choose, choose_else, locked, Block, number, Keep, for_, for_each, while_, call, Text, assign, set_register, single, address_scan, q_stop, q_repeat, put, crate_call, lam_call, done, next}
use Rattle.camac_lang.specs.View.{block_of}
use Rattle.camac_lang.specs.declared.spot.Spot.{Spot}
use Rattle.camac_lang.specs.Expressions.{expression_fits, condition_fits, Callable}
use Rattle.camac_lang.proofs.Grows.{block_grows}
use Rattle.camac_lang.proofs.Options.{unless_parts, then_parts}
use Rattle.camac_tokens.specs.declared.token.Keyword.TheVariants as keyword
use Rattle.camac_tokens.specs.declared.token.Sign.TheVariants as mark
use Rattle.camac_tokens.specs.declared.token.Token.{Token}
use Rattle.camac_tokens.specs.declared.token.TokenKind.{TokenKind}
use Rattle.camac_tokens.specs.declared.token.TokenKind.TheVariants as kind
use Rattle.camac_tokens.specs.declared.fault.TextCase.TheVariants as text_case
use Rattle.camac_tokens.specs.declared.token.Sign.{Sign}
use Rattle.camac_text_cursor.specs.Reading.{State, Reader, kind_of, after_first, while_next, one_more, many, ◌>>◌, miss, give, advance, fail, unexpected}
use Rattle.camac_text_cursor.specs.Readers.{is_keyword, expect_sign, begin, each_word, is_each, expect, any_number, used_variable, procedure_here, callable_by, called, is_sign}
use Rattle.camac_text_cursor.specs.declared.choice.Choice.TheVariants as choice
use Rattle.camac_text_cursor.proofs.Places.{hushed}
use Rattle.camac_text_cursor.proofs.Uses.{scope_of}
use Rattle.camac_text_cursor.proofs.Registers.{first_of_both, second_of_both, both}
use Rattle.camac_text_cursor.proofs.Steps.{while_off}
use Rattle.camac_text_phrases.specs.Expressions.{expression_at}
use Rattle.camac_text_phrases.specs.Conditions.{condition_at}
use Rattle.camac_text_phrases.specs.declared.keeping.Own.TheVariants as of_loop
use Rattle.camac_text_phrases.specs.Keeps.{keeps_at}
use Rattle.camac_text_phrases.specs.Arguments.{argument_after, more_arguments, arguments_at, counted_sign, shows_more}
use Rattle.camac_text_statements.specs.Statements.{else_by, if_statement, lock_statement, statement_with, is_no_end, block_at, single_number, for_ends, each_ends, ends_by, for_statement, while_statement}
use Rattle.camac_text_statements.specs.Transfers.{call_statement}
use Rattle.camac_text_statements.proofs.Acts.{begun}
use Rattle.camac_text_statements.proofs.Bodies.{statements_progress}
use Rattle.camac_text_spelling.specs.Pieces.{Piece, word, sign, Names, Prefix, numeral, name, separated, name_at, others, text_at}
use Rattle.camac_text_spelling.specs.Phrases as phrase
use Rattle.camac_text_spelling.specs.Statements as spell
use Rattle.camac_text_spelling.proofs.Takes.{prefix_split, prefix_first, prefix_spot}
use Rattle.camac_text_spelling.proofs.GivesExpressions.{at, ok, after, checked, left, expected_sign, FindsAll, expected, number_given, variable_given, known_seen, sign_same, while_turn, NoSign, expression_given}
use Rattle.camac_text_spelling.proofs.GivesPhrases.{no_sign, condition_given, begins_value, value_begins, keeps_given}
use Rattle.camac_text_spelling.proofs.Runs.{Runs, left_at, begin_given, first_given, listed, block_of_listed, runs_with, simple_given, statement_opens, block_ends}
use Rattle.camac_text_spelling.proofs.GivesActions.{IsGiven, assignment_given, setting_given, single_given, put_given, crate_given, lam_call_given, scan_given, stop_given, q_repeat_given}

-- Statements that hold blocks, and blocks, that are spelled are read.

-- The statements of a block that is spelled are read, up to its brace.
abbrev pub AreGiven : Names → Block → Type 0
AreGiven n b = (room : ℕ) (acc : List Statement) (s0 : State) → let s : State = hushed s0 in (rest : List Token) (j k m : ℕ) → Runs n s j k m room (after_block (scope_of s) j b) (inner_depth s.callables b) (statements b) → Prefix s.rest (spell.block n b) rest → kind_of rest ≡ Some (kind.Sign mark.RightBrace) → while_next is_no_end (one_more (statement_with room (block_at room))) acc s ≡ ok (acc ++ listed b) (left_at n s rest k m)

-- a block in its braces
abbrev pub RunsBraced : Names → State → ℕ → ℕ → ℕ → ℕ → Block → Type 0
RunsBraced n s j k m room b = Runs n s j k m room (after_block (scope_of s) j b) (suc (inner_depth s.callables b)) (statements b)

pub braced_given : (n : Names) (b : Block) → AreGiven n b → (room : ℕ) (s0 : State) → let s : State = hushed s0 in (rest : List Token) (j k m : ℕ) → RunsBraced n s j k m room b → Prefix s.rest (spell.braced (spell.block n b)) rest → block_at room s ≡ ok (listed b) (left_at n s rest k m)
unfolding block_at many
braced_given n b given zero s0 rest j k m c f = let s : State = hushed s0 in let deep : suc (inner_depth s.callables b) ≤ 0 = c.deep in absurd (omega arith)
braced_given n b given (suc room) s0 rest j k m c f =
    let s : State = hushed s0 in
    let ps : List Piece = spell.block n b in
    let h = prefix_first s.rest (sign mark.LeftBrace) (ps ++ sign mark.RightBrace ∷ []) rest f in
    let u : State = at s (after_first s.rest) in
    let parts = prefix_split (after_first s.rest) ps (sign mark.RightBrace ∷ []) rest h.1 in
    let us : List Token = parts.0 in
    let closing = prefix_first us (sign mark.RightBrace) [] rest parts.2 in
    let deep : suc (inner_depth s.callables b) ≤ suc room = c.deep in
    let inside : Runs n u j k m room (after_block (scope_of s) j b) (inner_depth s.callables b) (statements b) = runs_with c c.registers c.reached c.within (omega arith) c.counted c.few in
    let v : State = left_at n s us k m in
    after (expect_sign mark.LeftBrace s) _ tt u (expected_sign mark.LeftBrace s h.0)
    (after (many is_no_end (statement_with room (block_at room)) u) _ (listed b) v (given room [] u us j k m inside parts.1 closing.0)
    (after (expect_sign mark.RightBrace v) _ tt (at v (after_first us)) (expected_sign mark.RightBrace v closing.0) (left (listed b) v (after_first us) rest closing.1)))

pub brace_no_sign : NoSign (Some (kind.Sign mark.LeftBrace))
brace_no_sign = record { product = refl; sum = refl }

-- the brace of a block
pub brace_first : (n : Names) (b : Block) (ts rest : List Token) → Prefix ts (spell.braced (spell.block n b)) rest → kind_of ts ≡ Some (kind.Sign mark.LeftBrace)
brace_first n b ts rest f = (prefix_first ts (sign mark.LeftBrace) (spell.block n b ++ sign mark.RightBrace ∷ []) rest f).0

-- the one block of a statement runs after its head, which breaks no rule
pub record RunsInside (n : Names) (s : State) (k m room : ℕ) (rule : Bool) (b : Block) : Type 0 where
  pub first : ℕ
  pub keeps : rule ≡ true
  pub runs : (us : List Token) → RunsBraced n (at (begun s) us) first k m room b

pub runs_inside : (n : Names) (s : State) (j k m room : ℕ) (rule : Bool) (b : Block) {depth : ℕ} → Runs n s j k m room (option_and_then (λ i. after_block (scope_of s) i b) (unless_broken rule j)) depth (suc (statements b)) → suc (inner_depth s.callables b) ≤ room → RunsInside n s k m room rule b
runs_inside n s j k m room rule b c deep =
    let p = then_parts (λ i. after_block (scope_of s) i b) (unless_broken rule j) k c.reached in
    let r = unless_parts rule j p.0 p.1 in
    let counted : m ≡ s.statements + suc (statements b) = c.counted in
    record {
      first = p.0;
      keeps = r.0;
      runs = λ us. runs_with c (c.registers ∙ ap (λ (i : ℕ). take i n.registers) r.1) p.2 c.within deep (omega arith) c.few;
    }

-- ---- `lock`

pub locked_given : (n : Names) (spot : Spot) (e : Expression) (b : Block) → AreGiven n b → IsGiven n (locked spot e b)
unfolding lock_statement
locked_given n spot e b given room s0 rest j k m c f ends =
    let s : State = hushed s0 in
    let x : Statement = locked spot e b in
    let p1 : List Piece = phrase.expression n e in
    let body : List Piece = spell.braced (spell.block n b) in
    let h = prefix_spot s.rest s.end_line spot (kind.Keyword keyword.Lock) (p1 ++ body) rest f in
    let parts = prefix_split (after_first s.rest) p1 body rest h.2 in
    let us : List Token = parts.0 in
    let deep : max (expression_depth e) (suc (inner_depth s.callables b)) ≤ room = c.deep in
    let counted : m ≡ s.statements + suc (statements b) = c.counted in
    let few : m ≤ 4096 = c.few in
    let inside = runs_inside n s j k m room (head_fits (scope_of s) j x) b c (omega arith) in
    first_given spot room (block_at room) (kind.Keyword keyword.Lock) s (p1 ++ body) rest f
    ∙ checked (not s.in_procedure) _ _ s (first_of_both (not s.in_procedure) _ inside.keeps)
    (after (begin s) _ tt (begun s) (begin_given s (omega arith))
    (after (expression_at room (begun s)) _ e (at (begun s) us) (expression_given n e room (begun s) us c.finds (second_of_both (not s.in_procedure) _ inside.keeps) (omega arith) parts.1 (no_sign (kind_of us) _ (brace_first n b us rest parts.2) brace_no_sign))
    (after (block_at room (at (begun s) us)) _ (listed b) (left_at n s rest k m) (braced_given n b given room (at (begun s) us) rest inside.first k m (inside.runs us) parts.2)
    (ap (λ (w : Block). ok (locked spot e w) (left_at n s rest k m)) (block_of_listed b)))))

-- ---- `if`

no_else_by : (block : Reader (List Statement)) (spot : Spot) (c : Condition) (xs : List Statement) (o : Option TokenKind) (s0 : State) → let s : State = hushed s0 in is_keyword keyword.Else o ≡ false → else_by block spot c xs o s ≡ ok (choose spot c (block_of xs)) s
no_else_by block spot c xs (Some (kind.Keyword keyword.Else)) s0 off = let s : State = hushed s0 in absurd cc
no_else_by block spot c xs _ s0 off = let s : State = hushed s0 in refl

pub choose_given : (n : Names) (spot : Spot) (t : Condition) (b : Block) → AreGiven n b → IsGiven n (choose spot t b)
unfolding if_statement
choose_given n spot t b given room s0 rest j k m c f ends =
    let s : State = hushed s0 in
    let x : Statement = choose spot t b in
    let p1 : List Piece = phrase.condition n t in
    let body : List Piece = spell.braced (spell.block n b) in
    let h = prefix_spot s.rest s.end_line spot (kind.Keyword keyword.If) (p1 ++ body) rest f in
    let parts = prefix_split (after_first s.rest) p1 body rest h.2 in
    let us : List Token = parts.0 in
    let brace = brace_first n b us rest parts.2 in
    let deep : max (most part_depth t) (suc (inner_depth s.callables b)) ≤ room = c.deep in
    let counted : m ≡ s.statements + suc (statements b) = c.counted in
    let few : m ≤ 4096 = c.few in
    let inside = runs_inside n s j k m room (head_fits (scope_of s) j x) b c (omega arith) in
    first_given spot room (block_at room) (kind.Keyword keyword.If) s (p1 ++ body) rest f
    ∙ after (begin s) _ tt (begun s) (begin_given s (omega arith))
    (after (condition_at room (begun s)) _ t (at (begun s) us) (condition_given n t room (begun s) us c.finds inside.keeps (omega arith) parts.1 (no_sign (kind_of us) _ brace brace_no_sign) (ap (is_keyword keyword.And) brace))
    (after (block_at room (at (begun s) us)) _ (listed b) (left_at n s rest k m) (braced_given n b given room (at (begun s) us) rest inside.first k m (inside.runs us) parts.2)
    (no_else_by (block_at room) spot t (listed b) (kind_of rest) (left_at n s rest k m) ends.no_else
    ∙ ap (λ (w : Block). ok (choose spot t w) (left_at n s rest k m)) (block_of_listed b))))

pub choose_else_given : (n : Names) (spot : Spot) (t : Condition) (a b : Block) → AreGiven n a → AreGiven n b → IsGiven n (choose_else spot t a b)
unfolding if_statement
choose_else_given n spot t a b given_a given_b room s0 rest j k m c f ends =
    let s : State = hushed s0 in
    let x : Statement = choose_else spot t a b in
    let p1 : List Piece = phrase.condition n t in
    let body : List Piece = spell.braced (spell.block n a) in
    let other : List Piece = spell.braced (spell.block n b) in
    let h = prefix_spot s.rest s.end_line spot (kind.Keyword keyword.If) (p1 ++ (body ++ word keyword.Else ∷ other)) rest f in
    let parts = prefix_split (after_first s.rest) p1 (body ++ word keyword.Else ∷ other) rest h.2 in
    let us : List Token = parts.0 in
    let more = prefix_split us body (word keyword.Else ∷ other) rest parts.2 in
    let vs : List Token = more.0 in
    let els = prefix_first vs (word keyword.Else) other rest more.2 in
    let brace = brace_first n a us vs more.1 in
    let p = then_parts (λ i. after_block (scope_of s) i b) _ k c.reached in
    let q = then_parts (λ i. after_block (scope_of s) i a) (begun_by (scope_of s) j x) p.0 p.1 in
    let r = unless_parts (head_fits (scope_of s) j x) j q.0 q.1 in
    let grows : p.0 ≤ k = block_grows (scope_of s) p.0 k b p.2 in
    let within : k ≤ length n.registers = c.within in
    let deep : max (most part_depth t) (max (suc (inner_depth s.callables a)) (suc (inner_depth s.callables b))) ≤ room = c.deep in
    let counted : m ≡ s.statements + suc (statements a + statements b) = c.counted in
    let few : m ≤ 4096 = c.few in
    let m1 : ℕ = suc s.statements + statements a in
    let inside_a : RunsBraced n (at (begun s) us) q.0 p.0 m1 room a = runs_with c (c.registers ∙ ap (λ (i : ℕ). take i n.registers) r.1) q.2 (omega arith) (omega arith) refl (omega arith) in
    let w : State = left_at n s (after_first vs) p.0 m1 in
    let inside_b : RunsBraced n w p.0 k m room b = runs_with c refl p.2 c.within (omega arith) (omega arith) c.few in
    first_given spot room (block_at room) (kind.Keyword keyword.If) s (p1 ++ (body ++ word keyword.Else ∷ other)) rest f
    ∙ after (begin s) _ tt (begun s) (begin_given s (omega arith))
    (after (condition_at room (begun s)) _ t (at (begun s) us) (condition_given n t room (begun s) us c.finds r.0 (omega arith) parts.1 (no_sign (kind_of us) _ brace brace_no_sign) (ap (is_keyword keyword.And) brace))
    (after (block_at room (at (begun s) us)) _ (listed a) (left_at n s vs p.0 m1) (braced_given n a given_a room (at (begun s) us) vs q.0 p.0 m1 inside_a more.1)
    (ap (λ (o : Option TokenKind). else_by (block_at room) spot t (listed a) o (left_at n s vs p.0 m1)) els.0
    ∙ after (block_at room w) _ (listed b) (left_at n s rest k m) (braced_given n b given_b room w rest p.0 k m inside_b els.1)
    (ap (λ (z : Block). ok (choose_else spot t z (block_of (listed b))) (left_at n s rest k m)) (block_of_listed a)
    ∙ ap (λ (z : Block). ok (choose_else spot t a z) (left_at n s rest k m)) (block_of_listed b)))))

-- Loops that are spelled are read.

-- kept ranges, or the brace
keeps_first : (n : Names) (ks : List Keep) (ts us : List Token) → Prefix ts (phrase.keeps n ks) us → kind_of us ≡ Some (kind.Sign mark.LeftBrace) → NoSign (kind_of ts)
keeps_first n [] ts us f brace = no_sign (kind_of ts) _ (ap kind_of f ∙ brace) brace_no_sign
keeps_first n (k ∷ ks) ts us f brace = no_sign (kind_of ts) _ (prefix_first ts (word keyword.Keep) (separated (sign mark.Comma) (phrase.keep n) (k ∷ ks)) us f).0 (record { product = refl; sum = refl })

-- neither is a name
keeps_no_each : (n : Names) (ks : List Keep) (ts us : List Token) → Prefix ts (phrase.keeps n ks) us → kind_of us ≡ Some (kind.Sign mark.LeftBrace) → is_each (kind_of ts) ≡ false
keeps_no_each n [] ts us f brace = ap is_each (ap kind_of f ∙ brace)
keeps_no_each n (k ∷ ks) ts us f brace = ap is_each (prefix_first ts (word keyword.Keep) (separated (sign mark.Comma) (phrase.keep n) (k ∷ ks)) us f).0

-- ---- loops

ends_given : (block : Reader (List Statement)) (spot : Spot) (v : ℕ) (e1 e2 : Expression) (o p : Option ℕ) (s0 : State) → let s : State = hushed s0 in is_each (kind_of s.rest) ≡ false → ends_by block spot v e1 e2 o p s ≡ for_ends block spot v e1 e2 s
ends_given block spot v e1 e2 (Some a) (Some b) s0 free = let s : State = hushed s0 in ap (λ (c : Bool). cond c (each_ends block spot v a b) (miss choice.Each >> for_ends block spot v e1 e2) s) free
ends_given block spot v e1 e2 _ _ s0 free = refl

pub count_given : (n : Names) (spot : Spot) (v : ℕ) (e1 e2 : Expression) (ks : List Keep) (b : Block) → AreGiven n b → IsGiven n (for_ spot v e1 e2 ks b)
unfolding for_statement
count_given n spot v e1 e2 ks b given room s0 rest j k m c f ends =
    let s : State = hushed s0 in
    let x : Statement = for_ spot v e1 e2 ks b in
    let p1 : List Piece = phrase.expression n e1 in
    let p2 : List Piece = phrase.expression n e2 in
    let p3 : List Piece = phrase.keeps n ks in
    let body : List Piece = spell.braced (spell.block n b) in
    let all : List Piece = name_at n.variables v ∷ sign mark.Equals ∷ (p1 ++ word keyword.To ∷ (p2 ++ (p3 ++ body))) in
    let h = prefix_spot s.rest s.end_line spot (kind.Keyword keyword.For) all rest f in
    let t1 : List Token = after_first s.rest in
    let own = prefix_first t1 (name_at n.variables v) (sign mark.Equals ∷ (p1 ++ word keyword.To ∷ (p2 ++ (p3 ++ body)))) rest h.2 in
    let t2 : List Token = after_first t1 in
    let equals = prefix_first t2 (sign mark.Equals) (p1 ++ word keyword.To ∷ (p2 ++ (p3 ++ body))) rest own.1 in
    let t3 : List Token = after_first t2 in
    let s1 = prefix_split t3 p1 (word keyword.To ∷ (p2 ++ (p3 ++ body))) rest equals.1 in
    let to = prefix_first s1.0 (word keyword.To) (p2 ++ (p3 ++ body)) rest s1.2 in
    let t4 : List Token = after_first s1.0 in
    let s2 = prefix_split t4 p2 (p3 ++ body) rest to.1 in
    let s3 = prefix_split s2.0 p3 body rest s2.2 in
    let us : List Token = s3.0 in
    let brace = brace_first n b us rest s3.2 in
    let deep : max (expression_depth e1) (max (expression_depth e2) (suc (inner_depth s.callables b))) ≤ room = c.deep in
    let counted : m ≡ s.statements + suc (statements b) = c.counted in
    let few : m ≤ 4096 = c.few in
    let g : State = begun s in
    let inside = runs_inside n s j k m room (head_fits (scope_of s) j x) b c (omega arith) in
    let own_fits = first_of_both (nat_lt v (length s.variables)) _ inside.keeps in
    let fits = second_of_both (nat_lt v (length s.variables)) _ inside.keeps in
    let fits_more = second_of_both (expression_fits (scope_of s) e1) _ fits in
    first_given spot room (block_at room) (kind.Keyword keyword.For) s all rest f
    ∙ after (begin s) _ tt g (begin_given s (omega arith))
    (after (used_variable g) _ v (at g t2) (variable_given n g v c.finds own_fits own.0)
    (after (expect_sign mark.Equals (at g t2)) _ tt (at g t3) (expected_sign mark.Equals (at g t2) equals.0)
    (after (expression_at room (at g t3)) _ e1 (at g s1.0) (expression_given n e1 room (at g t3) s1.0 c.finds (first_of_both (expression_fits (scope_of s) e1) _ fits) (omega arith) s1.1 (no_sign (kind_of s1.0) _ to.0 (record { product = refl; sum = refl })))
    (after (expect keyword.To (at g s1.0)) _ tt (at g t4) (expected keyword.To (at g s1.0) to.0)
    (after (expression_at room (at g t4)) _ e2 (at g s2.0) (expression_given n e2 room (at g t4) s2.0 c.finds (first_of_both (expression_fits (scope_of s) e2) _ fits_more) (omega arith) s2.1 (keeps_first n ks s2.0 us s3.1 brace))
    (ends_given (block_at room) spot v e1 e2 (single_number e1) (single_number e2) (at g s2.0) (keeps_no_each n ks s2.0 us s3.1 brace)
    ∙ after (keeps_at (of_loop.Counter v) (at g s2.0)) _ ks (at g us) (keeps_given n (of_loop.Counter v) ks (at g s2.0) us c.finds (second_of_both (expression_fits (scope_of s) e2) _ fits_more) s3.1 brace)
    (after (block_at room (at g us)) _ (listed b) (left_at n s rest k m) (braced_given n b given room (at g us) rest inside.first k m (inside.runs us) s3.2)
    (ap (λ (w : Block). ok (for_ spot v e1 e2 ks w) (left_at n s rest k m)) (block_of_listed b)))))))))

-- a number stands alone
number_alone : (n : Names) (a room : ℕ) (s0 : State) → let s : State = hushed s0 in (j : TokenKind) (rest : List Token) → FindsAll n s → is_number a ≡ true → Prefix s.rest (numeral a ∷ []) rest → kind_of rest ≡ Some j → NoSign (Some j) → expression_at room s ≡ ok (number a) (at s rest)
number_alone n a room s0 j rest finds fits f follows ends =
    let s : State = hushed s0 in
    expression_given n (number a) room s rest finds (both (is_number a) _ fits refl) (omega arith) f (no_sign (kind_of rest) j follows ends)

each_given_ends : (block : Reader (List Statement)) (spot : Spot) (v : ℕ) (e1 e2 : Expression) (a b : ℕ) (s0 : State) → let s : State = hushed s0 in kind_of s.rest ≡ Some (kind.Name each_word) → ends_by block spot v e1 e2 (Some a) (Some b) s ≡ each_ends block spot v a b s
each_given_ends block spot v e1 e2 a b s0 is =
    let s : State = hushed s0 in
    ap (λ (k : Option TokenKind). cond (is_each k) (each_ends block spot v a b) (miss choice.Each >> for_ends block spot v e1 e2) s) is

pub each_given : (n : Names) (spot : Spot) (v a e : ℕ) (b : Block) → AreGiven n b → IsGiven n (for_each spot v a e b)
unfolding for_statement
each_given n spot v a e b given room s0 rest j k m c f ends =
    let s : State = hushed s0 in
    let x : Statement = for_each spot v a e b in
    let body : List Piece = spell.braced (spell.block n b) in
    let q6 : List Piece = name each_word ∷ body in
    let q5 : List Piece = word keyword.To ∷ numeral e ∷ q6 in
    let q4 : List Piece = numeral a ∷ q5 in
    let h = prefix_spot s.rest s.end_line spot (kind.Keyword keyword.For) (name_at n.variables v ∷ sign mark.Equals ∷ q4) rest f in
    let t1 : List Token = after_first s.rest in
    let own = prefix_first t1 (name_at n.variables v) (sign mark.Equals ∷ q4) rest h.2 in
    let t2 : List Token = after_first t1 in
    let equals = prefix_first t2 (sign mark.Equals) q4 rest own.1 in
    let t3 : List Token = after_first t2 in
    let s1 = prefix_split t3 (numeral a ∷ []) q5 rest equals.1 in
    let to = prefix_first s1.0 (word keyword.To) (numeral e ∷ q6) rest s1.2 in
    let t4 : List Token = after_first s1.0 in
    let s2 = prefix_split t4 (numeral e ∷ []) q6 rest to.1 in
    let each = prefix_first s2.0 (name each_word) body rest s2.2 in
    let us : List Token = after_first s2.0 in
    let deep : suc (inner_depth s.callables b) ≤ room = c.deep in
    let counted : m ≡ s.statements + suc (statements b) = c.counted in
    let few : m ≤ 4096 = c.few in
    let g : State = begun s in
    let inside = runs_inside n s j k m room (head_fits (scope_of s) j x) b c (omega arith) in
    let own_fits = first_of_both (nat_lt v (length s.variables)) _ inside.keeps in
    let fits = second_of_both (nat_lt v (length s.variables)) _ inside.keeps in
    first_given spot room (block_at room) (kind.Keyword keyword.For) s (name_at n.variables v ∷ sign mark.Equals ∷ q4) rest f
    ∙ after (begin s) _ tt g (begin_given s (omega arith))
    (after (used_variable g) _ v (at g t2) (variable_given n g v c.finds own_fits own.0)
    (after (expect_sign mark.Equals (at g t2)) _ tt (at g t3) (expected_sign mark.Equals (at g t2) equals.0)
    (after (expression_at room (at g t3)) _ (number a) (at g s1.0) (number_alone n a room (at g t3) (kind.Keyword keyword.To) s1.0 c.finds (first_of_both (is_number a) _ fits) s1.1 to.0 (record { product = refl; sum = refl }))
    (after (expect keyword.To (at g s1.0)) _ tt (at g t4) (expected keyword.To (at g s1.0) to.0)
    (after (expression_at room (at g t4)) _ (number e) (at g s2.0) (number_alone n e room (at g t4) (kind.Name each_word) s2.0 c.finds (second_of_both (is_number a) _ fits) s2.1 each.0 (record { product = refl; sum = refl }))
    (each_given_ends (block_at room) spot v (number a) (number e) a e (at g s2.0) each.0
    ∙ after (block_at room (at g us)) _ (listed b) (left_at n s rest k m) (braced_given n b given room (at g us) rest inside.first k m (inside.runs us) each.1)
    (ap (λ (w : Block). ok (for_each spot v a e w) (left_at n s rest k m)) (block_of_listed b))))))))

pub while_given : (n : Names) (spot : Spot) (t : Condition) (turns v : ℕ) (ks : List Keep) (b : Block) → AreGiven n b → IsGiven n (while_ spot t turns v ks b)
unfolding while_statement
while_given n spot t turns v ks b given room s0 rest j k m c f ends =
    let s : State = hushed s0 in
    let x : Statement = while_ spot t turns v ks b in
    let p1 : List Piece = phrase.condition n t in
    let p3 : List Piece = phrase.keeps n ks in
    let body : List Piece = spell.braced (spell.block n b) in
    let q4 : List Piece = name_at n.variables v ∷ (p3 ++ body) in
    let q3 : List Piece = word keyword.By ∷ q4 in
    let q2 : List Piece = numeral turns ∷ q3 in
    let q1 : List Piece = word keyword.Turns ∷ q2 in
    let h = prefix_spot s.rest s.end_line spot (kind.Keyword keyword.While) (p1 ++ q1) rest f in
    let s1 = prefix_split (after_first s.rest) p1 q1 rest h.2 in
    let f1 = prefix_first s1.0 (word keyword.Turns) q2 rest s1.2 in
    let t2 : List Token = after_first s1.0 in
    let f2 = prefix_first t2 (numeral turns) q3 rest f1.1 in
    let t3 : List Token = after_first t2 in
    let f3 = prefix_first t3 (word keyword.By) q4 rest f2.1 in
    let t4 : List Token = after_first t3 in
    let f4 = prefix_first t4 (name_at n.variables v) (p3 ++ body) rest f3.1 in
    let t5 : List Token = after_first t4 in
    let s3 = prefix_split t5 p3 body rest f4.1 in
    let us : List Token = s3.0 in
    let brace = brace_first n b us rest s3.2 in
    let deep : max (most part_depth t) (suc (inner_depth s.callables b)) ≤ room = c.deep in
    let counted : m ≡ s.statements + suc (statements b) = c.counted in
    let few : m ≤ 4096 = c.few in
    let g : State = begun s in
    let inside = runs_inside n s j k m room (head_fits (scope_of s) j x) b c (omega arith) in
    let fits = second_of_both (condition_fits (scope_of s) t) _ inside.keeps in
    let fits_more = second_of_both (is_number turns) _ fits in
    first_given spot room (block_at room) (kind.Keyword keyword.While) s (p1 ++ q1) rest f
    ∙ after (begin s) _ tt g (begin_given s (omega arith))
    (after (condition_at room g) _ t (at g s1.0) (condition_given n t room g s1.0 c.finds (first_of_both (condition_fits (scope_of s) t) _ inside.keeps) (omega arith) s1.1 (no_sign (kind_of s1.0) _ f1.0 (record { product = refl; sum = refl })) (ap (is_keyword keyword.And) f1.0))
    (after (expect keyword.Turns (at g s1.0)) _ tt (at g t2) (expected keyword.Turns (at g s1.0) f1.0)
    (after (any_number (at g t2)) _ turns (at g t3) (number_given (at g t2) turns f2.0)
    (after (expect keyword.By (at g t3)) _ tt (at g t4) (expected keyword.By (at g t3) f3.0)
    (after (used_variable (at g t4)) _ v (at g t5) (variable_given n (at g t4) v c.finds (first_of_both (nat_lt v (length s.variables)) _ fits_more) f4.0)
    (after (keeps_at (of_loop.Measure v) (at g t5)) _ ks (at g us) (keeps_given n (of_loop.Measure v) ks (at g t5) us c.finds (second_of_both (nat_lt v (length s.variables)) _ fits_more) s3.1 brace)
    (after (block_at room (at g us)) _ (listed b) (left_at n s rest k m) (braced_given n b given room (at g us) rest inside.first k m (inside.runs us) s3.2)
    (ap (λ (w : Block). ok (while_ spot t turns v ks w) (left_at n s rest k m)) (block_of_listed b)))))))))

-- Calls that are spelled are read.

-- ---- what is called

procedure_seen : (n : Names) (s0 : State) → let s : State = hushed s0 in (p : ℕ) → FindsAll n s → p < length s.callables → kind_of s.rest ≡ Some (kind.Name (text_at n.procedures p)) → procedure_here s ≡ ok p s
procedure_seen n s0 p finds below e = let s : State = hushed s0 in known_seen _ _ s (text_at n.procedures p) p (finds.procedures p below) e

called_given : (room : ℕ) (s0 : State) → let s : State = hushed s0 in (p : ℕ) (q : Callable) → slice_get s.callables p ≡ Some q → q.depth ≤ room → called room p s ≡ ok q.parameters (at s (after_first s.rest))
unfolding called
called_given room s0 p q found deep =
    let s : State = hushed s0 in
    ap (λ (o : Option Callable). callable_by room o s) found
    ∙ checked (nat_le q.depth room) _ (advance >> give q.parameters) s (le-leb q.depth room deep) refl

-- ---- arguments

-- the sign after an argument
argument_ends : (n : Names) (es : List Expression) (ts rest : List Token) → Prefix ts (others (sign mark.Comma) (phrase.expression n) es) rest → NoSign (kind_of rest) → NoSign (kind_of ts)
argument_ends n [] ts rest f ends = subst (λ (w : List Token). NoSign (kind_of w)) (sym f) ends
argument_ends n (e ∷ es) ts rest f ends = no_sign (kind_of ts) _ (prefix_first ts (sign mark.Comma) (phrase.expression n e ++ others (sign mark.Comma) (phrase.expression n) es) rest f).0 (record { product = refl; sum = refl })

counted_given : (w : Sign) (shows : Option TokenKind → Bool) (wanted : ℕ) (s0 : State) → let s : State = hushed s0 in kind_of s.rest ≡ Some (kind.Sign w) → counted_sign w shows wanted s ≡ ok tt (at s (after_first s.rest))
unfolding counted_sign
counted_given w shows wanted s0 e =
    let s : State = hushed s0 in
    let other : Bool → Reader (Unit {0}) = λ b. cond b (fail (text_case.ArgumentCount wanted)) (unexpected (choice.Mark w)) in
    ap (λ (b : Bool). cond b advance (other (shows (kind_of s.rest))) s) (ap (is_sign w) e ∙ sign_same w)

-- an argument begins with no `)`
value_no_bracket : (k : Option TokenKind) → begins_value k ≡ true → is_sign mark.RightBracket k ≡ false
value_no_bracket (Some (kind.Number j)) e = refl
value_no_bracket (Some (kind.Name x)) e = refl
value_no_bracket (Some (kind.Sign mark.LeftBracket)) e = refl
value_no_bracket _ e = absurd cc

first_given_by : (wanted room : ℕ) (s : State) → is_sign mark.RightBracket (kind_of s.rest) ≡ false → argument_after wanted room [] s ≡ expression_at room s
first_given_by wanted room s off = ap (λ (b : Bool). cond b (fail (text_case.ArgumentCount wanted)) (expression_at room) s) off

-- those after the first
others_read : (n : Names) (wanted : ℕ) (first : Expression) (before es : List Expression) (room : ℕ) (s0 : State) → let s : State = hushed s0 in (rest : List Token) → FindsAll n s → each (expression_fits (scope_of s)) es ≡ true → most expression_depth es ≤ room → Prefix s.rest (others (sign mark.Comma) (phrase.expression n) es) rest → NoSign (kind_of rest) → more_arguments wanted room (length es) (first ∷ before) s ≡ ok (first ∷ (before ++ es)) (at s rest)
unfolding more_arguments
others_read n wanted first before [] room s0 rest finds fit deep f ends =
    let s : State = hushed s0 in
    ap (λ (xs : List Expression). ok (first ∷ xs) s) (sym (append-nil before)) ∙ left (first ∷ (before ++ [])) s s.rest rest f
others_read n wanted first before (e ∷ es) room s0 rest finds fit deep f ends =
    let s : State = hushed s0 in
    let m = prefix_split s.rest (sign mark.Comma ∷ phrase.expression n e) (others (sign mark.Comma) (phrase.expression n) es) rest f in
    let us : List Token = m.0 in
    let h = prefix_first s.rest (sign mark.Comma) (phrase.expression n e) us m.1 in
    let t : State = at s (after_first s.rest) in
    let deep_e : expression_depth e ≤ room = omega arith in
    let deep_es : most expression_depth es ≤ room = omega arith in
    after (argument_after wanted room (first ∷ before) s) _ e (at s us)
    (after (counted_sign mark.Comma (is_sign mark.RightBracket) wanted s) _ tt t (counted_given mark.Comma (is_sign mark.RightBracket) wanted s h.0)
    (expression_given n e room t us finds (first_of_both (expression_fits (scope_of s) e) _ fit) deep_e h.1 (argument_ends n es us rest m.2 ends)))
    (others_read n wanted first (before ++ e ∷ []) es room (at s us) rest finds (second_of_both (expression_fits (scope_of s) e) _ fit) deep_es m.2 ends
    ∙ ap (λ (xs : List Expression). ok (first ∷ xs) (at s rest)) (append_assoc before (e ∷ []) es))

arguments_read : (n : Names) (wanted : ℕ) (es : List Expression) (room : ℕ) (s0 : State) → let s : State = hushed s0 in (rest : List Token) → FindsAll n s → each (expression_fits (scope_of s)) es ≡ true → most expression_depth es ≤ room → Prefix s.rest (separated (sign mark.Comma) (phrase.expression n) es) rest → NoSign (kind_of rest) → more_arguments wanted room (length es) [] s ≡ ok es (at s rest)
unfolding more_arguments
arguments_read n wanted [] room s0 rest finds fit deep f ends = let s : State = hushed s0 in left [] s s.rest rest f
arguments_read n wanted (e ∷ es) room s0 rest finds fit deep f ends =
    let s : State = hushed s0 in
    let m = prefix_split s.rest (phrase.expression n e) (others (sign mark.Comma) (phrase.expression n) es) rest f in
    let us : List Token = m.0 in
    let deep_e : expression_depth e ≤ room = omega arith in
    let deep_es : most expression_depth es ≤ room = omega arith in
    after (argument_after wanted room [] s) _ e (at s us) (first_given_by wanted room s (value_no_bracket (kind_of s.rest) (value_begins n e s.rest us m.1)) ∙ expression_given n e room s us finds (first_of_both (expression_fits (scope_of s) e) _ fit) deep_e m.1 (argument_ends n es us rest m.2 ends))
    (others_read n wanted e [] es room (at s us) rest finds (second_of_both (expression_fits (scope_of s) e) _ fit) deep_es m.2 ends)

abbrev bracketed : Names → List Expression → List Piece
bracketed n es = sign mark.LeftBracket ∷ (separated (sign mark.Comma) (phrase.expression n) es ++ sign mark.RightBracket ∷ [])

arguments_given : (n : Names) (es : List Expression) (room : ℕ) (s0 : State) → let s : State = hushed s0 in (rest : List Token) → FindsAll n s → each (expression_fits (scope_of s)) es ≡ true → suc (most expression_depth es) ≤ room → Prefix s.rest (bracketed n es) rest → arguments_at room (length es) s ≡ ok es (at s rest)
unfolding arguments_at
arguments_given n es zero s0 rest finds fit deep f = let s : State = hushed s0 in absurd (omega arith)
arguments_given n es (suc room) s0 rest finds fit deep f =
    let s : State = hushed s0 in
    let ps : List Piece = separated (sign mark.Comma) (phrase.expression n) es in
    let h = prefix_first s.rest (sign mark.LeftBracket) (ps ++ sign mark.RightBracket ∷ []) rest f in
    let t : State = at s (after_first s.rest) in
    let m = prefix_split (after_first s.rest) ps (sign mark.RightBracket ∷ []) rest h.1 in
    let us : List Token = m.0 in
    let g = prefix_first us (sign mark.RightBracket) [] rest m.2 in
    let within : most expression_depth es ≤ room = omega arith in
    after (expect_sign mark.LeftBracket s) _ tt t (expected_sign mark.LeftBracket s h.0)
    (after (more_arguments (length es) room (length es) [] t) _ es (at s us) (arguments_read n (length es) es room t us finds fit within m.1 (no_sign (kind_of us) _ g.0 (record { product = refl; sum = refl })))
    (after (counted_sign mark.RightBracket (shows_more (length es)) (length es) (at s us)) _ tt (at s (after_first us)) (counted_given mark.RightBracket (shows_more (length es)) (length es) (at s us) g.0) (left es s (after_first us) rest g.1)))

-- ---- the call

-- what is called can be called with so many arguments
has_there : (o : Option Callable) (test : Callable → Bool) → has o test ≡ true → (q : Callable) × (o ≡ Some q) × (test q ≡ true)
has_there None test e = absurd cc
has_there (Some q) test e = (q, refl, e)

pub call_given : (n : Names) (spot : Spot) (p : ℕ) (es : List Expression) → IsGiven n (call spot p es)
unfolding call_statement
call_given n spot p es room s0 rest j k m c f ends =
    let s : State = hushed s0 in
    let x : Statement = call spot p es in
    let ps : List Piece = name_at n.procedures p ∷ bracketed n es in
    let h = prefix_spot s.rest s.end_line spot (kind.Keyword keyword.Call) ps rest f in
    let t1 : List Token = after_first s.rest in
    let named = prefix_first t1 (name_at n.procedures p) (bracketed n es) rest h.2 in
    let t2 : List Token = after_first t1 in
    let r = unless_parts (head_fits (scope_of s) j x) j k c.reached in
    let called_one = has_there (slice_get s.callables p) (λ q. nat_eq q.parameters (length es)) (first_of_both (has (slice_get s.callables p) (λ q. nat_eq q.parameters (length es))) _ r.0) in
    let q : Callable = called_one.0 in
    let wanted : q.parameters ≡ length es = eqb-true q.parameters (length es) called_one.2 in
    let fit = second_of_both (has (slice_get s.callables p) (λ q. nat_eq q.parameters (length es))) _ r.0 in
    let deep : max (suc (most expression_depth es)) (depth_of (slice_get s.callables p)) ≤ room = c.deep in
    let is_deep : depth_of (slice_get s.callables p) ≡ q.depth = ap depth_of called_one.1 in
    let deep_q : q.depth ≤ room = omega arith in
    let g : State = begun s in
    first_given spot room (block_at room) (kind.Keyword keyword.Call) s ps rest f
    ∙ simple_given n x s rest j k m room _ _ _ c r.1
    (after (procedure_here g) _ p g (procedure_seen n g p c.finds (slice_get_within s.callables p q called_one.1) named.0)
    (after (called room p g) _ q.parameters (at g t2) (called_given room g p q called_one.1 deep_q)
    (after (arguments_at room q.parameters (at g t2)) _ es (at g rest) (ap (λ (i : ℕ). arguments_at room i (at g t2)) wanted ∙ arguments_given n es room (at g t2) rest c.finds fit (omega arith) named.1) refl)))

-- Every statement and every block that is spelled is read.

done_given : (n : Names) → AreGiven n done
done_given n room acc s0 rest j k m c f brace =
    let s : State = hushed s0 in
    let some_same : j ≡ k = same j k c.reached in
    let counted : m ≡ s.statements + 0 = c.counted in
    let is_m : s.statements ≡ m = omega arith in
    while_off is_no_end (one_more (statement_with room (block_at room))) acc s (ap (λ (ts : List Token). is_no_end (kind_of ts)) f ∙ ap is_no_end brace)
    ∙ ap (λ (xs : List Statement). ok xs s) (sym (append-nil acc))
    ∙ left (acc ++ []) s s.rest rest f
    ∙ ap (λ (rs : List Text). ok (acc ++ []) (record s { rest = rest; registers = rs })) (c.registers ∙ ap (λ (i : ℕ). take i n.registers) some_same)
    ∙ ap (λ (i : ℕ). ok (acc ++ []) (record s { rest = rest; registers = take k n.registers; statements = i })) is_m
  where
    same : (a b : ℕ) → Some a ≡ Some b → a ≡ b
    same a b e = cc

next_given : (n : Names) (x : Statement) (b : Block) → IsGiven n x → AreGiven n b → AreGiven n (next x b)
next_given n x b first others room acc s0 rest j k m c f brace =
    let s : State = hushed s0 in
    let parts = prefix_split s.rest (spell.statement n x) (spell.block n b) rest f in
    let us : List Token = parts.0 in
    let p = then_parts (λ i. after_block (scope_of s) i b) (reached_by (scope_of s) j x) k c.reached in
    let grows : p.0 ≤ k = block_grows (scope_of s) p.0 k b p.2 in
    let within : k ≤ length n.registers = c.within in
    let deep : max (statement_depth s.callables x) (inner_depth s.callables b) ≤ room = c.deep in
    let counted : m ≡ s.statements + (statements_in x + statements b) = c.counted in
    let few : m ≤ 4096 = c.few in
    let m1 : ℕ = s.statements + statements_in x in
    let one : Runs n s j p.0 m1 room (reached_by (scope_of s) j x) (statement_depth s.callables x) (statements_in x) = runs_with c c.registers p.1 (omega arith) (omega arith) refl (omega arith) in
    let u : State = left_at n s us p.0 m1 in
    let rest_of : Runs n u p.0 k m room (after_block (scope_of s) p.0 b) (inner_depth s.callables b) (statements b) = runs_with c refl p.2 c.within (omega arith) (omega arith) c.few in
    while_turn is_no_end (one_more (statement_with room (block_at room))) (statements_progress room) acc s (acc ++ x ∷ []) u (statement_opens n x s.rest us parts.1)
    (after (statement_with room (block_at room) s) (λ y. give (acc ++ y ∷ [])) x u (first room s us j p.0 m1 one parts.1 (block_ends n b us rest parts.2 brace)) refl)
    (others room (acc ++ x ∷ []) u rest p.0 k m rest_of parts.2 brace ∙ ap (λ (xs : List Statement). ok xs (left_at n s rest k m)) (append_assoc acc (x ∷ []) (listed b)))

mutual
  statement_given : (n : Names) (x : Statement) → IsGiven n x
  statement_given n (assign spot x e) = assignment_given n spot x e
  statement_given n (set_register spot r c s a) = setting_given n spot r c s a
  statement_given n (single spot size f r d) = single_given n spot size f r d
  statement_given n (address_scan spot f r1 r2 e x) = scan_given n spot f r1 r2 e x
  statement_given n (q_stop spot f r g e x) = stop_given n spot f r g e x
  statement_given n (q_repeat spot f r g e l x) = q_repeat_given n spot f r g e l x
  statement_given n (put spot e) = put_given n spot e
  statement_given n (crate_call spot k e) = crate_given n spot k e
  statement_given n (lam_call spot k l) = lam_call_given n spot k l
  statement_given n (choose spot c a) = choose_given n spot c a (block_given n a)
  statement_given n (choose_else spot c a b) = choose_else_given n spot c a b (block_given n a) (block_given n b)
  statement_given n (for_ spot x e1 e2 ks b) = count_given n spot x e1 e2 ks b (block_given n b)
  statement_given n (for_each spot x a e b) = each_given n spot x a e b (block_given n b)
  statement_given n (while_ spot c t x ks b) = while_given n spot c t x ks b (block_given n b)
  statement_given n (locked spot e b) = locked_given n spot e b (block_given n b)
  statement_given n (call spot p es) = call_given n spot p es

  block_given : (n : Names) (b : Block) → AreGiven n b
  block_given n done = done_given n
  block_given n (next x b) = next_given n x b (statement_given n x) (block_given n b)

-- a body in its braces
pub body_given : (n : Names) (b : Block) (room : ℕ) (s0 : State) → let s : State = hushed s0 in (rest : List Token) (j k m : ℕ) → RunsBraced n s j k m room b → Prefix s.rest (spell.braced (spell.block n b)) rest → block_at room s ≡ ok (listed b) (left_at n s rest k m)
body_given n b room s0 rest j k m c f = let s : State = hushed s0 in braced_given n b (block_given n b) room s rest j k m c f
