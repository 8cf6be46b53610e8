-- Transfers, calls, statements and blocks that are read are spelled so.
use Rattle.std.proofs.Common.{◌≡◌, ℕ, zero, suc, Bool, true, false, cond, List, [], ◌∷◌, ◌++◌, Option, Some, None, Ok, refl, sym, subst, ap, not, ◌∙◌, append_assoc}
use Rattle.std.proofs.lemmas.List.{append-nil}
use Rattle.std.proofs.lemmas.Slice.Eq.{bytes_eq-Decides}
use Rattle.camac_lang.specs.Tree.{Expression, Statement, address_scan, q_stop, q_repeat, call, Text, number, choose, choose_else, for_, for_each, while_, locked, Condition}
use Rattle.camac_lang.specs.declared.spot.Spot.{Spot}
use Rattle.camac_lang.specs.View.{block_of}
use Rattle.camac_lang.specs.declared.word.WordSize.TheVariants.{Full, Short}
use Rattle.camac_tokens.specs.declared.fault.Limit.TheVariants as limit
use Rattle.camac_tokens.specs.declared.fault.TextCase.TheVariants as text_case
use Rattle.camac_tokens.specs.declared.token.Keyword.{Keyword}
use Rattle.camac_tokens.specs.declared.token.Keyword.TheVariants as keyword
use Rattle.camac_tokens.specs.declared.token.Sign.TheVariants as mark
use Rattle.camac_tokens.specs.declared.token.TokenKind.{TokenKind}
use Rattle.camac_tokens.specs.declared.token.TokenKind.TheVariants as kind
use Rattle.camac_tokens.specs.declared.token.Sign.{Sign}
use Rattle.camac_text_cursor.specs.declared.choice.Choice.TheVariants as choice
use Rattle.camac_text_cursor.specs.Reading.{State, Reader, ◌>>=◌, give, fail, kind_of, spot_of, advance, past, unexpected, ◌>>◌, miss, one_more, many, missed}
use Rattle.camac_text_cursor.specs.Readers.{begin, is_sign, expect, expect_sign, function_number, used_register, used_variable, used_table, procedure_here, called, each_word, is_each, any_number}
use Rattle.camac_text_cursor.proofs.Steps.{then_ok, err_no_ok, ok_is, while_keeps}
use Rattle.camac_text_cursor.proofs.Moves.{function_ok, any_number_ok, check_ok}
use Rattle.camac_text_phrases.specs.Arguments.{argument_after, more_arguments, arguments_at, counted_sign, shows_more}
use Rattle.camac_text_phrases.specs.Expressions.{expression_at}
use Rattle.camac_text_phrases.specs.Conditions.{condition_at}
use Rattle.camac_text_phrases.specs.declared.keeping.Own.TheVariants as of_loop
use Rattle.camac_text_phrases.specs.Keeps.{keeps_at}
use Rattle.camac_text_statements.specs.Statements.{transfer_by, else_by, if_statement, single_number, for_ends, each_ends, ends_by, for_statement, while_statement, lock_statement, nested_by, statement_by, statement_with, is_no_end, block_at}
use Rattle.camac_text_statements.specs.Transfers.{last_bound, table_by, table_at, scan_statement, q_stop_statement, q_repeat_statement, call_statement}
use Rattle.camac_text_statements.proofs.LoopsRead.{number_of}
use Rattle.camac_text_spelling.specs.Pieces.{Piece, word, sign, separated, Names, first_word, name, name_at}
use Rattle.camac_text_spelling.specs.Phrases as phrase
use Rattle.camac_text_spelling.specs.Statements as spell
use Rattle.camac_text_spelling.proofs.Takes.{Took, join, returns, nothing, then_missed, took_one, took_token, took_word, took_sign, took_register, took_variable, took_table, sees_procedure, took_called, sign_is, missed_then, separated_push}
use Rattle.camac_text_spelling.proofs.SpelledPhrases.{took_expression, took_begin, took_crate_call, took_assignment, took_setting, took_single, took_put, took_condition, took_keeps}

-- Transfers and calls of procedures that are read are spelled so.

-- ---- transfers

abbrev bounded : Names → Keyword → Expression × ℕ → List Piece
bounded n w end = word w ∷ (phrase.expression n end.0 ++ phrase.tally n end.1)

took_bound : {n : Names} (w : Keyword) (room : ℕ) (s : State) (y : (Expression × ℕ) × State) → last_bound w room s ≡ Ok y → Took n s (bounded n w y.0) y.1
unfolding last_bound
took_bound {n} w room s y e =
    let a = then_ok (expect w s) _ y e in
    let b = then_ok (expression_at room a.0.1) _ y a.2 in
    let c = then_ok (expect keyword.Tally b.0.1) _ y b.2 in
    let d = then_ok (used_variable c.0.1) (λ x. give (b.0.0, x)) y c.2 in
    returns {x = (b.0.0, d.0.0)} (bounded n w) d.2 (join (took_word w s a.0 a.1) (join (took_expression room a.0.1 b.0 b.1) (join (took_word keyword.Tally b.0.1 c.0 c.1) (took_variable c.0.1 d.0 d.1))))

took_table_by : {n : Names} (k : Option TokenKind) (s : State) (y : Option ℕ × State) → kind_of s.rest ≡ k → table_by k s ≡ Ok y → Took n s (phrase.table n y.0) y.1
took_table_by {n} (Some (kind.Keyword keyword.Table)) s y next e =
    let u : State = past s in
    let m = then_ok (used_table u) (λ place. give (Some place)) y e in
    returns {x = Some m.0.0} (phrase.table n) m.2 (join (took_one {s' = u} next refl) (took_table u m.0 m.1))
took_table_by {n} _ s y next e = returns {x = None} (phrase.table n) e (then_missed (choice.Word keyword.Table) (nothing n s))

took_write : {n : Names} (s : State) (y : Option ℕ × State) → table_at s ≡ Ok y → Took n s (phrase.table n y.0) y.1
unfolding table_at
took_write s y e = took_table_by (kind_of s.rest) s y refl e

took_scanning : {n : Names} (room : ℕ) (s : State) (y : Statement × State) → kind_of s.rest ≡ Some (kind.Keyword keyword.Cfmad) → scan_statement room (spot_of s.rest s.end_line) s ≡ Ok y → Took n s (spell.statement n y.0) y.1
unfolding scan_statement
took_scanning {n} room s y next e =
    let spot : Spot = spot_of s.rest s.end_line in
    let a = then_ok (begin s) _ y e in
    let f = then_ok (function_number a.0.1) _ y a.2 in
    let r = then_ok (used_register f.0.1) _ y f.2 in
    let l = then_ok (used_register r.0.1) _ y r.2 in
    let b = then_ok (last_bound keyword.Max room l.0.1) (λ end. give (address_scan spot f.0.0 r.0.0 l.0.0 end.0 end.1)) y l.2 in
    returns {x = address_scan spot f.0.0 r.0.0 l.0.0 b.0.0.0 b.0.0.1} (spell.statement n) b.2
    (join (took_begin s (kind.Keyword keyword.Cfmad) a.0 next a.1) (join (took_token (function_ok a.0.1 f.0 f.1).one) (join (took_register f.0.1 r.0 r.1) (join (took_register r.0.1 l.0 l.1) (took_bound keyword.Max room l.0.1 b.0 b.1)))))

took_stopping : {n : Names} (room : ℕ) (s : State) (y : Statement × State) → kind_of s.rest ≡ Some (kind.Keyword keyword.Cfubc) → q_stop_statement room (spot_of s.rest s.end_line) s ≡ Ok y → Took n s (spell.statement n y.0) y.1
unfolding q_stop_statement
took_stopping {n} room s y next e =
    let spot : Spot = spot_of s.rest s.end_line in
    let a = then_ok (begin s) _ y e in
    let f = then_ok (function_number a.0.1) _ y a.2 in
    let r = then_ok (used_register f.0.1) _ y f.2 in
    let g = then_ok (table_at r.0.1) _ y r.2 in
    let b = then_ok (last_bound keyword.Max room g.0.1) (λ end. give (q_stop spot f.0.0 r.0.0 g.0.0 end.0 end.1)) y g.2 in
    returns {x = q_stop spot f.0.0 r.0.0 g.0.0 b.0.0.0 b.0.0.1} (spell.statement n) b.2
    (join (took_begin s (kind.Keyword keyword.Cfubc) a.0 next a.1) (join (took_token (function_ok a.0.1 f.0 f.1).one) (join (took_register f.0.1 r.0 r.1) (join (took_write r.0.1 g.0 g.1) (took_bound keyword.Max room g.0.1 b.0 b.1)))))

took_q_repeat : {n : Names} (room : ℕ) (s : State) (y : Statement × State) → kind_of s.rest ≡ Some (kind.Keyword keyword.Cfubr) → q_repeat_statement room (spot_of s.rest s.end_line) s ≡ Ok y → Took n s (spell.statement n y.0) y.1
unfolding q_repeat_statement
took_q_repeat {n} room s y next e =
    let spot : Spot = spot_of s.rest s.end_line in
    let a = then_ok (begin s) _ y e in
    let f = then_ok (function_number a.0.1) _ y a.2 in
    let r = then_ok (used_register f.0.1) _ y f.2 in
    let g = then_ok (table_at r.0.1) _ y r.2 in
    let w = then_ok (expect keyword.Max g.0.1) _ y g.2 in
    let m = then_ok (expression_at room w.0.1) _ y w.2 in
    let b = then_ok (last_bound keyword.Limit room m.0.1) (λ end. give (q_repeat spot f.0.0 r.0.0 g.0.0 m.0.0 end.0 end.1)) y m.2 in
    let most : Took n g.0.1 (phrase.most n m.0.0 ++ bounded n keyword.Limit b.0.0) b.0.1 = join (took_word keyword.Max g.0.1 w.0 w.1) (join (took_expression room w.0.1 m.0 m.1) (took_bound keyword.Limit room m.0.1 b.0 b.1)) in
    returns {x = q_repeat spot f.0.0 r.0.0 g.0.0 m.0.0 b.0.0.0 b.0.0.1} (spell.statement n) b.2
    (join (took_begin s (kind.Keyword keyword.Cfubr) a.0 next a.1) (join (took_token (function_ok a.0.1 f.0 f.1).one) (join (took_register f.0.1 r.0 r.1) (join (took_write r.0.1 g.0 g.1) most))))

-- ---- calls

abbrev listed : Names → List Expression → List Piece
listed n es = separated (sign mark.Comma) (phrase.expression n) es

counted_took : {n : Names} (on shown : Bool) (w : Sign) (wanted : ℕ) (s : State) (y : Unit {0} × State) → is_sign w (kind_of s.rest) ≡ on → cond on advance (cond shown (fail (text_case.ArgumentCount wanted)) (unexpected (choice.Mark w))) s ≡ Ok y → Took n s (sign w ∷ []) y.1
counted_took true shown w wanted s y is e = took_one (sign_is w (kind_of s.rest) is) (sym (ap (λ (p : Unit {0} × State). p.1) (ok_is _ y e)))
counted_took false true w wanted s y is e = absurd (err_no_ok _ _ e)
counted_took false false w wanted s y is e = absurd (err_no_ok _ _ e)

took_counted : {n : Names} (w : Sign) (shows : Option TokenKind → Bool) (wanted : ℕ) (s : State) (y : Unit {0} × State) → counted_sign w shows wanted s ≡ Ok y → Took n s (sign w ∷ []) y.1
unfolding counted_sign
took_counted w shows wanted s y e = counted_took (is_sign w (kind_of s.rest)) (shows (kind_of s.rest)) w wanted s y refl e

first_took : {n : Names} (b : Bool) (wanted room : ℕ) (u : State) (y : Expression × State) → cond b (fail (text_case.ArgumentCount wanted)) (expression_at room) u ≡ Ok y → Took n u (phrase.expression n y.0) y.1
first_took true wanted room u y e = absurd (err_no_ok _ _ e)
first_took false wanted room u y e = took_expression room u y e

-- an argument after these
took_argument : {n : Names} (wanted room : ℕ) (es : List Expression) (s u : State) (y : Expression × State) → Took n s (listed n es) u → argument_after wanted room es u ≡ Ok y → Took n s (listed n (es ++ y.0 ∷ [])) y.1
took_argument {n} wanted room [] s u y before e = subst (λ (ps : List Piece). Took n s ps y.1) (sym (append-nil (phrase.expression n y.0))) (join before (first_took (is_sign mark.RightBracket (kind_of u.rest)) wanted room u y e))
took_argument {n} wanted room (x ∷ xs) s u y before e =
    let a = then_ok (counted_sign mark.Comma (is_sign mark.RightBracket) wanted u) (λ _. expression_at room) y e in
    subst (λ (ps : List Piece). Took n s ps y.1) (sym (separated_push (sign mark.Comma) (phrase.expression n) x xs y.0)) (join before (join (took_counted mark.Comma (is_sign mark.RightBracket) wanted u a.0 a.1) (took_expression room a.0.1 y a.2)))

took_more : {n : Names} (wanted room m : ℕ) (es : List Expression) (s u : State) (y : List Expression × State) → Took n s (listed n es) u → more_arguments wanted room m es u ≡ Ok y → Took n s (listed n y.0) y.1
unfolding more_arguments
took_more {n} wanted room zero es s u y before e = returns {x = es} (listed n) e before
took_more {n} wanted room (suc m) es s u y before e =
    let a = then_ok (argument_after wanted room es u) _ y e in
    took_more wanted room m (es ++ a.0.0 ∷ []) s a.0.1 y (took_argument wanted room es s u a.0 before a.1) a.2

no_room : (b : Bool) (s : State) (y : List Expression × State) → cond b (fail (text_case.Limit limit.Depth)) (unexpected (choice.Mark mark.LeftBracket)) s ≡ Ok y → ⊥
no_room true s y e = err_no_ok _ _ e
no_room false s y e = err_no_ok _ _ e

abbrev in_brackets : Names → List Expression → List Piece
in_brackets n es = sign mark.LeftBracket ∷ (listed n es ++ sign mark.RightBracket ∷ [])

took_arguments : {n : Names} (room m : ℕ) (s : State) (y : List Expression × State) → arguments_at room m s ≡ Ok y → Took n s (in_brackets n y.0) y.1
unfolding arguments_at
took_arguments zero m s y e = absurd (no_room (is_sign mark.LeftBracket (kind_of s.rest)) s y e)
took_arguments {n} (suc room) m s y e =
    let a = then_ok (expect_sign mark.LeftBracket s) _ y e in
    let b = then_ok (more_arguments m room m [] a.0.1) _ y a.2 in
    let c = then_ok (counted_sign mark.RightBracket (shows_more m) m b.0.1) (λ _. give b.0.0) y b.2 in
    returns {x = b.0.0} (in_brackets n) c.2 (join (took_sign mark.LeftBracket s a.0 a.1) (join (took_more m room m [] a.0.1 a.0.1 b.0 (nothing n a.0.1) b.1) (took_counted mark.RightBracket (shows_more m) m b.0.1 c.0 c.1)))

took_calling : {n : Names} (room : ℕ) (s : State) (y : Statement × State) → kind_of s.rest ≡ Some (kind.Keyword keyword.Call) → call_statement room (spot_of s.rest s.end_line) s ≡ Ok y → Took n s (spell.statement n y.0) y.1
unfolding call_statement
took_calling {n} room s y next e =
    let spot : Spot = spot_of s.rest s.end_line in
    let a = then_ok (begin s) _ y e in
    let p = then_ok (procedure_here a.0.1) (λ place. called room place >>= λ wanted. arguments_at room wanted >>= λ es. give (call spot place es)) y a.2 in
    let here = sees_procedure {n = n} a.0.1 p.0 p.1 in
    let rest : Reader Statement = called room p.0.0 >>= λ wanted. arguments_at room wanted >>= λ es. give (call spot p.0.0 es) in
    let at : rest a.0.1 ≡ Ok y = subst (λ (u : State). rest u ≡ Ok y) here.left p.2 in
    let q = then_ok (called room p.0.0 a.0.1) (λ wanted. arguments_at room wanted >>= λ es. give (call spot p.0.0 es)) y at in
    let b = then_ok (arguments_at room q.0.0 q.0.1) (λ es. give (call spot p.0.0 es)) y q.2 in
    returns {x = call spot p.0.0 b.0.0} (spell.statement n) b.2
    (join (took_begin s (kind.Keyword keyword.Call) a.0 next a.1) (join (took_called room p.0.0 a.0.1 p.0.1 q.0 here q.1) (took_arguments room q.0.0 q.0.1 b.0 b.1)))

pub took_transfer_by : {n : Names} (room : ℕ) (s : State) (k : Option TokenKind) (y : Statement × State) → kind_of s.rest ≡ k → transfer_by room (spot_of s.rest s.end_line) k s ≡ Ok y → Took n s (spell.statement n y.0) y.1
took_transfer_by room s (Some (kind.Keyword keyword.Cfmad)) y next e = took_scanning room s y next e
took_transfer_by room s (Some (kind.Keyword keyword.Cfubc)) y next e = took_stopping room s y next e
took_transfer_by room s (Some (kind.Keyword keyword.Cfubr)) y next e = took_q_repeat room s y next e
took_transfer_by room s (Some (kind.Keyword keyword.Call)) y next e = took_calling room s y next e
took_transfer_by room s k y next e = took_crate_call room s k y next e

-- Statements and blocks that are read are spelled so.

abbrev body : Names → List Statement → List Piece
body n xs = spell.block n (block_of xs)

abbrev in_braces : Names → List Statement → List Piece
in_braces n xs = spell.braced (body n xs)

module _ (n : Names) (room : ℕ) (block : Reader (List Statement)) (block_took : (s : State) (y : List Statement × State) → block s ≡ Ok y → Took n s (in_braces n y.0) y.1) where
  took_else : (s : State) (spot : Spot) (c : Condition) (xs : List Statement) (u : State) (k : Option TokenKind) (y : Statement × State) → Took n s (first_word spot keyword.If ∷ (phrase.condition n c ++ in_braces n xs)) u → kind_of u.rest ≡ k → else_by block spot c xs k u ≡ Ok y → Took n s (spell.statement n y.0) y.1
  took_else s spot c xs u (Some (kind.Keyword keyword.Else)) y before next e =
      let v : State = past u in
      let m = then_ok (block v) (λ other. give (choose_else spot c (block_of xs) (block_of other))) y e in
      let all : Took n s ((first_word spot keyword.If ∷ (phrase.condition n c ++ in_braces n xs)) ++ (word keyword.Else ∷ in_braces n m.0.0)) m.0.1 = join before (join (took_one {s' = v} next refl) (block_took v m.0 m.1)) in
      returns {x = choose_else spot c (block_of xs) (block_of m.0.0)} (spell.statement n) m.2
      (subst (λ (ps : List Piece). Took n s (first_word spot keyword.If ∷ ps) m.0.1) (append_assoc (phrase.condition n c) (in_braces n xs) (word keyword.Else ∷ in_braces n m.0.0)) all)
  took_else s spot c xs u _ y before next e = returns {x = choose spot c (block_of xs)} (spell.statement n) e (then_missed (choice.Word keyword.Else) before)

  took_choice : (s : State) (y : Statement × State) → kind_of s.rest ≡ Some (kind.Keyword keyword.If) → if_statement room block (spot_of s.rest s.end_line) s ≡ Ok y → Took n s (spell.statement n y.0) y.1
  unfolding if_statement
  took_choice s y next e =
      let spot : Spot = spot_of s.rest s.end_line in
      let a = then_ok (begin s) _ y e in
      let c = then_ok (condition_at room a.0.1) _ y a.2 in
      let b = then_ok (block c.0.1) _ y c.2 in
      took_else s spot c.0.0 b.0.0 b.0.1 (kind_of b.0.1.rest) y
      (join (took_begin s (kind.Keyword keyword.If) a.0 next a.1) (join (took_condition room a.0.1 c.0 c.1) (block_took c.0.1 b.0 b.1))) refl b.2

  -- what is read behind the ends of a `for` is spelled behind them
  record Ended (spot : Spot) (own : ℕ) (first last : Expression) (s : State) (y : Statement × State) : Type 0 where
    pieces : List Piece
    took : Took n s pieces y.1
    same : spell.statement n y.0 ≡ first_word spot keyword.For ∷ name_at n.variables own ∷ sign mark.Equals ∷ (phrase.expression n first ++ word keyword.To ∷ (phrase.expression n last ++ pieces))

  for_ended : (spot : Spot) (own : ℕ) (first last : Expression) (s : State) (y : Statement × State) → for_ends block spot own first last s ≡ Ok y → Ended spot own first last s y
  for_ended spot own first last s y e =
      let k = then_ok (keeps_at (of_loop.Counter own) s) _ y e in
      let b = then_ok (block k.0.1) (λ xs. give (for_ spot own first last k.0.0 (block_of xs))) y k.2 in
      subst (λ (p : Statement × State). Ended spot own first last s p) (ok_is (for_ spot own first last k.0.0 (block_of b.0.0), b.0.1) y b.2)
      (record {
        pieces = phrase.keeps n k.0.0 ++ in_braces n b.0.0;
        took = join (took_keeps (of_loop.Counter own) s k.0 k.1) (block_took k.0.1 b.0 b.1);
        same = refl;
      })

  each_is : (k : Option TokenKind) → is_each k ≡ true → k ≡ Some (kind.Name each_word)
  each_is (Some (kind.Name x)) is = ap (λ (w : Text). Some (kind.Name w)) ((bytes_eq-Decides x each_word).0 is)
  each_is _ is = absurd cc

  each_ended : (spot : Spot) (own : ℕ) (first last : Expression) (a b : ℕ) (s : State) (y : Statement × State) → first ≡ number a → last ≡ number b → kind_of s.rest ≡ Some (kind.Name each_word) → each_ends block spot own a b s ≡ Ok y → Ended spot own first last s y
  each_ended spot own first last a b s y is_first is_last next e =
      let u : State = past s in
      let d = then_ok (block u) (λ xs. give (for_each spot own a b (block_of xs))) y e in
      subst (λ (p : Statement × State). Ended spot own first last s p) (ok_is (for_each spot own a b (block_of d.0.0), d.0.1) y d.2)
      (record {
        pieces = name each_word ∷ in_braces n d.0.0;
        took = join (took_one {s' = u} next refl) (block_took u d.0 d.1);
        same = rw (is_first, is_last) refl;
      })

  missed_ended : (spot : Spot) (own : ℕ) (first last : Expression) (s : State) (y : Statement × State) → Ended spot own first last (missed choice.Each s) y → Ended spot own first last s y
  missed_ended spot own first last s y r = record { pieces = r.pieces; took = missed_then choice.Each r.took; same = r.same }

  chosen_ended : (is_next : Bool) (spot : Spot) (own : ℕ) (first last : Expression) (a b : ℕ) (s : State) (y : Statement × State) → first ≡ number a → last ≡ number b → is_each (kind_of s.rest) ≡ is_next → cond is_next (each_ends block spot own a b) (miss choice.Each >> for_ends block spot own first last) s ≡ Ok y → Ended spot own first last s y
  chosen_ended true spot own first last a b s y is_first is_last next e = each_ended spot own first last a b s y is_first is_last (each_is (kind_of s.rest) next) e
  chosen_ended false spot own first last a b s y is_first is_last next e = missed_ended spot own first last s y (for_ended spot own first last (missed choice.Each s) y e)

  ended : (spot : Spot) (own : ℕ) (first last : Expression) (o p : Option ℕ) (s : State) (y : Statement × State) → single_number first ≡ o → single_number last ≡ p → ends_by block spot own first last o p s ≡ Ok y → Ended spot own first last s y
  ended spot own first last (Some a) (Some b) s y is_first is_last e = chosen_ended (is_each (kind_of s.rest)) spot own first last a b s y (number_of first a is_first) (number_of last b is_last) refl e
  ended spot own first last _ _ s y is_first is_last e = for_ended spot own first last s y e

  took_for : (s : State) (y : Statement × State) → kind_of s.rest ≡ Some (kind.Keyword keyword.For) → for_statement room block (spot_of s.rest s.end_line) s ≡ Ok y → Took n s (spell.statement n y.0) y.1
  unfolding for_statement
  took_for s y next e =
      let spot : Spot = spot_of s.rest s.end_line in
      let a = then_ok (begin s) _ y e in
      let x = then_ok (used_variable a.0.1) _ y a.2 in
      let q = then_ok (expect_sign mark.Equals x.0.1) _ y x.2 in
      let f = then_ok (expression_at room q.0.1) _ y q.2 in
      let w = then_ok (expect keyword.To f.0.1) _ y f.2 in
      let l = then_ok (expression_at room w.0.1) (λ last. ends_by block spot x.0.0 f.0.0 last (single_number f.0.0) (single_number last)) y w.2 in
      let r = ended spot x.0.0 f.0.0 l.0.0 (single_number f.0.0) (single_number l.0.0) l.0.1 y refl refl l.2 in
      subst (λ (ps : List Piece). Took n s ps y.1) (sym r.same)
      (join (took_begin s (kind.Keyword keyword.For) a.0 next a.1) (join (took_variable a.0.1 x.0 x.1) (join (took_sign mark.Equals x.0.1 q.0 q.1)
      (join (took_expression room q.0.1 f.0 f.1) (join (took_word keyword.To f.0.1 w.0 w.1) (join (took_expression room w.0.1 l.0 l.1) r.took))))))

  took_while : (s : State) (y : Statement × State) → kind_of s.rest ≡ Some (kind.Keyword keyword.While) → while_statement room block (spot_of s.rest s.end_line) s ≡ Ok y → Took n s (spell.statement n y.0) y.1
  unfolding while_statement
  took_while s y next e =
      let spot : Spot = spot_of s.rest s.end_line in
      let a = then_ok (begin s) _ y e in
      let c = then_ok (condition_at room a.0.1) _ y a.2 in
      let w = then_ok (expect keyword.Turns c.0.1) _ y c.2 in
      let t = then_ok (any_number w.0.1) _ y w.2 in
      let v = then_ok (expect keyword.By t.0.1) _ y t.2 in
      let m = then_ok (used_variable v.0.1) _ y v.2 in
      let k = then_ok (keeps_at (of_loop.Measure m.0.0) m.0.1) _ y m.2 in
      let b = then_ok (block k.0.1) (λ xs. give (while_ spot c.0.0 t.0.0 m.0.0 k.0.0 (block_of xs))) y k.2 in
      returns {x = while_ spot c.0.0 t.0.0 m.0.0 k.0.0 (block_of b.0.0)} (spell.statement n) b.2
      (join (took_begin s (kind.Keyword keyword.While) a.0 next a.1) (join (took_condition room a.0.1 c.0 c.1) (join (took_word keyword.Turns c.0.1 w.0 w.1)
      (join (took_token (any_number_ok w.0.1 t.0 t.1)) (join (took_word keyword.By t.0.1 v.0 v.1) (join (took_variable v.0.1 m.0 m.1)
      (join (took_keeps (of_loop.Measure m.0.0) m.0.1 k.0 k.1) (block_took k.0.1 b.0 b.1))))))))

  took_locking : (s : State) (y : Statement × State) → kind_of s.rest ≡ Some (kind.Keyword keyword.Lock) → lock_statement room block (spot_of s.rest s.end_line) s ≡ Ok y → Took n s (spell.statement n y.0) y.1
  unfolding lock_statement
  took_locking s y next e =
      let spot : Spot = spot_of s.rest s.end_line in
      let outside = check_ok (not s.in_procedure) _ _ s y e in
      let a = then_ok (begin s) _ y outside.1 in
      let c = then_ok (expression_at room a.0.1) _ y a.2 in
      let b = then_ok (block c.0.1) (λ xs. give (locked spot c.0.0 (block_of xs))) y c.2 in
      returns {x = locked spot c.0.0 (block_of b.0.0)} (spell.statement n) b.2
      (join (took_begin s (kind.Keyword keyword.Lock) a.0 next a.1) (join (took_expression room a.0.1 c.0 c.1) (block_took c.0.1 b.0 b.1)))

  took_nested : (s : State) (k : Option TokenKind) (y : Statement × State) → kind_of s.rest ≡ k → nested_by room block (spot_of s.rest s.end_line) k s ≡ Ok y → Took n s (spell.statement n y.0) y.1
  took_nested s (Some (kind.Keyword keyword.If)) y next e = took_choice s y next e
  took_nested s (Some (kind.Keyword keyword.For)) y next e = took_for s y next e
  took_nested s (Some (kind.Keyword keyword.While)) y next e = took_while s y next e
  took_nested s (Some (kind.Keyword keyword.Lock)) y next e = took_locking s y next e
  took_nested s k y next e = took_transfer_by room s k y next e

  took_statement_by : (s : State) (k : Option TokenKind) (y : Statement × State) → kind_of s.rest ≡ k → statement_by room block (spot_of s.rest s.end_line) k s ≡ Ok y → Took n s (spell.statement n y.0) y.1
  took_statement_by s (Some (kind.Name x)) y next e = missed_then choice.Statement (took_assignment room (missed choice.Statement s) y e)
  took_statement_by s (Some (kind.Keyword keyword.Cdreg)) y next e = took_setting room s y next e
  took_statement_by s (Some (kind.Keyword keyword.Cfsa)) y next e = took_single Full room s y next e
  took_statement_by s (Some (kind.Keyword keyword.Cssa)) y next e = took_single Short room s y next e
  took_statement_by s (Some (kind.Keyword keyword.Put)) y next e = took_put room s y next e
  took_statement_by s k y next e = took_nested s k y next e

  pub took_statement : (s : State) (y : Statement × State) → statement_with room block s ≡ Ok y → Took n s (spell.statement n y.0) y.1
  unfolding statement_with
  took_statement s y e = missed_then (choice.Mark mark.RightBrace) (took_statement_by (missed (choice.Mark mark.RightBrace) s) (kind_of s.rest) y refl e)

-- ---- blocks

block_push : (n : Names) (xs : List Statement) (x : Statement) → body n (xs ++ x ∷ []) ≡ body n xs ++ spell.statement n x
block_push n [] x = append-nil (spell.statement n x)
block_push n (y ∷ ys) x = ap (λ (w : List Piece). spell.statement n y ++ w) (block_push n ys x) ∙ sym (append_assoc (spell.statement n y) (body n ys) (spell.statement n x))

took_turn : (n : Names) (room : ℕ) (block : Reader (List Statement)) → ((s : State) (y : List Statement × State) → block s ≡ Ok y → Took n s (in_braces n y.0) y.1) → (s : State) (xs : List Statement) (u : State) (y : List Statement × State) → Took n s (body n xs) u → one_more (statement_with room block) xs u ≡ Ok y → Took n s (body n y.0) y.1
took_turn n room block block_took s xs u y before e =
    let m = then_ok (statement_with room block u) (λ x. give (xs ++ x ∷ [])) y e in
    returns {x = xs ++ m.0.0 ∷ []} (body n) m.2 (subst (λ (ps : List Piece). Took n s ps m.0.1) (sym (block_push n xs m.0.0)) (join before (took_statement n room block block_took u m.0 m.1)))

no_room_for_block : (b : Bool) (s : State) (y : List Statement × State) → cond b (fail (text_case.Limit limit.Depth)) (unexpected (choice.Mark mark.LeftBrace)) s ≡ Ok y → ⊥
no_room_for_block true s y e = err_no_ok _ _ e
no_room_for_block false s y e = err_no_ok _ _ e

pub took_block : (n : Names) (room : ℕ) (s : State) (y : List Statement × State) → block_at room s ≡ Ok y → Took n s (in_braces n y.0) y.1
unfolding block_at many
took_block n zero s y e = absurd (no_room_for_block (is_sign mark.LeftBrace (kind_of s.rest)) s y e)
took_block n (suc room) s y e =
    let read : Reader Statement = statement_with room (block_at room) in
    let a = then_ok (expect_sign mark.LeftBrace s) _ y e in
    let b = then_ok (many is_no_end read a.0.1) _ y a.2 in
    let c = then_ok (expect_sign mark.RightBrace b.0.1) (λ _. give b.0.0) y b.2 in
    let inside = while_keeps (λ (xs : List Statement) (u : State). Took n a.0.1 (body n xs) u) is_no_end (one_more read) (λ xs u ys v before on took. took_turn n room (block_at room) (took_block n room) a.0.1 xs u (ys, v) before took) [] a.0.1 b.0 (nothing n a.0.1) b.1 in
    returns {x = b.0.0} (in_braces n) c.2 (join (took_sign mark.LeftBrace s a.0 a.1) (join inside (took_sign mark.RightBrace b.0.1 c.0 c.1)))
