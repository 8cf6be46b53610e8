-- Declarations and whole scripts that are read are spelled so.
use Rattle.std.proofs.Common.{◌≡◌, ℕ, ◌+◌, nat_lt, List, [], ◌∷◌, ◌++◌, map, length, Option, Some, Ok, refl, sym, ap, subst, ◌∙◌, append_assoc, length-append, zero, suc, ◌<◌, Bool, true, false, cond, Result, Err, arith}
use Rattle.std.proofs.lemmas.List.{append-nil, map_push, map-append}
use Rattle.std.specs.Prelude.{codes}
use Rattle.camac_lang.specs.Tree.{Text, Table, Lam, Procedure, Service, next_variables, Script, on_line}
use Rattle.camac_lang.specs.View.{block_of}
use Rattle.camac_lang.specs.declared.spot.Spot.{Spot}
use Rattle.camac_lang.specs.Scope.{is_well_formed}
use Rattle.camac_tokens.specs.declared.token.Keyword.TheVariants as keyword
use Rattle.camac_tokens.specs.declared.token.Sign.TheVariants as mark
use Rattle.camac_tokens.specs.declared.token.Token.{Token}
use Rattle.camac_tokens.specs.declared.token.TokenKind.{TokenKind}
use Rattle.camac_tokens.specs.declared.token.TokenKind.TheVariants as kind
use Rattle.camac_tokens.specs.Fault.{Fault}
use Rattle.camac_tokens.specs.Scanning.{tokens_of, last_line, spot_at, start_of, tokens_from}
use Rattle.camac_tokens.specs.Words.{keyword as keyword_of}
use Rattle.camac_text_cursor.specs.declared.choice.Choice.TheVariants as choice
use Rattle.camac_text_cursor.specs.Reading.{State, give, change, kind_of, spot_of, after_first, advance, Reader, ◌>>◌, past, until, ◌>>=◌, turns, while_next, Fault as Failure}
use Rattle.camac_text_cursor.specs.Readers.{is_number, new_name, new_variable, is_name, expect, any_number, branch_number, sub_address_number, used_lam, expect_sign, number_here}
use Rattle.camac_text_cursor.specs.Declaring.{with_lam as lam_added, with_variables_of, with_service as service_added, with_table as table_added, tree_so_far}
use Rattle.camac_text_cursor.proofs.Steps.{then_ok, ok_is, err_no_ok, while_keeps, until_keeps, Progresses}
use Rattle.camac_text_cursor.proofs.Moves.{check_ok, any_number_ok, sub_address_ok, new_name_ok, number_ok}
use Rattle.camac_text_statements.specs.Statements.{block_at}
use Rattle.camac_text.specs.Declarations.{lam_declaration, one_more_variable, variable_declaration, service_declaration, declaration_by, declaration_at, is_token, declarations_at}
use Rattle.camac_text.specs.Tables.{word_after, one_more_word, table_words, table_declaration}
use Rattle.camac_text.specs.Parser.{start, tree_in, tree_of_tokens, tree_after, script_of}
use Rattle.camac_text.proofs.Variables.{DeclaresOne, new_variable_ok}
use Rattle.camac_text.proofs.Extends.{Extends, itself}
use Rattle.camac_text.proofs.Declares.{declarations_progress}
use Rattle.camac_text.proofs.WellFormed.{read_well_formed}
use Rattle.camac_text_spelling.specs.Pieces.{Piece, first_word, numeral, name, text_at, Prefix, Names}
use Rattle.camac_text_spelling.specs.Declarations as spell
use Rattle.camac_text_spelling.specs.Declarations.{service_names, script}
use Rattle.camac_text_spelling.specs.Spells.{Spells, IsSpelled, ReadIsSpelled, example_text, example_tree}
use Rattle.camac_text_spelling.proofs.Takes.{prefix_join, prefix_token, prefix_begin, found_named, found_lam, found_table, found_procedure, KnowsNames, Took, join, returns, took_one, took_first, took_token, took_word, took_sign, took_branch, took_lam, then_missed}
use Rattle.camac_text_spelling.proofs.SpelledProcedures.{procedure_spelled, Declares, with_table, declares_table, with_lam, declares_lam, declares_variables, with_service, declares_service, Sofar, one_more}
use Rattle.camac_text_spelling.proofs.SpelledStatements.{took_block}

-- Declarations that are read are spelled so, and the whole script.

-- ---- names

-- a tree with these declarations tells the names, and the service those of its registers
tells_names : (s : State) (t : Script) (v : Service) → Extends (tree_so_far s) t → v.registers ≡ s.registers → KnowsNames (service_names t v) s
tells_names s t v x same = record {
  variables = λ z p e. found_named z p s.variables x.variables e ∙ ap (λ (xs : List Text). text_at xs p) (sym x.variables_are);
  registers = λ z p e. found_named z p s.registers [] e ∙ ap (λ (xs : List Text). text_at xs p) (append-nil s.registers ∙ sym same);
  lams = λ z p e.
      found_lam z p s.lams (map (λ (l : Lam). l.name) x.lams) e
      ∙ ap (λ (xs : List Text). text_at xs p) (sym (map-append (λ (l : Lam). l.name) s.lams x.lams) ∙ ap (map (λ (l : Lam). l.name)) (sym x.lams_are));
  tables = λ z p e.
      found_table z p s.tables (map (λ (g : Table). g.name) x.tables) e
      ∙ ap (λ (xs : List Text). text_at xs p) (sym (map-append (λ (g : Table). g.name) s.tables x.tables) ∙ ap (map (λ (g : Table). g.name)) (sym x.tables_are));
  procedures = λ z p e.
      found_procedure z p s.procedures (map (λ (q : Procedure). q.name) x.procedures) e
      ∙ ap (λ (xs : List Text). text_at xs p) (sym (map-append (λ (q : Procedure). q.name) s.procedures x.procedures) ∙ ap (map (λ (q : Procedure). q.name)) (sym x.procedures_are));
}

abbrev own : State → Service
own s = record { spot = on_line 0; lam = 0; cycles = 0; words = 0; registers = s.registers; body = block_of [] }

-- the tokens of what uses no names
plainly : (s : State) (ps : List Piece) (u : State) → Took (service_names (tree_so_far u) (own u)) s ps u → Prefix s.rest ps u.rest
plainly s ps u took = took.prefix (tells_names u (tree_so_far u) (own u) (itself (tree_so_far u)) refl)

-- ---- a LAM

lam_spelled : (s : State) (y : Unit {0} × State) → kind_of s.rest ≡ Some (kind.Keyword keyword.Cdlam) → lam_declaration (spot_of s.rest s.end_line) s ≡ Ok y → Declares (tree_so_far s) s.rest (tree_so_far y.1) y.1.rest
unfolding lam_declaration
lam_spelled s y next e =
    let t : State = past s in
    let c0 = check_ok (nat_lt (length s.lams) 64) _ _ s y e in
    let a = then_ok (new_name t) _ y c0.1 in
    let h = new_name_ok t a.0 a.1 in
    let u : State = past a.0.1 in
    let b = then_ok (branch_number u) _ y a.2 in
    let c = then_ok (any_number b.0.1) _ y b.2 in
    let d = then_ok (any_number c.0.1) _ y c.2 in
    let f = then_ok (sub_address_number d.0.1) _ y d.2 in
    let l : Lam = record { spot = spot_of s.rest s.end_line; name = a.0.0; crate_no = c.0.0; station = d.0.0; sub_address = f.0.0 } in
    let v : State = f.0.1 in
    let took : Took (service_names (tree_so_far v) (own v)) s (spell.lam_declaration l) v =
    join (took_first s (kind.Keyword keyword.Cdlam) next) (join (took_one {s' = u} h.next (ap past h.left)) (join (took_branch u b.0 b.1)
    (join (took_token (any_number_ok b.0.1 c.0 c.1)) (join (took_token (any_number_ok c.0.1 d.0 d.1)) (took_token (sub_address_ok d.0.1 f.0 f.1).one))))) in
    subst (λ (p : Unit {0} × State). Declares (tree_so_far s) s.rest (tree_so_far p.1) p.1.rest) (ok_is (tt, lam_added l v) y f.2)
    (subst (λ (w : Script). Declares w s.rest (with_lam (tree_so_far v) l) v.rest) took.same (declares_lam (tree_so_far v) l s.rest v.rest (plainly s (spell.lam_declaration l) v took)))

-- ---- a table

-- the words so far
words_push : (ws : List ℕ) (w : ℕ) → map numeral (ws ++ w ∷ []) ≡ map numeral ws ++ numeral w ∷ []
words_push ws w = map_push numeral ws w

took_word_of : {n : Names} (count : ℕ) (s : State) (y : ℕ × State) → word_after count s ≡ Ok y → Took n s (numeral y.0 ∷ []) y.1
unfolding word_after
took_word_of {n} count s y e =
    let m = then_ok (number_here s) _ y e in
    let h = number_ok s m.0 m.1 in
    let rest : Reader ℕ = advance >> give m.0.0 in
    let a = check_ok (nat_lt m.0.0 16777216) _ _ m.0.1 y m.2 in
    let b = check_ok (nat_lt count 1024) _ rest m.0.1 y a.1 in
    let one : Took n s (numeral m.0.0 ∷ []) (past m.0.1) = took_one h.0 (ap past h.1) in
    returns {x = m.0.0} (λ w. numeral w ∷ []) b.1 one

took_words : {n : Names} (s : State) (y : List ℕ × State) → table_words s ≡ Ok y → Took n s (map numeral y.0) y.1
unfolding table_words
took_words {n} s y e =
    let m = then_ok (word_after 0 s) (λ first. until choice.Number is_number one_more_word (first ∷ [])) y e in
    until_keeps (λ (ws : List ℕ) (u : State). Took n s (map numeral ws) u) choice.Number (λ ws u took. then_missed choice.Number took) is_number one_more_word (λ ws u vs v so on took.
    let a = then_ok (word_after (length ws) u) (λ w. give (ws ++ w ∷ [])) (vs, v) took in
    returns {x = ws ++ a.0.0 ∷ []} (map numeral) a.2 (subst (λ (ps : List Piece). Took n s ps a.0.1) (sym (words_push ws a.0.0)) (join so (took_word_of (length ws) u a.0 a.1)))) (m.0.0 ∷ []) m.0.1 y (took_word_of 0 s m.0 m.1) m.2

table_spelled : (s : State) (y : Unit {0} × State) → kind_of s.rest ≡ Some (kind.Keyword keyword.Table) → table_declaration (spot_of s.rest s.end_line) s ≡ Ok y → Declares (tree_so_far s) s.rest (tree_so_far y.1) y.1.rest
unfolding table_declaration
table_spelled s y next e =
    let t : State = past s in
    let c0 = check_ok (nat_lt (length s.tables) 16) _ _ s y e in
    let a = then_ok (new_name t) _ y c0.1 in
    let h = new_name_ok t a.0 a.1 in
    let u : State = past a.0.1 in
    let b = then_ok (expect_sign mark.Equals u) _ y a.2 in
    let c = then_ok (table_words b.0.1) _ y b.2 in
    let l : Table = record { spot = spot_of s.rest s.end_line; name = a.0.0; words = c.0.0 } in
    let v : State = c.0.1 in
    let took : Took (service_names (tree_so_far v) (own v)) s (spell.table_declaration l) v =
    join (took_first s (kind.Keyword keyword.Table) next) (join (took_one {s' = u} h.next (ap past h.left)) (join (took_sign mark.Equals u b.0 b.1) (took_words b.0.1 c.0 c.1))) in
    subst (λ (p : Unit {0} × State). Declares (tree_so_far s) s.rest (tree_so_far p.1) p.1.rest) (ok_is (tt, table_added l v) y c.2)
    (subst (λ (w : Script). Declares w s.rest (with_table (tree_so_far v) l) v.rest) took.same (declares_table (tree_so_far v) l s.rest v.rest (plainly s (spell.table_declaration l) v took)))

-- ---- variables

-- so many variables are declared
record Names' (s : State) (count : ℕ) (u : State) : Type 0 where
  names : List Text
  counted : length names ≡ count
  prefix : Prefix s.rest (map name names) u.rest
  tree : tree_so_far u ≡ record (tree_so_far s) { variables = s.variables ++ names }

no_names : (s : State) → Names' s 0 s
no_names s = record { names = []; counted = refl; prefix = refl; tree = ap (λ (xs : List Text). record (tree_so_far s) { variables = xs }) (sym (append-nil s.variables)) }

name_more : (s : State) (n : ℕ) (u : State) (x : Text) (v : State) → Names' s n u → DeclaresOne u x v → Names' s (n + 1) v
name_more s n u x v d one =
    let rest : v.rest ≡ after_first u.rest = ap (λ (w : State). w.rest) one.left in
    let here : Prefix u.rest (name x ∷ []) v.rest = subst (λ (ts : List Token). Prefix u.rest (name x ∷ []) ts) (sym rest) (prefix_token u.rest (kind.Name x) one.next) in
    record {
      names = d.names ++ x ∷ [];
      counted = length-append d.names (x ∷ []) ∙ ap (λ (k : ℕ). k + 1) d.counted;
      prefix = subst (λ (ps : List Piece). Prefix s.rest ps v.rest) (sym (map_push name d.names x)) (prefix_join s.rest (map name d.names) u.rest (name x ∷ []) v.rest d.prefix here);
      tree = ap tree_so_far one.left
          ∙ ap (λ (w : Script). record w { variables = w.variables ++ x ∷ [] }) d.tree
          ∙ ap (λ (xs : List Text). record (tree_so_far s) { variables = xs }) (append_assoc s.variables d.names (x ∷ []));
    }

name_turn : (s : State) (n : ℕ) (u : State) (m : ℕ) (v : State) → Names' s n u → one_more_variable n u ≡ Ok (m, v) → Names' s m v
name_turn s n u m v d e =
    let a = then_ok (new_variable u) (λ _. give (n + 1)) (m, v) e in
    let one = new_variable_ok u a.0 a.1 in
    subst (λ (p : ℕ × State). Names' s p.0 p.1) (ok_is (n + 1, a.0.1) (m, v) a.2) (name_more s n u one.0 a.0.1 d one.1)

variables_spelled : (s : State) (y : Unit {0} × State) → kind_of s.rest ≡ Some (kind.Keyword keyword.Var) → variable_declaration (spot_of s.rest s.end_line) s ≡ Ok y → Declares (tree_so_far s) s.rest (tree_so_far y.1) y.1.rest
unfolding variable_declaration
variables_spelled s y next e =
    let spot : Spot = spot_of s.rest s.end_line in
    let t : State = past s in
    let a = then_ok (new_variable t) _ y e in
    let first = new_variable_ok t a.0 a.1 in
    let one : Names' t 1 a.0.1 = name_more t 0 t first.0 a.0.1 (no_names t) first.1 in
    let b = then_ok (until choice.Name is_name one_more_variable 1 a.0.1) (λ count. change (with_variables_of spot count)) y a.2 in
    let d = until_keeps (λ (n : ℕ) (u : State). Names' t n u) choice.Name (λ n u d. record { names = d.names; counted = d.counted; prefix = d.prefix; tree = d.tree }) is_name one_more_variable (λ n u m v d on took. name_turn t n u m v d took) 1 a.0.1 b.0 one b.1 in
    let v : State = b.0.1 in
    let prefix : Prefix s.rest (spell.variable_declaration spot d.names) v.rest = prefix_join s.rest (first_word spot keyword.Var ∷ []) t.rest (map name d.names) v.rest (prefix_begin s.rest s.end_line (kind.Keyword keyword.Var) next) d.prefix in
    subst (λ (p : Unit {0} × State). Declares (tree_so_far s) s.rest (tree_so_far p.1) p.1.rest) (ok_is (tt, with_variables_of spot b.0.0 v) y b.2)
    (subst (λ (w : Script). Declares (tree_so_far s) s.rest (record w { order = w.order ++ next_variables spot b.0.0 ∷ [] }) v.rest) (sym d.tree)
    (declares_variables (tree_so_far s) spot b.0.0 d.names s.rest v.rest d.counted prefix))

-- ---- a service

service_spelled : (s : State) (y : Unit {0} × State) → kind_of s.rest ≡ Some (kind.Keyword keyword.Service) → service_declaration (spot_of s.rest s.end_line) s ≡ Ok y → Declares (tree_so_far s) s.rest (tree_so_far y.1) y.1.rest
unfolding service_declaration
service_spelled s y next e =
    let spot : Spot = spot_of s.rest s.end_line in
    let t : State = past s in
    let c0 = check_ok (nat_lt (length s.services) 24) _ _ s y e in
    let l = then_ok (used_lam t) _ y c0.1 in
    let a = then_ok (expect keyword.Within l.0.1) _ y l.2 in
    let b = then_ok (any_number a.0.1) _ y a.2 in
    let c = then_ok (expect keyword.Cycles b.0.1) _ y b.2 in
    let d = then_ok (expect keyword.Event c.0.1) _ y c.2 in
    let f = then_ok (any_number d.0.1) _ y d.2 in
    let g = then_ok (expect keyword.Words f.0.1) _ y f.2 in
    let h = then_ok (block_at 16 g.0.1) (λ body. change (service_added spot l.0.0 b.0.0 f.0.0 body)) y g.2 in
    let u : State = h.0.1 in
    let v : Service = record { spot = spot; lam = l.0.0; cycles = b.0.0; words = f.0.0; registers = u.registers; body = block_of h.0.0 } in
    let took : (w : Script) → Took (service_names w v) s (spell.service_declaration w v) u = λ w.
    join (took_first s (kind.Keyword keyword.Service) next) (join (took_lam t l.0 l.1) (join (took_word keyword.Within l.0.1 a.0 a.1) (join (took_token (any_number_ok a.0.1 b.0 b.1))
    (join (took_word keyword.Cycles b.0.1 c.0 c.1) (join (took_word keyword.Event c.0.1 d.0 d.1) (join (took_token (any_number_ok d.0.1 f.0 f.1)) (join (took_word keyword.Words f.0.1 g.0 g.1)
    (took_block (service_names w v) 16 g.0.1 h.0 h.1)))))))) in
    subst (λ (p : Unit {0} × State). Declares (tree_so_far s) s.rest (tree_so_far p.1) p.1.rest) (ok_is (tt, service_added spot l.0.0 b.0.0 f.0.0 h.0.0 u) y h.2)
    (subst (λ (w : Script). Declares w s.rest (with_service (tree_so_far u) v) u.rest) (took (tree_so_far u)).same
    (declares_service (tree_so_far u) v s.rest u.rest (λ w x. (took w).prefix (tells_names u w v x refl))))

-- ---- the whole script

declaration_spelled_by : (s : State) (k : Option TokenKind) (y : Unit {0} × State) → kind_of s.rest ≡ k → declaration_by (spot_of s.rest s.end_line) k s ≡ Ok y → Declares (tree_so_far s) s.rest (tree_so_far y.1) y.1.rest
declaration_spelled_by s (Some (kind.Keyword keyword.Table)) y next e = table_spelled s y next e
declaration_spelled_by s (Some (kind.Keyword keyword.Cdlam)) y next e = lam_spelled s y next e
declaration_spelled_by s (Some (kind.Keyword keyword.Var)) y next e = variables_spelled s y next e
declaration_spelled_by s (Some (kind.Keyword keyword.Proc)) y next e = procedure_spelled s y next e
declaration_spelled_by s (Some (kind.Keyword keyword.Service)) y next e = service_spelled s y next e
declaration_spelled_by s _ y next e = absurd (err_no_ok _ _ e)

declaration_spelled : (s : State) (y : Unit {0} × State) → declaration_at s ≡ Ok y → Declares (tree_so_far s) s.rest (tree_so_far y.1) y.1.rest
unfolding declaration_at
declaration_spelled s y e = declaration_spelled_by s (kind_of s.rest) y refl e

pub declarations_spelled : (ts : List Token) (end_line : ℕ) (y : Unit {0} × State) → declarations_at (start ts end_line) ≡ Ok y → Prefix ts (spell.script (tree_so_far y.1)) y.1.rest
unfolding declarations_at
declarations_spelled ts end_line y e =
    let so = while_keeps (λ (_ : Unit {0}) (u : State). Sofar ts (tree_so_far u) u.rest) is_token (λ _. declaration_at) (λ _ u x v so on took. one_more ts (tree_so_far u) u.rest (tree_so_far v) v.rest so (declaration_spelled u (x, v) took)) tt (start ts end_line) y (record { counted = refl; prefix = λ t x. refl }) e in
    so.prefix (tree_so_far y.1) (itself (tree_so_far y.1))

-- What is read is spelled, at the whole text.

-- a loop stops only where it does not go on
turns_end : {A : Type 0} (goes_on : Option TokenKind → Bool) (turn : A → Reader A) → Progresses goes_on turn → (n : ℕ) (x : A) (s : State) (y : A × State) → length s.rest < n → turns n goes_on turn x s ≡ Ok y → goes_on (kind_of y.1.rest) ≡ false
unfolding turns
turns_end goes_on turn progress zero x s y few e = absurd (omega arith)
turns_end {A} goes_on turn progress (suc n) x s y few e = apart (goes_on (kind_of s.rest)) refl (λ y' s' on took rest. let less : length s'.rest < length s.rest = progress x s y' s' on took in turns_end goes_on turn progress n y' s' y (omega arith) rest) e
  where
    apart : (b : Bool) → goes_on (kind_of s.rest) ≡ b → ((z : A) (s' : State) → goes_on (kind_of s.rest) ≡ true → turn x s ≡ Ok (z, s') → turns n goes_on turn z s' ≡ Ok y → goes_on (kind_of y.1.rest) ≡ false) → cond b (turn x >>= turns n goes_on turn) (give x) s ≡ Ok y → goes_on (kind_of y.1.rest) ≡ false
    apart true on more h = let m = then_ok (turn x s) (turns n goes_on turn) y h in more m.0.0 m.0.1 on m.1 m.2
    apart false off more h = subst (λ (p : A × State). goes_on (kind_of p.1.rest) ≡ false) (ok_is (x, s) y h) off

no_token : (ts : List Token) → is_token (kind_of ts) ≡ false → ts ≡ []
no_token [] e = refl
no_token (t ∷ ts) e = absurd cc

all_read : (s : State) (y : Unit {0} × State) → declarations_at s ≡ Ok y → y.1.rest ≡ []
unfolding declarations_at while_next
all_read s y e = no_token y.1.rest (turns_end is_token (λ _. declaration_at) declarations_progress (suc (length s.rest)) tt s y (omega arith) e)

tree_is : (r : Result (Unit {0} × State) Failure) (tree : Script) → tree_in r ≡ Ok tree → (y : Unit {0} × State) × (r ≡ Ok y) × (tree_so_far y.1 ≡ tree)
tree_is (Ok y) tree e = (y, refl, same (tree_so_far y.1) tree e) where
  same : (a b : Script) → (let r : Result Script Fault = Ok a in r) ≡ Ok b → a ≡ b
  same a b h = cc
tree_is (Err d) tree e = absurd cc

tokens_spelled : (text : List ℕ) (ts : List Token) (end_line : ℕ) (tree : Script) → tokens_of text ≡ Ok ts → tree_of_tokens ts end_line ≡ Ok tree → Spells ts tree
unfolding tree_of_tokens
tokens_spelled text ts end_line tree made e =
    let r = tree_is (declarations_at (start ts end_line)) tree e in
    subst (λ (w : Script). Spells ts w) r.2 (record {
      all = subst (λ (rest : List Token). Prefix ts (script (tree_so_far r.0.1)) rest) (all_read (start ts end_line) r.0 r.1) (declarations_spelled ts end_line r.0 r.1);
      stands = read_well_formed text ts end_line r.0 made r.1;
    })

after_spelled : (text : List ℕ) (made : Result (List Token) Fault) (end_line : ℕ) (tree : Script) → tokens_of text ≡ made → tree_after made end_line ≡ Ok tree → IsSpelled text tree
after_spelled text (Ok ts) end_line tree made e = record { tokens = ts; made = made; spelled = tokens_spelled text ts end_line tree made e }
after_spelled text (Err d) end_line tree made e = absurd cc

pub read_is_spelled : ReadIsSpelled
unfolding script_of
read_is_spelled text tree e = after_spelled text (tokens_of text) (last_line text) tree refl e

-- The standard example is spelled, by computation.

abbrev at : ℕ → ℕ → TokenKind → Token
at line left k = record { kind = k; spot = spot_at line left }

abbrev example_tokens : List Token
example_tokens =
    at 1 106 (kind.Keyword keyword.Cdlam) ∷
    at 1 100 (kind.Name (codes "adc")) ∷
    at 1 96 (kind.Number 1) ∷
    at 1 94 (kind.Number 1) ∷
    at 1 92 (kind.Number 5) ∷
    at 1 90 (kind.Number 12) ∷
    at 2 87 (kind.Keyword keyword.Var) ∷
    at 2 83 (kind.Name (codes "v")) ∷
    at 3 81 (kind.Keyword keyword.Service) ∷
    at 3 73 (kind.Name (codes "adc")) ∷
    at 3 69 (kind.Keyword keyword.Within) ∷
    at 3 62 (kind.Number 3) ∷
    at 3 60 (kind.Keyword keyword.Cycles) ∷
    at 3 53 (kind.Keyword keyword.Event) ∷
    at 3 47 (kind.Number 1) ∷
    at 3 45 (kind.Keyword keyword.Words) ∷
    at 3 39 (kind.Sign mark.LeftBrace) ∷
    at 4 37 (kind.Keyword keyword.Cdreg) ∷
    at 4 31 (kind.Name (codes "r")) ∷
    at 4 29 (kind.Number 1) ∷
    at 4 27 (kind.Number 1) ∷
    at 4 25 (kind.Number 5) ∷
    at 4 23 (kind.Number 0) ∷
    at 5 21 (kind.Keyword keyword.Cfsa) ∷
    at 5 16 (kind.Number 0) ∷
    at 5 14 (kind.Name (codes "r")) ∷
    at 5 12 (kind.Sign mark.Into) ∷
    at 5 9 (kind.Name (codes "v")) ∷
    at 6 7 (kind.Keyword keyword.Put) ∷
    at 6 3 (kind.Name (codes "v")) ∷
    at 6 1 (kind.Sign mark.RightBrace) ∷ []

pub example_is_spelled : IsSpelled example_text example_tree
unfolding tokens_of tokens_from start_of keyword_of is_well_formed
example_is_spelled = record {
  tokens = example_tokens;
  made = refl;
  spelled = record { all = ((refl, refl), ((refl, tt), ((refl, tt), ((refl, tt), ((refl, tt), ((refl, tt), ((refl, refl), ((refl, tt), ((refl, refl), ((refl, tt), ((refl, tt), ((refl, tt), ((refl, tt), ((refl, tt), ((refl, tt), ((refl, tt), ((refl, tt), ((refl, refl), ((refl, tt), ((refl, tt), ((refl, tt), ((refl, tt), ((refl, tt), ((refl, refl), ((refl, tt), ((refl, tt), ((refl, tt), ((refl, tt), ((refl, refl), ((refl, tt), ((refl, tt), refl))))))))))))))))))))))))))))))); stands = refl };
}
