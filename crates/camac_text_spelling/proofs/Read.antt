-- What is spelled is read: the whole script.
use Rattle.std.proofs.Common.{◌≡◌, ℕ, ◌+◌, ◌≤◌, Bool, true, ◌&&◌, nat_eq, nat_le, List, [], ◌∷◌, ◌++◌, length, take, drop, Option, Some, None, Result, Ok, Err, refl, sym, ap, subst, ◌∙◌, append_assoc, arith}
use Rattle.std.specs.Prelude.{slice_get}
use Rattle.std.proofs.lemmas.Bool.{leb-true, eqb-true}
use Rattle.std.proofs.lemmas.List.{append-nil}
use Rattle.camac_lang.specs.Scope.{Before, lam_stands, service_stands, table_stands, procedure_stands, are_declarable, with_table, with_lam, with_variables, with_procedure, with_service, declared, all_declared, is_all, nothing_before, within_limits, is_well_formed}
use Rattle.camac_lang.specs.Statements.{statements}
use Rattle.camac_lang.specs.Tests.{has, total, most, unless_broken}
use Rattle.camac_lang.specs.Tree.{Text, Table, Lam, Procedure, Service, Item, next_table, next_lam, next_variables, next_procedure, next_service, Script}
use Rattle.camac_lang.proofs.Options.{unless_parts, then_parts}
use Rattle.camac_tokens.specs.declared.token.Token.{Token}
use Rattle.camac_tokens.specs.Scanning.{last_line}
use Rattle.camac_tokens.specs.Fault.{Fault}
use Rattle.camac_text_cursor.specs.Reading.{State, kind_of, while_next}
use Rattle.camac_text_cursor.specs.Readers.{is_name as next_is_name}
use Rattle.camac_text_cursor.specs.Declaring.{tree_so_far}
use Rattle.camac_text.specs.Declarations.{declaration_at, is_token, declarations_at}
use Rattle.camac_text_cursor.specs.Readers.{is_number as next_is_number}
use Rattle.camac_text.specs.Parser.{start, tree_in, tree_of_tokens, tree_after, script_of}
use Rattle.camac_text_cursor.proofs.Places.{hushed}
use Rattle.camac_text.proofs.Faults.{tree_untold}
use Rattle.camac_text_cursor.proofs.Registers.{first_of_both, second_of_both}
use Rattle.camac_text.proofs.Declares.{declarations_progress}
use Rattle.camac_text_cursor.proofs.Steps.{while_off}
use Rattle.camac_text_spelling.specs.Pieces.{Prefix}
use Rattle.camac_text_spelling.specs.Declarations as spell
use Rattle.camac_text_spelling.specs.Declarations.{Passed, none_passed, pass}
use Rattle.camac_text_spelling.specs.Spells.{SpelledTokensAreRead, SpelledIsRead, SpelledOnce, FaultSpellsNothing, RefusedIsNotSpelled}
use Rattle.camac_text_spelling.proofs.Takes.{prefix_split}
use Rattle.camac_text_spelling.proofs.GivesExpressions.{ok, while_turn}
use Rattle.camac_text_spelling.proofs.Walk.{take_all, passed_of, AreFirst, Limited, Stands, Closes, declaration_opens}
use Rattle.camac_text_spelling.proofs.Walks.{declaration_goes}

-- ---- the declarations in their order

passes : (t : Script) (b b' : Before) (i : Item) → declared t b i ≡ Some b' → passed_of b' ≡ pass i (passed_of b)
passes t b b' next_table e =
    let p = then_parts (λ x. unless_broken (table_stands b x) (with_table x.name b)) (slice_get t.tables b.tables) b' e in
    ap passed_of (sym (unless_parts (table_stands b p.0) (with_table p.0.name b) b' p.2).1)
passes t b b' next_lam e =
    let p = then_parts (λ x. unless_broken (lam_stands b x) (with_lam x.name b)) (slice_get t.lams b.lams) b' e in
    ap passed_of (sym (unless_parts (lam_stands b p.0) (with_lam p.0.name b) b' p.2).1)
passes t b b' (next_variables spot n) e =
    let xs : List Text = take n (drop b.variables t.variables) in
    let r = unless_parts (nat_le 1 n && (nat_eq (length xs) n && are_declarable xs b.names)) (with_variables xs b) b' e in
    let many : length xs ≡ n = eqb-true (length xs) n (first_of_both (nat_eq (length xs) n) _ (second_of_both (nat_le 1 n) _ r.0)) in
    ap passed_of (sym r.1) ∙ ap (λ (k : ℕ). record (passed_of b) { variables = b.variables + k }) many
passes t b b' next_procedure e =
    let p = then_parts (λ x. unless_broken (procedure_stands b x) (with_procedure x b)) (slice_get t.procedures b.procedures) b' e in
    ap passed_of (sym (unless_parts (procedure_stands b p.0) (with_procedure p.0 b) b' p.2).1)
passes t b b' next_service e =
    let p = then_parts (λ x. unless_broken (service_stands b x) (with_service b)) (slice_get t.services b.services) b' e in
    ap passed_of (sym (unless_parts (service_stands b p.0) (with_service b) b' p.2).1)

-- a declaration or the end goes on with no declaration
next_closes : (t : Script) (is : List Item) (b last : Before) (ts : List Token) → all_declared t b is ≡ Some last → Prefix ts (spell.declarations t (passed_of b) is) [] → Closes (kind_of ts)
next_closes t [] b last ts e f = record { no_name = ap (λ (us : List Token). next_is_name (kind_of us)) f; no_number = ap (λ (us : List Token). next_is_number (kind_of us)) f }
next_closes t (i ∷ is) b last ts e f =
    let p = then_parts (λ k. all_declared t k is) (declared t b i) last e in
    let m = prefix_split ts (spell.declaration t (passed_of b) i) (spell.declarations t (pass i (passed_of b)) is) [] f in
    (declaration_opens t b p.0 i ts m.0 p.1 m.1).closes

record Walked (t : Script) (is : List Item) (last : Before) (s : State) : Type 0 where
  end : State
  read : while_next is_token (λ _. declaration_at) tt (hushed s) ≡ ok tt (hushed end)
  ordered : end.order ≡ s.order ++ is
  stands : Stands t last end

before_is : (a b : Before) → Some a ≡ Some b → a ≡ b
before_is a b e = cc

walked : (t : Script) (is : List Item) (b last : Before) (s : State) → Limited t → Stands t b s → all_declared t b is ≡ Some last → Prefix s.rest (spell.declarations t (passed_of b) is) [] → Walked t is last s
walked t [] b last s limits st e f = record {
  end = s;
  read = while_off is_token (λ _. declaration_at) tt (hushed s) (ap (λ (us : List Token). is_token (kind_of us)) f);
  ordered = sym (append-nil s.order);
  stands = subst (λ (k : Before). Stands t k s) (before_is b last e) st;
}
walked t (i ∷ is) b last s limits st e f =
    let p = then_parts (λ k. all_declared t k is) (declared t b i) last e in
    let m = prefix_split s.rest (spell.declaration t (passed_of b) i) (spell.declarations t (pass i (passed_of b)) is) [] f in
    let others : Prefix m.0 (spell.declarations t (passed_of p.0) is) [] = subst (λ (k : Passed). Prefix m.0 (spell.declarations t k is) []) (sym (passes t b p.0 i p.1)) m.2 in
    let one = declaration_goes t i b p.0 s m.0 limits st p.1 m.1 (next_closes t is p.0 last m.0 p.2 others) in
    let more = walked t is p.0 last one.next limits one.stands p.2 (subst (λ (us : List Token). Prefix us (spell.declarations t (passed_of p.0) is) []) (sym one.left) others) in
    record {
      end = more.end;
      read = while_turn is_token (λ _. declaration_at) declarations_progress tt (hushed s) tt (hushed one.next) (declaration_opens t b p.0 i s.rest m.0 p.1 m.1).token one.read more.read;
      ordered = more.ordered ∙ ap (λ (xs : List Item). xs ++ is) one.ordered ∙ append_assoc s.order (i ∷ []) is;
      stands = more.stands;
    }

-- ---- the whole tree

limited : (t : Script) → within_limits t ≡ true → Limited t
limited t e =
    let variables_few : length t.variables + total (λ (p : Procedure). length p.parameters) t.procedures ≤ 64 = leb-true _ 64 (first_of_both (nat_le (length t.variables + total (λ p. length p.parameters) t.procedures) 64) _ e) in
    let e1 = second_of_both (nat_le (length t.variables + total (λ p. length p.parameters) t.procedures) 64) _ e in
    let registers_few : total (λ (p : Procedure). length p.registers) t.procedures + most (λ (v : Service). length v.registers) t.services ≤ 64 = leb-true _ 64 (first_of_both (nat_le (total (λ p. length p.registers) t.procedures + most (λ v. length v.registers) t.services) 64) _ e1) in
    let e2 = second_of_both (nat_le (total (λ p. length p.registers) t.procedures + most (λ v. length v.registers) t.services) 64) _ e1 in
    let e3 = second_of_both (nat_le (length t.lams) 64) _ e2 in
    let e4 = second_of_both (nat_le (length t.tables) 16) _ e3 in
    let e5 = second_of_both (nat_le (length t.services) 24) _ e4 in
    let e6 = second_of_both (nat_le (length t.procedures) 16) _ e5 in
    let statements_few : total (λ (p : Procedure). statements p.body) t.procedures + total (λ (v : Service). statements v.body) t.services ≤ 4096 = leb-true _ 4096 e6 in
    record {
      variables = variables_few;
      lams = leb-true (length t.lams) 64 (first_of_both (nat_le (length t.lams) 64) _ e2);
      tables = leb-true (length t.tables) 16 (first_of_both (nat_le (length t.tables) 16) _ e3);
      services = leb-true (length t.services) 24 (first_of_both (nat_le (length t.services) 24) _ e4);
      procedures = leb-true (length t.procedures) 16 (first_of_both (nat_le (length t.procedures) 16) _ e5);
      registers = registers_few;
      statements = statements_few;
    }

begins : (t : Script) (ts : List Token) (end_line : ℕ) → Stands t nothing_before (start ts end_line)
begins t ts end_line = record {
  tables = none_first;
  lams = none_first;
  procedures = none_first;
  callables = refl;
  called = refl;
  outside = refl;
  counted = refl;
  variables = refl;
  variables_within = omega arith;
  new_variables = refl;
  covers_variables = λ x h. refl;
  services = refl;
  services_within = omega arith;
  registers = refl;
  statements = refl;
  names = λ x. refl;
}
  where
    none_first : {A : Type 0} {name : A → Text} {all : List A} → AreFirst name [] 0 [] all
    none_first = record { first = refl; within = omega arith; new = refl; covers = λ x h. refl }

has_before : (o : Option Before) (test : Before → Bool) → has o test ≡ true → (b : Before) × (o ≡ Some b) × (test b ≡ true)
has_before None test e = absurd cc
has_before (Some b) test e = (b, refl, e)

whole_tree : (t : Script) (b : Before) (s : State) → Stands t b s → s.order ≡ t.order → is_all t b ≡ true → tree_so_far s ≡ t
whole_tree t b s st ordered all =
    let tables_all : b.tables ≡ length t.tables = eqb-true b.tables (length t.tables) (first_of_both (nat_eq b.tables (length t.tables)) _ all) in
    let e1 = second_of_both (nat_eq b.tables (length t.tables)) _ all in
    let lams_all : b.lams ≡ length t.lams = eqb-true b.lams (length t.lams) (first_of_both (nat_eq b.lams (length t.lams)) _ e1) in
    let e2 = second_of_both (nat_eq b.lams (length t.lams)) _ e1 in
    let variables_all : b.variables ≡ length t.variables = eqb-true b.variables (length t.variables) (first_of_both (nat_eq b.variables (length t.variables)) _ e2) in
    let e3 = second_of_both (nat_eq b.variables (length t.variables)) _ e2 in
    let procedures_all : b.procedures ≡ length t.procedures = eqb-true b.procedures (length t.procedures) (first_of_both (nat_eq b.procedures (length t.procedures)) _ e3) in
    let services_all : b.services ≡ length t.services = eqb-true b.services (length t.services) (second_of_both (nat_eq b.procedures (length t.procedures)) _ e3) in
    let lams : s.lams ≡ t.lams = st.lams.first ∙ ap (λ (i : ℕ). take i t.lams) lams_all ∙ take_all t.lams in
    let variables : s.variables ≡ t.variables = st.variables ∙ ap (λ (i : ℕ). take i t.variables) variables_all ∙ take_all t.variables in
    let services : s.services ≡ t.services = st.services ∙ ap (λ (i : ℕ). take i t.services) services_all ∙ take_all t.services in
    let tables : s.tables ≡ t.tables = st.tables.first ∙ ap (λ (i : ℕ). take i t.tables) tables_all ∙ take_all t.tables in
    let procedures : s.procedures ≡ t.procedures = st.procedures.first ∙ ap (λ (i : ℕ). take i t.procedures) procedures_all ∙ take_all t.procedures in
    ap (λ (is : List Item). record (tree_so_far s) { order = is }) ordered
    ∙ ap (λ (xs : List Table). record (tree_so_far s) { order = t.order; tables = xs }) tables
    ∙ ap (λ (xs : List Lam). record (tree_so_far s) { order = t.order; tables = t.tables; lams = xs }) lams
    ∙ ap (λ (xs : List Text). record (tree_so_far s) { order = t.order; tables = t.tables; lams = t.lams; variables = xs }) variables
    ∙ ap (λ (xs : List Procedure). record (tree_so_far s) { order = t.order; tables = t.tables; lams = t.lams; variables = t.variables; procedures = xs }) procedures
    ∙ ap (λ (xs : List Service). let w : Script = record { order = t.order; tables = t.tables; lams = t.lams; variables = t.variables; procedures = t.procedures; services = xs } in w) services

pub spelled_tokens_are_read : SpelledTokensAreRead
unfolding tree_of_tokens declarations_at is_well_formed
spelled_tokens_are_read tokens end_line tree spelled =
    let limits = limited tree (first_of_both (within_limits tree) _ spelled.stands) in
    let last = has_before (all_declared tree nothing_before tree.order) (is_all tree) (second_of_both (within_limits tree) _ spelled.stands) in
    let w = walked tree tree.order nothing_before last.0 (start tokens end_line) limits (begins tree tokens end_line) last.1 spelled.all in
    sym (tree_untold (start tokens end_line)) ∙ ap tree_in w.read ∙ ap (λ (x : Script). let r : Result Script Fault = Ok x in r) (whole_tree tree last.0 w.end w.stands w.ordered last.2)

pub spelled_is_read : SpelledIsRead
unfolding script_of
spelled_is_read text tree spelled =
    ap (λ (r : Result (List Token) Fault). tree_after r (last_line text)) spelled.made ∙ spelled_tokens_are_read spelled.tokens (last_line text) tree spelled.spelled

tree_same : (a b : Script) → (let r : Result Script Fault = Ok a in r) ≡ Ok b → a ≡ b
tree_same a b e = cc

pub spelled_once : SpelledOnce
spelled_once tokens a b spells_a spells_b =
    tree_same a b (sym (spelled_tokens_are_read tokens 0 a spells_a) ∙ spelled_tokens_are_read tokens 0 b spells_b)

no_tree_read : (tree : Script) (f : Fault) → (let r : Result Script Fault = Ok tree in r) ≡ Err f → ⊥
no_tree_read tree f e = cc

pub fault_spells_nothing : FaultSpellsNothing
fault_spells_nothing tokens end_line fault at t rest others tree here spelled =
    no_tree_read tree fault (sym (spelled_tokens_are_read (at.taken ++ t ∷ others) 0 tree spelled) ∙ at.settled t rest others 0 here)

pub refused_is_not_spelled : RefusedIsNotSpelled
refused_is_not_spelled text fault e tree spelled = no_tree_read tree fault (sym (spelled_is_read text tree spelled) ∙ e)
