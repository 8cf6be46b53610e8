-- What is read is well formed, declaration by declaration.
use Rattle.std.proofs.Common.{◌≡◌, ℕ, zero, suc, ◌-◌, ◌≤◌, ◌<◌, Bool, true, false, cond, nat_le, ltb, eqb, List, [], ◌∷◌, length, Option, Some, None, Result, Ok, Err, refl, subst, arith, ◌+◌, ◌&&◌, nat_eq, ◌++◌, take, drop, sym, ap, ◌∙◌, length-append, append_assoc, not}
use Rattle.std.proofs.lemmas.Bool.{ltb-true, lt-ltb}
use Rattle.std.proofs.Math.Seq.{take-append_seam}
use Rattle.std.proofs.lemmas.List.{append-nil}
use Rattle.std.specs.Prelude.{take_while, slice_get, option_and_then, IsTrue}
use Rattle.std.specs.Char.{is_ascii_digit, is_ascii_alphabetic}
use Rattle.std.specs.Str.{bytes_eq}
use Rattle.camac_tokens.specs.declared.token.Keyword.{Keyword}
use Rattle.camac_tokens.specs.declared.token.Sign.{Sign}
use Rattle.camac_tokens.specs.declared.token.Token.{Token}
use Rattle.camac_tokens.specs.declared.token.TokenKind.TheVariants as kind
use Rattle.camac_tokens.specs.Start as start
use Rattle.camac_tokens.specs.Start.{Start}
use Rattle.camac_tokens.specs.declared.fault.Limit.TheVariants as limit
use Rattle.camac_tokens.specs.declared.fault.TextCase.TheVariants as text_case
use Rattle.camac_tokens.specs.Fault.{Fault}
use Rattle.camac_tokens.specs.Words.{keyword}
use Rattle.camac_tokens.specs.Scanning.{is_name_byte, is_blank, decimal_value, keyword_or, pair_at, single_at, pair_or_single, start_of, spot_at, line_after, with_first, tokens_by, tokens_from, tokens_of}
use Rattle.camac_tokens.proofs.Scans.{run_some, name_begins}
use Rattle.camac_text_cursor.proofs.Moves.{kind_fits, AllFit}
use Rattle.camac_text_cursor.proofs.Registers.{both, below_le, Limits, limits_of, RegistersFit, first_of_both, second_of_both}
use Rattle.camac_text_cursor.proofs.Uses.{scope_of}
use Rattle.camac_text_cursor.proofs.Steps.{while_keeps}
use Rattle.camac_text_cursor.specs.Reading.{State}
use Rattle.camac_text_cursor.specs.Declaring.{with_table as table_added, with_lam as lam_added, with_variables_of, tree_so_far, with_service as service_added, with_procedure as procedure_added}
use Rattle.camac_text_cursor.specs.Readers.{other_registers}
use Rattle.camac_lang.specs.declared.spot.Spot.{Spot}
use Rattle.camac_lang.specs.Scope.{Before, are_declarable, table_stands, lam_stands, with_table, with_lam, with_variables, declared, all_declared, nothing_before, body_fits, service_stands, with_service, procedure_scope, procedure_stands, with_procedure, is_all, within_limits, is_well_formed}
use Rattle.camac_lang.specs.Statements.{statements, after_block}
use Rattle.camac_lang.specs.Tests.{unless_broken, total, most, is_new, is_number, is_sub_address, has, each, is_name, are_new}
use Rattle.camac_lang.specs.Tree.{Text, Table, Lam, Procedure, Service, next_table, next_lam, next_variables, Script, Statement, next_service, Parameter, next_procedure}
use Rattle.camac_lang.specs.Depth.{inner_depth, callable}
use Rattle.camac_lang.specs.View.{block_of}
use Rattle.camac_lang.specs.Expressions.{Scope}
use Rattle.camac_text.proofs.Declares.{VariableDeclaration, LamDeclaration, ServiceDeclaration, Declares, a_procedure, a_table, a_lam, some_variables, a_service, declaration_ok}
use Rattle.camac_text.proofs.Extends as tree
use Rattle.camac_text.proofs.Extends.{itself}
use Rattle.camac_text.proofs.TablesRead.{TableDeclaration}
use Rattle.camac_text.proofs.Listed.{declared_push, at_place, between, same_number, declarable_same, prefix_or_after, total_push, each_append, new_same}
use Rattle.camac_text.proofs.ParametersRead.{names_of, names_counted, ProcedureDeclaration}
use Rattle.camac_text.specs.Procedures.{procedure_made}
use Rattle.camac_text.specs.Declarations.{declaration_at, is_token, declarations_at}
use Rattle.camac_text.specs.Parser.{start}
use Rattle.camac_text_phrases.proofs.ConditionsRead.{most_push}

-- The names and numbers of a text's tokens fit the language.

abbrev StartFits : Start → Type 0
StartFits (start.Found k n) = kind_fits k ≡ true
StartFits _ = Unit {0}

fits_if : (b : Bool) (f g : Start) → (b ≡ true → StartFits f) → (b ≡ false → StartFits g) → StartFits (cond b f g)
fits_if true f g on off = on refl
fits_if false f g on off = off refl

not_longer : (n : ℕ) → ltb 32 n ≡ false → n ≤ 32
not_longer n e = grind arith

name_fits : (text : List ℕ) → 0 < length text → StartFits (cond (ltb 32 (length text)) (start.Wrong (text_case.Limit limit.NameBytes)) (start.Found (kind.Name text) (length text)))
name_fits text some = fits_if (ltb 32 (length text)) _ _ (λ _. tt) (λ off. both (nat_le 1 (length text)) (nat_le (length text) 32) (below_le 1 (length text) (omega arith)) (below_le (length text) 32 (not_longer (length text) off)))

keyword_fits : (k : Option Keyword) (text : List ℕ) → 0 < length text → StartFits (keyword_or k text)
keyword_fits (Some w) text some = refl
keyword_fits None text some = name_fits text some

sign_fits : (p q : Option Sign) → StartFits (pair_or_single p q)
sign_fits (Some w) q = refl
sign_fits None (Some w) = refl
sign_fits None None = tt

number_fits : (n : ℕ) → ltb n 4294967296 ≡ true → nat_le n 4294967295 ≡ true
number_fits n e = let below : n < 4294967296 = ltb-true n 4294967296 e in below_le n 4294967295 (omega arith)

start_fits : (b : ℕ) (bs : List ℕ) → StartFits (start_of b (b ∷ bs))
unfolding start_of
start_fits b bs =
    fits_if (is_blank b) _ _ (λ _. tt) (λ _.
    fits_if (eqb b 35) _ _ (λ _. tt) (λ _.
    fits_if (is_ascii_alphabetic b) _ _ (λ is. keyword_fits (keyword (take_while is_name_byte (b ∷ bs))) (take_while is_name_byte (b ∷ bs)) (run_some is_name_byte b bs (name_begins b is))) (λ _.
    fits_if (is_ascii_digit b) _ _ (λ _. fits_if (ltb (decimal_value (take_while is_ascii_digit (b ∷ bs))) 4294967296) _ _ (λ is. number_fits _ is) (λ _. tt)) (λ _.
    sign_fits (pair_at (b ∷ bs)) (single_at (b ∷ bs))))))

list_is : (xs ys : List Token) → (let r : Result (List Token) Fault = Ok xs in r) ≡ Ok ys → xs ≡ ys
list_is xs ys e = cc

first_fits : (t : Token) (r : Result (List Token) Fault) (ts : List Token) → kind_fits t.kind ≡ true → ((us : List Token) → r ≡ Ok us → AllFit us) → with_first t r ≡ Ok ts → AllFit ts
first_fits t (Ok us) ts fits rest e = subst (λ (w : List Token). AllFit w) (list_is (t ∷ us) ts e) (fits, rest us refl)
first_fits t (Err d) ts fits rest e = absurd cc

step_fits : (f : Start) (spot : Spot) (more : ℕ → Result (List Token) Fault) (ts : List Token) → StartFits f → ((n : ℕ) (us : List Token) → more n ≡ Ok us → AllFit us) → tokens_by f spot more ≡ Ok ts → AllFit ts
step_fits (start.Gap n) spot more ts fits rest e = rest (n - 1) ts e
step_fits (start.Found k n) spot more ts fits rest e = first_fits (record { kind = k; spot = spot }) (more (n - 1)) ts fits (λ us h. rest (n - 1) us h) e
step_fits (start.Wrong rule) spot more ts fits rest e = absurd cc

from_fits : (bs : List ℕ) (skip line : ℕ) (ts : List Token) → tokens_from skip line bs ≡ Ok ts → AllFit ts
unfolding tokens_from
from_fits [] skip line ts e = subst (λ (w : List Token). AllFit w) (list_is [] ts e) tt
from_fits (b ∷ bs) zero line ts e = step_fits (start_of b (b ∷ bs)) (spot_at line (length (b ∷ bs))) (λ skip. tokens_from skip (line_after line b) bs) ts (start_fits b bs) (λ n us h. from_fits bs n (line_after line b) us h) e
from_fits (b ∷ bs) (suc skip) line ts e = from_fits bs skip (line_after line b) ts e

pub tokens_fit : (text : List ℕ) (ts : List Token) → tokens_of text ≡ Ok ts → AllFit ts
unfolding tokens_of
tokens_fit text ts e = from_fits text 0 1 ts e

-- The declarations so far are well formed: tables, LAMs and variables.

-- ---- declarations

-- what stands before the next declaration, with these names
abbrev pub before_of : List Text → State → Before
before_of names s = record {
  names = names;
  tables = length s.tables;
  lams = length s.lams;
  variables = length s.variables;
  procedures = length s.procedures;
  services = length s.services;
  callables = s.callables;
}

-- a tree that has these declarations, and perhaps more
abbrev pub Extends : State → Script → Type 0
Extends s t = tree.Extends (tree_so_far s) t

-- the declarations so far are well formed
pub record Sofar (s : State) : Type 0 where
  pub fit : AllFit s.rest
  pub in_service : s.in_procedure ≡ false
  pub no_registers : s.registers ≡ []
  pub names : List Text
  pub same_names : (x : Text) → is_new x names ≡ is_new x s.declared
  pub walked : (t : Script) → Extends s t → all_declared t nothing_before s.order ≡ Some (before_of names s)
  pub few_tables : length s.tables ≤ 16
  pub counted_variables : s.variable_count ≡ length s.variables + total (λ (p : Procedure). length p.parameters) s.procedures
  pub few_variables : s.variable_count ≤ 64
  pub few_lams : length s.lams ≤ 64
  pub few_services : length s.services ≤ 24
  pub few_procedures : length s.procedures ≤ 16
  pub few_registers : total (λ (p : Procedure). length p.registers) s.procedures + most (λ (v : Service). length v.registers) s.services ≤ 64
  pub counted : s.statements ≡ total (λ (p : Procedure). statements p.body) s.procedures + total (λ (v : Service). statements v.body) s.services
  pub few_statements : s.statements ≤ 4096

-- ---- one more table

table_next : (s u : State) (g : Table) (names : List Text) (t : Script) → Extends (table_added g (record s { rest = u.rest; tried = u.tried })) t → table_stands (before_of names s) g ≡ true → declared t (before_of names s) next_table ≡ Some (before_of (g.name ∷ names) (table_added g (record s { rest = u.rest; tried = u.tried })))
table_next s u g names t x stands =
    ap (option_and_then (λ (m : Table). unless_broken (table_stands (before_of names s) m) (with_table m.name (before_of names s)))) (ap (λ (gs : List Table). slice_get gs (length s.tables)) x.tables_are ∙ at_place s.tables g x.tables)
    ∙ ap (λ (b : Bool). unless_broken b (with_table g.name (before_of names s))) stands
    ∙ ap (λ (n : ℕ). Some (record (before_of (g.name ∷ names) s) { tables = n })) (sym (length-append s.tables (g ∷ [])))

pub table_sofar : (s s' : State) → Sofar s → TableDeclaration s s' → Sofar s'
table_sofar s s' so d =
    let g = d.table in
    let u = d.between in
    let v : State = table_added g (record s { rest = u.rest; tried = u.tried }) in
    let is : s' ≡ v = d.left ∙ ap (λ (w : State). table_added g w) d.moves.same in
    let free : is_new g.name so.names ≡ true = so.same_names g.name ∙ d.free in
    let name : are_declarable (g.name ∷ []) so.names ≡ true = both _ _ (both _ _ (d.named so.fit) refl) (both _ _ free refl) in
    let stands : table_stands (before_of so.names s) g ≡ true = both _ _ name (both _ _ (below_le 1 (length g.words) d.some) (both _ _ (below_le (length g.words) 1024 d.few) d.words_fit)) in
    let room : length s.tables < 16 = d.room in
    let longer : length (s.tables ++ g ∷ []) ≡ length s.tables + 1 = length-append s.tables (g ∷ []) in
    subst (λ (w : State). Sofar w) (sym is) (record {
      fit = d.moves.fit so.fit;
      in_service = so.in_service;
      no_registers = so.no_registers;
      names = g.name ∷ so.names;
      same_names = prefix_or_after (g.name ∷ []) so.names s.declared so.same_names;
      walked = λ t x. declared_push t nothing_before s.order next_table (before_of so.names s) (before_of (g.name ∷ so.names) v) (so.walked t (tree.fewer (Some (g ∷ [])) None None None None x)) (table_next s u g so.names t x stands);
      few_tables = omega arith;
      counted_variables = so.counted_variables;
      few_variables = so.few_variables;
      few_lams = so.few_lams;
      few_services = so.few_services;
      few_procedures = so.few_procedures;
      few_registers = so.few_registers;
      counted = so.counted;
      few_statements = so.few_statements;
    })

-- ---- one more LAM

lam_keeps : (names : List Text) (s : State) (l : Lam) → are_declarable (l.name ∷ []) names ≡ true → is_number l.crate_no ≡ true → is_number l.station ≡ true → is_sub_address l.sub_address ≡ true → lam_stands (before_of names s) l ≡ true
lam_keeps names s l name c n a = both _ _ name (both _ _ c (both _ _ n a))

lam_next : (s u : State) (l : Lam) (names : List Text) (t : Script) → Extends (lam_added l (record s { rest = u.rest; tried = u.tried })) t → lam_stands (before_of names s) l ≡ true → declared t (before_of names s) next_lam ≡ Some (before_of (l.name ∷ names) (lam_added l (record s { rest = u.rest; tried = u.tried })))
lam_next s u l names t x stands =
    ap (option_and_then (λ (m : Lam). unless_broken (lam_stands (before_of names s) m) (with_lam m.name (before_of names s)))) (ap (λ (ls : List Lam). slice_get ls (length s.lams)) x.lams_are ∙ at_place s.lams l x.lams)
    ∙ ap (λ (b : Bool). unless_broken b (with_lam l.name (before_of names s))) stands
    ∙ ap (λ (n : ℕ). Some (record (before_of (l.name ∷ names) s) { lams = n })) (sym (length-append s.lams (l ∷ [])))

pub lam_sofar : (s s' : State) → Sofar s → LamDeclaration s s' → Sofar s'
lam_sofar s s' so d =
    let l = d.lam in
    let u = d.between in
    let v : State = lam_added l (record s { rest = u.rest; tried = u.tried }) in
    let is : s' ≡ v = d.left ∙ ap (λ (w : State). lam_added l w) d.moves.same in
    let free : is_new l.name so.names ≡ true = so.same_names l.name ∙ d.free in
    let name : are_declarable (l.name ∷ []) so.names ≡ true = both _ _ (both _ _ (d.named so.fit) refl) (both _ _ free refl) in
    let stands = lam_keeps so.names s l name (d.crate_fits so.fit) (d.station_fits so.fit) d.sub_address_fits in
    let room : length s.lams < 64 = d.room in
    let longer : length (s.lams ++ l ∷ []) ≡ length s.lams + 1 = length-append s.lams (l ∷ []) in
    subst (λ (w : State). Sofar w) (sym is) (record {
      fit = d.moves.fit so.fit;
      in_service = so.in_service;
      no_registers = so.no_registers;
      names = l.name ∷ so.names;
      same_names = prefix_or_after (l.name ∷ []) so.names s.declared so.same_names;
      walked = λ t x. declared_push t nothing_before s.order next_lam (before_of so.names s) (before_of (l.name ∷ so.names) v) (so.walked t (tree.fewer None (Some (l ∷ [])) None None None x)) (lam_next s u l so.names t x stands);
      few_tables = so.few_tables;
      counted_variables = so.counted_variables;
      few_variables = so.few_variables;
      few_lams = omega arith;
      few_services = so.few_services;
      few_procedures = so.few_procedures;
      few_registers = so.few_registers;
      counted = so.counted;
      few_statements = so.few_statements;
    })

-- ---- more variables

variables_stand : (names xs : List Text) (n : ℕ) → length xs ≡ n → 1 ≤ n → are_declarable xs names ≡ true → (nat_le 1 n && (nat_eq (length xs) n && are_declarable xs names)) ≡ true
variables_stand names xs n e some h = both _ _ (below_le 1 n some) (both _ _ (ap (λ (m : ℕ). nat_eq m n) e ∙ same_number n) h)

variables_next : (s u : State) (spot : Spot) (n : ℕ) (xs names : List Text) (t : Script) → Extends (with_variables_of spot n (record s { rest = u.rest; variables = s.variables ++ xs; variable_count = s.variable_count + length xs; declared = s.declared ++ xs; tried = u.tried })) t → length xs ≡ n → 1 ≤ n → are_declarable xs names ≡ true → declared t (before_of names s) (next_variables spot n) ≡ Some (before_of (xs ++ names) (with_variables_of spot n (record s { rest = u.rest; variables = s.variables ++ xs; variable_count = s.variable_count + length xs; declared = s.declared ++ xs; tried = u.tried })))
variables_next s u spot n xs names t x e some stands =
    let found : take n (drop (length s.variables) t.variables) ≡ xs = ap (λ (ys : List Text). take n (drop (length s.variables) ys)) x.variables_are ∙ ap (λ (m : ℕ). take m (drop (length s.variables) ((s.variables ++ xs) ++ x.variables))) (sym e) ∙ between s.variables xs x.variables in
    ap (λ (ys : List Text). unless_broken (nat_le 1 n && (nat_eq (length ys) n && are_declarable ys names)) (with_variables ys (before_of names s))) found
    ∙ ap (λ (b : Bool). unless_broken b (with_variables xs (before_of names s))) (variables_stand names xs n e some stands)
    ∙ ap (λ (m : ℕ). Some (record (before_of (xs ++ names) s) { variables = m })) (sym (length-append s.variables xs))

pub variables_sofar : (s s' : State) → Sofar s → VariableDeclaration s s' → Sofar s'
variables_sofar s s' so d =
    let xs = d.variables.names in
    let u = d.between in
    let v : State = with_variables_of d.spot d.count (record s { rest = u.rest; variables = s.variables ++ xs; variable_count = s.variable_count + length xs; declared = s.declared ++ xs; tried = u.tried }) in
    let is : s' ≡ v = d.left ∙ ap (λ (w : State). with_variables_of d.spot d.count w) d.variables.declares.same in
    let new : are_declarable xs so.names ≡ true = declarable_same xs so.names s.declared so.same_names ∙ d.variables.declares.new so.fit in
    let few : u.variable_count ≤ 64 = d.variables.declares.few so.few_variables in
    let same : u.variable_count ≡ s.variable_count + length xs = ap (λ (w : State). w.variable_count) d.variables.declares.same in
    subst (λ (w : State). Sofar w) (sym is) (record {
      fit = d.variables.declares.fit so.fit;
      in_service = so.in_service;
      no_registers = so.no_registers;
      names = xs ++ so.names;
      same_names = prefix_or_after xs so.names s.declared so.same_names;
      walked = λ t x. declared_push t nothing_before s.order (next_variables d.spot d.count) (before_of so.names s) (before_of (xs ++ so.names) v) (so.walked t (tree.fewer None None (Some xs) None None x)) (variables_next s u d.spot d.count xs so.names t x d.variables.counted d.some new);
      few_tables = so.few_tables;
      counted_variables = let longer : length (s.variables ++ xs) ≡ length s.variables + length xs = length-append s.variables xs in let before : s.variable_count ≡ length s.variables + total (λ (p : Procedure). length p.parameters) s.procedures = so.counted_variables in omega arith;
      few_variables = subst (λ (n : ℕ). n ≤ 64) same few;
      few_lams = so.few_lams;
      few_services = so.few_services;
      few_procedures = so.few_procedures;
      few_registers = so.few_registers;
      counted = so.counted;
      few_statements = so.few_statements;
    })

-- A service leaves the declarations well formed.

abbrev service_state : State → State → Spot → ℕ → ℕ → ℕ → List Statement → State
service_state s u spot lam cycles words body = service_added spot lam cycles words body (record s { rest = u.rest; registers = u.registers; statements = s.statements + statements (block_of body); tried = u.tried })

abbrev service_made : State → Spot → ℕ → ℕ → ℕ → List Statement → Service
service_made u spot lam cycles words body = record { spot = spot; lam = lam; cycles = cycles; words = words; registers = u.registers; body = block_of body }

service_extends : (s u : State) (spot : Spot) (lam cycles words : ℕ) (body : List Statement) (t : Script) → Extends (service_state s u spot lam cycles words body) t → Extends s t
service_extends s u spot lam cycles words body t x = record {
  tables = x.tables;
  tables_are = x.tables_are;
  lams = x.lams;
  lams_are = x.lams_are;
  variables = x.variables;
  variables_are = x.variables_are;
  procedures = x.procedures;
  procedures_are = x.procedures_are;
  services = service_made u spot lam cycles words body ∷ x.services;
  services_are = x.services_are ∙ append_assoc s.services (service_made u spot lam cycles words body ∷ []) x.services;
}

service_next : (s u : State) (spot : Spot) (lam cycles words : ℕ) (body : List Statement) (names : List Text) (t : Script) → Extends (service_state s u spot lam cycles words body) t → service_stands (before_of names s) (service_made u spot lam cycles words body) ≡ true → declared t (before_of names s) next_service ≡ Some (before_of names (service_state s u spot lam cycles words body))
service_next s u spot lam cycles words body names t x stands =
    let v : Service = service_made u spot lam cycles words body in
    ap (option_and_then (λ (m : Service). unless_broken (service_stands (before_of names s) m) (with_service (before_of names s)))) (ap (λ (vs : List Service). slice_get vs (length s.services)) x.services_are ∙ at_place s.services v x.services)
    ∙ ap (λ (b : Bool). unless_broken b (with_service (before_of names s))) stands
    ∙ ap (λ (n : ℕ). Some (record (before_of names s) { services = n })) (sym (length-append s.services (v ∷ [])))

pub body_stands : (s : State) (registers : List Text) (body : List Statement) → after_block (scope_of s) 0 (block_of body) ≡ Some (length registers) → inner_depth s.callables (block_of body) < 16 → body_fits (scope_of s) registers (block_of body) ≡ true
body_stands s registers body after deep =
    both _ _ (ap (λ (o : Option ℕ). has o (λ n. nat_eq n (length registers))) after ∙ same_number (length registers)) (below_le (suc (inner_depth s.callables (block_of body))) 16 (omega arith))

pub no_registers_fit : (limits : Limits) → limits.others ≤ 64 → RegistersFit limits []
no_registers_fit limits few = record { names = refl; few = omega arith }

-- in a service only the registers of procedures count beside its own
service_others : (s : State) → s.in_procedure ≡ false → other_registers s ≡ total (λ (p : Procedure). length p.registers) s.procedures
service_others s service = ap (λ (b : Bool). total (λ (p : Procedure). length p.registers) s.procedures + cond b (most (λ (v : Service). length v.registers) s.services) 0) service ∙ nothing_more (total (λ (p : Procedure). length p.registers) s.procedures) where
  nothing_more : (n : ℕ) → n + 0 ≡ n
  nothing_more n = omega arith

pub service_sofar : (s s' : State) → Sofar s → ServiceDeclaration s s' → Sofar s'
service_sofar s s' so d =
    let u = d.between in
    let v : Service = service_made u d.spot d.lam d.cycles d.words d.statements in
    let w : State = service_state s u d.spot d.lam d.cycles d.words d.statements in
    let is : s' ≡ w = d.left ∙ ap (λ (z : State). service_added d.spot d.lam d.cycles d.words d.statements z) d.body.same in
    let others : other_registers s ≡ total (λ (p : Procedure). length p.registers) s.procedures = service_others s so.in_service in
    let few_before : total (λ (p : Procedure). length p.registers) s.procedures + most (λ (x : Service). length x.registers) s.services ≤ 64 = so.few_registers in
    let begins : RegistersFit (limits_of s) s.registers = subst (λ (rs : List Text). RegistersFit (limits_of s) rs) (sym so.no_registers) (no_registers_fit (limits_of s) (omega arith)) in
    let registers : RegistersFit (limits_of s) u.registers = d.body.registers so.fit begins in
    let few_own : other_registers s + length u.registers ≤ 64 = registers.few in
    let names : are_declarable u.registers so.names ≡ true = declarable_same u.registers so.names s.declared so.same_names ∙ registers.names in
    let after : after_block (scope_of s) 0 (block_of d.statements) ≡ Some (length u.registers) = subst (λ (rs : List Text). after_block (scope_of s) (length rs) (block_of d.statements) ≡ Some (length u.registers)) so.no_registers (d.body.after so.fit) in
    let stands : service_stands (before_of so.names s) v ≡ true = both _ _ (lt-ltb d.lam (length s.lams) d.lam_fits) (both _ _ (d.cycles_fit so.fit) (both _ _ (d.words_fit so.fit) (both _ _ names (subst (λ (p : Bool). body_fits (record (scope_of s) { is_procedure = p }) u.registers (block_of d.statements) ≡ true) so.in_service (body_stands s u.registers d.statements after d.body.deep))))) in
    let room : length s.services < 24 = d.room in
    let longer : length (s.services ++ v ∷ []) ≡ length s.services + 1 = length-append s.services (v ∷ []) in
    let counted : u.statements ≡ s.statements + statements (block_of d.statements) = ap (λ (z : State). z.statements) d.body.same in
    let few : u.statements ≤ 4096 = d.body.few so.few_statements in
    subst (λ (z : State). Sofar z) (sym is) (record {
      fit = d.body.fit so.fit;
      in_service = so.in_service;
      no_registers = refl;
      names = so.names;
      same_names = so.same_names;
      walked = λ t x. declared_push t nothing_before s.order next_service (before_of so.names s) (before_of so.names w) (so.walked t (service_extends s u d.spot d.lam d.cycles d.words d.statements t x)) (service_next s u d.spot d.lam d.cycles d.words d.statements so.names t x stands);
      few_tables = so.few_tables;
      counted_variables = so.counted_variables;
      few_variables = so.few_variables;
      few_lams = so.few_lams;
      few_services = omega arith;
      few_procedures = so.few_procedures;
      few_registers = let most_of : most (λ (x : Service). length x.registers) (s.services ++ v ∷ []) ≤ 64 - total (λ (p : Procedure). length p.registers) s.procedures = most_push (λ (x : Service). length x.registers) s.services v (64 - total (λ (p : Procedure). length p.registers) s.procedures) (omega arith) (omega arith) in omega arith;
      counted = let pushed : total (λ (x : Service). statements x.body) (s.services ++ v ∷ []) ≡ total (λ (x : Service). statements x.body) s.services + statements (block_of d.statements) = total_push (λ (x : Service). statements x.body) s.services v in let before : s.statements ≡ total (λ (p : Procedure). statements p.body) s.procedures + total (λ (x : Service). statements x.body) s.services = so.counted in omega arith;
      few_statements = omega arith;
    })

-- A procedure leaves the declarations well formed.

-- The names of a procedure, its parameters and its registers are new where each was new in its turn.

swapped : (a b c : Bool) → (a && (b && c)) ≡ (b && (a && c))
swapped true b c = refl
swapped false true c = refl
swapped false false c = refl

grouped : (a b c : Bool) → ((a && b) && c) ≡ (a && (b && c))
grouped true b c = refl
grouped false b c = refl

abbrev is_other : Text → Text → Bool
is_other z y = not (bytes_eq z y)

-- a name before others is as good as after them
earlier : (z x : Text) (known xs : List Text) → is_new z (known ++ (x ∷ xs)) ≡ is_new z ((x ∷ known) ++ xs)
earlier z x known xs =
    each_append (is_other z) known (x ∷ xs)
    ∙ swapped (is_new z known) (is_other z x) (is_new z xs)
    ∙ sym (grouped (is_other z x) (is_new z known) (is_new z xs))
    ∙ sym (each_append (is_other z) (x ∷ known) xs)

new_append : (xs rs known more : List Text) → ((z : Text) → is_new z more ≡ is_new z (known ++ xs)) → are_new xs known ≡ true → are_new rs more ≡ true → are_new (xs ++ rs) known ≡ true
new_append [] rs known more same e h = new_same rs known more (λ z. sym (same z ∙ ap (λ (w : List Text). is_new z w) (append-nil known))) ∙ h
new_append (x ∷ xs) rs known more same e h =
    both (is_new x known) (are_new (xs ++ rs) (x ∷ known)) (first_of_both (is_new x known) (are_new xs (x ∷ known)) e)
    (new_append xs rs (x ∷ known) more (λ z. same z ∙ earlier z x known xs) (second_of_both (is_new x known) (are_new xs (x ∷ known)) e) h)

pub declarable_join : (x : Text) (xs rs known names : List Text) → ((z : Text) → is_new z names ≡ is_new z known) → is_name x ≡ true → is_new x known ≡ true → are_declarable xs (known ++ x ∷ []) ≡ true → are_declarable rs ((known ++ x ∷ []) ++ xs) ≡ true → are_declarable (x ∷ (xs ++ rs)) names ≡ true
declarable_join x xs rs known names same name free first second =
    let after_first = prefix_or_after (x ∷ []) names known same in
    let xs_new : are_new xs (x ∷ names) ≡ true = new_same xs (x ∷ names) (known ++ x ∷ []) after_first ∙ second_of_both (each is_name xs) (are_new xs (known ++ x ∷ [])) first in
    let rs_new : are_new rs ((known ++ x ∷ []) ++ xs) ≡ true = second_of_both (each is_name rs) (are_new rs ((known ++ x ∷ []) ++ xs)) second in
    both (is_name x && each is_name (xs ++ rs)) (is_new x names && are_new (xs ++ rs) (x ∷ names))
    (both (is_name x) (each is_name (xs ++ rs)) name (each_append is_name xs rs ∙ both (each is_name xs) (each is_name rs) (first_of_both (each is_name xs) (are_new xs (known ++ x ∷ [])) first) (first_of_both (each is_name rs) (are_new rs ((known ++ x ∷ []) ++ xs)) second)))
    (both (is_new x names) (are_new (xs ++ rs) (x ∷ names)) (same x ∙ free)
    (new_append xs rs (x ∷ names) ((known ++ x ∷ []) ++ xs) (λ z. each_append (is_other z) (known ++ x ∷ []) xs ∙ ap (λ (b : Bool). b && is_new z xs) (sym (after_first z)) ∙ sym (each_append (is_other z) (x ∷ names) xs)) xs_new rs_new))

module _ (s s' : State) (so : Sofar s) (d : ProcedureDeclaration s s') where
  abbrev p : Procedure
  p = procedure_made d.spot d.name d.heading d.last.registers d.body

  abbrev ps : List Parameter
  ps = d.heading.parameters

  -- what is declared inside
  abbrev inside : List Text
  inside = (s.declared ++ d.name ∷ []) ++ names_of ps

  -- the state after it
  abbrev after_it : State
  after_it = record s {
    rest = d.last.rest;
    variable_count = s.variable_count + length (names_of ps);
    declared = s.declared ++ d.name ∷ [];
    registers = [];
    in_procedure = false;
    outside = [];
    statements = s.statements + statements (block_of d.body);
    procedures = s.procedures ++ p ∷ [];
    callables = s.callables ++ callable s.callables p ∷ [];
    order = s.order ++ next_procedure ∷ [];
    tried = d.last.tried;
  }

  is_after : s' ≡ after_it
  is_after =
      d.left
      ∙ ap (λ (z : State). procedure_added p (length (s.declared ++ d.name ∷ [])) z) d.reads_body.same
      ∙ ap (λ (z : State). procedure_added p (length (s.declared ++ d.name ∷ [])) (record z { rest = d.last.rest; registers = d.last.registers; statements = z.statements + statements (block_of d.body); tried = d.last.tried })) d.reads_heading.parameters.names.same
      ∙ ap (λ (ds : List Text). record after_it { declared = ds }) (take-append_seam (s.declared ++ d.name ∷ []) (names_of ps))

  fit_between : AllFit d.between.rest
  fit_between = d.reads_heading.parameters.names.fit (d.fit so.fit)

  -- ---- the rules on its body

  no_register : d.between.registers ≡ []
  no_register = ap (λ (z : State). z.registers) d.reads_heading.parameters.names.same ∙ so.no_registers

  others_inside : other_registers d.between ≡ total (λ (q : Procedure). length q.registers) s.procedures + most (λ (v : Service). length v.registers) s.services
  others_inside = ap other_registers d.reads_heading.parameters.names.same

  registers_fit : RegistersFit (limits_of d.between) d.last.registers
  registers_fit =
      d.reads_body.registers fit_between (subst (λ (rs : List Text). RegistersFit (limits_of d.between) rs) (sym no_register) (no_registers_fit (limits_of d.between) (few_others (other_registers d.between) (total (λ (q : Procedure). length q.registers) s.procedures + most (λ (v : Service). length v.registers) s.services) others_inside so.few_registers)))
    where
      few_others : (n m : ℕ) → n ≡ m → m ≤ 64 → n ≤ 64
      few_others n m e h = omega arith

  scope_inside : scope_of d.between ≡ procedure_scope (before_of so.names s) p
  scope_inside =
      ap scope_of d.reads_heading.parameters.names.same
      ∙ ap (λ (n : ℕ). let c : Scope = record { variables = n; tables = length s.tables; lams = length s.lams; callables = s.callables; is_procedure = true } in c) (names_counted ps)

  after_body : after_block (procedure_scope (before_of so.names s) p) 0 (block_of d.body) ≡ Some (length d.last.registers)
  after_body =
      subst (λ (c : Scope). after_block c 0 (block_of d.body) ≡ Some (length d.last.registers)) scope_inside
      (subst (λ (rs : List Text). after_block (scope_of d.between) (length rs) (block_of d.body) ≡ Some (length d.last.registers)) no_register (d.reads_body.after fit_between))

  deep_body : inner_depth s.callables (block_of d.body) < 16
  deep_body = subst (λ (z : State). inner_depth z.callables (block_of d.body) < 16) d.reads_heading.parameters.names.same d.reads_body.deep

  procedure_body_stands : body_fits (procedure_scope (before_of so.names s) p) d.last.registers (block_of d.body) ≡ true
  procedure_body_stands =
      both _ _ (ap (λ (o : Option ℕ). has o (λ n. nat_eq n (length d.last.registers))) after_body ∙ same_number (length d.last.registers)) (below_le (suc (inner_depth s.callables (block_of d.body))) 16 (above (inner_depth s.callables (block_of d.body)) deep_body))
    where
      above : (n : ℕ) → n < 16 → suc n ≤ 16
      above n h = omega arith

  names_stand : are_declarable (d.name ∷ (names_of ps ++ d.last.registers)) so.names ≡ true
  names_stand =
      declarable_join d.name (names_of ps) d.last.registers s.declared so.names so.same_names (d.named so.fit) d.free (d.reads_heading.parameters.names.new (d.fit so.fit))
      (subst (λ (z : State). are_declarable d.last.registers z.declared ≡ true) d.reads_heading.parameters.names.same registers_fit.names)

  stands : procedure_stands (before_of so.names s) p ≡ true
  stands =
      both _ _ (below_le (length ps) 8 (few_of (length ps) d.reads_heading.parameters.few))
      (both _ _ (d.reads_heading.parameters.fit (d.fit so.fit))
      (both _ _ (d.reads_heading.cycles_fit (d.fit so.fit))
      (both _ _ (d.reads_heading.words_fit (d.fit so.fit))
      (both _ _ (d.reads_heading.steps_fit (d.fit so.fit))
      (both _ _ names_stand procedure_body_stands)))))
    where
      few_of : (n : ℕ) → 0 + n ≤ 8 → n ≤ 8
      few_of n h = omega arith

  -- ---- all declarations

  extends : (t : Script) → Extends after_it t → Extends s t
  extends t x = record {
    tables = x.tables;
    tables_are = x.tables_are;
    lams = x.lams;
    lams_are = x.lams_are;
    variables = x.variables;
    variables_are = x.variables_are;
    procedures = p ∷ x.procedures;
    procedures_are = x.procedures_are ∙ append_assoc s.procedures (p ∷ []) x.procedures;
    services = x.services;
    services_are = x.services_are;
  }

  next_one : (t : Script) → Extends after_it t → declared t (before_of so.names s) next_procedure ≡ Some (before_of (d.name ∷ so.names) after_it)
  next_one t x =
      ap (option_and_then (λ (q : Procedure). unless_broken (procedure_stands (before_of so.names s) q) (with_procedure q (before_of so.names s)))) (ap (λ (qs : List Procedure). slice_get qs (length s.procedures)) x.procedures_are ∙ at_place s.procedures p x.procedures)
      ∙ ap (λ (b : Bool). unless_broken b (with_procedure p (before_of so.names s))) stands
      ∙ ap (λ (n : ℕ). Some (record (before_of (d.name ∷ so.names) after_it) { procedures = n })) (sym (length-append s.procedures (p ∷ [])))

  pub procedure_sofar : Sofar s'
  procedure_sofar =
      let names : length (names_of ps) ≡ length ps = names_counted ps in
      let parameters : total (λ (q : Procedure). length q.parameters) (s.procedures ++ p ∷ []) ≡ total (λ (q : Procedure). length q.parameters) s.procedures + length ps = total_push (λ (q : Procedure). length q.parameters) s.procedures p in
      let registers : total (λ (q : Procedure). length q.registers) (s.procedures ++ p ∷ []) ≡ total (λ (q : Procedure). length q.registers) s.procedures + length d.last.registers = total_push (λ (q : Procedure). length q.registers) s.procedures p in
      let counted : total (λ (q : Procedure). statements q.body) (s.procedures ++ p ∷ []) ≡ total (λ (q : Procedure). statements q.body) s.procedures + statements (block_of d.body) = total_push (λ (q : Procedure). statements q.body) s.procedures p in
      let longer : length (s.procedures ++ p ∷ []) ≡ length s.procedures + 1 = length-append s.procedures (p ∷ []) in
      let room : length s.procedures < 16 = d.room in
      let few_registers : other_registers d.between + length d.last.registers ≤ 64 = registers_fit.few in
      let others : other_registers d.between ≡ total (λ (q : Procedure). length q.registers) s.procedures + most (λ (v : Service). length v.registers) s.services = others_inside in
      let before_variables : s.variable_count ≡ length s.variables + total (λ (q : Procedure). length q.parameters) s.procedures = so.counted_variables in
      let before_statements : s.statements ≡ total (λ (q : Procedure). statements q.body) s.procedures + total (λ (v : Service). statements v.body) s.services = so.counted in
      let few_variables : s.variable_count + length (names_of ps) ≤ 64 = subst (λ (z : State). z.variable_count ≤ 64) d.reads_heading.parameters.names.same (d.reads_heading.parameters.names.few so.few_variables) in
      let at_heading : d.between.statements ≡ s.statements = ap (λ (z : State). z.statements) d.reads_heading.parameters.names.same in
      let at_body : d.last.statements ≡ d.between.statements + statements (block_of d.body) = ap (λ (z : State). z.statements) d.reads_body.same in
      let few_before : s.statements ≤ 4096 = so.few_statements in
      let few_after : d.last.statements ≤ 4096 = d.reads_body.few (omega arith) in
      subst (λ (z : State). Sofar z) (sym is_after) (record {
        fit = d.reads_body.fit fit_between;
        in_service = refl;
        no_registers = refl;
        names = d.name ∷ so.names;
        same_names = prefix_or_after (d.name ∷ []) so.names s.declared so.same_names;
        walked = λ t x. declared_push t nothing_before s.order next_procedure (before_of so.names s) (before_of (d.name ∷ so.names) after_it) (so.walked t (extends t x)) (next_one t x);
        few_tables = so.few_tables;
        counted_variables = omega arith;
        few_variables = few_variables;
        few_lams = so.few_lams;
        few_services = so.few_services;
        few_procedures = omega arith;
        few_registers = omega arith;
        counted = omega arith;
        few_statements = omega arith;
      })

-- What is read is well formed.

-- ---- a whole script

declares_sofar : (s s' : State) → Sofar s → Declares s s' → Sofar s'
declares_sofar s s' so (a_procedure d) = procedure_sofar s s' so d
declares_sofar s s' so (a_table d) = table_sofar s s' so d
declares_sofar s s' so (a_lam d) = lam_sofar s s' so d
declares_sofar s s' so (some_variables d) = variables_sofar s s' so d
declares_sofar s s' so (a_service d) = service_sofar s s' so d

starts : (ts : List Token) (end_line : ℕ) → AllFit ts → Sofar (start ts end_line)
starts ts end_line fit = record {
  fit = fit;
  in_service = refl;
  no_registers = refl;
  names = [];
  same_names = λ x. refl;
  walked = λ t x. refl;
  few_tables = omega arith;
  counted_variables = refl;
  few_variables = omega arith;
  few_lams = omega arith;
  few_services = omega arith;
  few_procedures = omega arith;
  few_registers = omega arith;
  counted = refl;
  few_statements = omega arith;
}

sofar_limits : (s : State) → Sofar s → within_limits (tree_so_far s) ≡ true
sofar_limits s so =
    let few_tables : length s.tables ≤ 16 = so.few_tables in
    let counted_variables : s.variable_count ≡ length s.variables + total (λ (p : Procedure). length p.parameters) s.procedures = so.counted_variables in
    let few_variables : s.variable_count ≤ 64 = so.few_variables in
    let few_registers : total (λ (p : Procedure). length p.registers) s.procedures + most (λ (v : Service). length v.registers) s.services ≤ 64 = so.few_registers in
    let few_procedures : length s.procedures ≤ 16 = so.few_procedures in
    let counted : s.statements ≡ total (λ (p : Procedure). statements p.body) s.procedures + total (λ (v : Service). statements v.body) s.services = so.counted in
    let few_statements : s.statements ≤ 4096 = so.few_statements in
    both _ _ (below_le (length s.variables + total (λ p. length p.parameters) s.procedures) 64 (omega arith))
    (both _ _ (below_le (total (λ p. length p.registers) s.procedures + most (λ (v : Service). length v.registers) s.services) 64 (omega arith))
    (both _ _ (below_le (length s.lams) 64 so.few_lams)
    (both _ _ (below_le (length s.tables) 16 (omega arith))
    (both _ _ (below_le (length s.services) 24 so.few_services)
    (both _ _ (below_le (length s.procedures) 16 (omega arith))
    (below_le (total (λ p. statements p.body) s.procedures + total (λ (v : Service). statements v.body) s.services) 4096 (omega arith)))))))

sofar_all : (s : State) (names : List Text) → is_all (tree_so_far s) (before_of names s) ≡ true
sofar_all s names = both _ _ (same_number (length s.tables)) (both _ _ (same_number (length s.lams)) (both _ _ (same_number (length s.variables)) (both _ _ (same_number (length s.procedures)) (same_number (length s.services)))))

sofar_well_formed : (s : State) → Sofar s → IsTrue (is_well_formed (tree_so_far s))
unfolding is_well_formed
sofar_well_formed s so =
    both _ _ (sofar_limits s so) (ap (λ (o : Option Before). has o (is_all (tree_so_far s))) (so.walked (tree_so_far s) (itself (tree_so_far s))) ∙ sofar_all s so.names)

-- what is read from a text's tokens is well formed
pub read_well_formed : (text : List ℕ) (ts : List Token) (end_line : ℕ) (y : Unit {0} × State) → tokens_of text ≡ Ok ts → declarations_at (start ts end_line) ≡ Ok y → IsTrue (is_well_formed (tree_so_far y.1))
unfolding declarations_at
read_well_formed text ts end_line y made e =
    sofar_well_formed y.1 (while_keeps (λ (_ : Unit {0}) (s : State). Sofar s) is_token (λ _. declaration_at) (λ x s x' s' so on took. declares_sofar s s' so (declaration_ok s (x', s') took)) tt (start ts end_line) y (starts ts end_line (tokens_fit text ts made)) e)
