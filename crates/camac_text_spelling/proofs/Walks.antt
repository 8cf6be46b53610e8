-- LAMs, tables, variables, services and procedures of a well-formed tree, which its tokens spell, are read one after the other.
use Rattle.std.proofs.Common.{◌≡◌, ℕ, ◌+◌, ◌≤◌, ◌<◌, true, false, not, ◌&&◌, nat_eq, nat_le, min, List, [], ◌∷◌, ◌++◌, map, length, take, drop, Some, refl, sym, ap, subst, ◌∙◌, length-append, arith, suc, nat_lt, Option, None, Bool, cond}
use Rattle.std.proofs.lemmas.Bool.{lt-ltb, leb-true, eqb-true}
use Rattle.std.proofs.lemmas.List.{length-take, length-take-le, map-append}
use Rattle.std.proofs.Math.Seq.{take-add}
use Rattle.std.proofs.lemmas.Option.{slice_get_within}
use Rattle.std.specs.Prelude.{slice_get}
use Rattle.std.specs.Str.{bytes_eq}
use Rattle.camac_lang.specs.Scope.{Before, are_declarable, table_stands, lam_stands, with_table, with_lam, with_variables, declared, body_fits, procedure_stands, procedure_scope, service_stands, service_scope, with_procedure, with_service}
use Rattle.camac_lang.specs.Tests.{each, total, is_name, is_new, are_new, is_number, is_sub_address, unless_broken, has, most}
use Rattle.camac_lang.specs.Tree.{Text, Table, Lam, Procedure, Item, next_table, next_lam, next_variables, Script, Block, Service, next_procedure, next_service}
use Rattle.camac_lang.specs.declared.spot.Spot.{Spot}
use Rattle.camac_lang.specs.Depth.{inner_depth, callable}
use Rattle.camac_lang.specs.Expressions.{Scope, Callable}
use Rattle.camac_lang.specs.Statements.{after_block, statements}
use Rattle.camac_lang.proofs.Options.{unless_parts, then_parts}
use Rattle.camac_tokens.specs.declared.token.Token.{Token}
use Rattle.camac_text_cursor.specs.Reading.{State, kind_of}
use Rattle.camac_text_cursor.specs.Readers.{is_name as next_is_name, is_number as next_is_number, other_registers}
use Rattle.camac_text_cursor.specs.Declaring.{with_lam as lam_added, with_variables_of, with_table as table_added}
use Rattle.camac_text_cursor.proofs.Places.{hushed}
use Rattle.camac_text_cursor.proofs.Registers.{first_of_both, second_of_both, both}
use Rattle.camac_text_cursor.proofs.Uses.{scope_of}
use Rattle.camac_text.specs.Declarations.{declaration_at}
use Rattle.camac_text.proofs.Listed.{each_append, new_same, prefix_or_after, total_push}
use Rattle.camac_text.proofs.ParametersRead.{names_of, names_counted}
use Rattle.camac_text_spelling.specs.Pieces.{Prefix}
use Rattle.camac_text_spelling.specs.Declarations as spell
use Rattle.camac_text_spelling.specs.Declarations.{Passed, service_names, procedure_names}
use Rattle.camac_text_spelling.proofs.GivesExpressions.{at, ok}
use Rattle.camac_text_spelling.proofs.Walk.{take_one, new_after, total_first, new_parts, most_there, total_there, most_first, parameter_count, passed_of, AreFirst, first_count, Limited, Stands, there, own_registers, service_registers, procedure_statements, service_statements, finds_names, procedure_finds, sets_names, Closes}
use Rattle.camac_text_spelling.proofs.GivesDeclarations.{lam_declared, with_names, variables_declared, with_body, service_declared, table_declared, inside, with_procedure_body, procedure_declared}
use Rattle.camac_text_spelling.proofs.GivesStatements.{RunsBraced}

-- LAMs, tables and variables of a well-formed tree, which its tokens spell, are read one after the other.

-- One more declaration is read, and the state after it is that after the first declarations.
pub record Goes (t : Script) (b : Before) (i : Item) (s : State) (rest : List Token) : Type 0 where
  pub next : State
  pub read : declaration_at (hushed s) ≡ ok tt (hushed next)
  pub ordered : next.order ≡ s.order ++ i ∷ []
  pub left : next.rest ≡ rest
  pub stands : Stands t b next

-- new names among those before, before or after
covers_more : (xs vs ds : List Text) → ((x : Text) → is_new x ds ≡ true → is_new x vs ≡ true) → (x : Text) → is_new x (ds ++ xs) ≡ true → is_new x (vs ++ xs) ≡ true
covers_more xs vs ds covers x e =
    let parts = sym (each_append (λ y. not (bytes_eq x y)) ds xs) ∙ e in
    each_append (λ y. not (bytes_eq x y)) vs xs ∙ both (is_new x vs) (is_new x xs) (covers x (first_of_both (is_new x ds) (is_new x xs) parts)) (second_of_both (is_new x ds) (is_new x xs) parts)

pub covers_still : (xs vs ds : List Text) → ((x : Text) → is_new x ds ≡ true → is_new x vs ≡ true) → (x : Text) → is_new x (ds ++ xs) ≡ true → is_new x vs ≡ true
covers_still xs vs ds covers x e = covers x (first_of_both (is_new x ds) (is_new x xs) (sym (each_append (λ y. not (bytes_eq x y)) ds xs) ∙ e))

-- the first ones are so among more names, and with one more
pub still_first : {A : Type 0} {name : A → Text} {declared : List Text} {n : ℕ} {xs all : List A} (more : List Text) → AreFirst name declared n xs all → AreFirst name (declared ++ more) n xs all
still_first {name = name} {declared = declared} {xs = xs} more f = record { first = f.first; within = f.within; new = f.new; covers = covers_still more (map name xs) declared f.covers }

pub one_first : {A : Type 0} {name : A → Text} {declared : List Text} {n : ℕ} {xs all : List A} (x : A) → AreFirst name declared n xs all → slice_get all n ≡ Some x → is_new (name x) declared ≡ true → AreFirst name (declared ++ name x ∷ []) (n + 1) (xs ++ x ∷ []) all
one_first {A = A} {name = name} {declared = declared} {n = n} {xs = xs} {all = all} x f here new =
    let within : n < length all = slice_get_within all n x here in
    let named : map name (xs ++ x ∷ []) ≡ map name xs ++ name x ∷ [] = map-append name xs (x ∷ []) in
    record {
      first = ap (λ (ys : List A). ys ++ x ∷ []) f.first ∙ sym (take_one all n x here);
      within = omega arith;
      new = subst (λ (ys : List Text). are_new ys [] ≡ true) (sym named) (new_after (name x ∷ []) (map name xs) declared f.new f.covers (both (is_new (name x) declared) true new refl));
      covers = λ y h. subst (λ (ys : List Text). is_new y ys ≡ true) (sym named) (covers_more (name x ∷ []) (map name xs) declared f.covers y h);
    }

pub lam_goes : (t : Script) (b b' : Before) (s : State) (rest : List Token) → Limited t → Stands t b s → declared t b next_lam ≡ Some b' → Prefix s.rest (spell.declaration t (passed_of b) next_lam) rest → Goes t b' next_lam s rest
lam_goes t b b' s rest limits st e f =
    let p = then_parts (λ l. unless_broken (lam_stands b l) (with_lam l.name b)) (slice_get t.lams b.lams) b' e in
    let l : Lam = p.0 in
    let r = unless_parts (lam_stands b l) (with_lam l.name b) b' p.2 in
    let declarable = first_of_both (are_declarable (l.name ∷ []) b.names) _ r.0 in
    let numbers = second_of_both (are_declarable (l.name ∷ []) b.names) _ r.0 in
    let rest_numbers = second_of_both (is_number l.crate_no) _ numbers in
    let sub : l.sub_address ≤ 15 = leb-true l.sub_address 15 (second_of_both (is_number l.station) (is_sub_address l.sub_address) rest_numbers) in
    let sub_less : l.sub_address < 16 = omega arith in
    let new_b : is_new l.name b.names ≡ true = first_of_both (is_new l.name b.names) true (second_of_both (each is_name (l.name ∷ [])) (are_new (l.name ∷ []) b.names) declarable) in
    let new : is_new l.name s.declared ≡ true = sym (st.names l.name) ∙ new_b in
    let many : length s.lams ≡ b.lams = first_count st.lams in
    let within : b.lams < length t.lams = slice_get_within t.lams b.lams l p.1 in
    let few : length t.lams ≤ 64 = limits.lams in
    let u : State = lam_added l (at s rest) in
    let stands : Stands t (with_lam l.name b) u = record {
      tables = still_first (l.name ∷ []) st.tables;
      lams = one_first l st.lams p.1 new;
      procedures = still_first (l.name ∷ []) st.procedures;
      callables = st.callables;
      called = st.called;
      outside = st.outside;
      counted = st.counted;
      variables = st.variables;
      variables_within = st.variables_within;
      new_variables = st.new_variables;
      covers_variables = covers_still (l.name ∷ []) s.variables s.declared st.covers_variables;
      services = st.services;
      services_within = st.services_within;
      registers = st.registers;
      statements = st.statements;
      names = prefix_or_after (l.name ∷ []) b.names s.declared st.names;
    } in
    record {
      next = u;
      read = lam_declared l s rest (omega arith) new (lt-ltb l.sub_address 16 sub_less) (there spell.lam_declaration (slice_get t.lams b.lams) l s.rest rest p.1 f);
      ordered = refl;
      left = refl;
      stands = subst (λ (k : Before). Stands t k u) r.1 stands;
    }

pub table_goes : (t : Script) (b b' : Before) (s : State) (rest : List Token) → Limited t → Stands t b s → declared t b next_table ≡ Some b' → Prefix s.rest (spell.declaration t (passed_of b) next_table) rest → next_is_number (kind_of rest) ≡ false → Goes t b' next_table s rest
table_goes t b b' s rest limits st e f off =
    let p = then_parts (λ g. unless_broken (table_stands b g) (with_table g.name b)) (slice_get t.tables b.tables) b' e in
    let g : Table = p.0 in
    let r = unless_parts (table_stands b g) (with_table g.name b) b' p.2 in
    let declarable = first_of_both (are_declarable (g.name ∷ []) b.names) _ r.0 in
    let sizes = second_of_both (are_declarable (g.name ∷ []) b.names) _ r.0 in
    let upper = second_of_both (nat_le 1 (length g.words)) _ sizes in
    let new_b : is_new g.name b.names ≡ true = first_of_both (is_new g.name b.names) true (second_of_both (each is_name (g.name ∷ [])) (are_new (g.name ∷ []) b.names) declarable) in
    let new : is_new g.name s.declared ≡ true = sym (st.names g.name) ∙ new_b in
    let many : length s.tables ≡ b.tables = first_count st.tables in
    let within : b.tables < length t.tables = slice_get_within t.tables b.tables g p.1 in
    let few : length t.tables ≤ 16 = limits.tables in
    let u : State = table_added g (at s rest) in
    let stands : Stands t (with_table g.name b) u = record {
      tables = one_first g st.tables p.1 new;
      lams = still_first (g.name ∷ []) st.lams;
      procedures = still_first (g.name ∷ []) st.procedures;
      callables = st.callables;
      called = st.called;
      outside = st.outside;
      counted = st.counted;
      variables = st.variables;
      variables_within = st.variables_within;
      new_variables = st.new_variables;
      covers_variables = covers_still (g.name ∷ []) s.variables s.declared st.covers_variables;
      services = st.services;
      services_within = st.services_within;
      registers = st.registers;
      statements = st.statements;
      names = prefix_or_after (g.name ∷ []) b.names s.declared st.names;
    } in
    record {
      next = u;
      read = table_declared g s rest (omega arith) new (leb-true 1 (length g.words) (first_of_both (nat_le 1 (length g.words)) _ sizes)) (leb-true (length g.words) 1024 (first_of_both (nat_le (length g.words) 1024) _ upper)) (second_of_both (nat_le (length g.words) 1024) _ upper) (there spell.table_declaration (slice_get t.tables b.tables) g s.rest rest p.1 f) off;
      ordered = refl;
      left = refl;
      stands = subst (λ (k : Before). Stands t k u) r.1 stands;
    }

-- so many names more
take_names : (m n : ℕ) (ys xs : List Text) → take n (drop m ys) ≡ xs → length xs ≡ n → m ≤ length ys → (take m ys ++ xs ≡ take (m + n) ys) × (m + n ≤ length ys)
take_names m n ys xs same many within =
    let joined : take m ys ++ xs ≡ take (m + n) ys = ap (λ (w : List Text). take m ys ++ w) (sym same) ∙ sym (take-add m n ys) in
    let size : length (take (m + n) ys) ≡ m + n = ap (λ (w : List Text). length w) (sym joined) ∙ length-append (take m ys) xs ∙ ap (λ (i : ℕ). i + length xs) (length-take-le m ys within) ∙ ap (λ (i : ℕ). m + i) many in
    let bound : length (take (m + n) ys) ≡ min (m + n) (length ys) = length-take (m + n) ys in
    (joined, omega arith)

pub variables_goes : (t : Script) (spot : Spot) (n : ℕ) (b b' : Before) (s : State) (rest : List Token) → Limited t → Stands t b s → declared t b (next_variables spot n) ≡ Some b' → Prefix s.rest (spell.declaration t (passed_of b) (next_variables spot n)) rest → next_is_name (kind_of rest) ≡ false → Goes t b' (next_variables spot n) s rest
variables_goes t spot n b b' s rest limits st e f off =
    let xs : List Text = take n (drop b.variables t.variables) in
    let r = unless_parts (nat_le 1 n && (nat_eq (length xs) n && are_declarable xs b.names)) (with_variables xs b) b' e in
    let some : 1 ≤ n = leb-true 1 n (first_of_both (nat_le 1 n) _ r.0) in
    let counted = second_of_both (nat_le 1 n) _ r.0 in
    let many : length xs ≡ n = eqb-true (length xs) n (first_of_both (nat_eq (length xs) n) _ counted) in
    let new_b : are_new xs b.names ≡ true = second_of_both (each is_name xs) (are_new xs b.names) (second_of_both (nat_eq (length xs) n) _ counted) in
    let new : are_new xs s.declared ≡ true = sym (new_same xs b.names s.declared st.names) ∙ new_b in
    let grows = take_names b.variables n t.variables xs refl many st.variables_within in
    let here : length s.variables ≡ b.variables = ap (λ (ys : List Text). length ys) st.variables ∙ length-take-le b.variables t.variables st.variables_within in
    let within : b.variables + n ≤ length t.variables = grows.1 in
    let few : length t.variables + total parameter_count t.procedures ≤ 64 = limits.variables in
    let count : s.variable_count ≡ length s.variables + total parameter_count s.procedures = st.counted in
    let parameters : total parameter_count s.procedures ≤ total parameter_count t.procedures = subst (λ (ps : List Procedure). total parameter_count ps ≤ total parameter_count t.procedures) (sym st.procedures.first) (total_first parameter_count t.procedures b.procedures) in
    let longer : length (s.variables ++ xs) ≡ length s.variables + length xs = length-append s.variables xs in
    let u : State = with_variables_of spot n (with_names s rest xs) in
    let grown : s.variables ++ xs ≡ take (b.variables + length xs) t.variables = ap (λ (ys : List Text). ys ++ xs) st.variables ∙ grows.0 ∙ ap (λ (i : ℕ). take (b.variables + i) t.variables) (sym many) in
    let stands : Stands t (with_variables xs b) u = record {
      tables = still_first xs st.tables;
      lams = still_first xs st.lams;
      procedures = still_first xs st.procedures;
      callables = st.callables;
      called = st.called;
      outside = st.outside;
      counted = omega arith;
      variables = grown;
      variables_within = omega arith;
      new_variables = new_after xs s.variables s.declared st.new_variables st.covers_variables new;
      covers_variables = covers_more xs s.variables s.declared st.covers_variables;
      services = st.services;
      services_within = st.services_within;
      registers = st.registers;
      statements = st.statements;
      names = prefix_or_after xs b.names s.declared st.names;
    } in
    record {
      next = u;
      read = variables_declared spot n xs s rest some many new (omega arith) f off;
      ordered = refl;
      left = refl;
      stands = subst (λ (k : Before). Stands t k u) r.1 stands;
    }

-- Services and procedures of a well-formed tree, which its tokens spell, are read, and so is every declaration.

-- ---- the scope of the tree's rules is that of the reader

abbrev scope : ℕ → ℕ → ℕ → List Callable → Bool → Scope
scope v g l qs is_procedure = record { variables = v; tables = g; lams = l; callables = qs; is_procedure = is_procedure }

same_scope : (t : Script) (b : Before) (s : State) (v w : ℕ) (x y : Bool) → Stands t b s → v ≡ w → x ≡ y → scope v b.tables b.lams b.callables x ≡ scope w (length s.tables) (length s.lams) s.callables y
same_scope t b s v w x y st variables inside_or_not =
    let lams : b.lams ≡ length s.lams = sym (first_count st.lams) in
    let tables : b.tables ≡ length s.tables = sym (first_count st.tables) in
    ap (λ (i : ℕ). scope i b.tables b.lams b.callables x) variables
    ∙ ap (λ (i : ℕ). scope w i b.lams b.callables x) tables
    ∙ ap (λ (i : ℕ). scope w (length s.tables) i b.callables x) lams
    ∙ ap (λ (qs : List Callable). scope w (length s.tables) (length s.lams) qs x) st.callables
    ∙ ap (λ (z : Bool). scope w (length s.tables) (length s.lams) s.callables z) inside_or_not

same_service_scope : (t : Script) (b : Before) (s : State) → Stands t b s → service_scope b ≡ scope_of s
same_service_scope t b s st =
    same_scope t b s b.variables (length s.variables) false s.in_procedure st (sym (ap (λ (ys : List Text). length ys) st.variables ∙ length-take-le b.variables t.variables st.variables_within)) (sym st.outside)

same_procedure_scope : (t : Script) (b : Before) (s : State) (q : Procedure) → Stands t b s → procedure_scope b q ≡ scope_of (inside s s.rest q)
same_procedure_scope t b s q st =
    same_scope t b s (length q.parameters) (length (names_of q.parameters)) true true st (sym (names_counted q.parameters)) refl

has_some : (o : Option ℕ) (n : ℕ) → has o (λ k. nat_eq k n) ≡ true → o ≡ Some n
has_some None n e = absurd cc
has_some (Some k) n e = ap (λ (i : ℕ). Some i) (eqb-true k n e)

-- what the rules say of a body, in the reader's scope
body_reaches : (c d : Scope) (registers : List Text) (x : Block) → c ≡ d → body_fits c registers x ≡ true → (after_block d 0 x ≡ Some (length registers)) × (suc (inner_depth d.callables x) ≤ 16)
body_reaches c d registers x same e =
    let fits : body_fits d registers x ≡ true = subst (λ (z : Scope). body_fits z registers x ≡ true) same e in (
      has_some (after_block d 0 x) (length registers) (first_of_both (has (after_block d 0 x) (λ n. nat_eq n (length registers))) _ fits),
      leb-true (suc (inner_depth d.callables x)) 16 (second_of_both (has (after_block d 0 x) (λ n. nat_eq n (length registers))) _ fits),
    )

-- ---- what is counted so far

-- of the first procedures and services no more than of all
record Counted (t : Script) (s : State) : Type 0 where
  procedure_registers : total own_registers s.procedures ≤ total own_registers t.procedures
  registers_of_services : most service_registers s.services ≤ most service_registers t.services
  of_procedures : total procedure_statements s.procedures ≤ total procedure_statements t.procedures
  of_services : total service_statements s.services ≤ total service_statements t.services

counted_so_far : (t : Script) (b : Before) (s : State) → Stands t b s → Counted t s
counted_so_far t b s st = record {
  procedure_registers = of_procedures_first own_registers;
  registers_of_services = subst (λ (vs : List Service). most service_registers vs ≤ most service_registers t.services) (sym st.services) (most_first service_registers t.services b.services);
  of_procedures = of_procedures_first procedure_statements;
  of_services = subst (λ (vs : List Service). total service_statements vs ≤ total service_statements t.services) (sym st.services) (total_first service_statements t.services b.services);
}
  where
    of_procedures_first : (f : Procedure → ℕ) → total f s.procedures ≤ total f t.procedures
    of_procedures_first f = subst (λ (ps : List Procedure). total f ps ≤ total f t.procedures) (sym st.procedures.first) (total_first f t.procedures b.procedures)

-- with one more they are still no more
service_more : (t : Script) (b : Before) (s : State) (v : Service) → Stands t b s → slice_get t.services b.services ≡ Some v → total service_statements s.services + statements v.body ≤ total service_statements t.services
service_more t b s v st here =
    subst (λ (vs : List Service). total service_statements vs + statements v.body ≤ total service_statements t.services) (sym st.services) (total_there service_statements t.services b.services v here)

procedure_more : (f : Procedure → ℕ) (t : Script) (b : Before) (s : State) (q : Procedure) → Stands t b s → slice_get t.procedures b.procedures ≡ Some q → total f s.procedures + f q ≤ total f t.procedures
procedure_more f t b s q st here =
    subst (λ (ps : List Procedure). total f ps + f q ≤ total f t.procedures) (sym st.procedures.first) (total_there f t.procedures b.procedures q here)

-- outside of procedures only their registers count beside those of the body
beside_service : (s : State) → s.in_procedure ≡ false → other_registers s ≡ total own_registers s.procedures
beside_service s out =
    let none_more : total own_registers s.procedures + 0 ≡ total own_registers s.procedures = omega arith in
    ap (λ (x : Bool). total own_registers s.procedures + cond x (most service_registers s.services) 0) out ∙ none_more

-- ---- a service

service_goes : (t : Script) (b b' : Before) (s : State) (rest : List Token) → Limited t → Stands t b s → declared t b next_service ≡ Some b' → Prefix s.rest (spell.declaration t (passed_of b) next_service) rest → Goes t b' next_service s rest
service_goes t b b' s rest limits st e f =
    let p = then_parts (λ v. unless_broken (service_stands b v) (with_service b)) (slice_get t.services b.services) b' e in
    let v : Service = p.0 in
    let r = unless_parts (service_stands b v) (with_service b) b' p.2 in
    let lam_fits : nat_lt v.lam b.lams ≡ true = first_of_both (nat_lt v.lam b.lams) _ r.0 in
    let after_lam = second_of_both (nat_lt v.lam b.lams) _ r.0 in
    let after_cycles = second_of_both (is_number v.cycles) _ after_lam in
    let after_words = second_of_both (is_number v.words) _ after_cycles in
    let new_b : are_new v.registers b.names ≡ true = second_of_both (each is_name v.registers) _ (first_of_both (are_declarable v.registers b.names) _ after_words) in
    let new : are_new v.registers s.declared ≡ true = sym (new_same v.registers b.names s.declared st.names) ∙ new_b in
    let body = body_reaches (service_scope b) (scope_of s) v.registers v.body (same_service_scope t b s st) (second_of_both (are_declarable v.registers b.names) _ after_words) in
    let so_far : Counted t s = counted_so_far t b s st in
    let own : length v.registers ≤ most service_registers t.services = most_there service_registers t.services b.services v p.1 in
    let before : total own_registers s.procedures ≤ total own_registers t.procedures = so_far.procedure_registers in
    let all_registers : total own_registers t.procedures + most service_registers t.services ≤ 64 = limits.registers in
    let beside : other_registers s ≡ total own_registers s.procedures = beside_service s st.outside in
    let m : ℕ = s.statements + statements v.body in
    let counted : s.statements ≡ total procedure_statements s.procedures + total service_statements s.services = st.statements in
    let of_procedures : total procedure_statements s.procedures ≤ total procedure_statements t.procedures = so_far.of_procedures in
    let one_more : total service_statements s.services + statements v.body ≤ total service_statements t.services = service_more t b s v st p.1 in
    let all_statements : total procedure_statements t.procedures + total service_statements t.services ≤ 4096 = limits.statements in
    let runs : RunsBraced (service_names t v) (hushed s) 0 (length v.registers) m 16 v.body = record {
      finds = finds_names t b s v st;
      sets = sets_names (service_names t v) s.declared (other_registers s) new (omega arith);
      registers = st.registers;
      reached = body.0;
      within = omega arith;
      deep = body.1;
      counted = refl;
      few = omega arith;
    } in
    let many : length s.services ≡ b.services = ap (λ (vs : List Service). length vs) st.services ∙ length-take-le b.services t.services st.services_within in
    let within : b.services < length t.services = slice_get_within t.services b.services v p.1 in
    let few : length t.services ≤ 24 = limits.services in
    let lams : b.lams ≡ length s.lams = sym (first_count st.lams) in
    let pushed : total service_statements (s.services ++ v ∷ []) ≡ total service_statements s.services + statements v.body = total_push service_statements s.services v in
    let u : State = with_body s rest v m in
    let stands : Stands t (with_service b) u = record {
      tables = st.tables;
      lams = st.lams;
      procedures = st.procedures;
      callables = st.callables;
      called = st.called;
      outside = st.outside;
      counted = st.counted;
      variables = st.variables;
      variables_within = st.variables_within;
      new_variables = st.new_variables;
      covers_variables = st.covers_variables;
      services = ap (λ (vs : List Service). vs ++ v ∷ []) st.services ∙ sym (take_one t.services b.services v p.1);
      services_within = omega arith;
      registers = refl;
      statements = omega arith;
      names = st.names;
    } in
    record {
      next = u;
      read = service_declared t v s rest m (omega arith) (ap (λ (i : ℕ). nat_lt v.lam i) (sym lams) ∙ lam_fits) runs (there (spell.service_declaration t) (slice_get t.services b.services) v s.rest rest p.1 f);
      ordered = refl;
      left = refl;
      stands = subst (λ (k : Before). Stands t k u) r.1 stands;
    }

-- ---- a procedure

-- what the rules say of it, where the reader stands
record Right (t : Script) (s : State) (q : Procedure) : Type 0 where
  new : is_new q.name s.declared ≡ true
  new_parameters : are_new (names_of q.parameters) (s.declared ++ q.name ∷ []) ≡ true
  new_registers : are_new q.registers ((s.declared ++ q.name ∷ []) ++ names_of q.parameters) ≡ true
  few : length q.parameters ≤ 8
  body : (after_block (scope_of (inside s s.rest q)) 0 q.body ≡ Some (length q.registers)) × (suc (inner_depth s.callables q.body) ≤ 16)

right : (t : Script) (b : Before) (s : State) (q : Procedure) → Stands t b s → procedure_stands b q ≡ true → Right t s q
right t b s q st e =
    let e1 = second_of_both (nat_le (length q.parameters) 8) _ e in
    let e2 = second_of_both (each (λ x. is_number x.low && is_number x.high) q.parameters) _ e1 in
    let e3 = second_of_both (is_number q.cycles) _ e2 in
    let e4 = second_of_both (is_number q.words) _ e3 in
    let e5 = second_of_both (is_number q.steps) _ e4 in
    let names : List Text = names_of q.parameters ++ q.registers in
    let declarable = first_of_both (are_declarable (q.name ∷ names) b.names) _ e5 in
    let new_b = second_of_both (each is_name (q.name ∷ names)) _ declarable in
    let known : List Text = s.declared ++ q.name ∷ [] in
    let inner : are_new names known ≡ true =
    sym (new_same names (q.name ∷ b.names) known (prefix_or_after (q.name ∷ []) b.names s.declared st.names)) ∙ second_of_both (is_new q.name b.names) _ new_b in
    let parts = new_parts (names_of q.parameters) q.registers known inner in
    record {
      new = sym (st.names q.name) ∙ first_of_both (is_new q.name b.names) _ new_b;
      new_parameters = parts.0;
      new_registers = parts.1;
      few = leb-true (length q.parameters) 8 (first_of_both (nat_le (length q.parameters) 8) _ e);
      body = body_reaches (procedure_scope b q) (scope_of (inside s s.rest q)) q.registers q.body (same_procedure_scope t b s q st) (second_of_both (are_declarable (q.name ∷ names) b.names) _ e5);
    }

procedure_runs : (t : Script) (b : Before) (s : State) (q : Procedure) → Limited t → Stands t b s → slice_get t.procedures b.procedures ≡ Some q → Right t s q → RunsBraced (procedure_names t q) (inside (hushed s) s.rest q) 0 (length q.registers) (s.statements + statements q.body) 16 q.body
procedure_runs t b s q limits st here fits =
    let so_far : Counted t s = counted_so_far t b s st in
    let known : List Text = (s.declared ++ q.name ∷ []) ++ names_of q.parameters in
    let beside : other_registers (inside s s.rest q) ≡ total own_registers s.procedures + most service_registers s.services = refl in
    let own : total own_registers s.procedures + length q.registers ≤ total own_registers t.procedures = procedure_more own_registers t b s q st here in
    let of_services : most service_registers s.services ≤ most service_registers t.services = so_far.registers_of_services in
    let all_registers : total own_registers t.procedures + most service_registers t.services ≤ 64 = limits.registers in
    let counted : s.statements ≡ total procedure_statements s.procedures + total service_statements s.services = st.statements in
    let one_more : total procedure_statements s.procedures + statements q.body ≤ total procedure_statements t.procedures = procedure_more procedure_statements t b s q st here in
    let statements_of_services : total service_statements s.services ≤ total service_statements t.services = so_far.of_services in
    let all_statements : total procedure_statements t.procedures + total service_statements t.services ≤ 4096 = limits.statements in
    record {
      finds = procedure_finds t b s q st (new_after (names_of q.parameters) [] (s.declared ++ q.name ∷ []) refl (λ z h. refl) fits.new_parameters);
      sets = sets_names (procedure_names t q) known (other_registers (inside s s.rest q)) fits.new_registers (omega arith);
      registers = st.registers;
      reached = fits.body.0;
      within = omega arith;
      deep = fits.body.1;
      counted = refl;
      few = omega arith;
    }

procedure_leaves : (t : Script) (b : Before) (s : State) (q : Procedure) (rest : List Token) → Stands t b s → slice_get t.procedures b.procedures ≡ Some q → is_new q.name s.declared ≡ true → Stands t (with_procedure q b) (with_procedure_body s rest q (s.statements + statements q.body))
procedure_leaves t b s q rest st here new =
    let xs : List Text = q.name ∷ [] in
    let parameters : length (names_of q.parameters) ≡ length q.parameters = names_counted q.parameters in
    let more_parameters : total parameter_count (s.procedures ++ q ∷ []) ≡ total parameter_count s.procedures + length q.parameters = total_push parameter_count s.procedures q in
    let more_statements : total procedure_statements (s.procedures ++ q ∷ []) ≡ total procedure_statements s.procedures + statements q.body = total_push procedure_statements s.procedures q in
    let counted : s.variable_count ≡ length s.variables + total parameter_count s.procedures = st.counted in
    let so_far : s.statements ≡ total procedure_statements s.procedures + total service_statements s.services = st.statements in
    record {
      tables = still_first xs st.tables;
      lams = still_first xs st.lams;
      procedures = one_first q st.procedures here new;
      callables = ap (λ (qs : List Callable). qs ++ callable qs q ∷ []) st.callables;
      called = length-append s.callables (callable s.callables q ∷ []) ∙ ap (λ (i : ℕ). i + 1) st.called ∙ sym (length-append s.procedures (q ∷ []));
      outside = refl;
      counted = omega arith;
      variables = st.variables;
      variables_within = st.variables_within;
      new_variables = st.new_variables;
      covers_variables = covers_still xs s.variables s.declared st.covers_variables;
      services = st.services;
      services_within = st.services_within;
      registers = refl;
      statements = omega arith;
      names = prefix_or_after xs b.names s.declared st.names;
    }

procedure_goes : (t : Script) (b b' : Before) (s : State) (rest : List Token) → Limited t → Stands t b s → declared t b next_procedure ≡ Some b' → Prefix s.rest (spell.declaration t (passed_of b) next_procedure) rest → Goes t b' next_procedure s rest
procedure_goes t b b' s rest limits st e f =
    let p = then_parts (λ q. unless_broken (procedure_stands b q) (with_procedure q b)) (slice_get t.procedures b.procedures) b' e in
    let q : Procedure = p.0 in
    let r = unless_parts (procedure_stands b q) (with_procedure q b) b' p.2 in
    let fits : Right t s q = right t b s q st r.0 in
    let m : ℕ = s.statements + statements q.body in
    let many : length s.procedures ≡ b.procedures = first_count st.procedures in
    let within : b.procedures < length t.procedures = slice_get_within t.procedures b.procedures q p.1 in
    let few : length t.procedures ≤ 16 = limits.procedures in
    let here : length s.variables ≡ b.variables = ap (λ (ys : List Text). length ys) st.variables ∙ length-take-le b.variables t.variables st.variables_within in
    let variables : b.variables ≤ length t.variables = st.variables_within in
    let count : s.variable_count ≡ length s.variables + total parameter_count s.procedures = st.counted in
    let one_more : total parameter_count s.procedures + length q.parameters ≤ total parameter_count t.procedures = procedure_more parameter_count t b s q st p.1 in
    let all_variables : length t.variables + total parameter_count t.procedures ≤ 64 = limits.variables in
    record {
      next = with_procedure_body s rest q m;
      read = procedure_declared t q s rest m (omega arith) fits.new fits.new_parameters fits.few (omega arith) (procedure_runs t b s q limits st p.1 fits) (there (spell.procedure_declaration t) (slice_get t.procedures b.procedures) q s.rest rest p.1 f);
      ordered = refl;
      left = refl;
      stands = subst (λ (k : Before). Stands t k (with_procedure_body s rest q m)) r.1 (procedure_leaves t b s q rest st p.1 fits.new);
    }

-- ---- every declaration

pub declaration_goes : (t : Script) (i : Item) (b b' : Before) (s : State) (rest : List Token) → Limited t → Stands t b s → declared t b i ≡ Some b' → Prefix s.rest (spell.declaration t (passed_of b) i) rest → Closes (kind_of rest) → Goes t b' i s rest
declaration_goes t next_table b b' s rest limits st e f ends = table_goes t b b' s rest limits st e f ends.no_number
declaration_goes t next_lam b b' s rest limits st e f ends = lam_goes t b b' s rest limits st e f
declaration_goes t (next_variables spot n) b b' s rest limits st e f ends = variables_goes t spot n b b' s rest limits st e f ends.no_name
declaration_goes t next_procedure b b' s rest limits st e f ends = procedure_goes t b b' s rest limits st e f
declaration_goes t next_service b b' s rest limits st e f ends = service_goes t b b' s rest limits st e f
