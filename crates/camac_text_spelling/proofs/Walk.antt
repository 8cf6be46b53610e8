-- The declarations of a well-formed tree, which its tokens spell, are read in their order, with names that are not there twice.
use Rattle.std.proofs.Common.{◌≡◌, ℕ, zero, suc, ◌+◌, ◌≤◌, ◌<◌, Bool, true, false, not, cond, ◌&&◌, List, [], ◌∷◌, ◌++◌, length, take, Some, None, refl, sym, ap, ◌∙◌, append_assoc, arith, map, drop, Option, subst}
use Rattle.std.proofs.lemmas.Bool.{not-true}
use Rattle.std.proofs.lemmas.List.{append-nil, length-take-le}
use Rattle.std.proofs.lemmas.Slice.Eq.{bytes_eq-Decides}
use Rattle.std.specs.Prelude.{slice_get}
use Rattle.std.specs.List.{position_from}
use Rattle.std.specs.Str.{bytes_eq}
use Rattle.camac_lang.specs.Tests.{most, total, is_new, are_new}
use Rattle.camac_lang.specs.Tree.{Text, Table, Lam, Procedure, Service, Item, next_table, next_lam, next_variables, next_procedure, next_service, Script}
use Rattle.camac_lang.specs.Scope.{Before, declared}
use Rattle.camac_lang.specs.Statements.{statements}
use Rattle.camac_lang.specs.declared.spot.Spot.{Spot}
use Rattle.camac_lang.proofs.Options.{then_parts}
use Rattle.camac_text_cursor.specs.Names.{name_place}
use Rattle.camac_text_cursor.specs.Reading.{State, kind_of}
use Rattle.camac_text_cursor.specs.Readers.{is_name as next_is_name, is_number as next_is_number}
use Rattle.camac_text_cursor.proofs.Registers.{both, first_of_both, second_of_both}
use Rattle.camac_text_cursor.proofs.Searches.{position_from-map}
use Rattle.camac_text.proofs.Listed.{each_append, new_same, prefix_or_after}
use Rattle.camac_text.proofs.ParametersRead.{names_of}
use Rattle.camac_text.specs.Declarations.{is_token}
use Rattle.camac_text_spelling.specs.Pieces.{text_at, Piece, first_piece, Names, Prefix}
use Rattle.camac_text_spelling.specs.Declarations as spell
use Rattle.camac_text_spelling.specs.Declarations.{Passed, service_names, procedure_names}
use Rattle.camac_text_spelling.proofs.Takes.{prefix_first}
use Rattle.camac_text_spelling.proofs.GivesExpressions.{Finds, FindsAll}
use Rattle.camac_text_spelling.proofs.Runs.{Sets}
use Rattle.camac_tokens.specs.declared.token.Keyword.TheVariants as keyword
use Rattle.camac_tokens.specs.declared.token.Token.{Token}
use Rattle.camac_tokens.specs.declared.token.TokenKind.{TokenKind}
use Rattle.camac_tokens.specs.declared.token.TokenKind.TheVariants as kind

-- Lists of names of which none is there twice.

-- each of new names is new
pub each_new : (xs ys : List Text) (p : ℕ) → are_new xs ys ≡ true → p < length xs → is_new (text_at xs p) ys ≡ true
each_new [] ys p e below = absurd (omega arith)
each_new (x ∷ xs) ys zero e below = first_of_both (is_new x ys) _ e
each_new (x ∷ xs) ys (suc p) e below =
    let later : is_new (text_at xs p) (x ∷ ys) ≡ true = each_new xs (x ∷ ys) p (second_of_both (is_new x ys) _ e) (omega arith) in
    second_of_both (not (bytes_eq (text_at xs p) x)) _ later

apart : (x : Text) (xs ys : List Text) (p : ℕ) → are_new xs (x ∷ ys) ≡ true → p < length xs → bytes_eq (text_at xs p) x ≡ false
apart x xs ys p e below =
    let later : is_new (text_at xs p) (x ∷ ys) ≡ true = each_new xs (x ∷ ys) p e below in
    not-true (bytes_eq (text_at xs p) x) (first_of_both (not (bytes_eq (text_at xs p) x)) _ later)

-- each is found at its place, as soon as it is there
found_from : (xs ys : List Text) (i p j : ℕ) → are_new xs ys ≡ true → p < j → j ≤ length xs → position_from (bytes_eq (text_at xs p)) i (take j xs) ≡ Some (i + p)
found_from [] ys i p j e below within = absurd (omega arith)
found_from (x ∷ xs) ys i p zero e below within = absurd (omega arith)
found_from (x ∷ xs) ys i zero (suc j) e below within =
    ap (λ (b : Bool). cond b (Some i) (position_from (bytes_eq x) (i + 1) (take j xs))) ((bytes_eq-Decides x x).1 refl) ∙ ap (λ (k : ℕ). Some k) (omega arith)
found_from (x ∷ xs) ys i (suc p) (suc j) e below within =
    let rest : are_new xs (x ∷ ys) ≡ true = second_of_both (is_new x ys) _ e in
    ap (λ (b : Bool). cond b (Some i) (position_from (bytes_eq (text_at xs p)) (i + 1) (take j xs))) (apart x xs ys p rest (omega arith))
    ∙ found_from xs (x ∷ ys) (i + 1) p j rest (omega arith) (omega arith) ∙ ap (λ (k : ℕ). Some k) (omega arith)

pub found_there : (xs ys : List Text) (p j : ℕ) → are_new xs ys ≡ true → p < j → j ≤ length xs → name_place (text_at xs p) (take j xs) ≡ Some p
found_there xs ys p j e below within = found_from xs ys 0 p j e below within ∙ ap (λ (k : ℕ). Some k) (omega arith)

-- and not before
absent_from : (xs ys : List Text) (i j : ℕ) → are_new xs ys ≡ true → j < length xs → position_from (bytes_eq (text_at xs j)) i (take j xs) ≡ None
absent_from [] ys i j e below = absurd (omega arith)
absent_from (x ∷ xs) ys i zero e below = refl
absent_from (x ∷ xs) ys i (suc j) e below =
    let rest : are_new xs (x ∷ ys) ≡ true = second_of_both (is_new x ys) _ e in
    ap (λ (b : Bool). cond b (Some i) (position_from (bytes_eq (text_at xs j)) (i + 1) (take j xs))) (apart x xs ys j rest (omega arith))
    ∙ absent_from xs (x ∷ ys) (i + 1) j rest (omega arith)

pub absent_there : (xs ys : List Text) (j : ℕ) → are_new xs ys ≡ true → j < length xs → name_place (text_at xs j) (take j xs) ≡ None
absent_there xs ys j e below = absent_from xs ys 0 j e below

pub take_next : (xs : List Text) (j : ℕ) → j < length xs → take (suc j) xs ≡ take j xs ++ text_at xs j ∷ []
take_next [] j below = absurd (omega arith)
take_next (x ∷ xs) zero below = refl
take_next (x ∷ xs) (suc j) below = ap (λ (w : List Text). x ∷ w) (take_next xs j (omega arith))

pub take_all : {A : Type 0} (xs : List A) → take (length xs) xs ≡ xs
take_all [] = refl
take_all (x ∷ xs) = ap (λ (w : List _). x ∷ w) (take_all xs)

take_suc : {A : Type 0} (xs : List A) (i : ℕ) (x : A) → slice_get xs i ≡ Some x → take (suc i) xs ≡ take i xs ++ x ∷ []
take_suc [] i x e = absurd cc
take_suc {A} (y ∷ ys) zero x e = ap (λ (z : A). z ∷ []) (some_is y x e) where
  some_is : (a b : A) → Some a ≡ Some b → a ≡ b
  some_is a b h = cc
take_suc (y ∷ ys) (suc i) x e = ap (λ (w : List _). y ∷ w) (take_suc ys i x e)

pub take_one : {A : Type 0} (xs : List A) (i : ℕ) (x : A) → slice_get xs i ≡ Some x → take (i + 1) xs ≡ take i xs ++ x ∷ []
take_one xs i x e = let one : i + 1 ≡ suc i = omega arith in ap (λ (k : ℕ). take k xs) one ∙ take_suc xs i x e

-- names before others
pub text_before : (xs ys : List Text) (p : ℕ) → p < length xs → text_at (xs ++ ys) p ≡ text_at xs p
text_before [] ys p below = absurd (omega arith)
text_before (x ∷ xs) ys zero below = refl
text_before (x ∷ xs) ys (suc p) below = text_before xs ys p (omega arith)

new_push : (xs : List Text) (x : Text) (known : List Text) → are_new xs known ≡ true → is_new x known ≡ true → is_new x xs ≡ true → are_new (xs ++ x ∷ []) known ≡ true
new_push [] x known e free new = both (is_new x known) true free refl
new_push (y ∷ ys) x known e free new =
    both (is_new y known) (are_new (ys ++ x ∷ []) (y ∷ known)) (first_of_both (is_new y known) _ e)
    (new_push ys x (y ∷ known) (second_of_both (is_new y known) _ e) (both (not (bytes_eq x y)) (is_new x known) (first_of_both (not (bytes_eq x y)) _ new) free) (second_of_both (not (bytes_eq x y)) _ new))

-- more new names after such names
pub new_after : (xs vs ds : List Text) → are_new vs [] ≡ true → ((z : Text) → is_new z ds ≡ true → is_new z vs ≡ true) → are_new xs ds ≡ true → are_new (vs ++ xs) [] ≡ true
new_after [] vs ds e covers new = ap (λ (w : List Text). are_new w []) (append-nil vs) ∙ e
new_after (x ∷ xs) vs ds e covers new =
    let here : is_new x ds ≡ true = first_of_both (is_new x ds) _ new in
    ap (λ (w : List Text). are_new w []) (sym (append_assoc vs (x ∷ []) xs))
    ∙ new_after xs (vs ++ x ∷ []) (x ∷ ds) (new_push vs x [] e refl (covers x here))
    (λ z h. each_append (λ y. not (bytes_eq z y)) vs (x ∷ []) ∙ both (is_new z vs) _ (covers z (second_of_both (not (bytes_eq z x)) _ h)) (both (not (bytes_eq z x)) true (first_of_both (not (bytes_eq z x)) _ h) refl))
    (second_of_both (is_new x ds) _ new)

-- of new names in two parts, the first are new, and the others are so after them
pub new_parts : (xs ys ds : List Text) → are_new (xs ++ ys) ds ≡ true → (are_new xs ds ≡ true) × (are_new ys (ds ++ xs) ≡ true)
new_parts [] ys ds e = (refl, ap (λ (w : List Text). are_new ys w) (append-nil ds) ∙ e)
new_parts (x ∷ xs) ys ds e =
    let rest = new_parts xs ys (x ∷ ds) (second_of_both (is_new x ds) _ e) in
    let here : (z : Text) → is_new z (ds ++ x ∷ xs) ≡ is_new z (x ∷ (ds ++ xs)) = λ z. sym (ap (λ (w : List Text). is_new z w) (append_assoc ds (x ∷ []) xs)) ∙ prefix_or_after_one z in
    (both (is_new x ds) _ (first_of_both (is_new x ds) _ e) rest.0, new_same ys (ds ++ x ∷ xs) (x ∷ (ds ++ xs)) here ∙ rest.1)
  where
    prefix_or_after_one : (z : Text) → is_new z ((ds ++ x ∷ []) ++ xs) ≡ is_new z ((x ∷ ds) ++ xs)
    prefix_or_after_one z =
        each_append (λ y. not (bytes_eq z y)) (ds ++ x ∷ []) xs
        ∙ ap (λ (b : Bool). b && is_new z xs) (sym (prefix_or_after (x ∷ []) ds ds (λ y. refl) z))
        ∙ sym (each_append (λ y. not (bytes_eq z y)) (x ∷ ds) xs)

-- ---- sums and maxima over a list

pub most_there : {A : Type 0} (f : A → ℕ) (xs : List A) (i : ℕ) (x : A) → slice_get xs i ≡ Some x → f x ≤ most f xs
most_there f [] i x e = absurd cc
most_there {A} f (y ∷ ys) zero x e = let same : y ≡ x = some_is y x e in let eq : f y ≡ f x = ap f same in omega arith where
  some_is : (a b : A) → Some a ≡ Some b → a ≡ b
  some_is a b h = cc
most_there f (y ∷ ys) (suc i) x e = let rest : f x ≤ most f ys = most_there f ys i x e in omega arith

pub total_there : {A : Type 0} (f : A → ℕ) (xs : List A) (i : ℕ) (x : A) → slice_get xs i ≡ Some x → total f (take i xs) + f x ≤ total f xs
total_there f [] i x e = absurd cc
total_there {A} f (y ∷ ys) zero x e = let same : y ≡ x = some_is y x e in let eq : f y ≡ f x = ap f same in omega arith where
  some_is : (a b : A) → Some a ≡ Some b → a ≡ b
  some_is a b h = cc
total_there f (y ∷ ys) (suc i) x e = let rest : total f (take i ys) + f x ≤ total f ys = total_there f ys i x e in omega arith

-- of the first they are no more
pub total_first : {A : Type 0} (f : A → ℕ) (xs : List A) (i : ℕ) → total f (take i xs) ≤ total f xs
total_first f xs zero = omega arith
total_first f [] (suc i) = omega arith
total_first f (y ∷ ys) (suc i) = let rest : total f (take i ys) ≤ total f ys = total_first f ys i in omega arith

pub most_first : {A : Type 0} (f : A → ℕ) (xs : List A) (i : ℕ) → most f (take i xs) ≤ most f xs
most_first f xs zero = omega arith
most_first f [] (suc i) = omega arith
most_first f (y ∷ ys) (suc i) = let rest : most f (take i ys) ≤ most f ys = most_first f ys i in omega arith

-- The declarations of a well-formed tree, which its tokens spell, are read in their order.

abbrev pub lam_name : Lam → Text
lam_name l = l.name

abbrev pub table_name : Table → Text
table_name g = g.name

abbrev pub procedure_name : Procedure → Text
procedure_name p = p.name

-- what the limits count
abbrev pub parameter_count : Procedure → ℕ
parameter_count p = length p.parameters

abbrev pub own_registers : Procedure → ℕ
own_registers p = length p.registers

abbrev pub service_registers : Service → ℕ
service_registers v = length v.registers

abbrev pub procedure_statements : Procedure → ℕ
procedure_statements p = statements p.body

abbrev pub service_statements : Service → ℕ
service_statements v = statements v.body

abbrev pub passed_of : Before → Passed
passed_of b = record { tables = b.tables; lams = b.lams; variables = b.variables; procedures = b.procedures; services = b.services }

-- What the limits of the tree say.
pub record Limited (t : Script) : Type 0 where
  pub variables : length t.variables + total parameter_count t.procedures ≤ 64
  pub lams : length t.lams ≤ 64
  pub tables : length t.tables ≤ 16
  pub services : length t.services ≤ 24
  pub procedures : length t.procedures ≤ 16
  pub registers : total own_registers t.procedures + most service_registers t.services ≤ 64
  pub statements : total procedure_statements t.procedures + total service_statements t.services ≤ 4096

-- These are the first n of all: no two of one name, and each with a name that is declared.
pub record AreFirst {A : Type 0} (name : A → Text) (declared : List Text) (n : ℕ) (xs all : List A) : Type 0 where
  pub first : xs ≡ take n all
  pub within : n ≤ length all
  pub new : are_new (map name xs) [] ≡ true
  pub covers : (x : Text) → is_new x declared ≡ true → is_new x (map name xs) ≡ true

pub first_count : {A : Type 0} {name : A → Text} {declared : List Text} {n : ℕ} {xs all : List A} → AreFirst name declared n xs all → length xs ≡ n
first_count {A = A} {n = n} {all = all} f = ap (λ (ys : List A). length ys) f.first ∙ length-take-le n all f.within

-- The state is that after the first declarations of the tree.
pub record Stands (t : Script) (b : Before) (s : State) : Type 0 where
  pub tables : AreFirst table_name s.declared b.tables s.tables t.tables
  pub lams : AreFirst lam_name s.declared b.lams s.lams t.lams
  pub procedures : AreFirst procedure_name s.declared b.procedures s.procedures t.procedures
  pub callables : b.callables ≡ s.callables
  pub called : length s.callables ≡ length s.procedures
  pub outside : s.in_procedure ≡ false
  pub counted : s.variable_count ≡ length s.variables + total parameter_count s.procedures
  pub variables : s.variables ≡ take b.variables t.variables
  pub variables_within : b.variables ≤ length t.variables
  pub new_variables : are_new s.variables [] ≡ true
  pub covers_variables : (x : Text) → is_new x s.declared ≡ true → is_new x s.variables ≡ true
  pub services : s.services ≡ take b.services t.services
  pub services_within : b.services ≤ length t.services
  pub registers : s.registers ≡ []
  pub statements : s.statements ≡ total procedure_statements s.procedures + total service_statements s.services
  pub names : (x : Text) → is_new x b.names ≡ is_new x s.declared

-- ---- what the names of a tree find

prefix_text : (xs : List Text) (j p : ℕ) → p < j → j ≤ length xs → text_at xs p ≡ text_at (take j xs) p
prefix_text [] j p below within = absurd (omega arith)
prefix_text (x ∷ xs) zero p below within = absurd (omega arith)
prefix_text (x ∷ xs) (suc j) zero below within = refl
prefix_text (x ∷ xs) (suc j) (suc p) below within = prefix_text xs j p (omega arith) (omega arith)

map_take : {A : Type 0} (f : A → Text) (j : ℕ) (xs : List A) → map f (take j xs) ≡ take j (map f xs)
map_take f zero xs = refl
map_take f (suc j) [] = refl
map_take f (suc j) (x ∷ xs) = ap (λ (w : List Text). f x ∷ w) (map_take f j xs)

map_length : {A : Type 0} (f : A → Text) (xs : List A) → length (map f xs) ≡ length xs
map_length f [] = refl
map_length f (x ∷ xs) = ap suc (map_length f xs)

new_found : (xs : List Text) (p : ℕ) → are_new xs [] ≡ true → p < length xs → name_place (text_at xs p) xs ≡ Some p
new_found xs p e below = ap (name_place (text_at xs p)) (sym (take_all xs)) ∙ found_there xs [] p (length xs) e below (omega arith)

-- the first of a list, each found by its name
found_first : {A : Type 0} {f : A → Text} {declared : List Text} {j : ℕ} {xs all : List A} → AreFirst f declared j xs all → (p : ℕ) → p < length xs → position_from (λ x. bytes_eq (text_at (map f all) p) (f x)) 0 xs ≡ Some p
found_first {A = A} {f = f} {j = j} {xs = xs} {all = all} first p below =
    let many : length xs ≡ j = first_count first in
    let within : j ≤ length all = first.within in
    let whole : length (map f all) ≡ length all = map_length f all in
    let here : length (map f xs) ≡ length xs = map_length f xs in
    let same : text_at (map f all) p ≡ text_at (map f xs) p = prefix_text (map f all) j p (omega arith) (omega arith) ∙ ap (λ (ys : List Text). text_at ys p) (sym (map_take f j all) ∙ ap (map f) (sym first.first)) in
    ap (λ (z : Text). position_from (λ x. bytes_eq z (f x)) 0 xs) same
    ∙ sym (position_from-map f (bytes_eq (text_at (map f xs) p)) 0 xs)
    ∙ new_found (map f xs) p first.new (omega arith)

pub finds_names : (t : Script) (b : Before) (s : State) (v : Service) → Stands t b s → FindsAll (service_names t v) s
finds_names t b s v st = record {
  variables = λ p below.
      let many : length s.variables ≡ b.variables = ap (λ (xs : List Text). length xs) st.variables ∙ length-take-le b.variables t.variables st.variables_within in
      let within : b.variables ≤ length t.variables = st.variables_within in
      let same : text_at t.variables p ≡ text_at s.variables p = prefix_text t.variables b.variables p (omega arith) within ∙ ap (λ (xs : List Text). text_at xs p) (sym st.variables) in
      ap (λ (x : Text). name_place x s.variables) same ∙ new_found s.variables p st.new_variables below;
  lams = found_first st.lams;
  tables = found_first st.tables;
  procedures = λ p below. let called : length s.callables ≡ length s.procedures = st.called in found_first st.procedures p (omega arith);
}

-- the variables of a procedure are its parameters
pub procedure_finds : (t : Script) (b : Before) (s : State) (p : Procedure) → Stands t b s → are_new (names_of p.parameters) [] ≡ true → Finds (procedure_names t p) (names_of p.parameters) s.lams s.tables s.procedures s.callables
procedure_finds t b s p st new = record {
  variables = λ i below. new_found (names_of p.parameters) i new below;
  lams = found_first st.lams;
  tables = found_first st.tables;
  procedures = λ i below. let called : length s.callables ≡ length s.procedures = st.called in found_first st.procedures i (omega arith);
}

pub sets_names : (n : Names) (declared : List Text) (beside : ℕ) → are_new n.registers declared ≡ true → beside + length n.registers ≤ 64 → Sets n declared beside
sets_names n declared beside new few = record {
  fresh = λ p below. each_new n.registers declared p new below;
  set = λ p j below within. found_there n.registers declared p j new below within;
  unset = λ j below. absent_there n.registers declared j new below;
  more = λ j below. take_next n.registers j below;
  few = few;
}

-- ---- how a declaration begins

pub there : {A : Type 0} (spell' : A → List Piece) (o : Option A) (x : A) (ts rest : List Token) → o ≡ Some x → Prefix ts (spell.if_there spell' o) rest → Prefix ts (spell' x) rest
there spell' o x ts rest e f = subst (λ (p : Option _). Prefix ts (spell.if_there spell' p) rest) e f

-- what goes on with no declaration
pub record Closes (k : Option TokenKind) : Type 0 where
  pub no_name : next_is_name k ≡ false
  pub no_number : next_is_number k ≡ false

pub record Opens (k : Option TokenKind) : Type 0 where
  pub closes : Closes k
  pub token : is_token k ≡ true

opened : (k : Option TokenKind) (j : TokenKind) → k ≡ Some j → Opens (Some j) → Opens k
opened k j e h = subst Opens (sym e) h

begins_with : (spot : Spot) (k : TokenKind) (ps more : List Piece) (ts rest : List Token) → ps ≡ first_piece spot k ∷ more → Prefix ts ps rest → kind_of ts ≡ Some k
begins_with spot k ps more ts rest e f = (prefix_first ts (first_piece spot k) more rest (subst (λ (qs : List Piece). Prefix ts qs rest) e f)).0

pub declaration_opens : (t : Script) (b b' : Before) (i : Item) (ts rest : List Token) → declared t b i ≡ Some b' → Prefix ts (spell.declaration t (passed_of b) i) rest → Opens (kind_of ts)
declaration_opens t b b' next_table ts rest e f =
    let p = then_parts _ (slice_get t.tables b.tables) b' e in
    opened (kind_of ts) _ (begins_with p.0.spot (kind.Keyword keyword.Table) (spell.table_declaration p.0) _ ts rest refl (there spell.table_declaration (slice_get t.tables b.tables) p.0 ts rest p.1 f)) (record { closes = record { no_name = refl; no_number = refl }; token = refl })
declaration_opens t b b' next_lam ts rest e f =
    let p = then_parts _ (slice_get t.lams b.lams) b' e in
    opened (kind_of ts) _ (begins_with p.0.spot (kind.Keyword keyword.Cdlam) (spell.lam_declaration p.0) _ ts rest refl (there spell.lam_declaration (slice_get t.lams b.lams) p.0 ts rest p.1 f)) (record { closes = record { no_name = refl; no_number = refl }; token = refl })
declaration_opens t b b' (next_variables spot n) ts rest e f =
    opened (kind_of ts) _ (begins_with spot (kind.Keyword keyword.Var) (spell.variable_declaration spot (take n (drop b.variables t.variables))) _ ts rest refl f) (record { closes = record { no_name = refl; no_number = refl }; token = refl })
declaration_opens t b b' next_procedure ts rest e f =
    let p = then_parts _ (slice_get t.procedures b.procedures) b' e in
    opened (kind_of ts) _ (begins_with p.0.spot (kind.Keyword keyword.Proc) (spell.procedure_declaration t p.0) _ ts rest refl (there (spell.procedure_declaration t) (slice_get t.procedures b.procedures) p.0 ts rest p.1 f)) (record { closes = record { no_name = refl; no_number = refl }; token = refl })
declaration_opens t b b' next_service ts rest e f =
    let p = then_parts _ (slice_get t.services b.services) b' e in
    opened (kind_of ts) _ (begins_with p.0.spot (kind.Keyword keyword.Service) (spell.service_declaration t p.0) _ ts rest refl (there (spell.service_declaration t) (slice_get t.services b.services) p.0 ts rest p.1 f)) (record { closes = record { no_name = refl; no_number = refl }; token = refl })
