-- Trees that grow by a declaration, and procedures that are read are spelled so.
use Rattle.std.proofs.Common.{◌≡◌, ℕ, ◌+◌, List, [], ◌∷◌, ◌++◌, length, take, drop, Option, Some, None, refl, sym, ap, subst, ◌∙◌, append_assoc, length-append, Bool, true, false, cond, nat_lt, map, Ok, ◌≤◌, arith}
use Rattle.std.proofs.lemmas.List.{append-nil, map_push, map-append}
use Rattle.std.specs.Prelude.{slice_get}
use Rattle.camac_lang.specs.Tree.{Text, Table, Lam, Procedure, Service, Item, next_table, next_lam, next_variables, next_procedure, next_service, Script, Parameter, Statement}
use Rattle.camac_lang.specs.declared.spot.Spot.{Spot}
use Rattle.camac_tokens.specs.declared.token.Token.{Token}
use Rattle.camac_tokens.specs.declared.token.Keyword.{Keyword}
use Rattle.camac_tokens.specs.declared.token.Keyword.TheVariants as keyword
use Rattle.camac_tokens.specs.declared.token.Sign.{Sign}
use Rattle.camac_tokens.specs.declared.token.Sign.TheVariants as mark
use Rattle.camac_tokens.specs.declared.token.TokenKind.{TokenKind}
use Rattle.camac_tokens.specs.declared.token.TokenKind.TheVariants as kind
use Rattle.camac_text.proofs.Extends.{Extends, fewer}
use Rattle.camac_text.proofs.Listed.{at_place, between}
use Rattle.camac_text.proofs.Variables.{added_ok}
use Rattle.camac_text.proofs.ParametersRead.{heading_ok}
use Rattle.camac_text.specs.Procedures.{parameter_at, next_parameter, parameter_list, parameters_at, Heading, heading_at, procedure_made, procedure_declaration}
use Rattle.camac_text_spelling.specs.Pieces.{Piece, Prefix, piece, first_word, word, sign, numeral, name, separated, text_at}
use Rattle.camac_text_spelling.specs.Declarations as spell
use Rattle.camac_text_spelling.specs.Declarations.{Passed, none_passed, pass, procedure_names}
use Rattle.camac_text_spelling.specs.Statements.{braced, block}
use Rattle.camac_text_spelling.proofs.Takes.{prefix_join, prefix_token, prefix_begin, found_named, found_lam, found_table, found_procedure, separated_push, KnowsNames, Took, keyword_is, sign_is, expected}
use Rattle.camac_text_spelling.proofs.SpelledStatements.{took_block}
use Rattle.camac_text_cursor.specs.declared.choice.Choice.TheVariants as choice
use Rattle.camac_text_cursor.specs.Reading.{State, Reader, ◌>>=◌, ◌>>◌, give, ask, change, advance, kind_of, spot_of, one_more as one_more_of_reading, miss, missed, past, until}
use Rattle.camac_text_cursor.specs.Readers.{is_sign, expect, expect_sign, any_number, new_name, added, new_parameter}
use Rattle.camac_text_cursor.specs.Declaring.{tree_so_far, in_heading, opened, with_procedure as procedure_added}
use Rattle.camac_text_cursor.proofs.Steps.{then_ok, ok_is, until_keeps}
use Rattle.camac_text_cursor.proofs.Moves.{TakesOne, check_ok, any_number_ok, new_name_ok}
use Rattle.camac_text_statements.specs.Statements.{block_at}
use Rattle.camac_text_statements.proofs.Bodies.{block_ok}

-- Trees that grow by a declaration.

abbrev pub counts : Script → Passed
counts s = record {
  tables = length s.tables;
  lams = length s.lams;
  variables = length s.variables;
  procedures = length s.procedures;
  services = length s.services;
}

-- one more declaration stands between these tokens
pub record Declares (s : Script) (ts : List Token) (s' : Script) (ts' : List Token) : Type 0 where
  pub item : Item
  pub ordered : s'.order ≡ s.order ++ item ∷ []
  pub counted : counts s' ≡ pass item (counts s)
  pub fewer : (t : Script) → Extends s' t → Extends s t
  pub prefix : (t : Script) → Extends s' t → Prefix ts (spell.declaration t (counts s) item) ts'

-- ---- each kind

abbrev pub with_table : Script → Table → Script
with_table s l = record s { tables = s.tables ++ l ∷ []; order = s.order ++ next_table ∷ [] }

pub declares_table : (s : Script) (l : Table) (ts ts' : List Token) → Prefix ts (spell.table_declaration l) ts' → Declares s ts (with_table s l) ts'
declares_table s l ts ts' f = record {
  item = next_table;
  ordered = refl;
  counted = ap (λ (k : ℕ). record (counts s) { tables = k }) (length-append s.tables (l ∷ []));
  fewer = λ t x. fewer (Some (l ∷ [])) None None None None x;
  prefix = λ t x.
      let there : slice_get t.tables (length s.tables) ≡ Some l = ap (λ (ls : List Table). slice_get ls (length s.tables)) x.tables_are ∙ at_place s.tables l x.tables in
      subst (λ (o : Option Table). Prefix ts (spell.if_there spell.table_declaration o) ts') (sym there) f;
}

abbrev pub with_lam : Script → Lam → Script
with_lam s l = record s { lams = s.lams ++ l ∷ []; order = s.order ++ next_lam ∷ [] }

pub declares_lam : (s : Script) (l : Lam) (ts ts' : List Token) → Prefix ts (spell.lam_declaration l) ts' → Declares s ts (with_lam s l) ts'
declares_lam s l ts ts' f = record {
  item = next_lam;
  ordered = refl;
  counted = ap (λ (k : ℕ). record (counts s) { lams = k }) (length-append s.lams (l ∷ []));
  fewer = λ t x. fewer None (Some (l ∷ [])) None None None x;
  prefix = λ t x.
      let there : slice_get t.lams (length s.lams) ≡ Some l = ap (λ (ls : List Lam). slice_get ls (length s.lams)) x.lams_are ∙ at_place s.lams l x.lams in
      subst (λ (o : Option Lam). Prefix ts (spell.if_there spell.lam_declaration o) ts') (sym there) f;
}

abbrev pub with_variables : Script → Spot → ℕ → List Text → Script
with_variables s spot n xs = record s { variables = s.variables ++ xs; order = s.order ++ next_variables spot n ∷ [] }

pub declares_variables : (s : Script) (spot : Spot) (n : ℕ) (xs : List Text) (ts ts' : List Token) → length xs ≡ n → Prefix ts (spell.variable_declaration spot xs) ts' → Declares s ts (with_variables s spot n xs) ts'
declares_variables s spot n xs ts ts' many f = record {
  item = next_variables spot n;
  ordered = refl;
  counted = ap (λ (k : ℕ). record (counts s) { variables = k }) (length-append s.variables xs ∙ ap (λ (k : ℕ). length s.variables + k) many);
  fewer = λ t x. fewer None None (Some xs) None None x;
  prefix = λ t x.
      let there : take n (drop (length s.variables) t.variables) ≡ xs = ap (λ (ys : List Text). take n (drop (length s.variables) ys)) x.variables_are ∙ ap (λ (m : ℕ). take m (drop (length s.variables) ((s.variables ++ xs) ++ x.variables))) (sym many) ∙ between s.variables xs x.variables in
      subst (λ (ys : List Text). Prefix ts (spell.variable_declaration spot ys) ts') (sym there) f;
}

abbrev pub with_service : Script → Service → Script
with_service s v = record s { services = s.services ++ v ∷ []; order = s.order ++ next_service ∷ [] }

pub declares_service : (s : Script) (v : Service) (ts ts' : List Token) → ((t : Script) → Extends s t → Prefix ts (spell.service_declaration t v) ts') → Declares s ts (with_service s v) ts'
declares_service s v ts ts' f = record {
  item = next_service;
  ordered = refl;
  counted = ap (λ (k : ℕ). record (counts s) { services = k }) (length-append s.services (v ∷ []));
  fewer = λ t x. fewer None None None None (Some (v ∷ [])) x;
  prefix = λ t x.
      let there : slice_get t.services (length s.services) ≡ Some v = ap (λ (vs : List Service). slice_get vs (length s.services)) x.services_are ∙ at_place s.services v x.services in
      subst (λ (o : Option Service). Prefix ts (spell.if_there (spell.service_declaration t) o) ts') (sym there) (f t (fewer None None None None (Some (v ∷ [])) x));
}

abbrev pub with_procedure : Script → Procedure → Script
with_procedure s v = record s { procedures = s.procedures ++ v ∷ []; order = s.order ++ next_procedure ∷ [] }

pub declares_procedure : (s : Script) (v : Procedure) (ts ts' : List Token) → ((t : Script) → Extends s t → Prefix ts (spell.procedure_declaration t v) ts') → Declares s ts (with_procedure s v) ts'
declares_procedure s v ts ts' f = record {
  item = next_procedure;
  ordered = refl;
  counted = ap (λ (k : ℕ). record (counts s) { procedures = k }) (length-append s.procedures (v ∷ []));
  fewer = λ t x. fewer None None None (Some (v ∷ [])) None x;
  prefix = λ t x.
      let there : slice_get t.procedures (length s.procedures) ≡ Some v = ap (λ (vs : List Procedure). slice_get vs (length s.procedures)) x.procedures_are ∙ at_place s.procedures v x.procedures in
      subst (λ (o : Option Procedure). Prefix ts (spell.if_there (spell.procedure_declaration t) o) ts') (sym there) (f t (fewer None None None (Some (v ∷ [])) None x));
}

-- ---- all of them

abbrev pub pass_all : List Item → Passed → Passed
pass_all [] b = b
pass_all (i ∷ is) b = pass_all is (pass i b)

pass_push : (is : List Item) (i : Item) (b : Passed) → pass_all (is ++ i ∷ []) b ≡ pass i (pass_all is b)
pass_push [] i b = refl
pass_push (j ∷ js) i b = pass_push js i (pass j b)

declarations_push : (t : Script) (is : List Item) (i : Item) (b : Passed) → spell.declarations t b (is ++ i ∷ []) ≡ spell.declarations t b is ++ spell.declaration t (pass_all is b) i
declarations_push t [] i b = append-nil (spell.declaration t b i)
declarations_push t (j ∷ js) i b =
    ap (λ (w : List Piece). spell.declaration t b j ++ w) (declarations_push t js i (pass j b))
    ∙ sym (append_assoc (spell.declaration t b j) (spell.declarations t (pass j b) js) (spell.declaration t (pass_all js (pass j b)) i))

-- The declarations so far stand between these tokens.
pub record Sofar (all : List Token) (s : Script) (ts : List Token) : Type 0 where
  pub counted : pass_all s.order none_passed ≡ counts s
  pub prefix : (t : Script) → Extends s t → Prefix all (spell.declarations t none_passed s.order) ts

pub one_more : (all : List Token) (s : Script) (ts : List Token) (s' : Script) (ts' : List Token) → Sofar all s ts → Declares s ts s' ts' → Sofar all s' ts'
one_more all s ts s' ts' so d =
    let counted : pass_all (s.order ++ d.item ∷ []) none_passed ≡ counts s' = pass_push s.order d.item none_passed ∙ ap (pass d.item) so.counted ∙ sym d.counted in
    record {
      counted = ap (λ (is : List Item). pass_all is none_passed) d.ordered ∙ counted;
      prefix = λ t x.
          let here = subst (λ (b : Passed). Prefix ts (spell.declaration t b d.item) ts') (sym so.counted) (d.prefix t x) in
          let both = prefix_join all (spell.declarations t none_passed s.order) ts (spell.declaration t (pass_all s.order none_passed) d.item) ts' (so.prefix t (d.fewer t x)) here in
          subst (λ (is : List Item). Prefix all (spell.declarations t none_passed is) ts') (sym d.ordered)
          (subst (λ (ps : List Piece). Prefix all ps ts') (sym (declarations_push t s.order d.item none_passed)) both);
    }

-- Procedures that are read are spelled so.

-- The tokens between two states are these pieces, and these variables are declared between them.
record Heads (s : State) (ps : List Piece) (xs : List Text) (s' : State) : Type 0 where
  prefix : Prefix s.rest ps s'.rest
  tree : tree_so_far s' ≡ record (tree_so_far s) { variables = s.variables ++ xs }

heads : {s : State} {ps : List Piece} {xs : List Text} {u : State} {qs : List Piece} {ys : List Text} {v : State} → Heads s ps xs u → Heads u qs ys v → Heads s (ps ++ qs) (xs ++ ys) v
heads {s} {ps} {xs} {u} {qs} {ys} {v} a b = record {
  prefix = prefix_join s.rest ps u.rest qs v.rest a.prefix b.prefix;
  tree = b.tree
      ∙ ap (λ (w : Script). record w { variables = w.variables ++ ys }) a.tree
      ∙ ap (λ (zs : List Text). record (tree_so_far s) { variables = zs }) (append_assoc s.variables xs ys);
}

heads_one : {s : State} {k : TokenKind} {s' : State} → kind_of s.rest ≡ Some k → s' ≡ past s → Heads s (piece k ∷ []) [] s'
heads_one {s} {k} {s'} ahead left = subst (λ (u : State). Heads s (piece k ∷ []) [] u) (sym left) (record { prefix = prefix_token s.rest k ahead; tree = ap (λ (zs : List Text). record (tree_so_far s) { variables = zs }) (sym (append-nil s.variables)) })

heads_token : {s : State} {k : TokenKind} {s' : State} → TakesOne s k s' → Heads s (piece k ∷ []) [] s'
heads_token t = heads_one t.next t.left

heads_word : (w : Keyword) (s : State) (y : Unit {0} × State) → expect w s ≡ Ok y → Heads s (word w ∷ []) [] y.1
unfolding expect
heads_word w s y e = let h = expected (choice.Word w) _ s y e in heads_one (keyword_is w (kind_of s.rest) h.0) h.1

heads_sign : (w : Sign) (s : State) (y : Unit {0} × State) → expect_sign w s ≡ Ok y → Heads s (sign w ∷ []) [] y.1
unfolding expect_sign
heads_sign w s y e = let h = expected (choice.Mark w) _ s y e in heads_one (sign_is w (kind_of s.rest) h.0) h.1

-- ---- the heading

parameter_name : (s : State) (y : Text × State) → new_parameter s ≡ Ok y → Heads s (name y.0 ∷ []) (y.0 ∷ []) y.1
unfolding new_parameter
parameter_name s y e =
    let m = then_ok (new_name s) _ y e in
    let h = new_name_ok s m.0 m.1 in
    let c = check_ok (nat_lt (length m.0.1.variables) 8) _ (added m.0.0 >> give m.0.0) m.0.1 y m.2 in
    let at : (added m.0.0 >> give m.0.0) s ≡ Ok y = subst (λ (u : State). (added m.0.0 >> give m.0.0) u ≡ Ok y) h.left c.1 in
    let a = then_ok (added m.0.0 s) (λ _. give m.0.0) y at in
    let d = added_ok s m.0.0 a.0 h.next h.free a.1 in
    let grown : Heads s (name m.0.0 ∷ []) (m.0.0 ∷ []) a.0.1 = record {
      prefix = subst (λ (w : State). Prefix s.rest (name m.0.0 ∷ []) w.rest) (sym d.left) (prefix_token s.rest (kind.Name m.0.0) h.next);
      tree = ap tree_so_far d.left;
    } in
    subst (λ (p : Text × State). Heads s (name p.0 ∷ []) (p.0 ∷ []) p.1) (ok_is (m.0.0, a.0.1) y a.2) grown

abbrev parameter_of : Parameter → Text
parameter_of p = p.name

one_parameter : (s : State) (y : Parameter × State) → parameter_at s ≡ Ok y → Heads s (spell.parameter y.0) (y.0.name ∷ []) y.1
unfolding parameter_at
one_parameter s y e =
    let x = then_ok (new_parameter s) _ y e in
    let a = then_ok (expect keyword.In x.0.1) _ y x.2 in
    let l = then_ok (any_number a.0.1) _ y a.2 in
    let u = then_ok (expect_sign mark.UpTo l.0.1) _ y l.2 in
    let h = then_ok (any_number u.0.1) (λ high. give (let p : Parameter = record { name = x.0.0; low = l.0.0; high = high } in p)) y u.2 in
    let p : Parameter = record { name = x.0.0; low = l.0.0; high = h.0.0 } in
    subst (λ (q : Parameter × State). Heads s (spell.parameter q.0) (q.0.name ∷ []) q.1) (ok_is (p, h.0.1) y h.2)
    (heads (parameter_name s x.0 x.1) (heads (heads_word keyword.In x.0.1 a.0 a.1) (heads (heads_token (any_number_ok a.0.1 l.0 l.1)) (heads (heads_sign mark.UpTo l.0.1 u.0 u.1) (heads_token (any_number_ok u.0.1 h.0 h.1))))))

abbrev listed : List Parameter → List Piece
listed ps = separated (sign mark.Comma) spell.parameter ps

record Parameters (s : State) (first : Parameter) (ps : List Parameter) (u : State) : Type 0 where
  tail : List Parameter
  same : ps ≡ first ∷ tail
  read : Heads s (listed (first ∷ tail)) (map parameter_of (first ∷ tail)) u

parameter_more : (s : State) (first : Parameter) (ps : List Parameter) (u : State) (p : Parameter) (v : State) → Parameters s first ps u → Heads u (sign mark.Comma ∷ spell.parameter p) (p.name ∷ []) v → Parameters s first (ps ++ p ∷ []) v
parameter_more s first ps u p v so one = record {
  tail = so.tail ++ p ∷ [];
  same = ap (λ (w : List Parameter). w ++ p ∷ []) so.same;
  read = subst (λ (qs : List Piece). Heads s qs (map parameter_of (first ∷ (so.tail ++ p ∷ []))) v) (sym (separated_push (sign mark.Comma) spell.parameter first so.tail p))
      (subst (λ (xs : List Text). Heads s (listed (first ∷ so.tail) ++ sign mark.Comma ∷ spell.parameter p) xs v) (sym (map_push parameter_of (first ∷ so.tail) p)) (heads so.read one));
}

another : (s : State) (y : Parameter × State) → is_sign mark.Comma (kind_of s.rest) ≡ true → next_parameter s ≡ Ok y → Heads s (sign mark.Comma ∷ spell.parameter y.0) (y.0.name ∷ []) y.1
unfolding next_parameter
another s y on e =
    let u : State = past s in
    heads (heads_one {s' = u} (sign_is mark.Comma (kind_of s.rest) on) refl) (one_parameter u y e)

parameters_list : (s : State) (y : List Parameter × State) → parameter_list s ≡ Ok y → Heads s (listed y.0) (map parameter_of y.0) y.1
unfolding parameter_list
parameters_list s y e =
    let m = then_ok (parameter_at s) (λ first. until (choice.Mark mark.Comma) (is_sign mark.Comma) (one_more_of_reading next_parameter) (first ∷ [])) y e in
    let begins : Parameters s m.0.0 (m.0.0 ∷ []) m.0.1 = record { tail = []; same = refl; read = subst (λ (qs : List Piece). Heads s qs (m.0.0.name ∷ []) m.0.1) (sym (append-nil (spell.parameter m.0.0))) (one_parameter s m.0 m.1) } in
    let all = until_keeps (λ (ps : List Parameter) (u : State). Parameters s m.0.0 ps u) (choice.Mark mark.Comma) (λ ps u so. record { tail = so.tail; same = so.same; read = record { prefix = so.read.prefix; tree = so.read.tree } }) (is_sign mark.Comma) (one_more_of_reading next_parameter) (λ ps u qs v so on took.
    let a = then_ok (next_parameter u) (λ p. give (ps ++ p ∷ [])) (qs, v) took in
    subst (λ (z : List Parameter × State). Parameters s m.0.0 z.0 z.1) (ok_is (ps ++ a.0.0 ∷ [], a.0.1) (qs, v) a.2) (parameter_more s m.0.0 ps u a.0.0 a.0.1 so (another u a.0 on a.1))) (m.0.0 ∷ []) m.0.1 y begins m.2 in
    subst (λ (ps : List Parameter). Heads s (listed ps) (map parameter_of ps) y.1) (sym all.same) all.read

parameters_by : (b : Bool) (s : State) (y : List Parameter × State) → cond b (give []) (miss (choice.Mark mark.RightBracket) >> parameter_list) s ≡ Ok y → Heads s (listed y.0) (map parameter_of y.0) y.1
parameters_by true s y e = subst (λ (z : List Parameter × State). Heads s (listed z.0) (map parameter_of z.0) z.1) (ok_is ([], s) y e) (record { prefix = refl; tree = ap (λ (zs : List Text). record (tree_so_far s) { variables = zs }) (sym (append-nil s.variables)) })
parameters_by false s y e = let read = parameters_list (missed (choice.Mark mark.RightBracket) s) y e in record { prefix = read.prefix; tree = read.tree }

all_parameters : (s : State) (y : List Parameter × State) → parameters_at s ≡ Ok y → Heads s (listed y.0) (map parameter_of y.0) y.1
unfolding parameters_at
all_parameters s y e = parameters_by (is_sign mark.RightBracket (kind_of s.rest)) s y e

abbrev heading : Heading → List Piece
heading h =
    sign mark.LeftBracket ∷ (listed h.parameters ++ sign mark.RightBracket
    ∷ word keyword.Within ∷ numeral h.cycles ∷ word keyword.Cycles ∷ word keyword.Event ∷ numeral h.words ∷ word keyword.Words
    ∷ word keyword.Steps ∷ numeral h.steps ∷ [])

-- the end of a heading, after these parameters and this number of cycles
abbrev last_reader : List Parameter → ℕ → Reader Heading
last_reader ps cycles = do
  expect keyword.Event
  words ← any_number
  expect keyword.Words
  expect keyword.Steps
  steps ← any_number
  give (record { parameters = ps; cycles = cycles; words = words; steps = steps })

abbrev last_pieces : Heading → List Piece
last_pieces h = word keyword.Event ∷ numeral h.words ∷ word keyword.Words ∷ word keyword.Steps ∷ numeral h.steps ∷ []

record LastRead (ps : List Parameter) (cycles : ℕ) (s : State) (h : Heading) (s' : State) : Type 0 where
  parameters : h.parameters ≡ ps
  same_cycles : h.cycles ≡ cycles
  read : Heads s (last_pieces h) [] s'

last_read : (ps : List Parameter) (cycles : ℕ) (s : State) (y : Heading × State) → last_reader ps cycles s ≡ Ok y → LastRead ps cycles s y.0 y.1
last_read ps cycles s y e =
    let g = then_ok (expect keyword.Event s) _ y e in
    let h = then_ok (any_number g.0.1) _ y g.2 in
    let i = then_ok (expect keyword.Words h.0.1) _ y h.2 in
    let j = then_ok (expect keyword.Steps i.0.1) _ y i.2 in
    let k = then_ok (any_number j.0.1) (λ steps. give (let w : Heading = record { parameters = ps; cycles = cycles; words = h.0.0; steps = steps } in w)) y j.2 in
    let w : Heading = record { parameters = ps; cycles = cycles; words = h.0.0; steps = k.0.0 } in
    subst (λ (z : Heading × State). LastRead ps cycles s z.0 z.1) (ok_is (w, k.0.1) y k.2) (record {
      parameters = refl;
      same_cycles = refl;
      read = heads (heads_word keyword.Event s g.0 g.1) (heads (heads_token (any_number_ok g.0.1 h.0 h.1)) (heads (heads_word keyword.Words h.0.1 i.0 i.1) (heads (heads_word keyword.Steps i.0.1 j.0 j.1) (heads_token (any_number_ok j.0.1 k.0 k.1)))));
    })

-- after the parameters
abbrev middle_reader : List Parameter → Reader Heading
middle_reader ps = do
  expect_sign mark.RightBracket
  expect keyword.Within
  cycles ← any_number
  expect keyword.Cycles
  last_reader ps cycles

abbrev middle_pieces : Heading → List Piece
middle_pieces h = sign mark.RightBracket ∷ word keyword.Within ∷ numeral h.cycles ∷ word keyword.Cycles ∷ last_pieces h

record MiddleRead (ps : List Parameter) (s : State) (h : Heading) (s' : State) : Type 0 where
  parameters : h.parameters ≡ ps
  read : Heads s (middle_pieces h) [] s'

middle_read : (ps : List Parameter) (s : State) (y : Heading × State) → middle_reader ps s ≡ Ok y → MiddleRead ps s y.0 y.1
middle_read ps s y e =
    let b = then_ok (expect_sign mark.RightBracket s) _ y e in
    let c = then_ok (expect keyword.Within b.0.1) _ y b.2 in
    let d = then_ok (any_number c.0.1) _ y c.2 in
    let f = then_ok (expect keyword.Cycles d.0.1) (λ _. last_reader ps d.0.0) y d.2 in
    let l = last_read ps d.0.0 f.0.1 y f.2 in
    record {
      parameters = l.parameters;
      read = subst (λ (i : ℕ). Heads s (sign mark.RightBracket ∷ word keyword.Within ∷ numeral i ∷ word keyword.Cycles ∷ last_pieces y.0) [] y.1) (sym l.same_cycles)
          (heads (heads_sign mark.RightBracket s b.0 b.1) (heads (heads_word keyword.Within b.0.1 c.0 c.1) (heads (heads_token (any_number_ok c.0.1 d.0 d.1)) (heads (heads_word keyword.Cycles d.0.1 f.0 f.1) l.read))));
    }

read_heading : (s : State) (y : Heading × State) → heading_at s ≡ Ok y → Heads s (heading y.0) (map parameter_of y.0.parameters ++ []) y.1
unfolding heading_at
read_heading s y e =
    let a = then_ok (expect_sign mark.LeftBracket s) _ y e in
    let p = then_ok (parameters_at a.0.1) middle_reader y a.2 in
    let m = middle_read p.0.0 p.0.1 y p.2 in
    subst (λ (ps : List Parameter). Heads s (sign mark.LeftBracket ∷ (listed ps ++ middle_pieces y.0)) (map parameter_of ps ++ []) y.1) (sym m.parameters)
    (heads (heads_sign mark.LeftBracket s a.0 a.1) (heads (all_parameters a.0.1 p.0 p.1) m.read))

-- ---- the body

-- a tree with these declarations tells the names that a procedure uses, and the procedure those of its parameters and registers
tells_inside : (s : State) (t w : Script) (p : Procedure) → Extends w t → tree_so_far s ≡ record w { variables = map parameter_of p.parameters } → p.registers ≡ s.registers → KnowsNames (procedure_names t p) s
tells_inside s t w p x tree same =
    let variables : s.variables ≡ map parameter_of p.parameters = ap (λ (z : Script). z.variables) tree in
    let lams : s.lams ≡ w.lams = ap (λ (z : Script). z.lams) tree in
    let tables : s.tables ≡ w.tables = ap (λ (z : Script). z.tables) tree in
    let procedures : s.procedures ≡ w.procedures = ap (λ (z : Script). z.procedures) tree in
    record {
      variables = λ z i e. found_named z i s.variables [] e ∙ ap (λ (xs : List Text). text_at xs i) (append-nil s.variables ∙ variables);
      registers = λ z i e. found_named z i s.registers [] e ∙ ap (λ (xs : List Text). text_at xs i) (append-nil s.registers ∙ sym same);
      lams = λ z i e.
          found_lam z i s.lams (map (λ (l : Lam). l.name) x.lams) e
          ∙ ap (λ (xs : List Text). text_at xs i) (sym (map-append (λ (l : Lam). l.name) s.lams x.lams) ∙ ap (map (λ (l : Lam). l.name)) (ap (λ (ls : List Lam). ls ++ x.lams) lams ∙ sym x.lams_are));
      tables = λ z i e.
          found_table z i s.tables (map (λ (g : Table). g.name) x.tables) e
          ∙ ap (λ (xs : List Text). text_at xs i) (sym (map-append (λ (g : Table). g.name) s.tables x.tables) ∙ ap (map (λ (g : Table). g.name)) (ap (λ (gs : List Table). gs ++ x.tables) tables ∙ sym x.tables_are));
      procedures = λ z i e.
          found_procedure z i s.procedures (map (λ (q : Procedure). q.name) x.procedures) e
          ∙ ap (λ (xs : List Text). text_at xs i) (sym (map-append (λ (q : Procedure). q.name) s.procedures x.procedures) ∙ ap (map (λ (q : Procedure). q.name)) (ap (λ (qs : List Procedure). qs ++ x.procedures) procedures ∙ sym x.procedures_are));
    }

-- what was declared before a procedure is declared again after it
record Encloses (s : State) (p : Procedure) (v : State) : Type 0 where
  declares : Declares (tree_so_far s) s.rest (with_procedure (tree_so_far s) p) v.rest
  tree : tree_so_far v ≡ record (tree_so_far s) { variables = map parameter_of p.parameters }

body_pieces : Script → Procedure → List Piece
body_pieces t p = braced (block (procedure_names t p) p.body)

encloses : (s : State) (p : Procedure) (u : State) (h : Heading) (w v : State) → Prefix s.rest (first_word p.spot keyword.Proc ∷ name p.name ∷ []) u.rest → tree_so_far u ≡ record (tree_so_far s) { variables = [] } → Heads u (heading h) (map parameter_of h.parameters ++ []) w → p.parameters ≡ h.parameters → p.cycles ≡ h.cycles → p.words ≡ h.words → p.steps ≡ h.steps → p.registers ≡ v.registers → ((t : Script) → Took (procedure_names t p) w (body_pieces t p) v) → Encloses s p v
unfolding body_pieces
encloses s p u h w v opens start read parameters cycles words steps registers taken =
    let names : List Text = map parameter_of p.parameters in
    let tree : tree_so_far v ≡ record (tree_so_far s) { variables = names } =
    (taken (tree_so_far s)).same
    ∙ read.tree
    ∙ ap (λ (z : Script). record z { variables = z.variables ++ (map parameter_of h.parameters ++ []) }) start
    ∙ ap (λ (zs : List Text). record (tree_so_far s) { variables = zs }) (append-nil (map parameter_of h.parameters) ∙ ap (map parameter_of) (sym parameters)) in
    let made : Heading = record { parameters = p.parameters; cycles = p.cycles; words = p.words; steps = p.steps } in
    let same : h ≡ made =
    ap (λ (ps : List Parameter). let m : Heading = record { parameters = ps; cycles = h.cycles; words = h.words; steps = h.steps } in m) (sym parameters)
    ∙ ap (λ (i : ℕ). let m : Heading = record { parameters = p.parameters; cycles = i; words = h.words; steps = h.steps } in m) (sym cycles)
    ∙ ap (λ (i : ℕ). let m : Heading = record { parameters = p.parameters; cycles = p.cycles; words = i; steps = h.steps } in m) (sym words)
    ∙ ap (λ (i : ℕ). let m : Heading = record { parameters = p.parameters; cycles = p.cycles; words = p.words; steps = i } in m) (sym steps) in
    let headed : Prefix u.rest (heading made) w.rest = subst (λ (m : Heading). Prefix u.rest (heading m) w.rest) same read.prefix in
    let prefix : (t : Script) → Extends (tree_so_far s) t → Prefix s.rest (spell.procedure_declaration t p) v.rest = λ t ext.
    let inside : Prefix w.rest (body_pieces t p) v.rest = (taken t).prefix (tells_inside v t (tree_so_far s) p ext tree registers) in
    let both : Prefix u.rest (heading made ++ body_pieces t p) v.rest = prefix_join u.rest (heading made) w.rest (body_pieces t p) v.rest headed inside in
    let joined : Prefix u.rest (sign mark.LeftBracket ∷ (listed p.parameters ++ (middle_pieces made ++ body_pieces t p))) v.rest =
    subst (λ (qs : List Piece). Prefix u.rest (sign mark.LeftBracket ∷ qs) v.rest) (append_assoc (listed p.parameters) (middle_pieces made) (body_pieces t p)) both in
    prefix_join s.rest (first_word p.spot keyword.Proc ∷ name p.name ∷ []) u.rest (sign mark.LeftBracket ∷ (listed p.parameters ++ (middle_pieces made ++ body_pieces t p))) v.rest opens joined in
    record { declares = declares_procedure (tree_so_far s) p s.rest v.rest prefix; tree = tree }

-- the script's variables stand outside of its heading and its body
outside_kept : (u : State) (h : Heading × State) (b : List Statement × State) → u.variables ≡ [] → heading_at u ≡ Ok h → block_at 16 h.1 ≡ Ok b → b.1.outside ≡ u.outside
outside_kept u h b none headed body =
    ap (λ (w : State). w.outside) (block_ok 16 h.1 b body).same
    ∙ ap (λ (w : State). w.outside) (heading_ok u h (subst (λ (xs : List Text). length xs ≤ 8) (sym none) (omega arith)) headed).parameters.names.same

-- after its name
abbrev after_its_name : Spot → Text → ℕ → Reader (Unit {0})
after_its_name spot x names = do
  h ← heading_at
  body ← block_at 16
  registers ← ask (λ w. w.registers)
  change (procedure_added (procedure_made spot x h registers body) names)

after_its_name_spelled : (s : State) (x : Text) (names : ℕ) (u : State) (y : Unit {0} × State) → Prefix s.rest (first_word (spot_of s.rest s.end_line) keyword.Proc ∷ name x ∷ []) u.rest → tree_so_far u ≡ record (tree_so_far s) { variables = [] } → u.outside ≡ s.variables → after_its_name (spot_of s.rest s.end_line) x names u ≡ Ok y → Declares (tree_so_far s) s.rest (tree_so_far y.1) y.1.rest
unfolding body_pieces
after_its_name_spelled s x names u y opens start outside e =
    let spot : Spot = spot_of s.rest s.end_line in
    let h = then_ok (heading_at u) _ y e in
    let b = then_ok (block_at 16 h.0.1) _ y h.2 in
    let v : State = b.0.1 in
    let p : Procedure = procedure_made spot x h.0.0 v.registers b.0.0 in
    let made = encloses s p u h.0.0 h.0.1 v opens start (read_heading u h.0 h.1) refl refl refl refl refl (λ t. took_block (procedure_names t p) 16 h.0.1 b.0 b.1) in
    let kept : v.outside ≡ s.variables = outside_kept u h.0 b.0 (ap (λ (t : Script). t.variables) start) h.1 b.1 ∙ outside in
    subst (λ (z : Unit {0} × State). Declares (tree_so_far s) s.rest (tree_so_far z.1) z.1.rest) (ok_is (tt, procedure_added p names v) y b.2)
    (subst (λ (xs : List Text). Declares (tree_so_far s) s.rest (record (tree_so_far v) { variables = xs; procedures = v.procedures ++ p ∷ []; order = v.order ++ next_procedure ∷ [] }) v.rest) (sym kept)
    (subst (λ (w : Script). Declares (tree_so_far s) s.rest (record w { variables = s.variables; procedures = w.procedures ++ p ∷ []; order = w.order ++ next_procedure ∷ [] }) v.rest) (sym made.tree) made.declares))

pub procedure_spelled : (s : State) (y : Unit {0} × State) → kind_of s.rest ≡ Some (kind.Keyword keyword.Proc) → procedure_declaration (spot_of s.rest s.end_line) s ≡ Ok y → Declares (tree_so_far s) s.rest (tree_so_far y.1) y.1.rest
unfolding procedure_declaration
procedure_spelled s y ahead e =
    let spot : Spot = spot_of s.rest s.end_line in
    let t : State = past s in
    let c0 = check_ok (nat_lt (length s.procedures) 16) _ _ s y e in
    let a = then_ok (new_name t) (λ x. advance >> (opened x >>= λ names. after_its_name spot x names)) y c0.1 in
    let n = new_name_ok t a.0 a.1 in
    let after_name : Reader (Unit {0}) = advance >> (opened a.0.0 >>= λ names. after_its_name spot a.0.0 names) in
    let at : after_name t ≡ Ok y = subst (λ (w : State). after_name w ≡ Ok y) n.left a.2 in
    let u : State = past t in
    let opens : Prefix s.rest (first_word spot keyword.Proc ∷ name a.0.0 ∷ []) u.rest = prefix_join s.rest (first_word spot keyword.Proc ∷ []) t.rest (name a.0.0 ∷ []) u.rest (prefix_begin s.rest s.end_line (kind.Keyword keyword.Proc) ahead) (prefix_token t.rest (kind.Name a.0.0) n.next) in
    after_its_name_spelled s a.0.0 (length (in_heading a.0.0 u).declared) (in_heading a.0.0 u) y opens refl refl at
