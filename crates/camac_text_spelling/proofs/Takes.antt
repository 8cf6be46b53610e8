-- Which pieces the tokens between two states are, one by one and in lists, and what readers of single tokens take.
use Rattle.std.proofs.Common.{◌≡◌, ℕ, List, [], ◌∷◌, ◌++◌, Some, refl, sym, ap, subst, Bool, true, false, cond, eqb, nat_le, Option, None, Result, Ok, ◌∙◌, rules, append_assoc, suc, ◌+◌, map, length, arith}
use Rattle.std.proofs.lemmas.Bool.{eqb-true}
use Rattle.std.proofs.lemmas.List.{append-nil}
use Rattle.std.proofs.lemmas.Slice.Eq.{bytes_eq-Decides}
use Rattle.std.specs.Prelude.{slice_get}
use Rattle.std.specs.List.{position_from}
use Rattle.std.specs.Str.{bytes_eq}
use Rattle.camac_tokens.specs.declared.token.Token.{Token}
use Rattle.camac_tokens.specs.declared.token.TokenKind.{TokenKind}
use Rattle.camac_tokens.specs.contracts.token.Keyword as keyword_type
use Rattle.camac_tokens.specs.contracts.token.Sign as sign_type
use Rattle.camac_tokens.specs.declared.token.Keyword.{Keyword}
use Rattle.camac_tokens.specs.declared.token.Sign.{Sign}
use Rattle.camac_tokens.specs.declared.token.TokenKind.TheVariants as kind
use Rattle.camac_tokens.specs.declared.fault.NameKind.{NameKind}
use Rattle.camac_text_cursor.specs.Reading.{kind_of, spot_of, after_first, ◌>>◌, State, advance, give, Fault, missed, past, unexpected, Reader, ◌>>=◌, until}
use Rattle.camac_text_cursor.specs.Names.{name_place, lam_place, table_place, procedure_place}
use Rattle.camac_text_cursor.specs.declared.choice.Choice.{Choice}
use Rattle.camac_text_cursor.specs.declared.choice.Choice.TheVariants as choice
use Rattle.camac_text_cursor.specs.Readers.{is_keyword, is_sign, expect, expect_sign, number_here, branch_number, used, used_register, used_variable, used_lam, used_table, variable_here, procedure_here, callable_by, called}
use Rattle.camac_text_cursor.specs.Declaring.{tree_so_far}
use Rattle.camac_text_cursor.proofs.Steps.{then_ok, ok_is, err_no_ok, until_keeps}
use Rattle.camac_text_cursor.proofs.Uses.{used_ok, known_ok}
use Rattle.camac_text_cursor.proofs.Moves.{TakesOne, check_ok, number_ok}
use Rattle.camac_text_cursor.proofs.Searches.{position_from-map}
use Rattle.camac_text_spelling.specs.Pieces.{Piece, piece, first_piece, Prefix, text_at, name_at, Names, others, separated}
use Rattle.camac_lang.specs.declared.spot.Spot.{Spot}
use Rattle.camac_lang.specs.Expressions.{Callable}
use Rattle.camac_lang.specs.Tree.{Text, Table, Lam, Procedure}
use denote.Enum.Bare.{same_true}

-- Tokens that begin with the pieces of a spelling.

pub prefix_join : (ts : List Token) (ps : List Piece) (us : List Token) (qs : List Piece) (vs : List Token) → Prefix ts ps us → Prefix us qs vs → Prefix ts (ps ++ qs) vs
prefix_join ts [] us qs vs f g = subst (λ (ws : List Token). Prefix ws qs vs) (sym f) g
prefix_join [] (p ∷ ps) us qs vs f g = absurd f
prefix_join (t ∷ ts) (p ∷ ps) us qs vs f g = (f.0, prefix_join ts ps us qs vs f.1 g)

pub prefix_split : (ts : List Token) (ps qs : List Piece) (vs : List Token) → Prefix ts (ps ++ qs) vs → (us : List Token) × Prefix ts ps us × Prefix us qs vs
prefix_split ts [] qs vs f = (ts, refl, f)
prefix_split [] (p ∷ ps) qs vs f = absurd f
prefix_split (t ∷ ts) (p ∷ ps) qs vs f = let h = prefix_split ts ps qs vs f.1 in (h.0, (f.0, h.1), h.2)

-- one token of this kind
pub prefix_token : (ts : List Token) (k : TokenKind) → kind_of ts ≡ Some k → Prefix ts (piece k ∷ []) (after_first ts)
prefix_token [] k e = absurd cc
prefix_token (t ∷ ts) k e = ((cc, tt), refl)

-- and its spot
pub prefix_begin : (ts : List Token) (end_line : ℕ) (k : TokenKind) → kind_of ts ≡ Some k → Prefix ts (first_piece (spot_of ts end_line) k ∷ []) (after_first ts)
prefix_begin [] end_line k e = absurd cc
prefix_begin (t ∷ ts) end_line k e = ((cc, refl), refl)

pub prefix_first : (ts : List Token) (p : Piece) (ps : List Piece) (rest : List Token) → Prefix ts (p ∷ ps) rest → (kind_of ts ≡ Some p.kind) × Prefix (after_first ts) ps rest
prefix_first [] p ps rest f = absurd f
prefix_first (t ∷ ts) p ps rest f = (ap Some f.0.0, f.1)

-- a token whose spot the tree holds
pub prefix_spot : (ts : List Token) (end_line : ℕ) (spot : Spot) (k : TokenKind) (ps : List Piece) (rest : List Token) → Prefix ts (first_piece spot k ∷ ps) rest → (kind_of ts ≡ Some k) × (spot_of ts end_line ≡ spot) × Prefix (after_first ts) ps rest
prefix_spot [] end_line spot k ps rest f = absurd f
prefix_spot (t ∷ ts) end_line spot k ps rest f = (ap Some f.0.0, f.0.1, f.1)

-- Which pieces the tokens between two states are, and what readers of single tokens take.

-- These are the names of what is declared so far.
pub record Knows (n : Names) (vs rs : List Text) (ls : List Lam) (gs : List Table) (ps : List Procedure) : Type 0 where
  pub variables : (x : Text) (p : ℕ) → name_place x vs ≡ Some p → x ≡ text_at n.variables p
  pub registers : (x : Text) (p : ℕ) → name_place x rs ≡ Some p → x ≡ text_at n.registers p
  pub lams : (x : Text) (p : ℕ) → lam_place x ls ≡ Some p → x ≡ text_at n.lams p
  pub tables : (x : Text) (p : ℕ) → table_place x gs ≡ Some p → x ≡ text_at n.tables p
  pub procedures : (x : Text) (p : ℕ) → procedure_place x ps ≡ Some p → x ≡ text_at n.procedures p

abbrev pub KnowsNames : Names → State → Type 0
KnowsNames n s = Knows n s.variables s.registers s.lams s.tables s.procedures

-- The tokens between two states are these pieces, and no declaration is between them.
pub record Took (n : Names) (s : State) (ps : List Piece) (s' : State) : Type 0 where
  pub prefix : KnowsNames n s' → Prefix s.rest ps s'.rest
  pub tells : KnowsNames n s' → KnowsNames n s
  pub same : tree_so_far s' ≡ tree_so_far s

pub join : {n : Names} {s : State} {ps : List Piece} {u : State} {qs : List Piece} {v : State} → Took n s ps u → Took n u qs v → Took n s (ps ++ qs) v
join {n} {s} {ps} {u} {qs} {v} a b = record {
  prefix = λ t. prefix_join s.rest ps u.rest qs v.rest (a.prefix (b.tells t)) (b.prefix t);
  tells = λ t. a.tells (b.tells t);
  same = b.same ∙ a.same;
}

-- what is given back
pub returns : {A : Type 0} {n : Names} {s : State} {x : A} {u : State} {y : A × State} (spell : A → List Piece) → (let r : Result (A × State) Fault = Ok (x, u) in r) ≡ Ok y → Took n s (spell x) u → Took n s (spell y.0) y.1
returns {A} {n} {s} {x} {u} {y} spell e took = subst (λ (p : A × State). Took n s (spell p.0) p.1) (ok_is (x, u) y e) took

pub nothing : (n : Names) (s : State) → Took n s [] s
nothing n s = record { prefix = λ t. refl; tells = λ t. t; same = refl }

-- what was looked for does not matter
pub then_missed : {n : Names} {s : State} {ps : List Piece} {u : State} (c : Choice) → Took n s ps u → Took n s ps (missed c u)
then_missed c t = record { prefix = t.prefix; tells = t.tells; same = t.same }

pub missed_then : {n : Names} {s : State} {ps : List Piece} {u : State} (c : Choice) → Took n (missed c s) ps u → Took n s ps u
missed_then c t = record { prefix = t.prefix; tells = t.tells; same = t.same }

pub took_one : {n : Names} {s : State} {k : TokenKind} {s' : State} → kind_of s.rest ≡ Some k → s' ≡ past s → Took n s (piece k ∷ []) s'
took_one {n} {s} {k} {s'} next left = subst (λ (u : State). Took n s (piece k ∷ []) u) (sym left) (record { prefix = λ t. prefix_token s.rest k next; tells = λ t. t; same = refl })

pub took_token : {n : Names} {s : State} {k : TokenKind} {s' : State} → TakesOne s k s' → Took n s (piece k ∷ []) s'
took_token t = took_one t.next t.left

-- the first token of a declaration
pub took_first : {n : Names} (s : State) (k : TokenKind) → kind_of s.rest ≡ Some k → Took n s (first_piece (spot_of s.rest s.end_line) k ∷ []) (past s)
took_first s k next = record { prefix = λ t. prefix_begin s.rest s.end_line k next; tells = λ t. t; same = refl }

-- ---- words and signs

pub keyword_is : (w : Keyword) (k : Option TokenKind) → is_keyword w k ≡ true → k ≡ Some (kind.Keyword w)
keyword_is w (Some (kind.Keyword v)) e = ap (λ (u : Keyword). Some (kind.Keyword u)) (same_true keyword_type.the_type (search rules) v w e)
keyword_is w _ e = absurd cc

pub sign_is : (w : Sign) (k : Option TokenKind) → is_sign w k ≡ true → k ≡ Some (kind.Sign w)
sign_is w (Some (kind.Sign v)) e = ap (λ (u : Sign). Some (kind.Sign u)) (same_true sign_type.the_type (search rules) v w e)
sign_is w _ e = absurd cc

pub expected : (c : Choice) (b : Bool) (s : State) (y : Unit {0} × State) → cond b advance (unexpected c) s ≡ Ok y → (b ≡ true) × (y.1 ≡ past s)
expected c true s y e = (refl, sym (ap (λ (p : Unit {0} × State). p.1) (ok_is _ y e)))
expected c false s y e = absurd (err_no_ok _ _ e)

pub took_word : {n : Names} (w : Keyword) (s : State) (y : Unit {0} × State) → expect w s ≡ Ok y → Took n s (piece (kind.Keyword w) ∷ []) y.1
unfolding expect
took_word w s y e = let h = expected (choice.Word w) (is_keyword w (kind_of s.rest)) s y e in took_one (keyword_is w (kind_of s.rest) h.0) h.1

pub took_sign : {n : Names} (w : Sign) (s : State) (y : Unit {0} × State) → expect_sign w s ≡ Ok y → Took n s (piece (kind.Sign w) ∷ []) y.1
unfolding expect_sign
took_sign w s y e = let h = expected (choice.Mark w) (is_sign w (kind_of s.rest)) s y e in took_one (sign_is w (kind_of s.rest) h.0) h.1

-- ---- numbers

pub took_branch : {n : Names} (s : State) (y : Unit {0} × State) → branch_number s ≡ Ok y → Took n s (piece (kind.Number 1) ∷ []) y.1
unfolding branch_number
took_branch {n} s y e =
    let m = then_ok (number_here s) _ y e in
    let h = number_ok s m.0 m.1 in
    let c = check_ok (eqb m.0.0 1) _ advance m.0.1 y m.2 in
    let one : m.0.0 ≡ 1 = eqb-true m.0.0 1 c.0 in
    let next : kind_of s.rest ≡ Some (kind.Number 1) = h.0 ∙ ap (λ (k : ℕ). Some (kind.Number k)) one in
    took_one next (ap (λ (p : Unit {0} × State). p.1) (sym (ok_is _ y c.1)) ∙ ap past h.1)

-- ---- names

-- the piece is another where the names are known
pub named : {n : Names} {s : State} {x : Text} {s' : State} (y : Text) → (KnowsNames n s' → x ≡ y) → Took n s (piece (kind.Name x) ∷ []) s' → Took n s (piece (kind.Name y) ∷ []) s'
named {n} {s} {x} {s'} y same took = record {
  prefix = λ t. subst (λ (z : Text). Prefix s.rest (piece (kind.Name z) ∷ []) s'.rest) (same t) (took.prefix t);
  tells = took.tells;
  same = took.same;
}

-- a name that is used, where it stands in a list
took_used : {n : Names} (wanted : NameKind) (find : Text → State → Option ℕ) (names : List Text) (s : State) (y : ℕ × State) → used wanted find s ≡ Ok y → ((x : Text) → KnowsNames n s → find x s ≡ Some y.0 → x ≡ text_at names y.0) → Took n s (name_at names y.0 ∷ []) y.1
took_used {n} wanted find names s y e tells =
    let u = used_ok wanted find s y e in
    let one : Took n s (piece (kind.Name u.name) ∷ []) y.1 = took_one u.next u.left in
    named (text_at names y.0) (λ t. tells u.name (one.tells t) u.found) one

pub took_register : {n : Names} (s : State) (y : ℕ × State) → used_register s ≡ Ok y → Took n s (name_at n.registers y.0 ∷ []) y.1
took_register {n} s y e = took_used _ _ n.registers s y e (λ x t found. t.registers x y.0 found)

pub took_variable : {n : Names} (s : State) (y : ℕ × State) → used_variable s ≡ Ok y → Took n s (name_at n.variables y.0 ∷ []) y.1
took_variable {n} s y e = took_used _ _ n.variables s y e (λ x t found. t.variables x y.0 found)

pub took_lam : {n : Names} (s : State) (y : ℕ × State) → used_lam s ≡ Ok y → Took n s (name_at n.lams y.0 ∷ []) y.1
took_lam {n} s y e = took_used _ _ n.lams s y e (λ x t found. t.lams x y.0 found)

pub took_table : {n : Names} (s : State) (y : ℕ × State) → used_table s ≡ Ok y → Took n s (name_at n.tables y.0 ∷ []) y.1
took_table {n} s y e = took_used _ _ n.tables s y e (λ x t found. t.tables x y.0 found)

-- the name of a variable stands next, and stays there
pub record SeesVariable (n : Names) (s : State) (place : ℕ) (s' : State) : Type 0 where
  pub name : Text
  pub next : kind_of s.rest ≡ Some (kind.Name name)
  pub found : name_place name s.variables ≡ Some place
  pub same : KnowsNames n s → name ≡ text_at n.variables place
  pub left : s' ≡ s

pub sees_variable : {n : Names} (s : State) (y : ℕ × State) → variable_here s ≡ Ok y → SeesVariable n s y.0 y.1
sees_variable s y e = let k = known_ok _ _ s y e in record { name = k.name; next = k.next; found = k.found; same = λ t. t.variables k.name y.0 k.found; left = k.left }

-- its piece
pub seen : {n : Names} {s : State} {place : ℕ} {u v : State} (here : SeesVariable n s place u) → Took n s (piece (kind.Name here.name) ∷ []) v → Took n s (name_at n.variables place ∷ []) v
seen {n} {s} {place} here took = named (text_at n.variables place) (λ t. here.same (took.tells t)) took

-- ---- procedures

-- the name of a procedure stands next, and stays there
pub record SeesProcedure (n : Names) (s : State) (place : ℕ) (s' : State) : Type 0 where
  pub name : Text
  pub next : kind_of s.rest ≡ Some (kind.Name name)
  pub same : KnowsNames n s → name ≡ text_at n.procedures place
  pub left : s' ≡ s

pub sees_procedure : {n : Names} (s : State) (y : ℕ × State) → procedure_here s ≡ Ok y → SeesProcedure n s y.0 y.1
sees_procedure s y e = let k = known_ok _ _ s y e in record { name = k.name; next = k.next; same = λ t. t.procedures k.name y.0 k.found; left = k.left }

callable_moves : (room : ℕ) (found : Option Callable) (s : State) (y : ℕ × State) → callable_by room found s ≡ Ok y → y.1 ≡ past s
callable_moves room None s y e = absurd (err_no_ok _ _ e)
callable_moves room (Some q) s y e =
    let c = check_ok (nat_le q.depth room) _ (advance >> give q.parameters) s y e in
    sym (ap (λ (p : ℕ × State). p.1) (ok_is (q.parameters, past s) y c.1))

-- the procedure that is called
pub took_called : {n : Names} (room place : ℕ) (s t : State) (y : ℕ × State) → SeesProcedure n s place t → called room place s ≡ Ok y → Took n s (name_at n.procedures place ∷ []) y.1
unfolding called
took_called {n} room place s t y here e =
    let one : Took n s (piece (kind.Name here.name) ∷ []) y.1 = took_one here.next (callable_moves room (slice_get s.callables place) s y e) in
    named (text_at n.procedures place) (λ k. here.same (one.tells k)) one

-- Lists of phrases with separators, and what a loop reads of them.

pub others_push : {A : Type 0} (sep : Piece) (f : A → List Piece) (xs : List A) (x : A) → others sep f (xs ++ x ∷ []) ≡ others sep f xs ++ sep ∷ f x
others_push sep f [] x = ap (λ (w : List Piece). sep ∷ w) (append-nil (f x))
others_push sep f (y ∷ ys) x =
    ap (λ (w : List Piece). sep ∷ (f y ++ w)) (others_push sep f ys x) ∙ ap (λ (w : List Piece). sep ∷ w) (sym (append_assoc (f y) (others sep f ys) (sep ∷ f x)))

pub separated_push : {A : Type 0} (sep : Piece) (f : A → List Piece) (first : A) (xs : List A) (x : A) → separated sep f (first ∷ (xs ++ x ∷ [])) ≡ separated sep f (first ∷ xs) ++ sep ∷ f x
separated_push sep f first xs x =
    ap (λ (w : List Piece). f first ++ w) (others_push sep f xs x) ∙ sym (append_assoc (f first) (others sep f xs) (sep ∷ f x))

-- a list that begins with this one, and is spelled so
pub record Listed {A : Type 0} (n : Names) (s : State) (sep : Piece) (f : A → List Piece) (first : A) (xs : List A) (u : State) : Type 0 where
  pub tail : List A
  pub same : xs ≡ first ∷ tail
  pub took : Took n s (separated sep f (first ∷ tail)) u

longer : {A : Type 0} (n : Names) (s : State) (sep : Piece) (f : A → List Piece) (first : A) (xs : List A) (u : State) (x : A) (v : State) → Listed n s sep f first xs u → Took n u (sep ∷ f x) v → Listed n s sep f first (xs ++ x ∷ []) v
longer n s sep f first xs u x v l one = record {
  tail = l.tail ++ x ∷ [];
  same = ap (λ (w : List _). w ++ x ∷ []) l.same;
  took = subst (λ (ps : List Piece). Took n s ps v) (sym (separated_push sep f first l.tail x)) (join l.took one);
}

pub took_list : {A : Type 0} (c : Choice) (n : Names) (sep : Piece) (f : A → List Piece) (goes_on : Option TokenKind → Bool) (read : List A → Reader A) → ((xs : List A) (u : State) (y : A × State) → goes_on (kind_of u.rest) ≡ true → read xs u ≡ Ok y → Took n u (sep ∷ f y.0) y.1) → (first : A) (s t : State) → Took n s (f first) t → (y : List A × State) → until c goes_on (λ xs. read xs >>= λ x. give (xs ++ x ∷ [])) (first ∷ []) t ≡ Ok y → Listed n s sep f first y.0 y.1
took_list {A} c n sep f goes_on read one first s t begins y e =
    until_keeps (λ (xs : List A) (u : State). Listed n s sep f first xs u) c (λ xs u l. record { tail = l.tail; same = l.same; took = then_missed c l.took }) goes_on (λ xs. read xs >>= λ x. give (xs ++ x ∷ [])) (λ xs u ys v l on took.
    let m = then_ok (read xs u) (λ x. give (xs ++ x ∷ [])) (ys, v) took in
    subst (λ (p : List A × State). Listed n s sep f first p.0 p.1) (ok_is (xs ++ m.0.0 ∷ [], m.0.1) (ys, v) m.2) (longer n s sep f first xs u m.0.0 m.0.1 l (one xs u m.0 on m.1))) (first ∷ []) t y
    (record { tail = []; same = refl; took = subst (λ (ps : List Piece). Took n s ps t) (sym (append-nil (f first))) begins }) e

-- Where a name is found in a list.

-- what is found is found with more after it
pub found_later : {A : Type 0} (test : A → Bool) (i p : ℕ) (xs ys : List A) → position_from test i xs ≡ Some p → position_from test i (xs ++ ys) ≡ Some p
found_later test i p [] ys e = absurd cc
found_later test i p (x ∷ xs) ys e = later (test x) i p _ _ e (λ h. found_later test (i + 1) p xs ys h) where
  later : (b : Bool) (i p : ℕ) (short long : Option ℕ) → cond b (Some i) short ≡ Some p → (short ≡ Some p → long ≡ Some p) → cond b (Some i) long ≡ Some p
  later true i p short long e more = e
  later false i p short long e more = more e

-- a new name is found at the end
last_from : (x : Text) (i : ℕ) (xs : List Text) → position_from (bytes_eq x) i xs ≡ None → position_from (bytes_eq x) i (xs ++ x ∷ []) ≡ Some (i + length xs)
last_from x i [] e =
    ap (λ (b : Bool). cond b (Some i) None) ((bytes_eq-Decides x x).1 refl) ∙ ap (λ (k : ℕ). Some k) (omega arith)
last_from x i (y ∷ ys) e = goes (bytes_eq x y) (λ h. last_from x (i + 1) ys h) e where
  goes : (b : Bool) → (position_from (bytes_eq x) (i + 1) ys ≡ None → position_from (bytes_eq x) (i + 1) (ys ++ x ∷ []) ≡ Some ((i + 1) + length ys)) → cond b (Some i) (position_from (bytes_eq x) (i + 1) ys) ≡ None → cond b (Some i) (position_from (bytes_eq x) (i + 1) (ys ++ x ∷ [])) ≡ Some (i + suc (length ys))
  goes true more h = absurd cc
  goes false more h = more h ∙ ap (λ (k : ℕ). Some k) (omega arith)

pub found_last : (x : Text) (xs : List Text) → name_place x xs ≡ None → name_place x (xs ++ x ∷ []) ≡ Some (length xs)
found_last x xs e = last_from x 0 xs e ∙ ap (λ (k : ℕ). Some k) (omega arith)

-- the name that is found stands there, whatever is after
named_from : (x : Text) (i p : ℕ) (xs ys : List Text) → position_from (bytes_eq x) i xs ≡ Some p → (k : ℕ) × (p ≡ i + k) × (x ≡ text_at (xs ++ ys) k)
named_from x i p [] ys e = absurd cc
named_from x i p (z ∷ zs) ys e = goes (bytes_eq x z) refl (λ h. named_from x (i + 1) p zs ys h) e where
  some_is : (a b : ℕ) → Some a ≡ Some b → a ≡ b
  some_is a b h = cc

  goes : (b : Bool) → bytes_eq x z ≡ b → (position_from (bytes_eq x) (i + 1) zs ≡ Some p → (k : ℕ) × (p ≡ (i + 1) + k) × (x ≡ text_at (zs ++ ys) k)) → cond b (Some i) (position_from (bytes_eq x) (i + 1) zs) ≡ Some p → (k : ℕ) × (p ≡ i + k) × (x ≡ text_at (z ∷ (zs ++ ys)) k)
  goes true same more h = (0, (let here : i ≡ p = some_is i p h in omega arith), (bytes_eq-Decides x z).0 same)
  goes false same more h = let m = more h in (suc m.0, (let at : p ≡ (i + 1) + m.0 = m.1 in omega arith), m.2)

pub found_named : (x : Text) (p : ℕ) (xs ys : List Text) → name_place x xs ≡ Some p → x ≡ text_at (xs ++ ys) p
found_named x p xs ys e =
    let m = named_from x 0 p xs ys e in
    let same : p ≡ m.0 = (let at : p ≡ 0 + m.0 = m.1 in omega arith) in
    m.2 ∙ ap (λ (k : ℕ). text_at (xs ++ ys) k) (sym same)

pub found_lam : (x : Text) (p : ℕ) (ls : List Lam) (ys : List Text) → lam_place x ls ≡ Some p → x ≡ text_at (map (λ (l : Lam). l.name) ls ++ ys) p
found_lam x p ls ys e = found_named x p (map (λ (l : Lam). l.name) ls) ys (position_from-map (λ (l : Lam). l.name) (bytes_eq x) 0 ls ∙ e)

pub found_table : (x : Text) (p : ℕ) (gs : List Table) (ys : List Text) → table_place x gs ≡ Some p → x ≡ text_at (map (λ (t : Table). t.name) gs ++ ys) p
found_table x p gs ys e = found_named x p (map (λ (t : Table). t.name) gs) ys (position_from-map (λ (t : Table). t.name) (bytes_eq x) 0 gs ∙ e)

pub found_procedure : (x : Text) (p : ℕ) (ps : List Procedure) (ys : List Text) → procedure_place x ps ≡ Some p → x ≡ text_at (map (λ (q : Procedure). q.name) ps ++ ys) p
found_procedure x p ps ys e = found_named x p (map (λ (q : Procedure). q.name) ps) ys (position_from-map (λ (q : Procedure). q.name) (bytes_eq x) 0 ps ∙ e)
