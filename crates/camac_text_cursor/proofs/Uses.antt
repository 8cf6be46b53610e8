-- What readers of names that are used leave.
use Rattle.std.proofs.Common.{◌≡◌, ℕ, suc, ◌+◌, ◌<◌, ◌≤◌, nat_le, Bool, true, false, cond, List, [], ◌∷◌, length, Option, Some, None, Ok, refl, sym, ap, subst, arith}
use Rattle.std.specs.Prelude.{slice_get}
use Rattle.std.specs.List.{position_from}
use Rattle.std.specs.Str.{bytes_eq}
use Rattle.camac_lang.specs.Expressions.{Scope, Callable}
use Rattle.camac_lang.specs.Tree.{Text, Table, Lam, Procedure}
use Rattle.camac_tokens.specs.declared.token.TokenKind.TheVariants as kind
use Rattle.camac_tokens.specs.declared.fault.NameKind.{NameKind}
use Rattle.camac_tokens.specs.declared.fault.Limit.TheVariants as limit
use Rattle.camac_tokens.specs.declared.fault.TextCase.TheVariants as text_case
use Rattle.camac_text_cursor.specs.Reading.{State, ◌>>=◌, ◌>>◌, give, ask, advance, kind_of, past}
use Rattle.camac_text_cursor.specs.Readers.{name_here, used_at, used, used_register, used_variable, used_lam, used_table, known_at, known, variable_here, procedure_here, callable_by, called}
use Rattle.camac_text_cursor.proofs.Steps.{then_ok, ok_is, err_no_ok}
use Rattle.camac_text_cursor.proofs.Moves.{Moves, moved, name_ok, check_ok}

-- a place that is found is inside the list
some_is : (i j : ℕ) → Some i ≡ Some j → i ≡ j
some_is i j e = cc

found_step : (b : Bool) (i p n : ℕ) (rest : Option ℕ) → cond b (Some i) rest ≡ Some p → (rest ≡ Some p → p < (i + 1) + n) → p < i + suc n
found_step true i p n rest e more = let same : i ≡ p = some_is i p e in omega arith
found_step false i p n rest e more = let h : p < (i + 1) + n = more e in omega arith

pub found_inside : {A : Type 0} (test : A → Bool) (i p : ℕ) (xs : List A) → position_from test i xs ≡ Some p → p < i + length xs
found_inside test i p [] e = absurd cc
found_inside test i p (x ∷ xs) e = found_step (test x) i p (length xs) (position_from test (i + 1) xs) e (λ h. found_inside test (i + 1) p xs h)

pub inside : {A : Type 0} (test : A → Bool) (p : ℕ) (xs : List A) → position_from test 0 xs ≡ Some p → p < length xs
inside test p xs e = let h : p < 0 + length xs = found_inside test 0 p xs e in omega arith

-- ---- names that are used

used_is : (wanted : NameKind) (x : Text) (place : Option ℕ) (s : State) (y : ℕ × State) → used_at wanted x place s ≡ Ok y → (place ≡ Some y.0) × (y.1 ≡ past s)
used_is wanted x (Some place) s y e = subst (λ (p : ℕ × State). (Some place ≡ Some p.0) × (p.1 ≡ past s)) (ok_is _ y e) (refl, refl)
used_is wanted x None s y e = absurd (err_no_ok _ _ e)

-- a name is taken, which is found at this place
pub record Used (find : Text → State → Option ℕ) (s : State) (place : ℕ) (s' : State) : Type 0 where
  pub name : Text
  pub next : kind_of s.rest ≡ Some (kind.Name name)
  pub found : find name s ≡ Some place
  pub left : s' ≡ past s

pub used_ok : (wanted : NameKind) (find : Text → State → Option ℕ) (s : State) (y : ℕ × State) → used wanted find s ≡ Ok y → Used find s y.0 y.1
unfolding used
used_ok wanted find s y e =
    let m = then_ok (name_here s) (λ x. ask (find x) >>= used_at wanted x) y e in
    let h = name_ok s m.0 m.1 in
    let at : used_at wanted m.0.0 (find m.0.0 s) s ≡ Ok y = subst (λ (u : State). used_at wanted m.0.0 (find m.0.0 u) u ≡ Ok y) h.1 m.2 in
    let u = used_is wanted m.0.0 (find m.0.0 s) s y at in
    record { name = m.0.0; next = h.0; found = u.0; left = u.1 }

pub used_moves : {find : Text → State → Option ℕ} (s : State) (place : ℕ) (s' : State) → Used find s place s' → Moves s s'
used_moves s place s' u = subst (λ (w : State). Moves s w) (sym u.left) (moved s)

pub used_register_ok : (s : State) (y : ℕ × State) → used_register s ≡ Ok y → (y.0 < length s.registers) × Moves s y.1
used_register_ok s y e = let u = used_ok _ _ s y e in (inside (bytes_eq u.name) y.0 s.registers u.found, used_moves s y.0 y.1 u)

pub used_variable_ok : (s : State) (y : ℕ × State) → used_variable s ≡ Ok y → (y.0 < length s.variables) × Moves s y.1
used_variable_ok s y e = let u = used_ok _ _ s y e in (inside (bytes_eq u.name) y.0 s.variables u.found, used_moves s y.0 y.1 u)

pub used_lam_ok : (s : State) (y : ℕ × State) → used_lam s ≡ Ok y → (y.0 < length s.lams) × Moves s y.1
used_lam_ok s y e = let u = used_ok _ _ s y e in (inside (λ (l : Lam). bytes_eq u.name l.name) y.0 s.lams u.found, used_moves s y.0 y.1 u)

pub used_table_ok : (s : State) (y : ℕ × State) → used_table s ≡ Ok y → (y.0 < length s.tables) × Moves s y.1
used_table_ok s y e = let u = used_ok _ _ s y e in (inside (λ (t : Table). bytes_eq u.name t.name) y.0 s.tables u.found, used_moves s y.0 y.1 u)

known_is : (wanted : NameKind) (x : Text) (place : Option ℕ) (s : State) (y : ℕ × State) → known_at wanted x place s ≡ Ok y → (place ≡ Some y.0) × (y.1 ≡ s)
known_is wanted x (Some place) s y e = subst (λ (p : ℕ × State). (Some place ≡ Some p.0) × (p.1 ≡ s)) (ok_is (place, s) y e) (refl, refl)
known_is wanted x None s y e = absurd (err_no_ok _ _ e)

-- a name stands next, and stays there, which is found at this place
pub record Known (find : Text → State → Option ℕ) (s : State) (place : ℕ) (s' : State) : Type 0 where
  pub name : Text
  pub next : kind_of s.rest ≡ Some (kind.Name name)
  pub found : find name s ≡ Some place
  pub left : s' ≡ s

pub known_ok : (wanted : NameKind) (find : Text → State → Option ℕ) (s : State) (y : ℕ × State) → known wanted find s ≡ Ok y → Known find s y.0 y.1
unfolding known
known_ok wanted find s y e =
    let m = then_ok (name_here s) (λ x. ask (find x) >>= known_at wanted x) y e in
    let h = name_ok s m.0 m.1 in
    let at : known_at wanted m.0.0 (find m.0.0 s) s ≡ Ok y = subst (λ (u : State). known_at wanted m.0.0 (find m.0.0 u) u ≡ Ok y) h.1 m.2 in
    let k = known_is wanted m.0.0 (find m.0.0 s) s y at in
    record { name = m.0.0; next = h.0; found = k.0; left = k.1 }

pub record VariableHere (s : State) (place : ℕ) (s' : State) : Type 0 where
  pub name : Text
  pub next : kind_of s.rest ≡ Some (kind.Name name)
  pub within : place < length s.variables
  pub left : s' ≡ s

pub variable_here_ok : (s : State) (y : ℕ × State) → variable_here s ≡ Ok y → VariableHere s y.0 y.1
variable_here_ok s y e = let k = known_ok _ _ s y e in record { name = k.name; next = k.next; within = inside (bytes_eq k.name) y.0 s.variables k.found; left = k.left }

-- the name of a procedure stands next, and stays there
pub record ProcedureHere (s : State) (place : ℕ) (s' : State) : Type 0 where
  pub name : Text
  pub next : kind_of s.rest ≡ Some (kind.Name name)
  pub within : place < length s.procedures
  pub left : s' ≡ s

pub procedure_here_ok : (s : State) (y : ℕ × State) → procedure_here s ≡ Ok y → ProcedureHere s y.0 y.1
procedure_here_ok s y e = let k = known_ok _ _ s y e in record { name = k.name; next = k.next; within = inside (λ (p : Procedure). bytes_eq k.name p.name) y.0 s.procedures k.found; left = k.left }

-- what is called is one that can be called here
pub record CanBeCalled (room place : ℕ) (s : State) (parameters : ℕ) (s' : State) : Type 0 where
  pub callable : Callable
  pub found : slice_get s.callables place ≡ Some callable
  pub wants : parameters ≡ callable.parameters
  pub deep : callable.depth ≤ room
  pub moves : Moves s s'

callable_is : (room place : ℕ) (found : Option Callable) (s : State) (y : ℕ × State) → slice_get s.callables place ≡ found → callable_by room found s ≡ Ok y → CanBeCalled room place s y.0 y.1
callable_is room place None s y at e = absurd (err_no_ok _ _ e)
callable_is room place (Some q) s y at e =
    let c = check_ok (nat_le q.depth room) (text_case.Limit limit.CallDepth) (advance >> give q.parameters) s y e in
    subst (λ (p : ℕ × State). CanBeCalled room place s p.0 p.1) (ok_is (q.parameters, past s) y c.1) (record {
      callable = q;
      found = at;
      wants = refl;
      deep = below_of q.depth room c.0;
      moves = moved s;
    })
  where
    below_of : (n m : ℕ) → nat_le n m ≡ true → n ≤ m
    below_of n m h = grind arith

pub called_ok : (room place : ℕ) (s : State) (y : ℕ × State) → called room place s ≡ Ok y → CanBeCalled room place s y.0 y.1
unfolding called
called_ok room place s y e = callable_is room place (slice_get s.callables place) s y refl e

-- ---- the scope

-- what the body in hand may refer to
abbrev pub scope_of : State → Scope
scope_of s = record { variables = length s.variables; tables = length s.tables; lams = length s.lams; callables = s.callables; is_procedure = s.in_procedure }

-- the scope stays where only the tokens move on
pub same_scope : (s t : State) → Moves s t → scope_of t ≡ scope_of s
same_scope s t m = ap scope_of m.same
