-- What readers of new variables leave.
use Rattle.std.proofs.Common.{◌≡◌, ℕ, suc, ◌+◌, ◌≤◌, ◌<◌, true, ◌&&◌, nat_lt, List, [], ◌∷◌, ◌++◌, length, Some, Ok, refl, sym, ap, subst, ◌∙◌, append_assoc, length-append, arith}
use Rattle.std.proofs.lemmas.Bool.{ltb-true}
use Rattle.std.proofs.lemmas.List.{append-nil}
use Rattle.camac_lang.specs.Scope.{are_declarable}
use Rattle.camac_lang.specs.Tests.{is_new}
use Rattle.camac_lang.specs.Tree.{Text}
use Rattle.camac_tokens.specs.declared.fault.Limit.TheVariants as limit
use Rattle.camac_tokens.specs.declared.fault.TextCase.TheVariants as text_case
use Rattle.camac_tokens.specs.declared.token.TokenKind.TheVariants as kind
use Rattle.camac_text_cursor.specs.Tried.{cleared}
use Rattle.camac_text_cursor.specs.Reading.{State, ◌>>◌, give, change, advance, kind_of, after_first, past}
use Rattle.camac_text_cursor.specs.Readers.{new_name, with_variable, added, new_variable, is_name as next_is_name}
use Rattle.camac_text.specs.Declarations.{one_more_variable}
use Rattle.camac_text_cursor.proofs.Steps.{then_ok, ok_is, Progresses}
use Rattle.camac_text_cursor.proofs.Moves.{AllFit, Moves, kind_fit, after_less, moved, check_ok, new_name_ok}
use Rattle.camac_text_cursor.proofs.Registers.{declarable_push, first_of_both, second_of_both}
use Rattle.camac_text.proofs.Listed.{each_append}

-- one variable is declared
pub record DeclaresOne (s : State) (x : Text) (s' : State) : Type 0 where
  pub next : kind_of s.rest ≡ Some (kind.Name x)
  pub free : is_new x s.declared ≡ true
  pub room : s.variable_count < 64
  pub left : s' ≡ with_variable x (past s)

pub added_ok : (s : State) (x : Text) (y : Unit {0} × State) → kind_of s.rest ≡ Some (kind.Name x) → is_new x s.declared ≡ true → added x s ≡ Ok y → DeclaresOne s x y.1
unfolding added
added_ok s x y next free e =
    let c = check_ok (nat_lt s.variable_count 64) (text_case.Limit limit.Variables) (advance >> change (with_variable x)) s y e in
    record {
      next = next;
      free = free;
      room = ltb-true s.variable_count 64 c.0;
      left = sym (ap (λ (p : Unit {0} × State). p.1) (ok_is (tt, with_variable x (past s)) y c.1));
    }

pub new_variable_ok : (s : State) (y : Unit {0} × State) → new_variable s ≡ Ok y → (x : Text) × DeclaresOne s x y.1
unfolding new_variable
new_variable_ok s y e =
    let m = then_ok (new_name s) added y e in
    let h = new_name_ok s m.0 m.1 in
    (m.0.0, added_ok s m.0.0 y h.next h.free (subst (λ (u : State). added m.0.0 u ≡ Ok y) h.left m.2))

pub one_variable_less : (s : State) (x : Text) (s' : State) → DeclaresOne s x s' → length s'.rest < length s.rest
one_variable_less s x s' d = subst (λ (u : State). length u.rest < length s.rest) (sym d.left) (after_less s.rest (kind.Name x) d.next)

pub variables_progress : Progresses next_is_name one_more_variable
variables_progress count s y s' on took =
    let m = then_ok (new_variable s) (λ _. give (count + 1)) (y, s') took in
    let d = new_variable_ok s m.0 m.1 in
    subst (λ (p : ℕ × State). length p.1.rest < length s.rest) (ok_is (count + 1, m.0.1) (y, s') m.2) (one_variable_less s d.0 m.0.1 d.1)

-- these names are declared as variables
pub record DeclaresNames (s : State) (names : List Text) (s' : State) : Type 0 where
  pub same : s' ≡ record s { rest = s'.rest; variables = s.variables ++ names; variable_count = s.variable_count + length names; declared = s.declared ++ names; tried = s'.tried }
  pub fit : AllFit s.rest → AllFit s'.rest
  pub shorter : length s'.rest ≤ length s.rest
  pub few : s.variable_count ≤ 64 → s'.variable_count ≤ 64
  pub new : AllFit s.rest → are_declarable names s.declared ≡ true

pub no_names : (s : State) → DeclaresNames s [] s
no_names s = record {
  same = ap (λ (xs : List Text). record s { variables = xs }) (sym (append-nil s.variables))
      ∙ ap (λ (n : ℕ). record s { variables = s.variables ++ []; variable_count = n }) (let same : s.variable_count ≡ s.variable_count + 0 = omega arith in same)
      ∙ ap (λ (xs : List Text). record s { variables = s.variables ++ []; variable_count = s.variable_count + 0; declared = xs }) (sym (append-nil s.declared));
  fit = λ h. h;
  shorter = omega arith;
  few = λ h. h;
  new = λ h. refl;
}

pub one_name_more : (s : State) (xs : List Text) (u : State) (x : Text) (t : State) → DeclaresNames s xs u → DeclaresOne u x t → DeclaresNames s (xs ++ x ∷ []) t
one_name_more s xs u x t d one =
    let declared : u.declared ≡ s.declared ++ xs = ap (λ (w : State). w.declared) d.same in
    let free : is_new x (s.declared ++ xs) ≡ true = subst (λ (known : List Text). is_new x known ≡ true) declared one.free in
    let parts : (is_new x s.declared && is_new x xs) ≡ true = sym (each_append _ s.declared xs) ∙ free in
    let longer : length (xs ++ x ∷ []) ≡ length xs + 1 = length-append xs (x ∷ []) in
    let less : length t.rest < length u.rest = one_variable_less u x t one in
    let shorter : length u.rest ≤ length s.rest = d.shorter in
    let room : u.variable_count < 64 = one.room in
    let t_count : t.variable_count ≡ suc u.variable_count = ap (λ (w : State). w.variable_count) one.left in
    let count : suc (s.variable_count + length xs) ≡ s.variable_count + length (xs ++ x ∷ []) = omega arith in
    record {
      same = one.left
          ∙ ap (λ (w : State). with_variable x (record w { rest = after_first u.rest; tried = cleared u.tried })) d.same
          ∙ ap (λ (w : State). record s { rest = w.rest; variables = (s.variables ++ xs) ++ x ∷ []; variable_count = suc (s.variable_count + length xs); declared = (s.declared ++ xs) ++ x ∷ []; tried = w.tried }) (sym one.left)
          ∙ ap (λ (ys : List Text). record s { rest = t.rest; variables = ys; variable_count = suc (s.variable_count + length xs); declared = (s.declared ++ xs) ++ x ∷ []; tried = t.tried }) (append_assoc s.variables xs (x ∷ []))
          ∙ ap (λ (k : ℕ). record s { rest = t.rest; variables = s.variables ++ (xs ++ x ∷ []); variable_count = k; declared = (s.declared ++ xs) ++ x ∷ []; tried = t.tried }) count
          ∙ ap (λ (ys : List Text). record s { rest = t.rest; variables = s.variables ++ (xs ++ x ∷ []); variable_count = s.variable_count + length (xs ++ x ∷ []); declared = ys; tried = t.tried }) (append_assoc s.declared xs (x ∷ []));
      fit = λ h. subst (λ (w : State). AllFit w.rest) (sym one.left) ((moved u).fit (d.fit h));
      shorter = omega arith;
      few = λ h. omega arith;
      new = λ h. declarable_push xs x s.declared (d.new h) (kind_fit u.rest (kind.Name x) one.next (d.fit h)) (first_of_both _ _ parts) (second_of_both _ _ parts);
    }

pub names_then_moves : (s : State) (xs : List Text) (u t : State) → DeclaresNames s xs u → Moves u t → DeclaresNames s xs t
names_then_moves s xs u t d m =
    let shorter_u : length u.rest ≤ length s.rest = d.shorter in
    let shorter_t : length t.rest ≤ length u.rest = m.shorter in
    record {
      same = m.same ∙ ap (λ (w : State). record w { rest = t.rest; tried = t.tried }) d.same;
      fit = λ h. m.fit (d.fit h);
      shorter = omega arith;
      few = λ h. subst (λ (w : State). w.variable_count ≤ 64) (sym m.same) (d.few h);
      new = d.new;
    }

-- so many variables are declared
pub record DeclaresVariables (s : State) (count : ℕ) (s' : State) : Type 0 where
  pub names : List Text
  pub counted : length names ≡ count
  pub declares : DeclaresNames s names s'

pub no_variables : (s : State) → DeclaresVariables s 0 s
no_variables s = record { names = []; counted = refl; declares = no_names s }

pub one_variable_more : (s : State) (n : ℕ) (u : State) (x : Text) (t : State) → DeclaresVariables s n u → DeclaresOne u x t → DeclaresVariables s (n + 1) t
one_variable_more s n u x t d one = record {
  names = d.names ++ x ∷ [];
  counted = let longer : length (d.names ++ x ∷ []) ≡ length d.names + 1 = length-append d.names (x ∷ []) in omega (arith, d.counted);
  declares = one_name_more s d.names u x t d.declares one;
}

pub variables_turn : (s : State) (n : ℕ) (u : State) (m : ℕ) (t : State) → DeclaresVariables s n u → one_more_variable n u ≡ Ok (m, t) → DeclaresVariables s m t
variables_turn s n u m t d e =
    let a = then_ok (new_variable u) (λ _. give (n + 1)) (m, t) e in
    let one = new_variable_ok u a.0 a.1 in
    subst (λ (p : ℕ × State). DeclaresVariables s p.0 p.1) (ok_is (n + 1, a.0.1) (m, t) a.2) (one_variable_more s n u one.0 a.0.1 d one.1)
