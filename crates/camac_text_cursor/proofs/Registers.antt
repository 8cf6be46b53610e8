-- What a register that is set leaves, and the rules on names.
use Rattle.std.proofs.Common.{◌≡◌, ℕ, suc, ◌+◌, ◌≤◌, ◌<◌, Bool, true, false, not, ◌&&◌, nat_lt, nat_le, max, List, [], ◌∷◌, ◌++◌, length, Option, Some, None, Ok, refl, sym, ap, subst, ◌∙◌, length-append, arith}
use Rattle.std.specs.Prelude.{is_none}
use Rattle.std.specs.Str.{bytes_eq}
use Rattle.std.proofs.lemmas.Bool.{ltb-true}
use Rattle.camac_lang.specs.Scope.{are_declarable}
use Rattle.camac_lang.specs.Tests.{each, is_name, is_new, are_new}
use Rattle.camac_lang.specs.Tree.{Text}
use Rattle.camac_tokens.specs.declared.fault.Limit.TheVariants as limit
use Rattle.camac_tokens.specs.declared.fault.TextCase.TheVariants as text_case
use Rattle.camac_tokens.specs.declared.token.TokenKind.TheVariants as kind
use Rattle.camac_text_cursor.specs.Names.{name_place}
use Rattle.camac_text_cursor.specs.Reading.{State, ◌>>◌, give, change, advance, kind_of, past}
use Rattle.camac_text_cursor.specs.Readers.{new_name, other_registers, with_register, register_at, set_name}
use Rattle.camac_text_cursor.proofs.Steps.{then_ok, ok_is}
use Rattle.camac_text_cursor.proofs.Searches.{is_new_none}
use Rattle.camac_text_cursor.proofs.Moves.{AllFit, kind_fit, moved, check_ok, new_name_ok}
use Rattle.camac_text_cursor.proofs.Uses.{inside}

pub both : (a b : Bool) → a ≡ true → b ≡ true → (a && b) ≡ true
both true b e h = h
both false b e h = absurd cc

pub first_of_both : (a b : Bool) → (a && b) ≡ true → a ≡ true
first_of_both true b e = refl
first_of_both false b e = absurd cc

pub second_of_both : (a b : Bool) → (a && b) ≡ true → b ≡ true
second_of_both true b e = e
second_of_both false b e = absurd cc

pub below_le : (n m : ℕ) → n ≤ m → nat_le n m ≡ true
below_le n m h = grind arith

-- ---- registers

-- what a body's registers must keep to: the names that are declared, and the registers that count beside them
pub record Limits : Type 0 where
  pub declared : List Text
  pub others : ℕ

abbrev pub limits_of : State → Limits
limits_of s = record { declared = s.declared; others = other_registers s }

-- the names of a body's registers, of which there are no more than 64 with those that count beside them
pub record RegistersFit (limits : Limits) (registers : List Text) : Type 0 where
  pub names : are_declarable registers limits.declared ≡ true
  pub few : limits.others + length registers ≤ 64

pub each_push : {A : Type 0} (test : A → Bool) (xs : List A) (x : A) → each test xs ≡ true → test x ≡ true → each test (xs ++ x ∷ []) ≡ true
each_push test [] x e h = both (test x) true h refl
each_push test (y ∷ ys) x e h =
    both (test y) (each test (ys ++ x ∷ [])) (first_of_both (test y) (each test ys) e) (each_push test ys x (second_of_both (test y) (each test ys) e) h)

new_push : (xs : List Text) (x : Text) (known : List Text) → are_new xs known ≡ true → is_new x known ≡ true → is_new x xs ≡ true → are_new (xs ++ x ∷ []) known ≡ true
new_push [] x known e free new = both (is_new x known) true free refl
new_push (y ∷ ys) x known e free new =
    both (is_new y known) (are_new (ys ++ x ∷ []) (y ∷ known)) (first_of_both (is_new y known) (are_new ys (y ∷ known)) e)
    (new_push ys x (y ∷ known) (second_of_both (is_new y known) (are_new ys (y ∷ known)) e)
    (both (not (bytes_eq x y)) (is_new x known) (first_of_both (not (bytes_eq x y)) (is_new x ys) new) free)
    (second_of_both (not (bytes_eq x y)) (is_new x ys) new))

pub declarable_push : (xs : List Text) (x : Text) (known : List Text) → are_declarable xs known ≡ true → is_name x ≡ true → is_new x known ≡ true → is_new x xs ≡ true → are_declarable (xs ++ x ∷ []) known ≡ true
declarable_push xs x known e name free new =
    both (each is_name (xs ++ x ∷ [])) (are_new (xs ++ x ∷ []) known)
    (each_push is_name xs x (first_of_both (each is_name xs) (are_new xs known) e) name)
    (new_push xs x known (second_of_both (each is_name xs) (are_new xs known) e) free new)

-- a register is set: its number, and the registers afterwards
pub record SetsRegister (s : State) (r : ℕ) (s' : State) : Type 0 where
  pub same : s' ≡ record s { rest = s'.rest; registers = s'.registers; tried = s'.tried }
  pub fit : AllFit s.rest → AllFit s'.rest
  pub shorter : length s'.rest ≤ length s.rest
  pub within : r ≤ length s.registers
  pub more : length s'.registers ≡ max (length s.registers) (suc r)
  pub registers : AllFit s.rest → RegistersFit (limits_of s) s.registers → RegistersFit (limits_of s) s'.registers

register_is : (s : State) (x : Text) (place : Option ℕ) (y : ℕ × State) → kind_of s.rest ≡ Some (kind.Name x) → is_new x s.declared ≡ true → name_place x s.registers ≡ place → register_at x place s ≡ Ok y → SetsRegister s y.0 y.1
register_is s x (Some place) y next free at e =
    let below : place < length s.registers = inside (bytes_eq x) place s.registers at in
    subst (λ (p : ℕ × State). SetsRegister s p.0 p.1) (ok_is (place, past s) y e) (record {
      same = refl;
      fit = (moved s).fit;
      shorter = (moved s).shorter;
      within = omega arith;
      more = omega arith;
      registers = λ h fits. fits;
    })
register_is s x None y next free at e =
    let c = check_ok (nat_lt (other_registers s + length s.registers) 64) (text_case.Limit limit.Registers) (advance >> (change (with_register x) >> give (length s.registers))) s y e in
    let below : other_registers s + length s.registers < 64 = ltb-true (other_registers s + length s.registers) 64 c.0 in
    let one : length (s.registers ++ x ∷ []) ≡ length s.registers + 1 = length-append s.registers (x ∷ []) in
    let new : is_new x s.registers ≡ true = sym (is_new_none x s.registers) ∙ ap is_none at in
    subst (λ (p : ℕ × State). SetsRegister s p.0 p.1) (ok_is (length s.registers, record (past s) { registers = s.registers ++ x ∷ [] }) y c.1) (record {
      same = refl;
      fit = (moved s).fit;
      shorter = (moved s).shorter;
      within = omega arith;
      more = omega arith;
      registers = λ h fits. record {
        names = declarable_push s.registers x s.declared fits.names (kind_fit s.rest (kind.Name x) next h) free new;
        few = omega arith;
      };
    })

pub set_name_ok : (s : State) (y : ℕ × State) → set_name s ≡ Ok y → SetsRegister s y.0 y.1
unfolding set_name
set_name_ok s y e =
    let m = then_ok (new_name s) _ y e in
    let h = new_name_ok s m.0 m.1 in
    let at : register_at m.0.0 (name_place m.0.0 s.registers) s ≡ Ok y = subst (λ (u : State). register_at m.0.0 (name_place m.0.0 u.registers) u ≡ Ok y) h.left m.2 in
    register_is s m.0.0 (name_place m.0.0 s.registers) y h.next h.free refl at
