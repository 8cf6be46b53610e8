-- What readers of single tokens leave.
use Rattle.std.proofs.Common.{◌≡◌, ℕ, ◌≤◌, ◌<◌, Bool, true, false, cond, eqb, nat_lt, List, [], ◌∷◌, length, Option, Some, Ok, refl, sym, ap, subst, ◌∙◌, arith}
use Rattle.camac_lang.specs.Tests.{is_name, is_number, is_new}
use Rattle.camac_lang.specs.Tree.{Text}
use Rattle.camac_tokens.specs.declared.fault.TextCase.{TextCase}
use Rattle.camac_tokens.specs.declared.fault.TextCase.TheVariants as text_case
use Rattle.camac_tokens.specs.declared.token.Keyword.{Keyword}
use Rattle.camac_tokens.specs.declared.token.Sign.{Sign}
use Rattle.camac_tokens.specs.declared.token.Token.{Token}
use Rattle.camac_tokens.specs.declared.token.TokenKind.{TokenKind}
use Rattle.camac_tokens.specs.declared.token.TokenKind.TheVariants as kind
use Rattle.camac_text_cursor.specs.declared.choice.Choice.{Choice}
use Rattle.camac_text_cursor.specs.declared.choice.Choice.TheVariants as choice
use Rattle.camac_text_cursor.specs.Reading.{State, Reader, ◌>>◌, give, advance, check, kind_of, after_first, past, unexpected, missed}
use Rattle.camac_text_cursor.specs.Readers.{is_keyword, is_sign, expect, expect_sign, name_of, name_here, number_of, number_here, any_number, branch_number, function_number, sub_address_number, declared_as, new_name}
use Rattle.camac_text_cursor.proofs.Steps.{then_ok, ok_is, err_no_ok}

-- a token's name has 1 to 32 bytes, and its number is one of the language
abbrev pub kind_fits : TokenKind → Bool
kind_fits (kind.Name x) = is_name x
kind_fits (kind.Number n) = is_number n
kind_fits (kind.Keyword w) = true
kind_fits (kind.Sign w) = true

abbrev pub AllFit : List Token → Type 0
AllFit [] = Unit {0}
AllFit (t ∷ ts) = (kind_fits t.kind ≡ true) × AllFit ts

-- only the tokens move on, and what was looked for
pub record Moves (s s' : State) : Type 0 where
  pub same : s' ≡ record s { rest = s'.rest; tried = s'.tried }
  pub fit : AllFit s.rest → AllFit s'.rest
  pub shorter : length s'.rest ≤ length s.rest

-- one token is taken, of this kind
pub record TakesOne (s : State) (k : TokenKind) (s' : State) : Type 0 where
  pub next : kind_of s.rest ≡ Some k
  pub left : s' ≡ past s

after_fit : (ts : List Token) → AllFit ts → AllFit (after_first ts)
after_fit [] h = tt
after_fit (t ∷ ts) h = h.1

after_shorter : (ts : List Token) → length (after_first ts) ≤ length ts
after_shorter [] = omega arith
after_shorter (t ∷ ts) = omega arith

pub after_less : (ts : List Token) (k : TokenKind) → kind_of ts ≡ Some k → length (after_first ts) < length ts
after_less [] k e = absurd cc
after_less (t ∷ ts) k e = omega arith

pub kind_fit : (ts : List Token) (k : TokenKind) → kind_of ts ≡ Some k → AllFit ts → kind_fits k ≡ true
kind_fit [] k e h = absurd cc
kind_fit (t ∷ ts) k e h = let same : t.kind ≡ k = cc in subst (λ (j : TokenKind). kind_fits j ≡ true) same h.0

pub stays : (s : State) → Moves s s
stays s = record { same = refl; fit = λ h. h; shorter = omega arith }

pub moved : (s : State) → Moves s (past s)
moved s = record { same = refl; fit = after_fit s.rest; shorter = after_shorter s.rest }

-- and what was looked for
pub unmoved : (c : Choice) (s : State) → Moves s (missed c s)
unmoved c s = record { same = refl; fit = λ h. h; shorter = omega arith }

pub then_moves : (s t u : State) → Moves s t → Moves t u → Moves s u
then_moves s t u a b = record {
  same = b.same ∙ ap (λ (w : State). record w { rest = u.rest; tried = u.tried }) a.same;
  fit = λ h. b.fit (a.fit h);
  shorter = let x : length t.rest ≤ length s.rest = a.shorter in let y : length u.rest ≤ length t.rest = b.shorter in omega arith;
}

pub one_moves : (s : State) (k : TokenKind) (s' : State) → TakesOne s k s' → Moves s s'
one_moves s k s' t = subst (λ (u : State). Moves s u) (sym t.left) (moved s)

pub one_less : (s : State) (k : TokenKind) (s' : State) → TakesOne s k s' → length s'.rest < length s.rest
one_less s k s' t = subst (λ (u : State). length u.rest < length s.rest) (sym t.left) (after_less s.rest k t.next)

-- a case that was tested holds
pub check_ok : {B : Type 0} (b : Bool) (case : TextCase) (g : Reader B) (s : State) (y : B × State) → (check b case >> g) s ≡ Ok y → (b ≡ true) × (g s ≡ Ok y)
check_ok true case g s y e = (refl, e)
check_ok {B} false case g s y e = absurd (err_no_ok {A = B} _ _ e)

-- ---- single tokens

number_is : (k : Option TokenKind) (s : State) (y : ℕ × State) → number_of k s ≡ Ok y → (k ≡ Some (kind.Number y.0)) × (y.1 ≡ s)
number_is (Some (kind.Number n)) s y e = subst (λ (p : ℕ × State). (Some (kind.Number n) ≡ Some (kind.Number p.0)) × (p.1 ≡ s)) (ok_is (n, s) y e) (refl, refl)
number_is _ s y e = absurd (err_no_ok _ _ e)

pub number_ok : (s : State) (y : ℕ × State) → number_here s ≡ Ok y → (kind_of s.rest ≡ Some (kind.Number y.0)) × (y.1 ≡ s)
unfolding number_here
number_ok s y e = number_is (kind_of s.rest) s y e

pub any_number_ok : (s : State) (y : ℕ × State) → any_number s ≡ Ok y → TakesOne s (kind.Number y.0) y.1
unfolding any_number
any_number_ok s y e =
    let m = then_ok (number_here s) _ y e in
    let h = number_ok s m.0 m.1 in
    subst (λ (p : ℕ × State). TakesOne s (kind.Number p.0) p.1) (ok_is _ y m.2) (record { next = h.0; left = ap past h.1 })

pub branch_ok : (s : State) (y : Unit {0} × State) → branch_number s ≡ Ok y → (n : ℕ) × TakesOne s (kind.Number n) y.1
unfolding branch_number
branch_ok s y e =
    let m = then_ok (number_here s) _ y e in
    let h = number_ok s m.0 m.1 in
    let c = check_ok (eqb m.0.0 1) text_case.Branch advance m.0.1 y m.2 in
    (m.0.0, subst (λ (p : Unit {0} × State). TakesOne s (kind.Number m.0.0) p.1) (ok_is _ y c.1) (record { next = h.0; left = ap past h.1 }))

pub record TakesBelow (limit : ℕ) (s : State) (n : ℕ) (s' : State) : Type 0 where
  pub one : TakesOne s (kind.Number n) s'
  pub below : nat_lt n limit ≡ true

pub function_ok : (s : State) (y : ℕ × State) → function_number s ≡ Ok y → TakesBelow 32 s y.0 y.1
unfolding function_number
function_ok s y e =
    let m = then_ok (number_here s) _ y e in
    let h = number_ok s m.0 m.1 in
    let c = check_ok (nat_lt m.0.0 32) (text_case.Number 31) (advance >> give m.0.0) m.0.1 y m.2 in
    subst (λ (p : ℕ × State). TakesBelow 32 s p.0 p.1) (ok_is _ y c.1) (record { one = record { next = h.0; left = ap past h.1 }; below = c.0 })

pub sub_address_ok : (s : State) (y : ℕ × State) → sub_address_number s ≡ Ok y → TakesBelow 16 s y.0 y.1
unfolding sub_address_number
sub_address_ok s y e =
    let m = then_ok (number_here s) _ y e in
    let h = number_ok s m.0 m.1 in
    let c = check_ok (nat_lt m.0.0 16) (text_case.Number 15) (advance >> give m.0.0) m.0.1 y m.2 in
    subst (λ (p : ℕ × State). TakesBelow 16 s p.0 p.1) (ok_is _ y c.1) (record { one = record { next = h.0; left = ap past h.1 }; below = c.0 })

expected : (c : Choice) (b : Bool) (s : State) (y : Unit {0} × State) → cond b advance (unexpected c) s ≡ Ok y → y.1 ≡ past s
expected c true s y e = sym (ap (λ (p : Unit {0} × State). p.1) (ok_is _ y e))
expected c false s y e = absurd (err_no_ok _ _ e)

pub expect_ok : (w : Keyword) (s : State) (y : Unit {0} × State) → expect w s ≡ Ok y → Moves s y.1
unfolding expect
expect_ok w s y e = subst (λ (u : State). Moves s u) (sym (expected (choice.Word w) (is_keyword w (kind_of s.rest)) s y e)) (moved s)

pub expect_sign_ok : (w : Sign) (s : State) (y : Unit {0} × State) → expect_sign w s ≡ Ok y → Moves s y.1
unfolding expect_sign
expect_sign_ok w s y e = subst (λ (u : State). Moves s u) (sym (expected (choice.Mark w) (is_sign w (kind_of s.rest)) s y e)) (moved s)

-- ---- names

name_is : (k : Option TokenKind) (s : State) (y : Text × State) → name_of k s ≡ Ok y → (k ≡ Some (kind.Name y.0)) × (y.1 ≡ s)
name_is (Some (kind.Name n)) s y e = subst (λ (p : Text × State). (Some (kind.Name n) ≡ Some (kind.Name p.0)) × (p.1 ≡ s)) (ok_is (n, s) y e) (refl, refl)
name_is _ s y e = absurd (err_no_ok _ _ e)

pub name_ok : (s : State) (y : Text × State) → name_here s ≡ Ok y → (kind_of s.rest ≡ Some (kind.Name y.0)) × (y.1 ≡ s)
unfolding name_here
name_ok s y e = name_is (kind_of s.rest) s y e

-- a name stands next, which is new
pub record NewName (s : State) (x : Text) (s' : State) : Type 0 where
  pub next : kind_of s.rest ≡ Some (kind.Name x)
  pub free : is_new x s.declared ≡ true
  pub left : s' ≡ s

pub new_name_ok : (s : State) (y : Text × State) → new_name s ≡ Ok y → NewName s y.0 y.1
unfolding new_name
new_name_ok s y e =
    let m = then_ok (name_here s) _ y e in
    let h = name_ok s m.0 m.1 in
    let c = check_ok (is_new m.0.0 m.0.1.declared) (text_case.Taken (declared_as m.0.0 m.0.1)) (give m.0.0) m.0.1 y m.2 in
    subst (λ (p : Text × State). NewName s p.0 p.1) (ok_is _ y c.1) (record { next = h.0; free = ap (λ (w : State). is_new m.0.0 w.declared) (sym h.1) ∙ c.0; left = h.1 })
