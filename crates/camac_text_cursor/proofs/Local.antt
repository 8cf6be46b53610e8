-- Readers of single tokens, of numbers and of names are local.
use Rattle.std.proofs.Common.{◌≡◌, ℕ, suc, ◌+◌, ◌<◌, zero, Bool, true, false, cond, not, nat_lt, nat_le, eqb, List, [], ◌∷◌, ◌++◌, length, Option, Some, None, Result, Ok, Err, refl, sym, ap, ◌∙◌, arith}
use Rattle.std.specs.Prelude.{slice_get}
use Rattle.camac_lang.specs.Expressions.{Callable}
use Rattle.camac_lang.specs.Tests.{is_new}
use Rattle.camac_lang.specs.Tree.{Text}
use Rattle.camac_tokens.specs.declared.fault.NameKind.{NameKind}
use Rattle.camac_tokens.specs.declared.fault.NameKind.TheVariants as named
use Rattle.camac_tokens.specs.declared.fault.Found.TheVariants as found
use Rattle.camac_tokens.specs.declared.fault.Limit.TheVariants as limit
use Rattle.camac_tokens.specs.declared.fault.TextCase.{TextCase}
use Rattle.camac_tokens.specs.declared.fault.TextCase.TheVariants as text_case
use Rattle.camac_tokens.specs.declared.token.Keyword.{Keyword}
use Rattle.camac_tokens.specs.declared.token.Sign.{Sign}
use Rattle.camac_tokens.specs.declared.token.Token.{Token}
use Rattle.camac_tokens.specs.declared.token.TokenKind.{TokenKind}
use Rattle.camac_tokens.specs.declared.token.TokenKind.TheVariants as kind
use Rattle.camac_text_cursor.specs.declared.choice.Choice.TheVariants as choice
use Rattle.camac_text_cursor.specs.Names.{name_place, lam_place, table_place, procedure_place}
use Rattle.camac_text_cursor.specs.Reading.{State, Reader, then_read, ◌>>=◌, ◌>>◌, give, ask, change, advance, fail, check, kind_of, miss, unexpected, while_next, one_more, Fault}
use Rattle.camac_text_cursor.specs.Readers.{begin, is_keyword, is_sign, is_name, is_number, expect, expect_sign, name_of, name_here, number_of, number_here, any_number, branch_number, function_number, sub_address_number, declared_as, new_name, with_variable, added, new_variable, new_parameter, other_registers, with_register, register_at, set_name, found_here, undeclared, used_at, used, used_register, used_variable, used_lam, used_table, known_at, known, variable_here, procedure_here, callable_by, called}
use Rattle.camac_text_cursor.proofs.Steps.{Progresses, while_choice}
use Rattle.camac_text_cursor.proofs.Places.{with_rest, missed_all, admits, IsLocal, Begins, IsHere, GoesOn, local_of, local_then, local_after, begins_then, begins_first, begins_peek, begins_same, local_same, begins_ask, admits_one, within_local, within_then, passes_begins}
use Rattle.camac_text_cursor.proofs.Primitives.{local_give, local_fail, begins_fail, begins_advance, local_change, begins_change, within_advance, within_while, begins_if, begins_check, here_admitted, local_choice, local_wanting, local_test}

-- ---- single tokens

pub begins_take : {A : Type 0} (x : A) (s : State) → IsHere s → Begins (advance >> give x) s
begins_take x s here = begins_then advance (λ _. give x) s (begins_advance s here) (λ _ u. local_give x u)

pub local_expect : (w : Keyword) (s : State) → IsLocal (expect w) s
unfolding expect
local_expect w s = local_test (choice.Word w) (is_keyword w) (λ at. refl) advance (fail text_case.Unexpected) s (λ u is. begins_advance u (here_admitted (choice.Word w ∷ []) u (admits_one (choice.Word w) (kind_of u.rest) ∙ is))) (λ u. local_fail text_case.Unexpected u tt)

pub begins_expect_sign : (w : Sign) (s : State) → is_sign w (kind_of s.rest) ≡ true → Begins (expect_sign w) s
unfolding expect_sign
begins_expect_sign w s is = begins_peek (λ k. cond (is_sign w k) advance (unexpected (choice.Mark w))) s (begins_if (is_sign w (kind_of s.rest)) advance (unexpected (choice.Mark w)) s (λ _. begins_advance s (here_admitted (choice.Mark w ∷ []) s (admits_one (choice.Mark w) (kind_of s.rest) ∙ is))) (λ free. absurd (let both = sym is ∙ free in cc)))

pub local_expect_sign : (w : Sign) (s : State) → IsLocal (expect_sign w) s
unfolding expect_sign
local_expect_sign w s = local_test (choice.Mark w) (is_sign w) (λ at. refl) advance (fail text_case.Unexpected) s (λ u is. begins_advance u (here_admitted (choice.Mark w ∷ []) u (admits_one (choice.Mark w) (kind_of u.rest) ∙ is))) (λ u. local_fail text_case.Unexpected u tt)

-- ---- a name or a number that stands next, and what is read from there on

pub name_in : (at : Option TokenKind) → is_name at ≡ true → (x : Text) × (at ≡ Some (kind.Name x))
name_in (Some (kind.Name x)) is = (x, refl)
name_in _ is = absurd cc

pub number_in : (at : Option TokenKind) → is_number at ≡ true → (n : ℕ) × (at ≡ Some (kind.Number n))
number_in (Some (kind.Number n)) is = (n, refl)
number_in _ is = absurd cc

pub begins_named : {B : Type 0} (g : Text → Reader B) (s : State) (x : Text) → kind_of s.rest ≡ Some (kind.Name x) → Begins (g x) s → Begins (name_here >>= g) s
unfolding name_here
begins_named {B} g s x at begins = begins_first (name_here >>= g) (g x) s (by s at) (λ ts n k l. by (with_rest n s ts) (k ∙ at)) begins where
  by : (u : State) → kind_of u.rest ≡ Some (kind.Name x) → (name_here >>= g) u ≡ g x u
  by u is = ap (λ (k : Option TokenKind). let r : Result (B × State) Fault = (name_of k >>= g) u in r) is

pub local_named : {B : Type 0} (g : Text → Reader B) (s : State) → ((x : Text) (u : State) → kind_of u.rest ≡ Some (kind.Name x) → Begins (g x) u) → IsLocal (name_here >>= g) s
unfolding name_here
local_named {B} g s next = local_wanting (choice.Name ∷ []) (name_here >>= g) s (λ u is. let n = name_in (kind_of u.rest) (sym (admits_one choice.Name (kind_of u.rest)) ∙ is) in begins_named g u n.0 n.1 (next n.0 u n.1)) (λ u free. by u (kind_of u.rest) (sym (admits_one choice.Name (kind_of u.rest)) ∙ free)) where
  by : (u : State) (k : Option TokenKind) → is_name k ≡ false → (name_of k >>= g) u ≡ (let f : Reader B = unexpected choice.Name in f u)
  by u (Some (kind.Name x)) free = absurd cc
  by u _ free = refl

pub begins_numbered : {B : Type 0} (g : ℕ → Reader B) (s : State) (n : ℕ) → kind_of s.rest ≡ Some (kind.Number n) → Begins (g n) s → Begins (number_here >>= g) s
unfolding number_here
begins_numbered {B} g s n at begins = begins_first (number_here >>= g) (g n) s (by s at) (λ ts m k l. by (with_rest m s ts) (k ∙ at)) begins where
  by : (u : State) → kind_of u.rest ≡ Some (kind.Number n) → (number_here >>= g) u ≡ g n u
  by u is = ap (λ (k : Option TokenKind). let r : Result (B × State) Fault = (number_of k >>= g) u in r) is

pub local_numbered : {B : Type 0} (g : ℕ → Reader B) (s : State) → ((n : ℕ) (u : State) → kind_of u.rest ≡ Some (kind.Number n) → Begins (g n) u) → IsLocal (number_here >>= g) s
unfolding number_here
local_numbered {B} g s next = local_wanting (choice.Number ∷ []) (number_here >>= g) s (λ u is. let n = number_in (kind_of u.rest) (sym (admits_one choice.Number (kind_of u.rest)) ∙ is) in begins_numbered g u n.0 n.1 (next n.0 u n.1)) (λ u free. by u (kind_of u.rest) (sym (admits_one choice.Number (kind_of u.rest)) ∙ free)) where
  by : (u : State) (k : Option TokenKind) → is_number k ≡ false → (number_of k >>= g) u ≡ (let f : Reader B = unexpected choice.Number in f u)
  by u (Some (kind.Number n)) free = absurd cc
  by u _ free = refl

-- ---- numbers

pub begins_any_number : (s : State) (n : ℕ) → kind_of s.rest ≡ Some (kind.Number n) → Begins any_number s
unfolding any_number
begins_any_number s n at = begins_numbered (λ n. advance >> give n) s n at (begins_take n s (kind.Number n, at))

pub local_any_number : (s : State) → IsLocal any_number s
unfolding any_number
local_any_number s = local_numbered (λ n. advance >> give n) s (λ n u at. begins_take n u (kind.Number n, at))

pub local_branch : (s : State) → IsLocal branch_number s
unfolding branch_number
local_branch s = local_numbered (λ n. check (eqb n 1) text_case.Branch >> advance) s (λ n u at. begins_check (eqb n 1) text_case.Branch advance u refl (n, at) (λ _. begins_advance u (kind.Number n, at)))

pub local_function : (s : State) → IsLocal function_number s
unfolding function_number
local_function s = local_numbered (λ n. check (nat_lt n 32) (text_case.Number 31) >> (advance >> give n)) s (λ n u at. begins_check (nat_lt n 32) (text_case.Number 31) (advance >> give n) u refl (n, at) (λ _. begins_take n u (kind.Number n, at)))

pub local_sub_address : (s : State) → IsLocal sub_address_number s
unfolding sub_address_number
local_sub_address s = local_numbered (λ n. check (nat_lt n 16) (text_case.Number 15) >> (advance >> give n)) s (λ n u at. begins_check (nat_lt n 16) (text_case.Number 15) (advance >> give n) u refl (n, at) (λ _. begins_take n u (kind.Number n, at)))

-- ---- names

-- a new name, and what is read from it on
abbrev from_new : {B : Type 0} → (Text → Reader B) → Text → Reader B
from_new g x = ask (λ u. u.declared) >>= λ known. ask (declared_as x) >>= λ by. check (is_new x known) (text_case.Taken by) >> g x

new_then : {B : Type 0} (g : Text → Reader B) (u : State) → (new_name >>= g) u ≡ (name_here >>= from_new g) u
unfolding new_name
new_then {B} g u = by (name_here u) where
  checked : (b : Bool) (case : TextCase) (x : Text) (v : State) → ((check b case >> give x) >>= g) v ≡ (check b case >> g x) v
  checked true case x v = refl
  checked false case x v = refl

  by : (r : Result (Text × State) Fault) → then_read (then_read r (λ x. ask (λ u. u.declared) >>= λ known. ask (declared_as x) >>= λ by. check (is_new x known) (text_case.Taken by) >> give x)) g ≡ then_read r (from_new g)
  by (Ok y) = checked (is_new y.0 y.1.declared) (text_case.Taken (declared_as y.0 y.1)) y.0 y.1
  by (Err e) = refl

begins_from_new : {B : Type 0} (g : Text → Reader B) (u : State) (x : Text) → kind_of u.rest ≡ Some (kind.Name x) → Begins (g x) u → Begins (from_new g x) u
begins_from_new g u x at begins =
    begins_ask (λ w. w.declared) (λ w ts n. refl) (λ known. ask (declared_as x) >>= λ by. check (is_new x known) (text_case.Taken by) >> g x) u
    (begins_ask (declared_as x) (λ w ts n. refl) (λ by. check (is_new x u.declared) (text_case.Taken by) >> g x) u
    (begins_check (is_new x u.declared) (text_case.Taken (declared_as x u)) (g x) u refl (x, at) (λ _. begins)))

pub begins_new_name : {B : Type 0} (g : Text → Reader B) (s : State) (x : Text) → kind_of s.rest ≡ Some (kind.Name x) → Begins (g x) s → Begins (new_name >>= g) s
begins_new_name g s x at begins = begins_same (new_name >>= g) (name_here >>= from_new g) s (new_then g) (begins_named (from_new g) s x at (begins_from_new g s x at begins))

pub local_new_name : {B : Type 0} (g : Text → Reader B) (s : State) → ((x : Text) (u : State) → kind_of u.rest ≡ Some (kind.Name x) → Begins (g x) u) → IsLocal (new_name >>= g) s
local_new_name g s next = local_same (new_name >>= g) (name_here >>= from_new g) s (new_then g) (local_named (from_new g) s (λ x u at. begins_from_new g u x at (next x u at)))

begins_added : (x : Text) (s : State) → IsHere s → Begins (added x) s
unfolding added
begins_added x s here =
    begins_ask (λ w. w.variable_count) (λ w ts n. refl) (λ n. check (nat_lt n 64) (text_case.Limit limit.Variables) >> (advance >> change (with_variable x))) s
    (begins_check (nat_lt s.variable_count 64) (text_case.Limit limit.Variables) (advance >> change (with_variable x)) s refl tt (λ _.
    begins_then advance (λ _. change (with_variable x)) s (begins_advance s here) (λ _ v. local_change (with_variable x) (λ w ts n. refl) (λ w. refl) v)))

pub begins_new_variable : (s : State) (x : Text) → kind_of s.rest ≡ Some (kind.Name x) → Begins new_variable s
unfolding new_variable
begins_new_variable s x at = begins_new_name added s x at (begins_added x s (kind.Name x, at))

pub local_new_variable : (s : State) → IsLocal new_variable s
unfolding new_variable
local_new_variable s = local_new_name added s (λ x u at. begins_added x u (kind.Name x, at))

pub local_new_parameter : (s : State) → IsLocal new_parameter s
unfolding new_parameter
local_new_parameter s =
    local_new_name (λ x. ask (λ u. u.variables) >>= λ known. check (nat_lt (length known) 8) (text_case.Limit limit.Parameters) >> (added x >> give x)) s (λ x u at.
    begins_ask (λ w. w.variables) (λ w ts n. refl) (λ known. check (nat_lt (length known) 8) (text_case.Limit limit.Parameters) >> (added x >> give x)) u
    (begins_check (nat_lt (length u.variables) 8) (text_case.Limit limit.Parameters) (added x >> give x) u refl tt (λ _.
    begins_then (added x) (λ _. give x) u (begins_added x u (kind.Name x, at)) (λ _ v. local_give x v))))

begins_register_at : (x : Text) (place : Option ℕ) (s : State) → IsHere s → Begins (register_at x place) s
begins_register_at x (Some place) s here = begins_take place s here
begins_register_at x None s here =
    begins_ask other_registers (λ w ts n. refl) (λ others. ask (λ u. u.registers) >>= λ known. check (nat_lt (others + length known) 64) (text_case.Limit limit.Registers) >> (advance >> (change (with_register x) >> give (length known)))) s
    (begins_ask (λ u. u.registers) (λ w ts n. refl) (λ known. check (nat_lt (other_registers s + length known) 64) (text_case.Limit limit.Registers) >> (advance >> (change (with_register x) >> give (length known)))) s
    (begins_check (nat_lt (other_registers s + length s.registers) 64) (text_case.Limit limit.Registers) (advance >> (change (with_register x) >> give (length s.registers))) s refl tt (λ _.
    begins_then advance (λ _. change (with_register x) >> give (length s.registers)) s (begins_advance s here) (λ _ u.
    local_then (change (with_register x)) (λ _. give (length s.registers)) u (local_change (with_register x) (λ w ts n. refl) (λ w. refl) u) (λ _ v. local_give (length s.registers) v)))))

pub local_set_name : (s : State) → IsLocal set_name s
unfolding set_name
local_set_name s =
    local_new_name (λ x. ask (λ u. u.registers) >>= λ known. register_at x (name_place x known)) s (λ x u at.
    begins_ask (λ w. w.registers) (λ w ts n. refl) (λ known. register_at x (name_place x known)) u (begins_register_at x (name_place x u.registers) u (kind.Name x, at)))

begins_undeclared : {A : Type 0} (wanted : NameKind) (x : Text) (s : State) → kind_of s.rest ≡ Some (kind.Name x) → Begins (let f : Reader A = undeclared wanted x in f) s
begins_undeclared wanted x s at = begins_ask (found_here wanted x) (λ w ts n. refl) (λ f. fail (text_case.Undeclared wanted f)) s (begins_fail (text_case.Undeclared wanted (found_here wanted x s)) s refl (x, at))

-- how a kind of names is sought: by what is declared
abbrev Seeks : (Text → State → Option ℕ) → Type 0
Seeks find = (x : Text) (w : State) (ts : List Token) (n : ℕ) → find x (with_rest n w ts) ≡ find x w

begins_used_at : (wanted : NameKind) (x : Text) (place : Option ℕ) (s : State) → kind_of s.rest ≡ Some (kind.Name x) → Begins (used_at wanted x place) s
begins_used_at wanted x (Some place) s at = begins_take place s (kind.Name x, at)
begins_used_at wanted x None s at = begins_undeclared wanted x s at

begins_used : (wanted : NameKind) (find : Text → State → Option ℕ) → Seeks find → (s : State) (x : Text) → kind_of s.rest ≡ Some (kind.Name x) → Begins (used wanted find) s
unfolding used
begins_used wanted find same s x at = begins_named (λ x. ask (find x) >>= used_at wanted x) s x at (begins_ask (find x) (same x) (used_at wanted x) s (begins_used_at wanted x (find x s) s at))

pub local_used : (wanted : NameKind) (find : Text → State → Option ℕ) → Seeks find → (s : State) → IsLocal (used wanted find) s
unfolding used
local_used wanted find same s =
    local_named (λ x. ask (find x) >>= used_at wanted x) s (λ x u at.
    begins_ask (find x) (same x) (used_at wanted x) u (begins_used_at wanted x (find x u) u at))

pub local_used_register : (s : State) → IsLocal used_register s
local_used_register s = local_used named.Register (λ x u. name_place x u.registers) (λ x w ts n. refl) s

pub local_used_variable : (s : State) → IsLocal used_variable s
local_used_variable s = local_used named.Variable (λ x u. name_place x u.variables) (λ x w ts n. refl) s

pub begins_used_variable : (s : State) (x : Text) → kind_of s.rest ≡ Some (kind.Name x) → Begins used_variable s
begins_used_variable s x at = begins_used named.Variable (λ x u. name_place x u.variables) (λ x w ts n. refl) s x at

pub local_used_lam : (s : State) → IsLocal used_lam s
local_used_lam s = local_used named.Lam (λ x u. lam_place x u.lams) (λ x w ts n. refl) s

pub local_used_table : (s : State) → IsLocal used_table s
local_used_table s = local_used named.Table (λ x u. table_place x u.tables) (λ x w ts n. refl) s

-- a name that is known and stays where it is, and what is read from it on
abbrev from_known : {B : Type 0} → NameKind → (Text → State → Option ℕ) → (ℕ → Reader B) → Text → Reader B
from_known wanted find g x = ask (find x) >>= λ place. known_at wanted x place >>= g

known_then : {B : Type 0} (wanted : NameKind) (find : Text → State → Option ℕ) (g : ℕ → Reader B) (u : State) → (known wanted find >>= g) u ≡ (name_here >>= from_known wanted find g) u
unfolding known
known_then {B} wanted find g u = by (name_here u) where
  by : (r : Result (Text × State) Fault) → then_read (then_read r (λ x. ask (find x) >>= known_at wanted x)) g ≡ then_read r (from_known wanted find g)
  by (Ok y) = refl
  by (Err e) = refl

begins_known_at : {B : Type 0} (wanted : NameKind) (g : ℕ → Reader B) (x : Text) (place : Option ℕ) (u : State) → kind_of u.rest ≡ Some (kind.Name x) → ((p : ℕ) → Begins (g p) u) → Begins (known_at wanted x place >>= g) u
begins_known_at wanted g x (Some place) u at next = next place
begins_known_at {B} wanted g x None u at next = begins_undeclared {A = B} wanted x u at

begins_known : {B : Type 0} (wanted : NameKind) (find : Text → State → Option ℕ) → Seeks find → (g : ℕ → Reader B) (s : State) (x : Text) → kind_of s.rest ≡ Some (kind.Name x) → ((p : ℕ) → Begins (g p) s) → Begins (known wanted find >>= g) s
begins_known wanted find same g s x at next =
    begins_same (known wanted find >>= g) (name_here >>= from_known wanted find g) s (known_then wanted find g)
    (begins_named (from_known wanted find g) s x at (begins_ask (find x) (same x) (λ place. known_at wanted x place >>= g) s (begins_known_at wanted g x (find x s) s at next)))

local_known : {B : Type 0} (wanted : NameKind) (find : Text → State → Option ℕ) → Seeks find → (g : ℕ → Reader B) (s : State) → ((p : ℕ) (x : Text) (u : State) → kind_of u.rest ≡ Some (kind.Name x) → Begins (g p) u) → IsLocal (known wanted find >>= g) s
local_known wanted find same g s next =
    local_same (known wanted find >>= g) (name_here >>= from_known wanted find g) s (known_then wanted find g)
    (local_named (from_known wanted find g) s (λ x u at. begins_ask (find x) (same x) (λ place. known_at wanted x place >>= g) u (begins_known_at wanted g x (find x u) u at (λ p. next p x u at))))

pub begins_variable_here : {B : Type 0} (g : ℕ → Reader B) (s : State) (x : Text) → kind_of s.rest ≡ Some (kind.Name x) → ((p : ℕ) → Begins (g p) s) → Begins (variable_here >>= g) s
begins_variable_here g s x at next = begins_known named.Variable (λ x u. name_place x u.variables) (λ x w ts n. refl) g s x at next

pub local_variable_here : {B : Type 0} (g : ℕ → Reader B) (s : State) → ((p : ℕ) (x : Text) (u : State) → kind_of u.rest ≡ Some (kind.Name x) → Begins (g p) u) → IsLocal (variable_here >>= g) s
local_variable_here g s next = local_known named.Variable (λ x u. name_place x u.variables) (λ x w ts n. refl) g s next

pub local_procedure_here : {B : Type 0} (g : ℕ → Reader B) (s : State) → ((p : ℕ) (x : Text) (u : State) → kind_of u.rest ≡ Some (kind.Name x) → Begins (g p) u) → IsLocal (procedure_here >>= g) s
local_procedure_here g s next = local_known named.Procedure (λ x u. procedure_place x u.procedures) (λ x w ts n. refl) g s next

-- where a name stands next
begins_callable_by : (room : ℕ) (x : Text) (found : Option Callable) (s : State) → kind_of s.rest ≡ Some (kind.Name x) → Begins (callable_by room found) s
begins_callable_by room x None s at = begins_fail (text_case.Undeclared named.Procedure found.Nothing) s refl (x, at)
begins_callable_by room x (Some q) s at = begins_check (nat_le q.depth room) (text_case.Limit limit.CallDepth) (advance >> give q.parameters) s refl tt (λ _. begins_take q.parameters s (kind.Name x, at))

pub begins_called : (room place : ℕ) (x : Text) (s : State) → kind_of s.rest ≡ Some (kind.Name x) → Begins (called room place) s
unfolding called
begins_called room place x s at =
    begins_ask (λ w. w.callables) (λ w ts n. refl) (λ known. callable_by room (slice_get known place)) s (begins_callable_by room x (slice_get s.callables place) s at)

-- ---- statements

pub begins_begin : (s : State) → IsHere s → Begins begin s
unfolding begin
begins_begin s here =
    begins_ask (λ u. u.statements) (λ w ts n. refl) (λ n. check (nat_lt n 4096) (text_case.Limit limit.Statements) >> (change (λ u. record u { statements = suc u.statements }) >> advance)) s
    (begins_check (nat_lt s.statements 4096) (text_case.Limit limit.Statements) (change (λ u. record u { statements = suc u.statements }) >> advance) s refl tt (λ _.
    begins_change (λ u. record u { statements = suc u.statements }) (λ w ts n. refl) (λ w. refl) advance within_advance s (begins_advance (record s { statements = suc s.statements }) here)))

-- ---- lists that a sign closes

-- Each turn looks for the sign first, at which the loop ends.
module _ {A : Type 0} (w : Sign) (read : Reader A) (progress : Progresses (λ k. not (is_sign w k)) (one_more (miss (choice.Mark w) >> read))) (each : (s : State) → IsLocal read s) where
  abbrev is_no_end : Option TokenKind → Bool
  is_no_end k = not (is_sign w k)

  abbrev turn : List A → Reader (List A)
  turn = one_more (miss (choice.Mark w) >> read)

  abbrev close : List A → Reader (List A)
  close xs = expect_sign w >> give xs

  abbrev closed : List A → Reader (List A)
  closed xs = while_next is_no_end turn xs >>= close

  -- a turn behind the sign that was looked for, and the list again
  abbrev turned : List A → Reader (List A)
  turned xs = read >>= λ x. give (xs ++ x ∷ [])

  local_turned : (xs : List A) (s : State) → IsLocal (turned xs) s
  local_turned xs s = local_then read (λ x. give (xs ++ x ∷ [])) s (each s) (λ x u. local_give (xs ++ x ∷ []) u)

  local_close : (xs : List A) (s : State) → IsLocal (close xs) s
  local_close xs s = local_then (expect_sign w) (λ _. give xs) s (local_expect_sign w s) (λ _ u. local_give xs u)

  closed_goes_on : GoesOn closed
  closed_goes_on xs s = within_then s.rest (while_next is_no_end turn xs s) close (λ ys u. within_local (close ys) u (local_close ys u)) (within_while is_no_end turn progress (λ ys u _. within_local (turned ys) (missed_all (choice.Mark w ∷ []) u) (local_turned ys (missed_all (choice.Mark w ∷ []) u))) xs s)

  closed_choice : (b : Bool) (xs : List A) (u : State) → then_read (let f : Reader (List A) = cond (not b) (turn xs >>= while_next is_no_end turn) (give xs) in f u) close ≡ (let f : Reader (List A) = cond b (close xs) (turn xs >>= closed) in f u)
  closed_choice true xs u = refl
  closed_choice false xs u = by (turn xs u) where
    by : (r : Result (List A × State) Fault) → then_read (then_read r (while_next is_no_end turn)) close ≡ then_read r closed
    by (Ok y) = refl
    by (Err e) = refl

  closed_by : (xs : List A) (u : State) (b : Bool) → is_sign w (kind_of u.rest) ≡ b → closed xs u ≡ (let f : Reader (List A) = cond b (close xs) (turn xs >>= closed) in f u)
  closed_by xs u b is =
      ap (λ (r : Result (List A × State) Fault). then_read r close) (sym (while_choice is_no_end turn progress xs u))
      ∙ closed_choice (is_sign w (kind_of u.rest)) xs u
      ∙ ap (λ (v : Bool). let f : Reader (List A) = cond v (close xs) (turn xs >>= closed) in f u) is

  by_sign : (at : Option TokenKind) (b : Bool) → admits (choice.Mark w ∷ []) at ≡ b → is_sign w at ≡ b
  by_sign at b is = sym (admits_one (choice.Mark w) at) ∙ is

  begins_closed : (xs : List A) (s : State) → is_sign w (kind_of s.rest) ≡ true → Begins (closed xs) s
  begins_closed xs s on =
      begins_first (closed xs) (close xs) s (closed_by xs s true on) (λ ts m k l. closed_by xs (with_rest m s ts) true (ap (is_sign w) k ∙ on))
      (begins_then (expect_sign w) (λ _. give xs) s (begins_expect_sign w s on) (λ _ u. local_give xs u))

  one_closing : (xs : List A) (s : State) → ((ys : List A) (s' : State) → is_sign w (kind_of s.rest) ≡ false → turned xs (missed_all (choice.Mark w ∷ []) s) ≡ Ok (ys, s') → IsLocal (closed ys) s') → (b : Bool) → is_sign w (kind_of s.rest) ≡ b → IsLocal (closed xs) s
  one_closing xs s next true is = local_of (closed xs) s (begins_closed xs s is)
  one_closing xs s next false is =
      local_choice (choice.Mark w ∷ []) (closed xs) (turned xs >>= closed) s false (admits_one (choice.Mark w) (kind_of s.rest) ∙ is)
      (λ on. absurd cc)
      (λ t r m fit. passes_begins (closed xs) (with_rest m s (t ∷ r)) t r refl (begins_closed xs (with_rest m s (t ∷ r)) (by_sign (Some t.kind) true fit)))
      (λ u free. closed_by xs u false (by_sign (kind_of u.rest) false free))
      (local_after (turned xs) closed (missed_all (choice.Mark w ∷ []) s) closed_goes_on (local_turned xs (missed_all (choice.Mark w ∷ []) s)) (λ ys s' took. next ys s' is took))

  local_closing : (n : ℕ) (xs : List A) (s : State) → length s.rest < n → IsLocal (closed xs) s
  local_closing zero xs s few = absurd (omega arith)
  local_closing (suc n) xs s few = one_closing xs s (λ ys s' is took. let less : length s'.rest < length s.rest = progress xs s ys s' (ap not is) took in local_closing n ys s' (omega arith)) (is_sign w (kind_of s.rest)) refl

  pub local_closed : (xs : List A) (s : State) → IsLocal (closed xs) s
  local_closed xs s = local_closing (suc (length s.rest)) xs s (omega arith)
