-- Tokens and expressions that are spelled are read.
use Rattle.std.proofs.Common.{◌≡◌, ℕ, ◌<◌, Bool, true, false, cond, nat_lt, List, length, Option, Some, Result, Ok, refl, ap, ◌∙◌, zero, suc, ◌+◌, ◌≤◌, max, ◌&&◌, nat_le, [], ◌∷◌, ◌++◌, arith}
use Rattle.std.proofs.lemmas.Bool.{ltb-true, lt-ltb, leb-true}
use denote.Enum.Bare.{true_same}
use Rattle.camac_lang.specs.Expressions.{Callable, operators, refers, is_term, is_factor, is_grouped, expression_fits}
use Rattle.camac_lang.specs.Tests.{is_new, is_number}
use Rattle.camac_lang.specs.Tree.{Text, Table, Lam, Procedure, Expression, number, variable, group, add, subtract, multiply, divide, remainder}
use Rattle.camac_lang.specs.Depth.{expression_depth}
use Rattle.camac_tokens.specs.contracts.token.Keyword as keyword_type
use Rattle.camac_tokens.specs.contracts.token.Sign as sign_type
use Rattle.camac_tokens.specs.declared.token.Keyword.{Keyword}
use Rattle.camac_tokens.specs.declared.token.Sign.{Sign}
use Rattle.camac_tokens.specs.declared.token.Token.{Token}
use Rattle.camac_tokens.specs.declared.token.TokenKind.{TokenKind}
use Rattle.camac_tokens.specs.declared.token.TokenKind.TheVariants as kind
use Rattle.camac_tokens.specs.declared.fault.NameKind.{NameKind}
use Rattle.camac_tokens.specs.declared.fault.TextCase.{TextCase}
use Rattle.camac_tokens.specs.declared.token.Sign.TheVariants as mark
use Rattle.camac_text_cursor.specs.Names.{name_place, lam_place, table_place, procedure_place}
use Rattle.camac_text_cursor.specs.declared.choice.Choice.{Choice}
use Rattle.camac_text_cursor.specs.declared.choice.Choice.TheVariants as choice
use Rattle.camac_text_cursor.specs.Reading.{Fault, State, Reader, then_read, ◌>>◌, give, advance, check, kind_of, after_first, while_next, missing, unexpected, until, ◌>>=◌}
use Rattle.camac_text_cursor.specs.Readers.{is_keyword, is_sign, expect, expect_sign, name_of, name_here, number_of, number_here, any_number, branch_number, function_number, sub_address_number, new_name, used_at, used, used_register, used_variable, used_lam, used_table, known_at, known, variable_here}
use Rattle.camac_text_cursor.proofs.Steps.{Progresses, while_on, while_off}
use Rattle.camac_text_cursor.proofs.Places.{hushed}
use Rattle.camac_text_cursor.proofs.Uses.{scope_of}
use Rattle.camac_text_cursor.proofs.Registers.{first_of_both, second_of_both}
use Rattle.camac_text_spelling.specs.Pieces.{text_at, Names, sign, numeral, name_at, Prefix}
use Rattle.camac_text_spelling.specs.Phrases.{expression}
use Rattle.camac_text_spelling.proofs.Takes.{prefix_split, prefix_first}
use Rattle.camac_text_phrases.specs.Expressions.{Counted, counted, operator, divisor, factor_by, factor_with, is_product_sign, product_by, product_turn, product_with, is_sum_sign, joined, sum_turn, sum_with, bracketed, expression_at}
use Rattle.camac_text_phrases.proofs.BracketsRead.{product_progress, sum_progress, bracketed_ok}

-- What readers of single tokens answer before their pieces. Nothing is noted of what they look for: it does not matter to what is read.

-- this state with these tokens ahead
abbrev pub at : State → List Token → State
at s ts = record s { rest = ts }

abbrev pub ok : {A : Type 0} → A → State → Result (A × State) Fault
ok x s = Ok (x, s)

-- one step, and what follows it
pub after : {A B : Type 0} {r : Result (B × State) Fault} (q : Result (A × State) Fault) (g : A → Reader B) (x : A) (u : State) → q ≡ ok x u → g x u ≡ r → then_read q g ≡ r
after q g x u e h = ap (λ (p : Result (_ × State) Fault). then_read p g) e ∙ h

pub checked : {B : Type 0} {r : Result (B × State) Fault} (holds : Bool) (case : TextCase) (g : Reader B) (s : State) → holds ≡ true → g s ≡ r → (check holds case >> g) s ≡ r
checked true case g s e h = h
checked false case g s e h = absurd cc

pub while_turn : {A : Type 0} {r : Result (A × State) Fault} (goes_on : Option TokenKind → Bool) (turn : A → Reader A) → Progresses goes_on turn → (x : A) (s : State) (y : A) (u : State) → goes_on (kind_of s.rest) ≡ true → turn x s ≡ ok y u → while_next goes_on turn y u ≡ r → while_next goes_on turn x s ≡ r
while_turn goes_on turn progress x s y u on took rest = while_on goes_on turn progress x s on ∙ after (turn x s) (while_next goes_on turn) y u took rest

-- the same where the token behind the last turn is looked for
pub until_turn : {A : Type 0} {r : Result (A × State) Fault} (c : Choice) (goes_on : Option TokenKind → Bool) (turn : A → Reader A) → Progresses goes_on turn → (x : A) (s : State) (y : A) (u : State) → goes_on (kind_of s.rest) ≡ true → turn x s ≡ ok y u → until c goes_on turn y u ≡ r → until c goes_on turn x s ≡ r
until_turn c goes_on turn progress x s y u on took rest = ap (λ (p : Result (_ × State) Fault). then_read p (missing c)) (while_turn goes_on turn progress x s y u on took refl) ∙ rest

pub until_off : {A : Type 0} (c : Choice) (goes_on : Option TokenKind → Bool) (turn : A → Reader A) (x : A) (s0 : State) → let s : State = hushed s0 in goes_on (kind_of s.rest) ≡ false → until c goes_on turn x s ≡ ok x s
until_off c goes_on turn x s0 off = ap (λ (p : Result (_ × State) Fault). then_read p (missing c)) (while_off goes_on turn x (hushed s0) off)

-- the tokens that are left are these
pub left : {A : Type 0} (x : A) (s : State) (ts us : List Token) → ts ≡ us → ok x (at s ts) ≡ ok x (at s us)
left x s ts us e = ap (λ (w : List Token). ok x (at s w)) e

-- ---- words and signs

pub expected : (w : Keyword) (s0 : State) → let s : State = hushed s0 in kind_of s.rest ≡ Some (kind.Keyword w) → expect w s ≡ ok tt (at s (after_first s.rest))
unfolding expect
expected w s0 e = let s : State = hushed s0 in ap (λ (k : Option TokenKind). cond (is_keyword w k) advance (unexpected (choice.Word w)) s) e ∙ ap (λ (b : Bool). cond b advance (unexpected (choice.Word w)) s) (true_same keyword_type.the_type w w refl)

pub expected_sign : (w : Sign) (s0 : State) → let s : State = hushed s0 in kind_of s.rest ≡ Some (kind.Sign w) → expect_sign w s ≡ ok tt (at s (after_first s.rest))
unfolding expect_sign
expected_sign w s0 e = let s : State = hushed s0 in ap (λ (k : Option TokenKind). cond (is_sign w k) advance (unexpected (choice.Mark w)) s) e ∙ ap (λ (b : Bool). cond b advance (unexpected (choice.Mark w)) s) (true_same sign_type.the_type w w refl)

pub keyword_same : (w : Keyword) → is_keyword w (Some (kind.Keyword w)) ≡ true
keyword_same w = true_same keyword_type.the_type w w refl

pub sign_same : (w : Sign) → is_sign w (Some (kind.Sign w)) ≡ true
sign_same w = true_same sign_type.the_type w w refl

-- ---- numbers

pub number_seen : (s0 : State) → let s : State = hushed s0 in (n : ℕ) → kind_of s.rest ≡ Some (kind.Number n) → number_here s ≡ ok n s
unfolding number_here
number_seen s0 n e = let s : State = hushed s0 in ap (λ (k : Option TokenKind). number_of k s) e

pub number_given : (s0 : State) → let s : State = hushed s0 in (n : ℕ) → kind_of s.rest ≡ Some (kind.Number n) → any_number s ≡ ok n (at s (after_first s.rest))
unfolding any_number
number_given s0 n e = let s : State = hushed s0 in after (number_here s) _ n s (number_seen s n e) refl

pub branch_given : (s0 : State) → let s : State = hushed s0 in kind_of s.rest ≡ Some (kind.Number 1) → branch_number s ≡ ok tt (at s (after_first s.rest))
unfolding branch_number
branch_given s0 e = let s : State = hushed s0 in after (number_here s) _ 1 s (number_seen s 1 e) refl

pub function_given : (s0 : State) → let s : State = hushed s0 in (n : ℕ) → kind_of s.rest ≡ Some (kind.Number n) → nat_lt n 32 ≡ true → function_number s ≡ ok n (at s (after_first s.rest))
unfolding function_number
function_given s0 n e below = let s : State = hushed s0 in after (number_here s) _ n s (number_seen s n e) (checked (nat_lt n 32) _ (advance >> give n) s below refl)

pub sub_address_given : (s0 : State) → let s : State = hushed s0 in (n : ℕ) → kind_of s.rest ≡ Some (kind.Number n) → nat_lt n 16 ≡ true → sub_address_number s ≡ ok n (at s (after_first s.rest))
unfolding sub_address_number
sub_address_given s0 n e below = let s : State = hushed s0 in after (number_here s) _ n s (number_seen s n e) (checked (nat_lt n 16) _ (advance >> give n) s below refl)

-- ---- names

pub name_seen : (s0 : State) → let s : State = hushed s0 in (x : Text) → kind_of s.rest ≡ Some (kind.Name x) → name_here s ≡ ok x s
unfolding name_here
name_seen s0 x e = let s : State = hushed s0 in ap (λ (k : Option TokenKind). name_of k s) e

pub new_name_seen : (s0 : State) → let s : State = hushed s0 in (x : Text) → kind_of s.rest ≡ Some (kind.Name x) → is_new x s.declared ≡ true → new_name s ≡ ok x s
unfolding new_name
new_name_seen s0 x e new = let s : State = hushed s0 in after (name_here s) _ x s (name_seen s x e) (checked (is_new x s.declared) _ (give x) s new refl)

used_seen : (wanted : NameKind) (find : Text → State → Option ℕ) (s0 : State) → let s : State = hushed s0 in (x : Text) (p : ℕ) → find x s ≡ Some p → kind_of s.rest ≡ Some (kind.Name x) → used wanted find s ≡ ok p (at s (after_first s.rest))
unfolding used
used_seen wanted find s0 x p found e = let s : State = hushed s0 in after (name_here s) _ x s (name_seen s x e) (ap (λ (o : Option ℕ). used_at wanted x o s) found)

pub known_seen : (wanted : NameKind) (find : Text → State → Option ℕ) (s0 : State) → let s : State = hushed s0 in (x : Text) (p : ℕ) → find x s ≡ Some p → kind_of s.rest ≡ Some (kind.Name x) → known wanted find s ≡ ok p s
unfolding known
known_seen wanted find s0 x p found e = let s : State = hushed s0 in after (name_here s) _ x s (name_seen s x e) (ap (λ (o : Option ℕ). known_at wanted x o s) found)

-- each name is found at its number
pub record Finds (n : Names) (vs : List Text) (ls : List Lam) (gs : List Table) (ps : List Procedure) (qs : List Callable) : Type 0 where
  pub variables : (p : ℕ) → p < length vs → name_place (text_at n.variables p) vs ≡ Some p
  pub lams : (p : ℕ) → p < length ls → lam_place (text_at n.lams p) ls ≡ Some p
  pub tables : (p : ℕ) → p < length gs → table_place (text_at n.tables p) gs ≡ Some p
  pub procedures : (p : ℕ) → p < length qs → procedure_place (text_at n.procedures p) ps ≡ Some p

abbrev pub FindsAll : Names → State → Type 0
FindsAll n s = Finds n s.variables s.lams s.tables s.procedures s.callables

pub variable_given : (n : Names) (s0 : State) → let s : State = hushed s0 in (p : ℕ) → FindsAll n s → nat_lt p (length s.variables) ≡ true → kind_of s.rest ≡ Some (kind.Name (text_at n.variables p)) → used_variable s ≡ ok p (at s (after_first s.rest))
variable_given n s0 p finds fits e = let s : State = hushed s0 in used_seen _ _ s (text_at n.variables p) p (finds.variables p (ltb-true p (length s.variables) fits)) e

pub lam_given : (n : Names) (s0 : State) → let s : State = hushed s0 in (p : ℕ) → FindsAll n s → nat_lt p (length s.lams) ≡ true → kind_of s.rest ≡ Some (kind.Name (text_at n.lams p)) → used_lam s ≡ ok p (at s (after_first s.rest))
lam_given n s0 p finds fits e = let s : State = hushed s0 in used_seen _ _ s (text_at n.lams p) p (finds.lams p (ltb-true p (length s.lams) fits)) e

pub table_given : (n : Names) (s0 : State) → let s : State = hushed s0 in (p : ℕ) → FindsAll n s → nat_lt p (length s.tables) ≡ true → kind_of s.rest ≡ Some (kind.Name (text_at n.tables p)) → used_table s ≡ ok p (at s (after_first s.rest))
table_given n s0 p finds fits e = let s : State = hushed s0 in used_seen _ _ s (text_at n.tables p) p (finds.tables p (ltb-true p (length s.tables) fits)) e

pub register_given : (n : Names) (s0 : State) → let s : State = hushed s0 in (p : ℕ) → name_place (text_at n.registers p) s.registers ≡ Some p → kind_of s.rest ≡ Some (kind.Name (text_at n.registers p)) → used_register s ≡ ok p (at s (after_first s.rest))
register_given n s0 p found e = let s : State = hushed s0 in used_seen _ _ s (text_at n.registers p) p found e

pub variable_seen : (n : Names) (s0 : State) → let s : State = hushed s0 in (p : ℕ) → FindsAll n s → nat_lt p (length s.variables) ≡ true → kind_of s.rest ≡ Some (kind.Name (text_at n.variables p)) → variable_here s ≡ ok p s
variable_seen n s0 p finds fits e = let s : State = hushed s0 in known_seen _ _ s (text_at n.variables p) p (finds.variables p (ltb-true p (length s.variables) fits)) e

-- Expressions that are spelled are read.

-- The expression may stand here, after so many operators.
record Can (n : Names) (s : State) (room so_far : ℕ) (e : Expression) : Type 0 where
  finds : FindsAll n s
  refers : refers (length s.variables) e ≡ true
  grouped : is_grouped e ≡ true
  deep : expression_depth e ≤ room
  few : so_far + operators e ≤ 32

abbrev read : Expression → ℕ → State → List Token → Result (Counted × State) Fault
read e m s rest = ok (counted e m) (at s rest)

abbrev product_loop : ℕ → Counted → Reader Counted
product_loop room x = until choice.Product is_product_sign (product_turn (bracketed room)) x

abbrev sum_loop : ℕ → Counted → Reader Counted
sum_loop room x = until choice.Sum is_sum_sign (sum_turn (bracketed room)) x

-- ---- what each reader answers before an expression

record AtLevels (n : Names) (e : Expression) : Type 0 where
  factor : (room so_far m : ℕ) (s0 : State) → let s : State = hushed s0 in (rest : List Token) → Can n s room so_far e → is_factor e ≡ true → m ≡ so_far + operators e → Prefix s.rest (expression n e) rest → factor_with (bracketed room) so_far s ≡ read e m s rest
  product : (room so_far m : ℕ) (s0 : State) → let s : State = hushed s0 in (rest : List Token) → Can n s room so_far e → is_term e ≡ true → m ≡ so_far + operators e → Prefix s.rest (expression n e) rest → product_with (bracketed room) so_far s ≡ product_loop room (counted e m) (at s rest)
  sum : (room so_far m : ℕ) (s0 : State) → let s : State = hushed s0 in (rest : List Token) → Can n s room so_far e → m ≡ so_far + operators e → Prefix s.rest (expression n e) rest → is_product_sign (kind_of rest) ≡ false → sum_with (bracketed room) so_far s ≡ sum_loop room (counted e m) (at s rest)

product_from_factor : (e : Expression) (room so_far m : ℕ) (s0 : State) → let s : State = hushed s0 in (rest : List Token) → factor_with (bracketed room) so_far s ≡ read e m s rest → product_with (bracketed room) so_far s ≡ product_loop room (counted e m) (at s rest)
unfolding product_with
product_from_factor e room so_far m s0 rest h = let s : State = hushed s0 in after (factor_with (bracketed room) so_far s) (product_loop room) (counted e m) (at s rest) h refl

product_is : (e : Expression) (room so_far m : ℕ) (s0 : State) → let s : State = hushed s0 in (rest : List Token) → is_product_sign (kind_of rest) ≡ false → product_with (bracketed room) so_far s ≡ product_loop room (counted e m) (at s rest) → product_with (bracketed room) so_far s ≡ read e m s rest
product_is e room so_far m s0 rest off h = let s : State = hushed s0 in h ∙ until_off choice.Product is_product_sign (product_turn (bracketed room)) (counted e m) (at s rest) off

sum_from_product : (e : Expression) (room so_far m : ℕ) (s0 : State) → let s : State = hushed s0 in (rest : List Token) → is_product_sign (kind_of rest) ≡ false → product_with (bracketed room) so_far s ≡ product_loop room (counted e m) (at s rest) → sum_with (bracketed room) so_far s ≡ sum_loop room (counted e m) (at s rest)
unfolding sum_with
sum_from_product e room so_far m s0 rest off h = let s : State = hushed s0 in after (product_with (bracketed room) so_far s) (sum_loop room) (counted e m) (at s rest) (product_is e room so_far m s rest off h) refl

operator_given : (so_far : ℕ) (s0 : State) → let s : State = hushed s0 in so_far < 32 → operator so_far s ≡ ok (suc so_far) (at s (after_first s.rest))
unfolding operator
operator_given so_far s0 below = let s : State = hushed s0 in checked (nat_lt so_far 32) _ (advance >> give (suc so_far)) s (lt-ltb so_far 32 below) refl

divisor_given : (s0 : State) → let s : State = hushed s0 in (d : ℕ) → kind_of s.rest ≡ Some (kind.Number d) → nat_le 1 d ≡ true → divisor s ≡ ok d (at s (after_first s.rest))
unfolding divisor
divisor_given s0 d e from_1 =
    let s : State = hushed s0 in
    let above : nat_lt 0 d ≡ true = grind (arith, from_1) in
    after (number_here s) _ d s (number_seen s d e) (checked (nat_lt 0 d) _ (advance >> give d) s above refl)

-- ---- factors

number_factor : (n : Names) (k room so_far m : ℕ) (s0 : State) → let s : State = hushed s0 in (rest : List Token) → m ≡ so_far → Prefix s.rest (expression n (number k)) rest → factor_with (bracketed room) so_far s ≡ read (number k) m s rest
unfolding factor_with
number_factor n k room so_far m s0 rest same f =
    let s : State = hushed s0 in
    let h = prefix_first s.rest (numeral k) [] rest f in
    ap (λ (o : Option TokenKind). factor_by (bracketed room) so_far o s) h.0
    ∙ after (any_number s) _ k (at s (after_first s.rest)) (number_given s k h.0) refl
    ∙ left (counted (number k) so_far) s (after_first s.rest) rest h.1
    ∙ ap (λ (j : ℕ). read (number k) j s rest) (rw same refl)

variable_factor : (n : Names) (x room so_far m : ℕ) (s0 : State) → let s : State = hushed s0 in (rest : List Token) → FindsAll n s → nat_lt x (length s.variables) ≡ true → m ≡ so_far → Prefix s.rest (expression n (variable x)) rest → factor_with (bracketed room) so_far s ≡ read (variable x) m s rest
unfolding factor_with
variable_factor n x room so_far m s0 rest finds fits same f =
    let s : State = hushed s0 in
    let h = prefix_first s.rest (name_at n.variables x) [] rest f in
    ap (λ (o : Option TokenKind). factor_by (bracketed room) so_far o s) h.0
    ∙ after (used_variable s) _ x (at s (after_first s.rest)) (variable_given n s x finds fits h.0) refl
    ∙ left (counted (variable x) so_far) s (after_first s.rest) rest h.1
    ∙ ap (λ (j : ℕ). read (variable x) j s rest) (rw same refl)

group_factor : (n : Names) (a : Expression) → AtLevels n a → (room so_far m : ℕ) (s0 : State) → let s : State = hushed s0 in (rest : List Token) → Can n s room so_far (group a) → m ≡ so_far + operators a → Prefix s.rest (expression n (group a)) rest → factor_with (bracketed room) so_far s ≡ read (group a) m s rest
unfolding factor_with bracketed
group_factor n a levels zero so_far m s0 rest can same f = let s : State = hushed s0 in let deep : expression_depth (group a) ≤ 0 = can.deep in absurd (omega arith)
group_factor n a levels (suc room) so_far m s0 rest can same f =
    let s : State = hushed s0 in
    let h = prefix_first s.rest (sign mark.LeftBracket) (expression n a ++ sign mark.RightBracket ∷ []) rest f in
    let u : State = at s (after_first s.rest) in
    let parts = prefix_split (after_first s.rest) (expression n a) (sign mark.RightBracket ∷ []) rest h.1 in
    let us : List Token = parts.0 in
    let closing = prefix_first us (sign mark.RightBracket) [] rest parts.2 in
    let deep : suc (expression_depth a) ≤ suc room = can.deep in
    let can_inside : Can n u room so_far a = record { finds = can.finds; refers = can.refers; grouped = can.grouped; deep = omega arith; few = can.few } in
    let inside : sum_with (bracketed room) so_far u ≡ read a m u us =
    levels.sum room so_far m u us can_inside same parts.1 (ap is_product_sign closing.0) ∙ until_off choice.Sum is_sum_sign (sum_turn (bracketed room)) (counted a m) (at u us) (ap is_sum_sign closing.0) in
    ap (λ (o : Option TokenKind). factor_by (bracketed (suc room)) so_far o s) h.0
    ∙ after (sum_with (bracketed room) so_far u) _ (counted a m) (at s us) inside
    (after (expect_sign mark.RightBracket (at s us)) _ tt (at s (after_first us)) (expected_sign mark.RightBracket (at s us) closing.0) (left (counted (group a) m) s (after_first us) rest closing.1))

-- ---- products

times_product : (n : Names) (a b : Expression) → AtLevels n a → AtLevels n b → (room so_far m : ℕ) (s0 : State) → let s : State = hushed s0 in (rest : List Token) → Can n s room so_far (multiply a b) → m ≡ so_far + suc (operators a + operators b) → Prefix s.rest (expression n (multiply a b)) rest → product_with (bracketed room) so_far s ≡ product_loop room (counted (multiply a b) m) (at s rest)
unfolding product_turn
times_product n a b at_a at_b room so_far m s0 rest can same f =
    let s : State = hushed s0 in
    let parts = prefix_split s.rest (expression n a) (sign mark.Times ∷ expression n b) rest f in
    let us : List Token = parts.0 in
    let h = prefix_first us (sign mark.Times) (expression n b) rest parts.2 in
    let k : ℕ = so_far + operators a in
    let few : so_far + suc (operators a + operators b) ≤ 32 = can.few in
    let deep : max (expression_depth a) (expression_depth b) ≤ room = can.deep in
    let right_forms = second_of_both (is_grouped a) _ can.grouped in
    let right_group = second_of_both (is_term a) _ right_forms in
    let can_a : Can n s room so_far a = record { finds = can.finds; refers = first_of_both _ _ can.refers; grouped = first_of_both (is_grouped a) _ can.grouped; deep = omega arith; few = omega arith } in
    let can_b : Can n (at s (after_first us)) room (suc k) b = record { finds = can.finds; refers = second_of_both (refers (length s.variables) a) _ can.refers; grouped = first_of_both (is_grouped b) _ right_group; deep = omega arith; few = omega arith } in
    let right : factor_with (bracketed room) (suc k) (at s (after_first us)) ≡ read b m s rest = at_b.factor room (suc k) m (at s (after_first us)) rest can_b (second_of_both (is_grouped b) _ right_group) (omega arith) h.1 in
    let turn : product_turn (bracketed room) (counted a k) (at s us) ≡ ok (counted (multiply a b) m) (at s rest) =
    ap (λ (o : Option TokenKind). product_by (bracketed room) (counted a k) o (at s us)) h.0
    ∙ after (operator k (at s us)) _ (suc k) (at s (after_first us)) (operator_given k (at s us) (omega arith)) (after (factor_with (bracketed room) (suc k) (at s (after_first us))) _ (counted b m) (at s rest) right refl) in
    at_a.product room so_far k s us can_a (first_of_both (is_term a) _ right_forms) refl parts.1
    ∙ until_turn choice.Product is_product_sign (product_turn (bracketed room)) (product_progress room (bracketed room) (bracketed_ok room)) (counted a k) (at s us) (counted (multiply a b) m) (at s rest) (ap is_product_sign h.0) turn refl

over_product : (n : Names) (a : Expression) (d : ℕ) → AtLevels n a → (room so_far m : ℕ) (s0 : State) → let s : State = hushed s0 in (rest : List Token) → Can n s room so_far (divide a d) → m ≡ so_far + suc (operators a) → Prefix s.rest (expression n (divide a d)) rest → product_with (bracketed room) so_far s ≡ product_loop room (counted (divide a d) m) (at s rest)
unfolding product_turn
over_product n a d at_a room so_far m s0 rest can same f =
    let s : State = hushed s0 in
    let parts = prefix_split s.rest (expression n a) (sign mark.Over ∷ numeral d ∷ []) rest f in
    let us : List Token = parts.0 in
    let h = prefix_first us (sign mark.Over) (numeral d ∷ []) rest parts.2 in
    let by = prefix_first (after_first us) (numeral d) [] rest h.1 in
    let k : ℕ = so_far + operators a in
    let few : so_far + suc (operators a) ≤ 32 = can.few in
    let m_is : suc k ≡ m = omega arith in
    let numbers = second_of_both (refers (length s.variables) a) _ can.refers in
    let can_a : Can n s room so_far a = record { finds = can.finds; refers = first_of_both _ _ can.refers; grouped = first_of_both (is_grouped a) _ can.grouped; deep = can.deep; few = omega arith } in
    let turn : product_turn (bracketed room) (counted a k) (at s us) ≡ ok (counted (divide a d) m) (at s rest) =
    ap (λ (o : Option TokenKind). product_by (bracketed room) (counted a k) o (at s us)) h.0
    ∙ after (operator k (at s us)) _ (suc k) (at s (after_first us)) (operator_given k (at s us) (omega arith)) (after (divisor (at s (after_first us))) _ d (at s (after_first (after_first us))) (divisor_given (at s (after_first us)) d by.0 (first_of_both (nat_le 1 d) (is_number d) numbers)) refl)
    ∙ left (counted (divide a d) (suc k)) s (after_first (after_first us)) rest by.1
    ∙ ap (λ (j : ℕ). read (divide a d) j s rest) m_is in
    at_a.product room so_far k s us can_a (second_of_both (is_grouped a) _ can.grouped) refl parts.1
    ∙ until_turn choice.Product is_product_sign (product_turn (bracketed room)) (product_progress room (bracketed room) (bracketed_ok room)) (counted a k) (at s us) (counted (divide a d) m) (at s rest) (ap is_product_sign h.0) turn refl

modulo_product : (n : Names) (a : Expression) (d : ℕ) → AtLevels n a → (room so_far m : ℕ) (s0 : State) → let s : State = hushed s0 in (rest : List Token) → Can n s room so_far (remainder a d) → m ≡ so_far + suc (operators a) → Prefix s.rest (expression n (remainder a d)) rest → product_with (bracketed room) so_far s ≡ product_loop room (counted (remainder a d) m) (at s rest)
unfolding product_turn
modulo_product n a d at_a room so_far m s0 rest can same f =
    let s : State = hushed s0 in
    let parts = prefix_split s.rest (expression n a) (sign mark.Modulo ∷ numeral d ∷ []) rest f in
    let us : List Token = parts.0 in
    let h = prefix_first us (sign mark.Modulo) (numeral d ∷ []) rest parts.2 in
    let by = prefix_first (after_first us) (numeral d) [] rest h.1 in
    let k : ℕ = so_far + operators a in
    let few : so_far + suc (operators a) ≤ 32 = can.few in
    let m_is : suc k ≡ m = omega arith in
    let numbers = second_of_both (refers (length s.variables) a) _ can.refers in
    let can_a : Can n s room so_far a = record { finds = can.finds; refers = first_of_both _ _ can.refers; grouped = first_of_both (is_grouped a) _ can.grouped; deep = can.deep; few = omega arith } in
    let turn : product_turn (bracketed room) (counted a k) (at s us) ≡ ok (counted (remainder a d) m) (at s rest) =
    ap (λ (o : Option TokenKind). product_by (bracketed room) (counted a k) o (at s us)) h.0
    ∙ after (operator k (at s us)) _ (suc k) (at s (after_first us)) (operator_given k (at s us) (omega arith)) (after (divisor (at s (after_first us))) _ d (at s (after_first (after_first us))) (divisor_given (at s (after_first us)) d by.0 (first_of_both (nat_le 1 d) (is_number d) numbers)) refl)
    ∙ left (counted (remainder a d) (suc k)) s (after_first (after_first us)) rest by.1
    ∙ ap (λ (j : ℕ). read (remainder a d) j s rest) m_is in
    at_a.product room so_far k s us can_a (second_of_both (is_grouped a) _ can.grouped) refl parts.1
    ∙ until_turn choice.Product is_product_sign (product_turn (bracketed room)) (product_progress room (bracketed room) (bracketed_ok room)) (counted a k) (at s us) (counted (remainder a d) m) (at s rest) (ap is_product_sign h.0) turn refl

-- ---- sums

-- after a sum, its sign and a product
sum_of : (n : Names) (made : Expression → Expression → Expression) (w : Sign) (a b : Expression) → AtLevels n a → AtLevels n b → (joined (Some (kind.Sign w)) a b ≡ made a b) → is_product_sign (Some (kind.Sign w)) ≡ false → is_sum_sign (Some (kind.Sign w)) ≡ true → (room so_far m : ℕ) (s0 : State) → let s : State = hushed s0 in (rest : List Token) → FindsAll n s → (refers (length s.variables) a && refers (length s.variables) b) ≡ true → (is_grouped a && (is_grouped b && is_term b)) ≡ true → max (expression_depth a) (expression_depth b) ≤ room → so_far + suc (operators a + operators b) ≤ 32 → m ≡ so_far + suc (operators a + operators b) → Prefix s.rest (expression n a ++ sign w ∷ expression n b) rest → is_product_sign (kind_of rest) ≡ false → sum_with (bracketed room) so_far s ≡ sum_loop room (counted (made a b) m) (at s rest)
unfolding sum_turn
sum_of n made w a b at_a at_b makes no_product is_sum room so_far m s0 rest finds refer group' deep few same f off =
    let s : State = hushed s0 in
    let parts = prefix_split s.rest (expression n a) (sign w ∷ expression n b) rest f in
    let us : List Token = parts.0 in
    let h = prefix_first us (sign w) (expression n b) rest parts.2 in
    let k : ℕ = so_far + operators a in
    let right_forms = second_of_both (is_grouped a) _ group' in
    let can_a : Can n s room so_far a = record { finds = finds; refers = first_of_both _ _ refer; grouped = first_of_both (is_grouped a) _ group'; deep = omega arith; few = omega arith } in
    let can_b : Can n (at s (after_first us)) room (suc k) b = record { finds = finds; refers = second_of_both (refers (length s.variables) a) _ refer; grouped = first_of_both (is_grouped b) _ right_forms; deep = omega arith; few = omega arith } in
    let right : product_with (bracketed room) (suc k) (at s (after_first us)) ≡ read b m s rest =
    product_is b room (suc k) m (at s (after_first us)) rest off (at_b.product room (suc k) m (at s (after_first us)) rest can_b (second_of_both (is_grouped b) _ right_forms) (omega arith) h.1) in
    let turn : sum_turn (bracketed room) (counted a k) (at s us) ≡ ok (counted (made a b) m) (at s rest) =
    ap (λ (o : Option TokenKind). (operator k >>= λ so_far. product_with (bracketed room) so_far >>= λ right. give (counted (joined o a right.value) right.operators)) (at s us)) h.0
    ∙ after (operator k (at s us)) _ (suc k) (at s (after_first us)) (operator_given k (at s us) (omega arith)) (after (product_with (bracketed room) (suc k) (at s (after_first us))) _ (counted b m) (at s rest) right refl)
    ∙ ap (λ (e : Expression). read e m s rest) makes in
    at_a.sum room so_far k s us can_a refl parts.1 (ap is_product_sign h.0 ∙ no_product)
    ∙ until_turn choice.Sum is_sum_sign (sum_turn (bracketed room)) (sum_progress room (bracketed room) (bracketed_ok room)) (counted a k) (at s us) (counted (made a b) m) (at s rest) (ap is_sum_sign h.0 ∙ is_sum) turn refl

-- ---- every expression

from_factor : (n : Names) (e : Expression) → ((room so_far m : ℕ) (s0 : State) → let s : State = hushed s0 in (rest : List Token) → Can n s room so_far e → m ≡ so_far + operators e → Prefix s.rest (expression n e) rest → factor_with (bracketed room) so_far s ≡ read e m s rest) → AtLevels n e
from_factor n e given = record {
  factor = λ room so_far m s rest can form same f. given room so_far m s rest can same f;
  product = λ room so_far m s rest can form same f. product_from_factor e room so_far m s rest (given room so_far m s rest can same f);
  sum = λ room so_far m s rest can same f off. sum_from_product e room so_far m s rest off (product_from_factor e room so_far m s rest (given room so_far m s rest can same f));
}

levels : (n : Names) (e : Expression) → AtLevels n e
levels n (number k) = from_factor n (number k) (λ room so_far m s rest can same f. number_factor n k room so_far m s rest (omega arith) f)
levels n (variable x) = from_factor n (variable x) (λ room so_far m s rest can same f. variable_factor n x room so_far m s rest can.finds can.refers (omega arith) f)
levels n (group a) = from_factor n (group a) (λ room so_far m s rest can same f. group_factor n a (levels n a) room so_far m s rest can same f)
levels n (multiply a b) = let at = times_product n a b (levels n a) (levels n b) in record {
  factor = λ room so_far m s rest can form same f. absurd cc;
  product = λ room so_far m s rest can form same f. at room so_far m s rest can same f;
  sum = λ room so_far m s rest can same f off. sum_from_product (multiply a b) room so_far m s rest off (at room so_far m s rest can same f);
}
levels n (divide a d) = let at = over_product n a d (levels n a) in record {
  factor = λ room so_far m s rest can form same f. absurd cc;
  product = λ room so_far m s rest can form same f. at room so_far m s rest can same f;
  sum = λ room so_far m s rest can same f off. sum_from_product (divide a d) room so_far m s rest off (at room so_far m s rest can same f);
}
levels n (remainder a d) = let at = modulo_product n a d (levels n a) in record {
  factor = λ room so_far m s rest can form same f. absurd cc;
  product = λ room so_far m s rest can form same f. at room so_far m s rest can same f;
  sum = λ room so_far m s rest can same f off. sum_from_product (remainder a d) room so_far m s rest off (at room so_far m s rest can same f);
}
levels n (add a b) = record {
  factor = λ room so_far m s rest can form same f. absurd cc;
  product = λ room so_far m s rest can form same f. absurd cc;
  sum = λ room so_far m s rest can same f off. sum_of n add mark.Plus a b (levels n a) (levels n b) refl refl refl room so_far m s rest can.finds can.refers can.grouped can.deep can.few same f off;
}
levels n (subtract a b) = record {
  factor = λ room so_far m s rest can form same f. absurd cc;
  product = λ room so_far m s rest can form same f. absurd cc;
  sum = λ room so_far m s rest can same f off. sum_of n subtract mark.Minus a b (levels n a) (levels n b) refl refl refl room so_far m s rest can.finds can.refers can.grouped can.deep can.few same f off;
}

-- what does not go on with an expression
pub record NoSign (k : Option TokenKind) : Type 0 where
  pub product : is_product_sign k ≡ false
  pub sum : is_sum_sign k ≡ false

pub expression_given : (n : Names) (e : Expression) (room : ℕ) (s0 : State) → let s : State = hushed s0 in (rest : List Token) → FindsAll n s → expression_fits (scope_of s) e ≡ true → expression_depth e ≤ room → Prefix s.rest (expression n e) rest → NoSign (kind_of rest) → expression_at room s ≡ ok e (at s rest)
unfolding expression_at
expression_given n e room s0 rest finds fits deep f ends =
    let s : State = hushed s0 in
    let forms = second_of_both (refers (length s.variables) e) _ fits in
    let few : operators e ≤ 32 = leb-true (operators e) 32 (second_of_both (is_grouped e) _ forms) in
    let can : Can n s room 0 e = record { finds = finds; refers = first_of_both (refers (length s.variables) e) _ fits; grouped = first_of_both (is_grouped e) _ forms; deep = deep; few = omega arith } in
    after (sum_with (bracketed room) 0 s) _ (counted e (operators e)) (at s rest)
    ((levels n e).sum room 0 (operators e) s rest can (omega arith) f ends.product ∙ until_off choice.Sum is_sum_sign (sum_turn (bracketed room)) (counted e (operators e)) (at s rest) ends.sum) refl
