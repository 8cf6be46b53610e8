-- What readers of parameters, of headings and of procedures leave.
use Rattle.std.proofs.Common.{◌≡◌, ℕ, ◌+◌, ◌≤◌, ◌<◌, Bool, true, false, cond, ◌&&◌, nat_lt, List, [], ◌∷◌, ◌++◌, length, map, Option, Some, None, Ok, refl, sym, ap, subst, ◌∙◌, length-append, arith}
use Rattle.std.proofs.lemmas.Bool.{ltb-true}
use Rattle.std.proofs.lemmas.List.{map_push}
use Rattle.camac_lang.specs.Scope.{are_declarable}
use Rattle.camac_lang.specs.Tests.{each, is_number, is_name, is_new}
use Rattle.camac_lang.specs.Tree.{Text, Parameter, Statement}
use Rattle.camac_lang.specs.declared.spot.Spot.{Spot}
use Rattle.camac_tokens.specs.declared.fault.Limit.TheVariants as limit
use Rattle.camac_tokens.specs.declared.fault.TextCase.TheVariants as text_case
use Rattle.camac_tokens.specs.declared.token.Keyword.TheVariants as word
use Rattle.camac_tokens.specs.declared.token.Sign.{Sign}
use Rattle.camac_tokens.specs.declared.token.Sign.TheVariants as sign
use Rattle.camac_tokens.specs.declared.token.TokenKind.{TokenKind}
use Rattle.camac_tokens.specs.declared.token.TokenKind.TheVariants as kind
use Rattle.camac_text_cursor.specs.declared.choice.Choice.TheVariants as choice
use Rattle.camac_text_cursor.specs.Reading.{State, Reader, ◌>>=◌, ◌>>◌, give, ask, check, kind_of, after_first, one_more, miss, missed, past, until, change, advance}
use Rattle.camac_text_cursor.specs.Readers.{is_sign, expect, expect_sign, any_number, new_name, added, new_parameter}
use Rattle.camac_text_cursor.specs.Declaring.{in_heading, opened, with_procedure}
use Rattle.camac_text_cursor.proofs.Steps.{then_ok, ok_is, Progresses, until_keeps}
use Rattle.camac_text_cursor.proofs.Moves.{AllFit, Moves, kind_fit, after_less, moved, unmoved, then_moves, one_moves, check_ok, any_number_ok, expect_ok, expect_sign_ok, new_name_ok}
use Rattle.camac_text_cursor.proofs.Registers.{both, each_push}
use Rattle.camac_text.specs.Procedures.{parameter_at, next_parameter, parameter_list, parameters_at, Heading, heading_at, procedure_made, procedure_declaration}
use Rattle.camac_text.proofs.Variables.{DeclaresOne, added_ok, one_variable_less, DeclaresNames, no_names, one_name_more, names_then_moves}
use Rattle.camac_text_statements.specs.Statements.{block_at}
use Rattle.camac_text_statements.proofs.Blocks.{Body}
use Rattle.camac_text_statements.proofs.Bodies.{block_ok}

-- What readers of parameters and of headings leave.

-- ---- one parameter

abbrev pub range_fits : Parameter → Bool
range_fits q = is_number q.low && is_number q.high

abbrev pub names_of : List Parameter → List Text
names_of ps = map (λ (q : Parameter). q.name) ps

pub record ReadsParameter (s : State) (p : Parameter) (s' : State) : Type 0 where
  pub between : State
  pub one : DeclaresOne s p.name between
  pub moves : Moves between s'
  pub few : length s.variables < 8
  pub fits : AllFit between.rest → range_fits p ≡ true

new_parameter_ok : (s : State) (y : Text × State) → new_parameter s ≡ Ok y → DeclaresOne s y.0 y.1 × (length s.variables < 8)
unfolding new_parameter
new_parameter_ok s y e =
    let m = then_ok (new_name s) (λ x. ask (λ u. u.variables) >>= λ known. check (nat_lt (length known) 8) (text_case.Limit limit.Parameters) >> (added x >> give x)) y e in
    let h = new_name_ok s m.0 m.1 in
    let at : (check (nat_lt (length s.variables) 8) (text_case.Limit limit.Parameters) >> (added m.0.0 >> give m.0.0)) s ≡ Ok y = subst (λ (u : State). (check (nat_lt (length u.variables) 8) (text_case.Limit limit.Parameters) >> (added m.0.0 >> give m.0.0)) u ≡ Ok y) h.left m.2 in
    let c = check_ok (nat_lt (length s.variables) 8) (text_case.Limit limit.Parameters) (added m.0.0 >> give m.0.0) s y at in
    let a = then_ok (added m.0.0 s) (λ _. give m.0.0) y c.1 in
    (subst (λ (p : Text × State). DeclaresOne s p.0 p.1) (ok_is (m.0.0, a.0.1) y a.2) (added_ok s m.0.0 a.0 h.next h.free a.1), ltb-true (length s.variables) 8 c.0)

abbrev parameter_made : Text → ℕ → ℕ → Parameter
parameter_made x low high = record { name = x; low = low; high = high }

parameter_ok : (s : State) (y : Parameter × State) → parameter_at s ≡ Ok y → ReadsParameter s y.0 y.1
unfolding parameter_at
parameter_ok s y e =
    let a = then_ok (new_parameter s) (λ x. expect word.In >> (any_number >>= λ low. expect_sign sign.UpTo >> (any_number >>= λ high. give (parameter_made x low high)))) y e in
    let declares = new_parameter_ok s a.0 a.1 in
    let b = then_ok (expect word.In a.0.1) (λ _. any_number >>= λ low. expect_sign sign.UpTo >> (any_number >>= λ high. give (parameter_made a.0.0 low high))) y a.2 in
    let to_b : Moves a.0.1 b.0.1 = expect_ok word.In a.0.1 b.0 b.1 in
    let c = then_ok (any_number b.0.1) (λ low. expect_sign sign.UpTo >> (any_number >>= λ high. give (parameter_made a.0.0 low high))) y b.2 in
    let low = any_number_ok b.0.1 c.0 c.1 in
    let to_c : Moves a.0.1 c.0.1 = then_moves a.0.1 b.0.1 c.0.1 to_b (one_moves b.0.1 (kind.Number c.0.0) c.0.1 low) in
    let d = then_ok (expect_sign sign.UpTo c.0.1) (λ _. any_number >>= λ high. give (parameter_made a.0.0 c.0.0 high)) y c.2 in
    let to_d : Moves a.0.1 d.0.1 = then_moves a.0.1 c.0.1 d.0.1 to_c (expect_sign_ok sign.UpTo c.0.1 d.0 d.1) in
    let f = then_ok (any_number d.0.1) (λ high. give (parameter_made a.0.0 c.0.0 high)) y d.2 in
    let high = any_number_ok d.0.1 f.0 f.1 in
    subst (λ (p : Parameter × State). ReadsParameter s p.0 p.1) (ok_is (parameter_made a.0.0 c.0.0 f.0.0, f.0.1) y f.2) (record {
      between = a.0.1;
      one = declares.0;
      moves = then_moves a.0.1 d.0.1 f.0.1 to_d (one_moves d.0.1 (kind.Number f.0.0) f.0.1 high);
      few = declares.1;
      fits = λ h. both _ _ (kind_fit b.0.1.rest (kind.Number c.0.0) low.next (to_b.fit h)) (kind_fit d.0.1.rest (kind.Number f.0.0) high.next (to_d.fit h));
    })

pub next_parameter_ok : (s : State) (y : Parameter × State) → next_parameter s ≡ Ok y → ReadsParameter (past s) y.0 y.1
unfolding next_parameter
next_parameter_ok s y e = parameter_ok (past s) y e

-- ---- parameters

pub record ReadsParameters (s : State) (ps : List Parameter) (s' : State) : Type 0 where
  pub names : DeclaresNames s (names_of ps) s'
  pub few : length s.variables + length ps ≤ 8
  pub fit : AllFit s.rest → each range_fits ps ≡ true

no_parameters : (s : State) → length s.variables ≤ 8 → ReadsParameters s [] s
no_parameters s few = record { names = no_names s; few = omega arith; fit = λ h. refl }

parameters_then_moves : (s : State) (ps : List Parameter) (u t : State) → ReadsParameters s ps u → Moves u t → ReadsParameters s ps t
parameters_then_moves s ps u t r m = record { names = names_then_moves s (names_of ps) u t r.names m; few = r.few; fit = r.fit }

pub names_counted : (ps : List Parameter) → length (names_of ps) ≡ length ps
names_counted [] = refl
names_counted (q ∷ qs) = let rest : length (names_of qs) ≡ length qs = names_counted qs in omega arith

one_parameter_more : (s : State) (ps : List Parameter) (u : State) (p : Parameter) (t : State) → ReadsParameters s ps u → ReadsParameter u p t → ReadsParameters s (ps ++ p ∷ []) t
one_parameter_more s ps u p t r x =
    let longer : length (ps ++ p ∷ []) ≡ length ps + 1 = length-append ps (p ∷ []) in
    let variables : u.variables ≡ s.variables ++ names_of ps = ap (λ (w : State). w.variables) r.names.same in
    let own : length u.variables ≡ length s.variables + length (names_of ps) = ap (λ (xs : List Text). length xs) variables ∙ length-append s.variables (names_of ps) in
    let counted : length (names_of ps) ≡ length ps = names_counted ps in
    let few : length u.variables < 8 = x.few in
    let between : DeclaresNames s (names_of ps ++ p.name ∷ []) x.between = one_name_more s (names_of ps) u p.name x.between r.names x.one in
    record {
      names = subst (λ (xs : List Text). DeclaresNames s xs t) (sym (map_push (λ (q : Parameter). q.name) ps p)) (names_then_moves s (names_of ps ++ p.name ∷ []) x.between t between x.moves);
      few = omega arith;
      fit = λ h. each_push range_fits ps p (r.fit h) (x.fits (between.fit h));
    }

parameters_turn : (s : State) (ps : List Parameter) (u : State) (qs : List Parameter) (t : State) → ReadsParameters s ps u → one_more next_parameter ps u ≡ Ok (qs, t) → ReadsParameters s qs t
parameters_turn s ps u qs t r e =
    let m = then_ok (next_parameter u) (λ p. give (ps ++ p ∷ [])) (qs, t) e in
    subst (λ (p : List Parameter × State). ReadsParameters s p.0 p.1) (ok_is (ps ++ m.0.0 ∷ [], m.0.1) (qs, t) m.2) (one_parameter_more s ps (past u) m.0.0 m.0.1 (parameters_then_moves s ps u (past u) r (moved u)) (next_parameter_ok u m.0 m.1))

parameter_less : (s : State) (p : Parameter) (s' : State) → ReadsParameter s p s' → length s'.rest < length s.rest
parameter_less s p s' x =
    let one : length x.between.rest < length s.rest = one_variable_less s p.name x.between x.one in
    let more : length s'.rest ≤ length x.between.rest = x.moves.shorter in
    omega arith

sign_some : (w : Sign) (k : Option TokenKind) → is_sign w k ≡ true → (j : TokenKind) × (k ≡ Some j)
sign_some w (Some j) on = (j, refl)
sign_some w None on = absurd cc

pub next_parameter_less : (s : State) (y : Parameter × State) → is_sign sign.Comma (kind_of s.rest) ≡ true → next_parameter s ≡ Ok y → length y.1.rest < length s.rest
next_parameter_less s y on e =
    let k = sign_some sign.Comma (kind_of s.rest) on in
    let less : length (after_first s.rest) < length s.rest = after_less s.rest k.0 k.1 in
    let more : length y.1.rest < length (after_first s.rest) = parameter_less (past s) y.0 y.1 (next_parameter_ok s y e) in
    omega arith

pub parameters_progress : Progresses (is_sign sign.Comma) (one_more next_parameter)
parameters_progress ps s y s' on took =
    let m = then_ok (next_parameter s) (λ p. give (ps ++ p ∷ [])) (y, s') took in
    subst (λ (p : List Parameter × State). length p.1.rest < length s.rest) (ok_is (ps ++ m.0.0 ∷ [], m.0.1) (y, s') m.2) (next_parameter_less s m.0 on m.1)

list_ok : (s : State) (y : List Parameter × State) → length s.variables ≤ 8 → parameter_list s ≡ Ok y → ReadsParameters s y.0 y.1
unfolding parameter_list
list_ok s y few e =
    let m = then_ok (parameter_at s) (λ first. until (choice.Mark sign.Comma) (is_sign sign.Comma) (one_more next_parameter) (first ∷ [])) y e in
    until_keeps (λ (ps : List Parameter) (u : State). ReadsParameters s ps u) (choice.Mark sign.Comma) (λ ps u r. parameters_then_moves s ps u (missed (choice.Mark sign.Comma) u) r (unmoved (choice.Mark sign.Comma) u)) (is_sign sign.Comma) (one_more next_parameter) (λ ps u qs t r on took. parameters_turn s ps u qs t r took) (m.0.0 ∷ []) m.0.1 y (one_parameter_more s [] s m.0.0 m.0.1 (no_parameters s few) (parameter_ok s m.0 m.1)) m.2

moves_then_parameters : (s t : State) (ps : List Parameter) (u : State) → Moves s t → ReadsParameters t ps u → ReadsParameters s ps u
moves_then_parameters s t ps u m r =
    let shorter_t : length t.rest ≤ length s.rest = m.shorter in
    let shorter_u : length u.rest ≤ length t.rest = r.names.shorter in
    record {
      names = record {
        same = r.names.same ∙ ap (λ (w : State). record w { rest = u.rest; variables = w.variables ++ names_of ps; variable_count = w.variable_count + length (names_of ps); declared = w.declared ++ names_of ps; tried = u.tried }) m.same;
        fit = λ h. r.names.fit (m.fit h);
        shorter = omega arith;
        few = λ h. r.names.few (subst (λ (w : State). w.variable_count ≤ 64) (sym m.same) h);
        new = λ h. subst (λ (w : State). are_declarable (names_of ps) w.declared ≡ true) m.same (r.names.new (m.fit h));
      };
      few = subst (λ (w : State). length w.variables + length ps ≤ 8) m.same r.few;
      fit = λ h. r.fit (m.fit h);
    }

choice_ok : (none : Bool) (s : State) (y : List Parameter × State) → length s.variables ≤ 8 → cond none (give []) (miss (choice.Mark sign.RightBracket) >> parameter_list) s ≡ Ok y → ReadsParameters s y.0 y.1
choice_ok true s y few e = subst (λ (p : List Parameter × State). ReadsParameters s p.0 p.1) (ok_is ([], s) y e) (no_parameters s few)
choice_ok false s y few e = moves_then_parameters s (missed (choice.Mark sign.RightBracket) s) y.0 y.1 (unmoved (choice.Mark sign.RightBracket) s) (list_ok (missed (choice.Mark sign.RightBracket) s) y few e)

parameters_ok : (s : State) (y : List Parameter × State) → length s.variables ≤ 8 → parameters_at s ≡ Ok y → ReadsParameters s y.0 y.1
unfolding parameters_at
parameters_ok s y few e = choice_ok (is_sign sign.RightBracket (kind_of s.rest)) s y few e

-- ---- the heading

pub record ReadsHeading (s : State) (h : Heading) (s' : State) : Type 0 where
  pub parameters : ReadsParameters s h.parameters s'
  pub cycles_fit : AllFit s.rest → is_number h.cycles ≡ true
  pub words_fit : AllFit s.rest → is_number h.words ≡ true
  pub steps_fit : AllFit s.rest → is_number h.steps ≡ true

-- the numbers after the parameters
record ReadsNumbers (s : State) (ps : List Parameter) (h : Heading) (s' : State) : Type 0 where
  same : h.parameters ≡ ps
  moves : Moves s s'
  cycles_fit : AllFit s.rest → is_number h.cycles ≡ true
  words_fit : AllFit s.rest → is_number h.words ≡ true
  steps_fit : AllFit s.rest → is_number h.steps ≡ true

abbrev heading_made : List Parameter → ℕ → ℕ → ℕ → Heading
heading_made ps c w n = record { parameters = ps; cycles = c; words = w; steps = n }

abbrev pub from_steps : List Parameter → ℕ → ℕ → Reader Heading
from_steps ps c w = expect word.Words >> (expect word.Steps >> (any_number >>= λ n. give (heading_made ps c w n)))

abbrev pub from_cycles : List Parameter → ℕ → Reader Heading
from_cycles ps c = expect word.Cycles >> (expect word.Event >> (any_number >>= λ w. from_steps ps c w))

abbrev pub from_bracket : List Parameter → Reader Heading
from_bracket ps = expect_sign sign.RightBracket >> (expect word.Within >> (any_number >>= λ c. from_cycles ps c))

numbers_ok : (ps : List Parameter) (s : State) (y : Heading × State) → from_bracket ps s ≡ Ok y → ReadsNumbers s ps y.0 y.1
numbers_ok ps s y e =
    let a = then_ok (expect_sign sign.RightBracket s) (λ _. expect word.Within >> (any_number >>= λ c. from_cycles ps c)) y e in
    let to_a : Moves s a.0.1 = expect_sign_ok sign.RightBracket s a.0 a.1 in
    let b = then_ok (expect word.Within a.0.1) (λ _. any_number >>= λ c. from_cycles ps c) y a.2 in
    let to_b : Moves s b.0.1 = then_moves s a.0.1 b.0.1 to_a (expect_ok word.Within a.0.1 b.0 b.1) in
    let c = then_ok (any_number b.0.1) (λ c. from_cycles ps c) y b.2 in
    let cycles = any_number_ok b.0.1 c.0 c.1 in
    let to_c : Moves s c.0.1 = then_moves s b.0.1 c.0.1 to_b (one_moves b.0.1 (kind.Number c.0.0) c.0.1 cycles) in
    let d = then_ok (expect word.Cycles c.0.1) (λ _. expect word.Event >> (any_number >>= λ w. from_steps ps c.0.0 w)) y c.2 in
    let to_d : Moves s d.0.1 = then_moves s c.0.1 d.0.1 to_c (expect_ok word.Cycles c.0.1 d.0 d.1) in
    let f = then_ok (expect word.Event d.0.1) (λ _. any_number >>= λ w. from_steps ps c.0.0 w) y d.2 in
    let to_f : Moves s f.0.1 = then_moves s d.0.1 f.0.1 to_d (expect_ok word.Event d.0.1 f.0 f.1) in
    let g = then_ok (any_number f.0.1) (λ w. from_steps ps c.0.0 w) y f.2 in
    let words = any_number_ok f.0.1 g.0 g.1 in
    let to_g : Moves s g.0.1 = then_moves s f.0.1 g.0.1 to_f (one_moves f.0.1 (kind.Number g.0.0) g.0.1 words) in
    let h = then_ok (expect word.Words g.0.1) (λ _. expect word.Steps >> (any_number >>= λ n. give (heading_made ps c.0.0 g.0.0 n))) y g.2 in
    let to_h : Moves s h.0.1 = then_moves s g.0.1 h.0.1 to_g (expect_ok word.Words g.0.1 h.0 h.1) in
    let i = then_ok (expect word.Steps h.0.1) (λ _. any_number >>= λ n. give (heading_made ps c.0.0 g.0.0 n)) y h.2 in
    let to_i : Moves s i.0.1 = then_moves s h.0.1 i.0.1 to_h (expect_ok word.Steps h.0.1 i.0 i.1) in
    let j = then_ok (any_number i.0.1) (λ n. give (heading_made ps c.0.0 g.0.0 n)) y i.2 in
    let steps = any_number_ok i.0.1 j.0 j.1 in
    subst (λ (p : Heading × State). ReadsNumbers s ps p.0 p.1) (ok_is (heading_made ps c.0.0 g.0.0 j.0.0, j.0.1) y j.2) (record {
      same = refl;
      moves = then_moves s i.0.1 j.0.1 to_i (one_moves i.0.1 (kind.Number j.0.0) j.0.1 steps);
      cycles_fit = λ fits. kind_fit b.0.1.rest (kind.Number c.0.0) cycles.next (to_b.fit fits);
      words_fit = λ fits. kind_fit f.0.1.rest (kind.Number g.0.0) words.next (to_f.fit fits);
      steps_fit = λ fits. kind_fit i.0.1.rest (kind.Number j.0.0) steps.next (to_i.fit fits);
    })

pub heading_ok : (s : State) (y : Heading × State) → length s.variables ≤ 8 → heading_at s ≡ Ok y → ReadsHeading s y.0 y.1
unfolding heading_at
heading_ok s y few e =
    let a = then_ok (expect_sign sign.LeftBracket s) (λ _. parameters_at >>= λ ps. from_bracket ps) y e in
    let to_a : Moves s a.0.1 = expect_sign_ok sign.LeftBracket s a.0 a.1 in
    let b = then_ok (parameters_at a.0.1) (λ ps. from_bracket ps) y a.2 in
    let read = moves_then_parameters s a.0.1 b.0.0 b.0.1 to_a (parameters_ok a.0.1 b.0 (subst (λ (w : State). length w.variables ≤ 8) (sym to_a.same) few) b.1) in
    let numbers = numbers_ok b.0.0 b.0.1 y b.2 in
    record {
      parameters = subst (λ (ps : List Parameter). ReadsParameters s ps y.1) (sym numbers.same) (parameters_then_moves s b.0.0 b.0.1 y.1 read numbers.moves);
      cycles_fit = λ fits. numbers.cycles_fit (read.names.fit fits);
      words_fit = λ fits. numbers.words_fit (read.names.fit fits);
      steps_fit = λ fits. numbers.steps_fit (read.names.fit fits);
    }

-- What a procedure that is read leaves.

-- a procedure is declared
pub record ProcedureDeclaration (s s' : State) : Type 0 where
  pub spot : Spot
  pub name : Text
  pub heading : Heading
  pub body : List Statement
  -- the tokens after its name, after its heading and after its body
  pub rest : State
  pub between : State
  pub last : State
  pub room : length s.procedures < 16
  pub free : is_new name s.declared ≡ true
  pub named : AllFit s.rest → is_name name ≡ true
  pub fit : AllFit s.rest → AllFit rest.rest
  pub reads_heading : ReadsHeading (in_heading name (record s { rest = rest.rest; tried = rest.tried })) heading between
  pub reads_body : Body 16 between body last
  pub left : s' ≡ with_procedure (procedure_made spot name heading last.registers body) (length (s.declared ++ name ∷ [])) last
  pub less : length s'.rest < length s.rest

-- after its name
abbrev after_name : Spot → Text → Reader (Unit {0})
after_name spot name =
    opened name >>= λ names. heading_at >>= λ h. block_at 16 >>= λ body. ask (λ s. s.registers) >>= λ registers. change (with_procedure (procedure_made spot name h registers body) names)

pub procedure_is : (s : State) (k : TokenKind) (spot : Spot) (y : Unit {0} × State) → kind_of s.rest ≡ Some k → procedure_declaration spot s ≡ Ok y → ProcedureDeclaration s y.1
unfolding procedure_declaration
procedure_is s k spot y next e =
    let t : State = past s in
    let c0 = check_ok (nat_lt (length s.procedures) 16) (text_case.Limit limit.Procedures) (advance >> (new_name >>= λ name. advance >> after_name spot name)) s y e in
    let a = then_ok (new_name t) (λ name. advance >> after_name spot name) y c0.1 in
    let h = new_name_ok t a.0 a.1 in
    let u : State = past (past s) in
    let at : after_name spot a.0.0 u ≡ Ok y = subst (λ (w : State). (advance >> after_name spot a.0.0) w ≡ Ok y) h.left a.2 in
    let v : State = in_heading a.0.0 u in
    let b = then_ok (heading_at v) (λ g. block_at 16 >>= λ body. ask (λ w. w.registers) >>= λ registers. change (with_procedure (procedure_made spot a.0.0 g registers body) (length v.declared))) y at in
    let heading = heading_ok v b.0 (omega arith) b.1 in
    let c = then_ok (block_at 16 b.0.1) (λ body. ask (λ w. w.registers) >>= λ registers. change (with_procedure (procedure_made spot a.0.0 b.0.0 registers body) (length v.declared))) y b.2 in
    let body = block_ok 16 b.0.1 c.0 c.1 in
    let last : State = c.0.1 in
    let left : y.1 ≡ with_procedure (procedure_made spot a.0.0 b.0.0 last.registers c.0.0) (length v.declared) last = sym (ap (λ (p : Unit {0} × State). p.1) (ok_is (tt, with_procedure (procedure_made spot a.0.0 b.0.0 last.registers c.0.0) (length v.declared) last) y c.2)) in
    let less : length (after_first s.rest) < length s.rest = after_less s.rest k next in
    let less_u : length (after_first (after_first s.rest)) ≤ length (after_first s.rest) = (moved t).shorter in
    let shorter_b : length b.0.1.rest ≤ length (after_first (after_first s.rest)) = heading.parameters.names.shorter in
    let shorter_c : length last.rest ≤ length b.0.1.rest = body.shorter in
    record {
      spot = spot;
      name = a.0.0;
      heading = b.0.0;
      body = c.0.0;
      rest = u;
      between = b.0.1;
      last = last;
      room = ltb-true (length s.procedures) 16 c0.0;
      free = h.free;
      named = λ fits. kind_fit t.rest (kind.Name a.0.0) h.next ((moved s).fit fits);
      fit = λ fits. (moved t).fit ((moved s).fit fits);
      reads_heading = heading;
      reads_body = body;
      left = left;
      less = subst (λ (w : State). length w.rest < length s.rest) (sym left) (let h : length last.rest < length s.rest = omega arith in h);
    }
