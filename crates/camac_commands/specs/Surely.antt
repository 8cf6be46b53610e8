-- Bodies that surely make a cycle of some kind, whatever modules answer: by their rows.
use Rattle.std.specs.Prelude.{◌≡◌, ℕ, ◌&&◌, ◌||◌, Bool, true, false, List, [], Some, Ok, IsTrue, drop, nat_le, unwrap_or, slice_get}
use Rattle.std.specs.List.{list_any}
use Rattle.camac_lang.specs.Scope.{is_well_formed}
use Rattle.camac_lang.specs.Tree.{Expression, number, Statement, single, q_stop, q_repeat, lam_call, choose_else, for_, for_each, locked, call, Block, done, next, Service, Script}
use Rattle.camac_branch.specs.Address.{Address}
use Rattle.camac_branch.specs.Branch.{Branch, Answer}
use Rattle.camac_branch.specs.Plan.{Layout, IsPlan}
use Rattle.camac_model.specs.Behaviour.{Piece, cycled}
use Rattle.camac_model.specs.Fine.{Bounds}
use Rattle.camac_model.specs.Meaning.{context, lam_function}
use Rattle.camac_model.specs.Moments.{Meets, AnyStop}
use Rattle.camac_model.specs.Run.{service_meaning}
use Rattle.camac_model.specs.State.{State}
use Rattle.camac_rules.specs.Accept.{accept}
use Rattle.camac_rules.specs.Capped.{capped}
use Rattle.camac_check_rows.specs.declared.row.Detail.{Detail}
use Rattle.camac_check_rows.specs.declared.row.Row.{Row}
use Rattle.camac_check_costs.specs.Bodies.{costs_with, sections_of}
use Rattle.camac_commands.specs.declared.command.Command.{Command}
use Rattle.camac_commands.specs.Commands.{is_told, made_at, told_region, detail_told, behind, behind_block, told_over}

-- a `for` that has a turn whatever its variables are
abbrev pub has_turn : (first last : Expression) → Bool
has_turn (number a) (number b) = nat_le a b
has_turn e1 e2 = false

-- a number from 1 on
abbrev pub is_some_number : Expression → Bool
is_some_number (number a) = nat_le 1 a
is_some_number e = false

-- Whether a statement that holds no others and calls no procedure makes a command that passes a test, wherever it ends: by what its row tells
abbrev pub surely_alone : (Command → Bool) → Statement → Detail → Bool
surely_alone test (single spot size f r m) told = list_any test (made_at spot f (told_region told))
surely_alone test (q_stop spot f r t max x) told = is_some_number max && list_any test (made_at spot f (told_region told))
surely_alone test (q_repeat spot f r t max limit x) told = (is_some_number max && is_some_number limit) && list_any test (made_at spot f (told_region told))
surely_alone test (lam_call spot which l) told = list_any test (made_at spot (lam_function which) (told_region told))
surely_alone test s told = false

-- The same of any statement or block. Of each procedure before it, by its number, is known whether its body does.
abbrev mutual
  pub surely : (Command → Bool) → List Bool → Statement → List Row → Bool
  surely test ps (choose_else spot c a b) rows = surely_block test ps a (drop 1 rows) && surely_block test ps b (drop 1 (behind_block a (drop 1 rows)))
  surely test ps (for_ spot x e1 e2 keeps body) rows = has_turn e1 e2 && surely_block test ps body (drop 1 rows)
  surely test ps (for_each spot x v last body) rows = nat_le v last && surely_block test ps body (drop 1 rows)
  surely test ps (locked spot e body) rows = surely_block test ps body (drop 1 rows)
  surely test ps (call spot p es) rows = unwrap_or (slice_get ps p) false
  surely test ps s rows = surely_alone test s (detail_told rows)

  pub surely_block : (Command → Bool) → List Bool → Block → List Row → Bool
  surely_block test ps done rows = false
  surely_block test ps (next s rest) rows = surely test ps s rows || surely_block test ps rest (behind s rows)

-- the services whose bodies do, in the order of the text
abbrev pub surely_of : (Command → Bool) → Layout → Script → List Bool
surely_of test plan s = told_over (surely_block test) [] (sections_of s) (costs_with capped plan s)

-- whether such a cycle was made so far
abbrev pub made_one : (Address → (function : ℕ) → Bool) → Bool → Piece → Bool
made_one meant so_far (cycled at f d r w) = so_far || meant at f
made_one meant so_far _ = so_far

abbrev pub AnyPiece : {X : Type 0} → X → Piece → Type 0
AnyPiece x p = Unit {0}

abbrev pub IsMade : Bool → State → Type 0
IsMade so_far s = so_far ≡ true

-- where a service ends it has made one, whatever the branch is like and answers
abbrev pub MakesOne : Layout → Script → Service → (Address → (function : ℕ) → Bool) → Type 0
MakesOne plan script v meant =
    (b : Branch) (answers : List Answer) → Meets (made_one meant) AnyPiece AnyStop IsMade false (service_meaning (context plan script) 65535 v b answers)

-- a command that passes is meant at each of its addresses
abbrev pub TellsOf : (Command → Bool) → (Address → (function : ℕ) → Bool) → Type 0
TellsOf test meant = (c : Command) → test c ≡ true → (at : Address) (f : ℕ) → is_told at f c ≡ true → meant at f ≡ true

-- the law: such a service of an accepted script makes one
abbrev pub SureOnesAreMade : Type 0
SureOnesAreMade =
    (plan : Layout) → IsPlan plan → (script : Script) (ks : List Bounds) → IsTrue (is_well_formed script) → accept plan script ≡ Ok ks
    → (test : Command → Bool) (meant : Address → (function : ℕ) → Bool) → TellsOf test meant
    → (i : ℕ) (v : Service) → slice_get script.services i ≡ Some v → slice_get (surely_of test plan script) i ≡ Some true → MakesOne plan script v meant
