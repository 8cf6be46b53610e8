-- The guarded meaning: a procedure's body is wrong at once, unless its arguments are in the ranges of its heading. What is accepted means
-- the same with these guards as without them, and is not wrong: so each of its calls keeps to the ranges.
use Rattle.std.specs.Prelude.{◌≡◌, ◌≢◌, ℕ, zero, suc, ◌≤◌, List, [], ◌∷◌, ◌++◌, length, Some, Bool, true, ◌&&◌, nat_le, slice_get, Ok, IsTrue}
use Rattle.camac_lang.specs.Scope.{is_well_formed}
use Rattle.camac_lang.specs.Tree.{Expression, call, Block, Parameter, Procedure, Service, Script}
use Rattle.camac_branch.specs.Branch.{Branch, Answer, start}
use Rattle.camac_branch.specs.Plan.{Layout, IsPlan}
use Rattle.camac_model.specs.State.{State, Variables}
use Rattle.camac_model.specs.Behaviour.{Behaviour, stops, wrong, Action, unless_wrong, stop_of}
use Rattle.camac_model.specs.Value.{values}
use Rattle.camac_model.specs.Meaning.{Context, bare, context, entered, effect, block_meaning}
use Rattle.camac_model.specs.Run.{service_meaning, rounds, run}
use Rattle.camac_model.specs.Fine.{Bounds, most_turns, AreInRanges}
use Rattle.camac_model.specs.Moments.{Holds}
use Rattle.camac_model.specs.Headline.{nothing, right_watch}
use Rattle.camac_rules.specs.Accept.{accept}
use Rattle.camac_lang.specs.declared.spot.Spot.{Spot}

-- whether the first variables, which a body has its arguments in, are in the ranges of these parameters
abbrev pub begins_in_ranges : List Parameter → Variables → Bool
begins_in_ranges [] env = true
begins_in_ranges (p ∷ ps) env =
    nat_le p.low (env zero) && (nat_le (env zero) p.high && begins_in_ranges ps (λ x. env (suc x)))

-- a body with its guard
abbrev pub guarded : List Parameter → (ℕ → Action) → ℕ → Action
guarded ps body n s = unless_wrong (begins_in_ranges ps s.variables) (body n) s

-- a guarded body sees the procedures before it, which are guarded too
abbrev pub with_guarded : Context → Procedure → Context
with_guarded c p =
    record c { routines = c.routines ++ guarded p.parameters (λ n. block_meaning c n p.body) ∷ [] }

abbrev pub guarded_routines : Context → List Procedure → List (ℕ → Action)
guarded_routines c [] = c.routines
guarded_routines c (p ∷ ps) = guarded_routines (with_guarded c p) ps

-- what stands after these procedures of a script may refer to
abbrev pub guarded_after : Layout → Script → List Procedure → Context
guarded_after plan script ps = record (bare plan script) { routines = guarded_routines (bare plan script) ps }

-- what its services may refer to
abbrev pub guarded_context : Layout → Script → Context
guarded_context plan script = guarded_after plan script script.procedures

abbrev pub guarded_run : ℕ → Layout → Script → List Answer → Behaviour (Unit {0})
guarded_run n plan script answers =
    rounds (length answers) (guarded_context plan script) n script.services start answers

-- A guarded call whose arguments are not in the ranges is wrong. It has as many of them as its procedure has parameters: so has each call
-- of a well-formed script.
unfoldable pub GuardsStop : Type 0
GuardsStop =
    (plan : Layout) (script : Script) (ps : List Procedure) (j : ℕ) (p : Procedure) → slice_get ps j ≡ Some p
    → (n : ℕ) (spot : Spot) (es : List Expression) (s : State) (vs : List ℕ) → values es s.variables ≡ Some vs
    → length vs ≡ length p.parameters → (AreInRanges vs p.parameters → ⊥)
    → effect (guarded_after plan script ps) n (call spot j es) s ≡ stops wrong (entered vs s)

-- Guards do nothing else, whatever the script.
abbrev pub GuardsOnlyStop : Type 0
GuardsOnlyStop =
    (plan : Layout) (script : Script) (n : ℕ) (b : Block) (s : State)
    → stop_of (block_meaning (guarded_context plan script) n b s) ≢ Some wrong
    → block_meaning (guarded_context plan script) n b s ≡ block_meaning (context plan script) n b s

-- each call has its arguments in the ranges: with guards it all means the same, and nothing is wrong
pub record CallsKeepToRanges (plan : Layout) (script : Script) : Type 0 where
  -- in each service by itself, whatever the branch is like and answers
  pub services : (n : ℕ) → most_turns ≤ n → (i : ℕ) (v : Service) → slice_get script.services i ≡ Some v
      → (b : Branch) (answers : List Answer)
      → service_meaning (guarded_context plan script) n v b answers ≡ service_meaning (context plan script) n v b answers
  -- in each procedure by itself, on all arguments in range and from every state
  pub procedures : (n : ℕ) → most_turns ≤ n → (j : ℕ) (p : Procedure) (body guarded_body : ℕ → Action)
      → slice_get script.procedures j ≡ Some p → slice_get (context plan script).routines j ≡ Some body
      → slice_get (guarded_context plan script).routines j ≡ Some guarded_body
      → (vs : List ℕ) → AreInRanges vs p.parameters → (s : State) → guarded_body n (entered vs s) ≡ body n (entered vs s)
  -- in every run
  pub runs : (n : ℕ) → most_turns ≤ n → (answers : List Answer) → guarded_run n plan script answers ≡ run n plan script answers
  -- the guarded run is neither wrong nor in a loop without end
  pub right : (n : ℕ) → most_turns ≤ n → (answers : List Answer)
      → Holds right_watch nothing (guarded_run n plan script answers)

-- Each call of an accepted script has its arguments in the ranges.
unfoldable pub AcceptedCallsKeep : Type 0
AcceptedCallsKeep =
    (plan : Layout) (script : Script) (ks : List Bounds) → IsPlan plan → IsTrue (is_well_formed script)
    → accept plan script ≡ Ok ks → CallsKeepToRanges plan script
