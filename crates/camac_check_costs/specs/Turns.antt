-- The last turn that the checker begins of each `each` loop around a statement. A statement that is refused is refused there.
use Rattle.std.specs.Prelude.{ℕ, List, [], ◌∷◌, ◌++◌, codes, decimal, option_and_then, option_map, slice_get, unwrap_or, Option, Some, None, Result, Ok, Err, nat_eq, if◌then◌else◌}
use Rattle.camac_branch.specs.Plan.{Layout}
use Rattle.camac_lang.specs.Tree.{Text, Block, done, Parameter, Procedure, Service, Script}
use Rattle.camac_rules.specs.declared.case.Body.{Body}
use Rattle.camac_rules.specs.declared.case.Body.TheVariants as body
use Rattle.camac_rules.specs.Capped.{capped}
use Rattle.camac_rules.specs.Fault.{Fault}
use Rattle.camac_rules.specs.Known.{range_at}
use Rattle.camac_check_costs.specs.Places.{Place, each_around, place_with}
use Rattle.camac_check_costs.specs.declared.turns.EachLoop.{EachLoop}

abbrev Found : Type 0
Found = Result (Option Place) Fault

abbrev pub block_on : ℕ → List Service → Block
block_on l [] = done
block_on l (v ∷ vs) = if nat_eq v.lam l then v.body else block_on l vs

abbrev pub block_of : Script → Body → Block
block_of s (body.Procedure i) = unwrap_or (option_map (λ p. p.body) (slice_get s.procedures i)) done
block_of s (body.Service l) = block_on l s.services

abbrev pub parameter_in : (variable : ℕ) → Procedure → Option Text
parameter_in x p = option_map (λ (q : Parameter). q.name) (slice_get p.parameters x)

abbrev pub variable_in : Script → Body → (variable : ℕ) → Option Text
variable_in s (body.Procedure i) x = option_and_then (parameter_in x) (slice_get s.procedures i)
variable_in s (body.Service l) x = slice_get s.variables x

-- The greatest number that a variable may have at a place. Where the block of an `each` begins, that is the number of its variable in the last turn:
-- behind it a loop that writes the variable may make it greater.
abbrev pub last_number : (variable : ℕ) → Found → Option ℕ
last_number x (Ok (Some p)) = Some (range_at p.known.ranges x).hi
last_number x (Ok None) = None
last_number x (Err f) = None

abbrev pub turn_text : (name : Option Text) → (number : ℕ) → (outer : List ℕ) → List ℕ
turn_text name number [] = unwrap_or name [] ++ codes " = " ++ decimal number
turn_text name number (n ∷ ns) = codes ", " ++ unwrap_or name [] ++ codes " = " ++ decimal number

-- of each of these loops, in the last turn of those around it
abbrev pub turns_text : (find : (left : ℕ) → (turns : List ℕ) → Found) → (name : ℕ → Option Text) → List EachLoop → (outer : List ℕ) → List ℕ
turns_text find name [] outer = []
turns_text find name (l ∷ ls) outer =
    unwrap_or (option_map (λ n. turn_text (name l.variable) n outer ++ turns_text find name ls (outer ++ n ∷ [])) (last_number l.variable (find l.begin.left outer))) []

abbrev pub turn_of : Script → (left : ℕ) → (find : (left : ℕ) → (turns : List ℕ) → Found) → Found → List ℕ
turn_of s left find (Ok (Some p)) = turns_text find (variable_in s p.around.body) (each_around left (block_of s p.around.body)) []
turn_of s left find (Ok None) = []
turn_of s left find (Err f) = []

abbrev pub last_turn : Layout → Script → (left : ℕ) → List ℕ
last_turn plan s left = turn_of s left (place_with capped plan s) (place_with capped plan s left [])
