-- Where a script is refused: at a statement of the body of a procedure or service, by the limit of its `each` loops, or by the numbers of its heading.
use Rattle.std.specs.Prelude.{◌≡◌, ◌⊎◌, ℕ, ◌+◌, ◌-◌, ◌<◌, ◌≤◌, List, [], ◌∷◌, ◌++◌, Option, Some, None, Result, Ok, Err}
use Rattle.camac_range.specs.Number.{greatest}
use Rattle.camac_lang.specs.Tree.{Statement, choose, choose_else, for_, for_each, while_, locked, Block, done, next, Script, spot_of}
use Rattle.camac_branch.specs.Plan.{Layout}
use Rattle.camac_model.specs.Fine.{Bounds, annotated}
use Rattle.camac_rules.specs.declared.case.Body.{Body}
use Rattle.camac_rules.specs.declared.case.Body.TheVariants as body
use Rattle.camac_rules.specs.declared.case.Case.{Case}
use Rattle.camac_rules.specs.declared.rule.CheckRule.{CheckRule}
use Rattle.camac_rules.specs.declared.rule.CheckRule.TheVariants.{TooManyWords, TooManyCycles, TooManySteps, TooManyTurns}
use Rattle.camac_rules.specs.Accept.{Section, of_procedure, of_service, at_start, own_body, accept_procedure, accept_service, with_procedure, bare, accept}
use Rattle.camac_rules.specs.Cases.{budget, judged_case}
use Rattle.camac_rules.specs.Costs.{costs, Verdict, unreached}
use Rattle.camac_rules.specs.Cycles.{Context, alone_in}
use Rattle.camac_rules.specs.EachLimit.{judged_limit, judged, count_block}
use Rattle.camac_rules.specs.Fault.{Fault, broken}
use Rattle.camac_rules.specs.Known.{Facts, Known}
use Rattle.camac_rules.specs.Procedures.{at_entry}
use Rattle.camac_rules.specs.Refusal.{◌>>=◌, if_reached}
use Rattle.camac_rules.specs.Statements.{accept_statement, accept_block}
use Rattle.camac_check_costs.specs.Bodies.{sections_of}
use Rattle.camac_laws.specs.ShownAddresses.{Place, HasPlace, BlockHasPlace}
use Rattle.camac_lang.specs.declared.spot.Spot.{Spot}

-- ---- a procedure or service

-- its name in a case, its body, what is known where that begins, and where its heading stands, with its numbers
abbrev pub named : Context → Section → Body
named c (of_procedure p) = own_body c
named c (of_service v) = body.Service v.lam

abbrev pub body_of : Section → Block
body_of (of_procedure p) = p.body
body_of (of_service v) = v.body

abbrev pub start_of : Section → Known
start_of (of_procedure p) = at_entry p.parameters
start_of (of_service v) = Some at_start

abbrev pub heading_spot : Section → Spot
heading_spot (of_procedure p) = p.spot
heading_spot (of_service v) = v.spot

abbrev pub heading_of : Section → Bounds
heading_of (of_procedure p) = annotated p
heading_of (of_service v) = costs v.cycles v.words greatest

-- what the rules find of its body, and of the whole
abbrev pub found_in : Context → Section → Result Verdict Fault
found_in c s = do
  counted ← count_block (named c s) (body_of s) 0
  if_reached unreached (start_of s) (accept_block c (alone_in (named c s)) (body_of s))

abbrev pub accept_section : Context → Section → Result Bounds Fault
accept_section c (of_procedure p) = accept_procedure c p
accept_section c (of_service v) = accept_service c v

-- ---- headings

-- the number that a rule on headings is about
abbrev pub number_of : CheckRule → Bounds → Option ℕ
number_of TooManyWords b = Some b.words
number_of TooManyCycles b = Some b.cycles
number_of TooManySteps b = Some b.steps
number_of rule b = None

-- The rule is about one number, of which the body costs more than its heading has. The case shows both.
pub record IsAboveHeading (c : Context) (s : Section) (found : Verdict) (rule : CheckRule) (spot : Spot) (case : Case) : Type 0 where
  pub needed : ℕ
  pub allowed : ℕ
  pub is_needed : number_of rule found.costs ≡ Some needed
  pub is_allowed : number_of rule (heading_of s) ≡ Some allowed
  pub above : allowed < needed
  pub shown : case ≡ budget (named c s) needed allowed
  pub spot_is : spot ≡ heading_spot s
  -- of a body that costs the same, a heading with any number that is at least the cost is not refused by this rule
  pub fixed : (other : Section) (n : ℕ) → found_in c other ≡ Ok found → number_of rule (heading_of other) ≡ Some n → needed ≤ n
      → (at : Spot) (shown : Case) → accept_section c other ≡ Err (broken rule at shown) → ⊥

-- Where the body of a procedure or service is accepted and the whole is not, its heading has too low a number.
abbrev pub HeadingsAreShown : Type 0
HeadingsAreShown =
    (c : Context) (s : Section) (found : Verdict) (rule : CheckRule) (spot : Spot) (case : Case) → found_in c s ≡ Ok found
    → accept_section c s ≡ Err (broken rule spot case) → IsAboveHeading c s found rule spot case

-- ---- the limit of `each` loops

-- those of a block in the order of the text, without those in them
abbrev mutual
  pub loops_in : Statement → List Statement
  loops_in (choose spot test a) = block_loops a
  loops_in (choose_else spot test a b) = block_loops a ++ block_loops b
  loops_in (for_ spot x e1 e2 keeps body) = block_loops body
  loops_in (for_each spot x v last body) = for_each spot x v last body ∷ []
  loops_in (while_ spot test most m keeps body) = block_loops body
  loops_in (locked spot e body) = block_loops body
  loops_in s = []

  pub block_loops : Block → List Statement
  block_loops done = []
  block_loops (next s rest) = loops_in s ++ block_loops rest

-- what is judged in all these
abbrev pub judged_in : List Statement → ℕ
judged_in [] = 0
judged_in (s ∷ rest) = judged s - 1 + judged_in rest

-- With this loop more is judged than the body may, and less without it. Nothing of the body is judged then.
pub record IsOverLimit (c : Context) (s : Section) (rule : CheckRule) (spot : Spot) (case : Case) : Type 0 where
  pub before : List Statement
  pub loop : Statement
  pub behind : List Statement
  pub all : block_loops (body_of s) ≡ before ++ loop ∷ behind
  pub fits : judged_in before ≤ judged_limit
  pub above : judged_limit < judged_in (before ++ loop ∷ [])
  pub rule_is : rule ≡ TooManyTurns
  pub shown : case ≡ judged_case (named c s) (judged_in (before ++ loop ∷ [])) judged_limit
  pub spot_is : spot ≡ spot_of loop

-- ---- places

abbrev pub IsAccepted : Context → Place → Type 0
IsAccepted c p = (v : Verdict) × (accept_statement c p.around p.statement p.known ≡ Ok v)

-- The statement at a place is refused so, at its spot, and none of those in its blocks is refused: the fault is its own.
pub record IsRefusedAt (c : Context) (p : Place) (rule : CheckRule) (spot : Spot) (case : Case) : Type 0 where
  pub refused : accept_statement c p.around p.statement p.known ≡ Err (broken rule spot case)
  pub spot_is : spot ≡ spot_of p.statement
  pub own : (q : Place) → HasPlace c q p.around p.statement p.known → IsAccepted c q

-- A statement of the body is refused so: it stands at a place to which the checker comes, as all before it are accepted.
pub record IsRefusedInside (c : Context) (s : Section) (rule : CheckRule) (spot : Spot) (case : Case) : Type 0 where
  pub start : Facts
  pub is_start : start_of s ≡ Some start
  pub place : Place
  pub inside : BlockHasPlace c place (alone_in (named c s)) (body_of s) start
  pub refused : IsRefusedAt c place rule spot case

-- The body is accepted, and its heading has too low a number.
abbrev pub IsRefusedByHeading : Context → Section → CheckRule → Spot → Case → Type 0
IsRefusedByHeading c s rule spot case = (found : Verdict) × (found_in c s ≡ Ok found) × IsAboveHeading c s found rule spot case

-- The checker comes to this procedure or service, with c as what it may refer to: all before it are accepted.
abbrev pub ComesTo : (c : Context) → Section → (from : Context) → List Section → Type 0
ComesTo c s from [] = ⊥
ComesTo c s from (of_procedure p ∷ rest) =
    ((c ≡ from) × (s ≡ of_procedure p)) ⊎ ((k : Bounds) × (accept_procedure from p ≡ Ok k) × ComesTo c s (with_procedure p from) rest)
ComesTo c s from (of_service v ∷ rest) =
    ((c ≡ from) × (s ≡ of_service v)) ⊎ ((k : Bounds) × (accept_service from v ≡ Ok k) × ComesTo c s from rest)

-- Where a script is refused, a statement of the first procedure or service that is refused has this fault, the loop that passes its limit, or the heading.
abbrev pub RefusedAtPlaces : Type 0
RefusedAtPlaces =
    (plan : Layout) (script : Script) (rule : CheckRule) (spot : Spot) (case : Case) → accept plan script ≡ Err (broken rule spot case)
    → (c : Context) × (s : Section) × ComesTo c s (bare (λ k. k) plan script) (sections_of script)
    × (IsOverLimit c s rule spot case ⊎ (IsRefusedInside c s rule spot case ⊎ IsRefusedByHeading c s rule spot case))
