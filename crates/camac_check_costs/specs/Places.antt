-- Where the checker comes while it judges a body, and the place of a statement by its spot.
use Rattle.std.specs.Prelude.{◌≡◌, ◌⊎◌, ℕ, zero, suc, ◌+◌, ◌-◌, ◌<◌, ◌≤◌, Bool, true, false, ◌&&◌, ◌||◌, List, [], ◌∷◌, ◌++◌, Option, Some, None, Result, Ok, Err, nat_eq, nat_le, nat_lt, if◌then◌else◌}
use Rattle.camac_lang.specs.declared.spot.Spot.{Spot}
use Rattle.camac_lang.specs.Tree.{Statement, choose, choose_else, for_, for_each, while_, locked, Block, done, next, Script, spot_of}
use Rattle.camac_range.specs.Interval.{Interval, only, IsWithin}
use Rattle.camac_branch.specs.Plan.{Layout}
use Rattle.camac_model.specs.Fine.{Bounds}
use Rattle.camac_rules.specs.declared.case.Body.{Body}
use Rattle.camac_rules.specs.declared.case.Body.TheVariants as body
use Rattle.camac_rules.specs.Accept.{Section, of_procedure, of_service, at_start, bare, own_body, with_procedure}
use Rattle.camac_rules.specs.Addresses.{crate_end, is_among}
use Rattle.camac_rules.specs.Calls.{lock_rule}
use Rattle.camac_rules.specs.Conditions.{Branches, split}
use Rattle.camac_rules.specs.Costs.{Verdict}
use Rattle.camac_rules.specs.Cycles.{Context, Around, alone_in, with_locked}
use Rattle.camac_rules.specs.Each.{each_begins}
use Rattle.camac_rules.specs.EachLimit.{count_block}
use Rattle.camac_rules.specs.Fault.{Fault}
use Rattle.camac_rules.specs.Joined.{join_facts}
use Rattle.camac_rules.specs.Known.{Region, Facts, Known, range_at, region_at, with_range}
use Rattle.camac_rules.specs.Loops.{Limits, with_fixed, for_limits, for_head, while_head}
use Rattle.camac_rules.specs.Procedures.{at_entry}
use Rattle.camac_rules.specs.Refusal.{◌>>=◌, if_reached}
use Rattle.camac_rules.specs.Statements.{accept_statement, accept_block}
use Rattle.camac_check_costs.specs.Bodies.{sections_of}
use Rattle.camac_check_costs.specs.declared.turns.EachLoop.{EachLoop}

-- a statement, what stands around it, and what is known where it begins
pub record Place : Type 0 where
  pub around : Around
  pub statement : Statement
  pub known : Facts

abbrev pub place : Around → Statement → Facts → Place
place around s k = record { around = around; statement = s; known = k }

-- known on a way that can be reached, where something holds
abbrev pub IfReached : Known → (Facts → Type 0) → Type 0
IfReached o P = (k : Facts) × (o ≡ Some k) × P k

-- What is known where a turn of an `each` begins, by its number from 0: its variable is a number alone, v in the first turn, and all else is as the turn
-- before has left it.
abbrev pub at_turn : (Facts → Result Verdict Fault) → (variable value turn : ℕ) → Facts → Result Known Fault
at_turn check x v zero k = Ok (Some (with_range x (only v) k))
at_turn check x v (suc i) k = do
  turn ← check (with_range x (only v) k)
  if_reached None turn.after (at_turn check x (v + 1) i)

-- The places in a statement, and in a block, that is judged from what is known where it begins. A statement of a block is
-- judged where those before it are accepted; the second arm of an `if` is a place whether or not the first one is accepted.
abbrev mutual
  pub HasPlace : Context → Place → Around → Statement → Facts → Type 0
  HasPlace c p around (choose spot test a) k =
      (arms : Branches) × (split spot test k ≡ Ok arms) × IfReached arms.holds (λ t. BlockHasPlace c p around a t)
  HasPlace c p around (choose_else spot test a b) k =
      (arms : Branches) × (split spot test k ≡ Ok arms)
      × (IfReached arms.holds (λ t. BlockHasPlace c p around a t) ⊎ IfReached arms.fails (λ t. BlockHasPlace c p around b t))
  HasPlace c p around (locked spot e body) k =
      (n : ℕ) × (lock_rule c around spot e k ≡ Ok n) × BlockHasPlace c p (with_locked n around) body k
  HasPlace c p around (for_ spot x e1 e2 keeps body) k =
      (l : Limits) × (for_limits around spot x e1 e2 keeps k ≡ Ok l)
      × IfReached (for_head x l keeps body k) (λ t. BlockHasPlace c p (with_fixed x around) body t)
  HasPlace c p around (for_each spot x v last body) k =
      (turns : ℕ) × (each_begins around spot x v last ≡ Ok turns)
      × ((turn : ℕ) × (turn < turns)
      × ((t : Facts) × (at_turn (accept_block c (with_fixed x around) body) x v turn k ≡ Ok (Some t)) × BlockHasPlace c p (with_fixed x around) body t))
  HasPlace c p around (while_ spot test most m keeps body) k =
      (top : Facts) × (while_head around.body spot most m keeps body k ≡ Ok top)
      × ((arms : Branches) × (split spot test top ≡ Ok arms) × IfReached arms.holds (λ t. BlockHasPlace c p around body t))
  HasPlace c p around s k = ⊥

  pub BlockHasPlace : Context → Place → Around → Block → Facts → Type 0
  BlockHasPlace c p around done k = ⊥
  BlockHasPlace c p around (next s rest) k =
      (p ≡ place around s k)
      ⊎ (HasPlace c p around s k
      ⊎ ((v : Verdict) × (accept_statement c around s k ≡ Ok v) × IfReached v.after (λ t. BlockHasPlace c p around rest t)))

-- ---- by spots: a statement is told from all others by how many bytes of the text stand from its first token on

abbrev pub begins_at : (left : ℕ) → Statement → Bool
begins_at left s = nat_eq (spot_of s).left left

abbrev mutual
  -- whether a statement in it begins there
  pub holds_inside : (left : ℕ) → Statement → Bool
  holds_inside left (choose spot test a) = holds left a
  holds_inside left (choose_else spot test a b) = holds left a || holds left b
  holds_inside left (for_ spot x e1 e2 keeps body) = holds left body
  holds_inside left (for_each spot x v last body) = holds left body
  holds_inside left (while_ spot test most x keeps body) = holds left body
  holds_inside left (locked spot e body) = holds left body
  holds_inside left s = false

  pub holds : (left : ℕ) → Block → Bool
  holds left done = false
  holds left (next s rest) = (begins_at left s || holds_inside left s) || holds left rest

-- itself or one in it
abbrev pub holds_at : (left : ℕ) → Statement → Bool
holds_at left s = begins_at left s || holds_inside left s

-- where a block in this statement begins
abbrev pub begin_of : Spot → Block → Spot
begin_of spot done = spot
begin_of spot (next s rest) = spot_of s

abbrev mutual
  -- the `each` loops around the statement, the outermost first
  pub each_inside : (left : ℕ) → Statement → List EachLoop
  each_inside left (choose spot test a) = each_around left a
  each_inside left (choose_else spot test a b) = if holds left a then each_around left a else each_around left b
  each_inside left (for_ spot x e1 e2 keeps body) = each_around left body
  each_inside left (for_each spot x v last body) = record { variable = x; begin = begin_of spot body } ∷ each_around left body
  each_inside left (while_ spot test most x keeps body) = each_around left body
  each_inside left (locked spot e body) = each_around left body
  each_inside left s = []

  pub each_around : (left : ℕ) → Block → List EachLoop
  each_around left done = []
  each_around left (next s rest) = if holds_at left s then (if begins_at left s then [] else each_inside left s) else each_around left rest

abbrev pub each_at : (left : ℕ) → Statement → List EachLoop
each_at left s = if begins_at left s then [] else each_inside left s

-- Turns are chosen by the numbers that the variables have in them, of the outermost `each` around the statement first. Whether one is chosen of each of
-- these; of others all turns are meant.
abbrev pub chosen_inside : (List ℕ → Bool) → (turns : List ℕ) → Bool
chosen_inside inside [] = false
chosen_inside inside (value ∷ turns) = inside turns

abbrev pub are_chosen : List EachLoop → (turns : List ℕ) → Bool
are_chosen [] turns = true
are_chosen (l ∷ ls) turns = chosen_inside (are_chosen ls) turns

-- ---- what is told over turns

-- the crates below a number that are locked in both; the loops around are no part of what is told
abbrev pub locked_in_both : (below : ℕ) → Around → Around → Around
locked_in_both zero a b = alone_in a.body
locked_in_both (suc c) a b =
    if is_among c a.locked && is_among c b.locked then with_locked c (locked_in_both c a b) else locked_in_both c a b

-- of one statement, what is known at both places
abbrev pub place_of_both : Place → Place → Place
place_of_both p q = place (locked_in_both crate_end p.around q.around) p.statement (join_facts p.known q.known)

-- a turn that does not come to it adds nothing
abbrev pub told_of_both : Option Place → Option Place → Option Place
told_of_both None q = q
told_of_both (Some p) None = Some p
told_of_both (Some p) (Some q) = Some (place_of_both p q)

-- what is known after a block, where it is accepted
abbrev pub left_by : Result Verdict Fault → Known
left_by (Ok v) = v.after
left_by (Err f) = None

-- What is told over further turns, where the variable has this value in the next one, after what is told so far. The turn in which the block is refused
-- is the last one.
abbrev pub over_turns : (turns variable value : ℕ) → (Facts → Result Verdict Fault) → (Facts → Result (Option Place) Fault) → Facts → (so_far : Option Place) → Result (Option Place) Fault
over_turns zero x v check find k so_far = Ok so_far
over_turns (suc n) x v check find k so_far = do
  here ← find (with_range x (only v) k)
  if_reached (told_of_both so_far here) (left_by (check (with_range x (only v) k)))
      (λ q. over_turns n x (v + 1) check find q (told_of_both so_far here))

-- In the turn in which the variable is the number that is chosen, or over all turns. None where no turn has that number.
abbrev pub in_turns : (turns variable first : ℕ) → (Facts → Result Verdict Fault) → (List ℕ → Facts → Result (Option Place) Fault) → Facts → (chosen : List ℕ) → Result (Option Place) Fault
in_turns n x v check find k [] = over_turns n x v check (find []) k None
in_turns n x v check find k (value ∷ inner) =
    if nat_le v value && nat_lt (value - v) n then (do
      known ← at_turn check x v (value - v) k
      if_reached None known (find inner))
    else Ok None

-- The place of the statement that begins there, in the turns that are chosen; none where it is not reached, or is not there. Where one before it is
-- refused, the refusal.
abbrev mutual
  pub place_inside : Context → Around → Statement → Facts → (left : ℕ) → (turns : List ℕ) → Result (Option Place) Fault
  place_inside c around (choose spot test a) k left turns = do
    arms ← split spot test k
    if_reached None arms.holds (λ t. place_in_block c around a t left turns)
  place_inside c around (choose_else spot test a b) k left turns = do
    arms ← split spot test k
    if holds left a then if_reached None arms.holds (λ t. place_in_block c around a t left turns)
        else if_reached None arms.fails (λ t. place_in_block c around b t left turns)
  place_inside c around (locked spot e body) k left turns = do
    crate_no ← lock_rule c around spot e k
    place_in_block c (with_locked crate_no around) body k left turns
  place_inside c around (for_ spot x e1 e2 keeps body) k left turns = do
    l ← for_limits around spot x e1 e2 keeps k
    if_reached None (for_head x l keeps body k) (λ t. place_in_block c (with_fixed x around) body t left turns)
  place_inside c around (for_each spot x v last body) k left turns = do
    count ← each_begins around spot x v last
    in_turns count x v (accept_block c (with_fixed x around) body) (λ inner t. place_in_block c (with_fixed x around) body t left inner) k turns
  place_inside c around (while_ spot test most x keeps body) k left turns = do
    top ← while_head around.body spot most x keeps body k
    arms ← split spot test top
    if_reached None arms.holds (λ t. place_in_block c around body t left turns)
  place_inside c around s k left turns = Ok None

  pub place_in_block : Context → Around → Block → Facts → (left : ℕ) → (turns : List ℕ) → Result (Option Place) Fault
  place_in_block c around done k left turns = Ok None
  place_in_block c around (next s rest) k left turns =
      if holds_at left s then (if begins_at left s then Ok (Some (place around s k)) else place_inside c around s k left turns)
      else (do
        v ← accept_statement c around s k
        if_reached None v.after (λ t. place_in_block c around rest t left turns))

-- of one statement, itself or one in it
abbrev pub place_in : Context → Around → Statement → Facts → (left : ℕ) → (turns : List ℕ) → Result (Option Place) Fault
place_in c around s k left turns = if begins_at left s then Ok (Some (place around s k)) else place_inside c around s k left turns

-- In a body, from what is known where it begins. How much its `each` loops judge is counted before it is judged.
abbrev pub place_in_body : Context → Body → Block → Known → (left : ℕ) → (turns : List ℕ) → Result (Option Place) Fault
place_in_body c whose b known left turns = do
  judged ← count_block whose b 0
  if_reached None known (λ k. place_in_block c (alone_in whose) b k left turns)

-- in the first body that holds it
abbrev pub place_over : Context → List Section → (left : ℕ) → (turns : List ℕ) → Result (Option Place) Fault
place_over c [] left turns = Ok None
place_over c (of_procedure p ∷ rest) left turns =
    if holds left p.body then place_in_body c (own_body c) p.body (at_entry p.parameters) left turns else place_over (with_procedure p c) rest left turns
place_over c (of_service v ∷ rest) left turns =
    if holds left v.body then place_in_body c (body.Service v.lam) v.body (Some at_start) left turns else place_over c rest left turns

abbrev pub place_with : (Bounds → Bounds) → Layout → Script → (left : ℕ) → (turns : List ℕ) → Result (Option Place) Fault
place_with limit plan s left turns = place_over (bare limit plan s) (sections_of s) left turns

-- ---- laws

-- the checker comes to this place while it judges the block, and the statement there begins at this byte
abbrev pub IsAt : Context → Around → Block → Facts → (left : ℕ) → Place → Type 0
IsAt c around block start left p = BlockHasPlace c p around block start × (begins_at left p.statement ≡ true)

-- The place that is found is such a one: where no `each` stands around the statement, and in turns that are chosen.
abbrev pub PlacesAreFound : Type 0
PlacesAreFound =
    (c : Context) (around : Around) (block : Block) (start : Facts) (left : ℕ) (turns : List ℕ) (p : Place) → are_chosen (each_around left block) turns ≡ true
    → place_in_block c around block start left turns ≡ Ok (Some p) → IsAt c around block start left p

-- of several places what is known at all of them, and no less
pub data IsTold (P : Place → Type 0) : Place → Type 0 where
  at_one : (p : Place) → P p → IsTold P p
  at_both : (p q : Place) → IsTold P p → IsTold P q → IsTold P (place_of_both p q)

-- Over several turns that is told of such places.
abbrev pub TurnsAreTold : Type 0
TurnsAreTold =
    (c : Context) (around : Around) (block : Block) (start : Facts) (left : ℕ) (turns : List ℕ) (told : Place)
    → place_in_block c around block start left turns ≡ Ok (Some told) → IsTold (IsAt c around block start left) told

-- each number of a range is one of those that are told
abbrev pub IsPart : Interval → Interval → Type 0
IsPart r told = (v : ℕ) → IsWithin r v → IsWithin told v

pub record IsPartOf (g told : Region) : Type 0 where
  pub crates : IsPart g.crates told.crates
  pub stations : IsPart g.stations told.stations
  pub sub_addresses : IsPart g.sub_addresses told.sub_addresses

-- a register that is told to be set is set, to one of the addresses that are told
abbrev pub IsSetSo : (told : Option Region) → Option Region → Type 0
IsSetSo None o = Unit {0}
IsSetSo (Some told) None = ⊥
IsSetSo (Some told) (Some g) = IsPartOf g told

-- what is told holds at this place
pub record HoldsAt (p told : Place) : Type 0 where
  pub statement : p.statement ≡ told.statement
  pub body : p.around.body ≡ told.around.body
  pub ranges : (x : ℕ) → IsPart (range_at p.known.ranges x) (range_at told.known.ranges x)
  pub registers : (r : ℕ) → IsSetSo (region_at told.known.registers r) (region_at p.known.registers r)
  pub locked : (crate_no : ℕ) → is_among crate_no told.around.locked ≡ true → is_among crate_no p.around.locked ≡ true

-- the checker comes to this place, so that something has to be told which holds there, or a refusal
abbrev pub IsCovered : Place → Result (Option Place) Fault → Type 0
IsCovered p (Ok None) = ⊥
IsCovered p (Ok (Some told)) = HoldsAt p told
IsCovered p (Err refusal) = Unit {0}

abbrev mutual
  -- how many statements in it begin there
  pub begin_inside : (left : ℕ) → Statement → ℕ
  begin_inside left (choose spot test a) = begin_in left a
  begin_inside left (choose_else spot test a b) = begin_in left a + begin_in left b
  begin_inside left (for_ spot x e1 e2 keeps body) = begin_in left body
  begin_inside left (for_each spot x v last body) = begin_in left body
  begin_inside left (while_ spot test most x keeps body) = begin_in left body
  begin_inside left (locked spot e body) = begin_in left body
  begin_inside left s = 0

  pub begin_in : (left : ℕ) → Block → ℕ
  begin_in left done = 0
  begin_in left (next s rest) = (if begins_at left s then 1 else 0) + begin_inside left s + begin_in left rest

-- Where one statement begins at a byte, `not reached` is told exactly if the checker does not come to it: at each place to which it comes holds what is
-- told.
abbrev pub PlacesAreReached : Type 0
PlacesAreReached =
    (c : Context) (around : Around) (block : Block) (start : Facts) (left : ℕ) (p : Place) → begin_in left block ≤ 1
    → IsAt c around block start left p → IsCovered p (place_in_block c around block start left [])

-- What is told over all turns holds in each of them.
abbrev pub TurnsAreCovered : Type 0
TurnsAreCovered =
    (c : Context) (around : Around) (block : Block) (start : Facts) (left : ℕ) (turns inner : List ℕ) (p : Place)
    → place_in_block c around block start left (turns ++ inner) ≡ Ok (Some p) → IsCovered p (place_in_block c around block start left turns)
