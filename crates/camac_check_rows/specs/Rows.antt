-- What each statement has of the bound of its body: rows over what the checker's rules find. No rule is stated here.
use Rattle.std.specs.Prelude.{ℕ, ◌+◌, List, [], ◌∷◌, ◌++◌, map, Option, Some, None, Result, Ok, Err, option_map, unwrap_or}
use Rattle.camac_range.specs.Interval.{only}
use Rattle.camac_lang.specs.Tree.{Expression, Condition, Keep, Statement, choose, choose_else, for_, for_each, while_, locked, Block, done, next, spot_of}
use Rattle.camac_branch.specs.Plan.{crate_waits}
use Rattle.camac_model.specs.Fine.{Bounds}
use Rattle.camac_rules.specs.Fault.{Fault}
use Rattle.camac_rules.specs.Refusal.{◌>>=◌, if_reached}
use Rattle.camac_rules.specs.Known.{Facts, Known}
use Rattle.camac_rules.specs.Conditions.{Branches, branches, split}
use Rattle.camac_rules.specs.Costs.{costs, no_costs, Verdict, unreached}
use Rattle.camac_rules.specs.Cycles.{Context, Around, with_locked}
use Rattle.camac_rules.specs.Calls.{lock_rule}
use Rattle.camac_rules.specs.Loops.{with_fixed, for_limits, for_head, turns_between, while_head, turn_bound}
use Rattle.camac_rules.specs.Statements.{accept_statement, accept_block}
use Rattle.camac_check_rows.specs.declared.row.Kind.TheVariants as kind
use Rattle.camac_check_rows.specs.declared.row.Detail.{Detail}
use Rattle.camac_check_rows.specs.declared.row.Detail.TheVariants as detail
use Rattle.camac_check_rows.specs.declared.row.Row.{Row}
use Rattle.camac_check_rows.specs.declared.inside.Weight.{Weight}
use Rattle.camac_check_rows.specs.Statements.{kind_of, detail_of, first_row}
use Rattle.camac_check_rows.specs.Turns.{Turned, each_turned}
use Rattle.camac_check_rows.specs.Weights.{once, turning, first_arm, second_arm, inside_row}
use Rattle.camac_lang.specs.declared.spot.Spot.{Spot}

-- what is found where it is reached and not refused
abbrev pub found : {A : Type 0} → A → Result A Fault → A
found nothing (Ok x) = x
found nothing (Err f) = nothing

abbrev pub where_reached : {A : Type 0} → A → Known → (Facts → Result A Fault) → A
where_reached nothing k rule = found nothing (if_reached nothing k rule)

-- what the rules find of a statement and of a block
abbrev pub statement_verdict : Context → Around → Statement → Known → Verdict
statement_verdict c around s k = where_reached unreached k (accept_statement c around s)

abbrev pub block_verdict : Context → Around → Block → Known → Verdict
block_verdict c around b k = where_reached unreached k (accept_block c around b)

abbrev pub ways : Spot → Condition → Known → Branches
ways spot test k = where_reached (branches None None) k (split spot test)

-- the most turns of a loop, and what is known where its body begins
pub record Turning : Type 0 where
  pub turns : ℕ
  pub head : Known

abbrev pub turning_from : ℕ → Known → Turning
turning_from turns head = record { turns = turns; head = head }

abbrev pub for_turning : Around → Spot → ℕ → Expression → Expression → List Keep → Block → Known → Turning
for_turning around spot x e1 e2 keeps body k = where_reached (turning_from 0 None) k (λ q. do
  l ← for_limits around spot x e1 e2 keeps q
  Ok (turning_from (turns_between l) (for_head x l keeps body q)))

abbrev pub while_turning : Around → Spot → Condition → ℕ → ℕ → List Keep → Block → Known → Turning
while_turning around spot test most m keeps body k = where_reached (turning_from 0 None) k (λ q. do
  top ← while_head around.body spot most m keeps body q
  arms ← split spot test top
  Ok (turning_from (turn_bound arms.holds most) arms.holds))

-- the crate that a `lock` takes
abbrev pub taken : Context → Around → Spot → Expression → Known → Option ℕ
taken c around spot e k = where_reached None k (λ q. do
  crate_no ← lock_rule c around spot e q
  Ok (Some crate_no))

-- 1, or 0 where it can't be reached
abbrev pub times_at : Known → ℕ
times_at None = 0
times_at (Some k) = 1

-- a statement's own share, which a choice, loop or lock has beside its blocks
abbrev pub choice_share : Known → Bounds
choice_share None = no_costs
choice_share (Some k) = costs 0 0 1

-- a step, and one for each turn
abbrev pub loop_share : Known → ℕ → Bounds
loop_share None turns = no_costs
loop_share (Some k) turns = costs 0 0 (turns + 1)

abbrev pub loop_detail : Known → ℕ → Detail
loop_detail None turns = detail.Nothing
loop_detail (Some k) turns = detail.Turns turns

-- the waits for the crate, a step to take it, and one for its release
abbrev pub lock_share : Context → Option ℕ → Bounds
lock_share c None = no_costs
lock_share c (Some crate_no) = costs (unwrap_or (crate_waits c.plan crate_no) 0) 0 2

abbrev pub lock_detail : Option ℕ → Detail
lock_detail None = detail.Nothing
lock_detail (Some crate_no) = detail.Crates (only crate_no)

abbrev pub lock_inside : Option ℕ → Around → Around
lock_inside None around = around
lock_inside (Some crate_no) around = with_locked crate_no around

abbrev pub lock_head : Option ℕ → Known → Known
lock_head None k = None
lock_head (Some crate_no) k = k

-- the row of a statement without those of its blocks, where one time of it can cost what the rules find
abbrev pub own_row : Context → Around → Statement → Known → (share : Bounds) → Detail → Row
own_row c around s k share told = first_row (spot_of s) (kind_of s) (times_at k) (statement_verdict c around s k).costs share told

-- of a statement that holds no others: its share is all that it can cost
abbrev pub simple_row : Context → Around → Statement → Known → Row
simple_row c around s k = own_row c around s k (statement_verdict c around s k).costs (detail_of c s k)

-- of the second arm of a choice at this spot
abbrev pub else_row : Context → Around → Spot → Block → Known → Row
else_row c around spot b k = first_row spot kind.Else (times_at k) (block_verdict c around b k).costs no_costs detail.Nothing

-- rows of a block as those of its statement
abbrev pub inside : Context → Weight → List Row → List Row
inside c w rows = map (inside_row c.limit w) rows

-- the row of a statement and then the rows of its blocks: of a choice with one arm, with two, of a loop, and of a lock
abbrev pub if_rows : Context → Row → (rows : List Row) → List Row
if_rows c own rows = own ∷ inside c once rows

abbrev pub choice_rows : Context → Row → Bounds → List Row → Row → Bounds → List Row → List Row
choice_rows c own first rows otherwise second others =
    own ∷ inside c (first_arm first second) rows ++ otherwise ∷ inside c (second_arm first second) others

abbrev pub loop_rows : Context → Around → Statement → Known → Turning → (rows : List Row) → List Row
loop_rows c around s k turn rows = own_row c around s k (loop_share k turn.turns) (loop_detail k turn.turns) ∷ inside c (turning turn.turns) rows

-- of an `each`: its own, and those of all turns as one
abbrev pub each_rows : Context → Around → Statement → Known → Turned → List Row
each_rows c around s k t = own_row c around s k (loop_share k t.turns) (loop_detail k t.turns) ∷ inside c once t.rows

abbrev pub lock_rows : Context → Around → Statement → Known → Option ℕ → (rows : List Row) → List Row
lock_rows c around s k o rows = own_row c around s k (lock_share c o) (lock_detail o) ∷ inside c once rows

abbrev mutual
  pub statement_rows : Context → Around → Statement → Known → List Row
  statement_rows c around (choose spot test a) k =
      if_rows c (own_row c around (choose spot test a) k (choice_share k) detail.Nothing) (block_rows c around a (ways spot test k).holds)
  statement_rows c around (choose_else spot test a b) k =
      let arms = ways spot test k in
      choice_rows c (own_row c around (choose_else spot test a b) k (choice_share k) detail.Nothing)
      (block_verdict c around a arms.holds).costs (block_rows c around a arms.holds)
      (else_row c around spot b arms.fails) (block_verdict c around b arms.fails).costs (block_rows c around b arms.fails)
  statement_rows c around (for_ spot x e1 e2 keeps body) k =
      let turn = for_turning around spot x e1 e2 keeps body k in
      loop_rows c around (for_ spot x e1 e2 keeps body) k turn (block_rows c (with_fixed x around) body turn.head)
  statement_rows c around (for_each spot x v last body) k =
      each_rows c around (for_each spot x v last body) k
      (each_turned c.limit x v last (block_verdict c (with_fixed x around) body) (block_rows c (with_fixed x around) body) k)
  statement_rows c around (while_ spot test most m keeps body) k =
      let turn = while_turning around spot test most m keeps body k in
      loop_rows c around (while_ spot test most m keeps body) k turn (block_rows c around body turn.head)
  statement_rows c around (locked spot e body) k =
      let o = taken c around spot e k in
      lock_rows c around (locked spot e body) k o (block_rows c (lock_inside o around) body (lock_head o k))
  statement_rows c around s k = simple_row c around s k ∷ []

  -- one after the other, each at what the one before leaves
  pub block_rows : Context → Around → Block → Known → List Row
  block_rows c around done k = []
  block_rows c around (next s rest) k = statement_rows c around s k ++ block_rows c around rest (statement_verdict c around s k).after

-- these after those that are kept, if rows are kept
abbrev pub with_rows : Option (List Row) → List Row → Option (List Row)
with_rows kept rows = option_map (λ before. before ++ rows) kept
