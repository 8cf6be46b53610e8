-- What a run makes of an accepted body keeps to its rows: one induction over statements.
use Rattle.std.proofs.Common.{◌≡◌, ℕ, ◌+◌, ◌-◌, ◌*◌, ◌^◌, ◌<◌, ◌≤◌, zero, suc, List, [], ◌∷◌, ◌++◌, Option, Some, None, Result, Ok, Err, Bool, true, false, refl, sym, ap, subst, ◌∙◌, arith}
use Rattle.std.proofs.lemmas.Bool.{ltb-true, ltb-false}
use Rattle.std.specs.Prelude.{IfOk, nat_lt, unwrap_or, if◌then◌else◌}
use Rattle.camac_lang.specs.Tree.{Expression, Condition, Keep, Statement, assign, set_register, single, address_scan, q_stop, q_repeat, put, crate_call, lam_call, choose, choose_else, for_, for_each, while_, locked, call, Block, done, next}
use Rattle.camac_range.specs.Number.{greatest}
use Rattle.camac_range.specs.Interval.{only}
use Rattle.camac_branch.specs.Branch.{Answer}
use Rattle.camac_branch.specs.Plan.{Layout, crate_waits}
use Rattle.camac_model.specs.State.{State, stepped}
use Rattle.camac_model.specs.Behaviour.{Behaviour, does, ends, stops, Stop, Action, reached}
use Rattle.camac_model.specs.Cycle.{Outcome, no_crate, no_answer, too_long, answered, outcome, after_lock}
use Rattle.camac_model.specs.Value.{value, truth}
use Rattle.camac_model.specs.Moments.{Meets}
use Rattle.camac_model.specs.Fine.{Bounds, most_turns}
use Rattle.camac_model.specs.Meaning.{for_state, effect, meaning, block_meaning}
use Rattle.camac_rules.specs.Fault.{Fault}
use Rattle.camac_rules.specs.Refusal.{go_on, required, if_reached}
use Rattle.camac_rules.specs.Known.{Facts, Known, with_range}
use Rattle.camac_rules.specs.Conditions.{Branches, branches, split}
use Rattle.camac_rules.specs.Capped.{capped}
use Rattle.camac_rules.specs.Costs.{costs, no_costs, plus, choice_costs, lock_costs, loop_costs, Verdict, unreached}
use Rattle.camac_rules.specs.Cycles.{Context, Around, with_locked}
use Rattle.camac_rules.specs.Calls.{lock_rule}
use Rattle.camac_rules.specs.Loops.{Limits, with_fixed, for_limits, for_head, head, keeps_hold_after, turns_between, values_between, while_head, turn_bound}
use Rattle.camac_rules.specs.Each.{turn_costs, each_turns, each_from, each_begins}
use Rattle.camac_rules.specs.Statements.{accept_statement, accept_block}
use Rattle.camac_rules.proofs.Allows.{Allows}
use Rattle.camac_rules.proofs.Stores.{Place, around_of, fixing, holding, Inside, Reaches}
use Rattle.camac_rules.proofs.Conditions.{Decides, split_each}
use Rattle.camac_rules.proofs.Values.{Fits, only_within}
use Rattle.camac_rules.proofs.Sound.{Paid, step, SafePiece, StopsWell, EndsWell, Sound, SoundFor}
use Rattle.camac_rules.proofs.Actions.{Setting, of, HasWidths, seen, value_of, inside_written}
use Rattle.camac_rules.proofs.Held.{MayLock, lock_allowed, lock_taken}
use Rattle.camac_rules.proofs.ForLoops as counting
use Rattle.camac_rules.proofs.ForLoops.{limits_allowed}
use Rattle.camac_rules.proofs.WhileLoops as turning_while
use Rattle.camac_rules.proofs.WhileLoops.{head_allowed}
use Rattle.camac_rules.proofs.Lockless.{has_lock, block_has_lock}
use Rattle.camac_rules.proofs.Routines.{Serves}
use Rattle.camac_rules.proofs.Statements.{may_first, may_second, reached_sound, statement_sound, block_sound}
use Rattle.camac_check.proofs.Capped.{in_code, cut, cut_all, if_reached_cut, statement_cut, block_cut}
use Rattle.camac_check_rows.specs.declared.row.Detail.{Detail}
use Rattle.camac_check_rows.specs.declared.row.Row.{Row}
use Rattle.camac_check_rows.specs.declared.inside.Weight.{Weight}
use Rattle.camac_check_rows.specs.Weights.{once, turning, first_arm, second_arm, in_64_bits}
use Rattle.camac_check_rows.specs.Turns.{merge, Turned, turned, turns_over, each_turned}
use Rattle.camac_check_rows.specs.Rows.{found, block_verdict, Turning, turning_from, ways, for_turning, while_turning, taken, lock_inside, lock_head, own_row, else_row, inside, statement_rows, block_rows}
use Rattle.camac_laws.specs.Lower.{AtMost}
use Rattle.camac_laws.specs.Made.{Made, spent, both, from_end, where_some, by_test, for_made, while_made, lock_made, unmade_in, unmade, made_in, made, NoMore}
use Rattle.camac_laws.specs.CostsBounds.{IsBelow}
use Rattle.camac_laws.proofs.Shares.{required_ok, go_ok, ok_same}
use Rattle.camac_laws.proofs.MadeLists.{KeepsIn, AllIn, in_more, in_both, in_append, none_inside, all_inside, AllAdd, same_more, none_merged, adds_in, adds_none, adds_turn, turns_none, turns_unmade}
use Rattle.camac_laws.proofs.Sums.{if_below, choice_below, lock_below, then_below, loop_low, loop_room, turn_then_below, begun}
use Rattle.camac_laws.proofs.Times.{no_more_up, no_more_merged, block_never, block_in_steps, turns_from_in_steps}
use Rattle.camac_lang.specs.declared.spot.Spot.{Spot}

-- ---- what is not made

none_row : (r : Row) → KeepsIn 0 r []
none_row r = record { few = omega arith; each = tt }

mutual
  unfolding if_reached

  unmade_statement : (r : Context) (around : Around) (s : Statement) (k : Known) → AllIn 0 (statement_rows (in_code r) around s k) ([] ∷ unmade_in s)
  unmade_statement r around (assign spot x e) k = (none_row _, tt)
  unmade_statement r around (set_register spot p e1 e2 e3) k = (none_row _, tt)
  unmade_statement r around (single spot size f p move) k = (none_row _, tt)
  unmade_statement r around (address_scan spot f r1 r2 max x) k = (none_row _, tt)
  unmade_statement r around (q_stop spot f p t max x) k = (none_row _, tt)
  unmade_statement r around (q_repeat spot f p t max limit x) k = (none_row _, tt)
  unmade_statement r around (put spot e) k = (none_row _, tt)
  unmade_statement r around (crate_call spot which e) k = (none_row _, tt)
  unmade_statement r around (lam_call spot which l) k = (none_row _, tt)
  unmade_statement r around (call spot p es) k = (none_row _, tt)
  unmade_statement r around (choose spot test a) k = (none_row _, none_inside once _ (unmade a) (unmade_block r around a (ways spot test k).holds))
  unmade_statement r around (choose_else spot test a b) k =
      let arms = ways spot test k in
      let first = (block_verdict (in_code r) around a arms.holds).costs in
      let second = (block_verdict (in_code r) around b arms.fails).costs in (
        none_row _,
        in_append 0 (inside (in_code r) (first_arm first second) (block_rows (in_code r) around a arms.holds)) _ (unmade a) _
            (none_inside (first_arm first second) _ (unmade a) (unmade_block r around a arms.holds))
            (none_row _, none_inside (second_arm first second) _ (unmade b) (unmade_block r around b arms.fails)),
      )
  unmade_statement r around (for_ spot x e1 e2 keeps body) k =
      let turn = for_turning around spot x e1 e2 keeps body k in
      (none_row _, none_inside (turning turn.turns) _ (unmade body) (unmade_block r (with_fixed x around) body turn.head))
  unmade_statement r around (for_each spot x v last body) k =
      let rows = block_rows (in_code r) (with_fixed x around) body in (
        none_row _,
        none_inside once _ (unmade body)
            (turns_none (block_verdict (in_code r) (with_fixed x around) body) rows (unmade body) (λ q. unmade_block r (with_fixed x around) body q) (last + 1 - v) x v k (turned 0 (rows None)) (unmade_block r (with_fixed x around) body None)),
      )
  unmade_statement r around (while_ spot test most m keeps body) k =
      let turn = while_turning around spot test most m keeps body k in
      (none_row _, none_inside (turning turn.turns) _ (unmade body) (unmade_block r around body turn.head))
  unmade_statement r around (locked spot e body) k =
      let o = taken (in_code r) around spot e k in
      (none_row _, none_inside once _ (unmade body) (unmade_block r (lock_inside o around) body (lock_head o k)))

  unmade_block : (r : Context) (around : Around) (b : Block) (k : Known) → AllIn 0 (block_rows (in_code r) around b k) (unmade b)
  unmade_block r around done k = tt
  unmade_block r around (next s rest) k =
      in_append 0 (statement_rows (in_code r) around s k) _ ([] ∷ unmade_in s) (unmade rest) (unmade_statement r around s k) (unmade_block r around rest _)

-- ---- what a behaviour leaves

sound_paid : (plan : Layout) (around : Place) (after : Known) (k : Bounds) (s : State) (b : Behaviour State) → Sound plan around after k s b → Paid k s (reached b)
sound_paid plan around after k s (does p b) h = sound_paid plan around after k s b h.1
sound_paid plan around after k s (ends t) h = h.paid
sound_paid plan around after k s (stops w t) h = h.paid

from_end_holds : (H : Made → Type 0) (plan : Layout) (P : Unit {0} → Stop → State → Type 0) (Q : Unit {0} → State → Type 0) (b : Behaviour State) (go : State → Made) (none : Made)
    → Meets step (SafePiece plan) P Q tt b → ((t : State) → Q tt t → H (go t)) → H none → H (from_end b go none)
from_end_holds H plan P Q (does p b) go none h f g = from_end_holds H plan P Q b go none h.1 f g
from_end_holds H plan P Q (ends t) go none h f g = f t h
from_end_holds H plan P Q (stops w t) go none h f g = g

test_keeps : (m : ℕ) (rows : List Row) (around : Place) (o : Option Bool) (arms : Branches) (t : State) (first second none : Made)
    → Decides around o arms t → (Reaches around arms.holds t → AllIn m rows first) → (Reaches around arms.fails t → AllIn m rows second) → AllIn m rows (by_test o first second none)
test_keeps m rows around None arms t first second none d f g = absurd d
test_keeps m rows around (Some true) arms t first second none d f g = f d
test_keeps m rows around (Some false) arms t first second none d f g = g d

lock_keeps : (m : ℕ) (rows : List Row) (c : ℕ) (o : Outcome) (go : State → Made) (none : Made) (s : State)
    → ((wait : ℕ) (rest : List Answer) → AllIn m rows (go (after_lock c wait rest s))) → AllIn m rows none → AllIn m rows (lock_made c o go none s)
lock_keeps m rows c no_crate go none s f g = g
lock_keeps m rows c no_answer go none s f g = g
lock_keeps m rows c (too_long w) go none s f g = g
lock_keeps m rows c (answered a rest) go none s f g = f a.wait rest

if_keeps : (m : ℕ) (rows : List Row) (b : Bool) (none other : Made) → AllIn m rows none → AllIn m rows other → AllIn m rows (if b then none else other)
if_keeps m rows true none other f g = f
if_keeps m rows false none other f g = g

allowed_at : {A : Type 0} {r : Result A Fault} {P : A → Type 0} (x : A) → Allows r P → r ≡ Ok x → P x
allowed_at {A} {r} {P} x h e = subst (λ q. IfOk q P) e h.holds

-- ---- of what is accepted, with at most n turns per loop

module _ (c : Setting) (narrow : HasWidths c.plan) (serves : Serves c) (n : ℕ) (le : most_turns ≤ n) where
  abbrev Code : Context
  Code = in_code (seen c)

  -- what the rules find in numbers of any size
  record Judged (around : Place) (k : Known) (run : ℕ → Action) (v : Verdict) : Type 0 where
    whole : Verdict
    is : cut whole ≡ v
    sound : SoundFor c.plan around k run whole

  same_costs : (w v : Verdict) → cut w ≡ v → IsBelow v.costs → w.costs ≡ v.costs
  same_costs w v e low =
      let costs_are : capped w.costs ≡ v.costs = ap (λ x. x.costs) e in
      let b : IsBelow (capped w.costs) = subst IsBelow (sym costs_are) low in
      let m : w.costs ≡ capped w.costs = uncapped w.costs b in
      m ∙ costs_are
    where
      same : (a b c' d e f : ℕ) → a ≡ d → b ≡ e → c' ≡ f → costs a b c' ≡ costs d e f
      same a b c' d e f p q r = cc

      uncapped : (x : Bounds) → IsBelow (capped x) → x ≡ capped x
      uncapped x (b0, b1, b2) = same _ _ _ _ _ _ (omega arith) (omega arith) (omega arith)

  whole_of : (around : Place) (k : Known) (run : ℕ → Action) (q r : Result Verdict Fault) (v : Verdict) → q ≡ cut_all r → q ≡ Ok v → IfOk r (SoundFor c.plan around k run) → Judged around k run v
  whole_of around k run q (Ok w) v is e h = record { whole = w; is = ok_same (cut w) v (sym is ∙ e); sound = h }
  whole_of around k run q (Err f) v is e h = absurd (cc)

  judged : (around : Place) (st : Statement) → MayLock around (has_lock st) → (k : Facts) (v : Verdict) → accept_statement Code (around_of around) st k ≡ Ok v
      → Judged around (Some k) (λ m s. effect (of c) m st (stepped s)) v
  judged around st may k v e =
      whole_of around (Some k) (λ m s. effect (of c) m st (stepped s)) (accept_statement Code (around_of around) st k) (accept_statement (seen c) (around_of around) st k) v
      (statement_cut (seen c) (around_of around) st k) e (statement_sound c narrow serves around st may k).holds

  judged_block : (around : Place) (b : Block) → MayLock around (block_has_lock b) → (k : Known) (v : Verdict) → if_reached unreached k (accept_block Code (around_of around) b) ≡ Ok v
      → Judged around k (λ m. block_meaning (of c) m b) v
  judged_block around b may k v e =
      whole_of around k (λ m. block_meaning (of c) m b) (if_reached unreached k (accept_block Code (around_of around) b)) (if_reached unreached k (accept_block (seen c) (around_of around) b)) v
      (if_reached_cut k (accept_block Code (around_of around) b) (accept_block (seen c) (around_of around) b) (λ q. block_cut (seen c) (around_of around) b q)) e
      (reached_sound c around b k (λ q. block_sound c narrow serves around b may q)).holds

  abbrev run : Block → Action
  run body = block_meaning (of c) n body

  -- so much was paid
  spent_most : (v : Bounds) (s t : State) → Paid v s t → (let k = spent s t in (k.cycles ≤ v.cycles) × (k.words ≤ v.words) × (k.steps ≤ v.steps))
  spent_most v s t p = (omega (arith, p.cycles), omega (arith, p.words), omega (arith, p.steps))

  own_keeps : (around : Place) (st : Statement) → MayLock around (has_lock st) → (k : Facts) (v : Verdict) (share : Bounds) (told : Detail) → accept_statement Code (around_of around) st k ≡ Ok v → IsBelow v.costs
      → (s : State) → Inside around k s → KeepsIn 1 (own_row Code (around_of around) st (Some k) share told) (spent s (reached (meaning (of c) n st s)) ∷ [])
  unfolding if_reached
  own_keeps around st may k v share told e low s i =
      let j = judged around st may k v e in
      let t : State = reached (meaning (of c) n st s) in
      let paid : Paid j.whole.costs s t = sound_paid c.plan around j.whole.after j.whole.costs s (meaning (of c) n st s) (j.sound.each n le s i) in
      let most = spent_most v.costs s t (subst (λ b. Paid b s t) (same_costs j.whole v j.is low) paid) in
      let each_is : v.costs ≡ (found unreached (accept_statement Code (around_of around) st k)).costs = ap (λ q. (found unreached q).costs) (sym e) in
      record { few = omega arith; each = (subst (λ b. AtMost (spent s t) b) each_is (record { cycles = most.0; words = most.1; steps = most.2 }), tt) }

  stepped_inside : (around : Place) (k : Facts) (s : State) → Inside around k s → Inside around k (stepped s)
  stepped_inside around k s i = record { variables = i.variables; registers = i.registers; locks = i.locks }

  stepped_reaches : (around : Place) (k : Known) (s : State) → Reaches around k s → Reaches around k (stepped s)
  stepped_reaches around None s r = r
  stepped_reaches around (Some k) s r = stepped_inside around k s r

  -- the turns of a `for`, from a state between them
  module _ (around : Place) (x : ℕ) (qs : List Keep) (body : Block) (k : Facts) (l : Limits) (turn : Verdict) (h : counting.Checked c.plan around x body qs k l turn (run body))
      (s : State) (i : Inside around k s) (v w : ℕ) (f : Fits l.first v) (g : Fits l.last w) (rows : List Row)
      (keeps : (t : State) → Inside (fixing x around) (with_range x (values_between l) (head body qs k)) t → AllIn 1 rows (made (of c) n body t)) (none : AllIn 0 rows (unmade body)) where
    for_turns_keep : (left allowed v' : ℕ) (t : State) → counting.Turned c.plan around x body qs k l turn (run body) h s i v w f g left v' t
        → AllIn left rows (for_made left allowed x v' (run body) (made (of c) n body) (unmade body) t)
    for_turns_keep zero allowed v' t b = none
    for_turns_keep (suc j) zero v' t b = in_more 0 (suc j) rows (unmade body) (omega arith) none
    for_turns_keep (suc j) (suc m) v' t b =
        let t' : State = for_state x v' t in
        in_more (1 + j) (suc j) rows _ (omega arith)
        (in_both 1 j rows (made (of c) n body t') _ (keeps t' (counting.turn_begins c.plan around x body qs k l turn (run body) h s i v w f g j v' t b))
        (from_end_holds (AllIn j rows) c.plan (StopsWell (loop_costs (turns_between l) turn.costs) s) (λ y. counting.Turned c.plan around x body qs k l turn (run body) h s i v w f g j (v' + 1)) (run body t')
        (for_made j m x (v' + 1) (run body) (made (of c) n body) (unmade body)) (unmade body)
        (counting.one_turn c.plan around x body qs k l turn (run body) h s i v w f g j v' t b)
        (λ u q. for_turns_keep j m (v' + 1) u q) (in_more 0 j rows (unmade body) (omega arith) none)))

  -- the turns of a `while`
  module _ (around : Place) (test : Condition) (most m fall : ℕ) (qs : List Keep) (body : Block) (k : Facts) (arms : Branches) (turn : Verdict)
      (h : turning_while.Checked c.plan around test most m fall qs body k arms turn (run body)) (s : State) (i : Inside around k s) (rows : List Row)
      (keeps : 1 ≤ turn_bound arms.holds most → (t : State) → Reaches around arms.holds t → AllIn 1 rows (made (of c) n body t)) (none : AllIn 0 rows (unmade body)) where
    abbrev Left : ℕ → ℕ → State → Type 0
    Left left allowed t = turning_while.Turned c.plan around test most m fall qs body k arms turn (run body) h s i left allowed t

    abbrev goes : ℕ → State → Made
    goes allowed t = while_made allowed test (run body) (made (of c) n body) (unmade body) t

    turn_keeps : (left allowed : ℕ) (t : State) → ((l : ℕ) (u : State) → Left l allowed u → AllIn l rows (goes allowed u)) → Left left (suc allowed) t → Reaches around arms.holds t
        → AllIn left rows (both (made (of c) n body (stepped t)) (from_end (run body (stepped t)) (goes allowed) (unmade body)))
    turn_keeps zero j t others b r = absurd (turning_while.one_is_left c.plan around test most m fall qs body k arms turn (run body) h s i (suc j) t b r)
    turn_keeps (suc left) j t others b r =
        let some_turn : 1 ≤ turn_bound arms.holds most = omega (arith, b.turns) in
        in_more (1 + left) (suc left) rows _ (omega arith)
        (in_both 1 left rows (made (of c) n body (stepped t)) _ (keeps some_turn (stepped t) (stepped_reaches around arms.holds t r))
        (from_end_holds (AllIn left rows) c.plan (StopsWell (loop_costs (turn_bound arms.holds most) turn.costs) s) (λ y. Left left j) (run body (stepped t)) (goes j) (unmade body)
        (turning_while.one_turn c.plan around test most m fall qs body k arms turn (run body) h s i j left t b r)
        (λ u q. others left u q) (in_more 0 left rows (unmade body) (omega arith) none)))

    while_turns_keep : (left allowed : ℕ) (t : State) → Left left allowed t → AllIn left rows (goes allowed t)
    while_turns_keep left zero t b = in_more 0 left rows (unmade body) (omega arith) none
    while_turns_keep left (suc j) t b =
        test_keeps left rows around (truth test t.variables t.q t.x) arms t _ (unmade body) (unmade body)
        (turning_while.decided c.plan around test most m fall qs body k arms turn (run body) h s i left (suc j) t (truth test t.variables t.q t.x) b refl)
        (λ r. turn_keeps left j t (λ l u q. while_turns_keep l j u q) b r) (λ r. in_more 0 left rows (unmade body) (omega arith) none)

  -- the rows of a block, of which so many times are made, as those of its statement
  block_inside : (w : Weight) (around : Place) (b : Block) (k : Known) (v : Verdict) (m : Made) → if_reached unreached k (accept_block Code (around_of around) b) ≡ Ok v → w.times * in_64_bits v.costs.steps ≤ 2 ^ 64 - 1
      → AllIn w.times (block_rows Code (around_of around) b k) m → AllIn 1 (inside Code w (block_rows Code (around_of around) b k)) m
  block_inside w around b k v m e room h = all_inside w (in_64_bits v.costs.steps) (block_rows Code (around_of around) b k) m room (block_in_steps (seen c) (around_of around) b k v e) h

  none_of : (around : Place) (b : Block) (k : Known) → AllIn 1 (block_rows Code (around_of around) b k) (unmade b)
  none_of around b k = in_more 0 1 (block_rows Code (around_of around) b k) (unmade b) (omega arith) (unmade_block (seen c) (around_of around) b k)

  -- what a block keeps to
  abbrev BlockKeeps : Place → Block → Type 0
  BlockKeeps around b = (k : Known) (v : Verdict) → if_reached unreached k (accept_block Code (around_of around) b) ≡ Ok v → IsBelow v.costs → (s : State) → Reaches around k s
      → AllIn 1 (block_rows Code (around_of around) b k) (made (of c) n b s)

  -- outside the loop its variable is fixed no more
  outside : (around : Place) (x : ℕ) (k : Known) (s : State) → Reaches (fixing x around) k s → Reaches around k s
  outside around x None s r = r
  outside around x (Some k) s r = record { variables = r.variables; registers = r.registers; locks = r.locks }

  -- so many further turns of an `each`, after those so far, of whose times so many are counted
  module _ (around : Place) (x last : ℕ) (small : last ≤ greatest) (body : Block) (may : MayLock around (block_has_lock body)) (keeps : BlockKeeps (fixing x around) body) where
    abbrev check : Facts → Result Verdict Fault
    check q = accept_block Code (with_fixed x (around_of around)) body q

    abbrev Rows : Known → List Row
    Rows k = block_rows Code (with_fixed x (around_of around)) body k

    abbrev over : (left next : ℕ) → Known → Turned → List Row
    over left v k so_far = (turns_over capped left x v (block_verdict Code (with_fixed x (around_of around)) body) (block_rows Code (with_fixed x (around_of around)) body) k so_far).rows

    abbrev made_from : (left allowed next : ℕ) → State → Made
    made_from left allowed v t = for_made left allowed x v (run body) (made (of c) n body) (unmade body) t

    unmade_at : (k : Known) → AllIn 0 (Rows k) (unmade body)
    unmade_at k = unmade_block (seen c) (with_fixed x (around_of around)) body k

    later_unmade : (left v : ℕ) (k : Known) (so_far : Turned) (m : ℕ) → AllIn 0 so_far.rows (unmade body) → NoMore (in_64_bits m) so_far.rows → AllAdd so_far.rows (over left v k so_far) (unmade body)
    later_unmade left v k so_far m none le =
        turns_unmade (block_verdict Code (with_fixed x (around_of around)) body) (block_rows Code (with_fixed x (around_of around)) body) (unmade body) unmade_at left x v k so_far none
        (no_more_up (in_64_bits m) (2 ^ 64 - 1) so_far.rows (omega arith) le)

    begins_turn : (v : ℕ) → v ≤ last → (q : Facts) (t : State) → Inside around q t → Inside (fixing x around) (with_range x (only v) q) (for_state x v t)
    begins_turn v below q t i =
        let j = inside_written around q x v (only v) t i (record { within = only_within v; small = omega (arith, small) }) in
        record { variables = j.variables; registers = j.registers; locks = j.locks }

    each_turns_keep : (left allowed v : ℕ) → left + v ≡ last + 1 → (k : Known) (so_far : Turned) (m : ℕ) (w : Verdict) → if_reached unreached k (each_turns capped left x v last check) ≡ Ok w
        → IsBelow w.costs → m + w.costs.steps ≤ 2 ^ 64 - 1 → NoMore (in_64_bits m) so_far.rows → AllIn 0 so_far.rows (unmade body) → (t : State) → Reaches around k t
        → AllAdd so_far.rows (over left v k so_far) (made_from left allowed v t)
    unfolding go_on if_reached
    each_turns_keep zero j v is k so_far m w e low room le none t r = adds_none so_far.rows (unmade body) none
    each_turns_keep (suc left) j v is None so_far m w e low room le none t r = absurd r
    each_turns_keep (suc left) zero v is (Some q) so_far m w e low room le none t r = later_unmade (suc left) v (Some q) so_far m none le
    each_turns_keep (suc left) (suc j) v is (Some q) so_far m w e low room few none t r =
        let head : Facts = with_range x (only v) q in
        let t' : State = for_state x v t in
        let turn' = go_ok (check head) _ w e in
        let turn = turn'.0 in
        let rest' = go_ok (if_reached unreached turn.after (each_turns capped left x (v + 1) last check)) _ w turn'.2 in
        let rest = rest'.0 in
        let same : capped (plus (turn_costs turn.costs) rest.costs) ≡ w.costs = ap (λ u. u.costs) (ok_same _ _ rest'.2) in
        let parts = turn_then_below turn.costs rest.costs m (subst IsBelow (sym same) low) (subst (λ (b : Bounds). m + b.steps ≤ 2 ^ 64 - 1) (sym same) room) in
        let after : Turned = turned (1 + so_far.turns) (merge capped so_far.rows (Rows (Some head))) in
        let steps = block_in_steps (seen c) (with_fixed x (around_of around)) body (Some head) turn turn'.1 in
        let few' = no_more_merged m turn.costs.steps so_far.rows (Rows (Some head)) few steps in
        let none' = none_merged so_far.rows (Rows (Some head)) (unmade body) none (unmade_at (Some head)) in
        let i = begins_turn v (omega (arith, is)) q t r in
        let b = judged_block (fixing x around) body may (Some head) turn turn'.1 in
        let after_is : b.whole.after ≡ turn.after = ap (λ u. u.after) b.is in
        adds_turn (in_64_bits m) (in_64_bits turn.costs.steps) so_far.rows (Rows (Some head)) (over (suc left) v (Some q) so_far) (made (of c) n body t') _
        (same_more 0 0 so_far.rows (Rows (Some head)) (unmade body) none (unmade_at (Some head))) few steps (omega (arith, parts.2)) (keeps (Some head) turn turn'.1 parts.0 t' i)
        (subst (λ (u : Verdict). AllAdd after.rows (over left (v + 1) u.after after) (from_end (run body t') (made_from left j (v + 1)) (unmade body))) (sym (ap (λ u. found unreached u) turn'.1))
        (from_end_holds (AllAdd after.rows (over left (v + 1) turn.after after)) c.plan (StopsWell b.whole.costs t') (EndsWell (fixing x around) b.whole.after b.whole.costs t') (run body t') (made_from left j (v + 1)) (unmade body)
        (b.sound.each n le t' i)
        (λ u ended. each_turns_keep left j (v + 1) (omega (arith, is)) turn.after after (m + turn.costs.steps) rest rest'.1 parts.1 parts.3 few' none' u
        (outside around x turn.after u (subst (λ o. Reaches (fixing x around) o u) after_is ended.reaches)))
        (later_unmade left (v + 1) turn.after after (m + turn.costs.steps) none' few')))

    -- with and without a turn
    each_from_keeps : (count v : ℕ) → count ≡ last + 1 - v → (k : Facts) (w : Verdict) → each_from capped count x v last check k ≡ Ok w → IsBelow w.costs → (t : State) → Inside around k t
        → AllIn 1 (over count v (Some k) (turned 0 (Rows None))) (made_from count n v t)
    unfolding if_reached
    each_from_keeps zero v is k w e low t i = in_more 0 1 (Rows None) (unmade body) (omega arith) (unmade_at None)
    each_from_keeps (suc count) v is k w e low t i =
        adds_in (Rows None) (over (suc count) v (Some k) (turned 0 (Rows None))) _
        (each_turns_keep (suc count) n v (omega (arith, is)) (Some k) (turned 0 (Rows None)) 0 w e low (omega (arith, low.2))
        (no_more_up 0 (in_64_bits 0) (Rows None) (omega arith) (block_never (seen c) (with_fixed x (around_of around)) body)) (unmade_at None) t i)

  each_keeps : (around : Place) (spot : Spot) (x v last : ℕ) (body : Block) → MayLock around (block_has_lock body) → (k : Facts) (w : Verdict) → BlockKeeps (fixing x around) body
      → accept_statement Code (around_of around) (for_each spot x v last body) k ≡ Ok w → IsBelow w.costs → (s : State) → Inside around k s
      → AllIn 1 (inside Code once (each_turned capped x v last (block_verdict Code (with_fixed x (around_of around)) body) (block_rows Code (with_fixed x (around_of around)) body) (Some k)).rows)
      (made_in (of c) n (for_each spot x v last body) (stepped s))
  unfolding go_on if_reached
  each_keeps around spot x v last body may k w keeps e below s i =
      let A = with_fixed x (around_of around) in
      let count' = go_ok (each_begins (around_of around) spot x v last) _ w e in
      let turns' = go_ok (each_from capped count'.0 x v last (accept_block Code A body) k) _ w count'.2 in
      let turns = turns'.0 in
      let same : capped (plus (costs 0 0 1) turns.costs) ≡ w.costs = ap (λ u. u.costs) (ok_same _ _ turns'.2) in
      let low = then_below (costs 0 0 1) turns.costs (subst IsBelow (sym same) below) in
      let b = begun (around_of around) spot x v last count'.0 count'.1 in
      let rows : ℕ → List Row = λ j. (turns_over capped j x v (block_verdict Code A body) (block_rows Code A body) (Some k) (turned 0 (block_rows Code A body None))).rows in
      subst (λ j. AllIn 1 (inside Code once (rows j)) (for_made j n x v (run body) (made (of c) n body) (unmade body) (stepped s))) b.is
      (all_inside once (in_64_bits turns.costs.steps) (rows count'.0) _ (omega arith)
      (turns_from_in_steps (seen c) A body (λ q u f. block_in_steps (seen c) A body q u f) count'.0 x v last k turns turns'.1)
      (each_from_keeps around x last b.small body may keeps count'.0 v b.is k turns turns'.1 low.1 (stepped s) (stepped_inside around k s i)))

  if_keeps_to : (around : Place) (spot : Spot) (test : Condition) (a : Block) (k : Facts) (v : Verdict) → BlockKeeps around a → accept_statement Code (around_of around) (choose spot test a) k ≡ Ok v → IsBelow v.costs
      → (s : State) → Inside around k s → AllIn 1 (inside Code once (block_rows Code (around_of around) a (ways spot test (Some k)).holds)) (made_in (of c) n (choose spot test a) (stepped s))
  unfolding go_on if_reached
  if_keeps_to around spot test a k v keeps e below s i =
      let split' = go_ok (split spot test k) _ v e in
      let arms = split'.0 in
      let first' = go_ok (if_reached unreached arms.holds (accept_block Code (around_of around) a)) _ v split'.2 in
      let first = first'.0 in
      let same : capped (choice_costs first.costs no_costs) ≡ v.costs = ap (λ w. w.costs) (ok_same _ _ first'.2) in
      let low = if_below first.costs (subst IsBelow (sym same) below) in
      let d = allowed_at arms (split_each around spot test k) split'.1 (stepped s) (stepped_inside around k s i) in
      subst (λ (w : Branches). AllIn 1 (inside Code once (block_rows Code (around_of around) a w.holds)) (made_in (of c) n (choose spot test a) (stepped s)))
      (sym (ap (λ q. found (branches None None) q) split'.1))
      (block_inside once around a arms.holds first _ first'.1 (omega arith)
      (test_keeps 1 (block_rows Code (around_of around) a arms.holds) around (truth test s.variables s.q s.x) arms (stepped s) (made (of c) n a (stepped s)) (unmade a) (unmade a) d
      (λ r. keeps arms.holds first first'.1 low.0 (stepped s) r) (λ r. none_of around a arms.holds)))

  -- the second arm, which has a row of its own
  else_keeps : (around : Place) (spot : Spot) (b : Block) → MayLock around (block_has_lock b) → (k : Known) (v : Verdict) → if_reached unreached k (accept_block Code (around_of around) b) ≡ Ok v → IsBelow v.costs
      → (s : State) → Reaches around k s → KeepsIn 1 (else_row Code (around_of around) spot b k) (spent s (reached (run b s)) ∷ [])
  else_keeps around spot b may None v e low s r = absurd r
  else_keeps around spot b may (Some k) v e low s r =
      let j = judged_block around b may (Some k) v e in
      let t : State = reached (run b s) in
      let paid : Paid j.whole.costs s t = sound_paid c.plan around j.whole.after j.whole.costs s (run b s) (j.sound.each n le s r) in
      let most = spent_most v.costs s t (subst (λ x. Paid x s t) (same_costs j.whole v j.is low) paid) in
      let each_is : v.costs ≡ (block_verdict Code (around_of around) b (Some k)).costs = ap (λ q. (found unreached q).costs) (sym e) in
      record { few = omega arith; each = (subst (λ x. AtMost (spent s t) x) each_is (record { cycles = most.0; words = most.1; steps = most.2 }), tt) }

  no_else : (r : Row) → KeepsIn 1 r []
  no_else r = record { few = omega arith; each = tt }

  choice_keeps : (around : Place) (spot : Spot) (test : Condition) (a b : Block) → MayLock around (block_has_lock b) → (k : Facts) (v : Verdict) → BlockKeeps around a → BlockKeeps around b
      → accept_statement Code (around_of around) (choose_else spot test a b) k ≡ Ok v → IsBelow v.costs → (s : State) → Inside around k s
      → (let arms = ways spot test (Some k) in
      let first = (block_verdict Code (around_of around) a arms.holds).costs in
      let second = (block_verdict Code (around_of around) b arms.fails).costs in
      AllIn 1 (inside Code (first_arm first second) (block_rows Code (around_of around) a arms.holds)
      ++ else_row Code (around_of around) spot b arms.fails ∷ inside Code (second_arm first second) (block_rows Code (around_of around) b arms.fails))
      (made_in (of c) n (choose_else spot test a b) (stepped s)))
  unfolding go_on if_reached
  choice_keeps around spot test a b may k v keeps others e below s i =
      let A = around_of around in
      let split' = go_ok (split spot test k) _ v e in
      let arms = split'.0 in
      let first' = go_ok (if_reached unreached arms.holds (accept_block Code A a)) _ v split'.2 in
      let first = first'.0 in
      let second' = go_ok (if_reached unreached arms.fails (accept_block Code A b)) _ v first'.2 in
      let second = second'.0 in
      let same : capped (choice_costs first.costs second.costs) ≡ v.costs = ap (λ w. w.costs) (ok_same _ _ second'.2) in
      let low = choice_below first.costs second.costs (subst IsBelow (sym same) below) in
      let t : State = stepped s in
      let d = allowed_at arms (split_each around spot test k) split'.1 t (stepped_inside around k s i) in
      let Rows : Branches → Bounds → Bounds → List Row = λ w x y.
      inside Code (first_arm x y) (block_rows Code A a w.holds) ++ else_row Code A spot b w.fails ∷ inside Code (second_arm x y) (block_rows Code A b w.fails) in
      let arm : (x y : Bounds) (one two : Made) (other : List Bounds) → AllIn 1 (block_rows Code A a arms.holds) one → KeepsIn 1 (else_row Code A spot b arms.fails) other
      → AllIn 1 (block_rows Code A b arms.fails) two → AllIn 1 (Rows arms x y) (one ++ other ∷ two) = λ x y one two other f m g.
      in_append 1 (inside Code (first_arm x y) (block_rows Code A a arms.holds)) _ one (other ∷ two)
      (block_inside (first_arm x y) around a arms.holds first one first'.1 (omega arith) f)
      (m, block_inside (second_arm x y) around b arms.fails second two second'.1 (omega arith) g) in
      let Keeps : Branches → Type 0 = λ w.
      AllIn 1 (Rows w (block_verdict Code A a w.holds).costs (block_verdict Code A b w.fails).costs) (made_in (of c) n (choose_else spot test a b) t) in
      subst Keeps (sym (ap (λ q. found (branches None None) q) split'.1))
      (test_keeps 1 (Rows arms (block_verdict Code A a arms.holds).costs (block_verdict Code A b arms.fails).costs) around (truth test s.variables s.q s.x) arms t _ _ _ d
      (λ r. arm _ _ (made (of c) n a t) (unmade b) [] (keeps arms.holds first first'.1 low.0.0 t r) (no_else _) (none_of around b arms.fails))
      (λ r. arm _ _ (unmade a) (made (of c) n b t) _ (none_of around a arms.holds) (else_keeps around spot b may arms.fails second second'.1 low.0.1 t r) (others arms.fails second second'.1 low.0.1 t r)))

  lock_keeps_to : (around : Place) (spot : Spot) (e1 : Expression) (body : Block) (k : Facts) (v : Verdict) → ((m : ℕ) → BlockKeeps (holding m around) body) → accept_statement Code (around_of around) (locked spot e1 body) k ≡ Ok v
      → IsBelow v.costs → (s : State) → Inside around k s
      → (let o = taken Code (around_of around) spot e1 (Some k) in
      AllIn 1 (inside Code once (block_rows Code (lock_inside o (around_of around)) body (lock_head o (Some k)))) (made_in (of c) n (locked spot e1 body) (stepped s)))
  unfolding go_on if_reached
  lock_keeps_to around spot e1 body k v keeps e below s i =
      let crate' = go_ok (lock_rule Code (around_of around) spot e1 k) _ v e in
      let m = crate'.0 in
      let inner' = go_ok (accept_block Code (with_locked m (around_of around)) body k) _ v crate'.2 in
      let inner = inner'.0 in
      let same : capped (lock_costs (unwrap_or (crate_waits c.plan m) 0) inner.costs) ≡ v.costs = ap (λ w. w.costs) (ok_same _ _ inner'.2) in
      let low = lock_below (unwrap_or (crate_waits c.plan m) 0) inner.costs (subst IsBelow (sym same) below) in
      let can = allowed_at m (lock_allowed c around spot e1 k) crate'.1 in
      let t : State = stepped s in
      let rows = block_rows Code (with_locked m (around_of around)) body (Some k) in
      let go : ℕ → Made = λ j. if (t.branch j).locked then unmade body else lock_made j (outcome (crate_waits c.plan j) false t.answers) (made (of c) n body) (unmade body) t in
      let none = none_of (holding m around) body (Some k) in
      let one : AllIn 1 rows (go m) =
      if_keeps 1 rows (t.branch m).locked (unmade body) _ none
      (lock_keeps 1 rows m (outcome (crate_waits c.plan m) false t.answers) (made (of c) n body) (unmade body) t
      (λ wait rest. keeps m (Some k) inner inner'.1 low.0 (after_lock m wait rest t) (record { variables = i.variables; registers = i.registers; locks = lock_taken around s.branch m i.locks })) none) in
      subst (λ (o : Option ℕ). AllIn 1 (inside Code once (block_rows Code (lock_inside o (around_of around)) body (lock_head o (Some k)))) (made_in (of c) n (locked spot e1 body) t))
      (sym (ap (λ q. found None (go_on q (λ j. Ok (Some j)))) crate'.1))
      (block_inside once (holding m around) body (Some k) inner _ inner'.1 (omega arith)
      (subst (λ (o : Option ℕ). AllIn 1 rows (where_some o go (unmade body))) (sym (can.is s i)) one))

  some_turns : (around : Place) (spot : Spot) (x : ℕ) (e1 e2 : Expression) (qs : List Keep) (body : Block) → MayLock around (block_has_lock body) → (k : Facts) (l : Limits) (turn : Verdict) → BlockKeeps (fixing x around) body
      → IsBelow (capped (loop_costs (turns_between l) turn.costs)) → (s : State) → Inside around k s → counting.MayCount around x e1 e2 qs k l → (v w : ℕ) → Fits l.first v → Fits l.last w → keeps_hold_after qs turn.after ≡ true
      → (b : Bool) → nat_lt l.last.hi l.first.lo ≡ b → if_reached unreached (if b then None else Some (with_range x (values_between l) (head body qs k))) (accept_block Code (with_fixed x (around_of around)) body) ≡ Ok turn
      → AllIn (turns_between l) (block_rows Code (with_fixed x (around_of around)) body (if b then None else Some (with_range x (values_between l) (head body qs k))))
      (for_made (w + 1 - v) n x v (run body) (made (of c) n body) (unmade body) (stepped s))
  some_turns around spot x e1 e2 qs body may k l turn keeps low s i m v w f g kept true b e =
      let less : l.last.hi < l.first.lo = ltb-true l.last.hi l.first.lo b in
      let none : 0 ≡ w + 1 - v = omega (arith, f.within, g.within) in
      let rows = block_rows Code (with_fixed x (around_of around)) body None in
      subst (λ j. AllIn (turns_between l) rows (for_made j n x v (run body) (made (of c) n body) (unmade body) (stepped s))) none
      (in_more 0 (turns_between l) rows (unmade body) (omega arith) (unmade_block (seen c) (with_fixed x (around_of around)) body None))
  some_turns around spot x e1 e2 qs body may k l turn keeps low s i m v w f g kept false b e =
      let more : l.first.lo ≤ l.last.hi = ltb-false l.last.hi l.first.lo b in
      let some_turn : 1 ≤ turns_between l = omega arith in
      let fewer : w + 1 - v ≤ turns_between l = omega (arith, f.within, g.within) in
      let H : Facts = with_range x (values_between l) (head body qs k) in
      let rows = block_rows Code (with_fixed x (around_of around)) body (Some H) in
      let j = judged_block (fixing x around) body may (Some H) turn e in
      let keep : keeps_hold_after qs j.whole.after ≡ true = ap (λ y. keeps_hold_after qs y.after) j.is ∙ kept in
      let h = counting.checked c around spot x e1 e2 qs body k l j.whole m keep n le j.sound in
      in_more (w + 1 - v) (turns_between l) rows _ fewer
      (for_turns_keep around x qs body k l j.whole h s i v w f g rows (λ t r. keeps (Some H) turn e (loop_low (turns_between l) turn.costs some_turn low) t r)
      (unmade_block (seen c) (with_fixed x (around_of around)) body (Some H)) (w + 1 - v) n v (stepped s)
      (counting.before_turns c.plan around x body qs k l j.whole (run body) h s i v w f g (w + 1 - v) refl (counting.entered c around spot x e1 e2 qs body k l j.whole m keep s i)))

  for_keeps : (around : Place) (spot : Spot) (x : ℕ) (e1 e2 : Expression) (qs : List Keep) (body : Block) → MayLock around (block_has_lock body) → (k : Facts) (v : Verdict) → BlockKeeps (fixing x around) body
      → accept_statement Code (around_of around) (for_ spot x e1 e2 qs body) k ≡ Ok v → IsBelow v.costs → (s : State) → Inside around k s
      → (let turn = for_turning (around_of around) spot x e1 e2 qs body (Some k) in
      AllIn 1 (inside Code (turning turn.turns) (block_rows Code (with_fixed x (around_of around)) body turn.head)) (made_in (of c) n (for_ spot x e1 e2 qs body) (stepped s)))
  unfolding go_on if_reached
  for_keeps around spot x e1 e2 qs body may k v keeps e below s i =
      let A = around_of around in
      let limits' = go_ok (for_limits A spot x e1 e2 qs k) _ v e in
      let l = limits'.0 in
      let turn' = go_ok (if_reached unreached (for_head x l qs body k) (accept_block Code (with_fixed x A) body)) _ v limits'.2 in
      let turn = turn'.0 in
      let keeps' = go_ok (required (keeps_hold_after qs turn.after) _ spot _) _ v turn'.2 in
      let same : capped (loop_costs (turns_between l) turn.costs) ≡ v.costs = ap (λ w. w.costs) (ok_same _ _ keeps'.2) in
      let low = subst IsBelow (sym same) below in
      let m = allowed_at l (limits_allowed around spot x e1 e2 qs k) limits'.1 in
      let first = value_of (value e1 s.variables) l.first (m.first s i) in
      let last = value_of (value e2 s.variables) l.last (m.last s i) in
      let t : State = stepped s in
      let turns : ℕ → ℕ → Made = λ a b. for_made (b + 1 - a) n x a (run body) (made (of c) n body) (unmade body) t in
      let kept : keeps_hold_after qs turn.after ≡ true = required_ok (keeps_hold_after qs turn.after) _ spot _ keeps'.0 keeps'.1 in
      let by_head : (b : Bool) → nat_lt l.last.hi l.first.lo ≡ b → if_reached unreached (if b then None else Some (with_range x (values_between l) (head body qs k))) (accept_block Code (with_fixed x A) body) ≡ Ok turn
      → AllIn (turns_between l) (block_rows Code (with_fixed x A) body (if b then None else Some (with_range x (values_between l) (head body qs k)))) (turns first.number last.number) =
      some_turns around spot x e1 e2 qs body may k l turn keeps low s i m first.number last.number first.fits last.fits kept in
      subst (λ (w : Turning). AllIn 1 (inside Code (turning w.turns) (block_rows Code (with_fixed x A) body w.head)) (made_in (of c) n (for_ spot x e1 e2 qs body) t))
      (sym (ap (λ q. found (turning_from 0 None) (go_on q (λ j. Ok (turning_from (turns_between j) (for_head x j qs body k))))) limits'.1))
      (block_inside (turning (turns_between l)) (fixing x around) body (for_head x l qs body k) turn _ turn'.1 (loop_room (turns_between l) turn.costs low)
      (subst (λ (o : Option ℕ). AllIn (turns_between l) (block_rows Code (with_fixed x A) body (for_head x l qs body k)) (where_some o (λ a. where_some (value e2 s.variables) (turns a) (unmade body)) (unmade body))) (sym first.is)
      (subst (λ (o : Option ℕ). AllIn (turns_between l) (block_rows Code (with_fixed x A) body (for_head x l qs body k)) (where_some o (turns first.number) (unmade body))) (sym last.is)
      (by_head (nat_lt l.last.hi l.first.lo) refl turn'.1))))

  while_keeps : (around : Place) (spot : Spot) (test : Condition) (most m : ℕ) (qs : List Keep) (body : Block) → MayLock around (block_has_lock body) → (k : Facts) (v : Verdict) → BlockKeeps around body
      → accept_statement Code (around_of around) (while_ spot test most m qs body) k ≡ Ok v → IsBelow v.costs → (s : State) → Inside around k s
      → (let turn = while_turning (around_of around) spot test most m qs body (Some k) in
      AllIn 1 (inside Code (turning turn.turns) (block_rows Code (around_of around) body turn.head)) (made_in (of c) n (while_ spot test most m qs body) (stepped s)))
  unfolding go_on if_reached
  while_keeps around spot test most m qs body may k v keeps e below s i =
      let A = around_of around in
      let top' = go_ok (while_head A.body spot most m qs body k) _ v e in
      let top = top'.0 in
      let split' = go_ok (split spot test top) _ v top'.2 in
      let arms = split'.0 in
      let turn' = go_ok (if_reached unreached arms.holds (accept_block Code A body)) _ v split'.2 in
      let turn = turn'.0 in
      let keeps' = go_ok (required (keeps_hold_after qs turn.after) _ spot _) _ v turn'.2 in
      let T : ℕ = turn_bound arms.holds most in
      let same : capped (loop_costs T turn.costs) ≡ v.costs = ap (λ w. w.costs) (ok_same _ _ keeps'.2) in
      let low = subst IsBelow (sym same) below in
      let begins = allowed_at top (head_allowed around.body spot most m qs body k) top'.1 in
      let d = allowed_at arms (split_each around spot test top) split'.1 in
      let j = judged_block around body may arms.holds turn turn'.1 in
      let kept : keeps_hold_after qs j.whole.after ≡ true = ap (λ y. keeps_hold_after qs y.after) j.is ∙ required_ok (keeps_hold_after qs turn.after) _ spot _ keeps'.0 keeps'.1 in
      let h = turning_while.checked c around spot test most m qs body k top arms j.whole begins d j.sound kept n le in
      let rows = block_rows Code A body arms.holds in
      subst (λ (w : Turning). AllIn 1 (inside Code (turning w.turns) (block_rows Code A body w.head)) (made_in (of c) n (while_ spot test most m qs body) (stepped s)))
      (sym (
      ap (λ q. found (turning_from 0 None) (go_on q (λ r. go_on (split spot test r) (λ w. Ok (turning_from (turn_bound w.holds most) w.holds))))) top'.1
      ∙ ap (λ q. found (turning_from 0 None) (go_on q (λ w. Ok (turning_from (turn_bound w.holds most) w.holds)))) split'.1
      ))
      (block_inside (turning T) around body arms.holds turn _ turn'.1 (loop_room T turn.costs low)
      (while_turns_keep around test most m begins.fall qs body k arms j.whole h s i rows (λ some_turn t r. keeps arms.holds turn turn'.1 (loop_low T turn.costs some_turn low) t r)
      (unmade_block (seen c) A body arms.holds) T n (stepped s)
      (turning_while.before_turns c around spot test most m qs body k top arms j.whole begins d j.sound kept n le s i)))

  mutual
    unfolding go_on if_reached

    statement_keeps : (around : Place) (st : Statement) → MayLock around (has_lock st) → (k : Facts) (v : Verdict) → accept_statement Code (around_of around) st k ≡ Ok v → IsBelow v.costs → (s : State) → Inside around k s
        → AllIn 1 (statement_rows Code (around_of around) st (Some k)) ((spent s (reached (meaning (of c) n st s)) ∷ []) ∷ made_in (of c) n st (stepped s))
    statement_keeps around (assign spot x e1) may k v e low s i = (own_keeps around (assign spot x e1) may k v _ _ e low s i, tt)
    statement_keeps around (set_register spot p e1 e2 e3) may k v e low s i = (own_keeps around (set_register spot p e1 e2 e3) may k v _ _ e low s i, tt)
    statement_keeps around (single spot size f p move) may k v e low s i = (own_keeps around (single spot size f p move) may k v _ _ e low s i, tt)
    statement_keeps around (address_scan spot f r1 r2 max x) may k v e low s i = (own_keeps around (address_scan spot f r1 r2 max x) may k v _ _ e low s i, tt)
    statement_keeps around (q_stop spot f p t max x) may k v e low s i = (own_keeps around (q_stop spot f p t max x) may k v _ _ e low s i, tt)
    statement_keeps around (q_repeat spot f p t max limit x) may k v e low s i = (own_keeps around (q_repeat spot f p t max limit x) may k v _ _ e low s i, tt)
    statement_keeps around (put spot e1) may k v e low s i = (own_keeps around (put spot e1) may k v _ _ e low s i, tt)
    statement_keeps around (crate_call spot which e1) may k v e low s i = (own_keeps around (crate_call spot which e1) may k v _ _ e low s i, tt)
    statement_keeps around (lam_call spot which l) may k v e low s i = (own_keeps around (lam_call spot which l) may k v _ _ e low s i, tt)
    statement_keeps around (call spot p es) may k v e low s i = (own_keeps around (call spot p es) may k v _ _ e low s i, tt)
    statement_keeps around (choose spot test a) may k v e low s i =
        (own_keeps around (choose spot test a) may k v _ _ e low s i, if_keeps_to around spot test a k v (block_keeps around a may) e low s i)
    statement_keeps around (choose_else spot test a b) may k v e low s i = (
      own_keeps around (choose_else spot test a b) may k v _ _ e low s i,
      choice_keeps around spot test a b (may_second (block_has_lock a) (block_has_lock b) around may) k v (block_keeps around a (may_first (block_has_lock a) (block_has_lock b) around may))
          (block_keeps around b (may_second (block_has_lock a) (block_has_lock b) around may)) e low s i,
    )
    statement_keeps around (locked spot e1 body) may k v e low s i =
        (own_keeps around (locked spot e1 body) may k v _ _ e low s i, lock_keeps_to around spot e1 body k v (λ m. block_keeps (holding m around) body (λ h. may refl)) e low s i)
    statement_keeps around (for_ spot x e1 e2 qs body) may k v e low s i =
        (own_keeps around (for_ spot x e1 e2 qs body) may k v _ _ e low s i, for_keeps around spot x e1 e2 qs body may k v (block_keeps (fixing x around) body may) e low s i)
    statement_keeps around (for_each spot x first last body) may k v e low s i =
        (own_keeps around (for_each spot x first last body) may k v _ _ e low s i, each_keeps around spot x first last body may k v (block_keeps (fixing x around) body may) e low s i)
    statement_keeps around (while_ spot test most m qs body) may k v e low s i =
        (own_keeps around (while_ spot test most m qs body) may k v _ _ e low s i, while_keeps around spot test most m qs body may k v (block_keeps around body may) e low s i)

    pub block_keeps : (around : Place) (b : Block) → MayLock around (block_has_lock b) → BlockKeeps around b
    block_keeps around b may None v e low s r = absurd r
    block_keeps around done may (Some k) v e low s r = tt
    block_keeps around (next st rest) may (Some k) v e below s i =
        let A = around_of around in
        let first' = go_ok (accept_statement Code A st k) _ v e in
        let first = first'.0 in
        let second' = go_ok (if_reached unreached first.after (accept_block Code A rest)) _ v first'.2 in
        let second = second'.0 in
        let same : capped (plus first.costs second.costs) ≡ v.costs = ap (λ w. w.costs) (ok_same _ _ second'.2) in
        let low = then_below first.costs second.costs (subst IsBelow (sym same) below) in
        let first_may = may_first (has_lock st) (block_has_lock rest) around may in
        let rest_may = may_second (has_lock st) (block_has_lock rest) around may in
        let j = judged around st first_may k first first'.1 in
        let after : j.whole.after ≡ first.after = ap (λ w. w.after) j.is in
        let own : Made = (spent s (reached (meaning (of c) n st s)) ∷ []) ∷ made_in (of c) n st (stepped s) in
        let others : Made = from_end (meaning (of c) n st s) (made (of c) n rest) (unmade rest) in
        subst (λ (w : Verdict). AllIn 1 (statement_rows Code A st (Some k) ++ block_rows Code A rest w.after) (own ++ others)) (sym (ap (λ q. found unreached q) first'.1))
        (in_append 1 (statement_rows Code A st (Some k)) (block_rows Code A rest first.after) own others
        (statement_keeps around st first_may k first first'.1 low.0 s i)
        (from_end_holds (AllIn 1 (block_rows Code A rest first.after)) c.plan (StopsWell j.whole.costs s) (EndsWell around j.whole.after j.whole.costs s) (meaning (of c) n st s) (made (of c) n rest) (unmade rest)
        (j.sound.each n le s i) (λ t x. block_keeps around rest rest_may first.after second second'.1 low.1 t (subst (λ q. Reaches around q t) after x.reaches)) (none_of around rest first.after)))
