-- What is accepted makes only the commands that are listed of it: procedures, and one induction over statements.
use Rattle.std.proofs.Common.{◌≡◌, ℕ, zero, suc, List, [], ◌∷◌, ◌++◌, Some, subst, ◌+◌, ◌-◌, ◌<◌, ◌≤◌, Option, None, Result, Ok, Err, Bool, true, false, refl, sym, ap, ◌∙◌, arith}
use Rattle.std.proofs.lemmas.Bool.{and_parts, leb-true, ltb-true}
use Rattle.std.specs.Prelude.{slice_get, unwrap_or, drop, nat_le, nat_lt, if◌then◌else◌}
use Rattle.camac_lang.specs.Tree.{Procedure, Expression, Condition, Keep, Statement, assign, set_register, single, address_scan, q_stop, q_repeat, put, crate_call, lam_call, choose, choose_else, for_, for_each, while_, locked, call, Block, done, next}
use Rattle.camac_lang.specs.declared.spot.Spot.{Spot}
use Rattle.camac_branch.specs.Plan.{Layout, crate_waits}
use Rattle.camac_branch.specs.Address.{address}
use Rattle.camac_model.specs.Behaviour.{Action, ends, then_do, given, decide}
use Rattle.camac_model.specs.Meaning.{Context, with_procedure, routines_with, block_meaning, for_state, for_turns, for_from, entered, enter, effect}
use Rattle.camac_model.specs.State.{State, stepped, with_variable, with_register, with_word}
use Rattle.camac_model.specs.Cycle.{after_lock, take_lock, release}
use Rattle.camac_model.specs.Fine.{most_turns, AreInRanges}
use Rattle.camac_model.specs.Headline.{no_count, nothing}
use Rattle.camac_model.specs.Moments.{Any, AnyStop}
use Rattle.camac_model.specs.Value.{value, values, truth}
use Rattle.camac_model.proofs.Rules.{then_meets, enter_meets, lock_meets}
use Rattle.camac_rules.proofs.Settings.{Matched}
use Rattle.camac_rules.proofs.Allows.{Allows, allowed as allows, then_allowed, required_allowed, given_allowed, if_reached_allowed, allowed_more}
use Rattle.camac_rules.proofs.Stores.{Place, around_of, fixing, holding, Inside, Reaches}
use Rattle.camac_rules.proofs.Conditions.{Decides, split_each}
use Rattle.camac_rules.proofs.Values.{Fits, only_within}
use Rattle.camac_rules.proofs.Sound.{SafePiece, StopsWell, EndsWell, SoundFor, stepped_reaches}
use Rattle.camac_rules.proofs.Actions.{Setting, of, HasWidths, seen, value_of, inside_written}
use Rattle.camac_rules.proofs.Held.{MayLock, CanLock, lock_allowed, lock_taken}
use Rattle.camac_rules.proofs.ForLoops as counting
use Rattle.camac_rules.proofs.ForLoops.{MayCount, limits_allowed}
use Rattle.camac_rules.proofs.WhileLoops as turning
use Rattle.camac_rules.proofs.WhileLoops.{MayTurn, head_allowed}
use Rattle.camac_rules.proofs.Lockless.{has_lock, block_has_lock}
use Rattle.camac_rules.proofs.Routines.{AreSmall, Serves, AllFit, GiveAll, ranges_each, in_ranges, are_small}
use Rattle.camac_rules.proofs.Statements.{may_first, may_second, reached_sound, statement_sound, block_sound}
use Rattle.camac_rules.specs.Fault.{Fault}
use Rattle.camac_rules.specs.Refusal.{go_on, if_reached}
use Rattle.camac_rules.specs.Known.{Facts, Known, with_range}
use Rattle.camac_rules.specs.Conditions.{Branches, branches, split}
use Rattle.camac_rules.specs.Costs.{Verdict, unreached}
use Rattle.camac_rules.specs.Calls.{lock_rule}
use Rattle.camac_rules.specs.Capped.{capped}
use Rattle.camac_rules.specs.Cycles.{Around}
use Rattle.camac_rules.specs.Each.{each_turns, each_from, each_begins, each_rule}
use Rattle.camac_rules.specs.Procedures.{call_rule}
use Rattle.camac_rules.specs.Loops.{Limits, for_limits, for_head, head, keeps_hold_after, turns_between, values_between, while_head, turn_bound}
use Rattle.camac_rules.specs.Statements.{accept_statement, accept_block}
use Rattle.camac_range.specs.Number.{greatest}
use Rattle.camac_range.specs.Interval.{only}
use Rattle.camac_check.proofs.Capped.{in_code}
use Rattle.camac_check_rows.specs.declared.row.Row.{Row}
use Rattle.camac_check_rows.specs.Rows.{found, Turning, turning_from, lock_inside, lock_head, block_verdict, statement_rows, block_rows}
use Rattle.camac_check_rows.specs.Turns.{merge, Turned, turned, turns_over}
use Rattle.camac_commands.specs.Commands.{Command, IsListed, made_alone, detail_told, behind, behind_block, made, made_block}
use Rattle.camac_commands.proofs.ByRows.{Over, over_block, listed_over, over_turn, after_block, over_next, over_arms, block_sorts, AreOf, merge_of, block_sorted}
use Rattle.camac_commands.proofs.Actions.{Listed, listed_first, listed_second, listed_then, listed_given, listed_any, always, with_result, single_listed, scan_listed, q_stop_listed, q_repeat_listed, crate_listed, lam_listed, for_listed, while_listed}

-- What is told of each procedure before a body, in its place.

module _ {A : Type 0} (Tells : Procedure → A → (ℕ → Action) → Type 0) where
  -- each by the procedure and what is told in its place; there may be more of them
  abbrev pub Matches : List (ℕ → Action) → List Procedure → List A → Type 0
  Matches rs [] [] = Unit {0}
  Matches rs [] (l ∷ ls) = ⊥
  Matches rs (q ∷ qs) [] = ⊥
  Matches [] (q ∷ qs) (l ∷ ls) = ⊥
  Matches (r ∷ rs) (q ∷ qs) (l ∷ ls) = Tells q l r × Matches rs qs ls

  pub matches_at : (none : A) (rs : List (ℕ → Action)) (qs : List Procedure) (ls : List A) → Matches rs qs ls → (j : ℕ) (q : Procedure) (r : ℕ → Action) → slice_get qs j ≡ Some q → slice_get rs j ≡ Some r
      → Tells q (unwrap_or (slice_get ls j) none) r
  matches_at none rs [] ls m j q r e f = absurd (cc)
  matches_at none rs (p ∷ qs) [] m j q r e f = absurd m
  matches_at none [] (p ∷ qs) (l ∷ ls) m j q r e f = absurd m
  matches_at none (t ∷ rs) (p ∷ qs) (l ∷ ls) m zero q r e f =
      let same : p ≡ q = cc in
      let one : t ≡ r = cc in
      subst (λ u. Tells q l u) one (subst (λ u. Tells u l t) same m.0)
  matches_at none (t ∷ rs) (p ∷ qs) (l ∷ ls) m (suc j) q r e f = matches_at none rs qs ls m.1 j q r e f

  matches_grow : (rs : List (ℕ → Action)) (r : ℕ → Action) (qs : List Procedure) (ls : List A) → Matches rs qs ls → Matches (rs ++ r ∷ []) qs ls
  matches_grow rs r [] [] m = tt
  matches_grow rs r [] (l ∷ ls) m = absurd m
  matches_grow rs r (q ∷ qs) [] m = absurd m
  matches_grow [] r (q ∷ qs) (l ∷ ls) m = absurd m
  matches_grow (t ∷ rs) r (q ∷ qs) (l ∷ ls) m = (m.0, matches_grow rs r qs ls m.1)

  pub matches_all : (c : Context) (ps qs : List Procedure) (ls : List A) → Matches c.routines qs ls → Matches (routines_with c ps) qs ls
  matches_all c [] qs ls m = m
  matches_all c (p ∷ ps) qs ls m = matches_all (with_procedure c p) ps qs ls (matches_grow c.routines (λ j. block_meaning c j p.body) qs ls m)

  pub matches_push : (plan : Layout) (rs : List (ℕ → Action)) (qs : List Procedure) (ls : List A) (r : ℕ → Action) (q : Procedure) (l : A)
      → Matched plan rs qs → Matches rs qs ls → Tells q l r → Matches (rs ++ r ∷ []) (qs ++ q ∷ []) (ls ++ l ∷ [])
  matches_push plan [] [] [] r q l m k h = (h, tt)
  matches_push plan [] [] (x ∷ ls) r q l m k h = absurd k
  matches_push plan [] (p ∷ qs) ls r q l m k h = absurd m
  matches_push plan (t ∷ rs) [] ls r q l m k h = absurd m
  matches_push plan (t ∷ rs) (p ∷ qs) [] r q l m k h = absurd k
  matches_push plan (t ∷ rs) (p ∷ qs) (x ∷ ls) r q l m k h = (k.0, matches_push plan rs qs ls r q l m.1 k.1 h)

-- What is accepted makes only the commands that are listed of it: one induction over statements.

-- a procedure's body, on all arguments in range
abbrev pub RoutineLists : ℕ → Procedure → List Command → (ℕ → Action) → Type 0
RoutineLists n q cs run = (vs : List ℕ) → AreInRanges vs q.parameters → AreSmall vs → (s : State) → Listed cs (run n (entered vs s))

pub both_allowed : {A : Type 0} {r : Result A Fault} {P Q : A → Type 0} → Allows r P → Allows r Q → Allows r (λ x. (r ≡ Ok x) × P x × Q x)
both_allowed {r = Ok x} h k = record { holds = (refl, h.holds, k.holds) }
both_allowed {r = Err f} h k = record { holds = tt }

-- by what an `each` may begin
pub each_begun : (around : Around) (spot : Spot) (x v last : ℕ) → Allows (each_begins around spot x v last) (λ count. (last ≤ greatest) × (count ≡ last + 1 - v))
each_begun around spot x v last =
    required_allowed _ spot _ (λ small.
    required_allowed _ spot _ (λ may.
    required_allowed _ spot _ (λ few. allows (leb-true last greatest (and_parts (nat_le v greatest) (nat_le last greatest) small).1, refl))))

-- where a turn of it begins
pub turn_begins : (around : Place) (x last v : ℕ) → last ≤ greatest → v ≤ last → (q : Facts) (s : State) → Inside around q s → Inside (fixing x around) (with_range x (only v) q) (for_state x v s)
turn_begins around x last v small below q s i =
    let j = inside_written around q x v (only v) s i (record { within = only_within v; small = omega (arith, small, below) }) in
    record { variables = j.variables; registers = j.registers; locks = j.locks }

module _ (c : Setting) (narrow : HasWidths c.plan) (serves : Serves c) (n : ℕ) (le : most_turns ≤ n) (ls : List (List Command)) (matches : Matches (RoutineLists n) c.routines c.procedures ls) where
  abbrev run : Block → Action
  run b = block_meaning (of c) n b

  abbrev own_rows : Place → Statement → Facts → List Row
  own_rows around st k = statement_rows (in_code (seen c)) (around_of around) st (Some k)

  abbrev rows_of : Place → Block → Known → List Row
  rows_of around b k = block_rows (in_code (seen c)) (around_of around) b k

  abbrev judged : Place → Block → Known → Verdict
  judged around b k = block_verdict (in_code (seen c)) (around_of around) b k

  -- by any rows that tell what these do
  abbrev Lists : Place → Statement → Facts → Type 0
  Lists around st k = (rows rest : List Row) → Over rows (own_rows around st k) rest → (s : State) → Inside around k s → Listed (made ls st rows) (effect (of c) n st (stepped s))

  abbrev BlockLists : Place → Block → Known → Type 0
  BlockLists around b k = (rows rest : List Row) → Over rows (rows_of around b k) rest → (s : State) → Reaches around k s → Listed (made_block ls b rows) (run b s)

  abbrev Accepted : Place → Block → Known → (Verdict → Type 0) → Type 0
  Accepted around b k P = Allows (if_reached unreached k (accept_block (seen c) (around_of around) b)) P

  stepped_inside : (around : Place) (k : Facts) (s : State) → Inside around k s → Inside around k (stepped s)
  stepped_inside around k s i = stepped_reaches around (Some k) s i

  reached_lists : (around : Place) (b : Block) (k : Known) → ((q : Facts) → Allows (accept_block (seen c) (around_of around) b q) (λ v. BlockLists around b (Some q))) → Accepted around b k (λ v. BlockLists around b k)
  reached_lists around b k h = if_reached_allowed unreached k (accept_block (seen c) (around_of around) b) (λ q v. BlockLists around b q) (λ rows rest o s r. absurd r) h

  -- of a statement that holds no others
  alone_lists : (around : Place) (st : Statement) (k : Facts) {r : Result Verdict Fault} (own : Row) → Allows r (λ v. (s : State) → Inside around k s → Listed (made_alone st own.detail) (effect (of c) n st (stepped s)))
      → Allows r (λ v. (rows rest : List Row) → Over rows (own ∷ []) rest → (s : State) → Inside around k s → Listed (made_alone st (detail_told rows)) (effect (of c) n st (stepped s)))
  alone_lists around st k own h = allowed_more h (λ v lists rows rest o s i. listed_over st own rows rest o (effect (of c) n st (stepped s)) (lists s i))

  -- ---- what is of no cycle

  assign_lists : (around : Place) (spot : Spot) (x : ℕ) (e : Expression) (k : Facts) → Lists around (assign spot x e) k
  assign_lists around spot x e k rows rest o s i = listed_any [] (value e s.variables) (λ v t. ends (with_variable x v t)) (stepped s) (λ v _. tt)

  register_lists : (around : Place) (spot : Spot) (r : ℕ) (e1 e2 e3 : Expression) (k : Facts) → Lists around (set_register spot r e1 e2 e3) k
  register_lists around spot r e1 e2 e3 k rows rest o s i =
      let third : ℕ → ℕ → ℕ → Action = λ p q m t. ends (with_register r (address p q m) t) in
      let second : ℕ → ℕ → Action = λ p q. given (value e3 s.variables) (third p q) in
      let first : ℕ → Action = λ p. given (value e2 s.variables) (second p) in
      listed_any [] (value e1 s.variables) first (stepped s) (λ p _.
      listed_any [] (value e2 s.variables) (second p) (stepped s) (λ q _.
      listed_any [] (value e3 s.variables) (third p q) (stepped s) (λ m _. tt)))

  put_lists : (around : Place) (spot : Spot) (e : Expression) (k : Facts) → Lists around (put spot e) k
  put_lists around spot e k rows rest o s i = listed_any [] (value e s.variables) (λ w t. ends (with_word w t)) (stepped s) (λ w _. tt)

  -- ---- a call

  call_lists : (around : Place) (spot : Spot) (p : ℕ) (es : List Expression) (k : Facts) → Allows (call_rule (seen c) spot p es k) (λ v. Lists around (call spot p es) k)
  call_lists around spot p es k =
      then_allowed (ranges_each spot es k.ranges) (λ rs gives.
      then_allowed (given_allowed (slice_get c.procedures p) _ spot _) (λ q is.
      required_allowed _ spot _ (λ fit. allows (λ rows rest o s i.
      let cs : List Command = unwrap_or (slice_get ls p) [] in
      let r = serves.each p q is in
      let lists = matches_at (RoutineLists n) [] c.routines c.procedures ls matches p q r.routine is r.is in
      listed_given cs (slice_get c.routines p) (λ routine. given (values es s.variables) (λ us. enter (routine n) us)) r.routine (stepped s) r.is
      (listed_any cs (values es s.variables) (λ us. enter (r.routine n) us) (stepped s) (λ vs e.
      let f : AllFit vs rs = subst (λ o. GiveAll o rs) e (gives s.variables i.variables) in
      enter_meets no_count (IsListed cs) AnyStop Any nothing (r.routine n) vs (stepped s) (lists vs (in_ranges vs rs q.parameters f fit) (are_small vs rs f) (stepped s))))))))

  -- ---- the arms of a choice

  by_test : (around : Place) (cs : List Command) (o : Option Bool) (arms : Branches) (first second : Action) (t : State)
      → Decides around o arms t → (Reaches around arms.holds t → Listed cs (first t)) → (Reaches around arms.fails t → Listed cs (second t)) → Listed cs (decide o first second t)
  by_test around cs None arms first second t d f g = tt
  by_test around cs (Some true) arms first second t d f g = f d
  by_test around cs (Some false) arms first second t d f g = g d

  if_lists : (around : Place) (spot : Spot) (test : Condition) (a : Block) (k : Facts) (arms : Branches) → split spot test k ≡ Ok arms
      → ((s : State) → Inside around k s → Decides around (truth test s.variables s.q s.x) arms s) → BlockLists around a arms.holds → Lists around (choose spot test a) k
  unfolding if_reached
  if_lists around spot test a k arms is d first rows rest o s i =
      let t : State = stepped s in
      let inner = subst (λ (w : Branches). Over (drop 1 rows) (rows_of around a w.holds) rest) (ap (λ q. found (branches None None) q) is) (over_block _ _ rows _ rest o (λ _. refl)) in
      by_test around (made_block ls a (drop 1 rows)) (truth test s.variables s.q s.x) arms (run a) ends t (d t (stepped_inside around k s i)) (λ r. first (drop 1 rows) rest inner t r) (λ r. tt)

  choice_lists : (around : Place) (spot : Spot) (test : Condition) (a b : Block) (k : Facts) (arms : Branches) → split spot test k ≡ Ok arms
      → ((s : State) → Inside around k s → Decides around (truth test s.variables s.q s.x) arms s) → BlockLists around a arms.holds → BlockLists around b arms.fails → Lists around (choose_else spot test a b) k
  unfolding if_reached
  choice_lists around spot test a b k arms is d first second rows rest o s i =
      let t : State = stepped s in
      let middle : List Row = behind_block a (drop 1 rows) in
      let one : List Command = made_block ls a (drop 1 rows) in
      let two : List Command = made_block ls b (drop 1 middle) in
      let parts = subst (λ (w : Branches). Over (drop 1 rows) (rows_of around a w.holds) middle × Over (drop 1 middle) (rows_of around b w.fails) rest)
      (ap (λ q. found (branches None None) q) is) (over_arms (in_code (seen c)) (around_of around) spot test a b (Some k) rows rest o) in
      by_test around (one ++ two) (truth test s.variables s.q s.x) arms (run a) (run b) t (d t (stepped_inside around k s i))
      (λ r. listed_first one two (run a t) (first (drop 1 rows) middle parts.0 t r)) (λ r. listed_second one two (run b t) (second (drop 1 middle) rest parts.1 t r))

  -- ---- a lock

  lock_lists : (around : Place) (spot : Spot) (e : Expression) (body : Block) (k : Facts) (m : ℕ) → lock_rule (seen c) (around_of around) spot e k ≡ Ok m
      → CanLock c.plan around e k m → BlockLists (holding m around) body (Some k) → Lists around (locked spot e body) k
  unfolding go_on if_reached
  lock_lists around spot e body k m is can lists rows rest o s i =
      let t : State = stepped s in
      let cs : List Command = made_block ls body (drop 1 rows) in
      let held : ℕ → Action = λ d u. then_do (run body u) (release d) in
      let take : ℕ → ℕ → Action = λ d waits u. take_lock d waits (u.branch d).locked (held d) u in
      let inner = subst (λ (j : Option ℕ). Over (drop 1 rows) (block_rows (in_code (seen c)) (lock_inside j (around_of around)) body (lock_head j (Some k))) rest)
      (ap (λ q. found None (go_on q (λ j. Ok (Some j)))) is) (over_block _ _ rows _ rest o (λ _. refl)) in
      listed_given cs (value e s.variables) (λ d. given (crate_waits c.plan d) (take d)) m t (can.is s i)
      (listed_any cs (crate_waits c.plan m) (take m) t (λ waits _.
      lock_meets no_count (IsListed cs) AnyStop Any nothing m waits (s.branch m).locked (held m) t (λ _. tt) (λ _. tt) (λ a left _ _. tt) (λ a left free g p. (
        tt,
        then_meets no_count (IsListed cs) AnyStop Any Any nothing (run body (after_lock m a.wait left t)) (release m)
            (lists (drop 1 rows) rest inner (after_lock m a.wait left t) (record { variables = i.variables; registers = i.registers; locks = lock_taken around s.branch m i.locks }))
            (λ u v j. (tt, tt)),
      ))))

  -- ---- loops

  some_turns : (around : Place) (spot : Spot) (x : ℕ) (e1 e2 : Expression) (qs : List Keep) (body : Block) (k : Facts) (l : Limits) (turn : Verdict) → MayCount around x e1 e2 qs k l → keeps_hold_after qs turn.after ≡ true
      → (s : State) → Inside around k s → (v w : ℕ) → Fits l.first v → Fits l.last w
      → (b : Bool) → nat_lt l.last.hi l.first.lo ≡ b → SoundFor c.plan (fixing x around) (if b then None else Some (with_range x (values_between l) (head body qs k))) (λ m. block_meaning (of c) m body) turn
      → (cs : List Command) → ((t : State) → Reaches (fixing x around) (if b then None else Some (with_range x (values_between l) (head body qs k))) t → Listed cs (run body t))
      → Listed cs (for_from (w + 1 - v) n x v w (run body) (stepped s))
  some_turns around spot x e1 e2 qs body k l turn may keep s i v w f g true e h cs lists =
      let less : l.last.hi < l.first.lo = ltb-true l.last.hi l.first.lo e in
      let none : 0 ≡ w + 1 - v = omega (arith, f.within, g.within) in
      subst (λ j. Listed cs (for_from j n x v w (run body) (stepped s))) none tt
  some_turns around spot x e1 e2 qs body k l turn may keep s i v w f g false e h cs lists = go (w + 1 - v) refl
    where
      go : (j : ℕ) → j ≡ w + 1 - v → Listed cs (for_from j n x v w (run body) (stepped s))
      go zero is = tt
      go (suc j) is =
          let checked = counting.checked c around spot x e1 e2 qs body k l turn may keep n le h in
          for_listed c.plan around x qs body k l turn (run body) checked s i v w f g cs lists (suc j) n v (stepped s)
          (counting.before_turns c.plan around x body qs k l turn (run body) checked s i v w f g (suc j) is (counting.entered c around spot x e1 e2 qs body k l turn may keep s i))

  for_lists : (around : Place) (spot : Spot) (x : ℕ) (e1 e2 : Expression) (qs : List Keep) (body : Block) (k : Facts) (l : Limits) (turn : Verdict) → for_limits (around_of around) spot x e1 e2 qs k ≡ Ok l
      → MayCount around x e1 e2 qs k l → keeps_hold_after qs turn.after ≡ true → SoundFor c.plan (fixing x around) (for_head x l qs body k) (λ m. block_meaning (of c) m body) turn
      → BlockLists (fixing x around) body (for_head x l qs body k) → Lists around (for_ spot x e1 e2 qs body) k
  unfolding go_on if_reached
  for_lists around spot x e1 e2 qs body k l turn is may keep sound lists rows rest o s i =
      let t : State = stepped s in
      let first = value_of (value e1 s.variables) l.first (may.first s i) in
      let last = value_of (value e2 s.variables) l.last (may.last s i) in
      let cs : List Command = made_block ls body (drop 1 rows) in
      let second : ℕ → ℕ → Action = λ v w. for_from (w + 1 - v) n x v w (run body) in
      let inner = subst (λ (w : Turning). Over (drop 1 rows) (rows_of (fixing x around) body w.head) rest)
      (ap (λ q. found (turning_from 0 None) (go_on q (λ j. Ok (turning_from (turns_between j) (for_head x j qs body k))))) is) (over_block _ _ rows _ rest o (λ _. refl)) in
      listed_given cs (value e1 s.variables) (λ v. given (value e2 s.variables) (second v)) first.number t first.is
      (listed_given cs (value e2 s.variables) (second first.number) last.number t last.is
      (some_turns around spot x e1 e2 qs body k l turn may keep s i first.number last.number first.fits last.fits (nat_lt l.last.hi l.first.lo) refl sound cs (λ u r. lists (drop 1 rows) rest inner u r)))

  while_lists : (around : Place) (spot : Spot) (test : Condition) (most m : ℕ) (qs : List Keep) (body : Block) (k top : Facts) (arms : Branches) (turn : Verdict)
      → while_head around.body spot most m qs body k ≡ Ok top → split spot test top ≡ Ok arms → MayTurn most m qs body k top
      → ((s : State) → Inside around top s → Decides around (truth test s.variables s.q s.x) arms s) → SoundFor c.plan around arms.holds (λ j. block_meaning (of c) j body) turn → keeps_hold_after qs turn.after ≡ true
      → BlockLists around body arms.holds → Lists around (while_ spot test most m qs body) k
  unfolding go_on if_reached
  while_lists around spot test most m qs body k top arms turn is split_is may d sound keep lists rows rest o s i =
      let checked = turning.checked c around spot test most m qs body k top arms turn may d sound keep n le in
      let inner = subst (λ (w : Turning). Over (drop 1 rows) (rows_of around body w.head) rest)
      (ap (λ q. found (turning_from 0 None) (go_on q (λ r. go_on (split spot test r) (λ w. Ok (turning_from (turn_bound w.holds most) w.holds))))) is
      ∙ ap (λ q. found (turning_from 0 None) (go_on q (λ w. Ok (turning_from (turn_bound w.holds most) w.holds)))) split_is)
      (over_block _ _ rows _ rest o (λ _. refl)) in
      while_listed c.plan around test most m may.fall qs body k arms turn (run body) checked s i (made_block ls body (drop 1 rows)) (λ u r. lists (drop 1 rows) rest inner u r) (turn_bound arms.holds most) n (stepped s)
      (turning.before_turns c around spot test most m qs body k top arms turn may d sound keep n le s i)

  -- ---- turns that are judged one by one

  module _ (around : Place) (x last : ℕ) (body : Block) (small : last ≤ greatest) (each : (q : Facts) → Allows (accept_block (seen c) (around_of (fixing x around)) body q)
      (λ v. (accept_block (seen c) (around_of (fixing x around)) body q ≡ Ok v) × SoundFor c.plan (fixing x around) (Some q) (λ m. block_meaning (of c) m body) v × BlockLists (fixing x around) body (Some q))) where
    abbrev check : Facts → Result Verdict Fault
    check q = accept_block (seen c) (around_of (fixing x around)) body q

    -- by rows over those of the turns so far and of so many more, from this value on
    abbrev TurnsList : ℕ → ℕ → Known → Type 0
    TurnsList j v q = (so_far : Turned) → AreOf (block_sorts body) so_far.rows → (rows rest : List Row) → Over rows (turns_over capped j x v (judged (fixing x around) body) (rows_of (fixing x around) body) q so_far).rows rest
        → (allowed : ℕ) (s : State) → Reaches around q s → Listed (made_block ls body rows) (for_turns j allowed x v last (run body) s)

    outside : (k : Known) (s : State) → Reaches (fixing x around) k s → Reaches around k s
    outside None s r = r
    outside (Some k) s r = record { variables = r.variables; registers = r.registers; locks = r.locks }

    one_turn : (j v : ℕ) → v ≤ last → (q : Facts) (turn : Verdict) → check (with_range x (only v) q) ≡ Ok turn → SoundFor c.plan (fixing x around) (Some (with_range x (only v) q)) (λ m. block_meaning (of c) m body) turn
        → BlockLists (fixing x around) body (Some (with_range x (only v) q)) → TurnsList j (v + 1) turn.after → TurnsList (suc j) v (Some q)
    one_turn j v below q turn is sound lists others so_far are rows rest o zero s i = tt
    one_turn j v below q turn is sound lists others so_far are rows rest o (suc allowed) s i =
        let code = in_code (seen c) in
        let place = around_of (fixing x around) in
        let start : Known = Some (with_range x (only v) q) in
        let more : Turned = turned (1 + so_far.turns) (merge capped so_far.rows (rows_of (fixing x around) body start)) in
        let all = subst (λ (w : Known). Over rows (turns_over capped j x (v + 1) (judged (fixing x around) body) (rows_of (fixing x around) body) w more).rows rest) (after_block (seen c) place body (with_range x (only v) q) turn is) o in
        let u : State = for_state x v s in
        let begins = turn_begins around x last v small below q s i in
        listed_then (made_block ls body rows) (SafePiece c.plan) (StopsWell turn.costs u) (EndsWell (fixing x around) turn.after turn.costs u) (run body u) (for_turns j allowed x (v + 1) last (run body))
        (sound.each n le u begins) (lists rows rest (over_turn code place body capped j x v (judged (fixing x around) body) q so_far rows rest are o) u begins)
        (λ t e. others more (merge_of (block_sorts body) capped so_far.rows (rows_of (fixing x around) body start) are (block_sorted code place body start)) rows rest all allowed t (outside turn.after t e.reaches))

    turns_list : (j v : ℕ) → j + v ≡ last + 1 → (q : Facts) → Allows (each_turns (λ w. w) j x v last check q) (λ w. TurnsList j v (Some q))
    turns_list zero v is q = allows (λ so_far are rows rest o allowed s i. tt)
    turns_list (suc j) v is q =
        then_allowed (each (with_range x (only v) q)) (λ turn h.
        then_allowed (if_reached_allowed unreached turn.after (each_turns (λ w. w) j x (v + 1) last check) (λ p w. TurnsList j (v + 1) p) (λ so_far are rows rest o allowed s r. absurd r) (λ p. turns_list j (v + 1) (omega (arith, is)) p)) (λ others g.
        allows (one_turn j v (omega (arith, is)) q turn h.0 h.1 h.2 g)))

    pub from_lists : (j v : ℕ) → j ≡ last + 1 - v → (q : Facts) → Allows (each_from (λ w. w) j x v last check q)
        (λ w. (rows rest : List Row) → Over rows (turns_over capped j x v (judged (fixing x around) body) (rows_of (fixing x around) body) (Some q) (turned 0 (rows_of (fixing x around) body None))).rows rest → (s : State) → Inside around q s → Listed (made_block ls body rows) (for_from j n x v last (run body) s))
    from_lists zero v is q = allows (λ rows rest o s i. tt)
    from_lists (suc j) v is q =
        allowed_more (turns_list (suc j) v (omega (arith, is)) q) (λ w lists rows rest o s i.
        lists (turned 0 (rows_of (fixing x around) body None)) (block_sorted (in_code (seen c)) (around_of (fixing x around)) body None) rows rest o n s i)

  each_lists : (around : Place) (spot : Spot) (x v last : ℕ) (body : Block) → ((q : Facts) → Allows (accept_block (seen c) (around_of (fixing x around)) body q)
      (λ w. (accept_block (seen c) (around_of (fixing x around)) body q ≡ Ok w) × SoundFor c.plan (fixing x around) (Some q) (λ m. block_meaning (of c) m body) w × BlockLists (fixing x around) body (Some q)))
      → (k : Facts) → Allows (each_rule (seen c) (around_of around) spot x v last (accept_block (seen c) (around_of (fixing x around)) body) k) (λ w. Lists around (for_each spot x v last body) k)
  each_lists around spot x v last body each k =
      then_allowed (each_begun (around_of around) spot x v last) (λ count may.
      then_allowed (from_lists around x last body may.0 each count v may.1 k) (λ turns lists. allows (λ rows rest o s i.
      let is = may.1 in
      subst (λ j. Listed (made_block ls body (drop 1 rows)) (for_from j n x v last (run body) (stepped s))) is
      (lists (drop 1 rows) rest
      (subst (λ j. Over (drop 1 rows) (turns_over capped j x v (judged (fixing x around) body) (rows_of (fixing x around) body) (Some k) (turned 0 (rows_of (fixing x around) body None))).rows rest) (sym is) (over_block _ _ rows _ rest o (λ _. refl)))
      (stepped s) (stepped_inside around k s i)))))

  -- ---- all statements, and blocks

  abbrev reached : (around : Place) (b : Block) → MayLock around (block_has_lock b) → (k : Known) → Accepted around b k (SoundFor c.plan around k (λ m. block_meaning (of c) m b))
  reached around b may k = reached_sound c around b k (λ q. block_sound c narrow serves around b may q)

  -- one statement and then the others, at what it leaves
  next_lists : (around : Place) (st : Statement) (others : Block) (k : Facts) (first : Verdict) → accept_statement (seen c) (around_of around) st k ≡ Ok first
      → SoundFor c.plan around (Some k) (λ m s. effect (of c) m st (stepped s)) first → Lists around st k → BlockLists around others first.after → BlockLists around (next st others) (Some k)
  next_lists around st others k first is sound one lists rows rest o s i =
      let parts = over_next (seen c) (around_of around) st others k first is rows rest o in
      let own : List Command = made ls st rows in
      let cs : List Command = made_block ls others (behind st rows) in
      listed_then (own ++ cs) (SafePiece c.plan) (StopsWell first.costs s) (EndsWell around first.after first.costs s) (effect (of c) n st (stepped s)) (run others)
      (sound.each n le s i) (listed_first own cs (effect (of c) n st (stepped s)) (one rows (behind st rows) parts.0 s i)) (λ t e. listed_second own cs (run others t) (lists (behind st rows) rest parts.1 t e.reaches))

  mutual
    statement_lists : (around : Place) (st : Statement) → MayLock around (has_lock st) → (k : Facts) → Allows (accept_statement (seen c) (around_of around) st k) (λ v. Lists around st k)
    statement_lists around (assign spot x e) may k = always _ (assign_lists around spot x e k)
    statement_lists around (set_register spot r e1 e2 e3) may k = always _ (register_lists around spot r e1 e2 e3 k)
    statement_lists around (single spot size f r m) may k = alone_lists around (single spot size f r m) k _ (single_listed c around n spot size f r m k)
    statement_lists around (address_scan spot f r1 r2 max x) may k = alone_lists around (address_scan spot f r1 r2 max x) k _ (scan_listed c around n spot f r1 r2 max x k)
    statement_lists around (q_stop spot f r t max x) may k = alone_lists around (q_stop spot f r t max x) k _ (q_stop_listed c around n spot f r t max x k)
    statement_lists around (q_repeat spot f r t max limit x) may k = alone_lists around (q_repeat spot f r t max limit x) k _ (q_repeat_listed c around n spot f r t max limit x k)
    statement_lists around (put spot e) may k = always _ (put_lists around spot e k)
    statement_lists around (crate_call spot which e) may k = alone_lists around (crate_call spot which e) k _ (crate_listed c around n spot which e k)
    statement_lists around (lam_call spot which l) may k = alone_lists around (lam_call spot which l) k _ (lam_listed c around n spot which l k)
    statement_lists around (call spot p es) may k = call_lists around spot p es k
    statement_lists around (choose spot test a) may k =
        then_allowed (with_result (split_each around spot test k)) (λ arms d.
        then_allowed (reached_lists around a arms.holds (λ q. block_lists around a may q)) (λ first h.
        allows (if_lists around spot test a k arms d.0 d.1 h)))
    statement_lists around (choose_else spot test a b) may k =
        then_allowed (with_result (split_each around spot test k)) (λ arms d.
        then_allowed (reached_lists around a arms.holds (λ q. block_lists around a (may_first (block_has_lock a) (block_has_lock b) around may) q)) (λ first h.
        then_allowed (reached_lists around b arms.fails (λ q. block_lists around b (may_second (block_has_lock a) (block_has_lock b) around may) q)) (λ second g.
        allows (choice_lists around spot test a b k arms d.0 d.1 h g))))
    statement_lists around (locked spot e body) may k =
        then_allowed (with_result (lock_allowed c around spot e k)) (λ m can.
        then_allowed (block_lists (holding m around) body (λ h. may refl) k) (λ inner h.
        allows (lock_lists around spot e body k m can.0 can.1 h)))
    statement_lists around (for_ spot x e1 e2 qs body) may k =
        then_allowed (with_result (limits_allowed around spot x e1 e2 qs k)) (λ l m.
        then_allowed (both_allowed (reached (fixing x around) body may (for_head x l qs body k)) (reached_lists (fixing x around) body (for_head x l qs body k) (λ q. block_lists (fixing x around) body may q))) (λ turn h.
        required_allowed _ spot _ (λ keep. allows (for_lists around spot x e1 e2 qs body k l turn m.0 m.1 keep h.1 h.2))))
    statement_lists around (for_each spot x v last body) may k =
        each_lists around spot x v last body (λ q. both_allowed (block_sound c narrow serves (fixing x around) body may q) (block_lists (fixing x around) body may q)) k
    statement_lists around (while_ spot test most m qs body) may k =
        then_allowed (with_result (head_allowed around.body spot most m qs body k)) (λ top begins.
        then_allowed (with_result (split_each around spot test top)) (λ arms d.
        then_allowed (both_allowed (reached around body may arms.holds) (reached_lists around body arms.holds (λ q. block_lists around body may q))) (λ turn h.
        required_allowed _ spot _ (λ keep. allows (while_lists around spot test most m qs body k top arms turn begins.0 d.0 begins.1 d.1 h.1 keep h.2)))))

    pub block_lists : (around : Place) (b : Block) → MayLock around (block_has_lock b) → (k : Facts) → Allows (accept_block (seen c) (around_of around) b k) (λ v. BlockLists around b (Some k))
    block_lists around done may k = allows (λ rows rest o s i. tt)
    block_lists around (next st rest) may k =
        let one = may_first (has_lock st) (block_has_lock rest) around may in
        let others = may_second (has_lock st) (block_has_lock rest) around may in
        then_allowed (both_allowed (statement_sound c narrow serves around st one k) (statement_lists around st one k)) (λ first h.
        then_allowed (reached_lists around rest first.after (λ q. block_lists around rest others q)) (λ second g.
        allows (next_lists around st rest k first h.0 h.1 h.2 g)))
