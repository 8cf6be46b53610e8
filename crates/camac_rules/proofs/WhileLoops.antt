-- What the rules accept of a `while` runs safely: its measure falls, so its annotated turns suffice.
use Rattle.std.proofs.Common.{◌≡◌, ℕ, zero, suc, ◌+◌, ◌-◌, ◌<◌, ◌≤◌, Bool, true, false, cond, Option, Some, None, refl, sym, ap, ◌∙◌, subst, arith, ◌*◌, ◌/◌, List, [], ◌∷◌, length}
use Rattle.std.proofs.lemmas.Bool.{eqb-true, leb-true, cond-true, and_parts}
use Rattle.std.proofs.Math.Nat.{div-lt_iff_lt-mul}
use Rattle.std.specs.Prelude.{nat_eq, nat_le}
use Rattle.camac_lang.specs.Tree.{Expression, number, variable, group, add, subtract, multiply, divide, remainder, Statement, assign, set_register, single, address_scan, q_stop, q_repeat, put, crate_call, lam_call, choose, choose_else, for_, for_each, while_, locked, call, Block, done, next, Condition, Keep}
use Rattle.camac_lang.specs.declared.spot.Spot.{Spot}
use Rattle.camac_range.specs.Number.{greatest, difference_of}
use Rattle.camac_range.specs.Interval.{interval}
use Rattle.camac_model.specs.State.{State, Variables, stepped, with_variable}
use Rattle.camac_model.specs.Behaviour.{Behaviour, does, ends, stops, Action}
use Rattle.camac_model.specs.Moments.{Meets}
use Rattle.camac_model.specs.Value.{both, value, truth}
use Rattle.camac_model.specs.Meaning.{Context, effect, block_meaning, turns}
use Rattle.camac_model.specs.Fine as fine
use Rattle.camac_model.specs.Fine.{Bounds}
use Rattle.camac_model.proofs.Rules.{then_meets, given_meets, turns_meet}
use Rattle.camac_rules.specs.Conditions.{sole_variable, Branches}
use Rattle.camac_rules.specs.Writes.{writes, block_writes, positive, is_variable, fall_by, fall_in, fall_of}
use Rattle.camac_rules.specs.Known.{Facts, Known, range_at, with_range}
use Rattle.camac_rules.specs.declared.case.Body.{Body}
use Rattle.camac_rules.specs.Costs.{loop_costs, Verdict, verdict}
use Rattle.camac_rules.specs.Loops.{turn_limit, keeps_hold, keeps_hold_after, head, while_head, turn_bound}
use Rattle.camac_rules.proofs.Values.{some_if}
use Rattle.camac_rules.proofs.Heads.{step, AnyPiece, AnyStop, Same, Leaves, statement_leaves, block_leaves, block_sets, in_keeps, in_keeps_after, reaches_small, meets_both, Between, inside_head, paid_begun, paid_turns, paid_turn, stopped_turn, limit_is_most}
use Rattle.camac_rules.proofs.Allows.{Allows, allowed, then_allowed, required_allowed, given_allowed}
use Rattle.camac_rules.proofs.Stores.{Place, AreLocked, Inside, Reaches}
use Rattle.camac_rules.proofs.Conditions.{Decides, inside_narrowed}
use Rattle.camac_rules.proofs.Sound.{AreEasy, Paid, Untouched, Ended, step as step_of_sound, SafePiece, StopsWell, EndsWell, Sound, SoundFor, meets_more}
use Rattle.camac_rules.proofs.Actions.{Setting, of}
use Rattle.camac_branch.specs.Branch.{Answer}
use Rattle.camac_branch.specs.Plan.{Layout}

-- A turn takes from the measure what the text of its body says.

-- where it ends, m is lower by k
abbrev pub Fell : ℕ → ℕ → State → Unit {0} → State → Type 0
Fell m k s x t = t.variables m + k ≡ s.variables m

abbrev pub Falls : ℕ → ℕ → State → Behaviour State → Type 0
Falls m k s b = Meets step AnyPiece AnyStop (Fell m k s) tt b

none_some : {B : Type 0} {k : ℕ} → ◌≡◌ {A = Option ℕ} None (Some k) → B
none_some h = cc

sole_value : (e : Expression) (m : ℕ) (env : Variables) (v : ℕ) → is_variable m (sole_variable e) ≡ true → value e env ≡ Some v → v ≡ env m
sole_value (variable x) m env v i e =
    let same : x ≡ m = eqb-true x m i in
    let p = some_if (nat_le (env x) greatest) (env x) v e in
    sym p.1 ∙ ap env same
sole_value (group e) m env v i h = sole_value e m env v i h
sole_value (number n) m env v i e = cc
sole_value (add a b) m env v i e = cc
sole_value (subtract a b) m env v i e = cc
sole_value (multiply a b) m env v i e = cc
sole_value (divide a d) m env v i e = cc
sole_value (remainder a d) m env v i e = cc

positive_value : (e : Expression) (k : ℕ) (env : Variables) (v : ℕ) → positive e ≡ Some k → value e env ≡ Some v → v ≡ k
positive_value (number zero) k env v p e = none_some p
positive_value (number (suc n)) k env v p e =
    let is : suc n ≡ k = cc in
    let q = some_if (nat_le (suc n) greatest) (suc n) v e in
    sym q.1 ∙ is
positive_value (group e) k env v p h = positive_value e k env v p h
positive_value (variable x) k env v p e = none_some p
positive_value (add a b) k env v p e = none_some p
positive_value (subtract a b) k env v p e = none_some p
positive_value (multiply a b) k env v p e = none_some p
positive_value (divide a d) k env v p e = none_some p
positive_value (remainder a d) k env v p e = none_some p

is_positive : (e : Expression) (k : ℕ) → positive e ≡ Some k → 0 < k
is_positive (number zero) k p = none_some p
is_positive (number (suc n)) k p = let is : suc n ≡ k = cc in omega arith
is_positive (group e) k p = is_positive e k p
is_positive (variable x) k p = none_some p
is_positive (add a b) k p = none_some p
is_positive (subtract a b) k p = none_some p
is_positive (multiply a b) k p = none_some p
is_positive (divide a d) k p = none_some p
is_positive (remainder a d) k p = none_some p

difference_adds : (o p : Option ℕ) (x k v : ℕ) → ((y : ℕ) → o ≡ Some y → y ≡ x) → ((y : ℕ) → p ≡ Some y → y ≡ k) → both difference_of o p ≡ Some v → v + k ≡ x
difference_adds None p x k v f g e = none_some e
difference_adds (Some y) None x k v f g e = none_some e
difference_adds (Some y) (Some z) x k v f g e =
    let q = some_if (nat_le z y) (y - z) v e in
    let le : z ≤ y = leb-true z y q.0 in
    let one : y ≡ x = f y refl in
    let two : z ≡ k = g z refl in
    let left : y - z ≡ v = q.1 in
    omega arith

pub fall_value : (m : ℕ) (e : Expression) (k : ℕ) (env : Variables) (v : ℕ) → fall_by m e ≡ Some k → value e env ≡ Some v → v + k ≡ env m
fall_value m (subtract a b) k env v f e =
    let p = some_if' (is_variable m (sole_variable a)) (positive b) k f in
    difference_adds (value a env) (value b env) (env m) k v
    (λ y h. sole_value a m env y p.0 h) (λ y h. positive_value b k env y p.1 h) e
  where
    some_if' : (t : Bool) (o : Option ℕ) (j : ℕ) → cond t o None ≡ Some j → (t ≡ true) × (o ≡ Some j)
    some_if' true o j h = (refl, h)
    some_if' false o j h = none_some h
fall_value m (group e) k env v f h = fall_value m e k env v f h
fall_value m (number n) k env v f e = none_some f
fall_value m (variable x) k env v f e = none_some f
fall_value m (add a b) k env v f e = none_some f
fall_value m (multiply a b) k env v f e = none_some f
fall_value m (divide a d) k env v f e = none_some f
fall_value m (remainder a d) k env v f e = none_some f

chosen : (t : Bool) (o : Option ℕ) (k : ℕ) → cond t o None ≡ Some k → (t ≡ true) × (o ≡ Some k)
chosen true o k h = (refl, h)
chosen false o k h = none_some h

fall_by_positive : (m : ℕ) (e : Expression) (k : ℕ) → fall_by m e ≡ Some k → 0 < k
fall_by_positive m (subtract a b) k f = is_positive b k (chosen (is_variable m (sole_variable a)) (positive b) k f).1
fall_by_positive m (group e) k f = fall_by_positive m e k f
fall_by_positive m (number n) k f = none_some f
fall_by_positive m (variable x) k f = none_some f
fall_by_positive m (add a b) k f = none_some f
fall_by_positive m (multiply a b) k f = none_some f
fall_by_positive m (divide a d) k f = none_some f
fall_by_positive m (remainder a d) k f = none_some f

-- the two ways in which a list of statements has one that lowers the measure
fall_split : {P : Type 0} (w v : Bool) (here after : Option ℕ) (k : ℕ) → cond w (cond v None here) after ≡ Some k → (w ≡ false → after ≡ Some k → P) → (v ≡ false → here ≡ Some k → P) → P
fall_split true true here after k h later earlier = none_some h
fall_split true false here after k h later earlier = earlier refl h
fall_split false v here after k h later earlier = later refl h

fall_in_positive : (m : ℕ) (st : Statement) (k : ℕ) → fall_in m st ≡ Some k → 0 < k
fall_in_positive m (assign spot x e) k h = fall_by_positive m e k (chosen (nat_eq x m) (fall_by m e) k h).1
fall_in_positive m (set_register spot r e1 e2 e3) k h = none_some h
fall_in_positive m (single spot size f r move) k h = none_some h
fall_in_positive m (address_scan spot f r1 r2 max x) k h = none_some h
fall_in_positive m (q_stop spot f r t max x) k h = none_some h
fall_in_positive m (q_repeat spot f r t max limit x) k h = none_some h
fall_in_positive m (put spot e) k h = none_some h
fall_in_positive m (crate_call spot which e) k h = none_some h
fall_in_positive m (lam_call spot which l) k h = none_some h
fall_in_positive m (choose spot test a) k h = none_some h
fall_in_positive m (choose_else spot test a b) k h = none_some h
fall_in_positive m (for_ spot x e1 e2 keeps body) k h = none_some h
fall_in_positive m (for_each spot x v last body) k h = none_some h
fall_in_positive m (while_ spot test most x keeps body) k h = none_some h
fall_in_positive m (locked spot e body) k h = none_some h
fall_in_positive m (call spot p es) k h = none_some h

pub fall_positive : (m : ℕ) (b : Block) (k : ℕ) → fall_of m b ≡ Some k → 0 < k
fall_positive m done k h = none_some h
fall_positive m (next st rest) k h =
    fall_split (writes st m) (block_writes rest m) (fall_in m st) (fall_of m rest) k h
    (λ w f. fall_positive m rest k f) (λ w f. fall_in_positive m st k f)

-- from a state with the same measure, and with the end's measure kept
falls_from : (m k : ℕ) (s t : State) (b : Behaviour State) → t.variables m ≡ s.variables m → Falls m k t b → Falls m k s b
falls_from m k s t (does p b) e h = (tt, falls_from m k s t b e h.1)
falls_from m k s t (ends u) e h = h ∙ e
falls_from m k s t (stops w u) e h = tt

fell_kept : (m k : ℕ) (w g : ℕ → Bool) (s t : State) (b : Behaviour State) → w m ≡ false → t.variables m + k ≡ s.variables m → Leaves w g t b → Falls m k s b
fell_kept m k w g s t (does p b) e h l = (tt, fell_kept m k w g s t b e h l.1)
fell_kept m k w g s t (ends u) e h l = ap (λ n. n + k) (l.variables m e) ∙ h
fell_kept m k w g s t (stops x u) e h l = tt

module _ (c : Context) (n m k : ℕ) where
  statement_falls : (st : Statement) (s : State) → fall_in m st ≡ Some k → Falls m k s (effect c n st s)
  statement_falls (assign spot x e) s h =
      let p = chosen (nat_eq x m) (fall_by m e) k h in
      given_meets step AnyPiece AnyStop (Fell m k s) tt (value e s.variables) (λ v t. ends (with_variable x v t)) s (λ none. tt) (λ v is.
      let falls : v + k ≡ s.variables m = fall_value m e k s.variables v p.1 is in
      let same : nat_eq m x ≡ true = subst (λ y. nat_eq m y ≡ true) (sym (eqb-true x m p.0)) (subst (λ y. nat_eq y m ≡ true) (eqb-true x m p.0) p.0) in
      ap (λ y. y + k) (cond-true (nat_eq m x) v (s.variables m) same) ∙ falls)
  statement_falls (set_register spot r e1 e2 e3) s h = none_some h
  statement_falls (single spot size f r move) s h = none_some h
  statement_falls (address_scan spot f r1 r2 max x) s h = none_some h
  statement_falls (q_stop spot f r t max x) s h = none_some h
  statement_falls (q_repeat spot f r t max limit x) s h = none_some h
  statement_falls (put spot e) s h = none_some h
  statement_falls (crate_call spot which e) s h = none_some h
  statement_falls (lam_call spot which l) s h = none_some h
  statement_falls (choose spot test a) s h = none_some h
  statement_falls (choose_else spot test a b) s h = none_some h
  statement_falls (for_ spot x e1 e2 keeps body) s h = none_some h
  statement_falls (for_each spot x v last body) s h = none_some h
  statement_falls (while_ spot test most x keeps body) s h = none_some h
  statement_falls (locked spot e body) s h = none_some h
  statement_falls (call spot p es) s h = none_some h

  pub block_falls : (b : Block) (s : State) → fall_of m b ≡ Some k → Falls m k s (block_meaning c n b s)
  block_falls done s h = none_some h
  block_falls (next st rest) s h =
      fall_split (writes st m) (block_writes rest m) (fall_in m st) (fall_of m rest) k h
      (λ w f. then_meets step AnyPiece AnyStop (λ x t. Same (writes st) _ (stepped s) t) (Fell m k s) tt (effect c n st (stepped s)) (block_meaning c n rest)
      (statement_leaves c n st (stepped s))
      (λ x t l. falls_from m k s t (block_meaning c n rest t) (l.variables m w) (block_falls rest t f)))
      (λ w f. then_meets step AnyPiece AnyStop (Fell m k s) (Fell m k s) tt (effect c n st (stepped s)) (block_meaning c n rest)
      (statement_falls st (stepped s) f)
      (λ x t l. fell_kept m k (block_writes rest) _ s t (block_meaning c n rest t) w l (block_leaves c n rest t)))

-- What the rules accept of a `while` runs safely, and its annotated turns suffice, since its measure falls.

-- by what a `while` may begin
pub record MayTurn (most m : ℕ) (qs : List Keep) (body : Block) (k top : Facts) : Type 0 where
  pub fall : ℕ
  pub falls : fall_of m body ≡ Some fall
  pub most_turns : most ≤ turn_limit
  pub few : (range_at k.ranges m).hi / fall ≤ most
  pub entry : keeps_hold qs k ≡ true
  pub is : with_range m (interval 0 (range_at k.ranges m).hi) (head body qs k) ≡ top

pub head_allowed : (place : Body) (spot : Spot) (most m : ℕ) (qs : List Keep) (body : Block) (k : Facts) → Allows (while_head place spot most m qs body k) (MayTurn most m qs body k)
head_allowed place spot most m qs body k =
    then_allowed (given_allowed (fall_of m body) _ spot _) (λ fall falls.
    required_allowed _ spot _ (λ few.
    let p = and_parts (nat_le most turn_limit) (nat_le ((range_at k.ranges m).hi / fall) most) few in
    required_allowed _ spot _ (λ entry. allowed (record {
      fall = fall;
      falls = falls;
      most_turns = leb-true most turn_limit p.0;
      few = leb-true ((range_at k.ranges m).hi / fall) most p.1;
      entry = entry;
      is = refl;
    }))))

-- answers without waits
abbrev easy : ℕ → List Answer
easy zero = []
easy (suc n) = record { x = false; q = false; word = 0; wait = 0; gl = 0 } ∷ easy n

are_easy : (n : ℕ) → AreEasy (easy n)
are_easy zero = tt
are_easy (suc n) = (refl, are_easy n)

many : (n : ℕ) → length (easy n) ≡ n
many zero = refl
many (suc n) = ap suc (many n)

locks_of : (around : Place) (k : Known) (s : State) → Reaches around k s → AreLocked around s.branch
locks_of around None s r = absurd r
locks_of around (Some k) s r = r.locks

reaches_stepped : (around : Place) (k : Known) (s : State) → Reaches around k s → Reaches around k (stepped s)
reaches_stepped around None s r = r
reaches_stepped around (Some k) s r = record { variables = r.variables; registers = r.registers; locks = r.locks }

with_answers : (around : Place) (k : Known) (s : State) (l : List Answer) → Reaches around k s → Reaches around k (record s { answers = l })
with_answers around None s l r = r
with_answers around (Some k) s l r = record { variables = r.variables; registers = r.registers; locks = r.locks }

-- on enough answers without waits a sound run ends, so what it takes from the measure was there
was_there : (plan : Layout) (around : Place) (after : Known) (c : Bounds) (m fall : ℕ) (s : State) (b : Behaviour State) → AreEasy s.answers → c.steps ≤ length s.answers → Sound plan around after c s b → Falls m fall s b → fall ≤ s.variables m
was_there plan around after c m fall s (does p b) easy' enough h f = was_there plan around after c m fall s b easy' enough h.1 f.1
was_there plan around after c m fall s (ends t) easy' enough h f = omega (arith, f)
was_there plan around after c m fall s (stops w t) easy' enough h f = absurd (omega (arith, enough, h.because easy'))

-- A `while` whose body `run` is accepted where its condition holds, from a state that is inside what is known.
module _ (plan : Layout) (around : Place) (test : Condition) (most m fall : ℕ) (qs : List Keep) (body : Block) (k : Facts) (arms : Branches) (turn : Verdict) (run : Action) where
  abbrev Top : ℕ
  Top = (range_at k.ranges m).hi

  pub record Checked : Type 0 where
    pub truth : (t : State) → Inside around (with_range m (interval 0 Top) (head body qs k)) t → Decides around (truth test t.variables t.q t.x) arms t
    pub sound : (t : State) → Reaches around arms.holds t → Sound plan around turn.after turn.costs t (run t)
    pub leaves : (t : State) → Leaves (block_writes body) (block_sets body) t (run t)
    pub falls : (t : State) → Falls m fall t (run t)
    pub keep : keeps_hold_after qs turn.after ≡ true

  abbrev Turns : ℕ
  Turns = turn_bound arms.holds most

  abbrev Costs : Bounds
  Costs = loop_costs Turns turn.costs

  module _ (h : Checked) (s : State) (i : Inside around k s) where
    -- with so many turns left, of at most n that are allowed
    pub record Turned (left n : ℕ) (t : State) : Type 0 where
      pub made : ℕ
      pub turns : made + left ≡ Turns
      pub allowed : left ≤ n
      pub paid : Paid (loop_costs made turn.costs) s t
      pub between : Between around (block_writes body) body qs s t
      pub below : t.variables m ≤ Top
      pub bound : Reaches around arms.holds t → t.variables m < left * fall + fall
      pub untouched : Untouched around s t

    at_head : (left n : ℕ) (t : State) → Turned left n t → Inside around (with_range m (interval 0 Top) (head body qs k)) t
    at_head left n t g =
        inside_narrowed around (head body qs k) t m (interval 0 Top) (inside_head around body qs k s t i g.between) (record { low = omega arith; high = g.below })

    pub decided : (left n : ℕ) (t : State) (o : Option Bool) → Turned left n t → truth test t.variables t.q t.x ≡ o → Decides around o arms t
    decided left n t o g e = subst (λ p. Decides around p arms t) e (h.truth t (at_head left n t g))

    enough : (t : State) → Reaches around arms.holds t → fall ≤ t.variables m
    enough t r =
        let u : State = record t { answers = easy turn.costs.steps } in
        was_there plan around turn.after turn.costs m fall u (run u) (are_easy turn.costs.steps) (omega (arith, many turn.costs.steps))
        (h.sound u (with_answers around arms.holds t (easy turn.costs.steps) r)) (h.falls u)

    -- no turn begins where none is left
    pub one_is_left : (n : ℕ) (t : State) → Turned zero n t → Reaches around arms.holds t → ⊥
    one_is_left n t g r =
        let there = enough t r in
        let none : t.variables m < zero * fall + fall = g.bound r in
        omega arith

    turn_left : (n left : ℕ) (t u : State) (g : Turned (suc left) (suc n) t) → t.variables m < suc left * fall + fall → Ended around turn.after turn.costs (stepped t) u → Same (block_writes body) (block_sets body) (stepped t) u → u.variables m + fall ≡ t.variables m → Turned left n u
    turn_left n left t u g lower e f fell =
        let old = g.between in
        let below = g.below in
        record {
          made = g.made + 1;
          turns = omega (arith, g.turns);
          allowed = omega (arith, g.allowed);
          paid = paid_turn g.made turn.costs s t (stepped t) u g.paid (record { cost = refl; words = refl; steps = refl; answers = refl }) e.paid;
          between = record {
            same = record {
              variables = λ y o. f.variables y o ∙ old.same.variables y o;
              registers = λ r o. f.registers r o ∙ old.same.registers r o;
            };
            small = reaches_small around turn.after u e.reaches;
            locks = locks_of around turn.after u e.reaches;
            kept = in_keeps_after around qs turn.after u h.keep e.reaches;
          };
          below = omega arith;
          bound = λ r. omega arith;
          untouched = λ y among. e.untouched y among ∙ g.untouched y among;
        }

    pub turn_begins : (t : State) → Reaches around arms.holds t → Reaches around arms.holds (stepped t)
    turn_begins t r = reaches_stepped around arms.holds t r

    pub one_turn : (n left : ℕ) (t : State) → Turned (suc left) (suc n) t → Reaches around arms.holds t → Meets step_of_sound (SafePiece plan) (StopsWell Costs s) (λ x. Turned left n) tt (run (stepped t))
    one_turn n left t g r =
        let b : State = stepped t in
        let lower : t.variables m < suc left * fall + fall = g.bound r in
        let fewer : g.made + 1 ≤ Turns = omega (arith, g.turns) in
        meets_more plan (StopsWell turn.costs b) (StopsWell Costs s)
        (λ x q. (Ended around turn.after turn.costs b q × Same (block_writes body) (block_sets body) b q) × Fell m fall b x q) (λ x. Turned left n) (run b)
        (λ o q e. stopped_turn g.made Turns turn.costs o s t b q fewer g.paid (record { cost = refl; words = refl; steps = refl; answers = refl }) e)
        (λ q e. turn_left n left t q g lower e.0.0 e.0.1 e.1)
        (meets_both plan (StopsWell turn.costs b) (λ x q. Ended around turn.after turn.costs b q × Same (block_writes body) (block_sets body) b q) (Fell m fall b) (run b)
        (meets_both plan (StopsWell turn.costs b) (EndsWell around turn.after turn.costs b) (λ x q. Same (block_writes body) (block_sets body) b q) (run b) (h.sound b (turn_begins t r)) (h.leaves b))
        (h.falls b))

    abbrev SomeLeft : ℕ → State → Type 0
    SomeLeft n t = (left : ℕ) × Turned left n t

    next_turn : (n left : ℕ) (t : State) → Turned left (suc n) t → Reaches around arms.holds t → Meets step_of_sound (SafePiece plan) (StopsWell Costs s) (λ x. SomeLeft n) tt (run (stepped t))
    next_turn n zero t g r = absurd (one_is_left (suc n) t g r)
    next_turn n (suc left) t g r =
        meets_more plan (StopsWell Costs s) (StopsWell Costs s) (λ x. Turned left n) (λ x. SomeLeft n) (run (stepped t)) (λ o q e. e) (λ q e. (left, e)) (one_turn n left t g r)

    none_allowed : (left : ℕ) (t : State) → Turned left zero t → Reaches around arms.holds t → ⊥
    none_allowed zero t g r = one_is_left zero t g r
    none_allowed (suc left) t g r = let le : suc left ≤ zero = g.allowed in omega arith

    turning : (n : ℕ) (t : State) → SomeLeft n t → Sound plan around arms.fails Costs s (turns n test run t)
    turning n t g =
        turns_meet step_of_sound (SafePiece plan) (StopsWell Costs s) (EndsWell around arms.fails Costs s) test run (λ x. SomeLeft)
        (λ x n t g e. absurd (decided g.0 n t None g.1 e))
        (λ x t g e. absurd (none_allowed g.0 t g.1 (decided g.0 zero t (Some true) g.1 e)))
        (λ x n t g e. next_turn n g.0 t g.1 (decided g.0 (suc n) t (Some true) g.1 e))
        (λ x n t g e.
        let fewer : g.1.made ≤ Turns = omega (arith, g.1.turns) in
        record { reaches = decided g.0 n t (Some false) g.1 e; paid = paid_turns g.1.made Turns turn.costs s t fewer g.1.paid; untouched = g.1.untouched })
        n tt t g

bound_of : (around : Place) (holds : Known) (s : State) (v top fall most : ℕ) → 0 < fall → top / fall ≤ most → v ≤ top → Reaches around holds s → v < turn_bound holds most * fall + fall
bound_of around None s v top fall most pos le h r = absurd r
bound_of around (Some q) s v top fall most pos le h r =
    let lt : top / fall < most + 1 = omega arith in
    let below : top < (most + 1) * fall = (div-lt_iff_lt-mul pos).0 lt in
    omega arith

bound_small : (holds : Known) (most : ℕ) → turn_bound holds most ≤ most
bound_small None most = omega arith
bound_small (Some q) most = omega arith

-- a `while` in a script
module _ (c : Setting) (around : Place) (spot : Spot) (test : Condition) (most m : ℕ) (qs : List Keep) (body : Block) (k top : Facts) (arms : Branches) (turn : Verdict)
    (may : MayTurn most m qs body k top) (d : (s : State) → Inside around top s → Decides around (truth test s.variables s.q s.x) arms s)
    (h : SoundFor c.plan around arms.holds (λ n. block_meaning (of c) n body) turn) (keep : keeps_hold_after qs turn.after ≡ true) where
  pub checked : (n : ℕ) → fine.most_turns ≤ n → Checked c.plan around test most m may.fall qs body k arms turn (block_meaning (of c) n body)
  checked n le = record {
    truth = λ t j. d t (subst (λ q. Inside around q t) may.is j);
    sound = λ t r. h.each n le t r;
    leaves = λ t. block_leaves (of c) n body t;
    falls = λ t. block_falls (of c) n m may.fall body t may.falls;
    keep = keep;
  }

  pub before_turns : (n : ℕ) (le : fine.most_turns ≤ n) (s : State) (i : Inside around k s) → Turned c.plan around test most m may.fall qs body k arms turn (block_meaning (of c) n body) (checked n le) s i (turn_bound arms.holds most) n (stepped s)
  before_turns n le s i =
      let enough : turn_limit ≤ n = limit_is_most n le in
      let few : turn_bound arms.holds most ≤ most = bound_small arms.holds most in
      let most_turns' : most ≤ turn_limit = may.most_turns in
      let below : s.variables m ≤ (range_at k.ranges m).hi = (i.variables.each m).high in
      record {
        made = 0;
        turns = omega arith;
        allowed = omega arith;
        paid = paid_begun 0 turn.costs s;
        between = record { same = record { variables = λ y e. refl; registers = λ r e. refl }; small = i.variables.small; locks = i.locks; kept = in_keeps around qs k s may.entry i };
        below = below;
        bound = λ r. bound_of around arms.holds (stepped s) (s.variables m) (range_at k.ranges m).hi may.fall most (fall_positive m body may.fall may.falls) may.few below r;
        untouched = λ y e. refl;
      }

  pub while_sound : SoundFor c.plan around (Some k) (λ n s. effect (of c) n (while_ spot test most m qs body) (stepped s)) (verdict arms.fails (loop_costs (turn_bound arms.holds most) turn.costs))
  while_sound = record {
    each = λ n le s i.
        turning c.plan around test most m may.fall qs body k arms turn (block_meaning (of c) n body) (checked n le) s i n (stepped s)
        (turn_bound arms.holds most, before_turns n le s i);
  }
