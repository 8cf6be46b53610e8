-- What the rules accept of a `for` runs safely, by what holds between its turns.
use Rattle.std.proofs.Common.{◌≡◌, ℕ, zero, suc, ◌+◌, ◌-◌, ◌<◌, ◌≤◌, Bool, true, false, List, Some, None, refl, ◌∙◌, subst, arith}
use Rattle.std.specs.Prelude.{◌||◌, nat_eq, nat_lt, if◌then◌else◌}
use Rattle.std.proofs.lemmas.Bool.{leb-true, ltb-true, or_right, or_parts}
use Rattle.camac_lang.specs.Tree.{Expression, Keep, Block, for_}
use Rattle.camac_range.specs.Number.{greatest}
use Rattle.camac_range.specs.Interval.{IsWithin, hull}
use Rattle.camac_range.proofs.Within.{hull_left, hull_right}
use Rattle.camac_branch.specs.Plan.{Layout}
use Rattle.camac_model.specs.State.{State, stepped, with_variable}
use Rattle.camac_model.specs.Behaviour.{Action, given}
use Rattle.camac_model.specs.Value.{value}
use Rattle.camac_model.specs.Meaning.{for_state, for_from, effect, block_meaning}
use Rattle.camac_model.specs.Fine.{Bounds, most_turns}
use Rattle.camac_model.specs.Moments.{Meets}
use Rattle.camac_model.proofs.Rules.{counts_meet_within}
use Rattle.camac_rules.specs.Known.{Facts, Known, range_at, with_range}
use Rattle.camac_rules.specs.Costs.{loop_costs, Verdict, verdict}
use Rattle.camac_rules.specs.Writes.{block_writes}
use Rattle.camac_rules.specs.Loops.{turn_limit, keeps_hold, keeps_hold_after, head, Limits, limits, turns_between, values_between, for_limits, for_head, for_after}
use Rattle.camac_rules.specs.Addresses.{is_among}
use Rattle.camac_rules.specs.Cycles.{may_write}
use Rattle.camac_rules.proofs.Allows.{Allows, allowed, then_allowed, required_allowed}
use Rattle.camac_rules.proofs.Stores.{Place, around_of, fixing, AreLocked, Inside, Reaches}
use Rattle.camac_rules.proofs.Values.{Fits, Gives, range_each}
use Rattle.camac_rules.proofs.Conditions.{inside_narrowed}
use Rattle.camac_rules.proofs.Sound.{Paid, Untouched, Ended, step, SafePiece, StopsWell, EndsWell, Sound, SoundFor, meets_more}
use Rattle.camac_rules.proofs.Actions.{Setting, of, with_given, value_of, written_other}
use Rattle.camac_rules.proofs.Heads.{block_sets, Same, same_written, Leaves, block_leaves, in_keeps, in_keeps_after, reaches_small, meets_both, Between, inside_head, inside_set, paid_begun, paid_turns, paid_turn, stopped_turn, limit_is_most}
use Rattle.camac_lang.specs.declared.spot.Spot.{Spot}

-- by what a `for` may begin
pub record MayCount (around : Place) (x : ℕ) (e1 e2 : Expression) (qs : List Keep) (k : Facts) (l : Limits) : Type 0 where
  pub first : (s : State) → Inside around k s → Gives (value e1 s.variables) l.first
  pub last : (s : State) → Inside around k s → Gives (value e2 s.variables) l.last
  pub may : may_write (around_of around) x ≡ true
  pub few : turns_between l ≤ turn_limit
  pub entry : keeps_hold qs k ≡ true

pub limits_allowed : (around : Place) (spot : Spot) (x : ℕ) (e1 e2 : Expression) (qs : List Keep) (k : Facts) → Allows (for_limits (around_of around) spot x e1 e2 qs k) (MayCount around x e1 e2 qs k)
limits_allowed around spot x e1 e2 qs k =
    then_allowed (range_each spot e1 k.ranges) (λ r gives_r.
    then_allowed (range_each spot e2 k.ranges) (λ q gives_q.
    required_allowed _ spot _ (λ may.
    required_allowed _ spot _ (λ few.
    required_allowed _ spot _ (λ entry. allowed (record {
      first = λ s i. gives_r s.variables i.variables;
      last = λ s i. gives_q s.variables i.variables;
      may = may;
      few = leb-true (turns_between (limits r q)) turn_limit few;
      entry = entry;
    }))))))

locks_of : (around : Place) (x : ℕ) (k : Known) (s : State) → Reaches (fixing x around) k s → AreLocked around s.branch
locks_of around x None s r = absurd r
locks_of around x (Some k) s r = r.locks

-- what is known after a `for` that may make a turn
abbrev After : ℕ → Block → List Keep → Facts → Limits → Known
After x body qs k l = Some (with_range x (hull (range_at k.ranges x) (values_between l)) (head body qs k))

-- A `for` whose body `run` is accepted at the head, from a state that is inside what is known.
module _ (plan : Layout) (around : Place) (x : ℕ) (body : Block) (qs : List Keep) (k : Facts) (l : Limits) (turn : Verdict) (run : Action) where
  pub record Checked : Type 0 where
    pub may : may_write (around_of around) x ≡ true
    pub sound : (t : State) → Inside (fixing x around) (with_range x (values_between l) (head body qs k)) t → Sound plan (fixing x around) turn.after turn.costs t (run t)
    pub leaves : (t : State) → Leaves (block_writes body) (block_sets body) t (run t)
    pub keep : keeps_hold_after qs turn.after ≡ true

  abbrev Written : ℕ → Bool
  Written y = nat_eq y x || block_writes body y

  abbrev Costs : Bounds
  Costs = loop_costs (turns_between l) turn.costs

  module _ (h : Checked) (s : State) (i : Inside around k s) (v w : ℕ) (first : Fits l.first v) (last : Fits l.last w) where
    -- after so many turns, with so many left and this value next
    pub record Turned (left next : ℕ) (t : State) : Type 0 where
      pub made : ℕ
      pub turns : made + left ≡ w + 1 - v
      pub is_next : next ≡ v + made
      pub paid : Paid (loop_costs made turn.costs) s t
      pub between : Between around Written body qs s t
      pub untouched : Untouched around s t

    in_values : (n : ℕ) → v ≤ n → n ≤ w → IsWithin (values_between l) n
    in_values n low high = record { low = omega (arith, first.within); high = omega (arith, last.within) }

    turn_left : (left next : ℕ) (t u : State) → Turned (suc left) next t → Ended (fixing x around) turn.after turn.costs (for_state x next t) u → Same (block_writes body) (block_sets body) (for_state x next t) u → Turned left (next + 1) u
    turn_left left next t u g e f =
        let old = g.between in
        let wrote : Same Written (block_sets body) s (with_variable x next t) =
        same_written Written (block_sets body) x next s t (λ y o. (or_parts (nat_eq y x) (block_writes body y) o).0) old.same in
        record {
          made = g.made + 1;
          turns = omega (arith, g.turns);
          is_next = omega (arith, g.is_next);
          paid = paid_turn g.made turn.costs s t (for_state x next t) u g.paid (record { cost = refl; words = refl; steps = refl; answers = refl }) e.paid;
          between = record {
            same = record {
              variables = λ y o. f.variables y (or_parts (nat_eq y x) (block_writes body y) o).1 ∙ wrote.variables y o;
              registers = λ r o. f.registers r o ∙ wrote.registers r o;
            };
            small = reaches_small (fixing x around) turn.after u e.reaches;
            locks = locks_of around x turn.after u e.reaches;
            kept = in_keeps_after (fixing x around) qs turn.after u h.keep e.reaches;
          };
          untouched = λ y among. e.untouched y (or_right (nat_eq y x) (is_among y around.fixed) among) ∙ (written_other around x next t.variables h.may y among ∙ g.untouched y among);
        }

    -- the body begins inside what is known there
    pub turn_begins : (left next : ℕ) (t : State) → Turned (suc left) next t → Inside (fixing x around) (with_range x (values_between l) (head body qs k)) (for_state x next t)
    turn_begins left next t g =
        let high : next ≤ w = omega (arith, g.turns, g.is_next) in
        let value_in : IsWithin (values_between l) next = in_values next (omega (arith, g.is_next)) high in
        let value_small : next ≤ greatest = omega (arith, last.small) in
        let set = inside_set around x next (values_between l) body qs k s t i g.between value_in value_small in
        record { variables = set.variables; registers = set.registers; locks = set.locks }

    pub one_turn : (left next : ℕ) (t : State) → Turned (suc left) next t → Meets step (SafePiece plan) (StopsWell Costs s) (λ y. Turned left (next + 1)) tt (run (for_state x next t))
    one_turn left next t g =
        let t' : State = for_state x next t in
        let fewer : g.made + 1 ≤ turns_between l = omega (arith, g.turns, first.within, last.within) in
        meets_more plan (StopsWell turn.costs t') (StopsWell Costs s)
        (λ y q. Ended (fixing x around) turn.after turn.costs t' q × Same (block_writes body) (block_sets body) t' q) (λ y. Turned left (next + 1)) (run t')
        (λ o q e. stopped_turn g.made (turns_between l) turn.costs o s t t' q fewer g.paid (record { cost = refl; words = refl; steps = refl; answers = refl }) e)
        (λ q e. turn_left left next t q g e.0 e.1)
        (meets_both plan (StopsWell turn.costs t') (EndsWell (fixing x around) turn.after turn.costs t') (λ y q. Same (block_writes body) (block_sets body) t' q) (run t') (h.sound t' (turn_begins left next t g)) (h.leaves t'))

    pub before_turns : (m : ℕ) → m ≡ w + 1 - v → Between around Written body qs s (stepped s) → Turned m v (stepped s)
    before_turns m is b = record { made = 0; turns = omega (arith, is); is_next = omega arith; paid = paid_begun 0 turn.costs s; between = b; untouched = λ y e. refl }

    all_turns : (m n : ℕ) → m ≡ w + 1 - v → m ≤ n → Between around Written body qs s (stepped s) → Sound plan around (After x body qs k l) Costs s (for_from m n x v w run (stepped s))
    all_turns zero n is le b = record {
      reaches = inside_narrowed around (head body qs k) (stepped s) x (hull (range_at k.ranges x) (values_between l))
          (inside_head around body qs k s (stepped s) i (record { same = record { variables = λ y e. refl; registers = λ r e. refl }; small = b.small; locks = b.locks; kept = b.kept }))
          (hull_left (range_at k.ranges x) (values_between l) (s.variables x) (i.variables.each x));
      paid = paid_begun (turns_between l) turn.costs s;
      untouched = λ y e. refl;
    }
    all_turns (suc m) n is le b =
        counts_meet_within step (SafePiece plan) (StopsWell Costs s) (EndsWell around (After x body qs k l) Costs s) x w run (λ u. Turned)
        (λ u left next t g. one_turn left next t g)
        (λ u next t g.
        let fewer : g.made ≤ turns_between l = omega (arith, g.turns, first.within, last.within) in
        let all = paid_turns g.made (turns_between l) turn.costs s t fewer g.paid in
        record {
          reaches = inside_set around x w (hull (range_at k.ranges x) (values_between l)) body qs k s t i g.between
              (hull_right (range_at k.ranges x) (values_between l) w (in_values w (omega (arith, is)) (omega arith))) last.small;
          paid = record { cycles = all.cycles; words = all.words; steps = all.steps; are_words = all.are_words; answers = all.answers; easy = all.easy };
          untouched = λ y among. written_other around x w t.variables h.may y among ∙ g.untouched y among;
        })
        (suc m) n le tt v (stepped s) (before_turns (suc m) is b)

-- a `for`, with and without a turn that can be
module _ (c : Setting) (around : Place) (spot : Spot) (x : ℕ) (e1 e2 : Expression) (qs : List Keep) (body : Block) (k : Facts) (l : Limits) (turn : Verdict) (m : MayCount around x e1 e2 qs k l) (keep : keeps_hold_after qs turn.after ≡ true) where
  abbrev Run : ℕ → Action
  Run n s = effect (of c) n (for_ spot x e1 e2 qs body) (stepped s)

  -- the values of the limits, and all turns by them
  valued : (n : ℕ) (after : Known) (s : State) → Inside around k s → ((v w : ℕ) → Fits l.first v → Fits l.last w → Sound c.plan around after (loop_costs (turns_between l) turn.costs) s (for_from (w + 1 - v) n x v w (block_meaning (of c) n body) (stepped s))) → Sound c.plan around after (loop_costs (turns_between l) turn.costs) s (Run n s)
  valued n after s i h =
      let d : Bounds = loop_costs (turns_between l) turn.costs in
      let a = value_of (value e1 s.variables) l.first (m.first s i) in
      let b = value_of (value e2 s.variables) l.last (m.last s i) in
      let second : ℕ → ℕ → Action = λ v w. for_from (w + 1 - v) n x v w (block_meaning (of c) n body) in
      with_given c.plan around after d s (stepped s) (value e1 s.variables) (λ v. given (value e2 s.variables) (second v)) a.number a.is
      (with_given c.plan around after d s (stepped s) (value e2 s.variables) (second a.number) b.number b.is (h a.number b.number a.fits b.fits))

  no_turn : l.last.hi < l.first.lo → SoundFor c.plan around (Some k) Run (verdict (Some k) (loop_costs (turns_between l) turn.costs))
  no_turn lt = record {
    each = λ n le s i. valued n (Some k) s i (λ v w f g.
        let none : 0 ≡ w + 1 - v = omega (arith, f.within, g.within) in
        subst (λ j. Sound c.plan around (Some k) (loop_costs (turns_between l) turn.costs) s (for_from j n x v w (block_meaning (of c) n body) (stepped s))) none
        (record {
          reaches = record { variables = i.variables; registers = i.registers; locks = i.locks };
          paid = paid_begun (turns_between l) turn.costs s;
          untouched = λ y e. refl;
        }));
  }

  pub entered : (s : State) → Inside around k s → Between around (λ y. nat_eq y x || block_writes body y) body qs s (stepped s)
  entered s i = record { same = record { variables = λ y e. refl; registers = λ r e. refl }; small = i.variables.small; locks = i.locks; kept = in_keeps around qs k s m.entry i }

  pub checked : (n : ℕ) → most_turns ≤ n → SoundFor c.plan (fixing x around) (Some (with_range x (values_between l) (head body qs k))) (λ n. block_meaning (of c) n body) turn → Checked c.plan around x body qs k l turn (block_meaning (of c) n body)
  checked n le h = record { may = m.may; sound = λ t j. h.each n le t j; leaves = λ t. block_leaves (of c) n body t; keep = keep }

  some_turns : SoundFor c.plan (fixing x around) (Some (with_range x (values_between l) (head body qs k))) (λ n. block_meaning (of c) n body) turn → SoundFor c.plan around (Some k) Run (verdict (After x body qs k l) (loop_costs (turns_between l) turn.costs))
  some_turns h = record {
    each = λ n le s i. valued n (After x body qs k l) s i (λ v w f g.
        let enough : turn_limit ≤ n = limit_is_most n le in
        let few : turns_between l ≤ turn_limit = m.few in
        let fewer : w + 1 - v ≤ turns_between l = omega (arith, f.within, g.within) in
        all_turns c.plan around x body qs k l turn (block_meaning (of c) n body)
        (checked n le h) s i v w f g (w + 1 - v) n refl (omega arith) (entered s i));
  }

  by_turns : (b : Bool) → nat_lt l.last.hi l.first.lo ≡ b → SoundFor c.plan (fixing x around) (if b then None else Some (with_range x (values_between l) (head body qs k))) (λ n. block_meaning (of c) n body) turn → SoundFor c.plan around (Some k) Run (verdict (if b then Some k else After x body qs k l) (loop_costs (turns_between l) turn.costs))
  by_turns true e h = no_turn (ltb-true l.last.hi l.first.lo e)
  by_turns false e h = some_turns h

  pub for_sound : SoundFor c.plan (fixing x around) (for_head x l qs body k) (λ n. block_meaning (of c) n body) turn → SoundFor c.plan around (Some k) Run (verdict (for_after x l qs body k) (loop_costs (turns_between l) turn.costs))
  for_sound h = by_turns (nat_lt l.last.hi l.first.lo) refl h
