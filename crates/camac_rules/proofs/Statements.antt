-- What the rules accept of statements runs safely: one induction over statements.
use Rattle.std.proofs.Common.{◌≡◌, ℕ, ◌+◌, ◌≤◌, [], ◌∷◌, ◌++◌, length, length-append, Option, Some, None, Bool, true, false, refl, arith, ap, zero, suc, ◌-◌, Result, ◌∙◌, subst}
use Rattle.std.proofs.lemmas.Bool.{leb-true, or_right, and_parts}
use Rattle.camac_lang.specs.Tree.{Expression, Statement, assign, set_register, single, address_scan, q_stop, q_repeat, put, crate_call, lam_call, choose, choose_else, for_, for_each, while_, locked, call, Block, done, next}
use Rattle.camac_branch.specs.Address.{address}
use Rattle.camac_branch.specs.Plan.{Layout}
use Rattle.camac_model.specs.State.{State, stepped, with_variable, with_register, with_word}
use Rattle.camac_model.specs.Behaviour.{ends, Action, given, decide}
use Rattle.camac_model.specs.Value.{value, truth}
use Rattle.camac_model.specs.Meaning.{effect, block_meaning, for_state, for_turns, for_from}
use Rattle.camac_rules.specs.Known.{region, Facts, Known, with_range, with_region}
use Rattle.camac_rules.specs.Refusal.{if_reached}
use Rattle.camac_rules.specs.Joined.{join}
use Rattle.camac_rules.specs.Conditions.{Branches}
use Rattle.camac_rules.specs.Costs.{costs, no_costs, choice_costs, Verdict, verdict, unreached, plus}
use Rattle.camac_rules.specs.Loops.{for_head, turn_limit}
use Rattle.camac_rules.specs.Statements.{greatest_word, assign_rule, register_rule, put_rule, accept_statement, accept_block}
use Rattle.camac_rules.proofs.Allows.{Allows, allowed as allows, then_allowed, required_allowed, if_reached_allowed, allowed}
use Rattle.camac_rules.proofs.Stores.{Place, around_of, fixing, holding, InRegion, Reaches, registers_write, Inside}
use Rattle.camac_rules.proofs.Joined.{join_left, join_right}
use Rattle.camac_rules.proofs.Conditions.{Decides, split_each}
use Rattle.camac_rules.proofs.Values.{range_each, Fits, only_within}
use Rattle.camac_rules.proofs.Sound.{words_push, Sound, SoundFor, paid_nothing, sound_then, sound_begun, Paid, Untouched, Ended, Stopped, StopsWell, EndsWell, meets_more}
use Rattle.camac_rules.proofs.Actions.{Setting, of, HasWidths, seen, with_given, value_of, inside_written, written_other, single_sound, crate_sound, lam_sound}
use Rattle.camac_rules.proofs.Held.{MayLock, lock_allowed, lock_sound}
use Rattle.camac_rules.proofs.ForLoops.{limits_allowed, for_sound}
use Rattle.camac_rules.proofs.WhileLoops.{head_allowed, while_sound}
use Rattle.camac_rules.proofs.Transfers.{q_stop_sound, q_repeat_sound}
use Rattle.camac_rules.proofs.Scans.{scan_sound}
use Rattle.camac_rules.proofs.Lockless.{has_lock, block_has_lock}
use Rattle.camac_rules.proofs.Routines.{Serves, call_sound}
use Rattle.std.specs.Prelude.{◌||◌, ◌&&◌, nat_eq, nat_le}
use Rattle.camac_lang.specs.declared.spot.Spot.{Spot}
use Rattle.camac_range.specs.Number.{greatest}
use Rattle.camac_range.specs.Interval.{only}
use Rattle.camac_model.specs.Fine.{Bounds, most_turns}
use Rattle.camac_rules.specs.Fault.{Fault}
use Rattle.camac_rules.specs.Addresses.{is_among}
use Rattle.camac_rules.specs.Cycles.{may_write}
use Rattle.camac_rules.specs.Each.{turn_costs, each_turns, each_from, each_begins, each_rule}
use Rattle.camac_rules.proofs.Heads.{limit_is_most}

-- What the rules accept of a `for` with `each` runs safely: one induction over its turns, without an invariant.

-- outside the loop its variable is fixed no more
outside : (around : Place) (x : ℕ) (k : Known) (s : State) → Reaches (fixing x around) k s → Reaches around k s
outside around x None s r = r
outside around x (Some k) s r = record { variables = r.variables; registers = r.registers; locks = r.locks }

-- a turn's own step, and what its body pays
paid_one : (x v : ℕ) (c : Bounds) (s t : State) → Paid c (for_state x v s) t → Paid (turn_costs c) s t
paid_one x v c s t p = record { cycles = omega (arith, p.cycles); words = omega (arith, p.words); steps = omega (arith, p.steps); are_words = p.are_words; answers = omega (arith, p.answers); easy = p.easy }

-- the loop's variable gets its last value
paid_last : (x v : ℕ) (s : State) → Paid no_costs s (with_variable x v s)
paid_last x v s = record { cycles = omega arith; words = omega arith; steps = omega arith; are_words = λ w. w; answers = omega arith; easy = λ w. w }

-- A loop over variable x up to `last`, whose body `run n` is accepted by `check` wherever it may begin.
module _ (plan : Layout) (around : Place) (x last : ℕ) (may : may_write (around_of around) x ≡ true) (small : last ≤ greatest) (check : Facts → Result Verdict Fault) (run : ℕ → Action)
    (sound : (q : Facts) → Allows (check q) (SoundFor plan (fixing x around) (Some q) run)) where
  -- so many turns from this value on, as they are judged from what is known
  abbrev Turned : (turns current : ℕ) → Known → Verdict → Type 0
  Turned k v q w = (n m : ℕ) → most_turns ≤ n → k ≤ m → (s : State) → Reaches around q s → Sound plan around w.after w.costs s (for_turns k m x v last (run n) s)

  fits : (v : ℕ) → v ≤ last → Fits (only v) v
  fits v le = record { within = only_within v; small = omega (arith, small) }

  one_turn : (v : ℕ) → v ≤ last → (q : Facts) (turn : Verdict) → SoundFor plan (fixing x around) (Some (with_range x (only v) q)) run turn → (n : ℕ) → most_turns ≤ n → (s : State) → Inside around q s → Sound plan around turn.after (turn_costs turn.costs) s (run n (for_state x v s))
  one_turn v below q turn h n le s i =
      let t : State = for_state x v s in
      let j = inside_written around q x v (only v) s i (fits v below) in
      meets_more plan (StopsWell turn.costs t) (StopsWell (turn_costs turn.costs) s) (EndsWell (fixing x around) turn.after turn.costs t) (EndsWell around turn.after (turn_costs turn.costs) s) (run n t)
      (λ o u e. record { of_answers = e.of_answers; paid = paid_one x v turn.costs s u e.paid; because = λ z. omega (arith, e.because z) })
      (λ u e. record {
        reaches = outside around x turn.after u e.reaches;
        paid = paid_one x v turn.costs s u e.paid;
        untouched = λ y among. e.untouched y (or_right (nat_eq y x) (is_among y around.fixed) among) ∙ written_other around x v s.variables may y among;
      })
      (h.each n le t (record { variables = j.variables; registers = j.registers; locks = j.locks }))

  -- the induction over turns
  pub turns_sound : (k v : ℕ) → k + v ≡ last + 1 → (q : Facts) → Allows (each_turns (λ c. c) k x v last check q) (Turned k v (Some q))
  turns_sound zero v is q = allowed (λ n m le few s i. record {
    reaches = inside_written around q x last (only last) s i (fits last (omega arith));
    paid = paid_last x last s;
    untouched = written_other around x last s.variables may;
  })
  turns_sound (suc k) v is q =
      then_allowed (sound (with_range x (only v) q)) (λ turn h.
      then_allowed (if_reached_allowed unreached turn.after (each_turns (λ c. c) k x (v + 1) last check) (Turned k (v + 1)) (λ n m le few s r. absurd r) (λ p. turns_sound k (v + 1) (omega (arith, is)) p)) (λ rest g.
      allowed (go turn h rest g)))
    where
      go : (turn : Verdict) → SoundFor plan (fixing x around) (Some (with_range x (only v) q)) run turn → (rest : Verdict) → Turned k (v + 1) turn.after rest → Turned (suc k) v (Some q) (verdict rest.after (plus (turn_costs turn.costs) rest.costs))
      go turn h rest g n zero le few s i = absurd (omega arith)
      go turn h rest g n (suc m) le few s i =
          sound_then plan around turn.after rest.after (turn_costs turn.costs) rest.costs s (run n (for_state x v s)) (for_turns k m x (v + 1) last (run n))
          (one_turn v (omega (arith, is)) q turn h n le s i)
          (λ t r. g n m le (omega arith) t r)

  -- with and without a turn
  pub from_sound : (k v : ℕ) → k ≡ last + 1 - v → (q : Facts) → Allows (each_from (λ c. c) k x v last check q) (λ w. (n m : ℕ) → most_turns ≤ n → k ≤ m → (s : State) → Inside around q s → Sound plan around w.after w.costs s (for_from k m x v last (run n) s))
  from_sound zero v is q = allowed (λ n m le few s i. record { reaches = i; paid = paid_nothing s; untouched = λ y among. refl })
  from_sound (suc k) v is q = turns_sound (suc k) v (omega (arith, is)) q

-- by what it may begin
pub record MayTurn (around : Place) (x v last n : ℕ) : Type 0 where
  pub may : may_write (around_of around) x ≡ true
  pub first_small : v ≤ greatest
  pub last_small : last ≤ greatest
  pub is : n ≡ last + 1 - v
  pub few : n ≤ turn_limit

turns_allowed : (around : Place) (spot : Spot) (x v last : ℕ) → Allows (each_begins (around_of around) spot x v last) (MayTurn around x v last)
turns_allowed around spot x v last =
    required_allowed _ spot _ (λ small.
    required_allowed _ spot _ (λ may.
    required_allowed _ spot _ (λ few.
    let p = and_parts (nat_le v greatest) (nat_le last greatest) small in
    allowed (record { may = may; first_small = leb-true v greatest p.0; last_small = leb-true last greatest p.1; is = refl; few = leb-true (last + 1 - v) turn_limit few }))))

-- The rule is sound, where its body's is wherever a turn may begin.
pub each_sound : (c : Setting) (around : Place) (spot : Spot) (x v last : ℕ) (body : Block) (check : Facts → Result Verdict Fault) → ((q : Facts) → Allows (check q) (SoundFor c.plan (fixing x around) (Some q) (λ n. block_meaning (of c) n body))) → (k : Facts) → Allows (each_rule (seen c) (around_of around) spot x v last check k) (SoundFor c.plan around (Some k) (λ n s. effect (of c) n (for_each spot x v last body) (stepped s)))
each_sound c around spot x v last body check sound k =
    then_allowed (turns_allowed around spot x v last) (λ count m.
    then_allowed (from_sound c.plan around x last m.may m.last_small check (λ n. block_meaning (of c) n body) sound count v m.is k) (λ turns h. allowed (record {
      each = λ n le s i.
          let d : Bounds = plus (costs 0 0 1) turns.costs in
          let enough : turn_limit ≤ n = limit_is_most n le in
          let few = m.few in
          let run : Action = block_meaning (of c) n body in
          subst (λ j. Sound c.plan around turns.after d s (for_from j n x v last run (stepped s))) m.is
          (sound_begun c.plan around (Some k) turns.after turns.after turns.costs d s (for_from count n x v last run) i (λ t r. h n n le (omega arith) t r) (λ t r. r) (omega arith) (omega arith) (omega arith));
    })))

assign_sound : (c : Setting) (around : Place) (spot : Spot) (x : ℕ) (e : Expression) (k : Facts) → Allows (assign_rule (around_of around) spot x e k) (SoundFor c.plan around (Some k) (λ n s. effect (of c) n (assign spot x e) (stepped s)))
assign_sound c around spot x e k =
    then_allowed (range_each spot e k.ranges) (λ r gives.
    required_allowed _ spot _ (λ may. allows (record {
      each = λ n le s i.
          let v = value_of (value e s.variables) r (gives s.variables i.variables) in
          with_given c.plan around (Some (with_range x r k)) (costs 0 0 1) s (stepped s) (value e s.variables) (λ m t. ends (with_variable x m t)) v.number v.is
          (record {
            reaches = inside_written around k x v.number r (stepped s) (record { variables = i.variables; registers = i.registers; locks = i.locks }) v.fits;
            paid = record { cycles = omega arith; words = omega arith; steps = omega arith; are_words = λ w. w; answers = omega arith; easy = λ w. w };
            untouched = written_other around x v.number s.variables may;
          });
    })))

put_sound : (c : Setting) (around : Place) (spot : Spot) (e : Expression) (k : Facts) → Allows (put_rule spot e k) (SoundFor c.plan around (Some k) (λ n s. effect (of c) n (put spot e) (stepped s)))
put_sound c around spot e k =
    then_allowed (range_each spot e k.ranges) (λ r gives.
    required_allowed _ spot _ (λ small. allows (record {
      each = λ n le s i.
          let v = value_of (value e s.variables) r (gives s.variables i.variables) in
          let most : r.hi ≤ greatest_word = leb-true r.hi greatest_word small in
          let high : v.number ≤ r.hi = v.fits.within.high in
          let long : length (s.words ++ v.number ∷ []) ≡ length s.words + 1 = length-append s.words (v.number ∷ []) in
          with_given c.plan around (Some k) (costs 0 1 1) s (stepped s) (value e s.variables) (λ w t. ends (with_word w t)) v.number v.is
          (record {
            reaches = record { variables = i.variables; registers = i.registers; locks = i.locks };
            paid = record { cycles = omega arith; words = omega arith; steps = omega arith; are_words = words_push s.words v.number (omega arith); answers = omega arith; easy = λ w. w };
            untouched = λ y among. refl;
          });
    })))

register_set_sound : (c : Setting) (around : Place) (spot : Spot) (r : ℕ) (e1 e2 e3 : Expression) (k : Facts) → Allows (register_rule spot r e1 e2 e3 k) (SoundFor c.plan around (Some k) (λ n s. effect (of c) n (set_register spot r e1 e2 e3) (stepped s)))
register_set_sound c around spot r e1 e2 e3 k =
    then_allowed (range_each spot e1 k.ranges) (λ cs gives_c.
    then_allowed (range_each spot e2 k.ranges) (λ ns gives_n.
    then_allowed (range_each spot e3 k.ranges) (λ subs gives_a. allows (record {
      each = λ n le s i.
          let after : Known = Some (with_region r (region cs ns subs) k) in
          let x = value_of (value e1 s.variables) cs (gives_c s.variables i.variables) in
          let y = value_of (value e2 s.variables) ns (gives_n s.variables i.variables) in
          let z = value_of (value e3 s.variables) subs (gives_a s.variables i.variables) in
          let third : ℕ → ℕ → ℕ → Action = λ p q m t. ends (with_register r (address p q m) t) in
          let second : ℕ → ℕ → Action = λ p q. given (value e3 s.variables) (third p q) in
          let inside : InRegion (region cs ns subs) (address x.number y.number z.number) = record { crate_no = x.fits.within; station = y.fits.within; sub_address = z.fits.within } in
          with_given c.plan around after (costs 0 0 1) s (stepped s) (value e1 s.variables) (λ p. given (value e2 s.variables) (second p)) x.number x.is
          (with_given c.plan around after (costs 0 0 1) s (stepped s) (value e2 s.variables) (second x.number) y.number y.is
          (with_given c.plan around after (costs 0 0 1) s (stepped s) (value e3 s.variables) (third x.number y.number) z.number z.is
          (record {
            reaches = record {
              variables = i.variables;
              registers = registers_write k.registers s.registers r (region cs ns subs) (address x.number y.number z.number) i.registers inside;
              locks = i.locks;
            };
            paid = record { cycles = omega arith; words = omega arith; steps = omega arith; are_words = λ w. w; answers = omega arith; easy = λ w. w };
            untouched = λ q among. refl;
          })));
    }))))

-- a block, if it can be reached
pub reached_sound : (c : Setting) (around : Place) (b : Block) (known : Known) → ((k : Facts) → Allows (accept_block (seen c) (around_of around) b k) (SoundFor c.plan around (Some k) (λ n. block_meaning (of c) n b))) → Allows (if_reached unreached known (accept_block (seen c) (around_of around) b)) (SoundFor c.plan around known (λ n. block_meaning (of c) n b))
reached_sound c around b known h =
    if_reached_allowed unreached known (accept_block (seen c) (around_of around) b) (λ k. SoundFor c.plan around k (λ n. block_meaning (of c) n b))
    (record { each = λ n le s i. absurd i }) h

-- the arm of a condition's truth, each arm from the states that can reach it
choice_sound : (plan : Layout) (around : Place) (arms : Branches) (first second : Verdict) (s : State) (o : Option Bool) (go other : Action) → Decides around o arms s → ((t : State) → Reaches around arms.holds t → Sound plan around first.after first.costs t (go t)) → ((t : State) → Reaches around arms.fails t → Sound plan around second.after second.costs t (other t)) → Sound plan around (join first.after second.after) (choice_costs first.costs second.costs) s (decide o go other (stepped s))
choice_sound plan around arms first second s None go other d f g = absurd d
choice_sound plan around arms first second s (Some true) go other d f g =
    sound_begun plan around arms.holds first.after (join first.after second.after) first.costs (choice_costs first.costs second.costs) s go d f
    (join_left around first.after second.after) (omega arith) (omega arith) (omega arith)
choice_sound plan around arms first second s (Some false) go other d f g =
    sound_begun plan around arms.fails second.after (join first.after second.after) second.costs (choice_costs first.costs second.costs) s other d g
    (join_right around first.after second.after) (omega arith) (omega arith) (omega arith)

pub may_first : (a b : Bool) (around : Place) → MayLock around (a || b) → MayLock around a
may_first a b around m e = m (ap (λ t. t || b) e)

pub may_second : (a b : Bool) (around : Place) → MayLock around (a || b) → MayLock around b
may_second a b around m e = m (or_right a b e)

mutual
  pub statement_sound : (c : Setting) → HasWidths c.plan → Serves c → (around : Place) (st : Statement) → MayLock around (has_lock st) → (k : Facts) → Allows (accept_statement (seen c) (around_of around) st k) (SoundFor c.plan around (Some k) (λ n s. effect (of c) n st (stepped s)))
  statement_sound c narrow serves around (assign spot x e) may k = assign_sound c around spot x e k
  statement_sound c narrow serves around (set_register spot r e1 e2 e3) may k = register_set_sound c around spot r e1 e2 e3 k
  statement_sound c narrow serves around (single spot size f r m) may k = single_sound c narrow around spot size f r m k
  statement_sound c narrow serves around (choose spot test a) may k =
      then_allowed (split_each around spot test k) (λ arms d.
      then_allowed (reached_sound c around a arms.holds (λ q. block_sound c narrow serves around a may q)) (λ first h. allows (record {
        each = λ n le s i.
            choice_sound c.plan around arms first (verdict arms.fails no_costs) s (truth test s.variables s.q s.x) (block_meaning (of c) n a) ends (d s i)
            (λ t j. h.each n le t j)
            (λ t j. record { reaches = j; paid = paid_nothing t; untouched = λ y among. refl });
      })))
  statement_sound c narrow serves around (choose_else spot test a b) may k =
      then_allowed (split_each around spot test k) (λ arms d.
      then_allowed (reached_sound c around a arms.holds (λ q. block_sound c narrow serves around a (may_first (block_has_lock a) (block_has_lock b) around may) q)) (λ first h.
      then_allowed (reached_sound c around b arms.fails (λ q. block_sound c narrow serves around b (may_second (block_has_lock a) (block_has_lock b) around may) q)) (λ second g. allows (record {
        each = λ n le s i.
            choice_sound c.plan around arms first second s (truth test s.variables s.q s.x) (block_meaning (of c) n a) (block_meaning (of c) n b) (d s i)
            (λ t j. h.each n le t j)
            (λ t j. g.each n le t j);
      }))))
  statement_sound c narrow serves around (locked spot e body) may k =
      then_allowed (lock_allowed c around spot e k) (λ crate_no can.
      then_allowed (block_sound c narrow serves (holding crate_no around) body (λ e. may refl) k) (λ inner h. allows (lock_sound c around spot e body k crate_no inner (may refl) can h)))
  statement_sound c narrow serves around (put spot e) may k = put_sound c around spot e k
  statement_sound c narrow serves around (crate_call spot which e) may k = crate_sound c around spot which e k
  statement_sound c narrow serves around (lam_call spot which l) may k = lam_sound c around spot which l k
  statement_sound c narrow serves around (address_scan spot f r1 r2 max x) may k = scan_sound c narrow around spot f r1 r2 max x k
  statement_sound c narrow serves around (q_stop spot f r t max x) may k = q_stop_sound c narrow around spot f r t max x k
  statement_sound c narrow serves around (q_repeat spot f r t max limit x) may k = q_repeat_sound c narrow around spot f r t max limit x k
  statement_sound c narrow serves around (for_ spot x e1 e2 keeps body) may k =
      then_allowed (limits_allowed around spot x e1 e2 keeps k) (λ l m.
      then_allowed (reached_sound c (fixing x around) body (for_head x l keeps body k) (λ q. block_sound c narrow serves (fixing x around) body may q)) (λ turn h.
      required_allowed _ spot _ (λ keep. allows (for_sound c around spot x e1 e2 keeps body k l turn m keep h))))
  statement_sound c narrow serves around (for_each spot x v last body) may k =
      each_sound c around spot x v last body (accept_block (seen c) (around_of (fixing x around)) body) (λ q. block_sound c narrow serves (fixing x around) body may q) k
  statement_sound c narrow serves around (while_ spot test most m keeps body) may k =
      then_allowed (head_allowed around.body spot most m keeps body k) (λ top begins.
      then_allowed (split_each around spot test top) (λ arms d.
      then_allowed (reached_sound c around body arms.holds (λ q. block_sound c narrow serves around body may q)) (λ turn h.
      required_allowed _ spot _ (λ keep. allows (while_sound c around spot test most m keeps body k top arms turn begins d h keep)))))
  statement_sound c narrow serves around (call spot p es) may k = call_sound c serves around spot p es k

  -- a block, from what is known at its beginning, if that can be reached
  pub block_sound : (c : Setting) → HasWidths c.plan → Serves c → (around : Place) (b : Block) → MayLock around (block_has_lock b) → (k : Facts) → Allows (accept_block (seen c) (around_of around) b k) (SoundFor c.plan around (Some k) (λ n. block_meaning (of c) n b))
  block_sound c narrow serves around done may k =
      allows (record { each = λ n le s i. record { reaches = i; paid = paid_nothing s; untouched = λ y among. refl } })
  block_sound c narrow serves around (next st rest) may k =
      then_allowed (statement_sound c narrow serves around st (may_first (has_lock st) (block_has_lock rest) around may) k) (λ first h.
      then_allowed
      (reached_sound c around rest first.after (λ q. block_sound c narrow serves around rest (may_second (has_lock st) (block_has_lock rest) around may) q)) (λ second g.
      allows (record {
        each = λ n le s i.
            sound_then c.plan around first.after second.after first.costs second.costs s (effect (of c) n st (stepped s)) (block_meaning (of c) n rest) (h.each n le s i) (λ t j. g.each n le t j);
      })))
