-- Transfers are safe where each cycle is, and so what the rules accept of Q-stop and Q-repeat.
use Rattle.std.proofs.Common.{◌≡◌, ℕ, ◌+◌, ◌%◌, ◌^◌, ◌<◌, ◌≤◌, Bool, true, false, List, [], ◌∷◌, ◌++◌, length, length-append, Option, Some, None, refl, sym, ap, ◌∙◌, subst, arith, zero, suc}
use Rattle.std.proofs.Math.Nat.{mod-lt, pow-le-pow_right}
use Rattle.std.proofs.lemmas.Nat.{pow_pos, mul-le}
use Rattle.std.proofs.lemmas.Bool.{and_parts, cond_both, eqb-true, ltb-true, leb-true}
use Rattle.std.specs.Prelude.{unwrap_or, if◌then◌else◌, nat_eq, nat_lt, min, option_map, slice_get}
use Rattle.camac_range.specs.Number.{greatest}
use Rattle.camac_range.specs.Interval.{Interval, interval, IsWithin}
use Rattle.camac_crate.specs.Lock.{permitted}
use Rattle.camac_func.specs.declared.data.DataMove.{DataMove}
use Rattle.camac_func.specs.Class.{class_of}
use Rattle.camac_func.specs.declared.data.DataMove.TheVariants as moved
use Rattle.camac_branch.specs.Address.{Address}
use Rattle.camac_branch.specs.Allowed.{width}
use Rattle.camac_branch.specs.Branch.{Reply, Answer, reply_to}
use Rattle.camac_branch.specs.Plan.{Layout, crate_waits}
use Rattle.camac_esone.specs.Transfers.{NextAddress, tally, q_stop_next, q_repeat_next}
use Rattle.camac_esone.proofs.Parts.{tally-append, tally_more, tally_most}
use Rattle.camac_esone.proofs.QStopLists as stop
use Rattle.camac_esone.proofs.QRepeatLists as repeats
use Rattle.camac_model.specs.State.{State, stepped, with_variable, with_word}
use Rattle.camac_model.specs.Behaviour.{ends, Stop, Action, given}
use Rattle.camac_model.specs.Cycle.{after_cycle, kept}
use Rattle.camac_model.specs.Transfer.{transfer_data, keep_word}
use Rattle.camac_model.specs.Meaning.{transfer_to, sent, effect}
use Rattle.camac_model.specs.Safe.{IsSafe}
use Rattle.camac_model.specs.Fine.{Bounds, IsOfAnswers}
use Rattle.camac_model.specs.Value.{value}
use Rattle.camac_model.proofs.Rules.{transfer_meets}
use Rattle.camac_rules.specs.Known.{Facts, range_at, region_at, with_range, Region}
use Rattle.camac_rules.specs.Costs.{transfer_costs, Verdict}
use Rattle.camac_rules.specs.Addresses.{is_among, cycle_cost}
use Rattle.camac_rules.specs.Cycles.{may_write, same_class}
use Rattle.camac_rules.specs.Transfers.{block_class, reaches_to, has_words, words_fit, event_words, block_region, block_verdict, q_stop_rule, q_repeat_cycles, q_repeat_rule}
use Rattle.camac_rules.proofs.Stores.{Place, around_of, AreLocked, IsSetInside, Inside, variables_write, InRegion}
use Rattle.camac_rules.proofs.Actions.{cycle_locks, permitted_inside, cost_counted, OneUsed, used, not_easy, none_left, HasWidths, pow_small, written_other, Setting, of, seen, with_given, value_of, address_of, reads, writes}
use Rattle.camac_rules.proofs.Regions.{IsAllowed, command_allowed}
use Rattle.camac_rules.proofs.Sound.{words_push, AreEasy, Paid, step, SafePiece, Stopped, StopsWell, EndsWell, Sound, SoundFor}
use Rattle.camac_rules.proofs.Allows.{Allows, allowed, then_allowed, required_allowed, given_allowed}
use Rattle.camac_rules.proofs.Values.{range_each}
use Rattle.camac_lang.specs.Tests.{each}
use Rattle.camac_lang.specs.Tree.{Expression, q_stop, q_repeat}
use Rattle.camac_lang.specs.declared.spot.Spot.{Spot}

-- A transfer is safe where each cycle that it wants is, and costs no more than its cycles.

-- the words that a transfer has put into the event after these replies; a write puts none
abbrev pub words_after : Option (List ℕ) → List Bool → ℕ
words_after None qs = tally qs
words_after (Some ws) qs = 0

-- what the next cycle moves, which is safe
pub record Moves (plan : Layout) (f : ℕ) (table : Option (List ℕ)) (qs : List Bool) (at : Address) : Type 0 where
  pub data' : DataMove
  pub is : transfer_data table qs ≡ Some data'
  pub safe : IsSafe plan at f data'

-- what is known of a cycle that is wanted after these replies: it can be made, it is one of at most K, and all goes on
pub record CanGoOn (plan : Layout) (f : ℕ) (table : Option (List ℕ)) (crates : Interval) (K : ℕ) (J : List Bool → Type 0) (qs : List Bool) (at : Address) : Type 0 where
  pub in_crates : IsWithin crates at.crate_no
  pub widths : Interval
  pub allowed : IsAllowed plan at f widths
  pub moves : Moves plan f table qs at
  pub fewer : length qs < K
  pub goes_on : (q : Bool) → J (qs ++ q ∷ [])

-- a tally of at most W, and at most E words in the event
pub record Tallies (table : Option (List ℕ)) (W E : ℕ) (qs : List Bool) : Type 0 where
  pub most : tally qs ≤ W
  pub small : tally qs ≤ greatest
  pub words : words_after table qs ≤ E

-- what is known of all replies so far, from none on
pub record IsBounded (plan : Layout) (f : ℕ) (table : Option (List ℕ)) (next_address : NextAddress) (crates : Interval) (K W E : ℕ) (J : List Bool → Type 0) : Type 0 where
  pub first : J []
  pub each : (qs : List Bool) (at : Address) → J qs → next_address qs ≡ Some at → CanGoOn plan f table crates K J qs at
  pub tallies : (qs : List Bool) → J qs → length qs ≤ K → Tallies table W E qs

kept_small : (bits word : ℕ) → bits ≤ 24 → word % 2 ^ bits < 2 ^ 24
kept_small bits word le =
    let below : word % 2 ^ bits < 2 ^ bits = mod-lt word (pow_pos bits) in
    let few : 2 ^ bits ≤ 16777216 = pow_small bits le in
    omega arith

paid_more : (d e u v w : ℕ) (s t : State) → d ≤ e → v ≤ w → Paid (transfer_costs d u v) s t → Paid (transfer_costs e u w) s t
paid_more d e u v w s t le fewer p =
    let cycles = mul-le d u e u le (omega arith) in
    record { cycles = omega (arith, p.cycles); words = omega (arith, p.words); steps = omega (arith, p.steps); are_words = p.are_words; answers = omega (arith, p.answers); easy = p.easy }

-- one cycle more, which may keep a word
paid_one : (d u v wait : ℕ) (at : Address) (f : ℕ) (r : Reply) (rest : List Answer) (s t : State) → 1 + wait ≤ u → OneUsed t.answers rest → Paid (transfer_costs d u v) s t → Paid (transfer_costs (d + 1) u v) s (stepped (after_cycle at f r wait rest t))
paid_one d u v wait at f r rest s t le one p = record {
  cycles = omega (arith, p.cycles);
  words = p.words;
  steps = omega (arith, p.steps);
  are_words = p.are_words;
  answers = omega (arith, p.answers, one.count);
  easy = λ z. one.easy (p.easy z);
}

paid_word : (d u v word : ℕ) (s t : State) → word < 2 ^ 24 → Paid (transfer_costs d u v) s (stepped t) → Paid (transfer_costs d u (v + 1)) s (stepped (with_word word t))
paid_word d u v word s t small p =
    let long : length (t.words ++ word ∷ []) ≡ length t.words + 1 = length-append t.words (word ∷ []) in
    record {
      cycles = p.cycles;
      words = omega (arith, p.words);
      steps = p.steps;
      are_words = λ h. words_push t.words word small (p.are_words h);
      answers = p.answers;
      easy = p.easy;
    }

module _ (plan : Layout) (narrow : HasWidths plan) (around : Place) (k : Facts) (f : ℕ) (table : Option (List ℕ)) (next_address : NextAddress) (x : ℕ) (crates : Interval) (K W E : ℕ) (J : List Bool → Type 0) where
  abbrev One : ℕ
  One = cycle_cost plan around.locked crates

  abbrev Costs : Bounds
  Costs = transfer_costs K One E

  module _ (b : IsBounded plan f table next_address crates K W E J) (may : may_write (around_of around) x ≡ true) (s : State) (i : Inside around k s) where
    record Moved (qs : List Bool) (t : State) : Type 0 where
      known : J qs
      count : length qs ≤ K
      paid : Paid (transfer_costs (length qs) One (words_after table qs)) s t
      variables : t.variables ≡ s.variables
      registers : t.registers ≡ s.registers
      locks : AreLocked around t.branch

    paid_all : (qs : List Bool) (t : State) → Moved qs t → Paid Costs s t
    paid_all qs t g = paid_more (length qs) K One (words_after table qs) E s t g.count (b.tallies qs g.known g.count).words g.paid

    -- a stop before another cycle that is wanted
    stopped : (qs : List Bool) (t : State) (at : Address) (w : Stop) → Moved qs t → CanGoOn plan f table crates K J qs at → IsOfAnswers w → (AreEasy t.answers → length t.answers ≡ 0) → Stopped Costs w s t
    stopped qs t at w g can of none = record {
      of_answers = of;
      paid = paid_all qs t g;
      because = λ z. omega (arith, g.paid.answers, can.fewer, none (g.paid.easy z));
    }

    counted : (t : State) (qs : List Bool) (at : Address) (waits wait : ℕ) → Moved qs t → CanGoOn plan f table crates K J qs at → crate_waits plan at.crate_no ≡ Some waits → permitted (t.branch at.crate_no).locked waits wait ≡ true → 1 + wait ≤ One
    counted t qs at waits wait g can there p =
        cost_counted plan around.locked crates at.crate_no waits wait can.in_crates can.allowed.crate_below there
        (permitted_inside (is_among at.crate_no around.locked) (around.outside at.crate_no) waits wait
        (ap (λ l. permitted l waits wait) (sym (g.locks at.crate_no)) ∙ p))

    -- the state after a cycle, whose word a read keeps where Q=1
    kept_or_not : (o : Option (List ℕ)) (q : Bool) (bits : ℕ) (r : Reply) (qs : List Bool) (t : State) → q ≡ r.q → bits ≤ 24 → Paid (transfer_costs (length qs + 1) One (words_after o qs)) s (stepped t) → Paid (transfer_costs (length (qs ++ q ∷ [])) One (words_after o (qs ++ q ∷ []))) s (stepped (keep_word o bits r t))
    kept_or_not (Some ws) q bits r qs t same small p =
        let long : length (qs ++ q ∷ []) ≡ length qs + 1 = length-append qs (q ∷ []) in
        paid_more (length qs + 1) (length (qs ++ q ∷ [])) One 0 0 s (stepped t) (omega arith) (omega arith) p
    kept_or_not None true bits r qs t same small p =
        let long : length (qs ++ true ∷ []) ≡ length qs + 1 = length-append qs (true ∷ []) in
        let more : tally (qs ++ true ∷ []) ≡ tally qs + 1 = tally-append qs (true ∷ []) in
        subst (λ z. Paid (transfer_costs (length (qs ++ true ∷ [])) One (tally (qs ++ true ∷ []))) s (stepped (if z then with_word (kept bits r) t else t))) same
        (paid_more (length qs + 1) (length (qs ++ true ∷ [])) One (tally qs + 1) (tally (qs ++ true ∷ [])) s (stepped (with_word (kept bits r) t)) (omega arith) (omega arith)
        (paid_word (length qs + 1) One (tally qs) (kept bits r) s t (kept_small bits r.word small) p))
    kept_or_not None false bits r qs t same small p =
        let long : length (qs ++ false ∷ []) ≡ length qs + 1 = length-append qs (false ∷ []) in
        let more : tally (qs ++ false ∷ []) ≡ tally qs + 0 = tally-append qs (false ∷ []) in
        subst (λ z. Paid (transfer_costs (length (qs ++ false ∷ [])) One (tally (qs ++ false ∷ []))) s (stepped (if z then with_word (kept bits r) t else t))) same
        (paid_more (length qs + 1) (length (qs ++ false ∷ [])) One (tally qs) (tally (qs ++ false ∷ [])) s (stepped t) (omega arith) (omega arith) p)

    store_kept : (o : Option (List ℕ)) (bits : ℕ) (r : Reply) (t : State) → ((keep_word o bits r t).variables ≡ t.variables) × ((keep_word o bits r t).registers ≡ t.registers) × ((keep_word o bits r t).branch ≡ t.branch)
    store_kept None bits r t = go r.q
      where
        go : (z : Bool) → ((if z then with_word (kept bits r) t else t).variables ≡ t.variables) × ((if z then with_word (kept bits r) t else t).registers ≡ t.registers) × ((if z then with_word (kept bits r) t else t).branch ≡ t.branch)
        go true = (refl, refl, refl)
        go false = (refl, refl, refl)
    store_kept (Some ws) bits r t = (refl, refl, refl)

    one_on : (qs : List Bool) (t : State) (at : Address) (a : Answer) (rest : List Answer) (r : Reply) → Moved qs t → CanGoOn plan f table crates K J qs at → t.answers ≡ a ∷ rest → 1 + a.wait ≤ One → Moved (qs ++ r.q ∷ []) (stepped (keep_word table (width plan at f) r (after_cycle at f r a.wait rest t)))
    one_on qs t at a rest r g can e le =
        let u : State = after_cycle at f r a.wait rest t in
        let same = store_kept table (width plan at f) r u in
        let is : can.allowed.width ≡ width plan at f = ap (λ o. unwrap_or o 24) (sym can.allowed.allowed) in
        let small : can.allowed.width ≤ 24 = narrow at f can.allowed.width can.allowed.allowed in
        let narrow' : width plan at f ≤ 24 = subst (λ w. w ≤ 24) is small in
        let long : length (qs ++ r.q ∷ []) ≡ length qs + 1 = length-append qs (r.q ∷ []) in
        let fewer = can.fewer in
        record {
          known = can.goes_on r.q;
          count = omega arith;
          paid = kept_or_not table r.q (width plan at f) r qs u refl narrow' (paid_one (length qs) One (words_after table qs) a.wait at f r rest s t le (used t.answers a rest e) g.paid);
          variables = same.0 ∙ g.variables;
          registers = same.1 ∙ g.registers;
          locks = λ c. ap (λ br. (br c).locked) same.2 ∙ (cycle_locks t.branch at f c ∙ g.locks c);
        }

    pub transfer_sound : Sound plan around (Some (with_range x (interval 0 W) k)) Costs s (transfer_to plan f table next_address x (stepped s))
    transfer_sound =
        transfer_meets step (SafePiece plan) (StopsWell Costs s) (EndsWell around (Some (with_range x (interval 0 W) k)) Costs s) plan f table next_address
        (λ qs t. ends (with_variable x (tally qs) t)) (λ u. Moved)
        (record {
          no_word = λ u qs t at g e none. (let can = b.each qs at g.known e in let there = can.moves.is in cc);
          no_crate = λ u qs t at g e none. (let can = b.each qs at g.known e in let there = can.allowed.in_plan in cc);
          no_answer = λ u qs t at g e none. stopped qs t at _ g (b.each qs at g.known e) tt (λ z. none_left t.answers none);
          no_wait = λ u qs t at waits a rest g e there l p. stopped qs t at _ g (b.each qs at g.known e) tt
              (λ z. absurd (not_easy t.answers a rest (t.branch at.crate_no).locked waits l p z));
          keeps = λ u qs t at d waits a rest g e data' there l p.
              let can = b.each qs at g.known e in
              let is = can.moves.is in
              let same : can.moves.data' ≡ d = cc in (
                subst (λ m. IsSafe plan at f m) same can.moves.safe,
                one_on qs t at a rest (reply_to plan t.branch at f a) g can l (counted t qs at waits a.wait g can there p),
              );
        })
        (λ u qs t g e.
        let most = b.tallies qs g.known g.count in
        let all = paid_all qs t g in
        let low : 0 ≤ tally qs = omega arith in
        record {
          reaches = record {
            variables = variables_write k.ranges t.variables x (tally qs) (interval 0 W)
                (record { each = λ y. subst (λ env. IsWithin (range_at k.ranges y) (env y)) (sym g.variables) (i.variables.each y); small = λ y. subst (λ env. env y ≤ greatest) (sym g.variables) (i.variables.small y) })
                (record { low = low; high = most.most }) most.small;
            registers = λ r. subst (λ regs. IsSetInside (region_at k.registers r) (regs r)) (sym g.registers) (i.registers r);
            locks = g.locks;
          };
          paid = record { cycles = all.cycles; words = all.words; steps = all.steps; are_words = all.are_words; answers = all.answers; easy = all.easy };
          untouched = λ y among. written_other around x (tally qs) t.variables may y among ∙ ap (λ env. env y) g.variables;
        })
        s.answers tt [] (stepped s) refl
        (record {
          known = b.first;
          count = omega arith;
          paid = none_yet table;
          variables = refl;
          registers = refl;
          locks = i.locks;
        })
      where
        none_yet : (o : Option (List ℕ)) → Paid (transfer_costs 0 One (words_after o [])) s (stepped s)
        none_yet None = record { cycles = omega arith; words = omega arith; steps = omega arith; are_words = λ w. w; answers = omega arith; easy = λ w. w }
        none_yet (Some ws) = record { cycles = omega arith; words = omega arith; steps = omega arith; are_words = λ w. w; answers = omega arith; easy = λ w. w }

-- What the rules accept of Q-stop and Q-repeat runs safely.

-- by what a block transfer may begin
pub record MayTransfer (c : Setting) (around : Place) (f r : ℕ) (t : Option ℕ) (most x : ℕ) (k : Facts) (g : Region) : Type 0 where
  pub may : may_write (around_of around) x ≡ true
  pub set : region_at k.registers r ≡ Some g
  pub widths : Interval
  pub every : (at : Address) → InRegion g at → IsAllowed c.plan at f widths
  pub class : same_class (block_class t) (class_of f) ≡ true
  pub has : has_words c.tables t most ≡ true
  pub fit : words_fit c.tables t widths.lo ≡ true

region_allowed : (c : Setting) (around : Place) (spot : Spot) (f r : ℕ) (t : Option ℕ) (most x : ℕ) (k : Facts) → Allows (block_region (seen c) (around_of around) spot f r t most x k) (MayTransfer c around f r t most x k)
region_allowed c around spot f r t most x k =
    required_allowed _ spot _ (λ may.
    then_allowed (given_allowed (region_at k.registers r) _ spot _) (λ g set.
    then_allowed (command_allowed c.plan spot f g) (λ w every.
    required_allowed _ spot _ (λ class.
    required_allowed _ spot _ (λ has.
    required_allowed _ spot _ (λ fit. allowed (record { may = may; set = set; widths = w; every = every; class = class; has = has; fit = fit })))))))

each_at : (test : ℕ → Bool) (ws : List ℕ) (j : ℕ) → each test ws ≡ true → j < length ws → (v : ℕ) × (slice_get ws j ≡ Some v) × (test v ≡ true)
each_at test [] j h lt = absurd (omega arith)
each_at test (w ∷ ws) zero h lt = (w, refl, (and_parts (test w) (each test ws) h).0)
each_at test (w ∷ ws) (suc j) h lt = each_at test ws j (and_parts (test w) (each test ws) h).1 (omega arith)

-- what a transfer sends, word by word, and what it may put into the event
record HasData (c : Setting) (f : ℕ) (t : Option ℕ) (most : ℕ) (w : Interval) : Type 0 where
  table : Option (List ℕ)
  is : sent (of c) t ≡ Some table
  moves : (qs : List Bool) (at : Address) → IsAllowed c.plan at f w → tally qs < most → Moves c.plan f table qs at
  words : (qs : List Bool) (n : ℕ) → tally qs ≤ n → words_after table qs ≤ event_words t n

data_of : (c : Setting) (f : ℕ) (t : Option ℕ) (most : ℕ) (w : Interval) → same_class (block_class t) (class_of f) ≡ true → has_words c.tables t most ≡ true → words_fit c.tables t w.lo ≡ true → HasData c f t most w
data_of c f None most w class has fit = record {
  table = None;
  is = refl;
  moves = λ qs at a lt. record {
    data' = moved.In;
    is = refl;
    safe = record { width = a.width; is_allowed = a.allowed; is_of_class = reads (class_of f) class; fits_width = tt };
  };
  words = λ qs n le. le;
}
data_of c f (Some j) most w class has fit = go (slice_get c.tables j) refl has fit
  where
    go : (o : Option (List ℕ)) → slice_get c.tables j ≡ o → reaches_to most o ≡ true → each (λ v. nat_lt v (2 ^ w.lo)) (unwrap_or o []) ≡ true → HasData c f (Some j) most w
    go None e none all = cc
    go (Some ws) e long all = record {
      table = Some ws;
      is = ap (λ o. option_map Some o) e;
      moves = λ qs at a lt.
          let reach : most ≤ length ws = leb-true most (length ws) long in
          let found = each_at (λ v. nat_lt v (2 ^ w.lo)) ws (tally qs) all (omega arith) in
          let pos : 0 < 2 = omega arith in
          let below : found.0 < 2 ^ w.lo = ltb-true found.0 (2 ^ w.lo) found.2 in
          let wider : 2 ^ w.lo ≤ 2 ^ a.width = pow-le-pow_right pos a.low in
          record {
            data' = moved.Out found.0;
            is = ap (λ o. option_map moved.Out o) found.1;
            safe = record { width = a.width; is_allowed = a.allowed; is_of_class = writes (class_of f) found.0 class; fits_width = omega arith };
          };
      words = λ qs n le. omega arith;
    }

-- a block transfer of m words, at most: what is known of all replies so far
module _ (c : Setting) (narrow : HasWidths c.plan) (around : Place) (f r : ℕ) (t : Option ℕ) (most x : ℕ) (k : Facts) (g : Region) (may : MayTransfer c around f r t most x k g) where
  data' : HasData c f t most may.widths
  data' = data_of c f t most may.widths may.class may.has may.fit

  goes_on : (K : ℕ) (J : List Bool → Type 0) (qs : List Bool) (at : Address) → InRegion g at → tally qs < most → length qs < K → ((q : Bool) → J (qs ++ q ∷ [])) → CanGoOn c.plan f data'.table g.crates K J qs at
  goes_on K J qs at inside some fewer next = record {
    in_crates = inside.crate_no;
    widths = may.widths;
    allowed = may.every at inside;
    moves = data'.moves qs at (may.every at inside) some;
    fewer = fewer;
    goes_on = next;
  }

  abbrev Stops : ℕ → List Bool → Type 0
  Stops m qs = length qs ≤ m

  q_stop_bounded : (at : Address) (m : ℕ) → InRegion g at → m ≤ most → m ≤ greatest → IsBounded c.plan f data'.table (q_stop_next at m) g.crates most most (event_words t most) (Stops m)
  q_stop_bounded at m inside le small = record {
    first = omega arith;
    each = λ qs to j e.
        let h = stop.wanted_goes_on at to m qs e in
        let less : length qs < m = h.0.less in
        let ones = tally_most qs in
        goes_on most (Stops m) qs to (subst (InRegion g) (sym h.1) inside) (omega arith) (omega arith)
        (λ q. let long : length (qs ++ q ∷ []) ≡ length qs + 1 = length-append qs (q ∷ []) in omega arith);
    tallies = λ qs j fewer.
        let ones = tally_most qs in
        record { most = omega arith; small = omega arith; words = data'.words qs most (omega arith) };
  }

  record Repeats (m l : ℕ) (qs : List Bool) : Type 0 where
    words : tally qs ≤ m
    cycles : length qs ≤ l

  some_cycles : (n limit : ℕ) → 0 < n → q_repeat_cycles n limit ≡ limit
  some_cycles n limit pos = cond_both (nat_eq n 0) 0 limit (λ z. z ≡ limit) (λ e. absurd (let none = eqb-true n 0 e in omega arith)) (λ e. refl)

  q_repeat_bounded : (at : Address) (m l limit : ℕ) → InRegion g at → m ≤ most → m ≤ greatest → l ≤ limit → IsBounded c.plan f data'.table (q_repeat_next at m l) g.crates (q_repeat_cycles most limit) (min most limit) (event_words t (min most limit)) (Repeats m l)
  q_repeat_bounded at m l limit inside le small le' = record {
    first = record { words = omega arith; cycles = omega arith };
    each = λ qs to j e.
        let h = repeats.wanted_goes_on at to m l qs e in
        let fewer : tally qs < m = h.0.fewer in
        let room : length qs < l = h.0.room in
        let all : q_repeat_cycles most limit ≡ limit = some_cycles most limit (omega arith) in
        goes_on (q_repeat_cycles most limit) (Repeats m l) qs to (subst (InRegion g) (sym h.1) inside) (omega arith) (omega arith)
        (λ q. let long : length (qs ++ q ∷ []) ≡ length qs + 1 = length-append qs (q ∷ []) in
        let more = tally_more qs q in
        record { words = omega arith; cycles = omega arith });
    tallies = λ qs j fewer.
        let ones = tally_most qs in
        let words = j.words in
        let cycles = j.cycles in
        record { most = omega arith; small = omega arith; words = data'.words qs (min most limit) (omega arith) };
  }

pub q_stop_sound : (c : Setting) → HasWidths c.plan → (around : Place) (spot : Spot) (f r : ℕ) (t : Option ℕ) (e : Expression) (x : ℕ) (k : Facts) → Allows (q_stop_rule (seen c) (around_of around) spot f r t e x k) (SoundFor c.plan around (Some k) (λ n s. effect (of c) n (q_stop spot f r t e x) (stepped s)))
q_stop_sound c narrow around spot f r t e x k =
    then_allowed (range_each spot e k.ranges) (λ most gives.
    then_allowed (region_allowed c around spot f r t most.hi x k) (λ g may. allowed (record {
      each = λ n le s i.
          let v : Verdict = block_verdict (seen c) (around_of around) t most.hi most.hi x g k in
          let table = data' c narrow around f r t most.hi x k g may in
          let a = address_of (region_at k.registers r) (s.registers r) g may.set (i.registers r) in
          let m = value_of (value e s.variables) most (gives s.variables i.variables) in
          let go : Address → ℕ → Action = λ at n. transfer_to c.plan f table.table (q_stop_next at n) x in
          with_given c.plan around v.after v.costs s (stepped s) (sent (of c) t) (λ o. given (s.registers r) (λ at. given (value e s.variables) (λ n. transfer_to c.plan f o (q_stop_next at n) x))) table.table table.is
          (with_given c.plan around v.after v.costs s (stepped s) (s.registers r) (λ at. given (value e s.variables) (go at)) a.at a.is
          (with_given c.plan around v.after v.costs s (stepped s) (value e s.variables) (go a.at) m.number m.is
          (transfer_sound c.plan narrow around k f table.table (q_stop_next a.at m.number) x g.crates most.hi most.hi (event_words t most.hi) (Stops c narrow around f r t most.hi x k g may m.number)
          (q_stop_bounded c narrow around f r t most.hi x k g may a.at m.number a.inside m.fits.within.high m.fits.small) may.may s i)));
    })))

pub q_repeat_sound : (c : Setting) → HasWidths c.plan → (around : Place) (spot : Spot) (f r : ℕ) (t : Option ℕ) (e1 e2 : Expression) (x : ℕ) (k : Facts) → Allows (q_repeat_rule (seen c) (around_of around) spot f r t e1 e2 x k) (SoundFor c.plan around (Some k) (λ n s. effect (of c) n (q_repeat spot f r t e1 e2 x) (stepped s)))
q_repeat_sound c narrow around spot f r t e1 e2 x k =
    then_allowed (range_each spot e1 k.ranges) (λ most gives_m.
    then_allowed (range_each spot e2 k.ranges) (λ limit gives_l.
    then_allowed (region_allowed c around spot f r t most.hi x k) (λ g may. allowed (record {
      each = λ n le s i.
          let cycles : ℕ = q_repeat_cycles most.hi limit.hi in
          let kept : ℕ = min most.hi limit.hi in
          let v : Verdict = block_verdict (seen c) (around_of around) t cycles kept x g k in
          let table = data' c narrow around f r t most.hi x k g may in
          let a = address_of (region_at k.registers r) (s.registers r) g may.set (i.registers r) in
          let m = value_of (value e1 s.variables) most (gives_m s.variables i.variables) in
          let l = value_of (value e2 s.variables) limit (gives_l s.variables i.variables) in
          let go : Address → ℕ → ℕ → Action = λ at n o. transfer_to c.plan f table.table (q_repeat_next at n o) x in
          with_given c.plan around v.after v.costs s (stepped s) (sent (of c) t) (λ o. given (s.registers r) (λ at. given (value e1 s.variables) (λ n. given (value e2 s.variables) (λ p. transfer_to c.plan f o (q_repeat_next at n p) x)))) table.table table.is
          (with_given c.plan around v.after v.costs s (stepped s) (s.registers r) (λ at. given (value e1 s.variables) (λ n. given (value e2 s.variables) (go at n))) a.at a.is
          (with_given c.plan around v.after v.costs s (stepped s) (value e1 s.variables) (λ n. given (value e2 s.variables) (go a.at n)) m.number m.is
          (with_given c.plan around v.after v.costs s (stepped s) (value e2 s.variables) (go a.at m.number) l.number l.is
          (transfer_sound c.plan narrow around k f table.table (q_repeat_next a.at m.number l.number) x g.crates cycles kept (event_words t kept) (Repeats c narrow around f r t most.hi x k g may m.number l.number)
          (q_repeat_bounded c narrow around f r t most.hi x k g may a.at m.number l.number limit.hi a.inside m.fits.within.high m.fits.small l.fits.within.high) may.may s i))));
    }))))
