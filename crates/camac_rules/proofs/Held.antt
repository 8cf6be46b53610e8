-- What the rules accept of a locked block runs safely, and the crate is free again after it.
use Rattle.std.proofs.Common.{◌≡◌, ℕ, ◌≤◌, Bool, true, false, List, Some, None, sym, ap, ◌∙◌, subst, arith}
use Rattle.std.specs.Prelude.{is_some, ◌||◌, not, nat_eq, unwrap_or}
use Rattle.std.proofs.lemmas.Bool.{and_parts, eqb-true, cond_both, not-true, false≢true}
use Rattle.camac_lang.specs.Tree.{Expression, Block, locked}
use Rattle.camac_branch.specs.Branch.{Branch, Answer, with_lock}
use Rattle.camac_branch.specs.Plan.{Layout, crate_waits}
use Rattle.camac_model.specs.State.{State, stepped}
use Rattle.camac_model.specs.Behaviour.{Action, then_do, given}
use Rattle.camac_model.specs.Cycle.{after_lock, take_lock, after_release, release}
use Rattle.camac_model.specs.Value.{value}
use Rattle.camac_model.specs.Meaning.{effect, block_meaning}
use Rattle.camac_model.specs.Fine.{Bounds}
use Rattle.camac_model.proofs.Rules.{then_meets, lock_meets}
use Rattle.camac_rules.specs.Known.{Facts, Known}
use Rattle.camac_rules.specs.Costs.{lock_costs, Verdict, verdict}
use Rattle.camac_rules.specs.Addresses.{is_among}
use Rattle.camac_rules.specs.Calls.{is_crate, lock_rule}
use Rattle.camac_rules.proofs.Allows.{Allows, allowed, then_allowed, required_allowed}
use Rattle.camac_rules.proofs.Stores.{Place, around_of, holding, AreLocked, Inside, Reaches}
use Rattle.camac_rules.proofs.Values.{range_each}
use Rattle.camac_rules.proofs.Sound.{Paid, step, SafePiece, StopsWell, EndsWell, Sound, SoundFor, meets_more}
use Rattle.camac_rules.proofs.Actions.{permitted_wait, OneUsed, used, not_easy, none_left, Setting, of, seen, with_given, value_of, crate_is}
use Rattle.camac_lang.specs.declared.spot.Spot.{Spot}

-- what is known of the crate of a lock: whatever state comes in, the expression gives it
pub record CanLock (plan : Layout) (around : Place) (e : Expression) (k : Facts) (c : ℕ) : Type 0 where
  pub waits : ℕ
  pub in_plan : crate_waits plan c ≡ Some waits
  pub free : is_among c around.locked ≡ false
  pub is : (s : State) → Inside around k s → value e s.variables ≡ Some c

pub lock_allowed : (c : Setting) (around : Place) (spot : Spot) (e : Expression) (k : Facts) → Allows (lock_rule (seen c) (around_of around) spot e k) (CanLock c.plan around e k)
lock_allowed c around spot e k =
    then_allowed (range_each spot e k.ranges) (λ r gives.
    required_allowed _ spot _ (λ fit.
    let p = and_parts (is_crate c.plan r) (not (is_among r.lo around.locked)) fit in
    let one : r.lo ≡ r.hi = eqb-true r.lo r.hi (and_parts (nat_eq r.lo r.hi) _ p.0).0 in
    let there = crate_is c.plan r r.lo p.0 (record { low = omega arith; high = omega arith }) in
    allowed (record {
      waits = there.waits;
      in_plan = there.in_plan;
      free = not-true (is_among r.lo around.locked) p.1;
      is = λ s i.
          let v = value_of (value e s.variables) r (gives s.variables i.variables) in
          let low = v.fits.within.low in
          let high = v.fits.within.high in
          let same : v.number ≡ r.lo = omega arith in
          v.is ∙ ap (λ n. Some n) same;
    })))

-- no lock is taken where crates may be locked outside
abbrev pub NoneOutside : Place → Type 0
NoneOutside p = (c : ℕ) → p.outside c ≡ false

abbrev pub MayLock : Place → Bool → Type 0
MayLock p locks = locks ≡ true → NoneOutside p

abbrev is_taken : Place → ℕ → Bool
is_taken p c = is_among c p.locked || p.outside c

not_taken : (p : Place) (c : ℕ) → NoneOutside p → is_among c p.locked ≡ false → is_taken p c ≡ false
not_taken p c none free = ap (λ t. t || p.outside c) free ∙ none c

pub lock_taken : (p : Place) (b : Branch) (c : ℕ) → AreLocked p b → AreLocked (holding c p) (with_lock c true b)
lock_taken p b c h d =
    cond_both (nat_eq d c) (record (b c) { locked = true }) (b d) (λ j. j.locked ≡ ((nat_eq d c || is_among d p.locked) || p.outside d))
    (λ e. ap (λ t. (t || is_among d p.locked) || p.outside d) (sym e)) (λ e. h d ∙ ap (λ t. (t || is_among d p.locked) || p.outside d) (sym e))

lock_released : (p : Place) (b : Branch) (c : ℕ) → is_taken p c ≡ false → AreLocked (holding c p) b → AreLocked p (with_lock c false b)
lock_released p b c free h d =
    cond_both (nat_eq d c) (record (b c) { locked = false }) (b d) (λ j. j.locked ≡ (is_among d p.locked || p.outside d))
    (λ e. sym (ap (λ n. is_among n p.locked || p.outside n) (eqb-true d c e) ∙ free)) (λ e. h d ∙ ap (λ t. (t || is_among d p.locked) || p.outside d) e)

released : (around : Place) (c : ℕ) (after : Known) (t : State) → is_taken around c ≡ false → Reaches (holding c around) after t → Reaches around after (after_release c t)
released around c None t free h = h
released around c (Some k) t free h = record { variables = h.variables; registers = h.registers; locks = lock_released around t.branch c free h.locks }

-- the body, once the lock is taken, and the release
held_sound : (plan : Layout) (around : Place) (k : Facts) (c waits wait : ℕ) (rest : List Answer) (body : Action) (inner : Verdict) (s : State) → is_taken around c ≡ false → wait ≤ waits → OneUsed s.answers rest → Inside around k s → ((u : State) → Inside (holding c around) k u → Sound plan (holding c around) inner.after inner.costs u (body u)) → Sound plan around inner.after (lock_costs waits inner.costs) s (then_do (body (after_lock c wait rest (stepped s))) (release c))
held_sound plan around k c waits wait rest body inner s free le one i h =
    let u : State = after_lock c wait rest (stepped s) in
    let d : Bounds = lock_costs waits inner.costs in
    then_meets step (SafePiece plan) (StopsWell d s) (EndsWell (holding c around) inner.after inner.costs u) (EndsWell around inner.after d s) tt (body u) (release c)
    (meets_more plan (StopsWell inner.costs u) (StopsWell d s) (EndsWell (holding c around) inner.after inner.costs u) (EndsWell (holding c around) inner.after inner.costs u) (body u)
    (λ w t e. record { of_answers = e.of_answers; paid = stopped t e.paid; because = λ z. omega (arith, one.count, e.because (one.easy z)) }) (λ t e. e)
    (h u (record { variables = i.variables; registers = i.registers; locks = lock_taken around s.branch c i.locks })))
    (λ x t e. (
      tt,
      record {
        reaches = released around c inner.after t free e.reaches;
        paid = ended t e.paid;
        untouched = e.untouched;
      },
    ))
  where
    stopped : (t : State) → Paid inner.costs (after_lock c wait rest (stepped s)) t → Paid (lock_costs waits inner.costs) s t
    stopped t p = record { cycles = omega (arith, p.cycles); words = omega (arith, p.words); steps = omega (arith, p.steps); are_words = p.are_words; answers = omega (arith, one.count, p.answers); easy = λ z. p.easy (one.easy z) }

    ended : (t : State) → Paid inner.costs (after_lock c wait rest (stepped s)) t → Paid (lock_costs waits inner.costs) s (after_release c t)
    ended t p = record { cycles = omega (arith, p.cycles); words = omega (arith, p.words); steps = omega (arith, p.steps); are_words = p.are_words; answers = omega (arith, one.count, p.answers); easy = λ z. p.easy (one.easy z) }

pub lock_sound : (c : Setting) (around : Place) (spot : Spot) (e : Expression) (body : Block) (k : Facts) (crate_no : ℕ) (inner : Verdict) → NoneOutside around → CanLock c.plan around e k crate_no → SoundFor c.plan (holding crate_no around) (Some k) (λ n. block_meaning (of c) n body) inner → SoundFor c.plan around (Some k) (λ n s. effect (of c) n (locked spot e body) (stepped s)) (verdict inner.after (lock_costs (unwrap_or (crate_waits c.plan crate_no) 0) inner.costs))
lock_sound c around spot e body k crate_no inner none can h =
    let free = not_taken around crate_no none can.free in
    let waits : ℕ = can.waits in
    let same : waits ≡ unwrap_or (crate_waits c.plan crate_no) 0 = ap (λ o. unwrap_or o 0) (sym can.in_plan) in
    subst (λ w. SoundFor c.plan around (Some k) (λ n s. effect (of c) n (locked spot e body) (stepped s)) (verdict inner.after (lock_costs w inner.costs))) same
    (record {
      each = λ n le s i.
          let d : Bounds = lock_costs waits inner.costs in
          let take : ℕ → ℕ → Action = λ m w t. take_lock m w (t.branch m).locked (λ u. then_do (block_meaning (of c) n body u) (release m)) t in
          let stopped : Paid d s (stepped s) = record { cycles = omega arith; words = omega arith; steps = omega arith; are_words = λ w. w; answers = omega arith; easy = λ w. w } in
          with_given c.plan around inner.after d s (stepped s) (value e s.variables) (λ m. given (crate_waits c.plan m) (take m)) crate_no (can.is s i)
          (with_given c.plan around inner.after d s (stepped s) (crate_waits c.plan crate_no) (take crate_no) waits can.in_plan
          (lock_meets step (SafePiece c.plan) (StopsWell d s) (EndsWell around inner.after d s) tt crate_no waits (s.branch crate_no).locked
          (λ u. then_do (block_meaning (of c) n body u) (release crate_no)) (stepped s)
          (λ l. absurd (false≢true (sym (i.locks crate_no ∙ free) ∙ l)))
          (λ g. record { of_answers = tt; paid = stopped; because = λ z. omega (arith, none_left s.answers g) })
          (λ a rest g p. record { of_answers = tt; paid = stopped; because = λ z. absurd (not_easy s.answers a rest false waits g p z) })
          (λ a rest l g p. (ap is_some can.in_plan, held_sound c.plan around k crate_no waits a.wait rest (block_meaning (of c) n body) inner s free (permitted_wait false waits a.wait p) (used s.answers a rest g) i (λ u j. h.each n le u j)))));
    })
