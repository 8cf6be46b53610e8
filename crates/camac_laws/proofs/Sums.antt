-- Sums of shares, and of the turns of an `each`.
use Rattle.std.proofs.Common.{◌≡◌, ℕ, ◌+◌, ◌-◌, ◌*◌, ◌^◌, ◌<◌, ◌≤◌, suc, List, [], ◌∷◌, ◌++◌, map, refl, sym, ap, ap₂, subst, ◌∙◌, ⊎_elim, mul-add, arith, zero, true, None, Result, Ok}
use Rattle.std.proofs.Math.Nat.{mul-le-mul_left}
use Rattle.std.proofs.lemmas.Nat.{mul-le}
use Rattle.std.proofs.lemmas.Bool.{lt-ltb, le-ltb, lt-leb, le-leb, cases_lt, and_parts, leb-true}
use Rattle.std.specs.Prelude.{min, max, nat_le, nat_lt, if◌then◌else◌, ◌&&◌}
use Rattle.camac_model.specs.Fine.{Bounds}
use Rattle.camac_rules.specs.Capped.{capped}
use Rattle.camac_rules.specs.Costs.{costs, no_costs, plus, choice_costs, lock_costs, loop_costs, Verdict}
use Rattle.camac_rules.specs.Each.{turn_costs, each_begins}
use Rattle.camac_rules.specs.declared.rule.CheckRule.TheVariants.{ValueOutOfRange, TooManyTurns, LoopVariableAssigned}
use Rattle.camac_rules.specs.Fault.{Fault}
use Rattle.camac_rules.specs.Refusal.{required}
use Rattle.camac_rules.specs.Known.{Known}
use Rattle.camac_rules.specs.Cycles.{Around, may_write}
use Rattle.camac_rules.specs.Loops.{turn_limit}
use Rattle.camac_check_rows.specs.declared.inside.Weight.{Weight}
use Rattle.camac_check_rows.specs.declared.row.Row.{Row}
use Rattle.camac_check_rows.specs.Turns.{merge, Turned, turns_over}
use Rattle.camac_check_rows.specs.Weights.{once, turning, first_arm, second_arm, in_64_bits, weighed, inside_row}
use Rattle.camac_laws.specs.CostsBounds.{total, IsBelow}
use Rattle.camac_laws.proofs.Steps.{go_ok, required_ok}
use Rattle.camac_range.specs.Number.{greatest}
use Rattle.camac_lang.specs.declared.spot.Spot.{Spot}

-- Sums of shares, and of those of a block that counts so often.

pub same_costs : (a b c d e f : ℕ) → a ≡ d → b ≡ e → c ≡ f → costs a b c ≡ costs d e f
same_costs a b c d e f p q r = cc

pub plus_none : (b : Bounds) → plus b no_costs ≡ b
plus_none b = same_costs _ _ _ _ _ _ (omega arith) (omega arith) (omega arith)

pub none_plus : (b : Bounds) → plus no_costs b ≡ b
none_plus b = same_costs _ _ _ _ _ _ (omega arith) (omega arith) (omega arith)

plus_assoc : (a b c : Bounds) → plus (plus a b) c ≡ plus a (plus b c)
plus_assoc a b c = same_costs _ _ _ _ _ _ (omega arith) (omega arith) (omega arith)

pub total_append : (xs ys : List Row) → total (xs ++ ys) ≡ plus (total xs) (total ys)
total_append [] ys = sym (none_plus (total ys))
total_append (x ∷ xs) ys = ap (λ t. plus x.share t) (total_append xs ys) ∙ sym (plus_assoc x.share (total xs) (total ys))

-- the rows of two arms, and between them that of the second
pub total_arms : (xs ys : List Row) (e : Row) (x y : Bounds) → total xs ≡ x → total ys ≡ y → e.share ≡ no_costs → total (xs ++ e ∷ ys) ≡ plus x y
total_arms xs ys e x y first second none =
    total_append xs (e ∷ ys) ∙ ap₂ plus first (ap (λ s. plus s (total ys)) none ∙ none_plus (total ys) ∙ second)

-- one share and the others, where their sum is not cut
one_more : (w s t n k : ℕ) → w * (s + t) < k → (w * t < k → n ≡ w * t) → min (w * s) k + n ≡ w * (s + t)
one_more w s t n k h others =
    let d : w * (s + t) ≡ w * s + w * t = mul-add w s t in
    let less : w * t < k = omega (arith, d, h) in
    let is = others less in
    omega (arith, d, h, is)

none_more : (w n : ℕ) → n ≡ 0 → n ≡ w * 0
none_more w n e = omega (arith, e)

cycles_inside : (w : Weight) (rs : List Row) → w.cycles * (total rs).cycles < 2 ^ 64 - 1 → (total (map (inside_row capped w) rs)).cycles ≡ w.cycles * (total rs).cycles
cycles_inside w [] h = none_more w.cycles 0 refl
cycles_inside w (r ∷ rs) h = one_more w.cycles r.share.cycles (total rs).cycles _ (2 ^ 64 - 1) h (cycles_inside w rs)

words_inside : (w : Weight) (rs : List Row) → w.words * (total rs).words < 2 ^ 64 - 1 → (total (map (inside_row capped w) rs)).words ≡ w.words * (total rs).words
words_inside w [] h = none_more w.words 0 refl
words_inside w (r ∷ rs) h = one_more w.words r.share.words (total rs).words _ (2 ^ 64 - 1) h (words_inside w rs)

steps_inside : (w : Weight) (rs : List Row) → w.steps * (total rs).steps < 2 ^ 64 - 1 → (total (map (inside_row capped w) rs)).steps ≡ w.steps * (total rs).steps
steps_inside w [] h = none_more w.steps 0 refl
steps_inside w (r ∷ rs) h = one_more w.steps r.share.steps (total rs).steps _ (2 ^ 64 - 1) h (steps_inside w rs)

pub total_inside : (w : Weight) (rs : List Row) (b : Bounds) → total rs ≡ b → IsBelow (weighed w b) → total (map (inside_row capped w) rs) ≡ weighed w b
total_inside w rs b is (c, v, s) =
    let C : Bounds → Type 0 = λ t. w.cycles * t.cycles < 2 ^ 64 - 1 in
    let W : Bounds → Type 0 = λ t. w.words * t.words < 2 ^ 64 - 1 in
    let S : Bounds → Type 0 = λ t. w.steps * t.steps < 2 ^ 64 - 1 in
    same_costs _ _ _ _ _ _
    (cycles_inside w rs (subst C (sym is) c))
    (words_inside w rs (subst W (sym is) v))
    (steps_inside w rs (subst S (sym is) s))
    ∙ ap (λ t. weighed w t) is

nothing_more : (s n k : ℕ) → n ≡ 0 → min (0 * s) k + n ≡ 0
nothing_more s n k e = omega (arith, e)

-- what counts no time
pub total_of_none : (rs : List Row) → total (map (inside_row capped (turning 0)) rs) ≡ no_costs
total_of_none [] = refl
total_of_none (r ∷ rs) =
    let e = total_of_none rs in
    same_costs _ _ _ _ _ _
    (nothing_more r.share.cycles _ (2 ^ 64 - 1) (ap (λ (t : Bounds). t.cycles) e))
    (nothing_more r.share.words _ (2 ^ 64 - 1) (ap (λ (t : Bounds). t.words) e))
    (nothing_more r.share.steps _ (2 ^ 64 - 1) (ap (λ (t : Bounds). t.steps) e))

-- a choice
pub if_sum : (a : Bounds) → IsBelow (capped (choice_costs a no_costs)) → plus (costs 0 0 1) (weighed once a) ≡ capped (choice_costs a no_costs)
if_sum a (c, w, s) = same_costs _ _ _ _ _ _ (omega (arith, c)) (omega (arith, w)) (omega (arith, s))

pub if_below : (a : Bounds) → IsBelow (capped (choice_costs a no_costs)) → IsBelow a × IsBelow (weighed once a)
if_below a (c, w, s) = ((omega (arith, c), omega (arith, w), omega (arith, s)), (omega (arith, c), omega (arith, w), omega (arith, s)))

-- the greater of two counts once, the first where both are alike
greater : (a b : ℕ) → (if nat_le b a then 1 else 0) * a + (if nat_lt a b then 1 else 0) * b ≡ max a b
greater a b =
    ⊎_elim
    (λ less. rw (lt-leb b a less, lt-ltb a b less) (omega (arith, less)))
    (λ le. rw (le-leb b a le, le-ltb a b le) (omega (arith, le)))
    (cases_lt a b)

greater_alone : (a b k : ℕ) → min (max a b) k < k → 0 + ((if nat_le b a then 1 else 0) * a + (if nat_lt a b then 1 else 0) * b) ≡ min (max a b) k
greater_alone a b k h = let g = greater a b in omega (arith, g, h)

greater_cut : (e a b k : ℕ) → min (e + max a b) k < k → e + ((if nat_le b a then 1 else 0) * a + (if nat_lt a b then 1 else 0) * b) ≡ min (e + max a b) k
greater_cut e a b k h = let g = greater a b in omega (arith, g, h)

arm_below : (a b k : ℕ) → max a b < k → ((if nat_le b a then 1 else 0) * a < k) × ((if nat_lt a b then 1 else 0) * b < k)
arm_below a b k h = let g = greater a b in (omega (arith, g, h), omega (arith, g, h))

pub choice_sum : (a b : Bounds) → IsBelow (capped (choice_costs a b)) → plus (costs 0 0 1) (plus (weighed (first_arm a b) a) (weighed (second_arm a b) b)) ≡ capped (choice_costs a b)
choice_sum a b (c, w, s) =
    same_costs _ _ _ _ _ _
    (greater_alone a.cycles b.cycles (2 ^ 64 - 1) c)
    (greater_alone a.words b.words (2 ^ 64 - 1) w)
    (greater_cut 1 a.steps b.steps (2 ^ 64 - 1) s)

pub choice_below : (a b : Bounds) → IsBelow (capped (choice_costs a b)) → (IsBelow a × IsBelow b) × (IsBelow (weighed (first_arm a b) a) × IsBelow (weighed (second_arm a b) b))
choice_below a b (c, w, s) =
    let k : ℕ = 2 ^ 64 - 1 in
    let mc : max a.cycles b.cycles < k = omega (arith, c) in
    let mw : max a.words b.words < k = omega (arith, w) in
    let ms : max a.steps b.steps < k = omega (arith, s) in
    let pc = arm_below a.cycles b.cycles k mc in
    let pw = arm_below a.words b.words k mw in
    let ps = arm_below a.steps b.steps k ms in
    (((omega (arith, mc), omega (arith, mw), omega (arith, ms)), (omega (arith, mc), omega (arith, mw), omega (arith, ms))), ((pc.0, pw.0, ps.0), (pc.1, pw.1, ps.1)))

-- a lock
pub lock_sum : (waits : ℕ) (a : Bounds) → IsBelow (capped (lock_costs waits a)) → plus (costs waits 0 2) (weighed once a) ≡ capped (lock_costs waits a)
lock_sum waits a (c, w, s) = same_costs _ _ _ _ _ _ (omega (arith, c)) (omega (arith, w)) (omega (arith, s))

pub lock_below : (waits : ℕ) (a : Bounds) → IsBelow (capped (lock_costs waits a)) → IsBelow a × IsBelow (weighed once a)
lock_below waits a (c, w, s) = ((omega (arith, c), omega (arith, w), omega (arith, s)), (omega (arith, c), omega (arith, w), omega (arith, s)))

-- a loop
turns_of_steps : (t s : ℕ) → t * (1 + s) ≡ t + t * s
turns_of_steps t s = let d : t * (1 + s) ≡ t * 1 + t * s = mul-add t 1 s in omega (arith, d)

pub loop_sum : (t : ℕ) (a : Bounds) → IsBelow (capped (loop_costs t a)) → plus (costs 0 0 (t + 1)) (weighed (turning t) a) ≡ capped (loop_costs t a)
loop_sum t a (c, w, s) = let d = turns_of_steps t a.steps in same_costs _ _ _ _ _ _ (omega (arith, c)) (omega (arith, w)) (omega (arith, d, s))

pub no_turns : (a : Bounds) → plus (costs 0 0 (0 + 1)) no_costs ≡ capped (loop_costs 0 a)
no_turns a = same_costs _ _ _ _ _ _ (omega arith) (omega arith) (omega arith)

pub loop_weighed : (t : ℕ) (a : Bounds) → IsBelow (capped (loop_costs t a)) → IsBelow (weighed (turning t) a)
loop_weighed t a (c, w, s) = let d = turns_of_steps t a.steps in (omega (arith, c), omega (arith, w), omega (arith, d, s))

no_less : (t n k : ℕ) → suc t * n < k → n < k
no_less t n k h = let d : suc t * n ≡ n + t * n = omega arith in omega (arith, d, h)

pub turn_below : (t : ℕ) (a : Bounds) → IsBelow (weighed (turning (suc t)) a) → IsBelow a
turn_below t a (c, w, s) = (no_less t a.cycles _ c, no_less t a.words _ w, no_less t a.steps _ s)

-- of a loop that turns, its body
pub loop_low : (t : ℕ) (k : Bounds) → 1 ≤ t → IsBelow (capped (loop_costs t k)) → IsBelow k
loop_low t k le (cycles, words, steps) =
    let c : 1 * k.cycles ≤ t * k.cycles = mul-le 1 k.cycles t k.cycles le (omega arith) in
    let w : 1 * k.words ≤ t * k.words = mul-le 1 k.words t k.words le (omega arith) in
    let s : 1 * (1 + k.steps) ≤ t * (1 + k.steps) = mul-le 1 (1 + k.steps) t (1 + k.steps) le (omega arith) in
    (omega arith, omega arith, omega arith)

pub loop_room : (t : ℕ) (k : Bounds) → IsBelow (capped (loop_costs t k)) → t * in_64_bits k.steps ≤ 2 ^ 64 - 1
loop_room t k (cycles, words, steps) = let more : t * in_64_bits k.steps ≤ t * (1 + k.steps) = mul-le-mul_left t (omega arith) in omega arith

-- one after the other
pub then_sum : (a b : Bounds) → IsBelow (capped (plus a b)) → plus a b ≡ capped (plus a b)
then_sum a b (c, w, s) = same_costs _ _ _ _ _ _ (omega (arith, c)) (omega (arith, w)) (omega (arith, s))

pub then_below : (a b : Bounds) → IsBelow (capped (plus a b)) → IsBelow a × IsBelow b
then_below a b (c, w, s) = ((omega (arith, c), omega (arith, w), omega (arith, s)), (omega (arith, c), omega (arith, w), omega (arith, s)))

-- the rows of two turns as one
less_rest : (a b s t k : ℕ) → a + s + (b + t) < k → s + t < k
less_rest a b s t k h = omega (arith, h)

two_more : (a b s t n k : ℕ) → a + s + (b + t) < k → n ≡ s + t → min (a + b) k + n ≡ a + s + (b + t)
two_more a b s t n k h e = omega (arith, h, e)

pub total_merged : (xs ys : List Row) → IsBelow (plus (total xs) (total ys)) → total (merge capped xs ys) ≡ plus (total xs) (total ys)
total_merged [] ys low = sym (none_plus (total ys))
total_merged (a ∷ xs) [] low = sym (plus_none (total (a ∷ xs)))
total_merged (a ∷ xs) (b ∷ ys) (c, w, s) =
    let k : ℕ = 2 ^ 64 - 1 in
    let e =
    total_merged xs ys
    (less_rest a.share.cycles b.share.cycles _ _ k c, less_rest a.share.words b.share.words _ _ k w, less_rest a.share.steps b.share.steps _ _ k s) in
    same_costs _ _ _ _ _ _
    (two_more a.share.cycles b.share.cycles _ _ _ k c (ap (λ (t : Bounds). t.cycles) e))
    (two_more a.share.words b.share.words _ _ _ k w (ap (λ (t : Bounds). t.words) e))
    (two_more a.share.steps b.share.steps _ _ _ k s (ap (λ (t : Bounds). t.steps) e))

-- a loop that is judged turn by turn: after so many turns, whose rows add up to t, one that costs a and others that cost b
pub turn_sum : (n : ℕ) (t a : Bounds) → plus (costs 0 0 (1 + n)) (plus t a) ≡ plus (plus (costs 0 0 n) t) (turn_costs a)
turn_sum n t a = same_costs _ _ _ _ _ _ (omega arith) (omega arith) (omega arith)

pub turns_sum : (t a b : Bounds) → IsBelow (plus t (capped (plus (turn_costs a) b))) → plus (plus t (turn_costs a)) b ≡ plus t (capped (plus (turn_costs a) b))
turns_sum t a b (c, w, s) = same_costs _ _ _ _ _ _ (omega (arith, c)) (omega (arith, w)) (omega (arith, s))

pub turns_below : (n : ℕ) (t a b : Bounds) → IsBelow (plus (plus (costs 0 0 n) t) (capped (plus (turn_costs a) b))) → IsBelow a × IsBelow (plus t a)
turns_below n t a b (c, w, s) = ((omega (arith, c), omega (arith, w), omega (arith, s)), (omega (arith, c), omega (arith, w), omega (arith, s)))

pub turn_then_below : (a b : Bounds) (m : ℕ) → IsBelow (capped (plus (turn_costs a) b)) → m + (capped (plus (turn_costs a) b)).steps ≤ 2 ^ 64 - 1
    → IsBelow a × IsBelow b × (m + a.steps ≤ 2 ^ 64 - 1) × (m + a.steps + b.steps ≤ 2 ^ 64 - 1)
turn_then_below a b m (c, w, s) room =
    ((omega (arith, c), omega (arith, w), omega (arith, s)), (omega (arith, c), omega (arith, w), omega (arith, s)), omega (arith, s, room), omega (arith, s, room))

pub each_sum : (n : ℕ) (t : Bounds) → plus (costs 0 0 (n + 1)) (weighed once t) ≡ plus (costs 0 0 1) (plus (costs 0 0 n) t)
each_sum n t = same_costs _ _ _ _ _ _ (omega arith) (omega arith) (omega arith)

pub each_below : (n : ℕ) (t : Bounds) → IsBelow (plus (costs 0 0 n) t) → IsBelow (weighed once t)
each_below n t (c, w, s) = (omega (arith, c), omega (arith, w), omega (arith, s))

-- How an `each` begins, and that what can't be reached has no turn.

-- an `each` that may begin, with so many turns
pub record Begun (around : Around) (x v last n : ℕ) : Type 0 where
  pub may : may_write around x ≡ true
  pub small : last ≤ greatest
  pub is : n ≡ last + 1 - v

pub begun : (around : Around) (spot : Spot) (x v last n : ℕ) → each_begins around spot x v last ≡ Ok n → Begun around x v last n
begun around spot x v last n e =
    let a = go_ok (required (nat_le v greatest && nat_le last greatest) ValueOutOfRange spot _) _ n e in
    let b = go_ok (required (may_write around x) LoopVariableAssigned spot _) _ n a.2 in
    let c = go_ok (required (nat_le (last + 1 - v) turn_limit) TooManyTurns spot _) _ n b.2 in
    let small = and_parts (nat_le v greatest) (nat_le last greatest) (required_ok (nat_le v greatest && nat_le last greatest) ValueOutOfRange spot _ a.0 a.1) in
    let same : ◌≡◌ {A = Result ℕ Fault} (Ok (last + 1 - v)) (Ok n) = c.2 in
    record {
      may = required_ok (may_write around x) LoopVariableAssigned spot _ b.0 b.1;
      small = leb-true last greatest small.1;
      is = cc;
    }

pub no_turn : (n x v : ℕ) (judge : Known → Verdict) (rows : Known → List Row) (so_far : Turned) → turns_over capped n x v judge rows None so_far ≡ so_far
no_turn zero x v judge rows so_far = refl
no_turn (suc n) x v judge rows so_far = refl
