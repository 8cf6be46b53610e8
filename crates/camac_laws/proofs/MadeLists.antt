-- What is made in parts, by the rows of the parts.
use Rattle.std.proofs.Common.{◌≡◌, refl, ℕ, zero, suc, ◌+◌, ◌-◌, ◌*◌, ◌^◌, ◌≤◌, Bool, true, false, List, [], ◌∷◌, ◌++◌, length, map, subst, length-append, arith}
use Rattle.std.proofs.Math.Nat.{mul-le-mul_left}
use Rattle.std.proofs.lemmas.Bool.{eqb-true}
use Rattle.std.specs.Prelude.{Some, None, nat_eq, if◌then◌else◌}
use Rattle.camac_range.specs.Interval.{only}
use Rattle.camac_model.specs.Fine.{Bounds}
use Rattle.camac_rules.specs.Capped.{capped}
use Rattle.camac_rules.specs.Costs.{no_costs, Verdict}
use Rattle.camac_rules.specs.Known.{Known, with_range}
use Rattle.camac_check_rows.specs.declared.row.Row.{Row}
use Rattle.camac_check_rows.specs.declared.inside.Weight.{Weight}
use Rattle.camac_check_rows.specs.Turns.{merge, most_of, Turned, turned, turns_over}
use Rattle.camac_check_rows.specs.Weights.{in_64_bits, inside_row}
use Rattle.camac_laws.specs.Lower.{AtMost}
use Rattle.camac_laws.specs.Made.{Made, both, NoneAbove, AllKeep, NoMore}

-- so often what the row says
pub record KeepsIn (m : ℕ) (r : Row) (ks : List Bounds) : Type 0 where
  pub few : length ks ≤ m * r.times
  pub each : NoneAbove r.each ks

abbrev pub AllIn : ℕ → List Row → Made → Type 0
AllIn m [] [] = Unit {0}
AllIn m [] (ks ∷ made) = ⊥
AllIn m (r ∷ rows) [] = ⊥
AllIn m (r ∷ rows) (ks ∷ made) = KeepsIn m r ks × AllIn m rows made

pub all_keep : (rows : List Row) (made : Made) → AllIn 1 rows made → AllKeep rows made
all_keep [] [] h = tt
all_keep [] (ks ∷ made) h = absurd h
all_keep (r ∷ rows) [] h = absurd h
all_keep (r ∷ rows) (ks ∷ made) (first, h) = let few = first.few in (record { times = omega arith; each = first.each }, all_keep rows made h)

pub in_more : (m n : ℕ) (rows : List Row) (made : Made) → m ≤ n → AllIn m rows made → AllIn n rows made
in_more m n [] [] le h = tt
in_more m n [] (ks ∷ made) le h = absurd h
in_more m n (r ∷ rows) [] le h = absurd h
in_more m n (r ∷ rows) (ks ∷ made) le (first, h) = (record { few = more; each = first.each }, in_more m n rows made le h)
  where
    more : length ks ≤ n * r.times
    more = let few = first.few in let grown : r.times * m ≤ r.times * n = mul-le-mul_left r.times le in omega arith

pub in_both : (m n : ℕ) (rows : List Row) (made others : Made) → AllIn m rows made → AllIn n rows others → AllIn (m + n) rows (both made others)
in_both m n [] [] [] h k = tt
in_both m n [] [] (us ∷ others) h k = absurd k
in_both m n [] (ks ∷ made) others h k = absurd h
in_both m n (r ∷ rows) [] others h k = absurd h
in_both m n (r ∷ rows) (ks ∷ made) [] h k = absurd k
in_both m n (r ∷ rows) (ks ∷ made) (us ∷ others) (first, h) (second, k) = (record { few = sum; each = none_above ks first.each }, in_both m n rows made others h k)
  where
    sum : length (ks ++ us) ≤ (m + n) * r.times
    sum = let few = first.few in let more = second.few in let long = length-append ks us in omega arith

    none_above : (xs : List Bounds) → NoneAbove r.each xs → NoneAbove r.each (xs ++ us)
    none_above [] a = second.each
    none_above (x ∷ xs) a = (a.0, none_above xs a.1)

pub in_append : (m : ℕ) (rows others : List Row) (made more : Made) → AllIn m rows made → AllIn m others more → AllIn m (rows ++ others) (made ++ more)
in_append m [] others [] more h k = k
in_append m [] others (ks ∷ made) more h k = absurd h
in_append m (r ∷ rows) others [] more h k = absurd h
in_append m (r ∷ rows) others (ks ∷ made) more (first, h) k = (first, in_append m rows others made more h k)

-- nothing is made
none_there : (ks : List Bounds) (k : Bounds) → length ks ≤ 0 → NoneAbove k ks
none_there [] k le = tt
none_there (x ∷ ks) k le = absurd (omega arith)

pub none_inside : (w : Weight) (rows : List Row) (made : Made) → AllIn 0 rows made → AllIn 0 (map (inside_row capped w) rows) made
none_inside w [] [] h = tt
none_inside w [] (ks ∷ made) h = absurd h
none_inside w (r ∷ rows) [] h = absurd h
none_inside w (r ∷ rows) (ks ∷ made) (first, h) = let few = first.few in (record { few = omega arith; each = none_there ks _ (omega arith) }, none_inside w rows made h)

-- in a block that counts so often, where its statement has so many steps
pub all_inside : (w : Weight) (n : ℕ) (rows : List Row) (made : Made) → w.times * n ≤ 2 ^ 64 - 1 → NoMore n rows → AllIn w.times rows made → AllIn 1 (map (inside_row capped w) rows) made
all_inside w n [] [] le most h = tt
all_inside w n [] (ks ∷ made) le most h = absurd h
all_inside w n (r ∷ rows) [] le most h = absurd h
all_inside w n (r ∷ rows) (ks ∷ made) le (fits, most) (first, h) =
    (record { few = counted; each = by_weight (nat_eq w.times 0) (λ e. eqb-true w.times 0 e) }, all_inside w n rows made le most h)
  where
    counted : length ks ≤ 1 * in_64_bits (w.times * r.times)
    counted = let few = first.few in let room : w.times * r.times ≤ w.times * n = mul-le-mul_left w.times fits in omega arith

    by_weight : (b : Bool) → (b ≡ true → w.times ≡ 0) → NoneAbove (if b then no_costs else r.each) ks
    by_weight true none =
        let few : length ks ≤ w.times * r.times = first.few in
        let zero' : length ks ≤ 0 * r.times = subst (λ t. length ks ≤ t * r.times) (none refl) few in
        none_there ks no_costs (omega arith)
    by_weight false none = first.each

-- ---- the turns of an `each`, whose rows become one

pub same_more : (m n : ℕ) (xs ys : List Row) (none : Made) → AllIn m xs none → AllIn n ys none → length xs ≡ length ys
same_more m n [] [] none h g = refl
same_more m n [] (b ∷ ys) [] h g = absurd g
same_more m n [] (b ∷ ys) (ks ∷ none) h g = absurd h
same_more m n (a ∷ xs) ys [] h g = absurd h
same_more m n (a ∷ xs) [] (ks ∷ none) h g = absurd g
same_more m n (a ∷ xs) (b ∷ ys) (ks ∷ none) (first, h) (second, g) = let e = same_more m n xs ys none h g in omega (arith, e)

pub none_merged : (xs ys : List Row) (none : Made) → AllIn 0 xs none → AllIn 0 ys none → AllIn 0 (merge capped xs ys) none
none_merged [] ys none h g = g
none_merged (a ∷ xs) [] none h g = h
none_merged (a ∷ xs) (b ∷ ys) [] h g = absurd h
none_merged (a ∷ xs) (b ∷ ys) (ks ∷ none) (first, h) (second, g) =
    let few = first.few in (record { few = omega arith; each = none_there ks _ (omega arith) }, none_merged xs ys none h g)

above_all : (k l : Bounds) (ks : List Bounds) → AtMost k l → NoneAbove k ks → NoneAbove l ks
above_all k l [] le h = tt
above_all k l (x ∷ ks) le (first, h) =
    (record { cycles = omega (arith, first.cycles, le.cycles); words = omega (arith, first.words, le.words); steps = omega (arith, first.steps, le.steps) }, above_all k l ks le h)

above_both : (k : Bounds) (ks us : List Bounds) → NoneAbove k ks → NoneAbove k us → NoneAbove k (ks ++ us)
above_both k [] us h g = g
above_both k (x ∷ ks) us (first, h) g = (first, above_both k ks us h g)

first_most : (a b r : Bounds) → AtMost (most_of a b) r → AtMost a r
first_most a b r h = record { cycles = omega (arith, h.cycles); words = omega (arith, h.words); steps = omega (arith, h.steps) }

second_most : (a b r : Bounds) → AtMost (most_of a b) r → AtMost b r
second_most a b r h = record { cycles = omega (arith, h.cycles); words = omega (arith, h.words); steps = omega (arith, h.steps) }

-- with so many times more, and these costs, row a is row r at most
pub record AddsTo (a r : Row) (ks : List Bounds) : Type 0 where
  pub times : length ks + a.times ≤ r.times
  pub most : AtMost a.each r.each
  pub each : NoneAbove r.each ks

abbrev pub AllAdd : List Row → List Row → Made → Type 0
AllAdd [] [] [] = Unit {0}
AllAdd [] [] (ks ∷ made) = ⊥
AllAdd [] (r ∷ rs) made = ⊥
AllAdd (a ∷ xs) [] made = ⊥
AllAdd (a ∷ xs) (r ∷ rs) [] = ⊥
AllAdd (a ∷ xs) (r ∷ rs) (ks ∷ made) = AddsTo a r ks × AllAdd xs rs made

pub adds_in : (xs rs : List Row) (made : Made) → AllAdd xs rs made → AllIn 1 rs made
adds_in [] [] [] h = tt
adds_in [] [] (ks ∷ made) h = absurd h
adds_in [] (r ∷ rs) made h = absurd h
adds_in (a ∷ xs) [] made h = absurd h
adds_in (a ∷ xs) (r ∷ rs) [] h = absurd h
adds_in (a ∷ xs) (r ∷ rs) (ks ∷ made) (first, h) = let few = first.times in (record { few = omega arith; each = first.each }, adds_in xs rs made h)

pub adds_none : (xs : List Row) (none : Made) → AllIn 0 xs none → AllAdd xs xs none
adds_none [] [] h = tt
adds_none [] (ks ∷ none) h = absurd h
adds_none (a ∷ xs) [] h = absurd h
adds_none (a ∷ xs) (ks ∷ none) (first, h) =
    let few = first.few in
    (record { times = omega arith; most = record { cycles = omega arith; words = omega arith; steps = omega arith }; each = none_there ks _ (omega arith) }, adds_none xs none h)

-- a turn in which nothing is made
pub adds_unmade : (xs ys rs : List Row) (none : Made) → length xs ≡ length ys → NoMore (2 ^ 64 - 1) xs → AllAdd (merge capped xs ys) rs none → AllAdd xs rs none
adds_unmade [] [] rs none e le h = h
adds_unmade [] (b ∷ ys) rs none e le h = absurd (omega (arith, e))
adds_unmade (a ∷ xs) [] rs none e le h = h
adds_unmade (a ∷ xs) (b ∷ ys) [] none e le h = absurd h
adds_unmade (a ∷ xs) (b ∷ ys) (r ∷ rs) [] e le h = absurd h
adds_unmade (a ∷ xs) (b ∷ ys) (r ∷ rs) (ks ∷ none) e (fits, le) (first, h) =
    let few = first.times in
    (record { times = omega arith; most = first_most a.each b.each r.each first.most; each = first.each }, adds_unmade xs ys rs none (omega (arith, e)) le h)

-- a turn, and then the others
pub adds_turn : (m n : ℕ) (xs ys rs : List Row) (made others : Made) → length xs ≡ length ys → NoMore m xs → NoMore n ys → m + n ≤ 2 ^ 64 - 1
    → AllIn 1 ys made → AllAdd (merge capped xs ys) rs others → AllAdd xs rs (both made others)
adds_turn m n [] [] rs [] others e le less room g h = h
adds_turn m n [] [] rs (ks ∷ made) others e le less room g h = absurd g
adds_turn m n [] (b ∷ ys) rs made others e le less room g h = absurd (omega (arith, e))
adds_turn m n (a ∷ xs) [] rs made others e le less room g h = absurd (omega (arith, e))
adds_turn m n (a ∷ xs) (b ∷ ys) rs [] others e le less room g h = absurd g
adds_turn m n (a ∷ xs) (b ∷ ys) [] (ks ∷ made) others e le less room g h = absurd h
adds_turn m n (a ∷ xs) (b ∷ ys) (r ∷ rs) (ks ∷ made) [] e le less room g h = absurd h
adds_turn m n (a ∷ xs) (b ∷ ys) (r ∷ rs) (ks ∷ made) (us ∷ others) e (fits, le) (fit, less) room (one, g) (first, h) = (
  record {
    times = sum;
    most = first_most a.each b.each r.each first.most;
    each = above_both r.each ks us (above_all b.each r.each ks (second_most a.each b.each r.each first.most) one.each) first.each;
  },
  adds_turn m n xs ys rs made others (omega (arith, e)) le less room g h,
)
  where
    sum : length (ks ++ us) + a.times ≤ r.times
    sum = let few = one.few in let more = first.times in let long = length-append ks us in omega arith

fits_merged : (xs ys : List Row) → length xs ≡ length ys → NoMore (2 ^ 64 - 1) xs → NoMore (2 ^ 64 - 1) (merge capped xs ys)
fits_merged [] [] e le = tt
fits_merged [] (b ∷ ys) e le = absurd (omega (arith, e))
fits_merged (a ∷ xs) [] e le = le
fits_merged (a ∷ xs) (b ∷ ys) e (fits, le) = (omega arith, fits_merged xs ys (omega (arith, e)) le)

-- all further turns
module _ (judge : Known → Verdict) (rows : Known → List Row) (none : Made) (unmade : (k : Known) → AllIn 0 (rows k) none) where
  pub turns_none : (n x v : ℕ) (k : Known) (so_far : Turned) → AllIn 0 so_far.rows none → AllIn 0 (turns_over capped n x v judge rows k so_far).rows none
  turns_none zero x v k so_far h = h
  turns_none (suc n) x v None so_far h = h
  turns_none (suc n) x v (Some q) so_far h =
      let now = rows (Some (with_range x (only v) q)) in
      turns_none n x (v + 1) (judge (Some (with_range x (only v) q))).after (turned (1 + so_far.turns) (merge capped so_far.rows now)) (none_merged so_far.rows now none h (unmade (Some (with_range x (only v) q))))

  pub turns_unmade : (n x v : ℕ) (k : Known) (so_far : Turned) → AllIn 0 so_far.rows none → NoMore (2 ^ 64 - 1) so_far.rows → AllAdd so_far.rows (turns_over capped n x v judge rows k so_far).rows none
  turns_unmade zero x v k so_far h le = adds_none so_far.rows none h
  turns_unmade (suc n) x v None so_far h le = adds_none so_far.rows none h
  turns_unmade (suc n) x v (Some q) so_far h le =
      let head : Known = Some (with_range x (only v) q) in
      let now = rows head in
      let after : Turned = turned (1 + so_far.turns) (merge capped so_far.rows now) in
      let same = same_more 0 0 so_far.rows now none h (unmade head) in
      adds_unmade so_far.rows now (turns_over capped n x (v + 1) judge rows (judge head).after after).rows none same le
      (turns_unmade n x (v + 1) (judge head).after after (none_merged so_far.rows now none h (unmade head)) (fits_merged so_far.rows now same le))
