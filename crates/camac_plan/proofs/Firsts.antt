-- The first table of a value, and which values stand in a plan after a crate or a station was put into it.
use Rattle.std.proofs.Common.{◌≡◌, ℕ, zero, suc, ◌+◌, ◌-◌, ◌<◌, ◌≤◌, Bool, true, false, List, [], ◌∷◌, Option, Some, None, length, is_some, refl, sym, ap, ◌∙◌, subst, arith, ◌⊎◌, inl, inr, ⊎_elim, set, length-set}
use Rattle.std.specs.Prelude.{option_map, option_and_then, if◌then◌else◌}
use Rattle.std.specs.List.{list_any, range_with_len}
use Rattle.std.proofs.lemmas.Bool.{or_cases, or_left, or_right, cases_lt, cases_eq, false≢true}
use Rattle.toml.specs.Data.{Data, Items, no_items, item}
use Rattle.camac_branch.specs.declared.plan.Crate as crate
use Rattle.camac_branch.specs.declared.plan.Installed.{Installed}
use Rattle.camac_branch.specs.Plan.{Layout, crate_at, installed, numbered, empty_crate, has_bit, crate_has_bit, uses_bit, is_some_eq, with_crate, with_installed, crate_with_installed}
use Rattle.camac_branch.proofs.Numbered.{numbered-set_same, numbered-set_other, numbered-outside, nothing_numbered, numbered_passes}
use Rattle.camac_plan.specs.declared.key.PlanKey.{PlanKey}
use Rattle.camac_plan.specs.declared.key.PlanKey.TheVariants as key
use Rattle.camac_plan.specs.declared.fault.PlanTable.TheVariants.{Station}
use Rattle.camac_plan.specs.Field.{has_number, first_with}
use Rattle.camac_plan.specs.Crates.{stations_in, station_or, first_with_bit}
use Rattle.camac_plan.specs.Twice.{HasAt, HasStation, IsEarlier}

-- ---- the first of some places

-- the first place that passes, where i does
pub record IsFirst (test : Data → Bool) (items : Items) (i m : ℕ) : Type 0 where
  pub has : HasAt test items m
  pub most : m ≤ i
  pub earlier : (h : ℕ) → h < m → HasAt test items h → ⊥

-- one more item at the front
past : (test : Data → Bool) (d : Data) (rest : Items) (i m : ℕ) → test d ≡ false → IsFirst test rest i m → IsFirst test (item d rest) (suc i) (suc m)
past test d rest i m fails f = record {
  has = f.has;
  most = (let le = f.most in omega arith);
  earlier = λ h below has. go h below has;
}
  where
    go : (h : ℕ) → h < suc m → HasAt test (item d rest) h → ⊥
    go zero below has = let same : d ≡ has.0 = (let e = has.1 in cc) in false≢true (sym fails ∙ (ap test same ∙ has.2))
    go (suc h) below has = f.earlier h (omega arith) has

pub first_of : (at : PlanKey) (b n : ℕ) (items : Items) (i : ℕ) → HasAt (has_number at b) items i → (m : ℕ) × (first_with at b n items ≡ Some (n + m)) × IsFirst (has_number at b) items i m
first_of at b n no_items i has = absurd (let e = has.1 in cc)
first_of at b n (item d rest) i has = go (λ j h. first_of at b (n + 1) rest j h) (has_number at b d) refl i has
  where
    go : ((j : ℕ) → HasAt (has_number at b) rest j → (m : ℕ) × (first_with at b (n + 1) rest ≡ Some (n + 1 + m)) × IsFirst (has_number at b) rest j m)
        → (t : Bool) → has_number at b d ≡ t → (i : ℕ) → HasAt (has_number at b) (item d rest) i
        → (m : ℕ) × ((if t then Some n else first_with at b (n + 1) rest) ≡ Some (n + m)) × IsFirst (has_number at b) (item d rest) i m
    go again true is i has = (0, ap Some (omega arith), record { has = (d, refl, is); most = omega arith; earlier = λ h below. absurd (omega arith) })
    go again false is zero has = absurd (let same : d ≡ has.0 = (let e = has.1 in cc) in false≢true (sym is ∙ (ap (has_number at b) same ∙ has.2)))
    go again false is (suc i) has =
        let f = again i has in
        let m : ℕ = f.0 in
        (suc m, f.1 ∙ ap Some (let e : n + 1 + m ≡ n + suc m = omega arith in e), past (has_number at b) d rest i m is f.2)

-- what is found is the first
found_first : (at : PlanKey) (b n : ℕ) (items : Items) (m : ℕ) → first_with at b n items ≡ Some m → (i : ℕ) × (m ≡ n + i) × HasAt (has_number at b) items i
found_first at b n no_items m e = absurd (cc)
found_first at b n (item d rest) m e = go (λ h. found_first at b (n + 1) rest m h) (has_number at b d) refl e
  where
    go : (first_with at b (n + 1) rest ≡ Some m → (i : ℕ) × (m ≡ n + 1 + i) × HasAt (has_number at b) rest i) → (t : Bool) → has_number at b d ≡ t → (if t then Some n else first_with at b (n + 1) rest) ≡ Some m → (i : ℕ) × (m ≡ n + i) × HasAt (has_number at b) (item d rest) i
    go again true is e = (0, (let same : n ≡ m = cc in omega arith), (d, refl, is))
    go again false is e = let f = again e in let i : ℕ = f.0 in (suc i, (let same = f.1 in omega arith), f.2)

-- the first station with a bit, where station j of crate i has it
pub record IsFirstBit (test : Data → Bool) (crates : Items) (i j d m : ℕ) : Type 0 where
  pub has : HasStation test crates d m
  pub most : IsEarlier d m i j ⊎ ((d ≡ i) × (m ≡ j))
  pub earlier : (e h : ℕ) → IsEarlier e h d m → HasStation test crates e h → ⊥

pub first_bit : (b c : ℕ) (crates : Items) (i j : ℕ) → HasStation (has_number key.Gl b) crates i j
    → (d : ℕ) × (m : ℕ) × (first_with_bit b c crates ≡ Station (c + d) m) × IsFirstBit (has_number key.Gl b) crates i j d m
first_bit b c no_items i j has = absurd (let e = has.1 in cc)
first_bit b c (item k rest) i j has = go (λ x h. first_bit b (c + 1) rest x j h) (first_with key.Gl b 0 (stations_in k)) refl i has
  where
    go : ((x : ℕ) → HasStation (has_number key.Gl b) rest x j
        → (d : ℕ) × (m : ℕ) × (first_with_bit b (c + 1) rest ≡ Station (c + 1 + d) m) × IsFirstBit (has_number key.Gl b) rest x j d m)
        → (o : Option ℕ) → first_with key.Gl b 0 (stations_in k) ≡ o → (i : ℕ) → HasStation (has_number key.Gl b) (item k rest) i j
        → (d : ℕ) × (m : ℕ) × (station_or c o (first_with_bit b (c + 1) rest) ≡ Station (c + d) m) × IsFirstBit (has_number key.Gl b) (item k rest) i j d m
    go again (Some n) is i has =
        let f = found_first key.Gl b 0 (stations_in k) n is in
        let g = first_of key.Gl b 0 (stations_in k) f.0 f.2 in
        let m : ℕ = g.0 in
        let same : n ≡ m = (let e = sym is ∙ g.1 in let one : n ≡ 0 + m = cc in omega arith) in (
          0,
          m,
          (let zero_more : c ≡ c + 0 = omega arith in ap (λ x. Station x n) zero_more ∙ ap (Station (c + 0)) same),
          record {
            has = (k, refl, g.2.has);
            most = at_least i has;
            earlier = λ e h before other. none e h before other;
          },
        )
      where
        none : (e h : ℕ) → IsEarlier e h 0 (first_of key.Gl b 0 (stations_in k) (found_first key.Gl b 0 (stations_in k) n is).0 (found_first key.Gl b 0 (stations_in k) n is).2).0 → HasStation (has_number key.Gl b) (item k rest) e h → ⊥
        none zero h before other =
            let f = found_first key.Gl b 0 (stations_in k) n is in
            let g = first_of key.Gl b 0 (stations_in k) f.0 f.2 in
            let same : k ≡ other.0 = (let e = other.1 in cc) in
            ⊎_elim (λ lt. absurd (omega arith)) (λ t. g.2.earlier h t.1 (subst (λ q. HasAt (has_number key.Gl b) (stations_in q) h) (sym same) other.2)) before
        none (suc e) h before other = ⊎_elim (λ lt. absurd (omega arith)) (λ t. absurd (let bad = t.0 in omega arith)) before

        at_least : (i : ℕ) → HasStation (has_number key.Gl b) (item k rest) i j
            → IsEarlier 0 (first_of key.Gl b 0 (stations_in k) (found_first key.Gl b 0 (stations_in k) n is).0 (found_first key.Gl b 0 (stations_in k) n is).2).0 i j
            ⊎ ((0 ≡ i) × ((first_of key.Gl b 0 (stations_in k) (found_first key.Gl b 0 (stations_in k) n is).0 (found_first key.Gl b 0 (stations_in k) n is).2).0 ≡ j))
        at_least zero has =
            let f = found_first key.Gl b 0 (stations_in k) n is in
            let g = first_of key.Gl b 0 (stations_in k) f.0 f.2 in
            let m : ℕ = g.0 in
            let same : k ≡ has.0 = (let e = has.1 in cc) in
            ⊎_elim (λ lt. inl (inr (refl, lt)))
            (λ le. ⊎_elim
            (λ lt. absurd (g.2.earlier j lt (subst (λ q. HasAt (has_number key.Gl b) (stations_in q) j) (sym same) has.2)))
            (λ ge. inr (refl, (let e : m ≡ j = omega arith in e)))
            (cases_lt j m))
            (cases_lt m j)
        at_least (suc i) has = inl (inl (omega arith))
    go again None is zero has =
        absurd (let same : k ≡ has.0 = (let e = has.1 in cc) in
        let g = first_of key.Gl b 0 (stations_in k) j (subst (λ q. HasAt (has_number key.Gl b) (stations_in q) j) (sym same) has.2) in
        false≢true (ap is_some (sym is ∙ g.1)))
    go again None is (suc i) has =
        let f = again i has in
        let d : ℕ = f.0 in
        let m : ℕ = f.1 in (
          suc d,
          m,
          f.2 ∙ ap (λ x. Station x m) (let e : c + 1 + d ≡ c + suc d = omega arith in e),
          record {
            has = f.3.has;
            most = ⊎_elim (λ t. ⊎_elim (λ lt. inl (inl (omega arith))) (λ s. inl (inr (ap suc s.0, s.1))) t) (λ t. inr (ap suc t.0, t.1)) f.3.most;
            earlier = λ e h before other. none d m f.3.earlier e h before other;
          },
        )
      where
        none : (d m : ℕ) → ((e h : ℕ) → IsEarlier e h d m → HasStation (has_number key.Gl b) rest e h → ⊥) → (e h : ℕ) → IsEarlier e h (suc d) m → HasStation (has_number key.Gl b) (item k rest) e h → ⊥
        none d m earlier zero h before other =
            let same : k ≡ other.0 = (let e = other.1 in cc) in
            let g = first_of key.Gl b 0 (stations_in k) h (subst (λ q. HasAt (has_number key.Gl b) (stations_in q) h) (sym same) other.2) in
            false≢true (ap is_some (sym is ∙ g.1))
        none d m earlier (suc e) h before other =
            earlier e h (⊎_elim (λ lt. inl (omega arith)) (λ t. inr ((let s = t.0 in omega arith), t.1)) before) other

-- ---- what a changed plan has

any_set : {A : Type 0} (test : A → Bool) (xs : List A) (i : ℕ) (v : A) → list_any test (set xs i v) ≡ true → (list_any test xs ≡ true) ⊎ (test v ≡ true)
any_set test [] i v e = inl e
any_set test (x ∷ xs) zero v e = ⊎_elim (λ h. inr h) (λ h. inl (or_right (test x) (list_any test xs) h)) (or_cases (test v) (list_any test xs) e)
any_set test (x ∷ xs) (suc i) v e =
    ⊎_elim (λ h. inl (or_left (test x) (list_any test xs) h))
    (λ h. ⊎_elim (λ s. inl (or_right (test x) (list_any test xs) s)) (λ s. inr s) (any_set test xs i v h))
    (or_cases (test x) (list_any test (set xs i v)) e)

pub crate_added : (plan : Layout) (c w d : ℕ) → 1 ≤ c → is_some (crate_at (with_crate plan c w) d) ≡ true → (d ≡ c) ⊎ (is_some (crate_at plan d) ≡ true)
crate_added plan c w d from e =
    ⊎_elim (λ same. inl same) (λ apart. inr (sym (ap is_some (numbered-set_other plan.crates c d (Some (empty_crate w)) from apart)) ∙ e)) (cases_eq d c)

pub bit_of_added : (plan : Layout) (c w b : ℕ) → uses_bit (with_crate plan c w) b ≡ true → uses_bit plan b ≡ true
bit_of_added plan c w b e = ⊎_elim (λ h. h) (λ h. absurd (cc)) (any_set (crate_has_bit b) plan.crates (c - 1) (Some (empty_crate w)) e)

pub nothing_in_added : (plan : Layout) (c w m : ℕ) → 1 ≤ c → is_some (installed (with_crate plan c w) c m) ≡ true → ⊥
nothing_in_added plan c w m from e = ⊎_elim inside outside (cases_lt (c - 1) (length plan.crates))
  where
    inside : c - 1 < length plan.crates → ⊥
    inside below =
        let here = numbered-set_same plan.crates c (Some (empty_crate w)) from below in
        false≢true (sym (ap (λ o. is_some (option_and_then (λ (k : crate.Crate). numbered k.stations m) o)) here ∙ ap is_some (nothing_numbered m (range_with_len 0 23))) ∙ e)

    outside : length plan.crates ≤ c - 1 → ⊥
    outside le =
        let same = length-set plan.crates (c - 1) (Some (empty_crate w)) in
        let none : crate_at (with_crate plan c w) c ≡ None = numbered-outside (set plan.crates (c - 1) (Some (empty_crate w))) c (inr (omega arith)) in
        false≢true (sym (ap (λ o. is_some (option_and_then (λ (k : crate.Crate). numbered k.stations m) o)) none) ∙ e)

-- a station was put into a crate
module _ (plan : Layout) (c n : ℕ) (s : Installed) (from : 1 ≤ c) where
  abbrev new : Layout
  new = with_installed plan c n s

  -- the crate itself after it
  own_crate : (crate_at new c ≡ option_map (crate_with_installed n s) (crate_at plan c)) ⊎ (crate_at new c ≡ None)
  own_crate =
      ⊎_elim (λ below. inl (numbered-set_same plan.crates c (option_map (crate_with_installed n s) (crate_at plan c)) from below))
      (λ le. let same = length-set plan.crates (c - 1) (option_map (crate_with_installed n s) (crate_at plan c)) in
      inr (numbered-outside (set plan.crates (c - 1) (option_map (crate_with_installed n s) (crate_at plan c))) c (inr (omega arith))))
      (cases_lt (c - 1) (length plan.crates))

  pub same_crates : (d : ℕ) → is_some (crate_at new d) ≡ true → is_some (crate_at plan d) ≡ true
  same_crates d e =
      ⊎_elim
      (λ same. ⊎_elim
      (λ is. subst (λ x. is_some (crate_at plan x) ≡ true) (sym same) (mapped (crate_at plan c) (sym (ap is_some is) ∙ (ap (λ x. is_some (crate_at new x)) (sym same) ∙ e))))
      (λ none. absurd (false≢true (sym (ap is_some none) ∙ (ap (λ x. is_some (crate_at new x)) (sym same) ∙ e))))
      own_crate)
      (λ apart. sym (ap is_some (numbered-set_other plan.crates c d (option_map (crate_with_installed n s) (crate_at plan c)) from apart)) ∙ e)
      (cases_eq d c)
    where
      mapped : (o : Option crate.Crate) → is_some (option_map (crate_with_installed n s) o) ≡ true → is_some o ≡ true
      mapped None h = h
      mapped (Some k) h = refl

  pub station_added : 1 ≤ n → (m : ℕ) → is_some (installed new c m) ≡ true → (m ≡ n) ⊎ (is_some (installed plan c m) ≡ true)
  station_added first m e =
      ⊎_elim (λ is. go (crate_at plan c) (sym (ap (λ o. is_some (option_and_then (λ (k : crate.Crate). numbered k.stations m) o)) is) ∙ e))
      (λ none. absurd (false≢true (sym (ap (λ o. is_some (option_and_then (λ (k : crate.Crate). numbered k.stations m) o)) none) ∙ e)))
      own_crate
    where
      go : (o : Option crate.Crate) → is_some (option_and_then (λ (k : crate.Crate). numbered k.stations m) (option_map (crate_with_installed n s) o)) ≡ true
          → (m ≡ n) ⊎ (is_some (option_and_then (λ (k : crate.Crate). numbered k.stations m) o) ≡ true)
      go None h = absurd (false≢true h)
      go (Some k) h = ⊎_elim (λ same. inl same) (λ apart. inr (sym (ap is_some (numbered-set_other k.stations n m (Some s) first apart)) ∙ h)) (cases_eq m n)

  pub bit_added : (b : ℕ) → uses_bit new b ≡ true → (uses_bit plan b ≡ true) ⊎ (is_some_eq b s.gl ≡ true)
  bit_added b e =
      ⊎_elim (λ h. inl h) (λ h. go (crate_at plan c) refl h)
      (any_set (crate_has_bit b) plan.crates (c - 1) (option_map (crate_with_installed n s) (crate_at plan c)) e)
    where
      go : (o : Option crate.Crate) → crate_at plan c ≡ o → crate_has_bit b (option_map (crate_with_installed n s) o) ≡ true → (uses_bit plan b ≡ true) ⊎ (is_some_eq b s.gl ≡ true)
      go None is h = absurd (false≢true h)
      go (Some k) is h =
          ⊎_elim (λ t. inl (numbered_passes (crate_has_bit b) plan.crates c k is t)) (λ t. inr t) (any_set (has_bit b) k.stations (n - 1) (Some s) h)
