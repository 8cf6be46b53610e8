-- Settings and services, laid out one after the other.
use Rattle.std.proofs.Common.{◌≡◌, ℕ, zero, suc, ◌+◌, ◌<◌, List, [], ◌∷◌, ◌++◌, map, take, length, slice_index_or, Option, Some, None, true, false, is_some, refl, sym, ◌∙◌, ap, subst, arith, ◌*◌, ◌^◌, ◌≤◌, drop, Bool, ◌/◌, get_or}
use Rattle.std.proofs.Math.Seq.{take-append_seam}
use Rattle.std.proofs.lemmas.List.{take-append-le}
use Rattle.std.proofs.lemmas.Option.{same_Some, slice_get_within}
use Rattle.std.proofs.lemmas.List.Elements.{All-append}
use Rattle.std.proofs.Math.Nat.{div-mul-le_self, lt-div-mul-add}
use Rattle.std.proofs.lemmas.Nat.{mul-le}
use Rattle.std.proofs.lemmas.Bool.{eqb-true}
use Rattle.std.specs.Prelude.{slice_get, if◌then◌else◌, nat_eq, nat_le}
use Rattle.std.specs.Option.{option_to_list}
use Rattle.camac_response_times.specs.declared.setting.Setting.{Setting}
use Rattle.camac_response_times.specs.declared.setting.SettingOption.{SettingOption}
use Rattle.camac_response_times.specs.Setting.{AreApart, AreRead, AreSettings, IsSetting, told_for}
use Rattle.camac_response_times.specs.declared.source.Source.{Source}
use Rattle.camac_response_times.specs.declared.search.Caller.{Caller}
use Rattle.camac_response_times.specs.Response.{called_within, calls_within, is_up_to, stretch_wants}
use Rattle.camac_response_times.specs.Found.{FitRates, is_meant, repeated, TakesAll}
use Rattle.camac_response_times.specs.declared.search.Settled.{Settled}
use Rattle.camac_response_times.specs.Rounds.{settle, most_cycles}

-- The words of settings, one after the other.

-- what is true of each element and of one more, is true of each of them
pub each_of_more : {A : Type 0} (xs : List A) (x : A) (i : ℕ) (y : A) (P : ℕ → A → Type 0) → ((j : ℕ) (z : A) → slice_get xs j ≡ Some z → P j z) → P (length xs) x → slice_get (xs ++ x ∷ []) i ≡ Some y → P i y
each_of_more [] x zero y P each last at = subst (P 0) (same_Some x y at) last
each_of_more [] x (suc i) y P each last at = absurd (cc)
each_of_more (z ∷ xs) x zero y P each last at = each 0 y at
each_of_more (z ∷ xs) x (suc i) y P each last at = each_of_more xs x i y (λ j. P (suc j)) (λ j v e. each (suc j) v e) last at

module _ {A B : Type 0} (f : A → B) where
  -- a list around one of its elements
  pub around : (xs : List A) (i : ℕ) (d : A) → i < length xs → (after : List B) × (map f xs ≡ take i (map f xs) ++ f (slice_index_or xs i d) ∷ after)
  around [] i d less = absurd (omega (arith, less))
  around (x ∷ xs) zero d less = (map f xs, refl)
  around (x ∷ xs) (suc i) d less = let rest = around xs i d (omega (arith, less)) in (rest.0, ap (λ t. f x ∷ t) rest.1)

  pub one_further : (xs : List A) (i : ℕ) (d : A) → i < length xs → take (i + 1) (map f xs) ≡ take i (map f xs) ++ f (slice_index_or xs i d) ∷ []
  one_further [] i d less = absurd (omega (arith, less))
  one_further (x ∷ xs) zero d less = refl
  one_further (x ∷ xs) (suc i) d less =
      let on : suc i + 1 ≡ suc (i + 1) = omega arith in
      ap (λ n. take n (f x ∷ map f xs)) on ∙ ap (λ t. f x ∷ t) (one_further xs i d (omega (arith, less)))

pub there_is : (o : Option ℕ) → is_some o ≡ true → (n : ℕ) × (o ≡ Some n)
there_is None e = absurd (cc)
there_is (Some n) e = (n, refl)

settings_more : (option : SettingOption) (ws : List (List ℕ)) (ss : List Setting) (w : List ℕ) (s : Setting) → AreSettings option ws ss → IsSetting option w s.service.now s.cycles → AreSettings option (ws ++ w ∷ []) (ss ++ s ∷ [])
settings_more option [] [] w s all one = (one, tt)
settings_more option [] (s' ∷ ss) w s all one = absurd all
settings_more option (w' ∷ ws) [] w s all one = absurd all
settings_more option (w' ∷ ws) (s' ∷ ss) w s all one = (all.0, settings_more option ws ss w s all.1 one)

apart_more : (ss : List Setting) (s : Setting) → AreApart ss → told_for ss s.service.now ≡ None → AreApart (ss ++ s ∷ [])
apart_more ss s apart new i t at =
    each_of_more ss s i t (λ j u. told_for (take j (ss ++ s ∷ [])) u.service.now ≡ None)
    (λ j u e. let within = slice_get_within ss j u e in ap (λ us. told_for us u.service.now) (take-append-le j ss (s ∷ []) (omega (arith, within))) ∙ apart j u e)
    (ap (λ us. told_for us s.service.now) (take-append_seam ss (s ∷ [])) ∙ new) at

pub one_more_read : (option : SettingOption) (ws all : List (List ℕ)) (ss ts : List Setting) (w : List ℕ) (s : Setting) → AreRead option ws ss → IsSetting option w s.service.now s.cycles → told_for ss s.service.now ≡ None
    → all ≡ ws ++ w ∷ [] → ts ≡ ss ++ s ∷ [] → AreRead option all ts
one_more_read option ws all ss ts w s read one new longer more =
    subst (λ us. AreRead option us ts) (sym longer) (subst (AreRead option (ws ++ w ∷ [])) (sym more)
    (record { read = settings_more option ws ss w s read.read one; apart = apart_more ss s read.apart new }))

pub there_is_none : (o : Option ℕ) → is_some o ≡ false → o ≡ None
there_is_none None e = refl
there_is_none (Some n) e = absurd (cc)

-- Services, laid out for the rounds, one after the other.

repeated_more : (e : ℕ) (cs : List Caller) (c : Option Caller) → repeated e (cs ++ option_to_list c) ≡ repeated e cs + repeated e (option_to_list c)
repeated_more e [] c = omega arith
repeated_more e (d ∷ cs) c = let rest = repeated_more e cs c in omega (arith, rest)

length_more : (cs : List Caller) (c : Option Caller) → length (cs ++ option_to_list c) ≡ length cs + length (option_to_list c)
length_more [] c = omega arith
length_more (d ∷ cs) c = let rest = length_more cs c in omega (arith, rest)

at_most_one : (c : Option Caller) → length (option_to_list c) ≤ 1
at_most_one None = omega arith
at_most_one (Some c) = omega arith

pub next_is : (ts : List Source) (i : ℕ) (t : Source) → i < length ts → t ≡ slice_index_or ts i t → drop i ts ≡ t ∷ drop (i + 1) ts
next_is [] i t less at = absurd (omega (arith, less))
next_is (u ∷ ts) zero t less at = ap (λ v. v ∷ ts) (sym at)
next_is (u ∷ ts) (suc i) t less at =
    let on : suc i + 1 ≡ suc (i + 1) = omega arith in
    next_is ts i t (omega (arith, less)) at ∙ ap (λ n. t ∷ drop n (u ∷ ts)) (sym on)

pub split : (m : Source → Bool) (e n : ℕ) (ts : List Source) → called_within m e (take n ts) + called_within m e (drop n ts) ≡ called_within m e ts
split m e zero ts = omega arith
split m e (suc n) [] = refl
split m e (suc n) (t ∷ ts) = let rest = split m e n ts in omega (arith, rest)

pub up_to : (g : ℕ) (own : Bool) (t : Source) → is_meant g own t ≡ true → is_up_to g t ≡ true
up_to g true t up = up
up_to g false t below = grind (arith, below)

module _ (m : Source → Bool) where
  -- those before a place are laid out
  pub record IsGathered (ts : List Source) (i once : ℕ) (cs : List Caller) : Type 0 where
    pub same : (e : ℕ) → once + repeated e cs + called_within m e (drop i ts) ≡ called_within m e ts
    pub few : once ≤ i * 2 ^ 32
    pub count : length cs ≤ i
    pub fit : FitRates cs

  module _ (ts : List Source) (i once : ℕ) (cs : List Caller) (t : Source) (at : IsGathered ts i once cs) (next : drop i ts ≡ t ∷ drop (i + 1) ts) where
    left : (e : ℕ) → once + repeated e cs + ((if m t then calls_within t.every e * t.cycles else 0) + called_within m e (drop (i + 1) ts)) ≡ called_within m e ts
    left e = ap (λ us. once + repeated e cs + called_within m e us) (sym next) ∙ at.same e

    pub not_meant : m t ≡ false → (once' : ℕ) (cs' : List Caller) → once' ≡ once → cs' ≡ cs → IsGathered ts (i + 1) once' cs'
    not_meant is once' cs' once_is cs_is =
        let few = at.few in
        let count = at.count in
        record {
          fit = rw cs_is at.fit;
          same = λ e.
              let none = ap (λ b. if b then calls_within t.every e * t.cycles else 0) is in
              let all = left e in
              let callers = ap (repeated e) cs_is in
              omega (arith, all, none, once_is, callers);
          few = omega (arith, few, once_is);
          count = let long = ap length cs_is in omega (arith, count, long);
        }

    module _ (is : m t ≡ true) (fits : t.cycles < 2 ^ 32) (once' : ℕ) (cs' : List Caller) (once_is : once' ≡ once + t.cycles) where
      pub meant : (c : Option Caller) → ((e : ℕ) → calls_within t.every e * t.cycles ≡ t.cycles + repeated e (option_to_list c)) → FitRates (option_to_list c) → cs' ≡ cs ++ option_to_list c → IsGathered ts (i + 1) once' cs'
      meant c again fit cs_is =
          let few = at.few in
          let count = at.count in
          record {
            same = λ e.
                let here = ap (λ b. if b then calls_within t.every e * t.cycles else 0) is in
                let calls = again e in
                let all = left e in
                let callers = ap (repeated e) cs_is ∙ repeated_more e cs c in
                omega (arith, all, here, calls, callers, once_is);
            few = omega (arith, few, fits, once_is);
            count = let long = ap length cs_is ∙ length_more cs c in let one = at_most_one c in omega (arith, count, long, one);
            fit = rw cs_is (All-append (λ d. d.cycles ≤ d.rate) cs (option_to_list c) at.fit fit);
          }

-- Where calls take all cycles, no stretch ends.

-- the calls of a service within e cycles take no less than its share of e + 1
pub share_of_calls : (cycles t e : ℕ) → 1 ≤ t → (cycles * 2 ^ 32 / t) * (e + 1) ≤ 2 ^ 32 * ((e / t + 1) * cycles)
share_of_calls cycles t e pos =
    let down = div-mul-le_self (cycles * 2 ^ 32) t in
    let up : e < e / t * t + t = lt-div-mul-add (omega (arith, pos)) in
    let first = mul-le (cycles * 2 ^ 32 / t) (e + 1) (cycles * 2 ^ 32 / t) (e / t * t + t) (omega arith) (omega (arith, up)) in
    let second = mul-le (cycles * 2 ^ 32 / t * t) (e / t + 1) (cycles * 2 ^ 32) (e / t + 1) down (omega arith) in
    grind (arith, first, second)

pub all_taken : (load share e here rest : ℕ) → 2 ^ 32 ≤ load + share → share * (e + 1) ≤ 2 ^ 32 * here → TakesAll load e (here + rest)
all_taken load share e here rest full h =
    let more = mul-le (2 ^ 32) (e + 1) (load + share) (e + 1) full (omega arith) in
    grind (arith, more, h)

-- what wants more than any number of cycles stands still nowhere
never_still : (wants : ℕ → ℕ) → ((e : ℕ) → e < wants e) → (r e : ℕ) → settle wants r e ≡ None
never_still wants more zero e = refl
never_still wants more (suc r) e = go (nat_le (wants e) most_cycles) (nat_eq (wants e) e) refl (never_still wants more r (wants e))
  where
    go : (fits same : Bool) → nat_eq (wants e) e ≡ same → settle wants r (wants e) ≡ None
        → ◌≡◌ {A = Option Settled} (elim fits [ true ↦ elim same [ true ↦ Some (record { cycles = e; rounds = r }) | false ↦ settle wants r (wants e) ] | false ↦ None ]) None
    go false same s ih = refl
    go true true s ih = let still = eqb-true (wants e) e s in let greater = more e in absurd (omega (arith, still, greater))
    go true false s ih = ih

pub overloaded : (ts : List Source) (g r : ℕ) → ((e : ℕ) → TakesAll 0 e (called_within (is_up_to g) e ts)) → settle (stretch_wants ts g) r 0 ≡ None
overloaded ts g r all = never_still (stretch_wants ts g) (λ e. let h = all e in omega (arith, h)) r 0

-- of a service up to a bit, at its rate
pub share_in_source : (g e share : ℕ) (s : Source) (t : ℕ) → s.every ≡ Some t → is_up_to g s ≡ true → 1 ≤ t → share ≡ s.cycles * 2 ^ 32 / t → share * (e + 1) ≤ 2 ^ 32 * called_within (is_up_to g) e (s ∷ [])
share_in_source g e share s t rate up pos is =
    let part = share_of_calls s.cycles t e pos in
    let calls : calls_within s.every e ≡ e / t + 1 = ap (λ r. calls_within r e) rate in
    let whole : (if is_up_to g s then calls_within s.every e * s.cycles else 0) ≡ (e / t + 1) * s.cycles = ap (λ b. if b then calls_within s.every e * s.cycles else 0) up ∙ ap (λ n. n * s.cycles) calls in
    omega (arith, part, whole, ap (λ x. x * (e + 1)) is)

-- the first service alone takes all
pub taken_at_head : (g load e share : ℕ) (ts : List Source) (s : Source) → 1 ≤ length ts → s ≡ get_or ts 0 s → 2 ^ 32 ≤ load + share → share * (e + 1) ≤ 2 ^ 32 * called_within (is_up_to g) e (s ∷ [])
    → TakesAll load e (called_within (is_up_to g) e ts)
taken_at_head g load e share [] s some at full part = absurd (omega (arith, some))
taken_at_head g load e share (t ∷ ts) s some at full part =
    let here : called_within (is_up_to g) e (s ∷ []) ≡ (if is_up_to g t then calls_within t.every e * t.cycles else 0) = ap (λ u. (if is_up_to g u then calls_within u.every e * u.cycles else 0) + 0) at ∙ omega arith in
    all_taken load share e (if is_up_to g t then calls_within t.every e * t.cycles else 0) (called_within (is_up_to g) e ts) full (omega (arith, part, here))
