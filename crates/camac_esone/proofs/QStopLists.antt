-- The test of Q-stop gives the lists of Q-stop.
use Rattle.std.proofs.Common.{◌≡◌, ℕ, suc, ◌-◌, ◌<◌, ◌≤◌, Bool, true, false, List, [], ◌∷◌, ◌++◌, length, refl, sym, ap, ◌∙◌, subst, arith, Some, None, inl, inr}
use Rattle.std.specs.Prelude.{◌⊎◌, ◌&&◌, nat_lt, take, option_map}
use Rattle.std.specs.Option.{unwrap_or}
use Rattle.std.proofs.lemmas.Bool.{and_parts, lt-ltb, le-ltb, ltb-true, ltb-false}
use Rattle.std.proofs.lemmas.List.{length-append, length-take, take_all}
use Rattle.camac_branch.specs.Address.{Address}
use Rattle.camac_esone.specs.Transfers.{all_true, q_stop_next}
use Rattle.camac_esone.specs.Lists.{Cycle, replies, first_zero, IsQStopList}
use Rattle.camac_esone.specs.Laws.{IsDrivenToEnd, StopTestGivesQStop}
use Rattle.camac_esone.proofs.Parts.{replies-append, length-replies, empty_or_ending, when_true, when_false, was_true, was_false}
use Rattle.camac_esone.proofs.Drives.{Falls, gives}

no_zero : (qs : List Bool) → all_true qs ≡ true → first_zero qs ≡ None
no_zero [] h = refl
no_zero (true ∷ qs) h = ap (option_map suc) (no_zero qs h)
no_zero (false ∷ qs) h = cc

zero_after : (xs ys : List Bool) → all_true xs ≡ true → first_zero (xs ++ false ∷ ys) ≡ Some (suc (length xs))
zero_after [] ys h = refl
zero_after (true ∷ xs) ys h = ap (option_map suc) (zero_after xs ys h)
zero_after (false ∷ xs) ys h = cc

-- replies with a first Q=0
record HasZero (qs : List Bool) : Type 0 where
  before : List Bool
  after : List Bool
  ones : all_true before ≡ true
  parts : before ++ false ∷ after ≡ qs

ones_or_zero : (qs : List Bool) → (all_true qs ≡ true) ⊎ HasZero qs
ones_or_zero [] = inl refl
ones_or_zero (false ∷ qs) = inr (record { before = []; after = qs; ones = refl; parts = refl })
ones_or_zero (true ∷ qs) =
    elim (ones_or_zero qs) [
      | inl h ↦ inl h
      | inr z ↦ inr (record { before = true ∷ z.before; after = z.after; ones = z.ones; parts = ap (λ l. true ∷ l) z.parts })
    ]

-- replies of a whole transfer: max of them with Q=1, or the last alone with Q=0
record IsAllOnes (max : ℕ) (qs : List Bool) : Type 0 where
  ones : all_true qs ≡ true
  count : length qs ≡ max

record EndsInZero (max : ℕ) (qs : List Bool) : Type 0 where
  before : List Bool
  ones : all_true before ≡ true
  parts : before ++ false ∷ [] ≡ qs
  count : length before < max

IsStop : ℕ → List Bool → Type 0
IsStop max qs = IsAllOnes max qs ⊎ EndsInZero max qs

stop_count : ℕ → List Bool → ℕ
stop_count max qs = unwrap_or (first_zero (take max qs)) max

none_left : (xs : List Bool) → length xs ≡ 0 → xs ≡ []
none_left [] e = refl
none_left (x ∷ xs) e = absurd (omega (arith, e))

count_means : (max : ℕ) (qs : List Bool) → length qs ≡ stop_count max qs → IsStop max qs
unfolding IsStop stop_count
count_means max qs e =
    elim (ones_or_zero (take max qs)) [
      | inl h ↦ let count : length qs ≡ max = e ∙ ap (λ o. unwrap_or o max) (no_zero (take max qs) h) in
          let all : take max qs ≡ qs = take_all max qs (omega arith) in
          inl (record { ones = subst (λ l. all_true l ≡ true) all h; count = count })
      | inr z ↦ let found : first_zero (take max qs) ≡ Some (suc (length z.before))
          = ap first_zero (sym z.parts) ∙ zero_after z.before z.after z.ones in
          let count : length qs ≡ suc (length z.before) = e ∙ ap (λ o. unwrap_or o max) found in
          let most = length-take max qs in
          let of_parts = length-append z.before (false ∷ z.after) in
          let same = ap length z.parts in
          let whole : take max qs ≡ qs = take_all max qs (omega arith) in
          let again = ap length whole in
          let empty : z.after ≡ [] = none_left z.after (omega arith) in
          inr (record {
            before = z.before;
            ones = z.ones;
            parts = subst (λ l. z.before ++ false ∷ l ≡ qs) empty (z.parts ∙ whole);
            count = omega arith;
          })
    ]

means_count : (max : ℕ) (qs : List Bool) → IsStop max qs → length qs ≡ stop_count max qs
unfolding IsStop stop_count
means_count max qs (inl a) =
    let all : take max qs ≡ qs = take_all max qs (omega (arith, a.count)) in
    a.count ∙ sym (ap (λ o. unwrap_or o max) (ap first_zero all ∙ no_zero qs a.ones))
means_count max qs (inr z) =
    let count : length qs ≡ suc (length z.before) = ap length (sym z.parts) ∙ length-append z.before (false ∷ []) ∙ omega arith in
    let all : take max qs ≡ qs = take_all max qs (omega (arith, z.count)) in
    count ∙ sym (ap (λ o. unwrap_or o max) (ap first_zero all ∙ ap first_zero (sym z.parts) ∙ zero_after z.before [] z.ones))

-- another cycle is wanted
pub record GoesOn (max : ℕ) (qs : List Bool) : Type 0 where
  pub ones : all_true qs ≡ true
  pub less : length qs < max

go_on_wanted : (at : Address) (max : ℕ) (qs : List Bool) → GoesOn max qs → q_stop_next at max qs ≡ Some at
go_on_wanted at max qs g =
    when_true (all_true qs && nat_lt (length qs) max) at
    (ap (λ b. b && nat_lt (length qs) max) g.ones ∙ lt-ltb (length qs) max g.less)

pub wanted_goes_on : (at to : Address) (max : ℕ) (qs : List Bool) → q_stop_next at max qs ≡ Some to → GoesOn max qs × (to ≡ at)
wanted_goes_on at to max qs e =
    let was = was_true (all_true qs && nat_lt (length qs) max) at to e in
    let parts = and_parts (all_true qs) (nat_lt (length qs) max) was.0 in
    (record { ones = parts.0; less = ltb-true (length qs) max parts.1 }, was.1)

ones_prefix : (xs ys : List Bool) → all_true (xs ++ ys) ≡ true → all_true xs ≡ true
ones_prefix [] ys h = refl
ones_prefix (true ∷ xs) ys h = ones_prefix xs ys h
ones_prefix (false ∷ xs) ys h = cc

ones_more : (xs : List Bool) → all_true xs ≡ true → all_true (xs ++ true ∷ []) ≡ true
ones_more [] h = refl
ones_more (true ∷ xs) h = ones_more xs h
ones_more (false ∷ xs) h = cc

zero_last : (xs : List Bool) → all_true (xs ++ false ∷ []) ≡ false
zero_last [] = refl
zero_last (true ∷ xs) = zero_last xs
zero_last (false ∷ xs) = refl

-- what stands before some reply stands before the last one
prefix_of : (xs ys before : List Bool) (x y : Bool) → xs ++ x ∷ ys ≡ before ++ y ∷ [] → all_true before ≡ true → (all_true xs ≡ true) × (length xs ≤ length before)
prefix_of [] ys before x y e h = (refl, omega arith)
prefix_of (a ∷ xs) ys [] x y e h =
    let same = ap length e in let parts = length-append xs (x ∷ ys) in absurd (omega (arith, same, parts))
prefix_of (a ∷ xs) ys (true ∷ before) x y e h =
    let tails : xs ++ x ∷ ys ≡ before ++ y ∷ [] = cc in
    let first : a ≡ true = cc in
    let r = prefix_of xs ys before x y tails h in
    (subst (λ b. all_true (b ∷ xs) ≡ true) (sym first) r.0, omega arith)
prefix_of (a ∷ xs) ys (false ∷ before) x y e h = cc

goes_on_before : (max : ℕ) (qs xs ys : List Bool) (x : Bool) → IsStop max qs → xs ++ x ∷ ys ≡ qs → GoesOn max xs
unfolding IsStop
goes_on_before max qs xs ys x (inl a) e =
    let same = ap length e in
    let parts = length-append xs (x ∷ ys) in
    record { ones = ones_prefix xs (x ∷ ys) (subst (λ l. all_true l ≡ true) (sym e) a.ones); less = omega (arith, a.count) }
goes_on_before max qs xs ys x (inr z) e =
    let f = prefix_of xs ys z.before x false (e ∙ sym z.parts) z.ones in
    record { ones = f.0; less = omega (arith, z.count) }

ends_after : (at : Address) (max : ℕ) (qs : List Bool) → IsStop max qs → q_stop_next at max qs ≡ None
unfolding IsStop
ends_after at max qs (inl a) =
    when_false (all_true qs && nat_lt (length qs) max) at
    (ap (λ b. b && nat_lt (length qs) max) a.ones ∙ le-ltb (length qs) max (omega (arith, a.count)))
ends_after at max qs (inr z) =
    when_false (all_true qs && nat_lt (length qs) max) at
    (ap (λ b. b && nat_lt (length qs) max) (ap all_true (sym z.parts) ∙ zero_last z.before))

-- a whole transfer, from its replies before the last and the last
whole_of : (at : Address) (max : ℕ) (qs : List Bool) (q : Bool) → GoesOn max qs → q_stop_next at max (qs ++ q ∷ []) ≡ None → IsStop max (qs ++ q ∷ [])
unfolding IsStop
whole_of at max qs false g e = inr (record { before = qs; ones = g.ones; parts = refl; count = g.less })
whole_of at max qs true g e =
    let ones : all_true (qs ++ true ∷ []) ≡ true = ones_more qs g.ones in
    let test = was_false (all_true (qs ++ true ∷ []) && nat_lt (length (qs ++ true ∷ [])) max) at e in
    let not_less : nat_lt (length (qs ++ true ∷ [])) max ≡ false
    = sym (ap (λ b. b && nat_lt (length (qs ++ true ∷ [])) max) ones) ∙ test in
    let most : max ≤ length (qs ++ true ∷ []) = ltb-false (length (qs ++ true ∷ [])) max not_less in
    let parts = length-append qs (true ∷ []) in
    inl (record { ones = ones; count = omega (arith, g.less) })

nothing_wanted : (at : Address) (max : ℕ) → q_stop_next at max [] ≡ None → IsStop max []
unfolding IsStop
nothing_wanted at max e =
    let none : max ≤ 0 = ltb-false 0 max (was_false (nat_lt 0 max) at e) in
    inl (record { ones = refl; count = omega arith })

to_end : (at : Address) (max : ℕ) (cycles : List Cycle) → IsQStopList at max cycles → IsDrivenToEnd (q_stop_next at max) cycles
unfolding stop_count
to_end at max cycles h =
    let stop = count_means max (replies cycles) (length-replies cycles ∙ h.count) in
    record {
      driven = λ before after c e.
          let parts : replies before ++ c.q ∷ replies after ≡ replies cycles
          = sym (replies-append before (c ∷ after)) ∙ ap replies e in
          go_on_wanted at max (replies before) (goes_on_before max (replies cycles) (replies before) (replies after) c.q stop parts)
          ∙ ap Some (sym (h.address before after c e));
      ended = ends_after at max (replies cycles) stop;
    }

stops : (at : Address) (max : ℕ) (cycles : List Cycle) → IsDrivenToEnd (q_stop_next at max) cycles → IsStop max (replies cycles)
stops at max cycles h =
    elim (empty_or_ending cycles) [
      | inl e ↦ subst (λ l. IsStop max (replies l)) (sym e)
          (nothing_wanted at max (subst (λ l. q_stop_next at max (replies l) ≡ None) e h.ended))
      | inr end ↦ let qs : replies end.prefix ++ end.last.q ∷ [] ≡ replies cycles
          = sym (replies-append end.prefix (end.last ∷ [])) ∙ ap replies end.parts in
          subst (IsStop max) qs
          (whole_of at max (replies end.prefix) end.last.q
          (wanted_goes_on at end.last.at max (replies end.prefix) (h.driven end.prefix [] end.last end.parts)).0
          (subst (λ l. q_stop_next at max l ≡ None) (sym qs) h.ended))
    ]

from_end : (at : Address) (max : ℕ) (cycles : List Cycle) → IsDrivenToEnd (q_stop_next at max) cycles → IsQStopList at max cycles
unfolding stop_count
from_end at max cycles h = record {
  address = λ before after c e. (wanted_goes_on at c.at max (replies before) (h.driven before after c e)).1;
  count = sym (length-replies cycles) ∙ means_count max (replies cycles) (stops at max cycles h);
}

stop_falls : (at : Address) (max : ℕ) → Falls (q_stop_next at max) (λ qs. max - length qs)
stop_falls at max qs to e =
    let g = (wanted_goes_on at to max qs e).0 in
    let parts = length-append qs (false ∷ []) in
    omega (arith, g.less)

pub q_stop_gives : StopTestGivesQStop
q_stop_gives at max =
    gives (q_stop_next at max) (IsQStopList at max) (λ qs. max - length qs) (stop_falls at max)
    (λ cycles. (to_end at max cycles, from_end at max cycles))
