-- The test of Q-repeat gives the lists of Q-repeat.
use Rattle.std.proofs.Common.{◌≡◌, ℕ, ◌-◌, ◌<◌, ◌≤◌, Bool, false, List, [], ◌∷◌, ◌++◌, length, sym, ap, ◌∙◌, subst, arith, Some, None, inl, inr}
use Rattle.std.specs.Prelude.{◌&&◌, nat_lt}
use Rattle.std.proofs.lemmas.Bool.{and_parts, lt-ltb, ltb-true, cases_lt}
use Rattle.std.proofs.lemmas.List.{length-append}
use Rattle.camac_branch.specs.Address.{Address}
use Rattle.camac_esone.specs.Transfers.{tally, q_repeat_next}
use Rattle.camac_esone.specs.Lists.{Cycle, replies, EachCycle, IsQRepeatList}
use Rattle.camac_esone.specs.Laws.{IsDriven, IsDrivenToEnd, RepeatTestGivesQRepeat}
use Rattle.camac_esone.specs.Bounds.{IsUpTo}
use Rattle.camac_esone.proofs.Parts.{replies-append, length-replies, empty_or_ending, tally_more, when_true, was_true}
use Rattle.camac_esone.proofs.Drives.{Falls, asks, gives}

-- another cycle is wanted
pub record GoesOn (max limit : ℕ) (qs : List Bool) : Type 0 where
  pub fewer : tally qs < max
  pub room : length qs < limit

go_on_wanted : (at : Address) (max limit : ℕ) (qs : List Bool) → GoesOn max limit qs → q_repeat_next at max limit qs ≡ Some at
go_on_wanted at max limit qs g =
    when_true (nat_lt (tally qs) max && nat_lt (length qs) limit) at
    (ap (λ b. b && nat_lt (length qs) limit) (lt-ltb (tally qs) max g.fewer) ∙ lt-ltb (length qs) limit g.room)

pub wanted_goes_on : (at to : Address) (max limit : ℕ) (qs : List Bool) → q_repeat_next at max limit qs ≡ Some to → GoesOn max limit qs × (to ≡ at)
wanted_goes_on at to max limit qs e =
    let was = was_true (nat_lt (tally qs) max && nat_lt (length qs) limit) at to e in
    let parts = and_parts (nat_lt (tally qs) max) (nat_lt (length qs) limit) was.0 in
    (record { fewer = ltb-true (tally qs) max parts.0; room = ltb-true (length qs) limit parts.1 }, was.1)

not_wanted : (at : Address) (max limit : ℕ) (qs : List Bool) → (GoesOn max limit qs → ⊥) → q_repeat_next at max limit qs ≡ None
not_wanted at max limit qs never =
    elim (asks (q_repeat_next at max limit qs)) [
      | inl e ↦ e
      | inr w ↦ absurd (never (wanted_goes_on at w.at max limit qs w.same).0)
    ]

stands_still : (at : Address) (max limit : ℕ) (qs : List Bool) → q_repeat_next at max limit qs ≡ None → GoesOn max limit qs → ⊥
stands_still at max limit qs e g = let some = go_on_wanted at max limit qs g in cc

fewer_before : (at : Address) (max limit : ℕ) (cycles : List Cycle) → IsQRepeatList at max limit cycles → EachCycle (λ before c. tally (replies before) < max) cycles
fewer_before at max limit cycles h =
    elim (h.count) [ inl k ↦ k.0.before | inr k ↦ k.0.before ]

at_most : (at : Address) (max limit : ℕ) (cycles : List Cycle) → IsQRepeatList at max limit cycles → length cycles ≤ limit
at_most at max limit cycles h =
    elim (h.count) [ inl k ↦ k.1 | inr k ↦ omega (arith, k.1) ]

stops : (at : Address) (max limit : ℕ) (cycles : List Cycle) → IsQRepeatList at max limit cycles → GoesOn max limit (replies cycles) → ⊥
stops at max limit cycles h g =
    let same = length-replies cycles in
    elim (h.count) [ inl k ↦ omega (arith, k.0.reached, g.fewer) | inr k ↦ omega (arith, k.1, g.room) ]

to_end : (at : Address) (max limit : ℕ) (cycles : List Cycle) → IsQRepeatList at max limit cycles → IsDrivenToEnd (q_repeat_next at max limit) cycles
to_end at max limit cycles h = record {
  driven = λ before after c e.
      let same = ap length e in
      let parts = length-append before (c ∷ after) in
      let count = length-replies before in
      let most = at_most at max limit cycles h in
      let less : length (replies before) < limit = omega arith in
      go_on_wanted at max limit (replies before) (record { fewer = fewer_before at max limit cycles h before after c e; room = less })
      ∙ ap Some (sym (h.address before after c e));
  ended = not_wanted at max limit (replies cycles) (stops at max limit cycles h);
}

pub up_to : (at : Address) (max limit : ℕ) (cycles : List Cycle) → IsDriven (q_repeat_next at max limit) cycles → IsUpTo limit max cycles
up_to at max limit cycles h =
    elim (empty_or_ending cycles) [
      | inl e ↦ subst (IsUpTo limit max) (sym e) (record { count = omega arith; tally = omega arith })
      | inr end ↦ let g = (wanted_goes_on at end.last.at max limit (replies end.prefix) (h end.prefix [] end.last end.parts)).0 in
          let more = tally_more (replies end.prefix) end.last.q in
          let parts = replies-append end.prefix (end.last ∷ []) in
          let words : tally (replies (end.prefix ++ end.last ∷ [])) ≤ max
          = subst (λ l. tally l ≤ max) (sym parts) (omega (arith, g.fewer)) in
          let count = length-append end.prefix (end.last ∷ []) in
          let same = length-replies end.prefix in
          subst (IsUpTo limit max) end.parts (record { count = omega (arith, g.room); tally = words })
    ]

from_end : (at : Address) (max limit : ℕ) (cycles : List Cycle) → IsDrivenToEnd (q_repeat_next at max limit) cycles → IsQRepeatList at max limit cycles
from_end at max limit cycles h =
    let most = up_to at max limit cycles h.driven in
    let same = length-replies cycles in
    let before : EachCycle (λ before c. tally (replies before) < max) cycles
    = λ before after c e. (wanted_goes_on at c.at max limit (replies before) (h.driven before after c e)).0.fewer in
    record {
      address = λ before after c e. (wanted_goes_on at c.at max limit (replies before) (h.driven before after c e)).1;
      count = elim (cases_lt (tally (replies cycles)) max) [
        | inl lt ↦ elim (cases_lt (length (replies cycles)) limit) [
          | inl less ↦ absurd (stands_still at max limit (replies cycles) h.ended (record { fewer = lt; room = less }))
          | inr le ↦ inr (record { whole = lt; before = before }, omega (arith, most.count))
        ]
        | inr le ↦ inl (record { reached = omega (arith, most.tally); before = before }, most.count)
      ];
    }

repeat_falls : (at : Address) (max limit : ℕ) → Falls (q_repeat_next at max limit) (λ qs. limit - length qs)
repeat_falls at max limit qs to e =
    let g = (wanted_goes_on at to max limit qs e).0 in
    let parts = length-append qs (false ∷ []) in
    omega (arith, g.room)

pub q_repeat_gives : RepeatTestGivesQRepeat
q_repeat_gives at max limit =
    gives (q_repeat_next at max limit) (IsQRepeatList at max limit) (λ qs. limit - length qs) (repeat_falls at max limit)
    (λ cycles. (to_end at max limit cycles, from_end at max limit cycles))
