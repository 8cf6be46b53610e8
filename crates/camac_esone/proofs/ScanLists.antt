-- The test of the scan gives the lists of Scan.
use Rattle.std.proofs.Common.{◌≡◌, ℕ, ◌+◌, ◌-◌, ◌<◌, ◌≤◌, Bool, true, false, List, [], ◌∷◌, ◌++◌, refl, sym, ap, ◌∙◌, subst, arith, Some, None, inl, inr, append_assoc}
use Rattle.std.specs.Prelude.{◌&&◌, nat_eq, nat_lt, nat_le}
use Rattle.std.proofs.lemmas.Bool.{and_parts, lt-ltb, ltb-true, eqb-true, or_cases, cases_lt, cases_Bool, cond_both}
use Rattle.camac_branch.specs.Address.{Address}
use Rattle.camac_esone.specs.Transfers.{tally, next_station, successor, address_after, is_by, scan_next}
use Rattle.camac_esone.specs.Lists.{Cycle, replies, EachCycle, next_after, IsScanList}
use Rattle.camac_esone.specs.Laws.{IsDriven, IsDrivenToEnd, ScanTestGivesScan}
use Rattle.camac_esone.proofs.Parts.{replies-append, ending_of, empty_or_ending, tally-append, tally_more, when_true, was_true}
use Rattle.camac_esone.proofs.Drives.{Falls, asks, gives}

-- another cycle is wanted
pub record GoesOn (first last : Address) (max : ℕ) (qs : List Bool) : Type 0 where
  pub fewer : tally qs < max
  pub by : is_by last (address_after first qs) ≡ true

go_on_wanted : (first last : Address) (max : ℕ) (qs : List Bool) → GoesOn first last max qs → scan_next first last max qs ≡ Some (address_after first qs)
go_on_wanted first last max qs g =
    when_true (nat_lt (tally qs) max && is_by last (address_after first qs)) (address_after first qs)
    (ap (λ b. b && is_by last (address_after first qs)) (lt-ltb (tally qs) max g.fewer) ∙ g.by)

pub wanted_goes_on : (first last to : Address) (max : ℕ) (qs : List Bool) → scan_next first last max qs ≡ Some to → GoesOn first last max qs × (to ≡ address_after first qs)
wanted_goes_on first last to max qs e =
    let was = was_true (nat_lt (tally qs) max && is_by last (address_after first qs)) (address_after first qs) to e in
    let parts = and_parts (nat_lt (tally qs) max) (is_by last (address_after first qs)) was.0 in
    (record { fewer = ltb-true (tally qs) max parts.0; by = parts.1 }, was.1)

not_wanted : (first last : Address) (max : ℕ) (qs : List Bool) → (GoesOn first last max qs → ⊥) → scan_next first last max qs ≡ None
not_wanted first last max qs never =
    elim (asks (scan_next first last max qs)) [
      | inl e ↦ e
      | inr w ↦ absurd (never (wanted_goes_on first last w.at max qs w.same).0)
    ]

stands_still : (first last : Address) (max : ℕ) (qs : List Bool) → scan_next first last max qs ≡ None → GoesOn first last max qs → ⊥
stands_still first last max qs e g = let some = go_on_wanted first last max qs g in cc

-- each cycle at the successor of the one before, and at the address that the replies before it lead to
abbrev ByCycles : Address → List Cycle → Type 0
ByCycles first cycles = EachCycle (λ before c. c.at ≡ next_after first before) cycles

abbrev ByReplies : Address → List Cycle → Type 0
ByReplies first cycles = EachCycle (λ before c. c.at ≡ address_after first (replies before)) cycles

by_cycles : (first : Address) (cycles : List Cycle) → ByCycles first cycles → next_after first cycles ≡ address_after first (replies cycles)
by_cycles first [] h = refl
by_cycles first (c ∷ cs) h =
    let at : c.at ≡ first = h [] cs c refl in
    by_cycles (successor c.q c.at) cs (λ before after d e. h (c ∷ before) after d (ap (λ l. c ∷ l) e))
    ∙ ap (λ a. address_after (successor c.q a) (replies cs)) at

by_replies : (first : Address) (cycles : List Cycle) → ByReplies first cycles → next_after first cycles ≡ address_after first (replies cycles)
by_replies first [] h = refl
by_replies first (c ∷ cs) h =
    let at : c.at ≡ first = h [] cs c refl in
    by_replies (successor c.q c.at) cs
    (λ before after d e. h (c ∷ before) after d (ap (λ l. c ∷ l) e) ∙ ap (λ a. address_after (successor c.q a) (replies before)) (sym at))
    ∙ ap (λ a. address_after (successor c.q a) (replies cs)) at

prefix : (P : List Cycle → Cycle → Type 0) (cycles xs ys : List Cycle) → xs ++ ys ≡ cycles → EachCycle P cycles → EachCycle P xs
prefix P cycles xs ys same h before after c e =
    h before (after ++ ys) c (sym (append_assoc before (c ∷ after) ys) ∙ ap (λ l. l ++ ys) e ∙ same)

place : (first last : Address) (max : ℕ) (cycles before after : List Cycle) (c : Cycle) → IsScanList first last max cycles → before ++ c ∷ after ≡ cycles → c.at ≡ address_after first (replies before)
place first last max cycles before after c h e =
    h.successors before after c e
    ∙ by_cycles first before (prefix (λ before c. c.at ≡ next_after first before) cycles before (c ∷ after) e h.successors)

fewer : (first last : Address) (max : ℕ) (cycles before after : List Cycle) (c : Cycle) → IsScanList first last max cycles → before ++ c ∷ after ≡ cycles → tally (replies before) < max
fewer first last max cycles before after c h e =
    let end = ending_of c after in
    let whole : (before ++ end.prefix) ++ end.last ∷ [] ≡ cycles
    = append_assoc before end.prefix (end.last ∷ []) ∙ ap (λ l. before ++ l) end.parts ∙ e in
    let less : tally (replies (before ++ end.prefix)) < max = h.before (before ++ end.prefix) end.last whole in
    let parts : tally (replies (before ++ end.prefix)) ≡ tally (replies before) + tally (replies end.prefix)
    = ap tally (replies-append before end.prefix) ∙ tally-append (replies before) (replies end.prefix) in
    omega arith

goes_on_before : (first last : Address) (max : ℕ) (cycles before after : List Cycle) (c : Cycle) → IsScanList first last max cycles → before ++ c ∷ after ≡ cycles → GoesOn first last max (replies before)
goes_on_before first last max cycles before after c h e = record {
  fewer = fewer first last max cycles before after c h e;
  by = subst (λ a. is_by last a ≡ true) (place first last max cycles before after c h e) (h.not_past before after c e);
}

stops : (first last : Address) (max : ℕ) (cycles : List Cycle) → IsScanList first last max cycles → GoesOn first last max (replies cycles) → ⊥
stops first last max cycles h g =
    elim (h.whole) [
      | inl reached ↦ omega (arith, g.fewer)
      | inr past ↦ let same = by_cycles first cycles h.successors in
          let by = g.by in
          let at = ap (is_by last) same in cc
    ]

to_end : (first last : Address) (max : ℕ) (cycles : List Cycle) → IsScanList first last max cycles → IsDrivenToEnd (scan_next first last max) cycles
to_end first last max cycles h = record {
  driven = λ before after c e.
      go_on_wanted first last max (replies before) (goes_on_before first last max cycles before after c h e)
      ∙ ap Some (sym (place first last max cycles before after c h e));
  ended = not_wanted first last max (replies cycles) (stops first last max cycles h);
}

successor_crate : (q : Bool) (at : Address) → (successor q at).crate_no ≡ at.crate_no
successor_crate true at =
    cond_both (nat_lt at.sub_address 15) (record at { sub_address = at.sub_address + 1 }) (next_station at) (λ a. a.crate_no ≡ at.crate_no)
    (λ e. refl) (λ e. refl)
successor_crate false at = refl

same_crate : (first : Address) (qs : List Bool) → (address_after first qs).crate_no ≡ first.crate_no
same_crate first [] = refl
same_crate first (q ∷ qs) = same_crate (successor q first) qs ∙ successor_crate q first

pub one_more : (first : Address) (qs : List Bool) (q : Bool) → address_after first (qs ++ q ∷ []) ≡ successor q (address_after first qs)
one_more first [] q = refl
one_more first (p ∷ qs) q = one_more (successor p first) qs q

-- no more words than asked for
pub up_to : (first last : Address) (max : ℕ) (cycles : List Cycle) → IsDriven (scan_next first last max) cycles → tally (replies cycles) ≤ max
up_to first last max cycles h =
    elim (empty_or_ending cycles) [
      | inl e ↦ subst (λ l. tally (replies l) ≤ max) (sym e) (omega arith)
      | inr end ↦ let g = (wanted_goes_on first last end.last.at max (replies end.prefix) (h end.prefix [] end.last end.parts)).0 in
          let more = tally_more (replies end.prefix) end.last.q in
          let words : tally (replies (end.prefix ++ end.last ∷ [])) ≤ max
          = subst (λ l. tally l ≤ max) (sym (replies-append end.prefix (end.last ∷ []))) (omega (arith, g.fewer)) in
          subst (λ l. tally (replies l) ≤ max) end.parts words
    ]

driven_by_replies : (first last : Address) (max : ℕ) (cycles : List Cycle) → IsDriven (scan_next first last max) cycles → ByReplies first cycles
driven_by_replies first last max cycles h before after c e = (wanted_goes_on first last c.at max (replies before) (h before after c e)).1

from_end : (first last : Address) (max : ℕ) (cycles : List Cycle) → IsDrivenToEnd (scan_next first last max) cycles → IsScanList first last max cycles
from_end first last max cycles h =
    let at = driven_by_replies first last max cycles h.driven in
    let most = up_to first last max cycles h.driven in
    record {
      one_crate = λ before after c e. ap (λ a. a.crate_no) (at before after c e) ∙ same_crate first (replies before);
      successors = λ before after c e. at before after c e
          ∙ sym (by_replies first before (prefix (λ before c. c.at ≡ address_after first (replies before)) cycles before (c ∷ after) e at));
      not_past = λ before after c e.
          subst (λ a. is_by last a ≡ true) (sym (at before after c e))
          (wanted_goes_on first last c.at max (replies before) (h.driven before after c e)).0.by;
      before = λ before c e. (wanted_goes_on first last c.at max (replies before) (h.driven before [] c e)).0.fewer;
      whole = elim (cases_lt (tally (replies cycles)) max) [
        | inl lt ↦ elim (cases_Bool (is_by last (address_after first (replies cycles)))) [
          | inl by ↦ absurd (stands_still first last max (replies cycles) h.ended (record { fewer = lt; by = by }))
          | inr past ↦ inr (ap (is_by last) (by_replies first cycles at) ∙ past)
        ]
        | inr le ↦ inl (omega arith)
      ];
    }

pub by_station : (last at : Address) → is_by last at ≡ true → at.station ≤ last.station
by_station last at e =
    elim (or_cases (nat_lt at.station last.station) (nat_eq at.station last.station && nat_le at.sub_address last.sub_address) e) [
      | inl t ↦ let lt = ltb-true at.station last.station t in omega arith
      | inr f ↦ let same = eqb-true at.station last.station (and_parts (nat_eq at.station last.station) (nat_le at.sub_address last.sub_address) f).0 in
          omega arith
    ]

-- the stations that are left
abbrev stations_left : Address → Address → List Bool → ℕ
stations_left first last qs = last.station + 1 - (address_after first qs).station

scan_falls : (first last : Address) (max : ℕ) → Falls (scan_next first last max) (stations_left first last)
scan_falls first last max qs to e =
    let g = (wanted_goes_on first last to max qs e).0 in
    let le = by_station last (address_after first qs) g.by in
    let more : (address_after first (qs ++ false ∷ [])).station ≡ (address_after first qs).station + 1
    = ap (λ a. a.station) (one_more first qs false) in
    omega arith

pub scan_gives : ScanTestGivesScan
scan_gives first last max =
    gives (scan_next first last max) (IsScanList first last max) (stations_left first last) (scan_falls first last max)
    (λ cycles. (to_end first last max cycles, from_end first last max cycles))
