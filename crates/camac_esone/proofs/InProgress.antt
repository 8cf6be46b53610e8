-- Transfers in progress: the cycles that they asked for, and how many there are at most.
use Rattle.std.proofs.Common.{◌≡◌, ℕ, ◌+◌, ◌-◌, ◌*◌, ◌<◌, ◌≤◌, Bool, true, false, List, [], ◌∷◌, ◌++◌, length, refl, sym, ap, subst, arith, Some, inl, inr, append_assoc, ◌∙◌, Option, None}
use Rattle.std.proofs.lemmas.Bool.{and_parts, or_cases, ltb-true, leb-true, eqb-true, cond_both}
use Rattle.std.proofs.lemmas.List.{append-nil, length-append}
use Rattle.std.specs.Prelude.{min, nat_lt, nat_eq, nat_le, ◌&&◌}
use Rattle.camac_branch.specs.Address.{Address}
use Rattle.camac_esone.specs.Transfers.{NextAddress, tally, next_station, successor, address_after, is_by, q_stop_next, scan_next, q_repeat_next}
use Rattle.camac_esone.specs.Lists.{Cycle, replies}
use Rattle.camac_esone.specs.Laws.{IsDriven, GivesExactly}
use Rattle.camac_esone.specs.Bounds.{place, addresses, QStopIsBounded, QRepeatIsBounded, ScanIsBounded, ScanIsWithinAddresses}
use Rattle.camac_esone.specs.Progress.{Left, Continues, StandsAt, with_cycle, AddsCycle, LeadsOn}
use Rattle.camac_esone.specs.InProgress.{LeadsAlongQStop, LeadsAlongQRepeat, LeadsAlongScan}
use Rattle.camac_esone.proofs.Parts.{replies-append, length-replies, tally-append, tally_most, each_more, each_none}
use Rattle.camac_esone.proofs.QStopLists as stop
use Rattle.camac_esone.proofs.QStopLists.{q_stop_gives}
use Rattle.camac_esone.proofs.QRepeatLists as repeat
use Rattle.camac_esone.proofs.QRepeatLists.{q_repeat_gives}
use Rattle.camac_esone.proofs.ScanLists as scan
use Rattle.camac_esone.proofs.ScanLists.{scan_gives}
use Rattle.camac_esone.proofs.Drives.{asks, is_some}

-- How many cycles a transfer makes at most: a number that falls with each of them.

-- a number falls with each reply that was wanted
abbrev pub FallsAlways : NextAddress → (List Bool → ℕ) → Type 0
FallsAlways next_address left = (qs : List Bool) (q : Bool) (at : Address) → next_address qs ≡ Some at → left (qs ++ q ∷ []) < left qs

-- So many cycles, and what is left after them, are no more than what was left before.
bounded_from : (next_address : NextAddress) (left : List Bool → ℕ) → FallsAlways next_address left → (rest before : List Cycle) → IsDriven next_address (before ++ rest) → length rest + left (replies (before ++ rest)) ≤ left (replies before)
bounded_from next_address left falls [] before h = subst (λ l. 0 + left (replies l) ≤ left (replies before)) (sym (append-nil before)) (omega arith)
bounded_from next_address left falls (c ∷ rest) before h =
    let same : (before ++ c ∷ []) ++ rest ≡ before ++ c ∷ rest = append_assoc before (c ∷ []) rest in
    let fell = falls (replies before) c.q c.at (h before rest c refl) in
    let qs : replies (before ++ c ∷ []) ≡ replies before ++ c.q ∷ [] = replies-append before (c ∷ []) in
    let less : left (replies (before ++ c ∷ [])) < left (replies before) = subst (λ l. left l < left (replies before)) (sym qs) fell in
    let others = bounded_from next_address left falls rest (before ++ c ∷ []) (subst (IsDriven next_address) (sym same) h) in
    let moved : length rest + left (replies (before ++ c ∷ rest)) ≤ left (replies (before ++ c ∷ []))
    = subst (λ l. length rest + left (replies l) ≤ left (replies (before ++ c ∷ []))) same others in
    omega arith

pub bounded : (next_address : NextAddress) (left : List Bool → ℕ) → FallsAlways next_address left → (cycles : List Cycle) → IsDriven next_address cycles → length cycles ≤ left []
bounded next_address left falls cycles h = let all = bounded_from next_address left falls cycles [] h in omega arith

pub stop_left_falls : (at : Address) (max : ℕ) → FallsAlways (q_stop_next at max) (λ qs. max - length qs)
stop_left_falls at max qs q to e =
    let g = (stop.wanted_goes_on at to max qs e).0 in
    let parts = length-append qs (q ∷ []) in
    omega (arith, g.less)

pub q_stop_bounded : QStopIsBounded
unfolding QStopIsBounded
q_stop_bounded at max cycles h =
    let count = bounded (q_stop_next at max) (λ qs. max - length qs) (stop_left_falls at max) cycles h in
    let words = tally_most (replies cycles) in
    let same = length-replies cycles in
    record { count = omega arith; tally = omega arith }

pub q_repeat_bounded : QRepeatIsBounded
unfolding QRepeatIsBounded
q_repeat_bounded = repeat.up_to

-- after Q=1 the station is the same or the next
same_or_next : (at : Address) → at.station ≤ (successor true at).station
same_or_next at =
    cond_both (nat_lt at.sub_address 15) (record at { sub_address = at.sub_address + 1 }) (next_station at) (λ a. at.station ≤ a.station)
    (λ e. omega arith) (λ e. omega arith)

-- replies of Q=1 and stations that are left
abbrev pub scan_left : Address → Address → ℕ → List Bool → ℕ
scan_left first last max qs = (max - tally qs) + (last.station + 1 - (address_after first qs).station)

pub scan_left_falls : (first last : Address) (max : ℕ) → FallsAlways (scan_next first last max) (scan_left first last max)
scan_left_falls first last max qs true to e =
    let g = (scan.wanted_goes_on first last to max qs e).0 in
    let words : tally (qs ++ true ∷ []) ≡ tally qs + 1 = tally-append qs (true ∷ []) in
    let next : (address_after first (qs ++ true ∷ [])).station ≡ (successor true (address_after first qs)).station
    = ap (λ a. a.station) (scan.one_more first qs true) in
    let more = same_or_next (address_after first qs) in
    omega (arith, g.fewer)
scan_left_falls first last max qs false to e =
    let g = (scan.wanted_goes_on first last to max qs e).0 in
    let words : tally (qs ++ false ∷ []) ≡ tally qs + 0 = tally-append qs (false ∷ []) in
    let next : (address_after first (qs ++ false ∷ [])).station ≡ (address_after first qs).station + 1
    = ap (λ a. a.station) (scan.one_more first qs false) in
    let le = scan.by_station last (address_after first qs) g.by in
    omega arith

pub scan_bounded : ScanIsBounded
unfolding ScanIsBounded
scan_bounded first last max cycles h =
    let count = bounded (scan_next first last max) (scan_left first last max) (scan_left_falls first last max) cycles h in
    record { count = omega arith; tally = scan.up_to first last max cycles h }

-- the next address has a sub-address up to 15 too, and a later place
record IsLater (at next : Address) : Type 0 where
  sub_address : next.sub_address ≤ 15
  later : place at < place next

next_later : (at : Address) → at.sub_address ≤ 15 → IsLater at (next_station at)
next_later at h = record { sub_address = omega arith; later = omega arith }

is_later : (q : Bool) (at : Address) → at.sub_address ≤ 15 → IsLater at (successor q at)
is_later true at h =
    cond_both (nat_lt at.sub_address 15) (record at { sub_address = at.sub_address + 1 }) (next_station at) (IsLater at)
    (λ e. let lt = ltb-true at.sub_address 15 e in record { sub_address = omega arith; later = omega arith })
    (λ e. next_later at h)
is_later false at h = next_later at h

up_to_15 : (first : Address) (qs : List Bool) → first.sub_address ≤ 15 → (address_after first qs).sub_address ≤ 15
up_to_15 first [] h = h
up_to_15 first (q ∷ qs) h = up_to_15 (successor q first) qs (is_later q first h).sub_address

by_place : (last at : Address) → at.sub_address ≤ 15 → is_by last at ≡ true → place at ≤ 16 * last.station + min 15 last.sub_address
by_place last at h e =
    elim (or_cases (nat_lt at.station last.station) (nat_eq at.station last.station && nat_le at.sub_address last.sub_address) e) [
      | inl t ↦ let lt = ltb-true at.station last.station t in omega arith
      | inr f ↦ let parts = and_parts (nat_eq at.station last.station) (nat_le at.sub_address last.sub_address) f in
          let same = eqb-true at.station last.station parts.0 in
          let le = leb-true at.sub_address last.sub_address parts.1 in
          omega arith
    ]

-- the addresses that are left
abbrev pub addresses_left : Address → Address → List Bool → ℕ
addresses_left first last qs = addresses (address_after first qs) last

pub addresses_left_fall : (first last : Address) (max : ℕ) → first.sub_address ≤ 15 → FallsAlways (scan_next first last max) (addresses_left first last)
addresses_left_fall first last max h qs q to e =
    let g = (scan.wanted_goes_on first last to max qs e).0 in
    let sub = up_to_15 first qs h in
    let le = by_place last (address_after first qs) sub g.by in
    let next : place (address_after first (qs ++ q ∷ [])) ≡ place (successor q (address_after first qs)) = ap place (scan.one_more first qs q) in
    let later = (is_later q (address_after first qs) sub).later in
    omega arith

pub scan_within_addresses : ScanIsWithinAddresses
unfolding ScanIsWithinAddresses
scan_within_addresses first last max cycles h driven =
    bounded (scan_next first last max) (addresses_left first last) (addresses_left_fall first last max h) cycles driven

-- Transfers in progress stand at the cycles that they asked for.

-- before the first cycle
pub at_start : (next_address : NextAddress) → StandsAt next_address (record { next_address = next_address; tally = 0 }) []
at_start next_address = record { driven = each_none (λ before c. next_address (replies before) ≡ Some c.at); onward = λ qs. refl; tally = refl }

-- what is wanted here is wanted after these cycles
wanted_here : (next_address : NextAddress) (left : Left) (cycles : List Cycle) → StandsAt next_address left cycles → next_address (replies cycles) ≡ left.next_address []
wanted_here next_address left cycles h = ap next_address (sym (append-nil (replies cycles))) ∙ sym (h.onward [])

driven_more : (next_address : NextAddress) (cycles : List Cycle) (at : Address) (q : Bool) → IsDriven next_address cycles → next_address (replies cycles) ≡ Some at → IsDriven next_address (with_cycle cycles at q)
driven_more next_address cycles at q h e = each_more (λ before c. next_address (replies before) ≡ Some c.at) cycles (record { at = at; q = q }) h e

pub adds_cycle : (old : Left) (q : Bool) (new : Left) → Continues old q new → AddsCycle old q new
adds_cycle old q new k next_address cycles at e h =
    let added : replies (with_cycle cycles at q) ≡ replies cycles ++ q ∷ [] = replies-append cycles (record { at = at; q = q } ∷ []) in
    record {
      driven = driven_more next_address cycles at q h.driven (wanted_here next_address old cycles h ∙ e);
      onward = λ qs. k.next_address qs ∙ h.onward (q ∷ qs)
          ∙ ap next_address (sym (append_assoc (replies cycles) (q ∷ []) qs) ∙ ap (λ l. l ++ qs) (sym added));
      tally = k.tally ∙ ap (λ n. n + tally (q ∷ [])) h.tally ∙ sym (tally-append (replies cycles) (q ∷ [])) ∙ ap tally (sym added);
    }

-- A test that gives exactly some lists leads on along them.
pub leads_on : (next_address : NextAddress) (IsList : List Cycle → Type 0) (left : Left) (cycles : List Cycle) (next : Option Address) → GivesExactly next_address IsList → left.next_address [] ≡ next → StandsAt next_address left cycles → LeadsOn IsList cycles next
leads_on next_address IsList left cycles None g e h = (g.whole cycles).1 (record { driven = h.driven; ended = wanted_here next_address left cycles h ∙ e })
leads_on next_address IsList left cycles (Some at) g e h = λ q.
    let more = with_cycle cycles at q in
    let driven : IsDriven next_address more = driven_more next_address cycles at q h.driven (wanted_here next_address left cycles h ∙ e) in
    elim (asks (next_address (replies more))) [
      | inl none ↦ inl ((g.whole more).1 (record { driven = driven; ended = none }))
      | inr some ↦ inr ((g.cut more).1 (record { driven = driven; goes_on = is_some (next_address (replies more)) some.at some.same }))
    ]

pub leads_along_q_stop : (left : Left) (next : Option Address) → left.next_address [] ≡ next → LeadsAlongQStop left next
leads_along_q_stop left next e at max cycles h = leads_on (q_stop_next at max) _ left cycles next (q_stop_gives at max) e h

pub leads_along_q_repeat : (left : Left) (next : Option Address) → left.next_address [] ≡ next → LeadsAlongQRepeat left next
leads_along_q_repeat left next e at max limit cycles h =
    leads_on (q_repeat_next at max limit) _ left cycles next (q_repeat_gives at max limit) e h

pub leads_along_scan : (left : Left) (next : Option Address) → left.next_address [] ≡ next → LeadsAlongScan left next
leads_along_scan left next e first last max cycles h =
    leads_on (scan_next first last max) _ left cycles next (scan_gives first last max) e h
