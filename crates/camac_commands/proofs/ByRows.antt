-- Rows that tell at least what others tell, and those of a block in their order.
use Rattle.std.proofs.Common.{◌≡◌, ℕ, ◌≤◌, Option, Some, None, Bool, true, false, refl, sym, subst, ◌∙◌, arith, ◌+◌, ◌-◌, zero, suc, List, [], ◌∷◌, ◌++◌, Result, Ok, Err, map, ap}
use Rattle.std.proofs.lemmas.Bool.{and_parts, and_from, leb-true, le-leb, or_left, false≢true}
use Rattle.std.specs.List.{list_any}
use Rattle.std.specs.Prelude.{◌&&◌, ◌||◌, max, min, nat_eq, nat_le, option_map, if◌then◌else◌, drop}
use Rattle.camac_range.specs.Interval.{Interval, interval, IsWithin, hull, only}
use Rattle.camac_lang.specs.declared.word.CrateCall.{CrateCall}
use Rattle.camac_lang.specs.declared.word.CrateCall.TheVariants.{Initialise, Clear, InhibitOn, InhibitOff, TestInhibit, DemandOn, DemandOff, TestDemandOutput, TestDemand}
use Rattle.camac_lang.specs.Tree.{Statement, assign, set_register, single, address_scan, q_stop, q_repeat, put, crate_call, lam_call, choose, choose_else, for_, for_each, while_, locked, call, Expression, Block, done, next, Condition}
use Rattle.camac_lang.specs.declared.spot.Spot.{Spot}
use Rattle.camac_branch.specs.Address.{Address}
use Rattle.camac_esone.specs.Calls.{crate_address, crate_function, lam_function}
use Rattle.camac_rules.specs.Joined.{join_region}
use Rattle.camac_rules.specs.Known.{Region, region, Known, with_range, Facts}
use Rattle.camac_rules.specs.Fault.{Fault}
use Rattle.camac_rules.specs.Costs.{Verdict, unreached}
use Rattle.camac_rules.specs.Cycles.{Context, Around}
use Rattle.camac_rules.specs.Calls.{lam_region}
use Rattle.camac_rules.specs.Expressions.{range_of}
use Rattle.camac_rules.specs.Loops.{with_fixed}
use Rattle.camac_rules.specs.Refusal.{if_reached}
use Rattle.camac_rules.specs.Statements.{accept_statement, accept_block}
use Rattle.camac_rules.proofs.Stores.{InRegion}
use Rattle.camac_check_rows.specs.declared.row.Detail.{Detail}
use Rattle.camac_check_rows.specs.declared.row.Detail.TheVariants as detail
use Rattle.camac_check_rows.specs.Turns.{wider, merge, Turned, turned, turns_over}
use Rattle.camac_check_rows.specs.declared.row.Row.{Row}
use Rattle.camac_check_rows.specs.declared.inside.Weight.{Weight}
use Rattle.camac_check_rows.specs.Rows.{ways, for_turning, while_turning, taken, lock_inside, lock_head, loop_detail, lock_detail, block_verdict, statement_verdict, inside, statement_rows, block_rows, found}
use Rattle.camac_check_rows.specs.Statements.{at_region, known_region, between, in_crates, crate_detail}
use Rattle.camac_commands.specs.Commands.{is_told, lies_in, made_at, span, told_region, called_at, made_alone, detail_told, behind, behind_block}
use Rattle.camac_commands.proofs.Actions.{inside_lies, Listed, listed_more}
use Rattle.camac_model.specs.Fine.{Bounds}
use Rattle.camac_model.specs.State.{State}
use Rattle.camac_model.specs.Behaviour.{Behaviour}
use Rattle.camac_check.proofs.Capped.{in_code, in_rules, cut_all, if_reached_cut, statement_cut, block_cut}
use Rattle.camac_check_costs.specs.Bodies.{rows_if}

-- Details that tell at least what others tell: what two turns tell together is such a one of each.

-- ---- regions

lies_inside : (g : Region) (at : Address) → lies_in g at ≡ true → InRegion g at
lies_inside g at e =
    let one = and_parts (nat_le g.crates.lo at.crate_no && nat_le at.crate_no g.crates.hi) _ e in
    let two = and_parts (nat_le g.stations.lo at.station && nat_le at.station g.stations.hi) _ one.1 in
    record { crate_no = within g.crates at.crate_no one.0; station = within g.stations at.station two.0; sub_address = within g.sub_addresses at.sub_address two.1 }
  where
    within : (i : Interval) (n : ℕ) → (nat_le i.lo n && nat_le n i.hi) ≡ true → IsWithin i n
    within i n e = let both = and_parts (nat_le i.lo n) (nat_le n i.hi) e in record { low = leb-true i.lo n both.0; high = leb-true n i.hi both.1 }

abbrev pub IsAt : Option Region → Address → Type 0
IsAt None at = ⊥
IsAt (Some g) at = InRegion g at

-- each address of the first is one of the second
abbrev pub Grows : Option Region → Option Region → Type 0
Grows o p = (at : Address) → IsAt o at → IsAt p at

told_more : (spot : Spot) (f : ℕ) (o p : Option Region) → Grows o p → (at : Address) (g : ℕ) → list_any (is_told at g) (made_at spot f o) ≡ true → list_any (is_told at g) (made_at spot f p) ≡ true
told_more spot f None p h at g e = absurd (false≢true e)
told_more spot f (Some r) p h at g e =
    let own = and_parts (nat_eq g f) (lies_in r at) (only_one (nat_eq g f && lies_in r at) e) in
    go p (h at (lies_inside r at own.1)) own.0
  where
    only_one : (b : Bool) → (b || false) ≡ true → b ≡ true
    only_one true e = refl
    only_one false e = e

    go : (q : Option Region) → IsAt q at → nat_eq g f ≡ true → list_any (is_told at g) (made_at spot f q) ≡ true
    go None i same = absurd i
    go (Some q) i same = or_left (nat_eq g f && lies_in q at) _ (and_from (nat_eq g f) (lies_in q at) same (inside_lies q at i))

-- ---- details

pub record Below (d e : Detail) : Type 0 where
  pub told : Grows (told_region d) (told_region e)
  pub called : (which : CrateCall) → Grows (called_at which d) (called_at which e)

pub below_same : (d : Detail) → Below d d
below_same d = record { told = λ at i. i; called = λ which at i. i }

pub below_then : (d e f : Detail) → Below d e → Below e f → Below d f
below_then d e f h g = record { told = λ at i. g.told at (h.told at i); called = λ which at i. g.called which at (h.called which at i) }

-- what a command is told of by the first, it is by the second
pub alone_more : (s : Statement) (d e : Detail) → Below d e → (at : Address) (f : ℕ) → list_any (is_told at f) (made_alone s d) ≡ true → list_any (is_told at f) (made_alone s e) ≡ true
alone_more (single spot size f r m) d e h at g t = told_more spot f _ _ h.told at g t
alone_more (address_scan spot f r1 r2 max x) d e h at g t = told_more spot f _ _ h.told at g t
alone_more (q_stop spot f r o max x) d e h at g t = told_more spot f _ _ h.told at g t
alone_more (q_repeat spot f r o max limit x) d e h at g t = told_more spot f _ _ h.told at g t
alone_more (crate_call spot which i) d e h at g t = told_more spot (crate_function which) _ _ (h.called which) at g t
alone_more (lam_call spot which l) d e h at g t = told_more spot (lam_function which) _ _ h.told at g t
alone_more (assign spot x i) d e h at g t = t
alone_more (set_register spot r e1 e2 e3) d e h at g t = t
alone_more (put spot i) d e h at g t = t
alone_more (choose spot test a) d e h at g t = t
alone_more (choose_else spot test a b) d e h at g t = t
alone_more (for_ spot x e1 e2 keeps body) d e h at g t = t
alone_more (for_each spot x v last body) d e h at g t = t
alone_more (while_ spot test most m keeps body) d e h at g t = t
alone_more (locked spot i body) d e h at g t = t
alone_more (call spot p es) d e h at g t = t

-- ---- what rows of one place in the text may tell

pub data Sort : Type 0 where
  register : Sort
  registers : Sort
  crates : Sort
  nothing : Sort

abbrev pub IsOf : Sort → Detail → Type 0
IsOf register (detail.At g) = Unit {0}
IsOf registers (detail.Between g h) = Unit {0}
IsOf crates (detail.Crates r) = Unit {0}
IsOf nothing (detail.Turns n) = Unit {0}
IsOf nothing (detail.Procedure p) = Unit {0}
IsOf sort detail.Nothing = Unit {0}
IsOf sort told = ⊥

-- what two rows of one place tell, each of them tells no more than both together
pub record Together (sort : Sort) (d e : Detail) : Type 0 where
  pub is : IsOf sort (wider d e)
  pub first : Below d (wider d e)
  pub second : Below e (wider d e)

joined : (g h : Region) (at : Address) → (InRegion g at → InRegion (join_region g h) at) × (InRegion h at → InRegion (join_region g h) at)
joined g h at = (
  λ i. record {
    crate_no = record { low = omega (arith, i.crate_no.low); high = omega (arith, i.crate_no.high) };
    station = record { low = omega (arith, i.station.low); high = omega (arith, i.station.high) };
    sub_address = record { low = omega (arith, i.sub_address.low); high = omega (arith, i.sub_address.high) };
  },
  λ i. record {
    crate_no = record { low = omega (arith, i.crate_no.low); high = omega (arith, i.crate_no.high) };
    station = record { low = omega (arith, i.station.low); high = omega (arith, i.station.high) };
    sub_address = record { low = omega (arith, i.sub_address.low); high = omega (arith, i.sub_address.high) };
  },
)

abbrev stations_of : Interval → Bool → (low high : ℕ) → Option Region
stations_of at_crates some low high = option_map (λ stations. region at_crates stations (interval 0 15)) (if some then Some (interval low high) else None)

-- between more registers there are more stations
spanned : (g1 g2 h1 h2 : Region) → Grows (span g1 g2) (span (join_region g1 h1) (join_region g2 h2)) × Grows (span h1 h2) (span (join_region g1 h1) (join_region g2 h2))
spanned g1 g2 h1 h2 = (
  λ at. go g1.crates g1.stations.lo g2.stations.hi at (λ i. record { low = omega (arith, i.low); high = omega (arith, i.high) }) (omega arith) (omega arith) (nat_le g1.stations.lo g2.stations.hi) refl _ refl,
  λ at. go h1.crates h1.stations.lo h2.stations.hi at (λ i. record { low = omega (arith, i.low); high = omega (arith, i.high) }) (omega arith) (omega arith) (nat_le h1.stations.lo h2.stations.hi) refl _ refl,
)
  where
    wide : Interval
    wide = hull g1.crates h1.crates

    low : ℕ
    low = min g1.stations.lo h1.stations.lo

    high : ℕ
    high = max g2.stations.hi h2.stations.hi

    go : (narrow : Interval) (lo hi : ℕ) (at : Address) → (IsWithin narrow at.crate_no → IsWithin wide at.crate_no) → low ≤ lo → hi ≤ high → (b : Bool) → nat_le lo hi ≡ b → (c : Bool) → nat_le low high ≡ c
        → IsAt (stations_of narrow b lo hi) at → IsAt (stations_of wide c low high) at
    go narrow lo hi at more le ge false e c d i = absurd i
    go narrow lo hi at more le ge true e true d i =
        record { crate_no = more i.crate_no; station = record { low = omega (arith, le, i.station.low); high = omega (arith, ge, i.station.high) }; sub_address = i.sub_address }
    go narrow lo hi at more le ge true e false d i =
        let some : lo ≤ hi = leb-true lo hi e in
        absurd (false≢true (sym d ∙ le-leb low high (omega (arith, le, ge, some))))

-- where a crate call goes besides its crate
call_place : (which : CrateCall) (c d : ℕ) → (crate_address which c).station ≡ (crate_address which d).station × (crate_address which c).sub_address ≡ (crate_address which d).sub_address
call_place Initialise c d = (refl, refl)
call_place Clear c d = (refl, refl)
call_place InhibitOn c d = (refl, refl)
call_place InhibitOff c d = (refl, refl)
call_place TestInhibit c d = (refl, refl)
call_place DemandOn c d = (refl, refl)
call_place DemandOff c d = (refl, refl)
call_place TestDemandOutput c d = (refl, refl)
call_place TestDemand c d = (refl, refl)

-- in more crates
called_more : (which : CrateCall) (r s : Interval) (at : Address) → (IsWithin r at.crate_no → IsWithin s at.crate_no) → IsAt (called_at which (detail.Crates r)) at → IsAt (called_at which (detail.Crates s)) at
called_more which r s at more i =
    let place = call_place which r.lo s.lo in
    record {
      crate_no = more i.crate_no;
      station = record { low = omega (arith, place.0, i.station.low); high = omega (arith, place.0, i.station.high) };
      sub_address = record { low = omega (arith, place.1, i.sub_address.low); high = omega (arith, place.1, i.sub_address.high) };
    }

silent : (d e : Detail) → IsOf nothing d → Below d e
silent detail.Nothing e i = record { told = λ at h. absurd h; called = λ which at h. absurd h }
silent (detail.Turns n) e i = record { told = λ at h. absurd h; called = λ which at h. absurd h }
silent (detail.Procedure p) e i = record { told = λ at h. absurd h; called = λ which at h. absurd h }
silent (detail.At g) e i = absurd i
silent (detail.Between g h) e i = absurd i
silent (detail.Crates r) e i = absurd i

none_below : (e : Detail) → Below detail.Nothing e
none_below e = silent detail.Nothing e tt

-- where the second tells nothing
first_alone : (sort : Sort) (d : Detail) → IsOf sort d → wider d detail.Nothing ≡ d → Together sort d detail.Nothing
first_alone sort d i same = record {
  is = subst (IsOf sort) (sym same) i;
  first = subst (Below d) (sym same) (below_same d);
  second = none_below (wider d detail.Nothing);
}

of_registers : (g : Region) (e : Detail) → IsOf register e → Together register (detail.At g) e
of_registers g detail.Nothing j = first_alone register (detail.At g) tt refl
of_registers g (detail.At h) j = record {
  is = tt;
  first = record { told = λ at. (joined g h at).0; called = λ which at k. k };
  second = record { told = λ at. (joined g h at).1; called = λ which at k. k };
}
of_registers g (detail.Between h1 h2) j = absurd j
of_registers g (detail.Turns n) j = absurd j
of_registers g (detail.Crates r) j = absurd j
of_registers g (detail.Procedure p) j = absurd j

of_spans : (g1 g2 : Region) (e : Detail) → IsOf registers e → Together registers (detail.Between g1 g2) e
of_spans g1 g2 detail.Nothing j = first_alone registers (detail.Between g1 g2) tt refl
of_spans g1 g2 (detail.At h) j = absurd j
of_spans g1 g2 (detail.Between h1 h2) j = record {
  is = tt;
  first = record { told = (spanned g1 g2 h1 h2).0; called = λ which at k. k };
  second = record { told = (spanned g1 g2 h1 h2).1; called = λ which at k. k };
}
of_spans g1 g2 (detail.Turns n) j = absurd j
of_spans g1 g2 (detail.Crates r) j = absurd j
of_spans g1 g2 (detail.Procedure p) j = absurd j

of_crates : (r : Interval) (e : Detail) → IsOf crates e → Together crates (detail.Crates r) e
of_crates r detail.Nothing j = first_alone crates (detail.Crates r) tt refl
of_crates r (detail.At h) j = absurd j
of_crates r (detail.Between h1 h2) j = absurd j
of_crates r (detail.Turns n) j = absurd j
of_crates r (detail.Crates s) j = record {
  is = tt;
  first = record { told = λ at k. k; called = λ which at. called_more which r (hull r s) at (λ w. record { low = omega (arith, w.low); high = omega (arith, w.high) }) };
  second = record { told = λ at k. k; called = λ which at. called_more which s (hull r s) at (λ w. record { low = omega (arith, w.low); high = omega (arith, w.high) }) };
}
of_crates r (detail.Procedure p) j = absurd j

of_turns : (m : ℕ) (e : Detail) → IsOf nothing e → IsOf nothing (wider (detail.Turns m) e)
of_turns m detail.Nothing j = tt
of_turns m (detail.At g) j = tt
of_turns m (detail.Between g h) j = tt
of_turns m (detail.Turns n) j = tt
of_turns m (detail.Crates r) j = tt
of_turns m (detail.Procedure p) j = tt

pub both_below : (sort : Sort) (d e : Detail) → IsOf sort d → IsOf sort e → Together sort d e
both_below sort detail.Nothing e i j = record { is = j; first = none_below e; second = below_same e }
both_below register (detail.At g) e i j = of_registers g e j
both_below registers (detail.Between g1 g2) e i j = of_spans g1 g2 e j
both_below crates (detail.Crates r) e i j = of_crates r e j
both_below nothing (detail.Turns m) e i j = record { is = of_turns m e j; first = silent (detail.Turns m) _ tt; second = silent e _ j }
both_below nothing (detail.Procedure p) e i j = record { is = tt; first = silent (detail.Procedure p) _ tt; second = silent e _ j }
both_below sort d e i j = absurd i

-- The rows of a block tell of its statements in their order, whatever is known: as many rows, of the same sorts.

-- of each row of a statement or block
abbrev mutual
  pub sorts : Statement → List Sort
  sorts (single spot size f r move) = register ∷ []
  sorts (address_scan spot f r1 r2 max x) = registers ∷ []
  sorts (q_stop spot f r t max x) = register ∷ []
  sorts (q_repeat spot f r t max limit x) = register ∷ []
  sorts (crate_call spot which e) = crates ∷ []
  sorts (lam_call spot which l) = register ∷ []
  sorts (choose spot test a) = nothing ∷ block_sorts a
  sorts (choose_else spot test a b) = nothing ∷ block_sorts a ++ nothing ∷ block_sorts b
  sorts (for_ spot x e1 e2 keeps body) = nothing ∷ block_sorts body
  sorts (for_each spot x v last body) = nothing ∷ block_sorts body
  sorts (while_ spot test most m keeps body) = nothing ∷ block_sorts body
  sorts (locked spot e body) = crates ∷ block_sorts body
  sorts s = nothing ∷ []

  pub block_sorts : Block → List Sort
  block_sorts done = []
  block_sorts (next s rest) = sorts s ++ block_sorts rest

abbrev pub AreOf : List Sort → List Row → Type 0
AreOf [] [] = Unit {0}
AreOf [] (r ∷ rs) = ⊥
AreOf (t ∷ ts) [] = ⊥
AreOf (t ∷ ts) (r ∷ rs) = IsOf t r.detail × AreOf ts rs

both_of : (ts us : List Sort) (rs ss : List Row) → AreOf ts rs → AreOf us ss → AreOf (ts ++ us) (rs ++ ss)
both_of [] us [] ss h g = g
both_of [] us (r ∷ rs) ss h g = absurd h
both_of (t ∷ ts) us [] ss h g = absurd h
both_of (t ∷ ts) us (r ∷ rs) ss h g = (h.0, both_of ts us rs ss h.1 g)

-- so with each of them changed, but not its detail
inside_of : (ts : List Sort) (c : Context) (w : Weight) (rs : List Row) → AreOf ts rs → AreOf ts (inside c w rs)
inside_of [] c w [] h = tt
inside_of [] c w (r ∷ rs) h = absurd h
inside_of (t ∷ ts) c w [] h = absurd h
inside_of (t ∷ ts) c w (r ∷ rs) h = (h.0, inside_of ts c w rs h.1)

-- ---- turns

pub merge_of : (ts : List Sort) (limit : Bounds → Bounds) (rs ss : List Row) → AreOf ts rs → AreOf ts ss → AreOf ts (merge limit rs ss)
merge_of ts limit [] ss h g = g
merge_of ts limit (r ∷ rs) [] h g = h
merge_of [] limit (r ∷ rs) (s ∷ ss) h g = absurd h
merge_of (t ∷ ts) limit (r ∷ rs) (s ∷ ss) h g = ((both_below t r.detail s.detail h.0 g.0).is, merge_of ts limit rs ss h.1 g.1)

turns_of : (ts : List Sort) (limit : Bounds → Bounds) (n x v : ℕ) (judge : Known → Verdict) (rows : Known → List Row) (k : Known) (so_far : Turned)
    → ((q : Known) → AreOf ts (rows q)) → AreOf ts so_far.rows → AreOf ts (turns_over limit n x v judge rows k so_far).rows
turns_of ts limit zero x v judge rows k so_far h g = g
turns_of ts limit (suc n) x v judge rows None so_far h g = g
turns_of ts limit (suc n) x v judge rows (Some q) so_far h g =
    let k : Known = Some (with_range x (only v) q) in
    turns_of ts limit n x (v + 1) judge rows (judge k).after (turned (1 + so_far.turns) (merge limit so_far.rows (rows k))) h (merge_of ts limit so_far.rows (rows k) g (h k))

-- ---- statements and blocks

at_of : (o : Option Region) → IsOf register (at_region o)
at_of None = tt
at_of (Some g) = tt

between_of : (o p : Option Region) → IsOf registers (between o p)
between_of None p = tt
between_of (Some g) None = tt
between_of (Some g) (Some h) = tt

crates_of : (spot : Spot) (e : Expression) (k : Known) → IsOf crates (crate_detail spot e k)
crates_of spot e None = tt
crates_of spot e (Some k) = go (range_of spot e k.ranges)
  where
    go : (r : Result Interval Fault) → IsOf crates (in_crates r)
    go (Ok r) = tt
    go (Err f) = tt

loop_of : (k : Known) (turns : ℕ) → IsOf nothing (loop_detail k turns)
loop_of None turns = tt
loop_of (Some k) turns = tt

lock_of : (o : Option ℕ) → IsOf crates (lock_detail o)
lock_of None = tt
lock_of (Some n) = tt

mutual
  pub statement_sorted : (c : Context) (around : Around) (s : Statement) (k : Known) → AreOf (sorts s) (statement_rows c around s k)
  statement_sorted c around (assign spot x e) k = (tt, tt)
  statement_sorted c around (set_register spot r e1 e2 e3) k = (tt, tt)
  statement_sorted c around (single spot size f r move) k = (at_of (known_region k r), tt)
  statement_sorted c around (address_scan spot f r1 r2 max x) k = (between_of (known_region k r1) (known_region k r2), tt)
  statement_sorted c around (q_stop spot f r t max x) k = (at_of (known_region k r), tt)
  statement_sorted c around (q_repeat spot f r t max limit x) k = (at_of (known_region k r), tt)
  statement_sorted c around (put spot e) k = (tt, tt)
  statement_sorted c around (crate_call spot which e) k = (crates_of spot e k, tt)
  statement_sorted c around (lam_call spot which l) k = (at_of (lam_region c l), tt)
  statement_sorted c around (call spot p es) k = (tt, tt)
  statement_sorted c around (choose spot test a) k = (tt, inside_of (block_sorts a) c _ _ (block_sorted c around a (ways spot test k).holds))
  statement_sorted c around (choose_else spot test a b) k =
      let arms = ways spot test k in (
        tt,
        both_of (block_sorts a) _ (inside c _ (block_rows c around a arms.holds)) _ (inside_of (block_sorts a) c _ _ (block_sorted c around a arms.holds))
            (tt, inside_of (block_sorts b) c _ _ (block_sorted c around b arms.fails)),
      )
  statement_sorted c around (for_ spot x e1 e2 keeps body) k =
      let turn = for_turning around spot x e1 e2 keeps body k in
      (loop_of k turn.turns, inside_of (block_sorts body) c _ _ (block_sorted c (with_fixed x around) body turn.head))
  statement_sorted c around (for_each spot x v last body) k =
      let within : Around = with_fixed x around in (
        loop_of k _,
        inside_of (block_sorts body) c _ _
            (turns_of (block_sorts body) c.limit (last + 1 - v) x v (block_verdict c within body) (block_rows c within body) k (turned 0 (block_rows c within body None)) (λ q. block_sorted c within body q) (block_sorted c within body None)),
      )
  statement_sorted c around (while_ spot test most m keeps body) k =
      let turn = while_turning around spot test most m keeps body k in
      (loop_of k turn.turns, inside_of (block_sorts body) c _ _ (block_sorted c around body turn.head))
  statement_sorted c around (locked spot e body) k =
      let o = taken c around spot e k in
      (lock_of o, inside_of (block_sorts body) c _ _ (block_sorted c (lock_inside o around) body (lock_head o k)))

  pub block_sorted : (c : Context) (around : Around) (b : Block) (k : Known) → AreOf (block_sorts b) (block_rows c around b k)
  block_sorted c around done k = tt
  block_sorted c around (next s rest) k =
      both_of (sorts s) (block_sorts rest) (statement_rows c around s k) _ (statement_sorted c around s k) (block_sorted c around rest (statement_verdict c around s k).after)

-- Rows that tell at least what those of a block do: such are the rows of an `each`, of those of each turn.

-- ---- rows that begin with such as tell what others do, and those behind them

unfoldable pub Over : (rows others behind : List Row) → Type 0
Over rows [] rest = rows ≡ rest
Over [] (x ∷ xs) rest = ⊥
Over (r ∷ rows) (x ∷ xs) rest = Below x.detail r.detail × Over rows xs rest

over_all : (rows : List Row) → Over rows rows []
unfolding Over
over_all [] = refl
over_all (r ∷ rows) = (below_same r.detail, over_all rows)

-- also where each of these others is changed, but not its detail
over_inside : (change : Row → Row) (rows xs rest : List Row) → Over rows (map change xs) rest → ((r : Row) → (change r).detail ≡ r.detail) → Over rows xs rest
unfolding Over
over_inside change rows [] rest h same = h
over_inside change [] (x ∷ xs) rest h same = absurd h
over_inside change (r ∷ rows) (x ∷ xs) rest h same = (subst (λ d. Below d r.detail) (same x) h.0, over_inside change rows xs rest h.1 same)

over_both : (rows xs ys rest : List Row) → Over rows (xs ++ ys) rest → (middle : List Row) × Over rows xs middle × Over middle ys rest
unfolding Over
over_both rows [] ys rest h = (rows, refl, h)
over_both [] (x ∷ xs) ys rest h = absurd h
over_both (r ∷ rows) (x ∷ xs) ys rest h =
    let (middle, first, second) = over_both rows xs ys rest h.1 in
    (middle, (h.0, first), second)

over_none : (rows rest : List Row) → Over rows [] rest → rows ≡ rest
unfolding Over
over_none rows rest h = h

-- the first row alone, and those behind it
first_below : (own : Row) (rows xs rest : List Row) → Over rows (own ∷ xs) rest → Below own.detail (detail_told rows)
unfolding Over
first_below own [] xs rest h = absurd h
first_below own (r ∷ rows) xs rest h = h.0

behind_first : (own : Row) (rows xs rest : List Row) → Over rows (own ∷ xs) rest → Over (drop 1 rows) xs rest
unfolding Over
behind_first own [] xs rest h = absurd h
behind_first own (r ∷ rows) xs rest h = h.1

-- those of a block behind the row of its statement
pub over_block : (change : Row → Row) (own : Row) (rows xs rest : List Row) → Over rows (own ∷ map change xs) rest → ((r : Row) → (change r).detail ≡ r.detail) → Over (drop 1 rows) xs rest
over_block change own rows xs rest h same = over_inside change (drop 1 rows) xs rest (behind_first own rows (map change xs) rest h) same

-- what makes only what its own row tells
pub listed_over : (s : Statement) (own : Row) (rows rest : List Row) → Over rows (own ∷ []) rest → (b : Behaviour State) → Listed (made_alone s own.detail) b → Listed (made_alone s (detail_told rows)) b
listed_over s own rows rest h b l = listed_more _ _ (λ at f e. alone_more s own.detail (detail_told rows) (first_below own rows [] rest h) at f e) b l

-- ---- the rows of several turns, over those of each of them

over_merged : (ts : List Sort) (limit : Bounds → Bounds) (rows xs ys rest : List Row) → AreOf ts xs → AreOf ts ys → Over rows (merge limit xs ys) rest → Over rows xs rest × Over rows ys rest
unfolding Over
over_merged [] limit rows [] [] rest i j h = (h, h)
over_merged [] limit rows [] (y ∷ ys) rest i j h = absurd j
over_merged [] limit rows (x ∷ xs) ys rest i j h = absurd i
over_merged (t ∷ ts) limit rows [] ys rest i j h = absurd i
over_merged (t ∷ ts) limit rows (x ∷ xs) [] rest i j h = absurd j
over_merged (t ∷ ts) limit [] (x ∷ xs) (y ∷ ys) rest i j h = absurd h
over_merged (t ∷ ts) limit (r ∷ rows) (x ∷ xs) (y ∷ ys) rest i j h =
    let both = both_below t x.detail y.detail i.0 j.0 in
    let others = over_merged ts limit rows xs ys rest i.1 j.1 h.1 in (
      (below_then _ _ r.detail both.first h.0, others.0),
      (below_then _ _ r.detail both.second h.0, others.1),
    )

module _ (c : Context) (around : Around) (b : Block) (limit : Bounds → Bounds) where
  abbrev rows_at : Known → List Row
  rows_at k = block_rows c around b k

  -- those so far
  over_so_far : (n x v : ℕ) (judge : Known → Verdict) (k : Known) (so_far : Turned) (rows rest : List Row) → AreOf (block_sorts b) so_far.rows
      → Over rows (turns_over limit n x v judge rows_at k so_far).rows rest → Over rows so_far.rows rest
  over_so_far zero x v judge k so_far rows rest i h = h
  over_so_far (suc n) x v judge None so_far rows rest i h = h
  over_so_far (suc n) x v judge (Some q) so_far rows rest i h =
      let k : Known = Some (with_range x (only v) q) in
      let here : List Row = rows_at k in
      let is : AreOf (block_sorts b) here = block_sorted c around b k in
      (over_merged (block_sorts b) limit rows so_far.rows here rest i is
      (over_so_far n x (v + 1) judge (judge k).after (turned (1 + so_far.turns) (merge limit so_far.rows here)) rows rest (merge_of (block_sorts b) limit so_far.rows here i is) h)).0

  -- those of the next turn
  pub over_turn : (n x v : ℕ) (judge : Known → Verdict) (q : Facts) (so_far : Turned) (rows rest : List Row) → AreOf (block_sorts b) so_far.rows
      → Over rows (turns_over limit (suc n) x v judge rows_at (Some q) so_far).rows rest → Over rows (rows_at (Some (with_range x (only v) q))) rest
  over_turn n x v judge q so_far rows rest i h =
      let k : Known = Some (with_range x (only v) q) in
      let here : List Row = rows_at k in
      let is : AreOf (block_sorts b) here = block_sorted c around b k in
      (over_merged (block_sorts b) limit rows so_far.rows here rest i is
      (over_so_far n x (v + 1) judge (judge k).after (turned (1 + so_far.turns) (merge limit so_far.rows here)) rows rest (merge_of (block_sorts b) limit so_far.rows here i is) h)).1

-- ---- the rows behind a statement or block

module _ (c : Context) where
  mutual
    statement_behind : (around : Around) (s : Statement) (k : Known) (rows rest : List Row) → Over rows (statement_rows c around s k) rest → behind s rows ≡ rest
    statement_behind around (choose spot test a) k rows rest h = block_behind around a (ways spot test k).holds (drop 1 rows) rest (over_block _ _ rows _ rest h (λ _. refl))
    statement_behind around (choose_else spot test a b) k rows rest h =
        let arms = ways spot test k in
        let (middle, first, second) = over_both (drop 1 rows) (inside c _ (block_rows c around a arms.holds)) _ rest (behind_first _ rows _ rest h) in
        let one = block_behind around a arms.holds (drop 1 rows) middle (over_inside _ (drop 1 rows) _ middle first (λ _. refl)) in
        ap (λ m. behind_block b (drop 1 m)) one ∙ block_behind around b arms.fails (drop 1 middle) rest (over_block _ _ middle _ rest second (λ _. refl))
    statement_behind around (for_ spot x e1 e2 keeps body) k rows rest h =
        block_behind (with_fixed x around) body (for_turning around spot x e1 e2 keeps body k).head (drop 1 rows) rest (over_block _ _ rows _ rest h (λ _. refl))
    statement_behind around (for_each spot x v last body) k rows rest h =
        let within : Around = with_fixed x around in
        block_behind within body None (drop 1 rows) rest
        (over_so_far c within body c.limit _ x v (block_verdict c within body) k (turned 0 (block_rows c within body None)) (drop 1 rows) rest (block_sorted c within body None) (over_block _ _ rows _ rest h (λ _. refl)))
    statement_behind around (while_ spot test most m keeps body) k rows rest h =
        block_behind around body (while_turning around spot test most m keeps body k).head (drop 1 rows) rest (over_block _ _ rows _ rest h (λ _. refl))
    statement_behind around (locked spot e body) k rows rest h =
        let o = taken c around spot e k in
        block_behind (lock_inside o around) body (lock_head o k) (drop 1 rows) rest (over_block _ _ rows _ rest h (λ _. refl))
    statement_behind around (assign spot x e) k rows rest h = over_none _ rest (behind_first _ rows [] rest h)
    statement_behind around (set_register spot r e1 e2 e3) k rows rest h = over_none _ rest (behind_first _ rows [] rest h)
    statement_behind around (single spot size f r move) k rows rest h = over_none _ rest (behind_first _ rows [] rest h)
    statement_behind around (address_scan spot f r1 r2 max x) k rows rest h = over_none _ rest (behind_first _ rows [] rest h)
    statement_behind around (q_stop spot f r t max x) k rows rest h = over_none _ rest (behind_first _ rows [] rest h)
    statement_behind around (q_repeat spot f r t max limit x) k rows rest h = over_none _ rest (behind_first _ rows [] rest h)
    statement_behind around (put spot e) k rows rest h = over_none _ rest (behind_first _ rows [] rest h)
    statement_behind around (crate_call spot which e) k rows rest h = over_none _ rest (behind_first _ rows [] rest h)
    statement_behind around (lam_call spot which l) k rows rest h = over_none _ rest (behind_first _ rows [] rest h)
    statement_behind around (call spot p es) k rows rest h = over_none _ rest (behind_first _ rows [] rest h)

    block_behind : (around : Around) (b : Block) (k : Known) (rows rest : List Row) → Over rows (block_rows c around b k) rest → behind_block b rows ≡ rest
    block_behind around done k rows rest h = over_none rows rest h
    block_behind around (next s others) k rows rest h =
        let after : Known = (statement_verdict c around s k).after in
        let (middle, first, second) = over_both rows (statement_rows c around s k) (block_rows c around others after) rest h in
        ap (behind_block others) (statement_behind around s k rows middle first) ∙ block_behind around others after middle rest second

-- ---- the rows of the checker's code, where the rules accept

after_statement : (c : Context) (around : Around) (s : Statement) (k : Facts) (v : Verdict) → accept_statement (in_rules c) around s k ≡ Ok v → (statement_verdict (in_code c) around s (Some k)).after ≡ v.after
unfolding if_reached
after_statement c around s k v is = ap (λ q. (found unreached q).after) (statement_cut c around s k ∙ ap cut_all is)

pub after_block : (c : Context) (around : Around) (b : Block) (k : Facts) (v : Verdict) → accept_block (in_rules c) around b k ≡ Ok v → (block_verdict (in_code c) around b (Some k)).after ≡ v.after
unfolding if_reached
after_block c around b k v is = ap (λ q. (found unreached q).after) (block_cut c around b k ∙ ap cut_all is)

-- one statement and then the others, at what it leaves
pub over_next : (c : Context) (around : Around) (s : Statement) (others : Block) (k : Facts) (v : Verdict) → accept_statement (in_rules c) around s k ≡ Ok v
    → (rows rest : List Row) → Over rows (block_rows (in_code c) around (next s others) (Some k)) rest → Over rows (statement_rows (in_code c) around s (Some k)) (behind s rows) × Over (behind s rows) (block_rows (in_code c) around others v.after) rest
over_next c around s others k v is rows rest h =
    let code : Context = in_code c in
    let own : List Row = statement_rows code around s (Some k) in
    let after : Known = (statement_verdict code around s (Some k)).after in
    let (middle, first, second) = over_both rows own (block_rows code around others after) rest h in
    subst (λ m. Over rows own m × Over m (block_rows code around others v.after) rest) (sym (statement_behind code around s (Some k) rows middle first))
    (first, subst (λ w. Over middle (block_rows code around others w) rest) (after_statement c around s k v is) second)

-- the two arms of a choice
pub over_arms : (c : Context) (around : Around) (spot : Spot) (test : Condition) (a b : Block) (k : Known) (rows rest : List Row) → Over rows (statement_rows c around (choose_else spot test a b) k) rest
    → Over (drop 1 rows) (block_rows c around a (ways spot test k).holds) (behind_block a (drop 1 rows)) × Over (drop 1 (behind_block a (drop 1 rows))) (block_rows c around b (ways spot test k).fails) rest
over_arms c around spot test a b k rows rest h =
    let arms = ways spot test k in
    let (middle, first, second) = over_both (drop 1 rows) (inside c _ (block_rows c around a arms.holds)) _ rest (behind_first _ rows _ rest h) in
    let one = over_inside _ (drop 1 rows) _ middle first (λ _. refl) in
    subst (λ m. Over (drop 1 rows) (block_rows c around a arms.holds) m × Over (drop 1 m) (block_rows c around b arms.fails) rest) (sym (block_behind c around a arms.holds (drop 1 rows) middle one))
    (one, over_block _ _ middle _ rest second (λ _. refl))

-- those of a body that is accepted
pub over_body : (c : Context) (around : Around) (b : Block) (k : Known) (v : Verdict) → if_reached unreached k (accept_block (in_rules c) around b) ≡ Ok v
    → Over (rows_if (if_reached unreached k (accept_block (in_code c) around b)) (block_rows (in_code c) around b k)) (block_rows (in_code c) around b k) []
over_body c around b k v is =
    let rows : List Row = block_rows (in_code c) around b k in
    let accepted = if_reached_cut k (accept_block (in_code c) around b) (accept_block (in_rules c) around b) (λ q. block_cut c around b q) ∙ ap cut_all is in
    subst (λ r. Over (rows_if r rows) rows []) (sym accepted) (over_all rows)
