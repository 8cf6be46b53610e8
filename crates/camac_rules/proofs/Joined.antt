-- A state is inside what is known where two ways meet, whichever way it came.
use Rattle.std.proofs.Common.{◌≡◌, ℕ, zero, suc, List, [], ◌∷◌, map, Option, Some, None, refl, sym, subst}
use Rattle.camac_range.specs.Interval.{Interval, only, hull, IsWithin}
use Rattle.camac_range.proofs.Within.{hull_left, hull_right}
use Rattle.camac_branch.specs.Address.{Address}
use Rattle.camac_model.specs.State.{State}
use Rattle.camac_rules.specs.Known.{Region, range_at, region_at, Facts, Known}
use Rattle.camac_rules.specs.Joined.{hulls, join_set, join_registers, join_facts, join}
use Rattle.camac_rules.proofs.Stores.{Place, IsSetInside, Inside, Reaches}

zero_hulls : (ss : List Interval) (x : ℕ) → range_at (map (hull (only 0)) ss) x ≡ hull (only 0) (range_at ss x)
zero_hulls [] x = refl
zero_hulls (s ∷ ss) zero = refl
zero_hulls (s ∷ ss) (suc x) = zero_hulls ss x

pub range_at-hulls : (rs ss : List Interval) (x : ℕ) → range_at (hulls rs ss) x ≡ hull (range_at rs x) (range_at ss x)
range_at-hulls [] ss x = zero_hulls ss x
range_at-hulls (r ∷ rs) [] zero = refl
range_at-hulls (r ∷ rs) [] (suc x) = range_at-hulls rs [] x
range_at-hulls (r ∷ rs) (s ∷ ss) zero = refl
range_at-hulls (r ∷ rs) (s ∷ ss) (suc x) = range_at-hulls rs ss x

none_set : (g : Option Region) → join_set g None ≡ None
none_set None = refl
none_set (Some g) = refl

pub region_at-join : (gs hs : List (Option Region)) (r : ℕ) → region_at (join_registers gs hs) r ≡ join_set (region_at gs r) (region_at hs r)
region_at-join [] hs r = refl
region_at-join (g ∷ gs) [] zero = sym (none_set g)
region_at-join (g ∷ gs) [] (suc r) = sym (none_set (region_at gs r))
region_at-join (g ∷ gs) (h ∷ hs) zero = refl
region_at-join (g ∷ gs) (h ∷ hs) (suc r) = region_at-join gs hs r

set_left : (g h : Option Region) (o : Option Address) → IsSetInside g o → IsSetInside (join_set g h) o
set_left None h o i = tt
set_left (Some g) None o i = tt
set_left (Some g) (Some h) None i = absurd i
set_left (Some g) (Some h) (Some at) i = record {
  crate_no = hull_left g.crates h.crates at.crate_no i.crate_no;
  station = hull_left g.stations h.stations at.station i.station;
  sub_address = hull_left g.sub_addresses h.sub_addresses at.sub_address i.sub_address;
}

set_right : (g h : Option Region) (o : Option Address) → IsSetInside h o → IsSetInside (join_set g h) o
set_right None h o i = tt
set_right (Some g) None o i = tt
set_right (Some g) (Some h) None i = absurd i
set_right (Some g) (Some h) (Some at) i = record {
  crate_no = hull_right g.crates h.crates at.crate_no i.crate_no;
  station = hull_right g.stations h.stations at.station i.station;
  sub_address = hull_right g.sub_addresses h.sub_addresses at.sub_address i.sub_address;
}

facts_left : (around : Place) (k l : Facts) (s : State) → Inside around k s → Inside around (join_facts k l) s
facts_left around k l s i = record {
  variables = record {
    each = λ x. subst (λ r. IsWithin r (s.variables x)) (sym (range_at-hulls k.ranges l.ranges x))
        (hull_left (range_at k.ranges x) (range_at l.ranges x) (s.variables x) (i.variables.each x));
    small = i.variables.small;
  };
  registers = λ r. subst (λ g. IsSetInside g (s.registers r)) (sym (region_at-join k.registers l.registers r))
      (set_left (region_at k.registers r) (region_at l.registers r) (s.registers r) (i.registers r));
  locks = i.locks;
}

facts_right : (around : Place) (k l : Facts) (s : State) → Inside around l s → Inside around (join_facts k l) s
facts_right around k l s i = record {
  variables = record {
    each = λ x. subst (λ r. IsWithin r (s.variables x)) (sym (range_at-hulls k.ranges l.ranges x))
        (hull_right (range_at k.ranges x) (range_at l.ranges x) (s.variables x) (i.variables.each x));
    small = i.variables.small;
  };
  registers = λ r. subst (λ g. IsSetInside g (s.registers r)) (sym (region_at-join k.registers l.registers r))
      (set_right (region_at k.registers r) (region_at l.registers r) (s.registers r) (i.registers r));
  locks = i.locks;
}

pub join_left : (around : Place) (a b : Known) (s : State) → Reaches around a s → Reaches around (join a b) s
join_left around None b s h = absurd h
join_left around (Some k) None s h = h
join_left around (Some k) (Some l) s h = facts_left around k l s h

pub join_right : (around : Place) (a b : Known) (s : State) → Reaches around b s → Reaches around (join a b) s
join_right around None b s h = h
join_right around (Some k) None s h = absurd h
join_right around (Some k) (Some l) s h = facts_right around k l s h
