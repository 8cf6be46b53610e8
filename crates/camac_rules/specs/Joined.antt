-- What is known where two ways meet.
use Rattle.std.specs.Prelude.{List, [], ◌∷◌, map, Option, Some, None}
use Rattle.camac_range.specs.Interval.{Interval, only, hull}
use Rattle.camac_rules.specs.Known.{Region, region, Facts, facts, Known}

abbrev pub hulls : List Interval → List Interval → List Interval
hulls [] ss = map (hull (only 0)) ss
hulls (r ∷ rs) [] = hull r (only 0) ∷ hulls rs []
hulls (r ∷ rs) (s ∷ ss) = hull r s ∷ hulls rs ss

abbrev pub join_region : Region → Region → Region
join_region g h = region (hull g.crates h.crates) (hull g.stations h.stations) (hull g.sub_addresses h.sub_addresses)

-- a register that may be unset on one side may be unset
abbrev pub join_set : Option Region → Option Region → Option Region
join_set None o = None
join_set (Some g) None = None
join_set (Some g) (Some h) = Some (join_region g h)

abbrev pub join_registers : List (Option Region) → List (Option Region) → List (Option Region)
join_registers [] hs = []
join_registers (g ∷ gs) [] = []
join_registers (g ∷ gs) (h ∷ hs) = join_set g h ∷ join_registers gs hs

abbrev pub join_facts : Facts → Facts → Facts
join_facts k l = facts (hulls k.ranges l.ranges) (join_registers k.registers l.registers)

-- a way that can't be reached adds nothing
abbrev pub join : Known → Known → Known
join None o = o
join (Some k) None = Some k
join (Some k) (Some l) = Some (join_facts k l)
