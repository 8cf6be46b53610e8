-- The rules of linking, in the order in which they are tested (own).
use Rattle.std.specs.Prelude.{◌≡◌, ℕ, Bool, false, not, ◌&&◌, List, [], ◌∷◌, ◌++◌, Option, Some, None, find, is_some, nat_eq, nat_le, option_and_then, option_map, slice_get, unwrap_or, if◌then◌else◌}
use Rattle.std.specs.List.{list_any}
use Rattle.camac_lang.specs.Tree.{Lam, Service, Script}
use Rattle.camac_branch.specs.Plan.{Layout, installed, gl}
use Rattle.camac_names.specs.declared.fault.LinkCase.{LinkCase}
use Rattle.camac_names.specs.declared.fault.LinkCase.TheVariants.{Place, Served, Words, Malformed}
use Rattle.camac_names.specs.declared.fault.LinkFault.{LinkFault}
use Rattle.camac_names.specs.declared.fault.LinkFault.TheVariants.{Broken}
use Rattle.camac_names.specs.declared.fault.LinkRule.{LinkRule}
use Rattle.camac_names.specs.declared.fault.LinkRule.TheVariants.{LamNotInstalled, StationWithoutBit, StationServedTwice, EventAboveBuffer}
use Rattle.camac_lang.specs.declared.spot.Spot.{Spot}

-- a fault at this spot, unless the test holds; and else the next
abbrev pub unless : Bool → LinkRule → Spot → LinkCase → Option LinkFault → Option LinkFault
unless test rule spot case next = if test then next else Some (Broken rule spot case)

-- where a LAM stands
abbrev pub at_lam : Lam → LinkCase
at_lam l = Place l.crate_no l.station

-- L1 of a LAM
abbrev pub lam_fault : Layout → Lam → Option LinkFault
lam_fault plan l = unless (is_some (installed plan l.crate_no l.station)) LamNotInstalled l.spot (at_lam l) None

-- L1 of each LAM in text order
abbrev pub lams_fault : Layout → List Lam → Option LinkFault
lams_fault plan [] = None
lams_fault plan (l ∷ ls) = unless (is_some (installed plan l.crate_no l.station)) LamNotInstalled l.spot (at_lam l) (lams_fault plan ls)

-- the graded-L bit of a service: that of its LAM's station
abbrev pub lam_bit : Layout → Lam → Option ℕ
lam_bit plan l = gl plan l.crate_no l.station

abbrev pub service_bit : Layout → List Lam → Service → Option ℕ
service_bit plan lams v = option_and_then (lam_bit plan) (slice_get lams v.lam)

abbrev pub same_station : Lam → Lam → Bool
same_station l m = nat_eq l.crate_no m.crate_no && nat_eq l.station m.station

-- whether a service is on the LAM's station
abbrev pub is_on : Lam → Option Lam → Bool
is_on l None = false
is_on l (Some m) = same_station l m

abbrev pub is_there : List Lam → Lam → Service → Bool
is_there lams l v = is_on l (slice_get lams v.lam)

-- whether one of these services is, and where the first that is stands
abbrev pub is_served : List Lam → Lam → List Service → Bool
is_served lams l vs = list_any (is_there lams l) vs

abbrev pub first_spot : List Lam → Lam → List Service → Option Spot
first_spot lams l vs = option_map (λ v. v.spot) (find (is_there lams l) vs)

-- the station of the LAM, which the first of these services has
abbrev pub served_by : List Lam → Lam → List Service → LinkCase
served_by lams l earlier = Served l.crate_no l.station (unwrap_or (first_spot lams l earlier) l.spot)

-- L2, L3 and L4 of a service on this LAM, after these services
abbrev pub served_fault : Layout → List Lam → List Service → Service → Option Lam → Option LinkFault
served_fault plan lams earlier v None = Some (Broken LamNotInstalled v.spot Malformed)
served_fault plan lams earlier v (Some l) =
    unless (is_some (lam_bit plan l)) StationWithoutBit v.spot (at_lam l)
    (unless (not (is_served lams l earlier)) StationServedTwice v.spot (served_by lams l earlier)
    (unless (nat_le v.words plan.buffer) EventAboveBuffer v.spot (Words v.words plan.buffer) None))

abbrev pub service_fault : Layout → List Lam → List Service → Service → Option LinkFault
service_fault plan lams earlier v = served_fault plan lams earlier v (slice_get lams v.lam)

abbrev pub or_else : Option LinkFault → Option LinkFault → Option LinkFault
or_else None next = next
or_else (Some e) next = Some e

-- service by service in text order
abbrev pub services_fault : Layout → List Lam → List Service → List Service → Option LinkFault
services_fault plan lams earlier [] = None
services_fault plan lams earlier (v ∷ vs) =
    or_else (service_fault plan lams earlier v) (services_fault plan lams (earlier ++ v ∷ []) vs)

-- the first rule that is broken, its spot and its case
abbrev pub link_fault : Layout → Script → Option LinkFault
link_fault plan script = or_else (lams_fault plan script.lams) (services_fault plan script.lams [] script.services)

-- a fault, if there is one, before these
abbrev pub fault_first : Option LinkFault → List LinkFault → List LinkFault
fault_first None fs = fs
fault_first (Some f) fs = f ∷ fs

-- L1 of all LAMs, and the first rule that each service breaks, in text order
abbrev pub lams_faults : Layout → List Lam → List LinkFault
lams_faults plan [] = []
lams_faults plan (l ∷ ls) = fault_first (lam_fault plan l) (lams_faults plan ls)

abbrev pub services_faults : Layout → List Lam → List Service → List Service → List LinkFault
services_faults plan lams earlier [] = []
services_faults plan lams earlier (v ∷ vs) =
    fault_first (service_fault plan lams earlier v) (services_faults plan lams (earlier ++ v ∷ []) vs)

-- all that linking refuses: LAMs, then services
abbrev pub link_faults : Layout → Script → List LinkFault
link_faults plan script = lams_faults plan script.lams ++ services_faults plan script.lams [] script.services

-- the first of them is the one fault of linking
abbrev pub FirstIsLinkFault : Type 0
FirstIsLinkFault = (plan : Layout) (script : Script) → slice_get (link_faults plan script) 0 ≡ link_fault plan script
