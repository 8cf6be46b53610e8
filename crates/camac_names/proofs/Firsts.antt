-- The first fault of linking is the one that refuses.
use Rattle.std.proofs.Common.{◌≡◌, ℕ, Bool, true, false, List, [], ◌∷◌, ◌++◌, slice_get, Option, Some, None, is_some, refl, ap, ◌∙◌}
use Rattle.camac_lang.specs.Tree.{Lam, Service}
use Rattle.camac_branch.specs.Plan.{Layout, installed}
use Rattle.camac_names.specs.declared.fault.LinkCase.{LinkCase}
use Rattle.camac_names.specs.declared.fault.LinkFault.{LinkFault}
use Rattle.camac_names.specs.declared.fault.LinkRule.{LinkRule}
use Rattle.camac_names.specs.declared.fault.LinkRule.TheVariants.{LamNotInstalled}
use Rattle.camac_names.specs.Link.{unless, at_lam, fault_first, lam_fault, lams_fault, lams_faults, or_else, service_fault, services_fault, services_faults, FirstIsLinkFault}
use Rattle.camac_lang.specs.declared.spot.Spot.{Spot}

-- of a fault, if there is one, and others
first_or : (o : Option LinkFault) (fs : List LinkFault) → slice_get (fault_first o fs) 0 ≡ or_else o (slice_get fs 0)
first_or None fs = refl
first_or (Some f) fs = refl

first_of_two : (fs gs : List LinkFault) → slice_get (fs ++ gs) 0 ≡ or_else (slice_get fs 0) (slice_get gs 0)
first_of_two [] gs = refl
first_of_two (f ∷ fs) gs = refl

services_first : (plan : Layout) (lams : List Lam) (earlier vs : List Service) → slice_get (services_faults plan lams earlier vs) 0 ≡ services_fault plan lams earlier vs
services_first plan lams earlier [] = refl
services_first plan lams earlier (v ∷ vs) =
    first_or (service_fault plan lams earlier v) (services_faults plan lams (earlier ++ v ∷ []) vs)
    ∙ ap (or_else (service_fault plan lams earlier v)) (services_first plan lams (earlier ++ v ∷ []) vs)

unless_else : (test : Bool) (rule : LinkRule) (spot : Spot) (case : LinkCase) (next : Option LinkFault) → or_else (unless test rule spot case None) next ≡ unless test rule spot case next
unless_else true rule spot case next = refl
unless_else false rule spot case next = refl

lams_first : (plan : Layout) (ls : List Lam) → slice_get (lams_faults plan ls) 0 ≡ lams_fault plan ls
lams_first plan [] = refl
lams_first plan (l ∷ ls) =
    first_or (lam_fault plan l) (lams_faults plan ls) ∙ ap (or_else (lam_fault plan l)) (lams_first plan ls)
    ∙ unless_else (is_some (installed plan l.crate_no l.station)) LamNotInstalled l.spot (at_lam l) (lams_fault plan ls)

pub first_is_link_fault : FirstIsLinkFault
first_is_link_fault plan script =
    first_of_two (lams_faults plan script.lams) (services_faults plan script.lams [] script.services)
    ∙ ap (λ o. or_else o (slice_get (services_faults plan script.lams [] script.services) 0)) (lams_first plan script.lams)
    ∙ ap (or_else (lams_fault plan script.lams)) (services_first plan script.lams [] script.services)
