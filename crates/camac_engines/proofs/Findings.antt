-- The first of all that is refused of a script is what is told of it.
use Rattle.std.proofs.Common.{◌≡◌, ℕ, Bool, true, false, List, [], ◌∷◌, ◌++◌, map, slice_get, Option, Some, None, refl, sym, ap, ◌∙◌}
use Rattle.std.specs.Prelude.{Result, Ok, Err, flat_map, is_some, not, nat_le}
use Rattle.std.specs.Result.{result_err}
use Rattle.camac_lang.specs.Tree.{Lam, Service, Script}
use Rattle.camac_lang.specs.declared.spot.Spot.{Spot}
use Rattle.camac_branch.specs.Plan.{Layout, installed}
use Rattle.camac_model.specs.Fine.{Bounds}
use Rattle.camac_names.specs.Link.{FirstIsLinkFault, is_served, lam_bit, lams_fault, link_fault, link_faults, or_else, service_fault, served_by, served_fault, services_fault, at_lam, unless}
use Rattle.camac_names.specs.declared.fault.LinkCase.{LinkCase}
use Rattle.camac_names.specs.declared.fault.LinkCase.TheVariants.{Words}
use Rattle.camac_names.specs.declared.fault.LinkFault.{LinkFault}
use Rattle.camac_names.specs.declared.fault.LinkFault.TheVariants as link
use Rattle.camac_names.specs.declared.fault.LinkRule.{LinkRule}
use Rattle.camac_names.specs.declared.fault.LinkRule.TheVariants.{LamNotInstalled, StationWithoutBit, StationServedTwice, EventAboveBuffer}
use Rattle.camac_rules.specs.Accept.{accept}
use Rattle.camac_rules.specs.Fault.{Fault, broken}
use Rattle.camac_check.specs.Refusals.{FirstIsRefusal, fault_of, refusals}
use Rattle.camac_lines.specs.Verdict.{verdict_text}
use Rattle.camac_text.specs.Parser.{script_of}
use Rattle.camac_explain.specs.Explanation.{refusal_of}
use Rattle.camac_explain.specs.declared.finding.Finding.{Finding}
use Rattle.camac_explain.specs.declared.finding.Finding.TheVariants as finding
use Rattle.camac_engines.specs.Accepted.{accepted, accepted_checked, accepted_linked, accepted_read}
use Rattle.camac_engines.specs.Refusals.{check_finding, findings_of, linked_findings}
use Rattle.camac_engines.specs.Report.{refused, report, report_accepted, report_linked, report_read}
use Rattle.camac_engines.specs.declared.outcome.Outcome.TheVariants.{Good}

-- ---- linking is refused by a rule

abbrev IsRule : Option LinkFault → Type 0
IsRule None = Unit {0}
IsRule (Some (link.Broken rule spot case)) = Unit {0}
IsRule (Some link.OutOfMemory) = ⊥

unless_rule : (test : Bool) (rule : LinkRule) (spot : Spot) (case : LinkCase) (next : Option LinkFault) → IsRule next → IsRule (unless test rule spot case next)
unless_rule true rule spot case next h = h
unless_rule false rule spot case next h = tt

or_rule : (o next : Option LinkFault) → IsRule o → IsRule next → IsRule (or_else o next)
or_rule None next h k = k
or_rule (Some f) next h k = h

lams_rule : (plan : Layout) (ls : List Lam) → IsRule (lams_fault plan ls)
lams_rule plan [] = tt
lams_rule plan (l ∷ ls) = unless_rule (is_some (installed plan l.crate_no l.station)) LamNotInstalled l.spot (at_lam l) (lams_fault plan ls) (lams_rule plan ls)

served_rule : (plan : Layout) (lams : List Lam) (earlier : List Service) (v : Service) (o : Option Lam) → IsRule (served_fault plan lams earlier v o)
served_rule plan lams earlier v None = tt
served_rule plan lams earlier v (Some l) =
    let third : Option LinkFault = unless (nat_le v.words plan.buffer) EventAboveBuffer v.spot (Words v.words plan.buffer) None in
    let second : Option LinkFault = unless (not (is_served lams l earlier)) StationServedTwice v.spot (served_by lams l earlier) third in
    unless_rule (is_some (lam_bit plan l)) StationWithoutBit v.spot (at_lam l) second
    (unless_rule (not (is_served lams l earlier)) StationServedTwice v.spot (served_by lams l earlier) third
    (unless_rule (nat_le v.words plan.buffer) EventAboveBuffer v.spot (Words v.words plan.buffer) None tt))

services_rule : (plan : Layout) (lams : List Lam) (earlier vs : List Service) → IsRule (services_fault plan lams earlier vs)
services_rule plan lams earlier [] = tt
services_rule plan lams earlier (v ∷ vs) =
    or_rule (service_fault plan lams earlier v) (services_fault plan lams (earlier ++ v ∷ []) vs) (served_rule plan lams earlier v (slice_get lams v.lam))
    (services_rule plan lams (earlier ++ v ∷ []) vs)

link_rule : (plan : Layout) (script : Script) → IsRule (link_fault plan script)
link_rule plan script =
    or_rule (lams_fault plan script.lams) (services_fault plan script.lams [] script.services) (lams_rule plan script.lams)
    (services_rule plan script.lams [] script.services)

-- ---- the first finding

module _ (first_fault : FirstIsLinkFault) (first_refusal : FirstIsRefusal) (plan : Layout) (script : Script) where
  checker_first : (fs : List Fault) (r : Result (List Bounds) Fault) (f : Finding) (rest : List Finding) → slice_get fs 0 ≡ result_err r → flat_map check_finding (map fault_of fs) ≡ f ∷ rest
      → (accepted_checked script r ≡ Some (Err f)) × (report_accepted plan script r ≡ refused (refusal_of f))
  checker_first [] r f rest e is = absurd (cc)
  checker_first (g ∷ fs) (Ok bounds) f rest e is = absurd (cc)
  checker_first (broken rule spot case ∷ fs) (Err g) f rest e is =
      let same : broken rule spot case ≡ g = cc in
      let first : finding.Check rule spot case ≡ f = cc in (
        ap (λ h. accepted_checked script (Err h)) (sym same) ∙ ap (λ x. Some (Err x)) first,
        ap (λ h. report_accepted plan script (Err h)) (sym same) ∙ ap (λ x. refused (refusal_of x)) first,
      )

  checker_none : (fs : List Fault) (r : Result (List Bounds) Fault) → slice_get fs 0 ≡ result_err r → flat_map check_finding (map fault_of fs) ≡ [] → (bounds : List Bounds) × (r ≡ Ok bounds)
  checker_none [] (Ok bounds) e is = (bounds, refl)
  checker_none [] (Err g) e is = absurd (cc)
  checker_none (broken rule spot case ∷ fs) r e is = absurd (cc)

  linking_first : (fs : List LinkFault) (o : Option LinkFault) (f : Finding) (rest : List Finding) → slice_get fs 0 ≡ o → IsRule o → linked_findings plan script fs ≡ f ∷ rest
      → (accepted_linked plan script o ≡ Some (Err f)) × (report_linked plan script o ≡ refused (refusal_of f))
  linking_first [] None f rest e h is = checker_first (refusals plan script) (accept plan script) f rest (first_refusal plan script) is
  linking_first [] (Some g) f rest e h is = absurd (cc)
  linking_first (g ∷ fs) None f rest e h is = absurd (cc)
  linking_first (g ∷ fs) (Some link.OutOfMemory) f rest e h is = absurd h
  linking_first (link.OutOfMemory ∷ fs) (Some (link.Broken rule spot case)) f rest e h is = absurd (cc)
  linking_first (link.Broken rule spot case ∷ fs) (Some (link.Broken rule' spot' case')) f rest e h is =
      let same : link.Broken rule spot case ≡ link.Broken rule' spot' case' = cc in
      let first : finding.Link rule spot case ≡ f = cc in (
        ap (λ g. accepted_linked plan script (Some g)) (sym same) ∙ ap (λ x. Some (Err x)) first,
        ap (λ g. report_linked plan script (Some g)) (sym same) ∙ ap (λ x. refused (refusal_of x)) first,
      )

  linking_none : (fs : List LinkFault) (o : Option LinkFault) → slice_get fs 0 ≡ o → IsRule o → linked_findings plan script fs ≡ []
      → (bounds : List Bounds) × (report_linked plan script o ≡ Some (Good, verdict_text plan script bounds))
  linking_none [] None e h is =
      let found = checker_none (refusals plan script) (accept plan script) (first_refusal plan script) is in (found.0, ap (report_accepted plan script) found.1)
  linking_none [] (Some g) e h is = absurd (cc)
  linking_none (g ∷ fs) None e h is = absurd (cc)
  linking_none (g ∷ fs) (Some link.OutOfMemory) e h is = absurd h
  linking_none (link.OutOfMemory ∷ fs) (Some (link.Broken rule spot case)) e h is = absurd (cc)
  linking_none (link.Broken rule spot case ∷ fs) (Some g) e h is = absurd (cc)

  pub first_found : (text : List ℕ) (f : Finding) (rest : List Finding) → script_of text ≡ Ok script → findings_of plan script ≡ f ∷ rest
      → (accepted plan text ≡ Some (Err f)) × (report plan text ≡ refused (refusal_of f))
  first_found text f rest read is =
      let found = linking_first (link_faults plan script) (link_fault plan script) f rest (first_fault plan script) (link_rule plan script) is in
      (ap (accepted_read plan) read ∙ found.0, ap (report_read plan) read ∙ found.1)

  pub none_found : (text : List ℕ) → script_of text ≡ Ok script → findings_of plan script ≡ [] → (bounds : List Bounds) × (report plan text ≡ Some (Good, verdict_text plan script bounds))
  none_found text read is =
      let found = linking_none (link_faults plan script) (link_fault plan script) (first_fault plan script) (link_rule plan script) is in
      (found.0, ap (report_read plan) read ∙ found.1)
