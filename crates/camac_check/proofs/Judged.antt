-- What code finds is what the rules say: of a procedure, of the first refusal, and of a linked script.
use Rattle.std.proofs.Common.{◌≡◌, ℕ, ◌<◌, ◌≤◌, List, length, get_or, map, Some, Ok, Err, sym, ap, ◌∙◌, [], ◌∷◌, refl, Bool, true, false, ◌++◌, Option, None}
use Rattle.std.proofs.lemmas.Option.{slice_get-map, slice_get-get_or, slice_get_past}
use Rattle.std.proofs.lemmas.Bool.{leb-true}
use Rattle.std.specs.Prelude.{option_map, slice_get, Result, IsTrue, not, nat_le, is_some}
use Rattle.std.specs.Result.{result_err}
use Rattle.camac_lang.specs.declared.script.Procedure.{Procedure}
use Rattle.camac_lang.specs.View.{procedure_of}
use Rattle.camac_lang.specs.declared.spot.Spot.{Spot}
use Rattle.camac_lang.specs.Scope.{is_well_formed}
use Rattle.camac_lang.specs.Tree.{Lam, Service, Script}
use Rattle.camac_rules.specs.declared.case.Case.{Case}
use Rattle.camac_rules.specs.declared.rule.CheckRule.{CheckRule}
use Rattle.camac_rules.specs.Fault.{broken, Fault}
use Rattle.camac_rules.specs.Refusal.{given, ◌>>=◌, go_on}
use Rattle.camac_rules.specs.Accept.{Section, of_procedure, of_service, sections, accept_procedure, accept_sections, accept_service, bare, with_procedure, accept}
use Rattle.camac_rules.specs.Cycles.{Context}
use Rattle.camac_rules.specs.Laws.{EventsFit}
use Rattle.camac_rules.proofs.Accepted.{accepted_fine, accepted_procedures_fine, accepted_within}
use Rattle.camac_model.specs.Fine.{Bounds}
use Rattle.camac_model.proofs.Headline.{fine_services_run}
use Rattle.camac_check.specs.Refusals.{FirstIsRefusal, refusal_first, section_refusals}
use Rattle.camac_branch.specs.Plan.{Layout, IsPlan}
use Rattle.camac_names.specs.declared.fault.LinkCase.{LinkCase}
use Rattle.camac_names.specs.declared.fault.LinkCase.TheVariants.{Words}
use Rattle.camac_names.specs.declared.fault.LinkFault.{LinkFault}
use Rattle.camac_names.specs.declared.fault.LinkRule.{LinkRule}
use Rattle.camac_names.specs.declared.fault.LinkRule.TheVariants.{StationWithoutBit, StationServedTwice, EventAboveBuffer}
use Rattle.camac_names.specs.Link.{unless, at_lam, served_by, lams_fault, lam_bit, is_served, service_fault, served_fault, or_else, services_fault, link_fault}
use Rattle.camac_rules.specs.Checked.{CheckedScript, IsChecked}

-- A procedure by its number, as the rules see it and as the code does.

pub procedure_there : (ps : List Procedure) (i : ℕ) (p : Procedure) (rule : CheckRule) (spot : Spot) (case : Case) → i < length ps → p ≡ get_or ps i p → given (slice_get (map procedure_of ps) i) rule spot case ≡ Ok (procedure_of p)
unfolding given
procedure_there ps i p rule spot case lt is =
    ap (λ o. given o rule spot case) (slice_get-map procedure_of ps i ∙ ap (option_map procedure_of) (slice_get-get_or ps i p lt ∙ ap (λ x. Some x) (sym is)))

pub no_procedure : (ps : List Procedure) (i : ℕ) (rule : CheckRule) (spot : Spot) (case : Case) → length ps ≤ i → given (slice_get (map procedure_of ps) i) rule spot case ≡ Err (broken rule spot case)
unfolding given
no_procedure ps i rule spot case le =
    ap (λ o. given o rule spot case) (slice_get-map procedure_of ps i ∙ ap (option_map procedure_of) (slice_get_past ps i le))

pub ruleset procedures_by_number = (procedure_there, no_procedure)

-- The first of all refusals is the one that acceptance tells.

after_procedure : (r : Result Bounds Fault) (fs : List Fault) (next : Result (List Bounds) Fault) → slice_get fs 0 ≡ result_err next
    → slice_get (refusal_first r fs) 0 ≡ result_err (r >>= λ _. next)
unfolding go_on
after_procedure (Ok b) fs next e = e
after_procedure (Err f) fs next e = refl

after_service : (r : Result Bounds Fault) (fs : List Fault) (next : Result (List Bounds) Fault) → slice_get fs 0 ≡ result_err next
    → slice_get (refusal_first r fs) 0 ≡ result_err (r >>= λ b. next >>= λ bs. Ok (b ∷ bs))
unfolding go_on
after_service (Ok b) fs (Ok bs) e = e
after_service (Ok b) fs (Err f) e = e
after_service (Err f) fs next e = refl

first_of : (c : Context) (ss : List Section) → slice_get (section_refusals c ss) 0 ≡ result_err (accept_sections c ss)
first_of c [] = refl
first_of c (of_procedure p ∷ rest) =
    after_procedure (accept_procedure c p) (section_refusals (with_procedure p c) rest) (accept_sections (with_procedure p c) rest) (first_of (with_procedure p c) rest)
first_of c (of_service v ∷ rest) =
    after_service (accept_service c v) (section_refusals c rest) (accept_sections c rest) (first_of c rest)

pub first_is_refusal : FirstIsRefusal
first_is_refusal plan script = first_of (bare (λ k. k) plan script) (sections script.order script.procedures script.services)

-- What is accepted of a linked script is as the checker's type says.

pub or_else_parts : (o p : Option LinkFault) → or_else o p ≡ None → (o ≡ None) × (p ≡ None)
or_else_parts None p e = (refl, e)
or_else_parts (Some x) p e = cc

pub unless_parts : (test : Bool) (rule : LinkRule) (spot : Spot) (case : LinkCase) (p : Option LinkFault) → unless test rule spot case p ≡ None → (test ≡ true) × (p ≡ None)
unless_parts true rule spot case p e = (refl, e)
unless_parts false rule spot case p e = cc

served_fits : (plan : Layout) (lams : List Lam) (earlier : List Service) (v : Service) (o : Option Lam) → served_fault plan lams earlier v o ≡ None → v.words ≤ plan.buffer
served_fits plan lams earlier v None e = cc
served_fits plan lams earlier v (Some l) e =
    let third : Option LinkFault = unless (nat_le v.words plan.buffer) EventAboveBuffer v.spot (Words v.words plan.buffer) None in
    let second : Option LinkFault = unless (not (is_served lams l earlier)) StationServedTwice v.spot (served_by lams l earlier) third in
    let a = unless_parts (is_some (lam_bit plan l)) StationWithoutBit v.spot (at_lam l) second e in
    let b = unless_parts (not (is_served lams l earlier)) StationServedTwice v.spot (served_by lams l earlier) third a.1 in
    let c = unless_parts (nat_le v.words plan.buffer) EventAboveBuffer v.spot (Words v.words plan.buffer) None b.1 in
    leb-true v.words plan.buffer c.0

events_fit : (plan : Layout) (lams : List Lam) (earlier vs : List Service) → services_fault plan lams earlier vs ≡ None → EventsFit plan vs
events_fit plan lams earlier [] e = tt
events_fit plan lams earlier (v ∷ vs) e =
    let p = or_else_parts (service_fault plan lams earlier v) (services_fault plan lams (earlier ++ v ∷ []) vs) e in
    (served_fits plan lams earlier v (slice_get lams v.lam) p.0, events_fit plan lams (earlier ++ v ∷ []) vs p.1)

pub linked_events : (plan : Layout) (script : Script) → link_fault plan script ≡ None → EventsFit plan script.services
linked_events plan script e =
    events_fit plan script.lams [] script.services (or_else_parts (lams_fault plan script.lams) (services_fault plan script.lams [] script.services) e).1

pub is_checked : (c : CheckedScript) → IsPlan c.plan → IsTrue (is_well_formed c.script) → link_fault c.plan c.script ≡ None → accept c.plan c.script ≡ Ok c.bounds → IsChecked c
is_checked c plan formed linked e =
    let fine = accepted_fine c.plan c.script c.bounds plan formed e in
    record {
      accepted = e;
      services = fine;
      procedures = accepted_procedures_fine c.plan c.script c.bounds plan formed e;
      runs = fine_services_run c.plan c.script c.bounds fine;
      headings = accepted_within c.plan c.script c.bounds plan formed (linked_events c.plan c.script linked) e;
    }
