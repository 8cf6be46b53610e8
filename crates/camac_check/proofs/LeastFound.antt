-- The search for the least headings, and the script that it gives.
use Rattle.std.proofs.Common.{◌≡◌, ℕ, ◌≤◌, List, [], ◌∷◌, ◌++◌, map, Option, Some, None, Result, Ok, Err, Bool, true, false, refl, sym, ap, ◌∙◌, subst, arith}
use Rattle.std.proofs.lemmas.Bool.{leb-true, le-leb}
use Rattle.std.specs.Prelude.{◌||◌, not, nat_le, is_some, slice_get, if◌then◌else◌, ◌≢◌}
use Rattle.camac_lang.specs.Headings.{annotate_service, annotate, unannotated}
use Rattle.camac_lang.specs.Tree.{Lam, Procedure, Service, Item, next_table, next_lam, next_variables, next_procedure, next_service, Script}
use Rattle.camac_lang.specs.declared.spot.Spot.{Spot}
use Rattle.camac_range.specs.Number.{greatest}
use Rattle.camac_branch.specs.Plan.{Layout}
use Rattle.camac_names.specs.declared.fault.LinkCase.{LinkCase}
use Rattle.camac_names.specs.declared.fault.LinkCase.TheVariants.{Words}
use Rattle.camac_names.specs.declared.fault.LinkFault.{LinkFault}
use Rattle.camac_names.specs.declared.fault.LinkRule.{LinkRule}
use Rattle.camac_names.specs.declared.fault.LinkRule.TheVariants.{StationWithoutBit, StationServedTwice, EventAboveBuffer}
use Rattle.camac_names.specs.Link.{unless, at_lam, served_by, lams_fault, lam_bit, is_on, is_served, service_fault, served_fault, or_else, services_fault, link_fault, FirstIsLinkFault, link_faults}
use Rattle.camac_names.specs.declared.fault.LinkFault.TheVariants as link
use Rattle.camac_names.specs.Linked.{LinkedScript}
use Rattle.camac_model.specs.Fine.{Bounds}
use Rattle.camac_rules.specs.declared.case.Case.{Case}
use Rattle.camac_rules.specs.declared.case.Body.{Body}
use Rattle.camac_rules.specs.Cases.{budget}
use Rattle.camac_rules.specs.declared.case.Body.TheVariants as body
use Rattle.camac_rules.specs.declared.rule.CheckRule.{CheckRule}
use Rattle.camac_rules.specs.declared.rule.CheckRule.TheVariants.{TooManyWords, TooManyCycles, TooManySteps}
use Rattle.camac_rules.specs.Fault.{Fault, broken}
use Rattle.camac_rules.specs.Refusal.{go_on, required, if_reached}
use Rattle.camac_rules.specs.Costs.{costs, Verdict, unreached}
use Rattle.camac_rules.specs.Cycles.{Context, alone_in}
use Rattle.camac_rules.specs.EachLimit.{count_block}
use Rattle.camac_rules.specs.Procedures.{at_entry}
use Rattle.camac_rules.specs.Statements.{accept_block}
use Rattle.camac_rules.specs.Accept.{at_start, own_body, within, accept_procedure, accept_service, accept_items, with_procedure, bare, accept}
use Rattle.camac_check.specs.declared.fault.LeastFault.{LeastFault}
use Rattle.camac_check.specs.declared.fault.LeastFault.TheVariants as fault
use Rattle.camac_check.specs.Least.{AreHeadings, Headed, and_then, checked, event_fits, least_items, most, needing, procedure_first, procedure_needs, service_first, service_needing, service_needs, Finds, Heads, least, least_from, linked}
use Rattle.camac_check.specs.Judges.{Judges}
use Rattle.camac_check.specs.Faults.{of_link, of_check}
use Rattle.camac_check.proofs.Judged.{or_else_parts, unless_parts}
use Rattle.camac_check_known.specs.declared.fault.CheckFault.{CheckFault}
use Rattle.camac_check_known.specs.declared.fault.CheckFault.TheVariants as check

-- A script with its least headings is linked and accepted, with these headings as its bounds.

-- ---- steps that were allowed

pub then_ok : {A B : Type 0} (r : Result A LeastFault) (f : A → Result B LeastFault) (y : B) → and_then r f ≡ Ok y → (x : A) × (r ≡ Ok x) × (f x ≡ Ok y)
unfolding and_then
then_ok (Ok x) f y e = (x, refl, e)
then_ok (Err g) f y e = absurd (cc)

checked_ok : {A : Type 0} (r : Result A Fault) (x : A) → checked r ≡ Ok x → r ≡ Ok x
checked_ok (Ok y) x e = let same : y ≡ x = cc in ap (λ z. Ok z) same
checked_ok (Err (broken rule spot case)) x e = absurd (cc)

go_ok : {A B : Type 0} (r : Result A Fault) (f : A → Result B Fault) (y : B) → go_on r f ≡ Ok y → (x : A) × (r ≡ Ok x) × (f x ≡ Ok y)
unfolding go_on
go_ok (Ok x) f y e = (x, refl, e)
go_ok (Err g) f y e = absurd (cc)

go_is : {A B : Type 0} (r : Result A Fault) (x : A) (f : A → Result B Fault) → r ≡ Ok x → go_on r f ≡ f x
unfolding go_on
go_is r x f e = ap (λ q. go_on q f) e

required_ok : (b : Bool) (rule : CheckRule) (spot : Spot) (case : Case) (u : Unit {0}) → required b rule spot case ≡ Ok u → b ≡ true
unfolding required
required_ok true rule spot case u e = refl
required_ok false rule spot case u e = absurd (cc)

required_is : (b : Bool) (rule : CheckRule) (spot : Spot) (case : Case) → b ≡ true → required b rule spot case ≡ Ok tt
unfolding required
required_is b rule spot case e = ap (λ x. required x rule spot case) e

-- ---- bounds that are the costs

record Within (m found k : Bounds) : Type 0 where
  same : k ≡ found
  cycles : found.cycles ≤ m.cycles
  words : found.words ≤ m.words
  steps : found.steps ≤ m.steps

within_ok : (place : Body) (m found k : Bounds) (spot : Spot) → within place m found spot ≡ Ok k → Within m found k
within_ok place m found k spot e =
    let a = go_ok (required (nat_le found.words m.words) TooManyWords spot _) _ k e in
    let b = go_ok (required (nat_le found.cycles m.cycles) TooManyCycles spot _) _ k a.2 in
    let c = go_ok (required (nat_le found.steps m.steps) TooManySteps spot _) _ k b.2 in
    let last : Ok found ≡ Ok k = c.2 in
    record {
      same = sym (cc);
      cycles = leb-true found.cycles m.cycles (required_ok (nat_le found.cycles m.cycles) TooManyCycles spot _ b.0 b.1);
      words = leb-true found.words m.words (required_ok (nat_le found.words m.words) TooManyWords spot _ a.0 a.1);
      steps = leb-true found.steps m.steps (required_ok (nat_le found.steps m.steps) TooManySteps spot _ c.0 c.1);
    }

within_is : (place : Body) (m found : Bounds) (spot : Spot) → found.cycles ≤ m.cycles → found.words ≤ m.words → found.steps ≤ m.steps → within place m found spot ≡ Ok found
within_is place m found spot hc hw hs =
    go_is (required (nat_le found.words m.words) TooManyWords spot _) tt _ (required_is (nat_le found.words m.words) TooManyWords spot _ (le-leb found.words m.words hw))
    ∙ go_is (required (nat_le found.cycles m.cycles) TooManyCycles spot _) tt _ (required_is (nat_le found.cycles m.cycles) TooManyCycles spot _ (le-leb found.cycles m.cycles hc))
    ∙ go_is (required (nat_le found.steps m.steps) TooManySteps spot _) tt _ (required_is (nat_le found.steps m.steps) TooManySteps spot _ (le-leb found.steps m.steps hs))

procedure_accepted : (c : Context) (p : Procedure) (k : Bounds) → procedure_needs c p ≡ Ok k → accept_procedure c (needing k p) ≡ Ok k
procedure_accepted c p k e =
    let place : Body = own_body c in
    let judged : Result Verdict Fault = if_reached unreached (at_entry p.parameters) (accept_block c (alone_in place) p.body) in
    let n = go_ok (count_block place p.body 0) (λ _. go_on judged (λ v. within place most v.costs p.spot)) k (checked_ok (accept_procedure c (needing most p)) k e) in
    let v = go_ok judged (λ v. within place most v.costs p.spot) k n.2 in
    let is = within_ok place most v.0.costs k p.spot v.2 in
    go_is (count_block place p.body 0) n.0 (λ _. go_on judged (λ v. within place k v.costs p.spot)) n.1
    ∙ go_is judged v.0 (λ v. within place k v.costs p.spot) v.1
    ∙ ap (λ b. within place k b p.spot) (sym is.same)
    ∙ within_is place k k p.spot (omega arith) (omega arith) (omega arith)

-- what a service needs, and what that says of its event
record Served (c : Context) (v : Service) (k : Bounds) : Type 0 where
  accepted : accept_service c (service_needing k v) ≡ Ok k
  words : k.words ≤ c.plan.buffer

event_ok : (place : Body) (plan : Layout) (words : ℕ) (spot : Spot) (u : Unit {0}) → event_fits place plan words spot ≡ Ok u → words ≤ plan.buffer
event_ok place plan words spot u e = go (nat_le words greatest) (nat_le words plan.buffer) refl e
  where
    go : (a b : Bool) → nat_le words plan.buffer ≡ b
        → (if a then if b then Ok tt else Err (fault.Link EventAboveBuffer spot (Words words plan.buffer)) else Err (fault.Check TooManyWords spot (budget place words greatest))) ≡ Ok u → words ≤ plan.buffer
    go true true is e = leb-true words plan.buffer is
    go true false is e = absurd (cc)
    go false b is e = absurd (cc)

service_served : (c : Context) (v : Service) (k : Bounds) → service_needs c v ≡ Ok k → Served c v k
service_served c v k e =
    let place : Body = body.Service v.lam in
    let judged : Result Verdict Fault = accept_block c (alone_in place) v.body at_start in
    let n = then_ok (checked (count_block place v.body 0)) _ k e in
    let counted = checked_ok (count_block place v.body 0) n.0 n.1 in
    let x = then_ok (checked judged) _ k n.2 in
    let found = checked_ok judged x.0 x.1 in
    let y = then_ok (event_fits place c.plan x.0.costs.words v.spot) _ k x.2 in
    let is = within_ok place most x.0.costs k v.spot (checked_ok (within place most x.0.costs v.spot) k y.2) in
    let small : x.0.costs.words ≤ c.plan.buffer = event_ok place c.plan x.0.costs.words v.spot y.0 y.1 in
    let words : k.words ≡ x.0.costs.words = ap (λ b. b.words) is.same in
    let steps : k.steps ≡ x.0.costs.steps = ap (λ b. b.steps) is.same in
    let below : x.0.costs.steps ≤ greatest = is.steps in
    record {
      accepted =
          go_is (count_block place v.body 0) n.0 (λ _. go_on judged (λ v'. within place (costs k.cycles k.words greatest) v'.costs v.spot)) counted
          ∙ go_is judged x.0 (λ v'. within place (costs k.cycles k.words greatest) v'.costs v.spot) found
          ∙ ap (λ b. within place (costs k.cycles k.words greatest) b v.spot) (sym is.same)
          ∙ within_is place (costs k.cycles k.words greatest) k v.spot (omega arith) (omega arith) (omega (arith, steps, below));
      words = omega (arith, words, small);
    }

-- ---- the script is accepted

pub accepted_items : (c : Context) (items : List Item) (ps : List Procedure) (vs : List Service) (h : Headed) → least_items c items ps vs ≡ Ok h
    → (ks : List Bounds) × (accept_items c items h.procedures h.services ≡ Ok ks) × AreHeadings ks h.services
accepted_items c [] ps vs h e = ([], refl, tt)
accepted_items c (next_table ∷ rest) ps vs h e = accepted_items c rest ps vs h e
accepted_items c (next_lam ∷ rest) ps vs h e = accepted_items c rest ps vs h e
accepted_items c (next_variables spot n ∷ rest) ps vs h e = accepted_items c rest ps vs h e
accepted_items c (next_procedure ∷ rest) [] vs h e =
    let none : h.procedures ≡ [] = none_left c rest vs h e in
    let inner = accepted_items c rest [] vs h e in (
      inner.0,
      ap (λ ps. accept_items c (next_procedure ∷ rest) ps h.services) none ∙ sym (ap (λ ps. accept_items c rest ps h.services) none) ∙ inner.1,
      inner.2,
    )
  where
    none_left : (c : Context) (items : List Item) (vs : List Service) (h : Headed) → least_items c items [] vs ≡ Ok h → h.procedures ≡ []
    none_left c [] vs h e = let same : record { procedures = []; services = vs } ≡ h = cc in sym (ap (λ (g : Headed). g.procedures) same)
    none_left c (next_table ∷ rest) vs h e = none_left c rest vs h e
    none_left c (next_lam ∷ rest) vs h e = none_left c rest vs h e
    none_left c (next_variables spot n ∷ rest) vs h e = none_left c rest vs h e
    none_left c (next_procedure ∷ rest) vs h e = none_left c rest vs h e
    none_left c (next_service ∷ rest) [] h e = none_left c rest [] h e
    none_left c (next_service ∷ rest) (v ∷ vs) h e =
        let x = then_ok (service_needs c v) _ h e in
        let y = then_ok (least_items c rest [] vs) _ h x.2 in
        let last : Ok (service_first (service_needing x.0 v) y.0) ≡ Ok h = y.2 in
        let same : service_first (service_needing x.0 v) y.0 ≡ h = cc in
        sym (ap (λ (g : Headed). g.procedures) same) ∙ none_left c rest vs y.0 y.1
accepted_items c (next_procedure ∷ rest) (p ∷ ps) vs h e =
    let x = then_ok (procedure_needs c p) _ h e in
    let y = then_ok (least_items (with_procedure (needing x.0 p) c) rest ps vs) _ h x.2 in
    let last : Ok (procedure_first (needing x.0 p) y.0) ≡ Ok h = y.2 in
    let same : procedure_first (needing x.0 p) y.0 ≡ h = cc in
    let inner = accepted_items (with_procedure (needing x.0 p) c) rest ps vs y.0 y.1 in (
      inner.0,
      ap (λ (g : Headed). accept_items c (next_procedure ∷ rest) g.procedures g.services) (sym same)
          ∙ go_is (accept_procedure c (needing x.0 p)) x.0 (λ _. accept_items (with_procedure (needing x.0 p) c) rest y.0.procedures y.0.services) (procedure_accepted c p x.0 x.1)
          ∙ inner.1,
      subst (λ (g : Headed). AreHeadings inner.0 g.services) same inner.2,
    )
accepted_items c (next_service ∷ rest) ps [] h e =
    let none : h.services ≡ [] = none_left c rest ps h e in
    let inner = accepted_items c rest ps [] h e in (
      inner.0,
      ap (λ vs. accept_items c (next_service ∷ rest) h.procedures vs) none ∙ sym (ap (λ vs. accept_items c rest h.procedures vs) none) ∙ inner.1,
      inner.2,
    )
  where
    none_left : (c : Context) (items : List Item) (ps : List Procedure) (h : Headed) → least_items c items ps [] ≡ Ok h → h.services ≡ []
    none_left c [] ps h e = let same : record { procedures = ps; services = [] } ≡ h = cc in sym (ap (λ (g : Headed). g.services) same)
    none_left c (next_table ∷ rest) ps h e = none_left c rest ps h e
    none_left c (next_lam ∷ rest) ps h e = none_left c rest ps h e
    none_left c (next_variables spot n ∷ rest) ps h e = none_left c rest ps h e
    none_left c (next_service ∷ rest) ps h e = none_left c rest ps h e
    none_left c (next_procedure ∷ rest) [] h e = none_left c rest [] h e
    none_left c (next_procedure ∷ rest) (p ∷ ps) h e =
        let x = then_ok (procedure_needs c p) _ h e in
        let y = then_ok (least_items (with_procedure (needing x.0 p) c) rest ps []) _ h x.2 in
        let last : Ok (procedure_first (needing x.0 p) y.0) ≡ Ok h = y.2 in
        let same : procedure_first (needing x.0 p) y.0 ≡ h = cc in
        sym (ap (λ (g : Headed). g.services) same) ∙ none_left (with_procedure (needing x.0 p) c) rest ps y.0 y.1
accepted_items c (next_service ∷ rest) ps (v ∷ vs) h e =
    let x = then_ok (service_needs c v) _ h e in
    let y = then_ok (least_items c rest ps vs) _ h x.2 in
    let last : Ok (service_first (service_needing x.0 v) y.0) ≡ Ok h = y.2 in
    let same : service_first (service_needing x.0 v) y.0 ≡ h = cc in
    let served = service_served c v x.0 x.1 in
    let inner = accepted_items c rest ps vs y.0 y.1 in (
      x.0 ∷ inner.0,
      ap (λ (g : Headed). accept_items c (next_service ∷ rest) g.procedures g.services) (sym same)
          ∙ go_is (accept_service c (service_needing x.0 v)) x.0 (λ first. go_on (accept_items c rest y.0.procedures y.0.services) (λ others. Ok (first ∷ others))) served.accepted
          ∙ go_is (accept_items c rest y.0.procedures y.0.services) inner.0 (λ others. Ok (x.0 ∷ others)) inner.1,
      subst (λ (g : Headed). AreHeadings (x.0 ∷ inner.0) g.services) same (refl, refl, inner.2),
    )

-- ---- and linked

-- on the same LAMs, with events that fit
abbrev Relinks : Layout → List Service → List Service → Type 0
Relinks plan [] [] = Unit {0}
Relinks plan [] (w ∷ ws) = ⊥
Relinks plan (v ∷ vs) [] = ⊥
Relinks plan (v ∷ vs) (w ∷ ws) = (w.lam ≡ v.lam) × (w.words ≤ plan.buffer) × Relinks plan vs ws

abbrev lams_of : List Service → List ℕ
lams_of vs = map (λ v. v.lam) vs

same_served : (lams : List Lam) (l : Lam) (vs ws : List Service) → lams_of ws ≡ lams_of vs → is_served lams l ws ≡ is_served lams l vs
same_served lams l [] [] e = refl
same_served lams l [] (w ∷ ws) e = absurd (cc)
same_served lams l (v ∷ vs) [] e = absurd (cc)
same_served lams l (v ∷ vs) (w ∷ ws) e =
    let first : w.lam ≡ v.lam = cc in
    let others : lams_of ws ≡ lams_of vs = cc in
    ap (λ n. is_on l (slice_get lams n) || is_served lams l ws) first ∙ ap (λ b. is_on l (slice_get lams v.lam) || b) (same_served lams l vs ws others)

lams_more : (vs ws : List Service) (v w : Service) → lams_of ws ≡ lams_of vs → w.lam ≡ v.lam → lams_of (ws ++ w ∷ []) ≡ lams_of (vs ++ v ∷ [])
lams_more [] [] v w e h = ap (λ n. n ∷ []) h
lams_more [] (y ∷ ws) v w e h = absurd (cc)
lams_more (x ∷ vs) [] v w e h = absurd (cc)
lams_more (x ∷ vs) (y ∷ ws) v w e h =
    let first : y.lam ≡ x.lam = cc in
    let others : lams_of ws ≡ lams_of vs = cc in
    ap (λ n. n ∷ lams_of (ws ++ w ∷ [])) first ∙ ap (λ ns. x.lam ∷ ns) (lams_more vs ws v w others h)

unless_none : (test : Bool) (rule : LinkRule) (spot : Spot) (case : LinkCase) (next : Option LinkFault) → test ≡ true → next ≡ None → unless test rule spot case next ≡ None
unless_none test rule spot case next e n = ap (λ b. unless b rule spot case next) e ∙ n

relinked_service : (plan : Layout) (lams : List Lam) (earlier earlier' : List Service) (v w : Service) (o : Option Lam) → lams_of earlier' ≡ lams_of earlier → w.words ≤ plan.buffer
    → served_fault plan lams earlier v o ≡ None → served_fault plan lams earlier' w o ≡ None
relinked_service plan lams earlier earlier' v w None same fits e = absurd (cc)
relinked_service plan lams earlier earlier' v w (Some l) same fits e =
    let third : Option LinkFault = unless (nat_le v.words plan.buffer) EventAboveBuffer v.spot (Words v.words plan.buffer) None in
    let second : Option LinkFault = unless (not (is_served lams l earlier)) StationServedTwice v.spot (served_by lams l earlier) third in
    let a = unless_parts (is_some (lam_bit plan l)) StationWithoutBit v.spot (at_lam l) second e in
    let b = unless_parts (not (is_served lams l earlier)) StationServedTwice v.spot (served_by lams l earlier) third a.1 in
    unless_none (is_some (lam_bit plan l)) StationWithoutBit w.spot _ _ a.0
    (unless_none (not (is_served lams l earlier')) StationServedTwice w.spot _ _ (ap not (same_served lams l earlier earlier' same) ∙ b.0)
    (unless_none (nat_le w.words plan.buffer) EventAboveBuffer w.spot _ None (le-leb w.words plan.buffer fits) refl))

or_else_none : (o p : Option LinkFault) → o ≡ None → p ≡ None → or_else o p ≡ None
or_else_none o p e n = ap (λ x. or_else x p) e ∙ n

relinked_services : (plan : Layout) (lams : List Lam) (earlier earlier' vs ws : List Service) → lams_of earlier' ≡ lams_of earlier → Relinks plan vs ws
    → services_fault plan lams earlier vs ≡ None → services_fault plan lams earlier' ws ≡ None
relinked_services plan lams earlier earlier' [] [] same h e = refl
relinked_services plan lams earlier earlier' [] (w ∷ ws) same h e = absurd h
relinked_services plan lams earlier earlier' (v ∷ vs) [] same h e = absurd h
relinked_services plan lams earlier earlier' (v ∷ vs) (w ∷ ws) same (lam, fits, others) e =
    let p = or_else_parts (service_fault plan lams earlier v) (services_fault plan lams (earlier ++ v ∷ []) vs) e in
    or_else_none (service_fault plan lams earlier' w) (services_fault plan lams (earlier' ++ w ∷ []) ws)
    (ap (λ n. served_fault plan lams earlier' w (slice_get lams n)) lam ∙ relinked_service plan lams earlier earlier' v w (slice_get lams v.lam) same fits p.0)
    (relinked_services plan lams (earlier ++ v ∷ []) (earlier' ++ w ∷ []) vs ws (lams_more earlier earlier' v w same lam) others p.1)

-- events of no words
abbrev AreEmpty : List Service → Type 0
AreEmpty [] = Unit {0}
AreEmpty (v ∷ vs) = (v.words ≡ 0) × AreEmpty vs

pub are_empty : (vs : List Service) → AreEmpty (map (annotate_service 0 0) vs)
are_empty [] = tt
are_empty (v ∷ vs) = (refl, are_empty vs)

relinks_itself : (plan : Layout) (vs : List Service) → AreEmpty vs → Relinks plan vs vs
relinks_itself plan [] h = tt
relinks_itself plan (v ∷ vs) (none, others) = (refl, omega (arith, none), relinks_itself plan vs others)

relinks_items : (c : Context) (items : List Item) (ps : List Procedure) (vs : List Service) (h : Headed) → AreEmpty vs → least_items c items ps vs ≡ Ok h → Relinks c.plan vs h.services
relinks_items c [] ps vs h none e =
    let same : record { procedures = ps; services = vs } ≡ h = cc in
    subst (λ (g : Headed). Relinks c.plan vs g.services) same (relinks_itself c.plan vs none)
relinks_items c (next_table ∷ rest) ps vs h none e = relinks_items c rest ps vs h none e
relinks_items c (next_lam ∷ rest) ps vs h none e = relinks_items c rest ps vs h none e
relinks_items c (next_variables spot n ∷ rest) ps vs h none e = relinks_items c rest ps vs h none e
relinks_items c (next_procedure ∷ rest) [] vs h none e = relinks_items c rest [] vs h none e
relinks_items c (next_procedure ∷ rest) (p ∷ ps) vs h none e =
    let x = then_ok (procedure_needs c p) _ h e in
    let y = then_ok (least_items (with_procedure (needing x.0 p) c) rest ps vs) _ h x.2 in
    let last : Ok (procedure_first (needing x.0 p) y.0) ≡ Ok h = y.2 in
    let same : procedure_first (needing x.0 p) y.0 ≡ h = cc in
    subst (λ (g : Headed). Relinks c.plan vs g.services) same (relinks_items (with_procedure (needing x.0 p) c) rest ps vs y.0 none y.1)
relinks_items c (next_service ∷ rest) ps [] h none e = relinks_items c rest ps [] h none e
relinks_items c (next_service ∷ rest) ps (v ∷ vs) h (first, none) e =
    let x = then_ok (service_needs c v) _ h e in
    let y = then_ok (least_items c rest ps vs) _ h x.2 in
    let last : Ok (service_first (service_needing x.0 v) y.0) ≡ Ok h = y.2 in
    let same : service_first (service_needing x.0 v) y.0 ≡ h = cc in
    subst (λ (g : Headed). Relinks c.plan (v ∷ vs) g.services) same (refl, (service_served c v x.0 x.1).words, relinks_items c rest ps vs y.0 none y.1)

pub linked_again : (plan : Layout) (s : Script) (h : Headed) → AreEmpty s.services → link_fault plan s ≡ None → least_items (bare (λ k. k) plan s) s.order s.procedures s.services ≡ Ok h
    → link_fault plan (record s { procedures = h.procedures; services = h.services }) ≡ None
linked_again plan s h none e found =
    let p = or_else_parts (lams_fault plan s.lams) (services_fault plan s.lams [] s.services) e in
    or_else_none (lams_fault plan s.lams) (services_fault plan s.lams [] h.services) p.0
    (relinked_services plan s.lams [] [] s.services h.services refl (relinks_items (bare (λ k. k) plan s) s.order s.procedures s.services h none found) p.1)

-- What the search for the least headings answers.

-- ---- nothing but the numbers of headings changes

record Same (ps qs : List Procedure) (vs ws : List Service) : Type 0 where
  procedures : map (annotate 0 0 0) ps ≡ map (annotate 0 0 0) qs
  services : map (annotate_service 0 0) vs ≡ map (annotate_service 0 0) ws

same_items : (c : Context) (items : List Item) (ps : List Procedure) (vs : List Service) (h : Headed) → least_items c items ps vs ≡ Ok h → Same h.procedures ps h.services vs
same_items c [] ps vs h e =
    let same : record { procedures = ps; services = vs } ≡ h = cc in
    subst (λ (g : Headed). Same g.procedures ps g.services vs) same (record { procedures = refl; services = refl })
same_items c (next_table ∷ rest) ps vs h e = same_items c rest ps vs h e
same_items c (next_lam ∷ rest) ps vs h e = same_items c rest ps vs h e
same_items c (next_variables spot n ∷ rest) ps vs h e = same_items c rest ps vs h e
same_items c (next_procedure ∷ rest) [] vs h e = same_items c rest [] vs h e
same_items c (next_procedure ∷ rest) (p ∷ ps) vs h e =
    let x = then_ok (procedure_needs c p) _ h e in
    let y = then_ok (least_items (with_procedure (needing x.0 p) c) rest ps vs) _ h x.2 in
    let last : Ok (procedure_first (needing x.0 p) y.0) ≡ Ok h = y.2 in
    let same : procedure_first (needing x.0 p) y.0 ≡ h = cc in
    let inner = same_items (with_procedure (needing x.0 p) c) rest ps vs y.0 y.1 in
    subst (λ (g : Headed). Same g.procedures (p ∷ ps) g.services vs) same
    (record { procedures = ap (λ qs. annotate 0 0 0 p ∷ qs) inner.procedures; services = inner.services })
same_items c (next_service ∷ rest) ps [] h e = same_items c rest ps [] h e
same_items c (next_service ∷ rest) ps (v ∷ vs) h e =
    let x = then_ok (service_needs c v) _ h e in
    let y = then_ok (least_items c rest ps vs) _ h x.2 in
    let last : Ok (service_first (service_needing x.0 v) y.0) ≡ Ok h = y.2 in
    let same : service_first (service_needing x.0 v) y.0 ≡ h = cc in
    let inner = same_items c rest ps vs y.0 y.1 in
    subst (λ (g : Headed). Same g.procedures ps g.services (v ∷ vs)) same
    (record { procedures = inner.procedures; services = ap (λ ws. annotate_service 0 0 v ∷ ws) inner.services })

procedures_twice : (ps : List Procedure) → map (annotate 0 0 0) (map (annotate 0 0 0) ps) ≡ map (annotate 0 0 0) ps
procedures_twice [] = refl
procedures_twice (p ∷ ps) = ap (λ qs. annotate 0 0 0 p ∷ qs) (procedures_twice ps)

services_twice : (vs : List Service) → map (annotate_service 0 0) (map (annotate_service 0 0) vs) ≡ map (annotate_service 0 0) vs
services_twice [] = refl
services_twice (v ∷ vs) = ap (λ ws. annotate_service 0 0 v ∷ ws) (services_twice vs)

-- ---- answers

-- by the first of the faults of linking
first_told : (plan : Layout) (script : Script) (fs : List LinkFault) (o : Option LinkFault) → FirstIsLinkFault → fs ≡ link_faults plan script → o ≡ slice_get fs 0 → link_fault plan script ≡ o
first_told plan script fs o law is first = sym (law plan script) ∙ ap (λ gs. slice_get gs 0) (sym is) ∙ sym first

pub link_refuses : (plan : Layout) (script : Script) (fs : List LinkFault) (f : LinkFault) (e : LeastFault) → FirstIsLinkFault → fs ≡ link_faults plan script → Some f ≡ slice_get fs 0 → e ≡ of_link f
    → Finds {X = Unit {0}} {Y = Unit {0}} (λ u. u) (Err e) (linked (link_fault plan script))
link_refuses plan script fs f e law is first told =
    subst (λ (x : LeastFault). Finds {X = Unit {0}} {Y = Unit {0}} (λ u. u) (Err x) (linked (link_fault plan script))) (sym told)
    (subst (λ (o : Option LinkFault). Finds {X = Unit {0}} {Y = Unit {0}} (λ u. u) (Err (of_link f)) (linked o)) (sym (first_told plan script fs (Some f) law is first)) (finds f))
  where
    finds : (f : LinkFault) → Finds {X = Unit {0}} {Y = Unit {0}} (λ u. u) (Err (of_link f)) (linked (Some f))
    finds link.OutOfMemory = tt
    finds (link.Broken rule spot case) = refl

pub link_accepts : (plan : Layout) (script : Script) (fs : List LinkFault) → FirstIsLinkFault → fs ≡ link_faults plan script → None ≡ slice_get fs 0 → linked (link_fault plan script) ≡ Ok tt
link_accepts plan script fs law is first = ap linked (first_told plan script fs None law is first)

pub unlinked : {X : Type 0} (view : X → Script) (plan : Layout) (script s0 : Script) (f : LeastFault) → s0 ≡ unannotated script
    → Finds (λ u. u) (Err f) (linked (link_fault plan s0)) → Finds view (Err f) (least plan script)
unfolding and_then
unlinked view plan script s0 fault.OutOfMemory is h = tt
unlinked view plan script s0 (fault.Link rule spot case) is h =
    ap (λ r. and_then r (λ _. and_then (least_from plan (unannotated script) 0 0 0) (λ h. Ok (record (unannotated script) { procedures = h.procedures; services = h.services }))))
    (ap (λ s. linked (link_fault plan s)) (sym is) ∙ h)
unlinked view plan script s0 (fault.Check rule spot case) is h =
    ap (λ r. and_then r (λ _. and_then (least_from plan (unannotated script) 0 0 0) (λ h. Ok (record (unannotated script) { procedures = h.procedures; services = h.services }))))
    (ap (λ s. linked (link_fault plan s)) (sym is) ∙ h)

-- where no rule of linking is broken
whole : (plan : Layout) (script s0 : Script) (u : Unit {0}) → s0 ≡ unannotated script → linked (link_fault plan s0) ≡ Ok u
    → least plan script ≡ and_then (least_from plan (unannotated script) 0 0 0) (λ h. Ok (record (unannotated script) { procedures = h.procedures; services = h.services }))
unfolding and_then
whole plan script s0 u is e =
    ap (λ r. and_then r (λ _. and_then (least_from plan (unannotated script) 0 0 0) (λ h. Ok (record (unannotated script) { procedures = h.procedures; services = h.services }))))
    (ap (λ s. linked (link_fault plan s)) (sym is) ∙ e)

no_fault : (o : Option LinkFault) (u : Unit {0}) → linked o ≡ Ok u → o ≡ None
no_fault None u e = refl
no_fault (Some f) u e = absurd (cc)

pub not_headed : {X : Type 0} (view : X → Script) (plan : Layout) (script s0 new : Script) (u : Unit {0}) (f : LeastFault) → s0 ≡ unannotated script → linked (link_fault plan s0) ≡ Ok u
    → Heads (least_from plan s0 0 0 0) s0 new 0 0 (Err f) → Finds view (Err f) (least plan script)
unfolding and_then
not_headed view plan script s0 new u fault.OutOfMemory is e h = tt
not_headed view plan script s0 new u (fault.Link rule spot case) is e h =
    whole plan script s0 u is e
    ∙ ap (λ r. and_then r (λ h. Ok (record (unannotated script) { procedures = h.procedures; services = h.services }))) (ap (λ s. least_from plan s 0 0 0) (sym is) ∙ h)
not_headed view plan script s0 new u (fault.Check rule spot case) is e h =
    whole plan script s0 u is e
    ∙ ap (λ r. and_then r (λ h. Ok (record (unannotated script) { procedures = h.procedures; services = h.services }))) (ap (λ s. least_from plan s 0 0 0) (sym is) ∙ h)

-- the script has its least headings
pub record IsHeaded (plan : Layout) (script new : Script) : Type 0 where
  pub found : least plan script ≡ Ok new
  pub same : unannotated new ≡ unannotated script
  pub again : link_fault plan new ≡ None
  pub bounds : List Bounds
  pub accepted : accept plan new ≡ Ok bounds
  pub headings : AreHeadings bounds new.services

pub is_headed : (plan : Layout) (script s0 new : Script) (u v : Unit {0}) → s0 ≡ unannotated script → linked (link_fault plan s0) ≡ Ok u
    → Heads (least_from plan s0 0 0 0) s0 new 0 0 (Ok v) → IsHeaded plan script new
unfolding and_then
is_headed plan script s0 new u v is e heads = go (subst (λ s. Heads (least_from plan s 0 0 0) s new 0 0 (Ok v)) is heads)
  where
    s : Script
    s = unannotated script

    go : Heads (least_from plan s 0 0 0) s new 0 0 (Ok v) → IsHeaded plan script new
    go (h, found, there) =
        let there' : new ≡ record s { procedures = h.procedures; services = h.services } = there in
        let items = same_items (bare (λ c. c) plan s) s.order s.procedures s.services h found in
        let accepted = accepted_items (bare (λ c. c) plan s) s.order s.procedures s.services h found in
        let unlinked' : link_fault plan s ≡ None = ap (link_fault plan) (sym is) ∙ no_fault (link_fault plan s0) u e in
        record {
          found =
              whole plan script s0 u is e
              ∙ ap (λ r. and_then r (λ h. Ok (record s { procedures = h.procedures; services = h.services }))) found
              ∙ ap (λ x. Ok x) (sym there');
          same =
              ap unannotated there'
              ∙ ap (λ ps. record s { procedures = ps; services = map (annotate_service 0 0) h.services }) (items.procedures ∙ procedures_twice script.procedures)
              ∙ ap (λ vs. record s { services = vs }) (items.services ∙ services_twice script.services);
          again = ap (link_fault plan) there' ∙ linked_again plan s h (are_empty script.services) unlinked' found;
          bounds = accepted.0;
          accepted = ap (accept plan) there' ∙ accepted.1;
          headings = subst (λ (x : Script). AreHeadings accepted.0 x.services) (sym there') accepted.2;
        }

pub never_unlinked : {X : Type 0} (view : X → Script) (r : Result Script LeastFault) (o : Option LinkFault) (f : LinkFault) → o ≡ None → (f ≢ link.OutOfMemory → o ≡ Some f) → Finds view (Err (of_link f)) r
never_unlinked view r o link.OutOfMemory e h = tt
never_unlinked view r o (link.Broken rule spot case) e h = let bad : o ≡ Some (link.Broken rule spot case) = h (λ same. cc) in absurd (cc)

pub never_refused : {X : Type 0} (view : X → Script) (r : Result Script LeastFault) (plan : Layout) (s : Script) (l : LinkedScript) (f : CheckFault) (ks : List Bounds) → l ≡ record { plan = plan; script = s }
    → accept plan s ≡ Ok ks → Judges l (Err f) → Finds view (Err (of_check f)) r
never_refused view r plan s l check.OutOfMemory ks is e h = tt
never_refused view r plan s l (check.Broken rule spot case) ks is e h =
    let there : accept l.plan l.script ≡ Ok ks = ap (λ (x : LinkedScript). accept x.plan x.script) is ∙ e in
    absurd (cc)

pub same_bounds : (plan : Layout) (s : Script) (l : LinkedScript) (ks js : List Bounds) → l ≡ record { plan = plan; script = s } → accept plan s ≡ Ok ks → accept l.plan l.script ≡ Ok js → ks ≡ js
same_bounds plan s l ks js is e h =
    let there : accept l.plan l.script ≡ Ok ks = ap (λ (x : LinkedScript). accept x.plan x.script) is ∙ e in
    let both : Ok ks ≡ Ok js = sym there ∙ h in
    cc
