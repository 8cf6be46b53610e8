-- The least headings of a script: the numbers that its bodies need, where each call costs what its procedure needs.
use Rattle.std.specs.Prelude.{◌≡◌, ℕ, List, [], ◌∷◌, ◌++◌, take, drop, Option, Some, None, Result, Ok, Err, nat_le, if◌then◌else◌}
use Rattle.camac_lang.specs.Headings.{annotate, annotate_service, unannotated}
use Rattle.camac_lang.specs.Tree.{Procedure, Service, Item, next_table, next_lam, next_variables, next_procedure, next_service, Script}
use Rattle.camac_range.specs.Number.{greatest}
use Rattle.camac_branch.specs.Plan.{Layout}
use Rattle.camac_names.specs.Link.{link_fault}
use Rattle.camac_names.specs.declared.fault.LinkCase.TheVariants.{Words}
use Rattle.camac_names.specs.declared.fault.LinkFault.{LinkFault}
use Rattle.camac_names.specs.declared.fault.LinkRule.TheVariants.{EventAboveBuffer}
use Rattle.camac_model.specs.Fine.{Bounds}
use Rattle.camac_rules.specs.declared.rule.CheckRule.TheVariants.{TooManyWords}
use Rattle.camac_rules.specs.Fault.{Fault, broken}
use Rattle.camac_rules.specs.Costs.{costs}
use Rattle.camac_rules.specs.declared.case.Body.{Body}
use Rattle.camac_rules.specs.declared.case.Body.TheVariants as body
use Rattle.camac_rules.specs.Cases.{budget}
use Rattle.camac_rules.specs.Cycles.{Context, alone_in}
use Rattle.camac_rules.specs.EachLimit.{count_block}
use Rattle.camac_rules.specs.Statements.{accept_block}
use Rattle.camac_rules.specs.Accept.{at_start, within, accept_procedure, with_procedure, bare}
use Rattle.camac_check.specs.Faults.{of_link}
use Rattle.camac_check.specs.declared.fault.LeastFault.{LeastFault}
use Rattle.camac_check.specs.declared.fault.LeastFault.TheVariants.{OutOfMemory, Link, Check}
use Rattle.camac_lang.specs.declared.spot.Spot.{Spot}

-- What was answered, seen by view, is what is given here, unless memory ran out.
abbrev pub Finds : {X Y : Type 0} → (X → Y) → Result X LeastFault → Result Y LeastFault → Type 0
Finds view (Ok x) r = r ≡ Ok (view x)
Finds view (Err OutOfMemory) r = Unit {0}
Finds view (Err (Link rule spot case)) r = r ≡ Err (Link rule spot case)
Finds view (Err (Check rule spot case)) r = r ≡ Err (Check rule spot case)

-- goes on with what a step allows
unfoldable pub and_then : {A B : Type 0} → Result A LeastFault → (A → Result B LeastFault) → Result B LeastFault
and_then (Ok x) f = f x
and_then (Err e) f = Err e

-- by the rules of linking, and by those of the checker
abbrev pub linked : Option LinkFault → Result (Unit {0}) LeastFault
linked None = Ok tt
linked (Some f) = Err (of_link f)

abbrev pub checked : {A : Type 0} → Result A Fault → Result A LeastFault
checked (Ok x) = Ok x
checked (Err (broken rule spot case)) = Err (Check rule spot case)

-- headings with these numbers
abbrev pub needing : Bounds → Procedure → Procedure
needing k p = annotate k.cycles k.words k.steps p

abbrev pub service_needing : Bounds → Service → Service
service_needing k v = annotate_service k.cycles k.words v

-- the greatest numbers of a heading
abbrev pub most : Bounds
most = costs greatest greatest greatest

-- what a procedure needs
abbrev pub procedure_needs : Context → Procedure → Result Bounds LeastFault
procedure_needs c p = checked (accept_procedure c (needing most p))

-- so many words of an event are a number of a heading, and in the plan's buffer
abbrev pub event_fits : Body → Layout → ℕ → Spot → Result (Unit {0}) LeastFault
event_fits place plan words spot =
    if nat_le words greatest then if nat_le words plan.buffer then Ok tt else Err (Link EventAboveBuffer spot (Words words plan.buffer))
    else Err (Check TooManyWords spot (budget place words greatest))

-- what a service needs
abbrev pub service_needs : Context → Service → Result Bounds LeastFault
service_needs c v =
    and_then (checked (count_block (body.Service v.lam) v.body 0))
    (λ judged. and_then (checked (accept_block c (alone_in (body.Service v.lam)) v.body at_start))
    (λ found. and_then (event_fits (body.Service v.lam) c.plan found.costs.words v.spot) (λ _. checked (within (body.Service v.lam) most found.costs v.spot))))

-- procedures and services
pub record Headed : Type 0 where
  pub procedures : List Procedure
  pub services : List Service

abbrev pub procedure_first : Procedure → Headed → Headed
procedure_first p h = record h { procedures = p ∷ h.procedures }

abbrev pub service_first : Service → Headed → Headed
service_first v h = record h { services = v ∷ h.services }

-- the procedures and services from here on, in the order of the text, each with what it needs
abbrev pub least_items : Context → List Item → List Procedure → List Service → Result Headed LeastFault
least_items c [] ps vs = Ok (record { procedures = ps; services = vs })
least_items c (next_table ∷ rest) ps vs = least_items c rest ps vs
least_items c (next_lam ∷ rest) ps vs = least_items c rest ps vs
least_items c (next_variables spot n ∷ rest) ps vs = least_items c rest ps vs
least_items c (next_procedure ∷ rest) [] vs = least_items c rest [] vs
least_items c (next_procedure ∷ rest) (p ∷ ps) vs =
    and_then (procedure_needs c p)
    (λ k. and_then (least_items (with_procedure (needing k p) c) rest ps vs) (λ h. Ok (procedure_first (needing k p) h)))
least_items c (next_service ∷ rest) ps [] = least_items c rest ps []
least_items c (next_service ∷ rest) ps (v ∷ vs) =
    and_then (service_needs c v)
    (λ k. and_then (least_items c rest ps vs) (λ h. Ok (service_first (service_needing k v) h)))

-- of a script with no numbers in its headings
abbrev pub least_unannotated : Layout → Script → Result Script LeastFault
least_unannotated plan s =
    and_then (linked (link_fault plan s))
    (λ _. and_then (least_items (bare (λ k. k) plan s) s.order s.procedures s.services)
    (λ h. Ok (record s { procedures = h.procedures; services = h.services })))

-- the script with its least headings, or the first rule that is broken whatever its headings say
abbrev pub least : Layout → Script → Result Script LeastFault
least plan script = least_unannotated plan (unannotated script)

-- the bounds of each service are the numbers of its heading
abbrev pub AreHeadings : List Bounds → List Service → Type 0
AreHeadings [] vs = Unit {0}
AreHeadings (k ∷ ks) [] = ⊥
AreHeadings (k ∷ ks) (v ∷ vs) = (k.cycles ≡ v.cycles) × (k.words ≡ v.words) × AreHeadings ks vs

-- what may be referred to after so many procedures
abbrev pub after_procedures : Layout → Script → ℕ → Context
after_procedures plan script n = record (bare (λ k. k) plan script) { procedures = take n script.procedures }

-- a script with these after so many of its own
abbrev pub with_rest : Script → (done served : ℕ) → Headed → Script
with_rest s done served h =
    record s { procedures = take done s.procedures ++ h.procedures; services = take served s.services ++ h.services }

-- what the procedures and services after so many need, from the declaration of this number on
abbrev pub least_from : Layout → Script → (k done served : ℕ) → Result Headed LeastFault
least_from plan s k done served =
    least_items (after_procedures plan s done) (drop k s.order) (drop done s.procedures) (drop served s.services)

-- The script has these headings after so many of its own, or why not; unless memory ran out.
abbrev pub Heads : Result Headed LeastFault → (old new : Script) → (done served : ℕ) → Result (Unit {0}) LeastFault → Type 0
Heads found old new done served (Ok u) = (h : Headed) × (found ≡ Ok h) × (new ≡ with_rest old done served h)
Heads found old new done served (Err OutOfMemory) = Unit {0}
Heads found old new done served (Err (Link rule spot case)) = found ≡ Err (Link rule spot case)
Heads found old new done served (Err (Check rule spot case)) = found ≡ Err (Check rule spot case)
