-- Acceptance of a linked script: services in text order, each within its heading.
use Rattle.std.specs.Prelude.{List, [], ◌∷◌, ◌++◌, map, length, Result, Ok}
use Rattle.camac_lang.specs.Tree.{Procedure, Service, Item, next_table, next_lam, next_variables, next_procedure, next_service, Script}
use Rattle.camac_range.specs.Number.{greatest}
use Rattle.camac_branch.specs.Plan.{Layout}
use Rattle.camac_model.specs.Meaning.{lam_address}
use Rattle.camac_model.specs.Fine.{Bounds}
use Rattle.camac_rules.specs.declared.case.Body.{Body}
use Rattle.camac_rules.specs.declared.case.Body.TheVariants as body
use Rattle.camac_rules.specs.Fault.{Fault}
use Rattle.camac_rules.specs.Refusal.{◌>>=◌}
use Rattle.camac_rules.specs.Known.{Facts, facts}
use Rattle.camac_rules.specs.Costs.{costs}
use Rattle.camac_rules.specs.Cycles.{Context, alone_in}
pub use Rattle.camac_rules.specs.Procedures.{within, procedure_rule}
use Rattle.camac_rules.specs.Statements.{accept_block}
use Rattle.camac_rules.specs.EachLimit.{count_block}

-- variables are 0, registers unset
abbrev pub at_start : Facts
at_start = facts [] []

-- the body of the procedure that comes after those before
abbrev pub own_body : Context → Body
own_body c = body.Procedure (length c.procedures)

abbrev pub accept_procedure : Context → Procedure → Result Bounds Fault
accept_procedure c p = do
  judged ← count_block (own_body c) p.body 0
  procedure_rule (own_body c) (accept_block c (alone_in (own_body c)) p.body) p

-- a procedure can be called after it
abbrev pub with_procedure : Procedure → Context → Context
with_procedure p c = record c { procedures = c.procedures ++ p ∷ [] }

-- what a service can cost
abbrev pub accept_service : Context → Service → Result Bounds Fault
accept_service c s = do
  judged ← count_block (body.Service s.lam) s.body 0
  v ← accept_block c (alone_in (body.Service s.lam)) s.body at_start
  within (body.Service s.lam) (costs s.cycles s.words greatest) v.costs s.spot

-- what has a body: a procedure or a service
pub data Section : Type 0 where
  of_procedure : Procedure → Section
  of_service : Service → Section

-- the sections of these declarations, in the order of the text
abbrev pub sections : List Item → List Procedure → List Service → List Section
sections [] ps vs = []
sections (next_table ∷ rest) ps vs = sections rest ps vs
sections (next_lam ∷ rest) ps vs = sections rest ps vs
sections (next_variables spot n ∷ rest) ps vs = sections rest ps vs
sections (next_procedure ∷ rest) [] vs = sections rest [] vs
sections (next_procedure ∷ rest) (p ∷ ps) vs = of_procedure p ∷ sections rest ps vs
sections (next_service ∷ rest) ps [] = sections rest ps []
sections (next_service ∷ rest) ps (v ∷ vs) = of_service v ∷ sections rest ps vs

-- what each service of these can cost
abbrev pub accept_sections : Context → List Section → Result (List Bounds) Fault
accept_sections c [] = Ok []
accept_sections c (of_procedure p ∷ rest) = do
  found ← accept_procedure c p
  accept_sections (with_procedure p c) rest
accept_sections c (of_service v ∷ rest) = do
  first ← accept_service c v
  others ← accept_sections c rest
  Ok (first ∷ others)

abbrev pub accept_items : Context → List Item → List Procedure → List Service → Result (List Bounds) Fault
accept_items c items ps vs = accept_sections c (sections items ps vs)

-- the tables and LAMs of a script, and no procedure
abbrev pub bare : (Bounds → Bounds) → Layout → Script → Context
bare limit plan script = record {
  plan = plan;
  tables = map (λ t. t.words) script.tables;
  lams = map lam_address script.lams;
  procedures = [];
  limit = limit;
}

abbrev pub accept_with : (Bounds → Bounds) → Layout → Script → Result (List Bounds) Fault
accept_with limit plan script =
    accept_items (bare limit plan script) script.order script.procedures script.services

-- what each service can cost, or the first rule broken and its spot
abbrev pub accept : Layout → Script → Result (List Bounds) Fault
accept plan script = accept_with (λ c. c) plan script
