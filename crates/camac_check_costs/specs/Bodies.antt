-- The bodies of a script in the order of the text, with their bounds and the rows of their statements.
use Rattle.std.specs.Prelude.{ℕ, ◌+◌, List, [], ◌∷◌, Some, Result, Ok, Err}
use Rattle.camac_lang.specs.Tree.{Block, Procedure, Service, Script}
use Rattle.camac_branch.specs.Plan.{Layout}
use Rattle.camac_model.specs.Fine.{Bounds}
use Rattle.camac_rules.specs.declared.case.Body.TheVariants as body
use Rattle.camac_rules.specs.Fault.{Fault}
use Rattle.camac_rules.specs.Refusal.{if_reached}
use Rattle.camac_rules.specs.Known.{Known}
use Rattle.camac_rules.specs.Costs.{Verdict, unreached}
use Rattle.camac_rules.specs.Cycles.{Context, Around, alone_in}
use Rattle.camac_rules.specs.Procedures.{at_entry}
use Rattle.camac_rules.specs.Statements.{accept_block}
use Rattle.camac_rules.specs.Accept.{Section, of_procedure, of_service, sections, at_start, bare, own_body, with_procedure}
use Rattle.camac_check_costs.specs.declared.bodies.Owner.{Owner}
use Rattle.camac_check_costs.specs.declared.bodies.Owner.TheVariants as owner
use Rattle.camac_check_rows.specs.declared.row.Row.{Row}
use Rattle.camac_check_rows.specs.Rows.{block_rows, block_verdict}
use Rattle.camac_check_costs.specs.Body.{BodyRows}

-- of what is refused there is none
abbrev pub rows_if : Result Verdict Fault → List Row → List Row
rows_if (Ok v) rows = rows
rows_if (Err f) rows = []

abbrev pub body_costs : Context → Owner → Around → Block → Known → BodyRows
body_costs c whose around b k = record {
  owner = whose;
  costs = (block_verdict c around b k).costs;
  rows = rows_if (if_reached unreached k (accept_block c around b)) (block_rows c around b k);
}

-- from the ranges of its parameters
abbrev pub procedure_costs : Context → ℕ → Procedure → BodyRows
procedure_costs c i p = body_costs c (owner.Procedure i) (alone_in (own_body c)) p.body (at_entry p.parameters)

abbrev pub service_costs : Context → ℕ → Service → BodyRows
service_costs c i v = body_costs c (owner.Service i) (alone_in (body.Service v.lam)) v.body (Some at_start)

-- those of these sections, after so many procedures and services
abbrev pub costs_over : Context → (done served : ℕ) → List Section → List BodyRows
costs_over c done served [] = []
costs_over c done served (of_procedure p ∷ rest) = procedure_costs c done p ∷ costs_over (with_procedure p c) (done + 1) served rest
costs_over c done served (of_service v ∷ rest) = service_costs c served v ∷ costs_over c done (served + 1) rest

abbrev pub sections_of : Script → List Section
sections_of s = sections s.order s.procedures s.services

-- the procedures and services of a script, where each cost is limited so
abbrev pub costs_with : (Bounds → Bounds) → Layout → Script → List BodyRows
costs_with limit plan s = costs_over (bare limit plan s) 0 0 (sections_of s)
