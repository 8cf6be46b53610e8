-- Every run of an accepted script keeps to the rows of its costs.
use Rattle.std.proofs.Common.{◌≡◌, ℕ, ◌+◌, zero, suc, false, List, [], ◌∷◌, ◌++◌, Some, Result, Ok, refl, sym, ap, subst, ◌∙◌, append_assoc, arith}
use Rattle.std.specs.Prelude.{slice_get}
use Rattle.std.proofs.lemmas.Bool.{false≢true}
use Rattle.camac_lang.specs.Tree.{Procedure, Service, Item, next_table, next_lam, next_variables, next_procedure, next_service, Script}
use Rattle.camac_lang.proofs.Standing.{procedures_stand, services_stand}
use Rattle.camac_branch.specs.Plan.{Layout}
use Rattle.camac_branch.proofs.Allowed.{allowed-in_range}
use Rattle.camac_model.specs.State.{fresh}
use Rattle.camac_model.specs.Fine.{Bounds}
use Rattle.camac_model.specs.Meaning.{context, entered}
use Rattle.camac_rules.specs.Fault.{Fault}
use Rattle.camac_rules.specs.Refusal.{go_on}
use Rattle.camac_rules.specs.declared.case.Body.TheVariants as body
use Rattle.camac_rules.specs.Cycles.{alone_in}
use Rattle.camac_rules.specs.Procedures.{at_entry}
use Rattle.camac_rules.specs.Accept.{of_procedure, of_service, sections, at_start, own_body, accept_procedure, accept_service, accept_items}
use Rattle.camac_rules.proofs.Actions.{Setting, HasWidths, seen}
use Rattle.camac_rules.proofs.Accepted.{lockless, first_accepted, in_range_small, at_call}
use Rattle.camac_rules.proofs.Lockless.{block_has_lock}
use Rattle.camac_rules.proofs.Orders.{order_procedures}
use Rattle.camac_rules.proofs.ParameterNumbers.{AreNumbers, parameters_are_numbers}
use Rattle.camac_rules.proofs.Routines.{called, Serves, entry_reached}
use Rattle.camac_rules.proofs.Services.{outermost, start_inside}
use Rattle.camac_rules.proofs.Settings.{setting, Matched, found_at, AreLockless}
use Rattle.camac_check.proofs.Capped.{in_code}
use Rattle.camac_check_costs.specs.Bodies.{rows_if, procedure_costs, service_costs, costs_over}
use Rattle.camac_check_rows.specs.Rows.{block_rows}
use Rattle.camac_laws.specs.Made.{made, SectionKeeps, SectionsKeep, RowsAreOfRuns}
use Rattle.camac_laws.proofs.Shares.{Low, low, procedure_in_code, service_in_code, go_ok}
use Rattle.camac_laws.proofs.Made.{block_keeps}
use Rattle.camac_laws.proofs.MadeLists.{AllIn, all_keep}
use Rattle.camac_rules.specs.Fault.{Fault}

front : {A : Type 0} (xs ys : List A) (j : ℕ) (x : A) → slice_get xs j ≡ Some x → slice_get (xs ++ ys) j ≡ Some x
front [] ys j x e = absurd (cc)
front (z ∷ xs) ys zero x e = e
front (z ∷ xs) ys (suc j) x e = front xs ys j x e

record ProcedureFits (p : Procedure) : Type 0 where
  numbers : AreNumbers p.parameters
  low' : Low p.cycles p.words p.steps
  free : block_has_lock p.body ≡ false

abbrev ProceduresFit : List Procedure → Type 0
ProceduresFit ps = (j : ℕ) (p : Procedure) → slice_get ps j ≡ Some p → ProcedureFits p

abbrev ServicesLow : List Service → Type 0
ServicesLow vs = (j : ℕ) (v : Service) → slice_get vs j ≡ Some v → Low v.cycles v.words 0

free_at : (ps : List Procedure) → AreLockless ps → (j : ℕ) (p : Procedure) → slice_get ps j ≡ Some p → block_has_lock p.body ≡ false
free_at [] h j p e = absurd (cc)
free_at (q ∷ ps) h zero p e = let same : q ≡ p = cc in subst (λ x. block_has_lock x.body ≡ false) same h.0
free_at (q ∷ ps) h (suc j) p e = free_at ps h.1 j p e

module _ (plan : Layout) (script : Script) (narrow : HasWidths plan) (all : Matched plan (context plan script).routines script.procedures) where
  abbrev after : List Procedure → Setting
  after done' = setting plan script (context plan script).routines done'

  serves : (done' ps : List Procedure) → done' ++ ps ≡ script.procedures → Serves (after done')
  serves done' ps e = record {
    each = λ j q is. (
        let h = found_at plan (context plan script).routines script.procedures j q all (ap (λ l. slice_get l j) (sym e) ∙ front done' ps j q is) in
        record { routine = h.routine; is = h.is; sound = h.sound }
        );
  }

  procedure_keeps : (done' ps : List Procedure) → done' ++ ps ≡ script.procedures → (i : ℕ) (p : Procedure) (k : Bounds) → ProcedureFits p → accept_procedure (seen (after done')) p ≡ Ok k
      → SectionKeeps plan script (of_procedure p) (procedure_costs (in_code (seen (after done'))) i p).rows
  procedure_keeps done' ps e i p k fits accepted n le vs inside b q x answers =
      let c : Setting = after done' in
      let l = fits.low' in
      let found = procedure_in_code (seen c) p k (low p.cycles l.cycles_low) (low p.words l.words_low) (low p.steps l.steps_low) accepted in
      let around = called (own_body (seen c)) (λ j. (b j).locked) in
      let small = in_range_small vs p.parameters inside fits.numbers in
      let rows = block_rows (in_code (seen c)) (alone_in (own_body (seen c))) p.body (at_entry p.parameters) in
      all_keep _ _
      (subst (λ r. AllIn 1 (rows_if r rows) (made (context plan script) n p.body (entered vs (at_call b q x answers)))) (sym found.is)
      (block_keeps c narrow (serves done' ps e) n le around p.body (λ t. absurd (false≢true (sym fits.free ∙ t))) (at_entry p.parameters) found.whole found.is found.below (entered vs (at_call b q x answers))
      (entry_reached (own_body (seen c)) (λ j. (b j).locked) p.parameters vs (at_call b q x answers) inside small (λ j. refl))))

  service_keeps : (done' ps : List Procedure) → done' ++ ps ≡ script.procedures → (i : ℕ) (v : Service) (k : Bounds) → Low v.cycles v.words 0 → accept_service (seen (after done')) v ≡ Ok k
      → SectionKeeps plan script (of_service v) (service_costs (in_code (seen (after done'))) i v).rows
  service_keeps done' ps e i v k l accepted n le b answers =
      let c : Setting = after done' in
      let found = service_in_code (seen c) v k (low v.cycles l.cycles_low) (low v.words l.words_low) accepted in
      let rows = block_rows (in_code (seen c)) (alone_in (body.Service v.lam)) v.body (Some at_start) in
      all_keep _ _
      (subst (λ r. AllIn 1 (rows_if r rows) (made (context plan script) n v.body (fresh b answers))) (sym found.is)
      (block_keeps c narrow (serves done' ps e) n le (outermost (body.Service v.lam)) v.body (λ t j. refl) (Some at_start) found.whole found.is found.below (fresh b answers)
      (start_inside (body.Service v.lam) b answers)))

  items_keep : (i j : ℕ) (items : List Item) (done' ps : List Procedure) (vs : List Service) (ks : List Bounds) → done' ++ ps ≡ script.procedures → ProceduresFit ps → ServicesLow vs
      → accept_items (seen (after done')) items ps vs ≡ Ok ks → SectionsKeep plan script (sections items ps vs) (costs_over (in_code (seen (after done'))) i j (sections items ps vs))
  items_keep i j [] done' ps vs ks e hp hv a = tt
  items_keep i j (next_table ∷ rest) done' ps vs ks e hp hv a = items_keep i j rest done' ps vs ks e hp hv a
  items_keep i j (next_lam ∷ rest) done' ps vs ks e hp hv a = items_keep i j rest done' ps vs ks e hp hv a
  items_keep i j (next_variables spot n ∷ rest) done' ps vs ks e hp hv a = items_keep i j rest done' ps vs ks e hp hv a
  items_keep i j (next_procedure ∷ rest) done' [] vs ks e hp hv a = items_keep i j rest done' [] vs ks e hp hv a
  items_keep i j (next_procedure ∷ rest) done' (p ∷ ps) vs ks e hp hv a =
      let (k, accepted, others) = go_ok (accept_procedure (seen (after done')) p) (λ k. accept_items (seen (after (done' ++ p ∷ []))) rest ps vs) ks a in (
        procedure_keeps done' (p ∷ ps) e i p k (hp 0 p refl) accepted,
        items_keep (i + 1) j rest (done' ++ p ∷ []) ps vs ks (append_assoc done' (p ∷ []) ps ∙ e) (λ n q is. hp (suc n) q is) hv others,
      )
  items_keep i j (next_service ∷ rest) done' ps [] ks e hp hv a = items_keep i j rest done' ps [] ks e hp hv a
  items_keep i j (next_service ∷ rest) done' ps (v ∷ vs) ks e hp hv a =
      let next_ones : Result (List Bounds) Fault = accept_items (seen (after done')) rest ps vs in
      let (k, accepted, then) = go_ok (accept_service (seen (after done')) v) (λ k. go_on next_ones (λ others. Ok (k ∷ others))) ks a in
      let (others, rest_ok, same) = go_ok next_ones (λ others. Ok (k ∷ others)) ks then in
      (service_keeps done' ps e j v k (hv 0 v refl) accepted, items_keep i (j + 1) rest done' ps vs others e hp (λ n w is. hv (suc n) w is) rest_ok)

pub rows_are_of_runs : RowsAreOfRuns
rows_are_of_runs plan script ks is formed accepted =
    let first = first_accepted plan script ks is formed accepted in
    let all = first.procedures.all (order_procedures script formed) in
    let free = lockless script formed in
    items_keep plan script (λ at f w h. (allowed-in_range plan is at f w h).1) all 0 0 script.order [] script.procedures script.services ks refl
    (λ j p at. (
    let h = procedures_stand script formed j p at in
    record {
      numbers = parameters_are_numbers script formed j p at;
      low' = record { cycles_low = h.cycles; words_low = h.words; steps_low = h.steps };
      free = free_at script.procedures free j p at;
    }
    ))
    (λ j v at. (let h = services_stand script formed j v at in record { cycles_low = h.cycles; words_low = h.words; steps_low = omega arith })) accepted
