-- Tables, LAMs, procedures and services by their numbers, as the tree has them.
use Rattle.std.proofs.Common.{◌≡◌, ℕ, ◌<◌, List, length, get_or, map, Some, sym, ap, subst, ◌∙◌, inl, inr, arith}
use Rattle.std.proofs.lemmas.List.{length-map}
use Rattle.std.proofs.lemmas.Bool.{cases_lt, false≢true}
use Rattle.std.proofs.lemmas.Option.{slice_get-map, slice_get-get_or, slice_get_past}
use Rattle.std.specs.Prelude.{IsSome, option_map, slice_get}
use Rattle.camac_lang.specs.declared.script.Lam.{Lam}
use Rattle.camac_lang.specs.declared.script.Procedure.{Procedure}
use Rattle.camac_lang.specs.declared.script.Service.{Service}
use Rattle.camac_lang.specs.declared.script.Table.{Table}
use Rattle.camac_lang.specs.Tree.{Lam as TreeLam, Procedure as TreeProcedure, Service as TreeService, Table as TreeTable}
use Rattle.camac_lang.specs.View.{lam_of, procedure_of, service_of, table_of}
use Rattle.camac_model.specs.Meaning.{lam_address}

pub lam_at : (ls : List Lam) (tree : List TreeLam) (i : ℕ) (l : Lam) → map lam_of ls ≡ tree → i < length tree → l ≡ get_or ls i l → slice_get (map lam_address tree) i ≡ Some (lam_address (lam_of l))
lam_at ls tree i l e lt is =
    let n : length tree ≡ length ls = sym (ap length e) ∙ length-map ls lam_of in
    ap (λ t. slice_get (map lam_address t) i) (sym e)
    ∙ slice_get-map lam_address (map lam_of ls) i
    ∙ ap (option_map lam_address) (slice_get-map lam_of ls i ∙ ap (option_map lam_of) (slice_get-get_or ls i l (omega (arith, lt, n)) ∙ ap (λ x. Some x) (sym is)))

pub service_at : (ls : List Service) (tree : List TreeService) (i : ℕ) (v : Service) → map service_of ls ≡ tree → i < length tree → v ≡ get_or ls i v → slice_get tree i ≡ Some (service_of v)
service_at ls tree i v e lt is =
    let n : length tree ≡ length ls = sym (ap length e) ∙ length-map ls service_of in
    ap (λ t. slice_get t i) (sym e)
    ∙ slice_get-map service_of ls i
    ∙ ap (option_map service_of) (slice_get-get_or ls i v (omega (arith, lt, n)) ∙ ap (λ x. Some x) (sym is))

pub procedure_at : (ls : List Procedure) (tree : List TreeProcedure) (i : ℕ) (p : Procedure) → map procedure_of ls ≡ tree → i < length tree → p ≡ get_or ls i p → slice_get tree i ≡ Some (procedure_of p)
procedure_at ls tree i p e lt is =
    let n : length tree ≡ length ls = sym (ap length e) ∙ length-map ls procedure_of in
    ap (λ t. slice_get t i) (sym e)
    ∙ slice_get-map procedure_of ls i
    ∙ ap (option_map procedure_of) (slice_get-get_or ls i p (omega (arith, lt, n)) ∙ ap (λ x. Some x) (sym is))

pub table_below : (ts : List Table) (tree : List TreeTable) (i : ℕ) → map table_of ts ≡ tree → IsSome (option_map (λ (ws : List ℕ). Some ws) (slice_get (map (λ (u : TreeTable). u.words) tree) i)) → i < length ts
table_below ts tree i e there =
    let n : length (map (λ (u : TreeTable). u.words) tree) ≡ length ts = length-map tree (λ (u : TreeTable). u.words) ∙ sym (ap length e) ∙ length-map ts table_of in
    elim (cases_lt i (length ts)) [
      | inl less ↦ less
      | inr past ↦ absurd (false≢true (subst (λ o. IsSome (option_map (λ (ws : List ℕ). Some ws) o)) (slice_get_past (map (λ (u : TreeTable). u.words) tree) i (omega (arith, past, n))) there))
    ]

pub table_at : (ts : List Table) (tree : List TreeTable) (i : ℕ) (t : Table) → map table_of ts ≡ tree → i < length ts → t ≡ get_or ts i t → slice_get (map (λ (u : TreeTable). u.words) tree) i ≡ Some t.words.items
table_at ts tree i t e lt is =
    ap (λ u. slice_get (map (λ (w : TreeTable). w.words) u) i) (sym e)
    ∙ slice_get-map (λ (w : TreeTable). w.words) (map table_of ts) i
    ∙ ap (option_map (λ (w : TreeTable). w.words)) (slice_get-map table_of ts i ∙ ap (option_map table_of) (slice_get-get_or ts i t lt ∙ ap (λ x. Some x) (sym is)))
