-- Headings put into a script one after another.
use Rattle.std.proofs.Common.{◌≡◌, ℕ, ◌+◌, ◌<◌, ◌≤◌, zero, suc, List, [], ◌∷◌, ◌++◌, length, take, drop, map, Some, None, Result, Ok, Err, refl, sym, ap, ◌∙◌, subst, add-one, append_assoc, take-append-drop, arith}
use Rattle.std.specs.Prelude.{slice_get}
use Rattle.camac_lang.specs.Headings.{changed_at}
use Rattle.camac_lang.specs.Tree.{Procedure, Service, Item, next_table, next_lam, next_variables, next_procedure, next_service, Script}
use Rattle.camac_lang.specs.View.{procedure_of}
use Rattle.camac_branch.specs.Plan.{Layout}
use Rattle.camac_model.specs.Fine.{Bounds}
use Rattle.camac_rules.specs.Cycles.{Context}
use Rattle.camac_rules.specs.Accept.{bare, with_procedure}
use Rattle.camac_check_simple.specs.declared.context.Context as code
use Rattle.camac_check_simple.specs.Gives.{by_rules, rules_before, whole_of}
use Rattle.camac_check.specs.declared.fault.LeastFault.{LeastFault}
use Rattle.camac_check.specs.declared.fault.LeastFault.TheVariants as fault
use Rattle.camac_check.specs.Least.{Finds, Heads, Headed, after_procedures, and_then, least_from, least_items, needing, procedure_first, procedure_needs, service_first, service_needing, service_needs}
use Rattle.camac_lang.specs.declared.spot.Spot.{Spot}

-- ---- lists

drop_at : {A : Type 0} (xs : List A) (i : ℕ) (x : A) → slice_get xs i ≡ Some x → drop i xs ≡ x ∷ drop (suc i) xs
drop_at [] i x e = absurd (cc)
drop_at (y ∷ xs) zero x e = let same : y ≡ x = cc in ap (λ z. z ∷ xs) same
drop_at (y ∷ xs) (suc i) x e = drop_at xs i x e

drop_none : {A : Type 0} (xs : List A) (i : ℕ) → slice_get xs i ≡ None → drop i xs ≡ []
drop_none [] zero e = refl
drop_none [] (suc i) e = refl
drop_none (y ∷ xs) zero e = absurd (cc)
drop_none (y ∷ xs) (suc i) e = drop_none xs i e

drop_end : {A : Type 0} (xs : List A) (i : ℕ) → length xs ≤ i → drop i xs ≡ []
drop_end [] zero le = refl
drop_end [] (suc i) le = refl
drop_end (y ∷ xs) zero le = absurd (omega (arith, le))
drop_end (y ∷ xs) (suc i) le = let less : length xs ≤ i = omega (arith, le) in drop_end xs i less

drop_changed : {A : Type 0} (xs : List A) (i : ℕ) (f : A → A) → drop (suc i) (changed_at i f xs) ≡ drop (suc i) xs
drop_changed [] i f = refl
drop_changed (y ∷ xs) zero f = refl
drop_changed (y ∷ xs) (suc i) f = drop_changed xs i f

take_changed : {A : Type 0} (xs : List A) (i : ℕ) (f : A → A) (x : A) → slice_get xs i ≡ Some x → take (suc i) (changed_at i f xs) ≡ take i xs ++ f x ∷ []
take_changed [] i f x e = absurd (cc)
take_changed (y ∷ xs) zero f x e = let same : y ≡ x = cc in ap (λ z. f z ∷ []) same
take_changed (y ∷ xs) (suc i) f x e = ap (λ zs. y ∷ zs) (take_changed xs i f x e)

pub element : {A : Type 0} (xs : List A) (i : ℕ) → i < length xs → (x : A) × (slice_get xs i ≡ Some x)
element [] i lt = absurd (omega (arith, lt))
element (x ∷ xs) zero lt = (x, refl)
element (x ∷ xs) (suc i) lt = let less : i < length xs = omega (arith, lt) in element xs i less

map_take : {A B : Type 0} (f : A → B) (n : ℕ) (xs : List A) → map f (take n xs) ≡ take n (map f xs)
map_take f zero xs = refl
map_take f (suc n) [] = refl
map_take f (suc n) (x ∷ xs) = ap (λ ys. f x ∷ ys) (map_take f n xs)

-- ---- one declaration

-- what code passes as what may be referred to after so many procedures
pub same_context : (c : code.Context) (plan : Layout) (s : Script) (done : ℕ)
    → by_rules c ≡ whole_of (λ k. k) plan s → map procedure_of c.procedures.now ≡ s.procedures
    → rules_before c done ≡ after_procedures plan s done
same_context c plan s done rules procedures =
    ap (λ (x : Context). record x { procedures = map procedure_of (take done c.procedures.now) }) rules
    ∙ ap (λ (ps : List Procedure). record (bare (λ k. k) plan s) { procedures = ps }) (map_take procedure_of done c.procedures.now ∙ ap (take done) procedures)

no_item : (plan : Layout) (s : Script) (k done served : ℕ) → slice_get s.order k ≡ None → least_from plan s k done served ≡ Ok (record { procedures = drop done s.procedures; services = drop served s.services })
no_item plan s k done served e =
    ap (λ items. least_items (after_procedures plan s done) items (drop done s.procedures) (drop served s.services)) (drop_none s.order k e)

abbrev from_items : Layout → Script → (done served : ℕ) → List Item → Result Headed LeastFault
from_items plan s done served items = least_items (after_procedures plan s done) items (drop done s.procedures) (drop served s.services)

at_item : (plan : Layout) (s : Script) (k done served : ℕ) (i : Item) → slice_get s.order k ≡ Some i → least_from plan s k done served ≡ from_items plan s done served (i ∷ drop (k + 1) s.order)
at_item plan s k done served i e =
    ap (from_items plan s done served) (drop_at s.order k i e) ∙ ap (λ j. from_items plan s done served (i ∷ drop j s.order)) (sym (add-one k))

pub table_item : (plan : Layout) (s : Script) (k done served : ℕ) → slice_get s.order k ≡ Some next_table → least_from plan s k done served ≡ least_from plan s (k + 1) done served
table_item plan s k done served e = at_item plan s k done served next_table e

pub lam_item : (plan : Layout) (s : Script) (k done served : ℕ) → slice_get s.order k ≡ Some next_lam → least_from plan s k done served ≡ least_from plan s (k + 1) done served
lam_item plan s k done served e = at_item plan s k done served next_lam e

pub variables_item : (plan : Layout) (s : Script) (k done served : ℕ) (spot : Spot) (n : ℕ) → slice_get s.order k ≡ Some (next_variables spot n) → least_from plan s k done served ≡ least_from plan s (k + 1) done served
variables_item plan s k done served spot n e = at_item plan s k done served (next_variables spot n) e

pub no_procedure : (plan : Layout) (s : Script) (k done served : ℕ) → slice_get s.order k ≡ Some next_procedure → length s.procedures ≤ done → least_from plan s k done served ≡ least_from plan s (k + 1) done served
no_procedure plan s k done served e le =
    let none = drop_end s.procedures done le in
    at_item plan s k done served next_procedure e
    ∙ ap (λ ps. least_items (after_procedures plan s done) (next_procedure ∷ drop (k + 1) s.order) ps (drop served s.services)) none
    ∙ sym (ap (λ ps. least_items (after_procedures plan s done) (drop (k + 1) s.order) ps (drop served s.services)) none)

pub no_service : (plan : Layout) (s : Script) (k done served : ℕ) → slice_get s.order k ≡ Some next_service → length s.services ≤ served → least_from plan s k done served ≡ least_from plan s (k + 1) done served
no_service plan s k done served e le =
    let none = drop_end s.services served le in
    at_item plan s k done served next_service e
    ∙ ap (λ vs. least_items (after_procedures plan s done) (next_service ∷ drop (k + 1) s.order) (drop done s.procedures) vs) none
    ∙ sym (ap (λ vs. least_items (after_procedures plan s done) (drop (k + 1) s.order) (drop done s.procedures) vs) none)

-- ---- a heading is put in

abbrev with_procedure_needing : ℕ → Bounds → Script → Script
with_procedure_needing i b s = record s { procedures = changed_at i (needing b) s.procedures }

abbrev with_service_needing : ℕ → Bounds → Script → Script
with_service_needing i b s = record s { services = changed_at i (service_needing b) s.services }

procedure_item : (plan : Layout) (s : Script) (k done served : ℕ) (p : Procedure) → slice_get s.order k ≡ Some next_procedure → slice_get s.procedures done ≡ Some p
    → least_from plan s k done served
    ≡ and_then (procedure_needs (after_procedures plan s done) p)
    (λ b. and_then (least_from plan (with_procedure_needing done b s) (k + 1) (done + 1) served) (λ h. Ok (procedure_first (needing b p) h)))
unfolding and_then
procedure_item plan s k done served p e at =
    at_item plan s k done served next_procedure e
    ∙ ap (λ ps. least_items (after_procedures plan s done) (next_procedure ∷ drop (k + 1) s.order) ps (drop served s.services)) (drop_at s.procedures done p at)
    ∙ sym (later (procedure_needs (after_procedures plan s done) p))
  where
    inner : (b : Bounds) → least_from plan (with_procedure_needing done b s) (k + 1) (done + 1) served
        ≡ least_items (with_procedure (needing b p) (after_procedures plan s done)) (drop (k + 1) s.order) (drop (suc done) s.procedures) (drop served s.services)
    inner b =
        ap (λ n. least_from plan (with_procedure_needing done b s) (k + 1) n served) (add-one done)
        ∙ ap (λ ps. least_items (record (after_procedures plan s done) { procedures = ps }) (drop (k + 1) s.order) (drop (suc done) (changed_at done (needing b) s.procedures)) (drop served s.services)) (take_changed s.procedures done (needing b) p at)
        ∙ ap (λ ps. least_items (with_procedure (needing b p) (after_procedures plan s done)) (drop (k + 1) s.order) ps (drop served s.services)) (drop_changed s.procedures done (needing b))

    later : (r : Result Bounds LeastFault)
        → and_then r (λ b. and_then (least_from plan (with_procedure_needing done b s) (k + 1) (done + 1) served) (λ h. Ok (procedure_first (needing b p) h)))
        ≡ and_then r (λ b. and_then (least_items (with_procedure (needing b p) (after_procedures plan s done)) (drop (k + 1) s.order) (drop (suc done) s.procedures) (drop served s.services)) (λ h. Ok (procedure_first (needing b p) h)))
    later (Ok b) = ap (λ r. and_then r (λ h. Ok (procedure_first (needing b p) h))) (inner b)
    later (Err f) = refl

service_item : (plan : Layout) (s : Script) (k done served : ℕ) (v : Service) → slice_get s.order k ≡ Some next_service → slice_get s.services served ≡ Some v
    → least_from plan s k done served
    ≡ and_then (service_needs (after_procedures plan s done) v)
    (λ b. and_then (least_from plan (with_service_needing served b s) (k + 1) done (served + 1)) (λ h. Ok (service_first (service_needing b v) h)))
unfolding and_then
service_item plan s k done served v e at =
    at_item plan s k done served next_service e
    ∙ ap (λ vs. least_items (after_procedures plan s done) (next_service ∷ drop (k + 1) s.order) (drop done s.procedures) vs) (drop_at s.services served v at)
    ∙ sym (later (service_needs (after_procedures plan s done) v))
  where
    inner : (b : Bounds) → least_from plan (with_service_needing served b s) (k + 1) done (served + 1)
        ≡ least_items (after_procedures plan s done) (drop (k + 1) s.order) (drop done s.procedures) (drop (suc served) s.services)
    inner b =
        ap (λ n. least_from plan (with_service_needing served b s) (k + 1) done n) (add-one served)
        ∙ ap (λ vs. least_items (after_procedures plan s done) (drop (k + 1) s.order) (drop done s.procedures) vs) (drop_changed s.services served (service_needing b))

    later : (r : Result Bounds LeastFault)
        → and_then r (λ b. and_then (least_from plan (with_service_needing served b s) (k + 1) done (served + 1)) (λ h. Ok (service_first (service_needing b v) h)))
        ≡ and_then r (λ b. and_then (least_items (after_procedures plan s done) (drop (k + 1) s.order) (drop done s.procedures) (drop (suc served) s.services)) (λ h. Ok (service_first (service_needing b v) h)))
    later (Ok b) = ap (λ r. and_then r (λ h. Ok (service_first (service_needing b v) h))) (inner b)
    later (Err f) = refl

-- ---- what code answers

pub heads_none : (plan : Layout) (s : Script) (k done served : ℕ) → slice_get s.order k ≡ None → Heads (least_from plan s k done served) s s done served (Ok tt)
heads_none plan s k done served e = (
  record { procedures = drop done s.procedures; services = drop served s.services },
  no_item plan s k done served e,
  ap (λ ps. record s { procedures = ps }) (sym (take-append-drop done s.procedures))
      ∙ ap (λ vs. record s { procedures = take done s.procedures ++ drop done s.procedures; services = vs }) (sym (take-append-drop served s.services)),
)

-- the needs of a procedure could not be found
pub heads_procedure_fault : (plan : Layout) (s t : Script) (k done served : ℕ) (p : Procedure) (f : LeastFault) → slice_get s.order k ≡ Some next_procedure → slice_get s.procedures done ≡ Some p
    → Finds {X = Bounds} (λ b. b) (Err f) (procedure_needs (after_procedures plan s done) p) → Heads (least_from plan s k done served) s t done served (Err f)
unfolding and_then
heads_procedure_fault plan s t k done served p fault.OutOfMemory e at h = tt
heads_procedure_fault plan s t k done served p (fault.Link rule spot case) e at h =
    procedure_item plan s k done served p e at
    ∙ ap (λ r. and_then r (λ b. and_then (least_from plan (with_procedure_needing done b s) (k + 1) (done + 1) served) (λ h. Ok (procedure_first (needing b p) h)))) h
heads_procedure_fault plan s t k done served p (fault.Check rule spot case) e at h =
    procedure_item plan s k done served p e at
    ∙ ap (λ r. and_then r (λ b. and_then (least_from plan (with_procedure_needing done b s) (k + 1) (done + 1) served) (λ h. Ok (procedure_first (needing b p) h)))) h

pub heads_service_fault : (plan : Layout) (s t : Script) (k done served : ℕ) (v : Service) (f : LeastFault) → slice_get s.order k ≡ Some next_service → slice_get s.services served ≡ Some v
    → Finds {X = Bounds} (λ b. b) (Err f) (service_needs (after_procedures plan s done) v) → Heads (least_from plan s k done served) s t done served (Err f)
unfolding and_then
heads_service_fault plan s t k done served v fault.OutOfMemory e at h = tt
heads_service_fault plan s t k done served v (fault.Link rule spot case) e at h =
    service_item plan s k done served v e at
    ∙ ap (λ r. and_then r (λ b. and_then (least_from plan (with_service_needing served b s) (k + 1) done (served + 1)) (λ h. Ok (service_first (service_needing b v) h)))) h
heads_service_fault plan s t k done served v (fault.Check rule spot case) e at h =
    service_item plan s k done served v e at
    ∙ ap (λ r. and_then r (λ b. and_then (least_from plan (with_service_needing served b s) (k + 1) done (served + 1)) (λ h. Ok (service_first (service_needing b v) h)))) h

-- its heading was put in, and then those of the rest
pub heads_procedure : (plan : Layout) (s m t : Script) (k done served : ℕ) (p : Procedure) (b : Bounds) (r : Result (Unit {0}) LeastFault) → slice_get s.order k ≡ Some next_procedure → slice_get s.procedures done ≡ Some p
    → procedure_needs (after_procedures plan s done) p ≡ Ok b → m ≡ with_procedure_needing done b s
    → Heads (least_from plan m (k + 1) (done + 1) served) m t (done + 1) served r → Heads (least_from plan s k done served) s t done served r
unfolding and_then
heads_procedure plan s m t k done served p b r e at needs is h = rest r (subst (λ x. Heads (least_from plan x (k + 1) (done + 1) served) x t (done + 1) served r) is h)
  where
    changed : Script
    changed = with_procedure_needing done b s

    whole : least_from plan s k done served ≡ and_then (least_from plan changed (k + 1) (done + 1) served) (λ h. Ok (procedure_first (needing b p) h))
    whole =
        procedure_item plan s k done served p e at
        ∙ ap (λ r. and_then r (λ b. and_then (least_from plan (with_procedure_needing done b s) (k + 1) (done + 1) served) (λ h. Ok (procedure_first (needing b p) h)))) needs

    parts : (ps : List Procedure) → take (done + 1) changed.procedures ++ ps ≡ take done s.procedures ++ needing b p ∷ ps
    parts ps =
        ap (λ n. take n changed.procedures ++ ps) (add-one done)
        ∙ ap (λ qs. qs ++ ps) (take_changed s.procedures done (needing b) p at)
        ∙ append_assoc (take done s.procedures) (needing b p ∷ []) ps

    rest : (r : Result (Unit {0}) LeastFault) → Heads (least_from plan changed (k + 1) (done + 1) served) changed t (done + 1) served r → Heads (least_from plan s k done served) s t done served r
    rest (Ok u) (h, found, new) = (
      procedure_first (needing b p) h,
      whole ∙ ap (λ r. and_then r (λ h. Ok (procedure_first (needing b p) h))) found,
      new ∙ ap (λ ps. record s { procedures = ps; services = take served s.services ++ h.services }) (parts h.procedures),
    )
    rest (Err fault.OutOfMemory) h = tt
    rest (Err (fault.Link rule spot case)) h = whole ∙ ap (λ r. and_then r (λ h. Ok (procedure_first (needing b p) h))) h
    rest (Err (fault.Check rule spot case)) h = whole ∙ ap (λ r. and_then r (λ h. Ok (procedure_first (needing b p) h))) h

pub heads_service : (plan : Layout) (s m t : Script) (k done served : ℕ) (v : Service) (b : Bounds) (r : Result (Unit {0}) LeastFault) → slice_get s.order k ≡ Some next_service → slice_get s.services served ≡ Some v
    → service_needs (after_procedures plan s done) v ≡ Ok b → m ≡ with_service_needing served b s
    → Heads (least_from plan m (k + 1) done (served + 1)) m t done (served + 1) r → Heads (least_from plan s k done served) s t done served r
unfolding and_then
heads_service plan s m t k done served v b r e at needs is h = rest r (subst (λ x. Heads (least_from plan x (k + 1) done (served + 1)) x t done (served + 1) r) is h)
  where
    changed : Script
    changed = with_service_needing served b s

    whole : least_from plan s k done served ≡ and_then (least_from plan changed (k + 1) done (served + 1)) (λ h. Ok (service_first (service_needing b v) h))
    whole =
        service_item plan s k done served v e at
        ∙ ap (λ r. and_then r (λ b. and_then (least_from plan (with_service_needing served b s) (k + 1) done (served + 1)) (λ h. Ok (service_first (service_needing b v) h)))) needs

    parts : (vs : List Service) → take (served + 1) changed.services ++ vs ≡ take served s.services ++ service_needing b v ∷ vs
    parts vs =
        ap (λ n. take n changed.services ++ vs) (add-one served)
        ∙ ap (λ qs. qs ++ vs) (take_changed s.services served (service_needing b) v at)
        ∙ append_assoc (take served s.services) (service_needing b v ∷ []) vs

    rest : (r : Result (Unit {0}) LeastFault) → Heads (least_from plan changed (k + 1) done (served + 1)) changed t done (served + 1) r → Heads (least_from plan s k done served) s t done served r
    rest (Ok u) (h, found, new) = (
      service_first (service_needing b v) h,
      whole ∙ ap (λ r. and_then r (λ h. Ok (service_first (service_needing b v) h))) found,
      new ∙ ap (λ vs. record s { procedures = take done s.procedures ++ h.procedures; services = vs }) (parts h.services),
    )
    rest (Err fault.OutOfMemory) h = tt
    rest (Err (fault.Link rule spot case)) h = whole ∙ ap (λ r. and_then r (λ h. Ok (service_first (service_needing b v) h))) h
    rest (Err (fault.Check rule spot case)) h = whole ∙ ap (λ r. and_then r (λ h. Ok (service_first (service_needing b v) h))) h
