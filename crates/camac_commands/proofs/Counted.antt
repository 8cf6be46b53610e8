-- Each service of an accepted script has a list of commands.
use Rattle.std.proofs.Common.{◌≡◌, ℕ, zero, suc, ◌+◌, List, [], ◌∷◌, ◌++◌, length, Some, refl, sym, ap, ◌∙◌}
use Rattle.std.specs.Prelude.{slice_get, Result, Ok, Err}
use Rattle.camac_lang.specs.Tree.{Service, Script}
use Rattle.camac_branch.specs.Plan.{Layout}
use Rattle.camac_model.specs.Fine.{Bounds}
use Rattle.camac_rules.specs.Capped.{capped}
use Rattle.camac_rules.specs.Cycles.{Context}
use Rattle.camac_rules.specs.Fault.{Fault}
use Rattle.camac_rules.specs.Accept.{Section, of_procedure, of_service, bare, with_procedure, accept_procedure, accept_service, accept_sections, accept}
use Rattle.camac_rules.specs.Refusal.{◌>>=◌, go_on}
use Rattle.camac_check_costs.specs.Bodies.{costs_over, sections_of, procedure_costs}
use Rattle.camac_commands.specs.Commands.{Command, made_block, commands_over, commands_of}

-- how many of these are services
abbrev count : List Section → ℕ
count [] = 0
count (of_procedure p ∷ rest) = count rest
count (of_service v ∷ rest) = suc (count rest)

lists_all : (c : Context) (ps : List (List Command)) (done served : ℕ) (ss : List Section) → length (commands_over ps ss (costs_over c done served ss)) ≡ count ss
lists_all c ps done served [] = refl
lists_all c ps done served (of_procedure p ∷ rest) = lists_all (with_procedure p c) (ps ++ made_block ps p.body (procedure_costs c done p).rows ∷ []) (done + 1) served rest
lists_all c ps done served (of_service v ∷ rest) = ap suc (lists_all c ps done (served + 1) rest)

bounds_all : (c : Context) (ss : List Section) (ks : List Bounds) → accept_sections c ss ≡ Ok ks → length ks ≡ count ss
unfolding go_on
bounds_all c [] ks e = let same : [] ≡ ks = cc in ap length (sym same)
bounds_all c (of_procedure p ∷ rest) ks e = go (accept_procedure c p) (bounds_all (with_procedure p c) rest ks) e
  where
    go : {A : Type 0} (r : Result A Fault) → (accept_sections (with_procedure p c) rest ≡ Ok ks → length ks ≡ count rest) → (r >>= (λ found. accept_sections (with_procedure p c) rest)) ≡ Ok ks → length ks ≡ count rest
    go (Ok found) ih e = ih e
    go (Err f) ih e = absurd (cc)
bounds_all c (of_service v ∷ rest) ks e = go (accept_service c v) (bounds_all c rest) e
  where
    last : (first : Bounds) (r : Result (List Bounds) Fault) → ((ls : List Bounds) → r ≡ Ok ls → length ls ≡ count rest) → (r >>= (λ others. Ok (first ∷ others))) ≡ Ok ks → length ks ≡ suc (count rest)
    last first (Ok others) ih e = let same : first ∷ others ≡ ks = cc in ap length (sym same) ∙ ap suc (ih others refl)
    last first (Err f) ih e = absurd (cc)

    go : (r : Result Bounds Fault) → ((ls : List Bounds) → accept_sections c rest ≡ Ok ls → length ls ≡ count rest) → (r >>= (λ first. accept_sections c rest >>= (λ others. Ok (first ∷ others)))) ≡ Ok ks
        → length ks ≡ suc (count rest)
    go (Ok first) ih e = last first (accept_sections c rest) ih e
    go (Err f) ih e = absurd (cc)

-- where one list is as long as another, it has what stands at the same place
at_place : {A B : Type 0} (xs : List A) (ys : List B) → length xs ≡ length ys → (i : ℕ) (y : B) → slice_get ys i ≡ Some y → (x : A) × (slice_get xs i ≡ Some x)
at_place [] [] e i y at = absurd (cc)
at_place (x ∷ xs) [] e i y at = absurd (cc)
at_place [] (z ∷ ys) e i y at = absurd (cc)
at_place (x ∷ xs) (z ∷ ys) e zero y at = (x, refl)
at_place (x ∷ xs) (z ∷ ys) e (suc i) y at = let less : length xs ≡ length ys = cc in at_place xs ys less i y at

pub service_listed : (plan : Layout) (script : Script) (ks : List Bounds) → accept plan script ≡ Ok ks → length ks ≡ length script.services → (i : ℕ) (v : Service) → slice_get script.services i ≡ Some v
    → (cs : List Command) × (slice_get (commands_of plan script) i ≡ Some cs)
service_listed plan script ks accepted many i v at =
    at_place (commands_of plan script) script.services
    (lists_all (bare capped plan script) [] 0 0 (sections_of script) ∙ sym (bounds_all (bare (λ c. c) plan script) (sections_of script) ks accepted) ∙ many) i v at
