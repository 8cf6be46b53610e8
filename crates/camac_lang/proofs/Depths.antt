-- The depths of procedures and services, and what can be called after each procedure.
use Rattle.std.proofs.Common.{◌≡◌, ℕ, suc, ◌+◌, ◌<◌, ◌≤◌, List, [], ◌∷◌, ◌++◌, length, map, get_or, drop, drop-cons, add-one, Some, refl, sym, ap, ◌∙◌, arith}
use Rattle.std.specs.Prelude.{max, take, IsTrue, option_map, slice_get}
use Rattle.std.proofs.lemmas.Option.{slice_get-map}
use Rattle.camac_lang.specs.Depth.{inner_depth, callable, callables_after, script_depth}
use Rattle.camac_lang.specs.Expressions.{Callable}
use Rattle.camac_lang.specs.Scope.{is_well_formed}
use Rattle.camac_lang.specs.Tests.{most}
use Rattle.camac_lang.specs.Tree.{Procedure, Service, Script}
use Rattle.camac_lang.specs.View.{procedure_of, callable_of}
use Rattle.camac_lang.specs.declared.depth.Callable as rust_callable
use Rattle.camac_lang.specs.declared.script.Procedure as rust_procedure
use Rattle.camac_lang.proofs.Standing.{procedures_stand, services_stand}

most_push : {A : Type 0} (f : A → ℕ) (xs : List A) (x : A) → most f (xs ++ x ∷ []) ≡ max (most f xs) (f x)
most_push f [] x = omega arith
most_push f (y ∷ xs) x = let h = most_push f xs x in omega arith

-- what was there stays, so the deepest is at least as deep
most_stays : (qs : List Callable) (ps : List Procedure) → most (λ q. q.depth) qs ≤ most (λ q. q.depth) (callables_after qs ps)
most_stays qs [] = omega arith
most_stays qs (p ∷ ps) =
    let h = most_stays (qs ++ callable qs p ∷ []) ps in
    let g = most_push (λ q. q.depth) qs (callable qs p) in
    omega arith

-- the next procedure is no deeper than the deepest
pub next_below : (qs : List Callable) (p : Procedure) (ps : List Procedure) (n : ℕ) → most (λ q. q.depth) (callables_after qs (p ∷ ps)) ≤ n → suc (inner_depth qs p.body) ≤ n
next_below qs p ps n le =
    let h = most_stays (qs ++ callable qs p ∷ []) ps in
    let g = most_push (λ q. q.depth) qs (callable qs p) in
    omega arith

pub most_below : {A : Type 0} (f : A → ℕ) (xs : List A) (n : ℕ) → ((i : ℕ) (x : A) → slice_get xs i ≡ Some x → f x ≤ n) → most f xs ≤ n
most_below f [] n h = omega arith
most_below f (x ∷ xs) n h =
    let here = h 0 x refl in
    let rest = most_below f xs n (λ i y e. h (suc i) y e) in
    omega arith

procedures_below : (qs : List Callable) (ps : List Procedure) (n : ℕ) → most (λ q. q.depth) qs ≤ n → ((i : ℕ) (p : Procedure) → slice_get ps i ≡ Some p → suc (inner_depth (callables_after qs (take i ps)) p.body) ≤ n) → most (λ q. q.depth) (callables_after qs ps) ≤ n
procedures_below qs [] n le h = le
procedures_below qs (p ∷ ps) n le h =
    let here : suc (inner_depth qs p.body) ≤ n = h 0 p refl in
    let g = most_push (λ q. q.depth) qs (callable qs p) in
    procedures_below (qs ++ callable qs p ∷ []) ps n (omega arith) (λ i q e. h (suc i) q e)

-- a well-formed script is at most 16 deep
pub shallow : (s : Script) → IsTrue (is_well_formed s) → most (λ q. q.depth) (callables_after [] s.procedures) ≤ 16
shallow s formed =
    procedures_below [] s.procedures 16 (omega arith) (λ i p e. (procedures_stand s formed i p e).depth)

pub services_shallow : (s : Script) → IsTrue (is_well_formed s) → most (λ v. suc (inner_depth (callables_after [] s.procedures) v.body)) s.services ≤ 16
services_shallow s formed =
    most_below (λ v. suc (inner_depth (callables_after [] s.procedures) v.body)) s.services 16 (λ i v e. (services_stand s formed i v e).depth)

-- the next of these procedures
pub next_procedure : (xs : List rust_procedure.Procedure) (i : ℕ) (x : rust_procedure.Procedure) → i < length xs → x ≡ get_or xs i x → map procedure_of (drop i xs) ≡ procedure_of x ∷ map procedure_of (drop (i + 1) xs)
next_procedure xs i x h is =
    ap (map procedure_of) (drop-cons xs i x h)
    ∙ ap (λ y. procedure_of y ∷ map procedure_of (drop (suc i) xs)) (sym is)
    ∙ ap (λ j. procedure_of x ∷ map procedure_of (drop j xs)) (sym (add-one i))

pub step_below : (qs : List Callable) (p : Procedure) (ps rest all : List Procedure) → rest ≡ p ∷ ps → callables_after qs rest ≡ callables_after [] all → most (λ q. q.depth) (callables_after [] all) ≤ 16 → suc (inner_depth qs p.body) ≤ 16
step_below qs p ps rest all f e le =
    let same = ap (most (λ q. q.depth)) (ap (callables_after qs) (sym f) ∙ e) in
    next_below qs p ps 16 (omega arith)

pub step_same : (qs rs : List Callable) (q : Callable) (p : Procedure) (ps rest all : List Procedure) → rest ≡ p ∷ ps → rs ≡ qs ++ q ∷ [] → q ≡ callable qs p → callables_after qs rest ≡ callables_after [] all → callables_after rs ps ≡ callables_after [] all
step_same qs rs q p ps rest all f g h e =
    ap (λ l. callables_after l ps) (g ∙ ap (λ x. qs ++ x ∷ []) h) ∙ (ap (callables_after qs) (sym f) ∙ e)

pub last_same : (qs : List Callable) (rest all : List Procedure) → rest ≡ [] → callables_after qs rest ≡ callables_after [] all → qs ≡ callables_after [] all
last_same qs rest all f e = ap (callables_after qs) (sym f) ∙ e

pub services_below : (s : Script) (qs : List Callable) (vs : List Service) → IsTrue (is_well_formed s) → qs ≡ callables_after [] s.procedures → vs ≡ s.services → most (λ v. suc (inner_depth qs v.body)) vs ≤ 16
services_below s qs vs formed e f =
    let below = services_shallow s formed in
    let there = ap (λ l. most (λ v. suc (inner_depth l v.body)) s.services) e in
    let here = ap (most (λ v. suc (inner_depth qs v.body))) f in
    omega arith

pub whole_depth : (s : Script) (qs : List Callable) (vs : List Service) (a b n : ℕ) → qs ≡ callables_after [] s.procedures → vs ≡ s.services → a ≡ most (λ q. q.depth) qs → b ≡ most (λ v. suc (inner_depth qs v.body)) vs → n ≡ max a b → n ≡ script_depth s
whole_depth s qs vs a b n e f g h k =
    let all = callables_after [] s.procedures in
    let right : b ≡ most (λ v. suc (inner_depth all v.body)) s.services =
    h ∙ (ap (most (λ v. suc (inner_depth qs v.body))) f ∙ ap (λ l. most (λ v. suc (inner_depth l v.body)) s.services) e) in
    k ∙ (ap (λ x. max x b) (g ∙ ap (most (λ q. q.depth)) e) ∙ ap (max (most (λ q. q.depth) all)) right)

-- what can be called, by its number
pub callable_found : (qs : List rust_callable.Callable) (k : ℕ) → slice_get (map callable_of qs) k ≡ option_map callable_of (slice_get qs k)
callable_found qs k = slice_get-map callable_of qs k
