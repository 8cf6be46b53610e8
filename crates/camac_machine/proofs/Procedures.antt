-- The procedures of a script by their numbers: their depths, their bodies, and what these do where more procedures are seen.
use Rattle.std.proofs.Common.{◌≡◌, ℕ, zero, suc, ◌+◌, ◌-◌, ◌<◌, ◌≤◌, List, [], ◌∷◌, ◌++◌, length, length-append, take, Some, refl, sym, ap, subst, ◌∙◌, arith}
use Rattle.std.proofs.lemmas.List.{length-take, take-take}
use Rattle.std.proofs.lemmas.Option.{same_Some}
use Rattle.std.proofs.Math.Path.{fun_ext}
use Rattle.std.specs.Prelude.{slice_get}
use Rattle.camac_branch.specs.Plan.{Layout, crate_waits}
use Rattle.camac_lang.specs.Depth.{callable, callables_after}
use Rattle.camac_lang.specs.Expressions.{Callable}
use Rattle.camac_lang.specs.Tests.{total}
use Rattle.camac_lang.specs.Tree.{Statement, assign, set_register, single, address_scan, q_stop, q_repeat, put, crate_call, lam_call, choose, choose_else, for_, for_each, while_, locked, call, Block, done, next, Procedure, Script}
use Rattle.camac_lang.proofs.Places.{number_below}
use Rattle.camac_model.specs.State.{State, stepped}
use Rattle.camac_model.specs.Behaviour.{ends, Action, then_do, given, decide}
use Rattle.camac_model.specs.Cycle.{take_lock, release}
use Rattle.camac_model.specs.Meaning.{Context, for_from, turns, enter, effect, block_meaning, with_procedure, routines_with, bare, context}
use Rattle.camac_model.specs.Value.{value, values, truth}
use Rattle.camac_machine.specs.Within.{Reach, StatementFits, BlockFits}
use Rattle.camac_machine.proofs.Lists.{place}

-- elements of a list by their places
last_at : {A : Type 0} (xs : List A) (x : A) → slice_get (xs ++ x ∷ []) (length xs) ≡ Some x
last_at [] x = refl
last_at (y ∷ xs) x = last_at xs x

still_at : {A : Type 0} (xs ys : List A) (i : ℕ) (x : A) → slice_get xs i ≡ Some x → slice_get (xs ++ ys) i ≡ Some x
still_at [] ys i x e = absurd (cc)
still_at (y ∷ xs) ys zero x e = e
still_at (y ∷ xs) ys (suc i) x e = still_at xs ys i x e

pub taken_at : {A : Type 0} (xs : List A) (n i : ℕ) → i < n → slice_get (take n xs) i ≡ slice_get xs i
taken_at xs zero i h = absurd (omega (arith, h))
taken_at [] (suc n) i h = refl
taken_at (x ∷ xs) (suc n) zero h = refl
taken_at (x ∷ xs) (suc n) (suc i) h = taken_at xs n i (omega (arith, h))

-- the total before a place, and what stands there
pub total_taken : {A : Type 0} (f : A → ℕ) (xs : List A) (n i : ℕ) (x : A) → slice_get xs i ≡ Some x → i < n → total f (take i xs) + f x ≤ total f (take n xs)
total_taken f [] n i x e h = absurd (cc)
total_taken f (y ∷ xs) zero i x e h = absurd (omega (arith, h))
total_taken f (y ∷ xs) (suc n) zero x e h = let same : f y ≡ f x = ap f (same_Some y x e) in omega (arith, same)
total_taken f (y ∷ xs) (suc n) (suc i) x e h = let le = total_taken f xs n i x e (omega (arith, h)) in omega (arith, le)

-- what can be called, by its number
callable_stays : (qs : List Callable) (ps : List Procedure) (i : ℕ) (q : Callable) → slice_get qs i ≡ Some q → slice_get (callables_after qs ps) i ≡ Some q
callable_stays qs [] i q e = e
callable_stays qs (p ∷ ps) i q e = callable_stays (qs ++ callable qs p ∷ []) ps i q (still_at qs (callable qs p ∷ []) i q e)

callable_at : (qs : List Callable) (ps : List Procedure) (i : ℕ) (p : Procedure) → slice_get ps i ≡ Some p → slice_get (callables_after qs ps) (length qs + i) ≡ Some (callable (callables_after qs (take i ps)) p)
callable_at qs [] i p e = absurd (cc)
callable_at qs (r ∷ ps) zero p e =
    let same : r ≡ p = same_Some r p e in
    let n : length qs ≡ length qs + 0 = omega arith in
    subst (λ k. slice_get (callables_after qs (r ∷ ps)) k ≡ Some (callable qs p)) n
    (callable_stays (qs ++ callable qs r ∷ []) ps (length qs) (callable qs p) (last_at qs (callable qs r) ∙ ap (λ t. Some (callable qs t)) same))
callable_at qs (r ∷ ps) (suc i) p e =
    let n : length (qs ++ callable qs r ∷ []) + i ≡ length qs + suc i = omega (arith, length-append qs (callable qs r ∷ [])) in
    subst (λ k. slice_get (callables_after qs (r ∷ ps)) k ≡ Some (callable (callables_after qs (take (suc i) (r ∷ ps))) p)) n
    (callable_at (qs ++ callable qs r ∷ []) ps i p e)

callables_length : (qs : List Callable) (ps : List Procedure) → length (callables_after qs ps) ≡ length qs + length ps
callables_length qs [] = omega arith
callables_length qs (p ∷ ps) =
    let n = callables_length (qs ++ callable qs p ∷ []) ps in omega (arith, n, length-append qs (callable qs p ∷ []))

-- a procedure that a body may call, which sees so many of them
pub record Callee (s : Script) (k i : ℕ) (q : Callable) : Type 0 where
  pub below : i < k
  pub procedure : Procedure
  pub there : slice_get s.procedures i ≡ Some procedure
  pub is : q ≡ callable (callables_after [] (take i s.procedures)) procedure

pub callee_of : (s : Script) (k i : ℕ) (q : Callable) → slice_get (callables_after [] (take k s.procedures)) i ≡ Some q → Callee s k i q
callee_of s k i q e =
    let few : i < length (callables_after [] (take k s.procedures)) = number_below (callables_after [] (take k s.procedures)) i q e in
    let n = callables_length [] (take k s.procedures) in
    let m = length-take k s.procedures in
    let below : i < k = omega (arith, few, n, m) in
    let p = place s.procedures i (omega (arith, few, n, m)) in
    let there : slice_get (take k s.procedures) i ≡ Some p.0 = taken_at s.procedures k i below ∙ p.1 in
    let zero_first : 0 + i ≡ i = omega arith in
    let at : slice_get (callables_after [] (take k s.procedures)) i ≡ Some (callable (callables_after [] (take i (take k s.procedures))) p.0) =
    subst (λ j. slice_get (callables_after [] (take k s.procedures)) j ≡ Some (callable (callables_after [] (take i (take k s.procedures))) p.0)) zero_first (callable_at [] (take k s.procedures) i p.0 there) in
    record {
      below = below;
      procedure = p.0;
      there = p.1;
      is =
          same_Some q (callable (callables_after [] (take i (take k s.procedures))) p.0) (sym e ∙ at)
          ∙ ap (λ ps. callable (callables_after [] ps) p.0) (take-take i k s.procedures (omega (arith, below)));
    }

-- the routine of a procedure, by its number
routine_stays : (c : Context) (ps : List Procedure) (i : ℕ) (r : ℕ → Action) → slice_get c.routines i ≡ Some r → slice_get (routines_with c ps) i ≡ Some r
routine_stays c [] i r e = e
routine_stays c (p ∷ ps) i r e = routine_stays (with_procedure c p) ps i r (still_at c.routines ((λ n. block_meaning c n p.body) ∷ []) i r e)

routine_at : (c : Context) (ps : List Procedure) (i : ℕ) (p : Procedure) → slice_get ps i ≡ Some p → slice_get (routines_with c ps) (length c.routines + i) ≡ Some (λ n. block_meaning (record c { routines = routines_with c (take i ps) }) n p.body)
routine_at c [] i p e = absurd (cc)
routine_at c (q ∷ ps) zero p e =
    let same : q ≡ p = same_Some q p e in
    let run : Procedure → ℕ → Action = λ t n. block_meaning c n t.body in
    let n : length c.routines ≡ length c.routines + 0 = omega arith in
    subst (λ k. slice_get (routines_with c (q ∷ ps)) k ≡ Some (run p)) n
    (routine_stays (with_procedure c q) ps (length c.routines) (run p) (last_at c.routines (run q) ∙ ap (λ t. Some (run t)) same))
routine_at c (q ∷ ps) (suc i) p e =
    let n : length (c.routines ++ (λ n. block_meaning c n q.body) ∷ []) + i ≡ length c.routines + suc i = omega (arith, length-append c.routines ((λ n. block_meaning c n q.body) ∷ [])) in
    subst (λ k. slice_get (routines_with c (q ∷ ps)) k ≡ Some (λ n. block_meaning (record c { routines = routines_with c (take (suc i) (q ∷ ps)) }) n p.body)) n
    (routine_at (with_procedure c q) ps i p e)

routines_length : (c : Context) (ps : List Procedure) → length (routines_with c ps) ≡ length c.routines + length ps
routines_length c [] = omega arith
routines_length c (p ∷ ps) =
    let n = routines_length (with_procedure c p) ps in omega (arith, n, length-append c.routines ((λ n. block_meaning c n p.body) ∷ []))

-- a script with the procedures before this one alone
abbrev pub before : Script → ℕ → Script
before s i = record s { procedures = take i s.procedures }

module _ (plan : Layout) (s : Script) where
  pub routine_of : (i : ℕ) (p : Procedure) → slice_get s.procedures i ≡ Some p → slice_get (context plan s).routines i ≡ Some (λ n. block_meaning (context plan (before s i)) n p.body)
  routine_of i p e =
      let zero_first : 0 + i ≡ i = omega arith in
      subst (λ j. slice_get (context plan s).routines j ≡ Some (λ n. block_meaning (context plan (before s i)) n p.body)) zero_first (routine_at (bare plan s) s.procedures i p e)

  -- each routine is that of a procedure
  pub procedure_of_routine : (i : ℕ) (r : ℕ → Action) → slice_get (context plan s).routines i ≡ Some r → (p : Procedure) × (r ≡ (λ n. block_meaning (context plan (before s i)) n p.body))
  procedure_of_routine i r e =
      let few : i < length (context plan s).routines = number_below (context plan s).routines i r e in
      let n = routines_length (bare plan s) s.procedures in
      let p = place s.procedures i (omega (arith, few, n)) in
      (p.0, same_Some r (λ n. block_meaning (context plan (before s i)) n p.0.body) (sym e ∙ routine_of i p.0 p.1))

-- what a block does where other procedures are seen as well
module _ (c : Context) (rs : List (ℕ → Action)) (n : ℕ) (to : Reach) (same : (p : ℕ) (q : Callable) → slice_get to.procedures p ≡ Some q → slice_get c.routines p ≡ slice_get rs p) where
  abbrev wider : Context
  wider = record c { routines = rs }

  mutual
    effect_same : (st : Statement) (d : ℕ) → StatementFits to d st → (s : State) → effect c n st s ≡ effect wider n st s
    effect_same (assign spot x e) d fits s = refl
    effect_same (set_register spot r k m a) d fits s = refl
    effect_same (single spot size f r data') d fits s = refl
    effect_same (address_scan spot f r1 r2 max x) d fits s = refl
    effect_same (q_stop spot f r g max x) d fits s = refl
    effect_same (q_repeat spot f r g max limit x) d fits s = refl
    effect_same (put spot e) d fits s = refl
    effect_same (crate_call spot k e) d fits s = refl
    effect_same (lam_call spot k l) d fits s = refl
    effect_same (choose spot test a) d fits s = ap (λ (go : Action). decide (truth test s.variables s.q s.x) go ends s) (block_same a (d - 1) fits.2)
    effect_same (choose_else spot test a b) d fits s =
        ap (λ (go : Action). decide (truth test s.variables s.q s.x) go (block_meaning c n b) s) (block_same a (d - 1) fits.2)
        ∙ ap (λ (go : Action). decide (truth test s.variables s.q s.x) (block_meaning wider n a) go s) (block_same b (d - 1) fits.3)
    effect_same (for_ spot x e1 e2 keeps body) d fits s =
        ap (λ (go : Action). given (value e1 s.variables) (λ v. given (value e2 s.variables) (λ w. for_from (w + 1 - v) n x v w go)) s) (block_same body (d - 1) fits.4)
    effect_same (for_each spot x v last body) d fits s = ap (λ (go : Action). for_from (last + 1 - v) n x v last go s) (block_same body (d - 1) fits.2)
    effect_same (while_ spot test m k keeps body) d fits s = ap (λ (go : Action). turns n test go s) (block_same body (d - 1) fits.2)
    effect_same (locked spot e body) d fits s =
        ap (λ (go : Action). given (value e s.variables) (λ k. given (crate_waits c.plan k) (λ waits t. take_lock k waits (t.branch k).locked (λ u. then_do (go u) (release k)) t)) s) (block_same body (d - 1) fits.2)
    effect_same (call spot p es) d fits s =
        ap (λ o. given o (λ routine. given (values es s.variables) (λ vs. enter (routine n) vs)) s) (same p fits.callee fits.there)

    pub block_same : (b : Block) (d : ℕ) → BlockFits to d b → ◌≡◌ {A = Action} (block_meaning c n b) (block_meaning wider n b)
    block_same done d fits = fun_ext (λ s. refl)
    block_same (next st rest) d fits =
        fun_ext (λ s.
        ap (λ b. then_do b (block_meaning c n rest)) (effect_same st d fits.0 (stepped s))
        ∙ ap (λ (go : Action). then_do (effect wider n st (stepped s)) go) (block_same rest d fits.1))

-- a body that calls only procedures before it does the same where all are seen
pub body_same : (plan : Layout) (s : Script) (i n : ℕ) (to : Reach) (d : ℕ) (b : Block) → to.procedures ≡ callables_after [] (take i s.procedures) → BlockFits to d b → ◌≡◌ {A = Action} (block_meaning (context plan (before s i)) n b) (block_meaning (context plan s) n b)
body_same plan s i n to d b e fits = block_same (context plan (before s i)) (context plan s).routines n to same b d fits
  where
    same : (p : ℕ) (q : Callable) → slice_get to.procedures p ≡ Some q → slice_get (context plan (before s i)).routines p ≡ slice_get (context plan s).routines p
    same p q at =
        let k = callee_of s i p q (subst (λ qs. slice_get qs p ≡ Some q) e at) in
        let below = k.below in
        let there : slice_get (take i s.procedures) p ≡ Some k.procedure = taken_at s.procedures i p below ∙ k.there in
        let run : List Procedure → ℕ → Action = λ ps n. block_meaning (context plan (record s { procedures = ps })) n k.procedure.body in
        routine_of plan (before s i) p k.procedure there
        ∙ ap (λ ps. Some (run ps)) (take-take p i s.procedures (omega (arith, below)))
        ∙ sym (routine_of plan s p k.procedure k.there)
