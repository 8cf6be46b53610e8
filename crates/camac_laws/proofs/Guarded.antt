-- A guarded block does the same as the plain one unless it is wrong, and accepted scripts are not: so calls keep to their ranges.
use Rattle.std.proofs.Common.{◌≡◌, ◌≢◌, ℕ, zero, suc, ◌+◌, ◌-◌, List, [], ◌∷◌, ◌++◌, Option, Some, None, Bool, true, false, refl, ap, ◌∙◌, ◌≤◌, length, sym, subst, append_assoc, arith, Ok}
use Rattle.std.proofs.lemmas.Bool.{false≢true, and_parts, leb-true, le-leb}
use Rattle.std.proofs.lemmas.List.{append-nil}
use Rattle.std.specs.Prelude.{slice_get, if◌then◌else◌, ◌&&◌, nat_le, IfOk, IfSome, IsTrue, option_map}
use Rattle.camac_crate.specs.Lock.{permitted}
use Rattle.camac_lang.specs.Tree.{Condition, Parameter, Procedure, Statement, assign, set_register, single, address_scan, q_stop, q_repeat, put, crate_call, lam_call, choose, choose_else, for_, for_each, while_, locked, call, Block, done, next, Script, Service, Item, next_table, next_lam, next_variables, next_procedure, next_service}
use Rattle.camac_lang.specs.Laws.{inside}
use Rattle.camac_lang.specs.Scope.{is_well_formed}
use Rattle.camac_lang.proofs.Standing.{procedures_stand}
use Rattle.camac_branch.specs.Branch.{Answer, Branch, start, pattern_of}
use Rattle.camac_branch.specs.Plan.{Layout, crate_waits, IsPlan}
use Rattle.camac_branch.proofs.Allowed.{allowed-in_range}
use Rattle.camac_model.specs.State.{State, stepped, fresh}
use Rattle.camac_model.specs.Behaviour.{lock_taken, Behaviour, does, ends, stops, wrong, stop_of, Action, then_do, given, decide, unless_wrong, demanded, event_left}
use Rattle.camac_model.specs.Value.{value, values, truth}
use Rattle.camac_model.specs.Cycle.{too_long, answered, outcome, follow, after_lock, take_lock, release}
use Rattle.camac_model.specs.Meaning.{Context, for_state, for_turns, for_from, turns, entered, returned, enter, effect, block_meaning, bare, context, routines_with, arguments}
use Rattle.camac_model.specs.Run.{service_meaning, Chosen, service_bit, is_bit, is_bit_set, with_bit, or_next, first_service, service_for, event_of, serve, rounds, run}
use Rattle.camac_model.specs.Fine.{Bounds, most_turns, IsOfAnswers, annotated, AreFine, AreInRanges}
use Rattle.camac_model.specs.Headline.{no_count, nothing, RunsSafely}
use Rattle.camac_model.specs.Moments.{Meets, Any}
use Rattle.camac_model.proofs.Headline.{fine_services_run}
use Rattle.camac_laws.specs.Calls.{guarded, begins_in_ranges, guarded_routines, guarded_context, GuardsOnlyStop, guarded_after, GuardsStop, guarded_run, CallsKeepToRanges, AcceptedCallsKeep}
use Rattle.camac_range.specs.Interval.{only, IsWithin}
use Rattle.camac_rules.specs.Known.{Known}
use Rattle.camac_rules.specs.declared.case.Body.{Body}
use Rattle.camac_rules.specs.declared.case.Body.TheVariants as body
use Rattle.camac_rules.specs.Cycles.{alone_in}
use Rattle.camac_rules.specs.Statements.{accept_block}
use Rattle.camac_rules.specs.EachLimit.{count_block}
use Rattle.camac_rules.specs.Accept.{at_start, own_body, accept_procedure, accept_service, accept_items, accept}
use Rattle.camac_rules.proofs.Allows.{after_any, Allows, allowed, then_allowed, required_allowed, for_each as for_each_of_allows, allowed_more}
use Rattle.camac_rules.proofs.Stores.{Place, Inside}
use Rattle.camac_rules.proofs.Sound.{Sound, SoundFor}
use Rattle.camac_rules.proofs.Actions.{HasWidths, Setting, of, seen, with_test}
use Rattle.camac_rules.proofs.Lockless.{block_has_lock, block_lockless}
use Rattle.camac_rules.proofs.Routines.{called, RoutineSound, Serves, routine_sound, AreSmall}
use Rattle.camac_rules.proofs.Statements.{block_sound}
use Rattle.camac_rules.proofs.Services.{procedures_in}
use Rattle.camac_rules.proofs.Settings.{bare_with, setting, Matched, matched_push, found_at, serves_own, AreLockless, are_lockless}
use Rattle.camac_rules.proofs.Accepted.{accepted_fine}
use Rattle.camac_rules.proofs.Orders.{order_procedures}
use Rattle.camac_rules.proofs.ParameterNumbers.{AreNumbers, parameters_are_numbers}

-- A guarded block does the same as the plain one, unless it stops as wrong.

abbrev pub IsRight : {A : Type 0} → Behaviour A → Type 0
IsRight b = stop_of b ≢ Some wrong

-- b is the same as a, unless a stops as wrong
abbrev pub Same : {A : Type 0} → Behaviour A → Behaviour A → Type 0
Same a b = IsRight a → a ≡ b

abbrev SameAction : Action → Action → Type 0
SameAction f g = (s : State) → Same (f s) (g s)

pub first_right : {A : Type 0} (a : Behaviour State) (go : State → Behaviour A) → IsRight (then_do a go) → IsRight a
first_right (does p a) go r = first_right a go r
first_right (ends s) go r = λ e. absurd (cc)
first_right (stops w s) go r = r

then_go : {A : Type 0} (a : Behaviour State) (go go' : State → Behaviour A) → ((t : State) → Same (go t) (go' t)) → Same (then_do a go) (then_do a go')
then_go (does p a) go go' h r = ap (does p) (then_go a go go' h r)
then_go (ends t) go go' h r = h t r
then_go (stops w s) go go' h r = refl

pub then_same : {A : Type 0} (a b : Behaviour State) (go go' : State → Behaviour A) → Same a b → ((t : State) → Same (go t) (go' t)) → Same (then_do a go) (then_do b go')
then_same a b go go' h f r = then_go a go go' f r ∙ ap (λ o. then_do o go') (h (first_right a go r))

given_same : {A : Type 0} (o : Option A) (go go' : A → Action) (s : State) → ((v : A) → Same (go v s) (go' v s)) → Same (given o go s) (given o go' s)
given_same None go go' s h = λ r. refl
given_same (Some v) go go' s h = h v

decide_same : (o : Option Bool) (a a' b b' : Action) (s : State) → Same (a s) (a' s) → Same (b s) (b' s) → Same (decide o a b s) (decide o a' b' s)
decide_same None a a' b b' s h g = λ r. refl
decide_same (Some true) a a' b b' s h g = h
decide_same (Some false) a a' b b' s h g = g

counts_same : (k n x v last : ℕ) (body body' : Action) → SameAction body body' → SameAction (for_turns k n x v last body) (for_turns k n x v last body')
counts_same zero n x v last body body' h s = λ r. refl
counts_same (suc k) zero x v last body body' h s = λ r. refl
counts_same (suc k) (suc n) x v last body body' h s =
    then_same (body (for_state x v s)) (body' (for_state x v s)) (for_turns k n x (v + 1) last body) (for_turns k n x (v + 1) last body') (h (for_state x v s))
    (counts_same k n x (v + 1) last body body' h)

count_same : (k n x v last : ℕ) (body body' : Action) → SameAction body body' → SameAction (for_from k n x v last body) (for_from k n x v last body')
count_same zero n x v last body body' h s = λ r. refl
count_same (suc k) n x v last body body' h s = counts_same (suc k) n x v last body body' h s

turns_same : (n : ℕ) (c : Condition) (body body' : Action) → SameAction body body' → SameAction (turns n c body) (turns n c body')
turns_same zero c body body' h s = λ r. refl
turns_same (suc n) c body body' h s =
    decide_same (truth c s.variables s.q s.x) (λ t. then_do (body (stepped t)) (turns n c body)) (λ t. then_do (body' (stepped t)) (turns n c body')) ends ends s
    (then_same (body (stepped s)) (body' (stepped s)) (turns n c body) (turns n c body') (h (stepped s)) (turns_same n c body body' h))
    (λ r. refl)

lock_same : (c waits : ℕ) (l : Bool) (body body' : Action) → SameAction body body' → SameAction (take_lock c waits l body) (take_lock c waits l body')
lock_same c waits true body body' h s = λ r. refl
lock_same c waits false body body' h s = go s.answers
  where
    taken : Action → Answer → List Answer → Action
    taken f a rest t = does (lock_taken c a.wait) (f (after_lock c a.wait rest t))

    may : (b : Bool) (a : Answer) (rest : List Answer) → Same (follow c (if b then answered a rest else too_long a.wait) (taken body) s) (follow c (if b then answered a rest else too_long a.wait) (taken body') s)
    may true a rest = λ r. ap (does (lock_taken c a.wait)) (h (after_lock c a.wait rest s) r)
    may false a rest = λ r. refl

    go : (answers : List Answer) → Same (follow c (outcome (Some waits) false answers) (taken body) s) (follow c (outcome (Some waits) false answers) (taken body') s)
    go [] = λ r. refl
    go (a ∷ rest) = may (permitted false waits a.wait) a rest

-- bodies that are the same, unless the first stops as wrong
abbrev pub SameRoutine : (ℕ → Action) → (ℕ → Action) → Type 0
SameRoutine f g = (n : ℕ) → SameAction (f n) (g n)

abbrev pub Alike : List (ℕ → Action) → List (ℕ → Action) → Type 0
Alike [] [] = Unit {0}
Alike [] (g ∷ gs) = ⊥
Alike (f ∷ fs) [] = ⊥
Alike (f ∷ fs) (g ∷ gs) = SameRoutine f g × Alike fs gs

pub alike_push : (fs gs : List (ℕ → Action)) (f g : ℕ → Action) → Alike fs gs → SameRoutine f g → Alike (fs ++ f ∷ []) (gs ++ g ∷ [])
alike_push [] [] f g h e = (e, tt)
alike_push [] (y ∷ gs) f g h e = absurd h
alike_push (x ∷ fs) [] f g h e = absurd h
alike_push (x ∷ fs) (y ∷ gs) f g h e = (h.0, alike_push fs gs f g h.1 e)

-- both there or neither
abbrev pub BothSame : Option (ℕ → Action) → Option (ℕ → Action) → Type 0
BothSame None None = Unit {0}
BothSame None (Some g) = ⊥
BothSame (Some f) None = ⊥
BothSame (Some f) (Some g) = SameRoutine f g

pub alike_at : (fs gs : List (ℕ → Action)) → Alike fs gs → (j : ℕ) → BothSame (slice_get fs j) (slice_get gs j)
alike_at [] [] h j = tt
alike_at [] (g ∷ gs) h j = absurd h
alike_at (f ∷ fs) [] h j = absurd h
alike_at (f ∷ fs) (g ∷ gs) h zero = h.0
alike_at (f ∷ fs) (g ∷ gs) h (suc j) = alike_at fs gs h.1 j

-- a context with these bodies
abbrev pub calling : Context → List (ℕ → Action) → Context
calling c fs = record c { routines = fs }

module _ (c : Context) (fs gs : List (ℕ → Action)) (alike : Alike fs gs) (n : ℕ) where
  called_same : (o o' : Option (ℕ → Action)) → BothSame o o' → (vs : Option (List ℕ)) (s : State) → Same (given o (λ f. given vs (λ us. enter (f n) us)) s) (given o' (λ g. given vs (λ us. enter (g n) us)) s)
  called_same None None h vs s = λ r. refl
  called_same None (Some g) h vs s = absurd h
  called_same (Some f) None h vs s = absurd h
  called_same (Some f) (Some g) h vs s =
      given_same vs (λ us. enter (f n) us) (λ us. enter (g n) us) s (λ us.
      then_same (f n (entered us s)) (g n (entered us s)) (λ t. ends (returned s t)) (λ t. ends (returned s t)) (h n (entered us s)) (λ t r. refl))

  mutual
    statement_same : (st : Statement) → SameAction (effect (calling c fs) n st) (effect (calling c gs) n st)
    statement_same (assign spot x e) s = λ r. refl
    statement_same (set_register spot r e1 e2 e3) s = λ r. refl
    statement_same (single spot size f r d) s = λ r. refl
    statement_same (address_scan spot f r1 r2 max x) s = λ r. refl
    statement_same (q_stop spot f r g max x) s = λ r. refl
    statement_same (q_repeat spot f r g max limit x) s = λ r. refl
    statement_same (put spot e) s = λ r. refl
    statement_same (crate_call spot which e) s = λ r. refl
    statement_same (lam_call spot which l) s = λ r. refl
    statement_same (choose spot test a) s =
        decide_same (truth test s.variables s.q s.x) (block_meaning (calling c fs) n a) (block_meaning (calling c gs) n a) ends ends s (block_same a s) (λ r. refl)
    statement_same (choose_else spot test a b) s =
        decide_same (truth test s.variables s.q s.x) (block_meaning (calling c fs) n a) (block_meaning (calling c gs) n a) (block_meaning (calling c fs) n b) (block_meaning (calling c gs) n b) s (block_same a s) (block_same b s)
    statement_same (for_ spot x e1 e2 keeps body) s =
        let turn : List (ℕ → Action) → ℕ → ℕ → Action = λ hs v w. for_from (w + 1 - v) n x v w (block_meaning (calling c hs) n body) in
        let last : List (ℕ → Action) → ℕ → Action = λ hs v. given (value e2 s.variables) (turn hs v) in
        given_same (value e1 s.variables) (last fs) (last gs) s (λ v.
        given_same (value e2 s.variables) (turn fs v) (turn gs v) s (λ w.
        count_same (w + 1 - v) n x v w (block_meaning (calling c fs) n body) (block_meaning (calling c gs) n body) (λ t. block_same body t) s))
    statement_same (for_each spot x v last body) s =
        count_same (last + 1 - v) n x v last (block_meaning (calling c fs) n body) (block_meaning (calling c gs) n body) (λ t. block_same body t) s
    statement_same (while_ spot test most m keeps body) s =
        turns_same n test (block_meaning (calling c fs) n body) (block_meaning (calling c gs) n body) (λ t. block_same body t) s
    statement_same (locked spot e body) s =
        let held : List (ℕ → Action) → ℕ → Action = λ hs d u. then_do (block_meaning (calling c hs) n body u) (release d) in
        let taken : List (ℕ → Action) → ℕ → ℕ → Action = λ hs d waits t. take_lock d waits (t.branch d).locked (held hs d) t in
        let at : List (ℕ → Action) → ℕ → Action = λ hs d. given (crate_waits c.plan d) (taken hs d) in
        given_same (value e s.variables) (at fs) (at gs) s (λ d.
        given_same (crate_waits c.plan d) (taken fs d) (taken gs d) s (λ waits.
        lock_same d waits (s.branch d).locked (held fs d) (held gs d) (λ u.
        then_same (block_meaning (calling c fs) n body u) (block_meaning (calling c gs) n body u) (release d) (release d) (block_same body u) (λ t r. refl)) s))
    statement_same (call spot p es) s = called_same (slice_get fs p) (slice_get gs p) (alike_at fs gs alike p) (values es s.variables) s

    pub block_same : (b : Block) → SameAction (block_meaning (calling c fs) n b) (block_meaning (calling c gs) n b)
    block_same done s = λ r. refl
    block_same (next st rest) s =
        then_same (effect (calling c fs) n st (stepped s)) (effect (calling c gs) n st (stepped s)) (block_meaning (calling c fs) n rest) (block_meaning (calling c gs) n rest)
        (statement_same st (stepped s)) (λ t. block_same rest t)

guarded_same : (ps : List Parameter) (f g : ℕ → Action) → SameRoutine f g → SameRoutine (guarded ps f) g
guarded_same ps f g h n s = go (begins_in_ranges ps s.variables)
  where
    go : (b : Bool) → Same (unless_wrong b (f n) s) (g n s)
    go true = h n s
    go false = λ r. absurd (r refl)

pub routines_same : (c : Context) (fs gs : List (ℕ → Action)) (ps : List Procedure) → Alike fs gs → Alike (guarded_routines (calling c fs) ps) (routines_with (calling c gs) ps)
routines_same c fs gs [] h = h
routines_same c fs gs (p ∷ ps) h =
    let f : ℕ → Action = λ n. block_meaning (calling c fs) n p.body in
    let g : ℕ → Action = λ n. block_meaning (calling c gs) n p.body in
    routines_same c (fs ++ guarded p.parameters f ∷ []) (gs ++ g ∷ []) ps
    (alike_push fs gs (guarded p.parameters f) g h (guarded_same p.parameters f g (λ n s. block_same c fs gs h n p.body s)))

pub script_same : (plan : Layout) (script : Script) → Alike (guarded_context plan script).routines (context plan script).routines
script_same plan script = routines_same (bare plan script) [] [] script.procedures tt

pub guards_only_stop : GuardsOnlyStop
guards_only_stop plan script n b s =
    block_same (bare plan script) (guarded_context plan script).routines (context plan script).routines (script_same plan script) n b s

-- What is accepted is not wrong with guards: the walk over a script's items of camac_rules (`Services`), with guarded bodies.

-- A guard passes exactly where the arguments are in the ranges, and every procedure that can be called has its guard.

and_true : (a b : Bool) → a ≡ true → b ≡ true → a && b ≡ true
and_true a b e f = ap (λ t. t && b) e ∙ f

pub guard_holds : (vs : List ℕ) (ps : List Parameter) → AreInRanges vs ps → begins_in_ranges ps (arguments vs) ≡ true
guard_holds [] [] h = refl
guard_holds [] (p ∷ ps) h = absurd h
guard_holds (v ∷ vs) [] h = absurd h
guard_holds (v ∷ vs) (p ∷ ps) h =
    and_true (nat_le p.low v) (nat_le v p.high && begins_in_ranges ps (arguments vs)) (le-leb p.low v h.0)
    (and_true (nat_le v p.high) (begins_in_ranges ps (arguments vs)) (le-leb v p.high h.1) (guard_holds vs ps h.2))

guard_asks : (vs : List ℕ) (ps : List Parameter) → length vs ≡ length ps → begins_in_ranges ps (arguments vs) ≡ true → AreInRanges vs ps
guard_asks [] [] l e = tt
guard_asks [] (p ∷ ps) l e = absurd (omega (arith, l))
guard_asks (v ∷ vs) [] l e = absurd (omega (arith, l))
guard_asks (v ∷ vs) (p ∷ ps) l e =
    let a = and_parts (nat_le p.low v) (nat_le v p.high && begins_in_ranges ps (arguments vs)) e in
    let b = and_parts (nat_le v p.high) (begins_in_ranges ps (arguments vs)) a.1 in
    (leb-true p.low v a.0, leb-true v p.high b.0, guard_asks vs ps (omega (arith, l)) b.1)

guard_fails : (vs : List ℕ) (ps : List Parameter) → length vs ≡ length ps → (AreInRanges vs ps → ⊥) → begins_in_ranges ps (arguments vs) ≡ false
guard_fails vs ps l out = go (begins_in_ranges ps (arguments vs)) refl
  where
    go : (b : Bool) → begins_in_ranges ps (arguments vs) ≡ b → begins_in_ranges ps (arguments vs) ≡ false
    go true e = absurd (out (guard_asks vs ps l e))
    go false e = e

-- a body with the guard of this heading
record HasGuard (p : Procedure) (g : ℕ → Action) : Type 0 where
  body : ℕ → Action
  is : g ≡ guarded p.parameters body

abbrev AreGuarded : List (ℕ → Action) → List Procedure → Type 0
AreGuarded [] [] = Unit {0}
AreGuarded [] (p ∷ ps) = ⊥
AreGuarded (g ∷ gs) [] = ⊥
AreGuarded (g ∷ gs) (p ∷ ps) = HasGuard p g × AreGuarded gs ps

guarded_push : (gs : List (ℕ → Action)) (ps : List Procedure) (g : ℕ → Action) (p : Procedure) → AreGuarded gs ps → HasGuard p g → AreGuarded (gs ++ g ∷ []) (ps ++ p ∷ [])
guarded_push [] [] g p h e = (e, tt)
guarded_push [] (q ∷ ps) g p h e = absurd h
guarded_push (f ∷ gs) [] g p h e = absurd h
guarded_push (f ∷ gs) (q ∷ ps) g p h e = (h.0, guarded_push gs ps g p h.1 e)

record FindsGuard (gs : List (ℕ → Action)) (j : ℕ) (p : Procedure) : Type 0 where
  body : ℕ → Action
  is : slice_get gs j ≡ Some (guarded p.parameters body)

guarded_at : (gs : List (ℕ → Action)) (ps : List Procedure) (j : ℕ) (p : Procedure) → AreGuarded gs ps → slice_get ps j ≡ Some p → FindsGuard gs j p
guarded_at [] [] j p h e = absurd (cc)
guarded_at [] (q ∷ ps) j p h e = absurd h
guarded_at (g ∷ gs) [] j p h e = absurd h
guarded_at (g ∷ gs) (q ∷ ps) zero p h e =
    let same : q ≡ p = cc in
    record { body = h.0.body; is = ap Some h.0.is ∙ ap (λ x. Some (guarded x.parameters h.0.body)) same }
guarded_at (g ∷ gs) (q ∷ ps) (suc j) p h e =
    let f = guarded_at gs ps j p h.1 e in
    record { body = f.body; is = f.is }

all_guarded : (c : Context) (gs : List (ℕ → Action)) (before ps : List Procedure) → AreGuarded gs before → AreGuarded (guarded_routines (calling c gs) ps) (before ++ ps)
all_guarded c gs before [] h = subst (λ l. AreGuarded gs l) (sym (append-nil before)) h
all_guarded c gs before (p ∷ ps) h =
    let body : ℕ → Action = λ n. block_meaning (calling c gs) n p.body in
    let g : ℕ → Action = guarded p.parameters body in
    subst (λ l. AreGuarded (guarded_routines (calling c (gs ++ g ∷ [])) ps) l) (append_assoc before (p ∷ []) ps)
    (all_guarded c (gs ++ g ∷ []) (before ++ p ∷ []) ps (guarded_push gs before g p h (record { body = body; is = refl })))

pub guards_stop : GuardsStop
unfolding GuardsStop
guards_stop plan script ps j p at n spot es s vs is l out =
    let found = guarded_at (guarded_after plan script ps).routines ps j p (all_guarded (bare plan script) [] [] ps tt) at in
    ap (λ o. given o (λ r. given (values es s.variables) (λ us. enter (r n) us)) s) found.is
    ∙ ap (λ o. given o (λ us. enter (guarded p.parameters found.body n) us) s) is
    ∙ ap (λ b. then_do (unless_wrong b (found.body n) (entered vs s)) (λ t. ends (returned s t))) (guard_fails vs p.parameters l out)

-- a guarded body keeps to its heading too
guarded_sound : (plan : Layout) (q : Procedure) (run : ℕ → Action) → RoutineSound plan q run → RoutineSound plan q (guarded q.parameters run)
guarded_sound plan q run h = record {
  body = h.body;
  after = h.after;
  each = λ n le outside vs inside small s locks.
      with_test plan (called h.body outside) h.after (annotated q) (entered vs s) (entered vs s) (begins_in_ranges q.parameters (arguments vs)) (run n) (guard_holds vs q.parameters inside)
      (h.each n le outside vs inside small s locks);
}

pub sound_right : (plan : Layout) (around : Place) (after : Known) (k : Bounds) (s : State) (o : Behaviour State) → Sound plan around after k s o → IsRight o
sound_right plan around after k s (does p o) h = sound_right plan around after k s o h.1
sound_right plan around after k s (ends t) h = λ e. absurd (cc)
sound_right plan around after k s (stops w t) h = λ e. let same : w ≡ wrong = cc in subst IsOfAnswers same h.of_answers

zero_within : IsWithin (only 0) 0
zero_within = record { low = omega arith; high = omega arith }

-- where a service runs, and what is known at its start
abbrev outermost : Body → Place
outermost body = called body (λ c. false)

start_inside : (body : Body) (b : Branch) (answers : List Answer) → Inside (outermost body) at_start (fresh b answers)
start_inside body b answers = record {
  variables = record { each = λ x. zero_within; small = λ x. omega arith };
  registers = λ r. tt;
  locks = λ c. refl;
}

still_there : (rs : List (ℕ → Action)) (x r : ℕ → Action) (j : ℕ) → slice_get rs j ≡ Some r → slice_get (rs ++ x ∷ []) j ≡ Some r
still_there [] x r j e = cc
still_there (y ∷ rs) x r zero e = e
still_there (y ∷ rs) x r (suc j) e = still_there rs x r j e

-- a service that is not wrong, whatever the branch is like and answers
abbrev pub IsKept : Layout → Script → Service → Type 0
IsKept plan script v =
    (n : ℕ) → most_turns ≤ n → (b : Branch) (answers : List Answer) → IsRight (service_meaning (guarded_context plan script) n v b answers)

-- as many of these services as there are costs
abbrev pub AreKept : Layout → Script → List Bounds → List Service → Type 0
AreKept plan script [] vs = Unit {0}
AreKept plan script (k ∷ ks) [] = ⊥
AreKept plan script (k ∷ ks) (v ∷ vs) = IsKept plan script v × AreKept plan script ks vs

pub record AllKept (plan : Layout) (script : Script) (n : ℕ) (so_far ps : List Procedure) (vs : List Service) (ks : List Bounds) : Type 0 where
  pub services : AreKept plan script ks vs
  -- the guarded bodies, where n procedures are named
  pub procedures : n ≡ length ps → Matched plan (guarded_context plan script).routines (so_far ++ ps)

module _ (plan : Layout) (script : Script) (narrow : HasWidths plan) where
  abbrev all : List (ℕ → Action)
  all = (guarded_context plan script).routines

  -- the procedures after these leave them in their places
  stays : (rs : List (ℕ → Action)) (ps : List Procedure) (j : ℕ) (r : ℕ → Action) → slice_get rs j ≡ Some r → slice_get (guarded_routines (bare_with plan script rs) ps) j ≡ Some r
  stays rs [] j r e = e
  stays rs (p ∷ ps) j r e =
      let x : ℕ → Action = guarded p.parameters (λ n. block_meaning (bare_with plan script rs) n p.body) in
      stays (rs ++ x ∷ []) ps j r (still_there rs x r j e)

  serves_all : (rs : List (ℕ → Action)) (so_far ps : List Procedure) → Matched plan rs so_far → guarded_routines (bare_with plan script rs) ps ≡ all → Serves (setting plan script all so_far)
  serves_all rs so_far ps m e = record {
    each = λ j q is. (
        let h = found_at plan rs so_far j q m is in
        record { routine = h.routine; is = subst (λ l. slice_get l j ≡ Some h.routine) e (stays rs ps j h.routine h.is); sound = h.sound }
        );
  }

  service_kept : (so_far : List Procedure) → Serves (setting plan script all so_far) → (v : Service) → Allows (accept_service (seen (setting plan script all so_far)) v) (λ k. IsKept plan script v)
  service_kept so_far serves v =
      after_any (count_block (body.Service v.lam) v.body 0) (λ judged.
      then_allowed (block_sound (setting plan script all so_far) narrow serves (outermost (body.Service v.lam)) v.body (λ e c. refl) at_start) (λ found h.
      required_allowed _ v.spot _ (λ words.
      required_allowed _ v.spot _ (λ cycles.
      required_allowed _ v.spot _ (λ steps.
      allowed (λ n le b answers.
      sound_right plan (outermost (body.Service v.lam)) found.after found.costs (fresh b answers) (service_meaning (guarded_context plan script) n v b answers) (h.each n le (fresh b answers) (start_inside (body.Service v.lam) b answers))))))))

  procedure_kept : (rs : List (ℕ → Action)) (so_far : List Procedure) → Matched plan rs so_far → (p : Procedure) → block_has_lock p.body ≡ false → Allows (accept_procedure (seen (setting plan script rs so_far)) p) (λ found. RoutineSound plan p (guarded p.parameters (λ n. block_meaning (of (setting plan script rs so_far)) n p.body)))
  procedure_kept rs so_far m p free =
      let c : Setting = setting plan script rs so_far in
      let run : ℕ → Action = λ n. block_meaning (of c) n p.body in
      after_any (count_block (own_body (seen c)) p.body 0) (λ judged.
      allowed_more
      (routine_sound plan (own_body (seen c)) p run (accept_block (seen c) (alone_in (own_body (seen c))) p.body) (λ k.
      for_each_of_allows (λ outside. Unit {0}) (λ outside v. SoundFor plan (called (own_body (seen c)) outside) (Some k) run v) (λ outside u.
      block_sound c narrow (serves_own plan script rs so_far m) (called (own_body (seen c)) outside) p.body (λ e. absurd (false≢true (sym free ∙ e))) k)))
      (λ found h. guarded_sound plan p run h))

  none_left : (rs : List (ℕ → Action)) (so_far ps : List Procedure) → Matched plan rs so_far → guarded_routines (bare_with plan script rs) ps ≡ all → 0 ≡ length ps → Matched plan all (so_far ++ ps)
  none_left rs so_far [] m e n = subst (λ l. Matched plan all l) (sym (append-nil so_far)) (subst (λ l. Matched plan l so_far) e m)
  none_left rs so_far (p ∷ ps) m e n = absurd (omega arith)

  pub items_kept : (items : List Item) (rs : List (ℕ → Action)) (so_far ps : List Procedure) (vs : List Service) → Matched plan rs so_far → guarded_routines (bare_with plan script rs) ps ≡ all → AreLockless ps → Allows (accept_items (seen (setting plan script rs so_far)) items ps vs) (AllKept plan script (procedures_in items) so_far ps vs)
  items_kept [] rs so_far ps vs m e free = allowed (record { services = tt; procedures = λ n. none_left rs so_far ps m e n })
  items_kept (next_table ∷ rest) rs so_far ps vs m e free = items_kept rest rs so_far ps vs m e free
  items_kept (next_lam ∷ rest) rs so_far ps vs m e free = items_kept rest rs so_far ps vs m e free
  items_kept (next_variables spot n ∷ rest) rs so_far ps vs m e free = items_kept rest rs so_far ps vs m e free
  items_kept (next_procedure ∷ rest) rs so_far [] vs m e free =
      allowed_more (items_kept rest rs so_far [] vs m e free) (λ ks h. record { services = h.services; procedures = λ n. absurd (omega arith) })
  items_kept (next_procedure ∷ rest) rs so_far (p ∷ ps) vs m e free =
      then_allowed (procedure_kept rs so_far m p free.0) (λ found sound.
      let body : ℕ → Action = guarded p.parameters (λ n. block_meaning (of (setting plan script rs so_far)) n p.body) in
      allowed_more (items_kept rest (rs ++ body ∷ []) (so_far ++ p ∷ []) ps vs (matched_push plan rs so_far body p m sound) e free.1) (λ ks h.
      record {
        services = h.services;
        procedures = λ n. subst (λ l. Matched plan all l) (append_assoc so_far (p ∷ []) ps) (h.procedures (omega arith));
      }))
  items_kept (next_service ∷ rest) rs so_far ps [] m e free = items_kept rest rs so_far ps [] m e free
  items_kept (next_service ∷ rest) rs so_far ps (v ∷ vs) m e free =
      then_allowed (service_kept so_far (serves_all rs so_far ps m e) v) (λ k first.
      then_allowed (items_kept rest rs so_far ps vs m e free) (λ ks others.
      allowed (record { services = (first, others.services); procedures = others.procedures })))

-- each of the services, where there are costs for all of them
pub kept_at : (plan : Layout) (script : Script) (ks : List Bounds) (vs : List Service) (i : ℕ) (v : Service) → AreFine plan script ks vs → AreKept plan script ks vs → slice_get vs i ≡ Some v → IsKept plan script v
kept_at plan script [] [] i v f h e = absurd (cc)
kept_at plan script [] (w ∷ vs) i v f h e = absurd f
kept_at plan script (k ∷ ks) [] i v f h e = absurd f
kept_at plan script (k ∷ ks) (w ∷ vs) zero v f h e = let same : w ≡ v = cc in subst (λ x. IsKept plan script x) same h.0
kept_at plan script (k ∷ ks) (w ∷ vs) (suc i) v f h e = kept_at plan script ks vs i v f.1 h.1 e

-- Calls of accepted scripts keep to their ranges: in each service, in each procedure by itself, and in every run.

-- ---- runs whose services mean the same

abbrev Each : (Service → Type 0) → List Service → Type 0
Each P vs = (i : ℕ) (v : Service) → slice_get vs i ≡ Some v → P v

abbrev IfChosen : (Service → Type 0) → Option Chosen → Type 0
IfChosen P o = IfSome o (λ v. P v.service)

module _ (P : Service → Type 0) (c : Context) where
  with_bit_chosen : (k i : ℕ) (vs : List Service) → Each P vs → IfChosen P (with_bit c k i vs)
  with_bit_chosen k i [] h = tt
  with_bit_chosen k i (w ∷ vs) h = go (is_bit (service_bit c w) k) (with_bit_chosen k (i + 1) vs (λ j v e. h (suc j) v e))
    where
      go : (t : Bool) → IfChosen P (with_bit c k (i + 1) vs) → IfChosen P (if t then Some (record { number = i; bit = k; service = w }) else with_bit c k (i + 1) vs)
      go true later = h zero w refl
      go false later = later

  either_chosen : (o o' : Option Chosen) → IfChosen P o → IfChosen P o' → IfChosen P (or_next o o')
  either_chosen None o' h g = g
  either_chosen (Some v) o' h g = h

  first_chosen : (m k pattern : ℕ) (vs : List Service) → Each P vs → IfChosen P (first_service c m k pattern vs)
  first_chosen zero k pattern vs h = tt
  first_chosen (suc m) k pattern vs h =
      either_chosen (if is_bit_set pattern k then with_bit c k 0 vs else None) (first_service c m (k + 1) pattern vs) (go (is_bit_set pattern k)) (first_chosen m (k + 1) pattern vs h)
    where
      go : (t : Bool) → IfChosen P (if t then with_bit c k 0 vs else None)
      go true = with_bit_chosen k 0 vs h
      go false = tt

then_each : {A : Type 0} (a : Behaviour State) (go go' : State → Behaviour A) → ((t : State) → go t ≡ go' t) → then_do a go ≡ then_do a go'
then_each (does p a) go go' h = ap (does p) (then_each a go go' h)
then_each (ends t) go go' h = h t
then_each (stops w s) go go' h = refl

module _ (plan : Layout) (script : Script) (n : ℕ) where
  -- a service that does the same with guards
  abbrev pub MeansSame : Service → Type 0
  MeansSame v = (b : Branch) (answers : List Answer) → service_meaning (guarded_context plan script) n v b answers ≡ service_meaning (context plan script) n v b answers

  pub rounds_same : (vs : List Service) → Each MeansSame vs → (k : ℕ) (b : Branch) (answers : List Answer) → rounds k (guarded_context plan script) n vs b answers ≡ rounds k (context plan script) n vs b answers
  rounds_same vs h zero b answers = refl
  rounds_same vs h (suc k) b [] = refl
  rounds_same vs h (suc k) b (a ∷ rest) =
      go (service_for (context plan script) (pattern_of plan b a.gl) vs) (first_chosen MeansSame (context plan script) 24 1 (pattern_of plan b a.gl) vs h) (rounds_same vs h k)
    where
      go : (o : Option Chosen) → IfChosen MeansSame o → ((b' : Branch) (l : List Answer) → rounds k (guarded_context plan script) n vs b' l ≡ rounds k (context plan script) n vs b' l)
          → does (demanded (pattern_of plan b a.gl) (option_map (λ v. v.number) o)) (serve (guarded_context plan script) n o b rest (rounds k (guarded_context plan script) n vs))
          ≡ does (demanded (pattern_of plan b a.gl) (option_map (λ v. v.number) o)) (serve (context plan script) n o b rest (rounds k (context plan script) n vs))
      go None same ih = ap (does (demanded (pattern_of plan b a.gl) None)) (ih b rest)
      go (Some v) same ih =
          let on : Context → State → Behaviour (Unit {0}) = λ c s. does (event_left (event_of v.bit s)) (rounds k c n vs s.branch s.answers) in
          ap (does (demanded (pattern_of plan b a.gl) (Some v.number)))
          (ap (λ o. then_do o (on (guarded_context plan script))) (same b rest)
          ∙ then_each (service_meaning (context plan script) n v.service b rest) (on (guarded_context plan script)) (on (context plan script))
          (λ s. ap (does (event_left (event_of v.bit s))) (ih s.branch s.answers)))

-- ---- accepted scripts

in_range_small : (vs : List ℕ) (ps : List Parameter) → AreInRanges vs ps → AreNumbers ps → AreSmall vs
in_range_small [] ps h n = tt
in_range_small (v ∷ vs) [] h n = absurd h
in_range_small (v ∷ vs) (p ∷ ps) h n =
    let low = h.1 in
    let high = n.0 in
    (omega arith, in_range_small vs ps h.2 n.1)

lockless : (script : Script) → IsTrue (is_well_formed script) → AreLockless script.procedures
lockless script formed =
    are_lockless script.procedures (λ j p at.
    let stands = procedures_stand script formed j p at in
    block_lockless (inside script j p) refl p.body 0 _ stands.body)

module _ (plan : Layout) (script : Script) (ks : List Bounds) (is : IsPlan plan) (formed : IsTrue (is_well_formed script)) (e : accept plan script ≡ Ok ks) where
  kept : AllKept plan script (procedures_in script.order) [] script.procedures script.services ks
  kept =
      subst (λ r. IfOk r (AllKept plan script (procedures_in script.order) [] script.procedures script.services)) e
      (items_kept plan script (λ at f w h. (allowed-in_range plan is at f w h).1) script.order [] [] script.procedures script.services tt refl (lockless script formed)).holds

  service_same : (n : ℕ) → most_turns ≤ n → Each (MeansSame plan script n) script.services
  service_same n le i v at b answers =
      block_same (bare plan script) (guarded_context plan script).routines (context plan script).routines (script_same plan script) n v.body (fresh b answers)
      (kept_at plan script ks script.services i v (accepted_fine plan script ks is formed e) kept.services at n le b answers)

  runs_same : (n : ℕ) → most_turns ≤ n → (answers : List Answer) → guarded_run n plan script answers ≡ run n plan script answers
  runs_same n le answers = rounds_same plan script n script.services (service_same n le) (length answers) start answers

  calls_keep : CallsKeepToRanges plan script
  calls_keep = record {
    services = service_same;
    procedures = λ n le j p body guarded_body at there there' vs inside s.
        let found = found_at plan (guarded_context plan script).routines script.procedures j p (kept.procedures (order_procedures script formed)) at in
        let known = found.is in
        let same : found.routine ≡ guarded_body = cc in
        let sound = subst (λ r. RoutineSound plan p r) same found.sound in
        let outside : ℕ → Bool = λ c. (s.branch c).locked in
        let small = in_range_small vs p.parameters inside (parameters_are_numbers script formed j p at) in
        let alike : BothSame (slice_get (guarded_context plan script).routines j) (slice_get (context plan script).routines j) =
        alike_at (guarded_context plan script).routines (context plan script).routines (script_same plan script) j
        in
        let both : SameRoutine guarded_body body = subst (λ o. BothSame (Some guarded_body) o) there (subst (λ o. BothSame o (slice_get (context plan script).routines j)) there' alike) in
        both n (entered vs s)
        (sound_right plan (called sound.body outside) sound.after (annotated p) (entered vs s) (guarded_body n (entered vs s)) (sound.each n le outside vs inside small s (λ c. refl)));
    runs = runs_same;
    right = λ n le answers.
        let safe : RunsSafely plan script ks = fine_services_run plan script ks (accepted_fine plan script ks is formed e) in
        subst (λ o. Meets no_count Any (λ u w s. IsOfAnswers w) Any nothing o) (sym (runs_same n le answers ∙ safe.same_turns n le answers)) (safe.right_and_ending answers);
  }

pub accepted_calls_keep : AcceptedCallsKeep
unfolding AcceptedCallsKeep
accepted_calls_keep plan script ks is formed e = calls_keep plan script ks is formed e
