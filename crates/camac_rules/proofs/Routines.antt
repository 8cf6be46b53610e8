-- What the rules accept of a call runs safely, where the body of its procedure does.
use Rattle.std.proofs.Common.{◌≡◌, ℕ, zero, suc, ◌≤◌, Bool, true, List, [], ◌∷◌, map, Option, Some, None, Result, refl, sym, ap, ◌∙◌, subst, arith}
use Rattle.std.specs.Prelude.{◌||◌, ◌&&◌, nat_le, slice_get, if◌then◌else◌}
use Rattle.std.proofs.lemmas.Bool.{and_parts, leb-true, le-leb, false≢true}
use Rattle.camac_lang.specs.Tree.{Expression, Parameter, Procedure, call}
use Rattle.camac_range.specs.Number.{greatest}
use Rattle.camac_range.specs.Interval.{Interval, is_inside, IsWithin}
use Rattle.camac_branch.specs.Plan.{Layout}
use Rattle.camac_model.specs.State.{State, Variables, stepped}
use Rattle.camac_model.specs.Behaviour.{Behaviour, ends, Action, given}
use Rattle.camac_model.specs.Value.{value, value_and, values}
use Rattle.camac_model.specs.Meaning.{arguments, entered, returned, enter, effect}
use Rattle.camac_model.specs.Fine.{Bounds, most_turns, AreInRanges, annotated}
use Rattle.camac_model.proofs.Rules.{then_meets}
use Rattle.camac_rules.specs.declared.case.Body.{Body}
use Rattle.camac_rules.specs.Fault.{Fault}
use Rattle.camac_rules.specs.Known.{range_at, Facts, facts, Known}
use Rattle.camac_rules.specs.Costs.{call_costs, Verdict, unreached}
use Rattle.camac_rules.specs.Addresses.{is_among}
use Rattle.camac_rules.specs.Procedures.{ranges_of, parameter_range, arguments_fit, call_rule, can_be_called, at_entry, procedure_rule}
use Rattle.camac_rules.proofs.Allows.{Allows, allowed, then_allowed, required_allowed, given_allowed, for_each, if_reached_allowed}
use Rattle.camac_rules.proofs.Stores.{Place, VariablesInside, Reaches}
use Rattle.camac_rules.proofs.Values.{Fits, Gives, range_holds}
use Rattle.camac_rules.proofs.Sound.{Paid, step, SafePiece, StopsWell, EndsWell, Sound, SoundFor, meets_more}
use Rattle.camac_rules.proofs.Actions.{Setting, of, seen, with_given}
use Rattle.camac_lang.specs.declared.spot.Spot.{Spot}

-- where a procedure's body runs: any crates may be locked around the call
abbrev pub called : Body → (ℕ → Bool) → Place
called body outside = record { body = body; fixed = []; locked = []; outside = outside }

abbrev pub AreSmall : List ℕ → Type 0
AreSmall [] = Unit {0}
AreSmall (v ∷ vs) = (v ≤ greatest) × AreSmall vs

-- a procedure's body: on all arguments in range, whatever is locked, it keeps to the annotations
pub record RoutineSound (plan : Layout) (q : Procedure) (run : ℕ → Action) : Type 0 where
  pub body : Body
  pub after : Known
  pub each : (n : ℕ) → most_turns ≤ n → (outside : ℕ → Bool) (vs : List ℕ) → AreInRanges vs q.parameters → AreSmall vs → (s : State) → ((c : ℕ) → (s.branch c).locked ≡ outside c) → Sound plan (called body outside) after (annotated q) (entered vs s) (run n (entered vs s))

pub record HasRoutine (c : Setting) (j : ℕ) (q : Procedure) : Type 0 where
  pub routine : ℕ → Action
  pub is : slice_get c.routines j ≡ Some routine
  pub sound : RoutineSound c.plan q routine

-- each procedure that may be called has such a body
pub record Serves (c : Setting) : Type 0 where
  pub each : (j : ℕ) (q : Procedure) → slice_get c.procedures j ≡ Some q → HasRoutine c j q

-- values of several expressions, each in its range
abbrev pub AllFit : List ℕ → List Interval → Type 0
AllFit [] [] = Unit {0}
AllFit [] (r ∷ rs) = ⊥
AllFit (v ∷ vs) [] = ⊥
AllFit (v ∷ vs) (r ∷ rs) = Fits r v × AllFit vs rs

abbrev pub GiveAll : Option (List ℕ) → List Interval → Type 0
GiveAll None rs = ⊥
GiveAll (Some vs) rs = AllFit vs rs

give_both : (o : Option ℕ) (p : Option (List ℕ)) (r : Interval) (rs : List Interval) → Gives o r → GiveAll p rs → GiveAll (value_and o p) (r ∷ rs)
give_both None p r rs g h = g
give_both (Some v) None r rs g h = h
give_both (Some v) (Some vs) r rs g h = (g, h)

ranges_hold : (spot : Spot) (es : List Expression) (rs : List Interval) (env : Variables) → VariablesInside rs env → Allows (ranges_of spot es rs) (GiveAll (values es env))
ranges_hold spot [] rs env h = allowed tt
ranges_hold spot (e ∷ es) rs env h =
    then_allowed (range_holds spot e rs env h) (λ r g.
    then_allowed (ranges_hold spot es rs env h) (λ others gs. allowed (give_both (value e env) (values es env) r others g gs)))

pub ranges_each : (spot : Spot) (es : List Expression) (rs : List Interval) → Allows (ranges_of spot es rs) (λ found. (env : Variables) → VariablesInside rs env → GiveAll (values es env) found)
ranges_each spot es rs = for_each (VariablesInside rs) (λ env found. GiveAll (values es env) found) (λ env h. ranges_hold spot es rs env h)

record HasArguments (o : Option (List ℕ)) (rs : List Interval) : Type 0 where
  numbers : List ℕ
  is : o ≡ Some numbers
  fit : AllFit numbers rs

arguments_of : (o : Option (List ℕ)) (rs : List Interval) → GiveAll o rs → HasArguments o rs
arguments_of None rs g = absurd g
arguments_of (Some vs) rs g = record { numbers = vs; is = refl; fit = g }

pub in_ranges : (vs : List ℕ) (rs : List Interval) (ps : List Parameter) → AllFit vs rs → arguments_fit rs ps ≡ true → AreInRanges vs ps
in_ranges [] [] [] f e = tt
in_ranges [] [] (p ∷ ps) f e = absurd (false≢true e)
in_ranges [] (r ∷ rs) ps f e = absurd f
in_ranges (v ∷ vs) [] ps f e = absurd f
in_ranges (v ∷ vs) (r ∷ rs) [] f e = absurd (false≢true e)
in_ranges (v ∷ vs) (r ∷ rs) (p ∷ ps) f e =
    let q = and_parts (is_inside r (parameter_range p)) (arguments_fit rs ps) e in
    let b = and_parts (nat_le p.low r.lo) (nat_le r.hi p.high) q.0 in
    let low : p.low ≤ r.lo = leb-true p.low r.lo b.0 in
    let high : r.hi ≤ p.high = leb-true r.hi p.high b.1 in
    let from = f.0.within.low in
    let to = f.0.within.high in
    (omega arith, omega arith, in_ranges vs rs ps f.1 q.1)

pub are_small : (vs : List ℕ) (rs : List Interval) → AllFit vs rs → AreSmall vs
are_small [] [] f = tt
are_small [] (r ∷ rs) f = absurd f
are_small (v ∷ vs) [] f = absurd f
are_small (v ∷ vs) (r ∷ rs) f = (f.0.small, are_small vs rs f.1)

locks_after : (body : Body) (outside : ℕ → Bool) (after : Known) (t : State) → Reaches (called body outside) after t → (c : ℕ) → (t.branch c).locked ≡ outside c
locks_after body outside None t r c = absurd r
locks_after body outside (Some k) t r c = r.locks c

pub call_sound : (c : Setting) → Serves c → (around : Place) (spot : Spot) (p : ℕ) (es : List Expression) (k : Facts) → Allows (call_rule (seen c) spot p es k) (SoundFor c.plan around (Some k) (λ n s. effect (of c) n (call spot p es) (stepped s)))
call_sound c serves around spot p es k =
    then_allowed (ranges_each spot es k.ranges) (λ rs gives.
    then_allowed (given_allowed (slice_get c.procedures p) _ spot _) (λ q is.
    required_allowed _ spot _ (λ fit. allowed (record {
      each = λ n le s i.
          let d : Bounds = call_costs (annotated q) in
          let r = serves.each p q is in
          let vs = arguments_of (values es s.variables) rs (gives s.variables i.variables) in
          let outside : ℕ → Bool = λ c'. is_among c' around.locked || around.outside c' in
          let b : State = entered vs.numbers (stepped s) in
          let sound = r.sound.each n le outside vs.numbers (in_ranges vs.numbers rs q.parameters vs.fit fit) (are_small vs.numbers rs vs.fit) (stepped s) i.locks in
          with_given c.plan around (Some k) d s (stepped s) (slice_get c.routines p) (λ routine. given (values es s.variables) (λ us. enter (routine n) us)) r.routine r.is
          (with_given c.plan around (Some k) d s (stepped s) (values es s.variables) (λ us. enter (r.routine n) us) vs.numbers vs.is
          (then_meets step (SafePiece c.plan) (StopsWell d s) (EndsWell (called r.sound.body outside) r.sound.after (annotated q) b) (EndsWell around (Some k) d s) tt (r.routine n b) (λ t. ends (returned (stepped s) t))
          (meets_more c.plan (StopsWell (annotated q) b) (StopsWell d s) (EndsWell (called r.sound.body outside) r.sound.after (annotated q) b) (EndsWell (called r.sound.body outside) r.sound.after (annotated q) b) (r.routine n b)
          (λ w t e. record { of_answers = e.of_answers; paid = paid_call (annotated q) vs.numbers s t e.paid; because = λ z. omega (arith, e.because z) }) (λ t e. e) sound)
          (λ x t e.
          let all = paid_call (annotated q) vs.numbers s t e.paid in
          record {
            reaches = record { variables = i.variables; registers = i.registers; locks = locks_after r.sound.body outside r.sound.after t e.reaches };
            paid = record { cycles = all.cycles; words = all.words; steps = all.steps; are_words = all.are_words; answers = all.answers; easy = all.easy };
            untouched = λ y among. refl;
          })));
    }))))
  where
    paid_call : (a : Bounds) (vs : List ℕ) (s t : State) → Paid a (entered vs (stepped s)) t → Paid (call_costs a) s t
    paid_call a vs s t p = record { cycles = omega (arith, p.cycles); words = omega (arith, p.words); steps = omega (arith, p.steps); are_words = p.are_words; answers = omega (arith, p.answers); easy = p.easy }

-- arguments in their ranges, where a body begins
callable : (vs : List ℕ) (ps : List Parameter) → AreInRanges vs ps → can_be_called ps ≡ true
callable [] [] h = refl
callable [] (p ∷ ps) h = absurd h
callable (v ∷ vs) [] h = absurd h
callable (v ∷ vs) (p ∷ ps) h =
    let low = h.0 in
    let high = h.1 in
    let one : nat_le p.low p.high ≡ true = le-leb p.low p.high (omega arith) in
    ap (λ t. t && can_be_called ps) one ∙ callable vs ps h.2

argument_within : (vs : List ℕ) (ps : List Parameter) (y : ℕ) → AreInRanges vs ps → IsWithin (range_at (map parameter_range ps) y) (arguments vs y)
argument_within [] [] y h = record { low = omega arith; high = omega arith }
argument_within [] (p ∷ ps) y h = absurd h
argument_within (v ∷ vs) [] y h = absurd h
argument_within (v ∷ vs) (p ∷ ps) zero h = record { low = h.0; high = h.1 }
argument_within (v ∷ vs) (p ∷ ps) (suc y) h = argument_within vs ps y h.2

argument_small : (vs : List ℕ) (y : ℕ) → AreSmall vs → arguments vs y ≤ greatest
argument_small [] y h = omega arith
argument_small (v ∷ vs) zero h = h.0
argument_small (v ∷ vs) (suc y) h = argument_small vs y h.1

pub entry_reached : (body : Body) (outside : ℕ → Bool) (ps : List Parameter) (vs : List ℕ) (s : State) → AreInRanges vs ps → AreSmall vs → ((c : ℕ) → (s.branch c).locked ≡ outside c) → Reaches (called body outside) (at_entry ps) (entered vs s)
entry_reached body outside ps vs s h small locks =
    subst (λ b. Reaches (called body outside) (if b then Some (facts (map parameter_range ps) []) else None) (entered vs s)) (sym (callable vs ps h))
    (record {
      variables = record { each = λ y. argument_within vs ps y h; small = λ y. argument_small vs y small };
      registers = λ r. tt;
      locks = locks;
    })

-- more may be paid
sound_within : (plan : Layout) (around : Place) (after : Known) (c d : Bounds) (s : State) (b : Behaviour State) → c.cycles ≤ d.cycles → c.words ≤ d.words → c.steps ≤ d.steps → Sound plan around after c s b → Sound plan around after d s b
sound_within plan around after c d s b cycles words steps h =
    meets_more plan (StopsWell c s) (StopsWell d s) (EndsWell around after c s) (EndsWell around after d s) b
    (λ w t e. record { of_answers = e.of_answers; paid = more t e.paid; because = λ z. omega (arith, e.because z) })
    (λ t e. record { reaches = e.reaches; paid = more t e.paid; untouched = e.untouched }) h
  where
    more : (t : State) → Paid c s t → Paid d s t
    more t p = record { cycles = omega (arith, p.cycles); words = omega (arith, p.words); steps = omega (arith, p.steps); are_words = p.are_words; answers = omega (arith, p.answers); easy = p.easy }

-- a body that is accepted for its heading
pub routine_sound : (plan : Layout) (body : Body) (q : Procedure) (run : ℕ → Action) (check : Facts → Result Verdict Fault) → ((k : Facts) → Allows (check k) (λ v. (outside : ℕ → Bool) → Unit {0} → SoundFor plan (called body outside) (Some k) run v)) → Allows (procedure_rule body check q) (λ found. RoutineSound plan q run)
routine_sound plan body q run check h =
    then_allowed
    (if_reached_allowed unreached (at_entry q.parameters) check (λ k v. (outside : ℕ → Bool) → Unit {0} → SoundFor plan (called body outside) k run v)
    (λ outside u. record { each = λ n le s i. absurd i }) h)
    (λ v sound.
    required_allowed _ q.spot _ (λ words.
    required_allowed _ q.spot _ (λ cycles.
    required_allowed _ q.spot _ (λ steps. allowed (record {
      body = body;
      after = v.after;
      each = λ n le outside vs inside small s locks.
          sound_within plan (called body outside) v.after v.costs (annotated q) (entered vs s) (run n (entered vs s))
          (leb-true v.costs.cycles q.cycles cycles) (leb-true v.costs.words q.words words) (leb-true v.costs.steps q.steps steps)
          ((sound outside tt).each n le (entered vs s) (entry_reached body outside q.parameters vs s inside small locks));
    })))))
