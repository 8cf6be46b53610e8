-- Steps that were allowed, and costs within the numbers of a heading.
use Rattle.std.proofs.Common.{◌≡◌, ℕ, ◌≤◌, Bool, true, false, Result, Ok, Err, refl, ap, ◌∙◌, subst, Option, Some, None, ◌⊎◌, inl, inr}
use Rattle.std.specs.Prelude.{nat_le, if◌then◌else◌}
use Rattle.std.proofs.lemmas.Bool.{leb-true, le-leb}
use Rattle.camac_range.specs.Number.{greatest}
use Rattle.camac_branch.specs.Plan.{Layout}
use Rattle.camac_names.specs.declared.fault.LinkCase.TheVariants.{Words}
use Rattle.camac_names.specs.declared.fault.LinkRule.TheVariants.{EventAboveBuffer}
use Rattle.camac_model.specs.Fine.{Bounds}
use Rattle.camac_rules.specs.declared.rule.CheckRule.{CheckRule}
use Rattle.camac_rules.specs.declared.rule.CheckRule.TheVariants.{TooManyWords, TooManyCycles, TooManySteps}
use Rattle.camac_rules.specs.Fault.{Fault, broken}
use Rattle.camac_rules.specs.declared.case.Body.{Body}
use Rattle.camac_rules.specs.Cases.{budget}
use Rattle.camac_rules.specs.declared.case.Case.{Case}
use Rattle.camac_rules.specs.Refusal.{go_on, required, given, if_reached}
use Rattle.camac_rules.specs.Costs.{Verdict}
use Rattle.camac_rules.specs.Accept.{within}
use Rattle.camac_check.specs.Least.{and_then, event_fits}
use Rattle.camac_check.specs.declared.fault.LeastFault.{LeastFault}
use Rattle.camac_check.specs.declared.fault.LeastFault.TheVariants.{Link, Check}
use Rattle.camac_laws.specs.Lower.{AtMost, CostsAtMost}
use Rattle.camac_lang.specs.declared.spot.Spot.{Spot}

-- Which step was refused, and why.

-- the first step, or a later one
pub go_err : {A B : Type 0} (r : Result A Fault) (f : A → Result B Fault) (e : Fault) → go_on r f ≡ Err e → (r ≡ Err e) ⊎ ((x : A) × (r ≡ Ok x) × (f x ≡ Err e))
unfolding go_on
go_err (Ok x) f e h = inr (x, refl, h)
go_err (Err g) f e h = inl (cc)

pub required_err : (b : Bool) (rule : CheckRule) (spot : Spot) (case : Case) (e : Fault) → required b rule spot case ≡ Err e → (b ≡ false) × (broken rule spot case ≡ e)
unfolding required
required_err true rule spot case e h = absurd (cc)
required_err false rule spot case e h = (refl, cc)

pub given_err : {A : Type 0} (o : Option A) (rule : CheckRule) (spot : Spot) (case : Case) (e : Fault) → given o rule spot case ≡ Err e → (o ≡ None) × (broken rule spot case ≡ e)
unfolding given
given_err None rule spot case e h = (refl, cc)
given_err (Some x) rule spot case e h = absurd (cc)

pub given_ok : {A : Type 0} (o : Option A) (rule : CheckRule) (spot : Spot) (case : Case) (x : A) → given o rule spot case ≡ Ok x → o ≡ Some x
unfolding given
given_ok None rule spot case x h = absurd (cc)
given_ok (Some y) rule spot case x h = cc

pub required_true : (b : Bool) (rule : CheckRule) (spot : Spot) (case : Case) (u : Unit {0}) → required b rule spot case ≡ Ok u → b ≡ true
unfolding required
required_true true rule spot case u h = refl
required_true false rule spot case u h = absurd (cc)

pub reached_err : {A S : Type 0} (nothing : A) (o : Option S) (check : S → Result A Fault) (e : Fault) → if_reached nothing o check ≡ Err e → (s : S) × (o ≡ Some s) × (check s ≡ Err e)
unfolding if_reached
reached_err nothing None check e h = absurd (cc)
reached_err nothing (Some s) check e h = (s, refl, h)

pub reached_is : {A S : Type 0} (nothing : A) (s : S) (check : S → Result A Fault) → if_reached nothing (Some s) check ≡ check s
unfolding if_reached
reached_is nothing s check = refl

pub go_ok : {A B : Type 0} (r : Result A Fault) (f : A → Result B Fault) (y : B) → go_on r f ≡ Ok y → (x : A) × (r ≡ Ok x) × (f x ≡ Ok y)
unfolding go_on
go_ok (Ok x) f y e = (x, refl, e)
go_ok (Err g) f y e = absurd (cc)

pub go_is : {A B : Type 0} (r : Result A Fault) (x : A) (f : A → Result B Fault) → r ≡ Ok x → go_on r f ≡ f x
unfolding go_on
go_is r x f e = ap (λ q. go_on q f) e

pub then_is : {A B : Type 0} (r : Result A LeastFault) (x : A) (f : A → Result B LeastFault) → r ≡ Ok x → and_then r f ≡ f x
unfolding and_then
then_is r x f e = ap (λ q. and_then q f) e

pub required_ok : (b : Bool) (rule : CheckRule) (spot : Spot) (case : Case) (u : Unit {0}) → required b rule spot case ≡ Ok u → b ≡ true
unfolding required
required_ok true rule spot case u e = refl
required_ok false rule spot case u e = absurd (cc)

required_is : (b : Bool) (rule : CheckRule) (spot : Spot) (case : Case) → b ≡ true → required b rule spot case ≡ Ok tt
unfolding required
required_is b rule spot case e = ap (λ x. required x rule spot case) e

pub within_ok : (place : Body) (m found k : Bounds) (spot : Spot) → within place m found spot ≡ Ok k → AtMost found m
within_ok place m found k spot e =
    let a = go_ok (required (nat_le found.words m.words) TooManyWords spot _) _ k e in
    let b = go_ok (required (nat_le found.cycles m.cycles) TooManyCycles spot _) _ k a.2 in
    let c = go_ok (required (nat_le found.steps m.steps) TooManySteps spot _) _ k b.2 in
    record {
      cycles = leb-true found.cycles m.cycles (required_ok (nat_le found.cycles m.cycles) TooManyCycles spot _ b.0 b.1);
      words = leb-true found.words m.words (required_ok (nat_le found.words m.words) TooManyWords spot _ a.0 a.1);
      steps = leb-true found.steps m.steps (required_ok (nat_le found.steps m.steps) TooManySteps spot _ c.0 c.1);
    }

pub within_is : (place : Body) (m found : Bounds) (spot : Spot) → AtMost found m → within place m found spot ≡ Ok found
within_is place m found spot h =
    go_is (required (nat_le found.words m.words) TooManyWords spot _) tt _ (required_is (nat_le found.words m.words) TooManyWords spot _ (le-leb found.words m.words h.words))
    ∙ go_is (required (nat_le found.cycles m.cycles) TooManyCycles spot _) tt _ (required_is (nat_le found.cycles m.cycles) TooManyCycles spot _ (le-leb found.cycles m.cycles h.cycles))
    ∙ go_is (required (nat_le found.steps m.steps) TooManySteps spot _) tt _ (required_is (nat_le found.steps m.steps) TooManySteps spot _ (le-leb found.steps m.steps h.steps))

pub event_is : (place : Body) (plan : Layout) (words : ℕ) (spot : Spot) → words ≤ greatest → words ≤ plan.buffer → event_fits place plan words spot ≡ Ok tt
event_is place plan words spot number fits =
    ap (λ b. if b then if nat_le words plan.buffer then Ok tt else Err (Link EventAboveBuffer spot (Words words plan.buffer)) else Err (Check TooManyWords spot (budget place words greatest))) (le-leb words greatest number)
    ∙ ap (λ b. if b then Ok tt else Err (Link EventAboveBuffer spot (Words words plan.buffer))) (le-leb words plan.buffer fits)

-- what is accepted is accepted at lower costs
pub lower_ok : (q r : Result Verdict Fault) → CostsAtMost q r → (v : Verdict) → r ≡ Ok v → (w : Verdict) × (q ≡ Ok w) × AtMost w.costs v.costs
lower_ok (Ok w) (Ok u) h v e = let same : u ≡ v = cc in (w, refl, subst (λ (x : Verdict). AtMost w.costs x.costs) same h.1)
lower_ok (Ok w) (Err g) h v e = absurd h
lower_ok (Err f) (Ok u) h v e = absurd h
lower_ok (Err f) (Err g) h v e = absurd (cc)
