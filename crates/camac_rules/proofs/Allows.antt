-- What holds of all that the rules allow.
use Rattle.std.proofs.Common.{◌≡◌, ℕ, Bool, true, false, Option, Some, None, Result, Ok, Err, refl}
use Rattle.std.specs.Prelude.{IfOk}
use Rattle.camac_rules.specs.declared.rule.CheckRule.{CheckRule}
use Rattle.camac_rules.specs.declared.case.Case.{Case}
use Rattle.camac_rules.specs.Fault.{Fault}
use Rattle.camac_rules.specs.Refusal.{go_on, ◌>>=◌, ◌>>◌, required, given, if_reached}
use Rattle.camac_lang.specs.declared.spot.Spot.{Spot}

-- P holds of the result, if there is one. A record, so that its arguments are found.
pub record Allows {A : Type 0} (r : Result A Fault) (P : A → Type 0) : Type 0 where
  pub holds : IfOk r P

pub allowed : {A : Type 0} {x : A} {P : A → Type 0} → P x → Allows (Ok x) P
allowed h = record { holds = h }

pub refused : {A : Type 0} {e : Fault} {P : A → Type 0} → Allows (Err e) P
refused = record { holds = tt }

pub then_allowed : {A B : Type 0} {r : Result A Fault} {f : A → Result B Fault} {P : A → Type 0} {Q : B → Type 0} → Allows r P → ((x : A) → P x → Allows (f x) Q) → Allows (r >>= f) Q
unfolding go_on
then_allowed {r = Ok x} h k = k x h.holds
then_allowed {r = Err e} h k = record { holds = tt }

pub required_allowed : {B : Type 0} {b : Bool} (rule : CheckRule) (spot : Spot) (case : Case) {r : Result B Fault} {Q : B → Type 0} → (b ≡ true → Allows r Q) → Allows (required b rule spot case >> r) Q
unfolding go_on required
required_allowed {b = true} rule spot case h = h refl
required_allowed {b = false} rule spot case h = record { holds = tt }

pub given_allowed : {A : Type 0} (o : Option A) (rule : CheckRule) (spot : Spot) (case : Case) → Allows (given o rule spot case) (λ x. o ≡ Some x)
unfolding given
given_allowed None rule spot case = record { holds = tt }
given_allowed (Some x) rule spot case = record { holds = refl }

-- what holds for each value of S where H holds
pub for_each : {A S : Type 0} (H : S → Type 0) {r : Result A Fault} (P : S → A → Type 0) → ((s : S) → H s → Allows r (P s)) → Allows r (λ x. (s : S) → H s → P s x)
for_each H {r = Ok x} P h = record { holds = λ s k. (h s k).holds }
for_each H {r = Err e} P h = record { holds = tt }

-- what follows from what holds
pub allowed_more : {A : Type 0} {r : Result A Fault} {P Q : A → Type 0} → Allows r P → ((x : A) → P x → Q x) → Allows r Q
allowed_more {r = Ok x} h k = record { holds = k x h.holds }
allowed_more {r = Err e} h k = record { holds = tt }

-- a step of which nothing is said
pub after_any : {A B : Type 0} (r : Result A Fault) {f : A → Result B Fault} {Q : B → Type 0} → ((x : A) → Allows (f x) Q) → Allows (r >>= f) Q
unfolding go_on
after_any (Ok x) h = h x
after_any (Err e) h = record { holds = tt }

-- what is not reached is not checked
pub if_reached_allowed : {A S : Type 0} (nothing : A) (o : Option S) (check : S → Result A Fault) (P : Option S → A → Type 0) → P None nothing → ((s : S) → Allows (check s) (P (Some s))) → Allows (if_reached nothing o check) (P o)
unfolding if_reached
if_reached_allowed nothing None check P n h = record { holds = n }
if_reached_allowed nothing (Some s) check P n h = h s

-- what follows from what is given
pub given_then : {A : Type 0} {P : A → Type 0} (o : Option A) (rule : CheckRule) (spot : Spot) (case : Case) → ((x : A) → o ≡ Some x → P x) → Allows (given o rule spot case) P
unfolding given
given_then None rule spot case h = record { holds = tt }
given_then (Some x) rule spot case h = record { holds = h x refl }
