-- Steps that may be refused, one after another. The first refusal is the answer.
use Rattle.std.specs.Prelude.{ℕ, Bool, true, false, Option, Some, None, Result, Ok, Err}
use Rattle.camac_rules.specs.declared.rule.CheckRule.{CheckRule}
use Rattle.camac_rules.specs.declared.case.Case.{Case}
use Rattle.camac_rules.specs.Fault.{Fault, broken}
use Rattle.camac_lang.specs.declared.spot.Spot.{Spot}

-- goes on with what a step allows
unfoldable pub go_on : {A B : Type 0} → Result A Fault → (A → Result B Fault) → Result B Fault
go_on (Ok x) f = f x
go_on (Err e) f = Err e

infixl 10 ◌>>=◌
abbrev pub ◌>>=◌ : {A B : Type 0} → Result A Fault → (A → Result B Fault) → Result B Fault
r >>= f = go_on r f

infixl 10 ◌>>◌
abbrev pub ◌>>◌ : {A B : Type 0} → Result A Fault → Result B Fault → Result B Fault
r >> s = go_on r (λ _. s)

-- refused at this spot by a rule, in this case, unless its test holds
unfoldable pub required : Bool → CheckRule → Spot → Case → Result (Unit {0}) Fault
required true rule spot case = Ok tt
required false rule spot case = Err (broken rule spot case)

-- refused at this spot by a rule where there is nothing
unfoldable pub given : {A : Type 0} → Option A → CheckRule → Spot → Case → Result A Fault
given None rule spot case = Err (broken rule spot case)
given (Some x) rule spot case = Ok x

-- what can't be reached is not checked
unfoldable pub if_reached : {A S : Type 0} → A → Option S → (S → Result A Fault) → Result A Fault
if_reached nothing None check = Ok nothing
if_reached nothing (Some s) check = check s
