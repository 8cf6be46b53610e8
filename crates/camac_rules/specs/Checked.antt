-- A checked script.
use Rattle.std.specs.Prelude.{◌≡◌, ℕ, List, Ok, refl}
use Rattle.std.specs.Coded.{Coded, code_by, coded_list, coded×, coded_ℕ}
use Rattle.camac_lang.specs.Tree.{Script}
use Rattle.camac_lang.specs.Code.{script_coded}
use Rattle.camac_branch.specs.Plan.{Layout}
use Rattle.camac_names.specs.Linked.{LinkedScript, layout_coded}
use Rattle.camac_model.specs.Fine.{Bounds, AreFineServices, AreFineProcedures}
use Rattle.camac_model.specs.Headline.{RunsSafely, WithinHeadings}
use Rattle.camac_rules.specs.Accept.{accept}

-- with the bounds of each service, in text order
pub record CheckedScript : Type 0 where
  pub plan : Layout
  pub script : Script
  pub bounds : List Bounds

-- a script and the plan that it is linked to, without bounds
abbrev pub linked_of : CheckedScript → LinkedScript
linked_of c = record { plan = c.plan; script = c.script }

-- a linked script with these bounds
abbrev pub checked_with : LinkedScript → List Bounds → CheckedScript
checked_with l ks = record { plan = l.plan; script = l.script; bounds = ks }

-- what is true of each checked script, whatever the branch answers
pub record IsChecked (c : CheckedScript) : Type 0 where
  -- no rule is broken
  pub accepted : accept c.plan c.script ≡ Ok c.bounds
  -- each service by itself keeps to its bounds, and all its cycles are safe
  pub services : AreFineServices c.plan c.script c.bounds
  -- each procedure by itself keeps to its heading, on all arguments in range, whatever is locked
  pub procedures : AreFineProcedures c.plan c.script
  -- every run keeps to the bounds of its services
  pub runs : RunsSafely c.plan c.script c.bounds
  -- bounds are within headings, and events within the plan's buffer
  pub headings : WithinHeadings c.plan c.script c.bounds

-- Distinct values have distinct codes, by which a proof tells them apart.
abbrev pub bounds_coded : Coded Bounds
bounds_coded =
    code_by (ℕ × (ℕ × ℕ)) (coded× coded_ℕ (coded× coded_ℕ coded_ℕ))
    (λ k. (k.cycles, (k.words, k.steps))) (λ p. record { cycles = p.0; words = p.1.0; steps = p.1.1 }) (λ _. refl)

abbrev pub checked_coded : Coded CheckedScript
checked_coded =
    code_by (Layout × (Script × List Bounds)) (coded× layout_coded (coded× script_coded (coded_list bounds_coded)))
    (λ c. (c.plan, (c.script, c.bounds))) (λ p. record { plan = p.0; script = p.1.0; bounds = p.1.1 }) (λ _. refl)
