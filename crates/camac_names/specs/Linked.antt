-- A linked script: a plan and a script, of which no rule of linking is broken.
use Rattle.std.specs.Prelude.{◌≡◌, ℕ, Bool, List, Option, Some, None, map, slice_get, option_and_then, refl}
use Rattle.std.specs.Coded.{Coded, code_by, coded_list, coded_option, coded×, coded_ℕ}
use Rattle.camac_lang.specs.Tree.{Script}
use Rattle.camac_lang.specs.Code.{script_coded}
use Rattle.camac_module.specs.Entry.{Entry}
use Rattle.camac_module.specs.Commands.{Commands}
use Rattle.camac_module.specs.contracts.kind.CommandKind as command_kind
use Rattle.camac_module.specs.declared.kind.CommandKind.{CommandKind}
use Rattle.camac_branch.specs.Plan.{Layout}
use Rattle.camac_branch.specs.declared.plan.Kind.{Kind}
use Rattle.camac_branch.specs.declared.plan.Crate.{Crate}
use Rattle.camac_branch.specs.declared.plan.Installed.{Installed}
use Rattle.camac_names.specs.Link.{link_fault, service_bit}

pub record LinkedScript : Type 0 where
  pub plan : Layout
  pub script : Script

-- the graded-L bit of the service of this number
abbrev pub bit_of_service : LinkedScript → ℕ → Option ℕ
bit_of_service l i = option_and_then (service_bit l.plan l.script.lams) (slice_get l.script.services i)

-- no rule of linking is broken
abbrev pub IsLinked : LinkedScript → Type 0
IsLinked l = link_fault l.plan l.script ≡ None

-- these are the bits of the services
abbrev pub HasBits : LinkedScript → List ℕ → Type 0
HasBits l bits = map (service_bit l.plan l.script.lams) l.script.services ≡ map Some bits

-- Distinct values have distinct codes, by which a proof tells them apart.
abbrev pub entry_coded : Coded Entry
entry_coded = code_by (ℕ × CommandKind) (coded× coded_ℕ command_kind.the_row.coded) (λ e. (e.width, e.kind)) (λ p. record { width = p.0; kind = p.1 }) (λ _. refl)

abbrev pub kind_coded : Coded Kind
kind_coded =
    code_by (List ℕ × Commands) (coded× (coded_list coded_ℕ) (coded_list (coded_list (coded_option entry_coded))))
    (λ k. (k.name, k.commands)) (λ p. record { name = p.0; commands = p.1 }) (λ _. refl)

abbrev pub installed_coded : Coded Installed
installed_coded =
    code_by (ℕ × Option ℕ) (coded× coded_ℕ (coded_option coded_ℕ)) (λ s. (s.type_no, s.gl)) (λ p. record { type_no = p.0; gl = p.1 }) (λ _. refl)

abbrev pub crate_coded : Coded Crate
crate_coded =
    code_by (ℕ × List (Option Installed)) (coded× coded_ℕ (coded_list (coded_option installed_coded)))
    (λ k. (k.waits, k.stations)) (λ p. record { waits = p.0; stations = p.1 }) (λ _. refl)

abbrev pub layout_coded : Coded Layout
layout_coded =
    code_by (ℕ × (List Kind × List (Option Crate))) (coded× coded_ℕ (coded× (coded_list kind_coded) (coded_list (coded_option crate_coded))))
    (λ l. (l.buffer, (l.types, l.crates))) (λ p. record { buffer = p.0; types = p.1.0; crates = p.1.1 }) (λ _. refl)

abbrev pub linked_coded : Coded LinkedScript
linked_coded =
    code_by (Layout × Script) (coded× layout_coded script_coded) (λ l. (l.plan, l.script)) (λ p. record { plan = p.0; script = p.1 }) (λ _. refl)
