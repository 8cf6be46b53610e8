-- All that is refused of a linked script: the first broken rule of each procedure and service.
use Rattle.std.specs.Prelude.{◌≡◌, List, [], ◌∷◌, Result, Ok, Err, slice_get}
use Rattle.std.specs.Result.{result_err}
use Rattle.camac_lang.specs.Tree.{Script}
use Rattle.camac_branch.specs.Plan.{Layout}
use Rattle.camac_rules.specs.Accept.{Section, of_procedure, of_service, sections, accept, accept_procedure, accept_service, bare, with_procedure}
use Rattle.camac_rules.specs.Cycles.{Context}
use Rattle.camac_rules.specs.Fault.{Fault, broken}
pub use Rattle.camac_check_known.specs.declared.fault.CheckFault.{CheckFault}
pub use Rattle.camac_check_known.specs.declared.fault.CheckFault.TheVariants.{OutOfMemory, Broken}

-- what is refused of a body comes before these
abbrev pub refusal_first : {A : Type 0} → Result A Fault → List Fault → List Fault
refusal_first (Ok x) fs = fs
refusal_first (Err f) fs = f ∷ fs

-- each body by itself, and each call by the heading of its procedure, whose body may be refused
abbrev pub section_refusals : Context → List Section → List Fault
section_refusals c [] = []
section_refusals c (of_procedure p ∷ rest) = refusal_first (accept_procedure c p) (section_refusals (with_procedure p c) rest)
section_refusals c (of_service v ∷ rest) = refusal_first (accept_service c v) (section_refusals c rest)

-- in text order
abbrev pub refusals : Layout → Script → List Fault
refusals plan script = section_refusals (bare (λ k. k) plan script) (sections script.order script.procedures script.services)

-- as the code tells one
abbrev pub fault_of : Fault → CheckFault
fault_of (broken rule spot case) = Broken rule spot case

-- the first of them is the one that `accept` tells, and there is none exactly where it accepts
abbrev pub FirstIsRefusal : Type 0
FirstIsRefusal = (plan : Layout) (script : Script) → slice_get (refusals plan script) 0 ≡ result_err (accept plan script)
