-- How `check` judges a linked script.
use Rattle.std.specs.Prelude.{◌≡◌, Result, Ok, Err}
use Rattle.camac_names.specs.Linked.{LinkedScript}
use Rattle.camac_rules.specs.Accept.{accept}
use Rattle.camac_rules.specs.Fault.{broken}
use Rattle.camac_check_known.specs.declared.fault.CheckFault.{CheckFault}
use Rattle.camac_check_known.specs.declared.fault.CheckFault.TheVariants.{OutOfMemory, Broken}
use Rattle.camac_rules.specs.Checked.{CheckedScript}

-- Accepted exactly where no rule is broken, with the costs as bounds; else the first broken rule; or memory ran out.
abbrev pub Judges : LinkedScript → Result CheckedScript CheckFault → Type 0
Judges l (Ok c) = (c.plan ≡ l.plan) × (c.script ≡ l.script) × (accept l.plan l.script ≡ Ok c.bounds)
Judges l (Err OutOfMemory) = Unit {0}
Judges l (Err (Broken rule spot case)) = accept l.plan l.script ≡ Err (broken rule spot case)
