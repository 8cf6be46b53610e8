-- The plan of a source.
use Rattle.std.specs.Prelude.{◌≡◌, ℕ, ◌+◌, Bool, false, List, Option, Result, Ok, Err}
use Rattle.camac_branch.specs.Plan.{Layout}
use Rattle.camac_plan.specs.declared.fault.PlanFault.TheVariants.{Broken}
use Rattle.camac_plan.specs.declared.fault.PlanRule.{PlanRule}
use Rattle.camac_plan.specs.Reading.{TellsCase, reading}
use Rattle.camac_engines.specs.Reading.{ConsumesSome, WasRead}
use Rattle.camac_engines.specs.Sample.{sample}
use Rattle.camac_engines.specs.declared.fault.ToolFault.{ToolFault}
use Rattle.camac_engines.specs.declared.fault.ToolFault.TheVariants as fault
use Rattle.camac_engines.specs.declared.plan.PlanRead.{PlanRead}
use Rattle.camac_engines.specs.declared.plan.PlanRefusal.{PlanRefusal}
use Rattle.camac_engines.specs.declared.plan.PlanSource.{PlanSource}
use Rattle.camac_engines.specs.declared.plan.PlanSource.TheVariants.{Sample, Text}
use Rattle.camac_engines.specs.declared.reading.TheConstants.{TEXT_LIMIT}

-- a plan, or a text that says none, and the first rule that it breaks
abbrev pub PlanFound : Type 0
PlanFound = Result Layout (List ℕ × PlanRule)

abbrev pub in_text : List ℕ → Result Layout PlanRule → PlanFound
in_text text (Ok plan) = Ok plan
in_text text (Err rule) = Err (text, rule)

abbrev pub plan_found : List ℕ → PlanFound
plan_found text = in_text text (reading text)

-- The source says this: the sample plan, or what all that its reader had left reads as. Of a reader, `left` tells the bytes that it has left.
abbrev pub Says : {R : Type 0} → (left : R → Option (List ℕ)) → (old new : PlanSource R) → PlanFound → Type 0
Says left Sample Sample says = says ≡ Ok sample
Says left (Text old) (Text new) says = (text : List ℕ) × WasRead TEXT_LIMIT (left old) (left new) text × (says ≡ plan_found text)
Says left _ _ says = ⊥

-- the source's text is longer than the limit
abbrev pub IsPlanTooLong : {R : Type 0} → (left : R → Option (List ℕ)) → (old new : PlanSource R) → Type 0
IsPlanTooLong left (Text old) (Text new) = ConsumesSome (left old) (left new) (TEXT_LIMIT + 1)
IsPlanTooLong left _ _ = ⊥

-- the same without the case
abbrev pub found_by : List ℕ → Result Layout PlanRefusal → PlanFound
found_by text (Ok plan) = Ok plan
found_by text (Err refusal) = Err (text, refusal.rule)

-- the text breaks the rule in this case
abbrev pub HasCase : List ℕ → PlanRefusal → Type 0
HasCase text refusal = TellsCase text (Broken refusal.rule refusal.case)

abbrev pub HasCaseIf : List ℕ → Result Layout PlanRefusal → Type 0
HasCaseIf text (Ok plan) = Unit {0}
HasCaseIf text (Err refusal) = HasCase text refusal

-- what the source says, unless a fault came first
abbrev pub ReadsPlan : {R : Type 0} → (left : R → Option (List ℕ)) → (old new : PlanSource R) → Result PlanRead ToolFault → Type 0
ReadsPlan left old new (Ok read) = Says left old new (found_by read.text.items read.says) × HasCaseIf read.text.items read.says
ReadsPlan left old new (Err fault.TooLong) = IsPlanTooLong left old new
ReadsPlan left old new (Err fault.Write) = ⊥
ReadsPlan left old new (Err _) = Unit {0}

-- what is found of a text, unless memory was refused
abbrev pub JudgesPlan : Result (Result Layout PlanRefusal) ToolFault → List ℕ → Type 0
JudgesPlan (Ok says) text = (found_by text says ≡ plan_found text) × HasCaseIf text says
JudgesPlan (Err fault.Memory) text = Unit {0}
JudgesPlan (Err _) text = ⊥

abbrev pub plan_failed : {R : Type 0} → (failed : R → Bool) → PlanSource R → Bool
plan_failed failed Sample = false
plan_failed failed (Text text) = failed text
