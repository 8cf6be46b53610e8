-- The plan reading: what a plan's text says, which is a plan or the first rule that is broken.
use Rattle.std.specs.Prelude.{◌≡◌, ◌↔◌, ◌≤◌, ⊤, IsUtf8, IsSome, IsNone, ℕ, List, [], length, Option, Some, None, Result, Ok, Err, if◌then◌else◌, unwrap_or}
use Rattle.std.specs.Str.{is_utf8}
use Rattle.toml.specs.Parse.{parse_document}
use Rattle.toml.specs.Data.{Members}
use Rattle.camac_branch.specs.Plan.{Layout, no_crates}
use Rattle.camac_plan.specs.declared.key.PlanKey.TheVariants as key
use Rattle.camac_plan.specs.declared.fault.PlanFault.{PlanFault}
use Rattle.camac_plan.specs.declared.fault.PlanFault.TheVariants.{OutOfMemory, Broken}
use Rattle.camac_plan.specs.declared.fault.PlanTable.TheVariants.{Top}
use Rattle.camac_plan.specs.declared.fault.PlanCase.{PlanCase}
use Rattle.camac_plan.specs.declared.fault.PlanCase.TheVariants.{Text, Nested}
use Rattle.camac_plan.specs.declared.fault.BrokenRule.{BrokenRule}
use Rattle.camac_plan.specs.declared.fault.PlanRule.{PlanRule}
use Rattle.camac_plan.specs.declared.fault.PlanRule.TheVariants.{NotToml, TooDeep}
use Rattle.camac_plan.specs.Broken.{broken, next}
use Rattle.camac_plan.specs.Nesting.{too_deep}
use Rattle.camac_plan.specs.Field.{has_only, number_at, tables_at}
use Rattle.camac_plan.specs.Types.{with_types}
use Rattle.camac_plan.specs.Crates.{with_crates}

-- a plan of nothing but its buffer
abbrev pub empty_plan : ℕ → Layout
empty_plan buffer = record { buffer = buffer; types = []; crates = no_crates }

-- the top table: its keys, one key after the other, and then the types and the crates
abbrev pub plan_of : Members → Result Layout BrokenRule
plan_of ms =
    next (has_only Top ms) (λ _.
    next (number_at Top key.Buffer 1 4096 ms) (λ buffer.
    next (tables_at Top key.Types ms) (λ types.
    next (tables_at Top key.Crates ms) (λ crates.
    next (with_types (empty_plan (unwrap_or buffer 4096)) types) (λ plan. with_crates crates 0 plan crates)))))

-- the top table that the bytes say as TOML, which is text in UTF-8; else they are no TOML from a place on
abbrev pub parsed : ℕ → Option Members → Result Members BrokenRule
parsed at None = Err (broken NotToml (Text at))
parsed at (Some ms) = Ok ms

abbrev pub document_of : ℕ → List ℕ → Result Members BrokenRule
document_of at bytes = if is_utf8 bytes then parsed at (parse_document bytes) else Err (broken NotToml (Text at))

-- the bytes nest no deeper than a plan may
abbrev pub shallow : Option ℕ → Result (Unit {0}) BrokenRule
shallow None = Ok tt
shallow (Some at) = Err (broken TooDeep (Nested at))

-- what the bytes say, with the case of the rule that they break
abbrev pub reading_at : ℕ → List ℕ → Result Layout BrokenRule
reading_at at bytes = next (shallow (too_deep bytes)) (λ _. next (document_of at bytes) plan_of)

-- the rule alone
abbrev pub by_rule : {A : Type 0} → Result A BrokenRule → Result A PlanRule
by_rule (Ok x) = Ok x
by_rule (Err e) = Err e.rule

abbrev pub reading : List ℕ → Result Layout PlanRule
reading bytes = by_rule (reading_at 0 bytes)

-- P11 is the answer to what nests too deep, and to nothing else
abbrev pub TellsTooDeep : List ℕ → Type 0
TellsTooDeep bytes = (reading bytes ≡ Err TooDeep) ↔ IsSome (too_deep bytes)

-- P1 is the answer to what does not, and is no TOML, and to nothing else
abbrev pub TellsNoToml : List ℕ → Type 0
TellsNoToml bytes = (reading bytes ≡ Err NotToml) ↔ (IsNone (too_deep bytes) × (IsUtf8 bytes → parse_document bytes ≡ None))

-- a fault tells the broken rule and its case, unless memory ran out
abbrev pub TellsBroken : {A : Type 0} → PlanFault → Result A BrokenRule → Type 0
TellsBroken OutOfMemory r = ⊤
TellsBroken (Broken rule case) r = r ≡ Err (broken rule case)

-- the plan was changed to that of the reading, or the fault tells the broken rule
abbrev pub AddsOrTells : {A : Type 0} → Result A PlanFault → Layout → Result Layout BrokenRule → Type 0
AddsOrTells (Ok _) new r = r ≡ Ok new
AddsOrTells (Err e) new r = TellsBroken e r

-- the plan of the reading, or a fault that tells the broken rule
abbrev pub GivesOrTells : Result Layout PlanFault → Result Layout BrokenRule → Type 0
GivesOrTells (Ok p) r = r ≡ Ok p
GivesOrTells (Err e) r = TellsBroken e r

-- the same, by the rule alone
abbrev pub ReadsOrTells : Result Layout PlanFault → Result Layout PlanRule → Type 0
ReadsOrTells (Ok p) r = r ≡ Ok p
ReadsOrTells (Err OutOfMemory) r = ⊤
ReadsOrTells (Err (Broken rule case)) r = r ≡ Err rule

-- the place of P1, at which the TOML library stops
abbrev pub stops_in : PlanCase → ℕ
stops_in (Text at) = at
stops_in _ = 0

abbrev pub stops_at : PlanFault → ℕ
stops_at OutOfMemory = 0
stops_at (Broken rule case) = stops_in case

-- it is one in the bytes
abbrev pub StopsWithin : List ℕ → PlanFault → Type 0
StopsWithin bytes OutOfMemory = ⊤
StopsWithin bytes (Broken rule case) = rule ≡ NotToml → stops_in case ≤ length bytes

-- a fault tells the case of the rule that the bytes break
abbrev pub TellsCase : List ℕ → PlanFault → Type 0
TellsCase bytes e = TellsBroken e (reading_at (stops_at e) bytes) × StopsWithin bytes e
