-- What the inputs have that words name, where their bytes are known.
use Rattle.std.specs.Prelude.{◌≡◌, ◌≤◌, ◌<◌, ◌⊎◌, ℕ, Bool, true, false, List, length, Option, Some, None, Ok, Err}
use Rattle.std.specs.Io.KnownBytes.{Keeps}
use Rattle.clap.specs.Words.{Text}
use Rattle.camac_branch.specs.Plan.{Layout}
use Rattle.camac_engines.specs.Found.{Found, IsJudged}
use Rattle.camac_engines.specs.Plan.{PlanFound, plan_found}
use Rattle.camac_engines.specs.Sample.{sample}
use Rattle.camac_engines.specs.declared.judging.Judged.{Judged}
use Rattle.camac_engines.specs.declared.plan.PlanSource.{PlanSource}
use Rattle.camac_engines.specs.declared.plan.PlanSource.TheVariants as source
use Rattle.camac_engines.specs.declared.reading.TheConstants.{TEXT_LIMIT}
use Rattle.camac_tool_host.specs.Apart.{is_sample}

-- a text is all that an input has, and is within the limit
abbrev pub IsTextOf : (limit : ℕ) → (known : Option (List ℕ)) → List ℕ → Type 0
IsTextOf limit known text = (length text ≤ limit) × Keeps known (Some text)

-- an input has more bytes than the limit
abbrev pub IsLong : (limit : ℕ) → (known : Option (List ℕ)) → Type 0
IsLong limit known = (text : List ℕ) × (limit < length text) × Keeps known (Some text)

-- that of a plan; the sample plan has none
abbrev pub IsLongPlan : (is_sample : Bool) → (known : Option (List ℕ)) → Type 0
IsLongPlan true known = ⊥
IsLongPlan false known = IsLong TEXT_LIMIT known

-- what the sample plan says, or the plan of an input's text
abbrev pub IsPlanIn : (is_sample : Bool) → (known : Option (List ℕ)) → PlanFound → Type 0
IsPlanIn true known says = says ≡ Ok sample
IsPlanIn false known says = (text : List ℕ) × IsTextOf TEXT_LIMIT known text × (says ≡ plan_found text)

-- of each word the bytes of the input that it names
module _ (bytes_of : Text → Option (List ℕ)) where
  abbrev pub IsPlanOf : (plan : Text) → PlanFound → Type 0
  IsPlanOf plan = IsPlanIn (is_sample plan) (bytes_of plan)

  -- of a plan that is refused no script is read
  abbrev pub IsFoundIn : (plan script : Text) → Found → Type 0
  IsFoundIn plan script (Ok found) = IsPlanOf plan (Ok found.0) × IsTextOf TEXT_LIMIT (bytes_of script) found.1
  IsFoundIn plan script (Err why) = IsPlanOf plan (Err why)

  -- that of the plan, or, where it is none that is refused, that of the script
  abbrev pub HaveLong : (plan script : Text) → Type 0
  HaveLong plan script = IsLongPlan (is_sample plan) (bytes_of plan) ⊎ ((layout : Layout) × IsPlanOf plan (Ok layout) × IsLong TEXT_LIMIT (bytes_of script))

  -- this is found of the two
  abbrev pub IsJudgedIn : (plan script : Text) → Judged → Type 0
  IsJudgedIn plan script j = (found : Found) × IsFoundIn plan script found × IsJudged found j

-- the input that a plan is read from, by what it has left: the sample plan is read from none
abbrev pub IsInputOf : {I : Type 0} → (left : I → Option (List ℕ)) → (known : Option (List ℕ)) → (is_sample : Bool) → Option I → Type 0
IsInputOf left known true None = Unit {0}
IsInputOf left known false (Some input) = Keeps known (left input)
IsInputOf left known is_sample input = ⊥

abbrev pub IsSourceOf : {I : Type 0} → Option I → PlanSource I → Type 0
IsSourceOf None source.Sample = Unit {0}
IsSourceOf (Some input) (source.Text reader) = reader ≡ input
IsSourceOf input source = ⊥
