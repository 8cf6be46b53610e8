-- What is found of a plan and a script that are read one after the other.
use Rattle.std.specs.Prelude.{◌≡◌, ◌⊎◌, ℕ, ◌+◌, List, Option, Result, Ok, Err}
use Rattle.camac_branch.specs.Plan.{Layout}
use Rattle.camac_plan.specs.declared.fault.PlanRule.{PlanRule}
use Rattle.camac_explain.specs.declared.finding.Finding.TheVariants as finding
use Rattle.camac_engines.specs.Accepted.{Accepts, accepted}
use Rattle.camac_engines.specs.Plan.{HasCase, IsPlanTooLong, Says}
use Rattle.camac_engines.specs.Reading.{ConsumesSome, WasRead}
use Rattle.camac_engines.specs.declared.fault.ToolFault.{ToolFault}
use Rattle.camac_engines.specs.declared.fault.ToolFault.TheVariants as fault
use Rattle.camac_engines.specs.declared.judging.Judged.{Judged}
use Rattle.camac_engines.specs.declared.judging.Judged.TheVariants as judged
use Rattle.camac_engines.specs.declared.plan.PlanSource.{PlanSource}
use Rattle.camac_engines.specs.declared.reading.TheConstants.{TEXT_LIMIT}
use Rattle.camac_engines.specs.declared.texts.Texts.{Texts}
use Rattle.camac_engines.specs.declared.texts.Texts.TheVariants as texts

-- a plan and the text of a script; or the text of a plan that is refused, and its rule
abbrev pub Found : Type 0
Found = Result (Layout × List ℕ) (List ℕ × PlanRule)

abbrev pub found_of : Texts → Found
found_of (texts.Read plan script) = Ok (plan, script.items)
found_of (texts.Refused text refusal) = Err (text.items, refusal.rule)

-- a refusal has the case of its text
abbrev pub HaveCase : Texts → Type 0
HaveCase (texts.Read plan script) = Unit {0}
HaveCase (texts.Refused text refusal) = HasCase text.items refusal

-- this was found of a plan and a script
abbrev pub IsJudged : Found → Judged → Type 0
IsJudged (Ok found) j = Accepts (Ok j) found.0 (accepted found.0 found.1)
IsJudged (Err (text, rule)) j = j ≡ judged.Refused (finding.Plan rule)

-- the source of the plan and the reader of the script, before and after
module _ {R : Type 0} (of : R → Option (List ℕ)) (plan plan' : PlanSource R) (s t : Option (List ℕ)) where
  -- they were read; where the plan is refused, nothing of the script
  abbrev pub HasRead : Found → Type 0
  HasRead (Ok found) = Says of plan plan' (Ok found.0) × WasRead TEXT_LIMIT s t found.1
  HasRead (Err why) = Says of plan plan' (Err why) × (t ≡ s)

  -- one of the two texts is too long
  abbrev pub IsTooLong : Type 0
  IsTooLong = (IsPlanTooLong of plan plan' × (t ≡ s)) ⊎ ((layout : Layout) × Says of plan plan' (Ok layout) × ConsumesSome s t (TEXT_LIMIT + 1))

  -- they were read and judged
  abbrev pub HasJudged : Judged → Type 0
  HasJudged j = (found : Found) × HasRead found × IsJudged found j

  -- this was done, unless a fault came first
  abbrev pub UnlessFault : {T : Type 0} → (T → Type 0) → Result T ToolFault → Type 0
  UnlessFault Done (Ok done) = Done done
  UnlessFault Done (Err fault.TooLong) = IsTooLong
  UnlessFault Done (Err fault.Write) = ⊥
  UnlessFault Done (Err _) = Unit {0}

  abbrev pub ReadsTexts : Result Texts ToolFault → Type 0
  ReadsTexts = UnlessFault (λ read. HasRead (found_of read) × HaveCase read)

  abbrev pub ReadsJudged : Result Judged ToolFault → Type 0
  ReadsJudged = UnlessFault HasJudged
