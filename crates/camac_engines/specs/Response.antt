-- What `camac response` tells of a plan and a script, at the numbers that the words tell.
use Rattle.std.specs.Prelude.{◌≡◌, ℕ, Bool, List, Option, Some, None, Result, Ok, Err}
use Rattle.std.specs.Io.KnownBytes.{Keeps}
use Rattle.camac_rules.specs.Checked.{CheckedScript}
use Rattle.camac_explain.specs.Explanation.{refusal_of}
use Rattle.camac_response_times.specs.declared.setting.Misuse.{Misuse}
use Rattle.camac_response_times.specs.declared.setting.Settings.{Settings}
use Rattle.camac_response_times.specs.declared.source.Source.{Source}
use Rattle.camac_response.specs.Checked.{AreTold, IsNoService, AreKept}
use Rattle.camac_response.specs.Lines.{responses_text}
use Rattle.camac_response.specs.Twice.{twice_of}
use Rattle.camac_response.specs.Unkept.{unkept_of}
use Rattle.camac_response.specs.declared.unkept.Unkept.{Unkept}
use Rattle.camac_engines.specs.Engine.{IsWritten}
use Rattle.camac_engines.specs.Found.{HasJudged, IsTooLong}
use Rattle.camac_engines.specs.Report.{Reports, refused}
use Rattle.camac_engines.specs.declared.fault.ToolFault.{ToolFault}
use Rattle.camac_engines.specs.declared.fault.ToolFault.TheVariants as fault
use Rattle.camac_engines.specs.declared.judging.Judged.{Judged}
use Rattle.camac_engines.specs.declared.judging.Judged.TheVariants as judged
use Rattle.camac_engines.specs.declared.outcome.Outcome.{Outcome}
use Rattle.camac_engines.specs.declared.outcome.Outcome.TheVariants.{Good, Refused}
use Rattle.camac_engines.specs.declared.plan.PlanSource.{PlanSource}
use Rattle.camac_engines.specs.declared.response.Responded.{Responded}
use Rattle.camac_engines.specs.declared.response.Responded.TheVariants.{Told, Misused}

-- what a checked script does not do of its part of the promise
abbrev pub unkept_in : CheckedScript → List Source → List Unkept
unkept_in c ts = unkept_of c.plan c.script ts

-- which of its services may clear their look-at-mes twice
abbrev pub twice_in : CheckedScript → List Bool
twice_in c = twice_of c.plan c.script

-- the outcome says whether the script does it, and each service ends within the number that is asked for
abbrev pub SaysKept : (IsKept : Type 0) → Outcome → Type 0
SaysKept IsKept Good = IsKept
SaysKept IsKept Refused = IsKept → ⊥

-- the text of a checked script whose services have all the names that are told, and its outcome
pub record IsResponse (s : Settings) (c : CheckedScript) (outcome : Outcome) (text : List ℕ) : Type 0 where
  pub named : IsNoService c.script s.every.items s.within.items None
  pub sources : List Source
  pub sources_are : AreTold c s.every.items sources
  pub text_is : text ≡ responses_text c.script s.within.items (unkept_in c sources) (twice_in c) sources
  pub kept : SaysKept (AreKept c.script s.within.items (unkept_in c sources) sources) outcome

-- of a refused script the line of `camac check`
abbrev pub TellsResponse : Settings → Judged → Outcome → List ℕ → Type 0
TellsResponse s (judged.Accepted c) outcome text = IsResponse s c outcome text
TellsResponse s (judged.Refused f) outcome text = Reports (refused (refusal_of f)) outcome text

-- a service is named that the accepted script does not have
abbrev pub NamesNone : Settings → Judged → Misuse → Type 0
NamesNone s (judged.Accepted c) misuse = IsNoService c.script s.every.items s.within.items (Some misuse)
NamesNone s (judged.Refused f) misuse = ⊥

-- of what was judged; nothing is written where such a service is named
abbrev pub RespondsOn : Settings → Judged → (o p : Option (List ℕ)) → Result Responded ToolFault → Type 0
RespondsOn s j o p (Ok (Told outcome)) = IsWritten (TellsResponse s j) o p (Ok outcome)
RespondsOn s j o p (Ok (Misused misuse)) = NamesNone s j misuse × Keeps o p
RespondsOn s j o p (Err e) = IsWritten (TellsResponse s j) o p (Err e)

module _ (s : Settings) {R : Type 0} (left : R → Option (List ℕ)) (plan plan' : PlanSource R) (a b o p : Option (List ℕ)) where
  abbrev pub RespondsFound : Result Responded ToolFault → Type 0
  RespondsFound r = (j : Judged) × HasJudged left plan plan' a b j × RespondsOn s j o p r

  -- as `Answers`
  abbrev pub Responds : Result Responded ToolFault → Type 0
  Responds (Ok responded) = RespondsFound (Ok responded)
  Responds (Err fault.Write) = RespondsFound (Err fault.Write)
  Responds (Err fault.TooLong) = IsTooLong left plan plan' a b × Keeps o p
  Responds (Err _) = Keeps o p
