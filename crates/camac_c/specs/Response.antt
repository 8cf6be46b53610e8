-- What the call of how long look-at-mes wait for their services answers.
use Rattle.std.specs.Prelude.{◌≡◌, ◌⊎◌, ℕ, List, map, Option, Some, None, Result, Ok, Err, IsUtf8}
use Rattle.std.specs.Borrow.{Bor}
use Rattle.std.specs.Global.{Vec}
use Rattle.std.specs.Iterator.{Drains}
use Rattle.std.specs.Str.Iter.{split_whitespace_rest, split_whitespace_steps}
use Rattle.std.specs.declared.str.SplitWhitespace.{SplitWhitespace}
use Rattle.camac_response_times.specs.Setting.{ReadsSettings}
use Rattle.camac_response_times.specs.declared.setting.Misuse.{Misuse}
use Rattle.camac_response_times.specs.declared.setting.Settings.{Settings}
use Rattle.camac_engines.specs.Response.{NamesNone, TellsResponse}
use Rattle.camac_engines.specs.declared.fault.ToolFault.{ToolFault}
use Rattle.camac_engines.specs.declared.fault.ToolFault.TheVariants as fault
use Rattle.camac_engines.specs.declared.judging.Judged.{Judged}
use Rattle.camac_engines.specs.declared.outcome.Outcome.{Outcome}
use Rattle.camac_c.specs.Filled.{GivesNothing}
use Rattle.camac_c.specs.Texts.{Answers, AreLongTexts, IsFound}
use Rattle.camac_engines.specs.Plan.{plan_found}

-- the words of a text, between white space
pub record AreWordsOf (text : List ℕ) (words : List (List ℕ)) : Type 0 where
  pub is_text : IsUtf8 text
  pub splitting : SplitWhitespace
  pub of_text : split_whitespace_rest splitting ≡ text
  pub parts : List (Bor (List ℕ))
  pub are_all : Drains split_whitespace_steps splitting parts
  pub words_are : words ≡ map (λ w. w.now) parts

abbrev pub IsNoText : List ℕ → Type 0
IsNoText text = IsUtf8 text → ⊥

-- there are words where there is a text
abbrev pub SplitsText : List ℕ → Option (Vec (Bor (List ℕ))) → Type 0
SplitsText text (Some words) = AreWordsOf text (map (λ w. w.now) words.items)
SplitsText text None = IsNoText text

module _ (plan script : List ℕ) where
  -- what is found of plan and script is told, at the settings of the words
  pub record IsTold (every within : List (List ℕ)) (outcome : Outcome) (text : List ℕ) : Type 0 where
    pub settings : Settings
    pub read : ReadsSettings every within (Ok settings)
    pub verdict : Judged
    pub found : IsFound (plan_found plan) script verdict
    pub says : TellsResponse settings verdict outcome text

  -- the words name a service that the accepted script does not have
  pub record NamesNoService (every within : List (List ℕ)) (misuse : Misuse) : Type 0 where
    pub settings : Settings
    pub read : ReadsSettings every within (Ok settings)
    pub verdict : Judged
    pub found : IsFound (plan_found plan) script verdict
    pub unknown : NamesNone settings verdict misuse

  abbrev pub AreMisused : (every within : List (List ℕ)) → Type 0
  AreMisused every within = (misuse : Misuse) × (ReadsSettings every within (Err misuse) ⊎ NamesNoService every within misuse)

  -- the same of texts of words
  pub record IsToldOf (every within : List ℕ) (outcome : Outcome) (text : List ℕ) : Type 0 where
    pub every_words : List (List ℕ)
    pub every_are : AreWordsOf every every_words
    pub within_words : List (List ℕ)
    pub within_are : AreWordsOf within within_words
    pub text_is : IsTold every_words within_words outcome text

  abbrev pub AreMisusedTexts : (every within : List ℕ) → Type 0
  AreMisusedTexts every within =
      IsNoText every ⊎ IsNoText within ⊎ ((es ws : List (List ℕ)) × AreWordsOf every es × AreWordsOf within ws × AreMisused es ws)

  -- before the text goes out
  abbrev pub TellsOrMisuse : (IsTold : Outcome → List ℕ → Type 0) (IsMisuse : Type 0) → Result (Option (Outcome × Vec ℕ)) ToolFault → Type 0
  TellsOrMisuse IsTold IsMisuse (Ok (Some told)) = IsTold told.0 told.1.items
  TellsOrMisuse IsTold IsMisuse (Ok None) = IsMisuse
  TellsOrMisuse IsTold IsMisuse (Err fault.TooLong) = AreLongTexts plan script
  TellsOrMisuse IsTold IsMisuse (Err _) = Unit {0}

  abbrev pub RespondsTo : (every within : List (List ℕ)) → Result (Option (Outcome × Vec ℕ)) ToolFault → Type 0
  RespondsTo every within = TellsOrMisuse (IsTold every within) (AreMisused every within)

  abbrev pub RespondsToTexts : (every within : List ℕ) → Result (Option (Outcome × Vec ℕ)) ToolFault → Type 0
  RespondsToTexts every within = TellsOrMisuse (IsToldOf every within) (AreMisusedTexts every within)

  -- a call on texts, as `Answers`; 2 where the texts of words are misuse
  abbrev pub AnswersResponse : (every within : List ℕ) → ℕ → (old new : List ℕ) (size : ℕ) → Type 0
  AnswersResponse every within code old new size =
      Answers (IsToldOf every within) (AreLongTexts plan script) code old new size ⊎ ((code ≡ 2) × AreMisusedTexts every within × GivesNothing old new size)
