-- Words SERVICE=CYCLES after an option.
use Rattle.std.specs.Prelude.{◌≡◌, ◌⊎◌, ◌==◌, ◌<◌, ◌≤◌, ◌^◌, ℕ, Bool, List, [], ◌∷◌, ◌++◌, length, take, slice_get, Option, Some, None, Result, Ok, Err, if◌then◌else◌}
use Rattle.std.specs.Global.{Vec}
use Rattle.std.specs.List.{before_first, after_first}
use Rattle.std.specs.Str.{bytes_eq}
use Rattle.std.specs.Str.Parse.{IsNumeral, digits_value}
use Rattle.camac_response_times.specs.declared.setting.Setting.{Setting}
use Rattle.camac_response_times.specs.declared.setting.Settings.{Settings}
use Rattle.camac_response_times.specs.declared.setting.SettingOption.{SettingOption}
use Rattle.camac_response_times.specs.declared.setting.SettingOption.TheVariants.{Every, Within}
use Rattle.camac_response_times.specs.declared.setting.Misuse.{Misuse}
use Rattle.camac_response_times.specs.declared.setting.Misuse.TheVariants.{Form, Twice, NoService}

-- decimal digits alone, and the number that they write
abbrev pub IsNumber : List ℕ → ℕ → Type 0
IsNumber digits n = IsNumeral 10 digits × (n ≡ digits_value 10 digits) × (n < 2 ^ 32)

abbrev pub is_equals_sign : ℕ → Bool
is_equals_sign byte = byte == 61

-- a rate is from 1 on
abbrev pub least_of : SettingOption → ℕ
least_of Every = 1
least_of Within = 0

-- the name stands before the first equals sign, and the digits of the number after it
pub record IsSetting (option : SettingOption) (word service : List ℕ) (cycles : ℕ) : Type 0 where
  pub name : service ≡ before_first is_equals_sign word
  pub named : 0 < length service
  pub number : IsNumber (after_first is_equals_sign word) cycles
  pub least : least_of option ≤ cycles

-- what is told for a service: the first number
abbrev pub told_for : List Setting → List ℕ → Option ℕ
told_for [] service = None
told_for (s ∷ rest) service = if bytes_eq s.service.now service then Some s.cycles else told_for rest service

-- these are the settings of the words, in their order
abbrev pub AreSettings : SettingOption → List (List ℕ) → List Setting → Type 0
AreSettings option [] [] = Unit {0}
AreSettings option [] (s ∷ ss) = ⊥
AreSettings option (w ∷ ws) [] = ⊥
AreSettings option (w ∷ ws) (s ∷ ss) = IsSetting option w s.service.now s.cycles × AreSettings option ws ss

-- no service stands twice
abbrev pub AreApart : List Setting → Type 0
AreApart ss = (i : ℕ) (s : Setting) → slice_get ss i ≡ Some s → told_for (take i ss) s.service.now ≡ None

pub record AreRead (option : SettingOption) (words : List (List ℕ)) (ss : List Setting) : Type 0 where
  pub read : AreSettings option words ss
  pub apart : AreApart ss

-- the first words were read; the next is no setting, or it is one of a service that stands before
abbrev pub IsFormless : SettingOption → List (List ℕ) → (word : List ℕ) → Type 0
IsFormless option words word =
    (before after : List (List ℕ)) × (ss : List Setting) × (words ≡ before ++ word ∷ after) × AreRead option before ss
    × ((service : List ℕ) (cycles : ℕ) → IsSetting option word service cycles → ⊥)

abbrev pub StandsTwice : SettingOption → List (List ℕ) → (service : List ℕ) → Type 0
StandsTwice option words service =
    (before after : List (List ℕ)) × (word : List ℕ) × (ss : List Setting) × (cycles n : ℕ) × (words ≡ before ++ word ∷ after) × AreRead option before ss
    × IsSetting option word service cycles × (told_for ss service ≡ Some n)

abbrev pub IsMisuse : SettingOption → List (List ℕ) → Misuse → Type 0
IsMisuse option words (Form o word) = (o ≡ option) × IsFormless option words word.now
IsMisuse option words (Twice o service) = (o ≡ option) × StandsTwice option words service.now
IsMisuse option words (NoService o service) = ⊥

-- the words after one option
abbrev pub Reads : SettingOption → List (List ℕ) → Result (Vec Setting) Misuse → Type 0
Reads option words (Ok v) = AreRead option words v.items
Reads option words (Err misuse) = IsMisuse option words misuse

-- the words after both: a fault after the second is told where there is none after the first
abbrev pub ReadsSettings : (every within : List (List ℕ)) → Result Settings Misuse → Type 0
ReadsSettings every within (Ok s) = AreRead Every every s.every.items × AreRead Within within s.within.items
ReadsSettings every within (Err misuse) = IsMisuse Every every misuse ⊎ ((ss : List Setting) × AreRead Every every ss × IsMisuse Within within misuse)
