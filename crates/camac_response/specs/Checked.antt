-- The services of a checked script as sources of demands, at told rates; and the numbers that are asked for.
use Rattle.std.specs.Prelude.{◌≡◌, ℕ, zero, suc, Bool, true, List, [], ◌∷◌, length, Option, Some, None, option_map, unwrap_or, slice_get, IsTrue, if◌then◌else◌, ◌<◌, ◌≤◌}
use Rattle.std.specs.List.{list_any}
use Rattle.std.specs.Str.{bytes_eq}
use Rattle.camac_lang.specs.Scope.{is_well_formed}
use Rattle.camac_lang.specs.Tree.{Text, Lam, Service, Script}
use Rattle.camac_lines.specs.Verdict.{lam_name}
use Rattle.camac_response_times.specs.declared.setting.Misuse.{Misuse}
use Rattle.camac_response_times.specs.declared.setting.Misuse.TheVariants.{NoService}
use Rattle.camac_response_times.specs.declared.setting.Setting.{Setting}
use Rattle.camac_response_times.specs.declared.setting.SettingOption.TheVariants as option
use Rattle.camac_response_times.specs.Setting.{told_for}
use Rattle.camac_branch.specs.Branch.{Answer}
use Rattle.camac_branch.specs.Plan.{IsPlan}
use Rattle.camac_model.specs.Run.{the_run}
use Rattle.camac_model.specs.Moments.{Holds}
use Rattle.camac_names.specs.Linked.{IsLinked, bit_of_service}
use Rattle.camac_rules.specs.Checked.{CheckedScript, linked_of, IsChecked}
use Rattle.camac_response_times.specs.declared.source.Source.{Source}
use Rattle.camac_response_times.specs.Rounds.{longest, response}
use Rattle.camac_model.specs.Headline.{nothing}
use Rattle.camac_response.specs.Stretch.{no_stretch, answers_watch, stretch_watch}
use Rattle.camac_response.specs.Laws.{lowest_watch}
use Rattle.camac_response.specs.Modules.{Raises, Pauses, at_start, waits_watch}
use Rattle.camac_response.specs.Lams.{Moods, plan_clears, lams_of, ModulesKeep}
use Rattle.camac_response.specs.Unkept.{unkept_of, is_kept_to}
use Rattle.camac_response_times.specs.declared.search.Response.{Response}
use Rattle.camac_response_times.specs.Found.{response_at}
use Rattle.camac_response.specs.declared.unkept.Unkept.{Unkept}

-- a service has the name of its LAM
abbrev pub service_name : Script → ℕ → Text
service_name script i = unwrap_or (option_map (λ v. lam_name script.lams v.lam) (slice_get script.services i)) []

abbrev pub has_name : List Lam → List Service → Text → Bool
has_name lams vs name = list_any (λ v. bytes_eq (lam_name lams v.lam) name) vs

abbrev pub has_service : Script → Text → Bool
has_service script name = has_name script.lams script.services name

-- the first name in settings that no service has
abbrev pub first_unknown : Script → List Setting → Option Text
first_unknown script [] = None
first_unknown script (s ∷ ss) = if has_service script s.service.now then first_unknown script ss else Some s.service.now

-- what is told of it: a name after the first option counts before those after the second
abbrev pub IsNoService : Script → (every within : List Setting) → Option Misuse → Type 0
IsNoService script every within None = (first_unknown script every ≡ None) × (first_unknown script within ≡ None)
IsNoService script every within (Some (NoService option.Every name)) = first_unknown script every ≡ Some name.now
IsNoService script every within (Some (NoService option.Within name)) = (first_unknown script every ≡ None) × (first_unknown script within ≡ Some name.now)
IsNoService script every within (Some other) = ⊥

-- a rate is from 1 on
abbrev pub rate_of : Option ℕ → Option ℕ
rate_of None = None
rate_of (Some zero) = None
rate_of (Some (suc n)) = Some (suc n)

-- the service of this number, at the rate that is told for its name
pub record IsTold (c : CheckedScript) (every : List Setting) (i : ℕ) (t : Source) : Type 0 where
  pub bit : bit_of_service (linked_of c) i ≡ Some t.bit
  pub cycles : option_map (λ k. k.cycles) (slice_get c.bounds i) ≡ Some t.cycles
  pub rate : t.every ≡ rate_of (told_for every (service_name c.script i))

-- these are all services, in their order
pub record AreTold (c : CheckedScript) (every : List Setting) (ts : List Source) : Type 0 where
  pub all : length ts ≡ length c.script.services
  pub each : (i : ℕ) (t : Source) → slice_get ts i ≡ Some t → IsTold c every i t

-- What holds of every run of a checked script, at told rates, whatever the branch answers.
pub record RunsRespond (c : CheckedScript) (ts : List Source) : Type 0 where
  -- of a bit up to which the script does its part: where modules do what a user believes of them, each look-at-me is answered in time, and none
  -- waits longer
  pub look_at_mes : (s : ℕ) (source : Source) → slice_get ts s ≡ Some source → (start : ℕ) → response ts source ≡ Some start
      → is_kept_to (unkept_of c.plan c.script ts) source.bit ≡ true
      → (moods : Moods) (raises : Raises) (pauses : Pauses) (answers : List Answer)
      → ModulesKeep ts (lams_of c.script) (plan_clears c.plan) moods raises pauses source.bit (the_run c.plan c.script answers)
      → Holds (waits_watch ts raises pauses s source start) at_start (the_run c.plan c.script answers)
  -- while the rates are kept by the calls, these and the ends of their services are in time
  pub calls : (s : ℕ) (source : Source) → slice_get ts s ≡ Some source → (start : ℕ) → response ts source ≡ Some start
      → (answers : List Answer) → Holds (answers_watch ts s source start) (no_stretch None) (the_run c.plan c.script answers)
  -- and each stretch ends in time
  pub stretches : (s : ℕ) (source : Source) → slice_get ts s ≡ Some source → (most : ℕ) → longest ts source ≡ Some most
      → (answers : List Answer) → Holds (stretch_watch ts source.bit most) (no_stretch None) (the_run c.plan c.script answers)
  -- each operation calls the service of the lowest bit in its pattern that has one
  pub lowest : (answers : List Answer) → Holds (lowest_watch ts) nothing (the_run c.plan c.script answers)

-- of all services, each at the rate that is told for its name
abbrev pub Responds : CheckedScript → Type 0
Responds c = (every : List Setting) (ts : List Source) → AreTold c every ts → RunsRespond c ts

unfoldable pub CheckedRespond : Type 0
CheckedRespond = (c : CheckedScript) → IsPlan c.plan → IsLinked (linked_of c) → IsTrue (is_well_formed c.script) → IsChecked c → Responds c

-- The numbers that are asked for.

-- where a number is asked for, the service has a response and has ended by then
abbrev pub IsKept : (within : Option ℕ) → Option Response → Type 0
IsKept None r = Unit {0}
IsKept (Some most) None = ⊥
IsKept (Some most) (Some r) = r.end ≤ most

-- the script does its part, and each number that is asked for is kept
pub record AreKept (script : Script) (within : List Setting) (us : List Unkept) (ts : List Source) : Type 0 where
  pub served : us ≡ []
  pub each : (i : ℕ) → i < length ts → IsKept (told_for within (service_name script i)) (response_at ts i)
