-- The lines of `camac response`.
use Rattle.std.specs.Prelude.{ℕ, Bool, true, false, List, [], ◌++◌, codes, decimal, nat_eq, slice_get, Option, Some, None, option_map, unwrap_or, if◌then◌else◌}
use Rattle.std.specs.List.{flat_map, position}
use Rattle.camac_lang.specs.Tree.{Text, Script}
use Rattle.camac_lines.specs.Texts.{texts}
use Rattle.camac_response_times.specs.declared.search.Response.{Response}
use Rattle.camac_response_times.specs.declared.setting.Setting.{Setting}
use Rattle.camac_response_times.specs.declared.source.Source.{Source}
use Rattle.camac_response_times.specs.Found.{response_at}
use Rattle.camac_response_times.specs.Setting.{told_for}
use Rattle.camac_response.specs.declared.lines.TheConstants.{CLEARED_BY, HIDDEN_BY, NOT_CLEARED}
use Rattle.camac_response.specs.declared.unkept.Unkept.{Unkept}
use Rattle.camac_response.specs.declared.unkept.Why.{Why}
use Rattle.camac_response.specs.declared.unkept.Why.TheVariants.{NotCleared, ClearedBy, HiddenBy}
use Rattle.camac_response.specs.Checked.{service_name}
use Rattle.camac_response.specs.Unkept.{is_kept_to}

abbrev pub rate_text : Option ℕ → List ℕ
rate_text None = codes " once"
rate_text (Some cycles) = codes " every " ++ decimal cycles

-- the number that was asked for
abbrev pub limit_text : Option ℕ → List ℕ
limit_text None = []
limit_text (Some cycles) = codes " of " ++ decimal cycles

-- a number of cycles, or a dash
abbrev pub cycles_text : Option ℕ → List ℕ
cycles_text None = codes "-"
cycles_text (Some cycles) = decimal cycles

-- its service may clear it twice
abbrev pub twice_text : Bool → List ℕ
twice_text true = codes " clears 2"
twice_text false = []

abbrev pub numbers_text : (within : Option ℕ) → Option Response → List ℕ
numbers_text within r =
    codes " start " ++ cycles_text (option_map (λ x. x.start) r)
    ++ codes " end " ++ cycles_text (option_map (λ x. x.end) r) ++ limit_text within
    ++ codes " longest " ++ cycles_text (option_map (λ x. x.longest) r)

abbrev pub response_line : Text → Source → (within : Option ℕ) → Option Response → (twice : Bool) → List ℕ
response_line name t within r twice =
    codes "service " ++ name ++ codes " gl " ++ decimal t.bit ++ codes " cycles " ++ decimal t.cycles ++ rate_text t.every ++ numbers_text within r ++ twice_text twice ++ codes "\n"

-- none where a look-at-me up to this bit is not kept to
abbrev pub promised : List Unkept → (bit : ℕ) → Option Response → Option Response
promised us bit r = if is_kept_to us bit then r else None

-- of the service of this number, which has this name
abbrev pub text_of : Text → List Setting → List Unkept → List Bool → List Source → ℕ → Source → List ℕ
text_of name within us twice ts i t = response_line name t (told_for within name) (promised us t.bit (response_at ts i)) (unwrap_or (slice_get twice i) false)

abbrev pub service_text : Script → (within : List Setting) → List Unkept → List Bool → List Source → ℕ → List ℕ
service_text script within us twice ts i = unwrap_or (option_map (text_of (service_name script i) within us twice ts i) (slice_get ts i)) []

-- of the service of a bit, nothing where there is none
abbrev pub bit_text : Script → (within : List Setting) → List Unkept → List Bool → List Source → (bit : ℕ) → List ℕ
bit_text script within us twice ts bit = unwrap_or (option_map (service_text script within us twice ts) (position (λ t. nat_eq t.bit bit) ts)) []

-- what the script does not do
abbrev pub why_text : Script → Why → List ℕ
why_text script NotCleared = NOT_CLEARED.now
why_text script (ClearedBy i) = CLEARED_BY.now ++ service_name script i
why_text script (HiddenBy i) = HIDDEN_BY.now ++ service_name script i

abbrev pub unkept_line : Script → Unkept → List ℕ
unkept_line script u =
    codes "unkept " ++ service_name script u.service ++ codes " line " ++ decimal u.line ++ codes ": " ++ why_text script u.why ++ codes "\n"

-- a line for each thing that is not done
abbrev pub unkept_text : Script → List Unkept → List ℕ
unkept_text script us = flat_map (unkept_line script) us

-- a line for each bit that has a service, from bit 1 to 24, and then those of what is not done
abbrev pub responses_text : Script → (within : List Setting) → List Unkept → (twice : List Bool) → List Source → List ℕ
responses_text script within us twice ts = texts (bit_text script within us twice ts) 1 24 ++ unkept_text script us
