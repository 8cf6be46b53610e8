-- What is told of a refused statement beside its rule.
use Rattle.std.specs.Prelude.{ℕ, Bool, true, false, ◌&&◌, List, [], ◌∷◌, nat_eq, nat_lt, Option, Some, None, if◌then◌else◌, ◌||◌, ◌++◌, codes, decimal, flat_map, Result, Ok, Err, unwrap_or, ◌≡◌, ◌⊎◌}
use Rattle.std.specs.Str.{bytes_eq}
use Rattle.camac_tokens.specs.declared.token.Keyword.TheVariants as word
use Rattle.camac_tokens.specs.declared.token.Token.{Token}
use Rattle.camac_tokens.specs.declared.token.TokenKind.{TokenKind}
use Rattle.camac_tokens.specs.declared.token.TokenKind.TheVariants as kind
use Rattle.std.specs.List.{concat}
use Rattle.camac_branch.specs.Plan.{Layout, crate_waits}
use Rattle.camac_lang.specs.declared.spot.Spot.{Spot}
use Rattle.camac_lines.specs.Words.{quoted}
use Rattle.camac_rules.specs.Addresses.{has_command}
use Rattle.camac_rules.specs.declared.case.Case.{Case}
use Rattle.camac_rules.specs.declared.case.Case.TheVariants.{NoCommand}
use Rattle.camac_rules.specs.declared.rule.CheckRule.{CheckRule}
use Rattle.camac_rules.specs.declared.rule.CheckRule.TheVariants as check
use Rattle.camac_tokens.specs.Fault.{Fault as TextFault}
use Rattle.camac_tokens.specs.Scanning.{tokens_of}
use Rattle.camac_explain_case.specs.declared.case.TheConstants.{SUB_ADDRESSES, WAITS}

-- The `cdreg` of a transfer's register, by the tokens of a text.

-- the words that a function code and a register follow
abbrev pub has_register : TokenKind → Bool
has_register (kind.Keyword word.Cfsa) = true
has_register (kind.Keyword word.Cssa) = true
has_register (kind.Keyword word.Cfubc) = true
has_register (kind.Keyword word.Cfubr) = true
has_register (kind.Keyword word.Cfmad) = true
has_register k = false

abbrev pub name_in : TokenKind → Option (List ℕ)
name_in (kind.Name n) = Some n
name_in k = None

-- the register of a transfer, whose first word this is, with these tokens behind it
abbrev pub register_behind : TokenKind → List Token → Option (List ℕ)
register_behind k [] = None
register_behind k (t ∷ []) = None
register_behind k (t ∷ r ∷ ts) = if has_register k then name_in r.kind else None

-- of the one that begins where so many bytes are left
abbrev pub register_at : (left : ℕ) → List Token → Option (List ℕ)
register_at left [] = None
register_at left (t ∷ ts) = if nat_eq t.spot.left left then register_behind t.kind ts else register_at left ts

abbrev pub is_name : (register : List ℕ) → TokenKind → Bool
is_name register (kind.Name n) = bytes_eq n register
is_name register k = false

-- `cdreg`, and the register behind it
abbrev pub sets : (register : List ℕ) → TokenKind → List Token → Bool
sets register (kind.Keyword word.Cdreg) (t ∷ ts) = is_name register t.kind
sets register k ts = false

-- the line of the last of these tokens that sets a register before the place where so many bytes are left, or else this one
abbrev pub last_set : (left : ℕ) → (register : List ℕ) → Option ℕ → List Token → Option ℕ
last_set left register line [] = line
last_set left register line (t ∷ ts) =
    last_set left register (if nat_lt left t.spot.left && sets register t.kind ts then Some t.spot.line else line) ts

-- What is told of a refused statement beside its rule, and what holds of that.

-- where a register was set
abbrev pub set_of : (register : List ℕ) → (line : Option ℕ) → List ℕ
set_of register None = []
set_of register (Some line) = concat (codes "Set: the `cdreg` of " ∷ quoted register ∷ codes " is on line " ∷ decimal line ∷ codes ".\n" ∷ [])

abbrev pub set_if : List Token → Spot → (register : Option (List ℕ)) → List ℕ
set_if ts s None = []
set_if ts s (Some register) = set_of register (last_set s.left register None ts)

abbrev pub set_among : List Token → Spot → List ℕ
set_among ts s = set_if ts s (register_at s.left ts)

abbrev pub set_in : Result (List Token) TextFault → Spot → List ℕ
set_in (Ok ts) s = set_among ts s
set_in (Err f) s = []

-- where the address of a statement was set, if a register holds it
abbrev pub set_line : (text : List ℕ) → Spot → List ℕ
set_line text s = set_in (tokens_of text) s

abbrev pub place_text : Layout → (function crate_no station sub_address : ℕ) → List ℕ
place_text plan f c n a = if has_command plan f c n a then codes " A" ++ decimal a else []

abbrev pub places_text : (function : ℕ) → (places : List ℕ) → List ℕ
places_text f [] = []
places_text f (b ∷ bs) = concat (codes "Plan: F" ∷ decimal f ∷ codes " is at" ∷ []) ++ (b ∷ bs) ++ codes ".\n"

-- where a station has the function, which it has not somewhere; functions are numbered below 32
abbrev pub places_line : Layout → Case → List ℕ
places_line plan (NoCommand f c n a) =
    if nat_lt f 32 then places_text f (flat_map (place_text plan f c n) SUB_ADDRESSES) else []
places_line plan case = []

abbrev pub waits_in : Layout → (crate_no : ℕ) → Bool
waits_in plan c = nat_lt 0 (unwrap_or (crate_waits plan c) 0)

-- auxiliary controllers may make cycles in some crate of the plan
abbrev pub has_waits : Layout → Bool
has_waits plan =
    waits_in plan 1
    || (waits_in plan 2 || (waits_in plan 3 || (waits_in plan 4 || (waits_in plan 5 || (waits_in plan 6 || waits_in plan 7)))))

abbrev pub waits_line : Layout → List ℕ
waits_line plan = if has_waits plan then WAITS.now else []

-- of a statement or a heading that a rule refuses in this case
unfoldable pub case_lines : Layout → (text : List ℕ) → CheckRule → Spot → Case → List ℕ
case_lines plan text check.StationNotInstalled s case = set_line text s
case_lines plan text check.CommandNotDeclared s case = set_line text s ++ places_line plan case
case_lines plan text check.TooManyCycles s case = waits_line plan
case_lines plan text rule s case = []

-- auxiliary controllers are told of too many cycles only where a crate of the plan has waits
abbrev pub WaitsAreOfThePlan : Type 0
WaitsAreOfThePlan =
    (plan : Layout) (text : List ℕ) (s : Spot) (case : Case) → ((c : ℕ) → unwrap_or (crate_waits plan c) 0 ≡ 0)
    → case_lines plan text check.TooManyCycles s case ≡ []

-- one of these tokens, on this line, sets the register before the place where so many bytes are left, and none behind it does
abbrev pub SetsLast : (left : ℕ) → (register : List ℕ) → (line : ℕ) → List Token → Type 0
SetsLast left register line [] = ⊥
SetsLast left register line (t ∷ ts) =
    ((nat_lt left t.spot.left ≡ true) × (sets register t.kind ts ≡ true) × (t.spot.line ≡ line) × (last_set left register None ts ≡ None))
    ⊎ SetsLast left register line ts

-- the `cdreg` that is told is the last one before the statement
abbrev pub SetsAreBefore : Type 0
SetsAreBefore =
    (left : ℕ) (register : List ℕ) (ts : List Token) (line : ℕ) → last_set left register None ts ≡ Some line → SetsLast left register line ts
