-- The sentences on the rules of linking and of the checker, and the names in them.
use Rattle.std.specs.Prelude.{ℕ, Bool, false, ◌&&◌, ◌==◌, List, Option, Some, None, option_map, option_and_then, slice_get, find, codes, true, [], ◌∷◌, ◌++◌, decimal, nat_eq, unwrap_or, if◌then◌else◌}
use Rattle.camac_lang.specs.Tree.{Text, Lam, Parameter, Procedure, Service, Script}
use Rattle.camac_rules.specs.declared.case.Body.{Body}
use Rattle.camac_rules.specs.declared.case.Body.TheVariants as body
use Rattle.camac_func.specs.declared.code.FunctionClass.{FunctionClass}
use Rattle.camac_func.specs.declared.code.FunctionClass.TheVariants as class
use Rattle.camac_names.specs.declared.fault.LinkCase.{LinkCase}
use Rattle.camac_names.specs.declared.fault.LinkCase.TheVariants as link
use Rattle.camac_names.specs.declared.fault.LinkRule.{LinkRule}
use Rattle.camac_names.specs.declared.fault.LinkRule.TheVariants.{LamNotInstalled}
use Rattle.camac_range.specs.Number.{greatest}
use Rattle.camac_rules.specs.declared.case.Case.{Case}
use Rattle.camac_rules.specs.declared.case.Case.TheVariants as case
use Rattle.camac_rules.specs.declared.case.Operator.{Operator}
use Rattle.camac_rules.specs.declared.case.Operator.TheVariants.{Add, Sub, Mul}
use Rattle.camac_rules.specs.declared.rule.CheckRule.{CheckRule}
use Rattle.camac_rules.specs.declared.rule.CheckRule.TheVariants.{KeepFailsAtEntry, TooManyWords, TooManyCycles, TooManySteps}
use Rattle.camac_lines.specs.Words.{quoted}
use Rattle.camac_explain_plan.specs.Path.{place_from_one}
use Rattle.camac_explain.specs.declared.finding.Finding.{Finding}
use Rattle.camac_explain.specs.declared.finding.Finding.TheVariants as finding
use Rattle.camac_explain.specs.declared.texts.TheConstants as text
use Rattle.camac_sentence.specs.Filled.{cost, filled, range, with}

-- The names that a sentence tells: each is that of the number or the place that its rule knew.

-- a name that is not there is told as `?`
abbrev pub shown : Option Text → Text
shown (Some name) = name
shown None = codes "?"

abbrev pub parameter_in : ℕ → Procedure → Option Text
parameter_in number p = option_map (λ (a : Parameter). a.name) (slice_get p.parameters number)

abbrev pub parameter_of : Script → (procedure number : ℕ) → Option Text
parameter_of s procedure number = option_and_then (parameter_in number) (slice_get s.procedures procedure)

abbrev pub variable_of : Script → Body → ℕ → Option Text
variable_of s (body.Procedure procedure) number = parameter_of s procedure number
variable_of s (body.Service lam) number = slice_get s.variables number

abbrev pub register_in : ℕ → Service → Option Text
register_in number v = slice_get v.registers number

-- the register of this number in the first service of a LAM
abbrev pub register_in_service : (lam number : ℕ) → List Service → Option Text
register_in_service lam number services = option_and_then (register_in number) (find (λ (v : Service). v.lam == lam) services)

abbrev pub register_of : Script → Body → ℕ → Option Text
register_of s (body.Procedure procedure) number = option_and_then (λ (p : Procedure). slice_get p.registers number) (slice_get s.procedures procedure)
register_of s (body.Service lam) number = register_in_service lam number s.services

abbrev pub is_at : (crate_no station : ℕ) → Lam → Bool
is_at crate_no station l = (l.crate_no == crate_no) && (l.station == station)

-- the first LAM at a station
abbrev pub first_lam : (crate_no station : ℕ) → List Lam → Option Text
first_lam crate_no station lams = option_map (λ (l : Lam). l.name) (find (is_at crate_no station) lams)

abbrev pub is_served_at : (crate_no station : ℕ) → List Lam → Service → Bool
is_served_at crate_no station lams v = unwrap_or (option_map (is_at crate_no station) (slice_get lams v.lam)) false

abbrev pub name_at : List Lam → ℕ → Option Text
name_at lams place = option_map (λ (l : Lam). l.name) (slice_get lams place)

-- the LAM of the first service at a station
abbrev pub first_served : (crate_no station : ℕ) → List Lam → List Service → Option Text
first_served crate_no station lams services = option_and_then (λ (v : Service). name_at lams v.lam) (find (is_served_at crate_no station lams) services)

-- The sentences on the rules of linking and of the checker: what the rule knew, with numbers in decimal and names in quotes.

abbrev pub name : Option Text → List ℕ
name found = quoted (shown found)

-- what a function or a statement of this class does
abbrev pub does : FunctionClass → List ℕ
does class.Read = text.READS.now
does class.Write = text.WRITES.now
does class.Control = text.MOVES_NO_DATA.now

abbrev pub sign_of : Operator → List ℕ
sign_of Add = codes "+"
sign_of Sub = codes "-"
sign_of Mul = codes "*"

abbrev pub kept_text : CheckRule → List ℕ
kept_text KeepFailsAtEntry = text.BEFORE_LOOP.now
kept_text _ = text.AFTER_TURN.now

abbrev pub who : Body → List ℕ
who (body.Procedure number) = codes "procedure"
who (body.Service lam) = codes "service"

abbrev pub costs_text : CheckRule → List ℕ
costs_text TooManyWords = text.WORDS.now
costs_text TooManyCycles = text.CYCLES.now
costs_text _ = text.STEPS.now

-- what its heading allows, or any heading, of which none allows more than the greatest number
abbrev pub limit_text : (allowed : ℕ) → List ℕ
limit_text allowed = with (if nat_eq allowed greatest then text.ANY_HEADING.now else text.ITS_HEADING.now) (decimal allowed)

-- the steps of a service, which no number of its heading bounds
abbrev pub is_service_steps : CheckRule → Body → Bool
is_service_steps TooManySteps (body.Service lam) = true
is_service_steps _ _ = false

abbrev pub budget_text : CheckRule → Body → (needed allowed : ℕ) → List ℕ
budget_text rule body needed allowed =
    if is_service_steps rule body then filled text.SERVICE_STEPS.now (cost needed ∷ decimal allowed ∷ [])
    else filled (costs_text rule) (who body ∷ cost needed ∷ []) ++ limit_text allowed

abbrev pub says : (sentence : List ℕ) → (parts : List (List ℕ)) → Option (List ℕ)
says sentence parts = Some (filled sentence parts)

-- there is none of a script that no text gives
abbrev pub link_sentence_of : Script → LinkRule → LinkCase → Option (List ℕ)
link_sentence_of s rule link.Malformed = None
link_sentence_of s LamNotInstalled (link.Place c n) = says text.LAM_WITHOUT_MODULE.now (name (first_lam c n s.lams) ∷ decimal c ∷ decimal n ∷ [])
link_sentence_of s rule (link.Place c n) = says text.LAM_WITHOUT_BIT.now (name (first_served c n s.lams s.services) ∷ decimal c ∷ decimal n ∷ [])
link_sentence_of s rule (link.Served c n spot) = says text.SERVED.now (decimal c ∷ decimal n ∷ decimal spot.line ∷ [])
link_sentence_of s rule (link.Words allowed buffer) = says text.ABOVE_BUFFER.now (decimal allowed ∷ decimal buffer ∷ [])

abbrev pub check_sentence_of : Script → CheckRule → Case → Option (List ℕ)
check_sentence_of s rule case.Malformed = None
check_sentence_of s rule (case.NoCrate c) = says text.NO_CRATE.now (decimal c ∷ [])
check_sentence_of s rule (case.NoModule c n) = says text.NO_MODULE.now (decimal c ∷ decimal n ∷ [])
check_sentence_of s rule (case.NoCommand f c n a) = says text.NO_COMMAND.now (decimal f ∷ decimal c ∷ decimal n ∷ decimal a ∷ [])
check_sentence_of s rule (case.Direction f class moves) = says text.DIRECTION.now (decimal f ∷ does class ∷ does moves ∷ [])
check_sentence_of s rule (case.Operation operator left right) =
    says text.SIDES.now (sign_of operator ∷ range left.low left.high ∷ range right.low right.high ∷ [])
check_sentence_of s rule (case.Width greatest bits) = says text.TOO_WIDE.now (decimal greatest ∷ decimal bits ∷ [])
check_sentence_of s rule (case.Unset body register) = says text.UNSET.now (name (register_of s body register) ∷ [])
check_sentence_of s rule (case.Measure body variable) =
    says text.NOT_LOWERED.now (name (variable_of s body variable) ∷ name (variable_of s body variable) ∷ [])
check_sentence_of s rule (case.Kept body variable found kept) =
    says (kept_text rule) (name (variable_of s body variable) ∷ range found.low found.high ∷ decimal kept.low ∷ decimal kept.high ∷ [])
check_sentence_of s rule (case.Turns needed allowed) = says text.TURNS.now (decimal needed ∷ decimal allowed ∷ [])
check_sentence_of s rule (case.Annotation turns allowed) = says text.ANNOTATION.now (decimal turns ∷ decimal allowed ∷ [])
check_sentence_of s rule (case.Judged body needed allowed) = says text.JUDGED.now (who body ∷ cost needed ∷ decimal allowed ∷ [])
check_sentence_of s rule (case.Budget body needed allowed) = Some (budget_text rule body needed allowed)
check_sentence_of s rule (case.Crates first last) = says text.REGISTERS.now (range first.low first.high ∷ range last.low last.high ∷ [])
check_sentence_of s rule (case.Count count words) = says text.TABLE.now (decimal count ∷ decimal words ∷ [])
check_sentence_of s rule (case.Crate numbers) = says text.NOT_ONE_CRATE.now (range numbers.low numbers.high ∷ [])
check_sentence_of s rule (case.Locked c) = says text.LOCKED.now (decimal c ∷ [])
check_sentence_of s rule (case.Word greatest) = says text.WIDE_WORD.now (decimal greatest ∷ [])
check_sentence_of s rule (case.Counted body variable) = says text.COUNTED.now (name (variable_of s body variable) ∷ [])
check_sentence_of s rule (case.Argument procedure argument found wanted) =
    says text.ARGUMENT.now (decimal (place_from_one argument) ∷ range found.low found.high ∷ name (parameter_of s procedure argument)
    ∷ decimal wanted.low ∷ decimal wanted.high ∷ [])

-- of a rule of linking or of the checker
abbrev pub sentence_of : Script → Finding → Option (List ℕ)
sentence_of s (finding.Link rule spot case) = link_sentence_of s rule case
sentence_of s (finding.Check rule spot case) = check_sentence_of s rule case
sentence_of s _ = None
