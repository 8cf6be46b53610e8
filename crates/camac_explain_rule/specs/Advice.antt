-- What is told of each rule, the code of each warning, and what is said of a rule without a case.
use Rattle.std.specs.Prelude.{◌≡◌, ℕ, List, codes, ◌-◌, ◌&&◌, ◌||◌, Bool, true, false, [], ◌∷◌, ◌++◌, map, nat_eq, nat_lt, nat_le, Option, Some, None, if◌then◌else◌}
use Rattle.std.specs.List.{flat_map}
use Rattle.camac_explain_rule.specs.declared.rule.Warning.{Warning}
use Rattle.camac_explain_rule.specs.declared.pages.TheConstants as text
use Rattle.camac_explain_rule.specs.declared.rule.Warning.TheVariants.{NeverReached, ScanWithoutCycle, NoNumber, KeepNotNeeded, NoService, LongerFirst, DearLoop, KeepTooWide, WordNotUsed, OneNumber, UsedBeforeSet, OneAddressTwice, FlagBeforeCycle, NameNotUsed, LeadingZero, AlwaysTrueOrFalse, GuardLeavesOut}
use Rattle.std.specs.Str.{bytes_eq, str_eq_ignore_ascii_case}
use Rattle.camac_rules.specs.declared.rule.CheckRule.{CheckRule}
use Rattle.camac_rules.specs.declared.rule.CheckRule.TheVariants as check
use Rattle.camac_func.specs.declared.code.FunctionClass.TheVariants.{Read, Write}
use Rattle.camac_range.specs.Number.{greatest}
use Rattle.camac_rules.specs.Loops.{turn_limit}
use Rattle.camac_rules.specs.declared.case.Case.{Case}
use Rattle.camac_rules.specs.declared.case.Case.TheVariants.{Direction, Operation, Turns, Judged, Budget, Width, Word}
use Rattle.camac_rules.specs.declared.case.Numbers.{Numbers}
use Rattle.camac_rules.specs.declared.case.Operator.TheVariants.{Sub}
use Rattle.camac_lines.specs.Codes.{answer_code, check_code, event_code, link_code, plan_code, text_code}
use Rattle.camac_explain_rule.specs.declared.rule.Rule.{Rule}
use Rattle.camac_explain_rule.specs.declared.rule.Rule.TheVariants as of
use Rattle.camac_explain_rule.specs.declared.pages.TheConstants.{ANY_RIGHT, ANY_SIDE, ANY_VALUE, ANY_WORD, DIFFERENCE, FEWER_CYCLES, FEWER_EACH, FEWER_STEPS, FEWER_WORDS, MORE, MORE_CYCLES, MORE_STEPS, MORE_TURNS, MORE_WORDS, MOST_TURNS, MOVES_NONE, OF_ANSWERS, OF_CHECKER, OF_EVENTS, OF_LINKS, OF_PLANS, OF_TEXTS, OF_WARNINGS, READS, RESULT, TWO_LOOPS, VALUE, WORD, WRITES}

-- The code of each warning: its name and its meaning.

abbrev pub warning_code : Warning → List ℕ × List ℕ
warning_code NeverReached = (codes "W1", text.NEVER_REACHED.now)
warning_code ScanWithoutCycle = (codes "W2", text.SCAN_WITHOUT_CYCLE.now)
warning_code NoNumber = (codes "W3", text.NO_NUMBER.now)
warning_code KeepNotNeeded = (codes "W4", text.KEEP_NOT_NEEDED.now)
warning_code NoService = (codes "W5", text.NO_SERVICE.now)
warning_code LongerFirst = (codes "W6", text.LONGER_FIRST.now)
warning_code DearLoop = (codes "W7", text.DEAR_LOOP.now)
warning_code KeepTooWide = (codes "W8", text.KEEP_TOO_WIDE.now)
warning_code WordNotUsed = (codes "W9", text.WORD_NOT_USED.now)
warning_code OneNumber = (codes "W10", text.ONE_NUMBER.now)
warning_code UsedBeforeSet = (codes "W11", text.USED_BEFORE_SET.now)
warning_code OneAddressTwice = (codes "W12", text.ONE_ADDRESS_TWICE.now)
warning_code FlagBeforeCycle = (codes "W13", text.FLAG_BEFORE_CYCLE.now)
warning_code NameNotUsed = (codes "W14", text.NAME_NOT_USED.now)
warning_code LeadingZero = (codes "W15", text.LEADING_ZERO.now)
warning_code AlwaysTrueOrFalse = (codes "W16", text.ALWAYS_TRUE_OR_FALSE.now)
warning_code GuardLeavesOut = (codes "W17", text.GUARD_LEAVES_OUT.now)

-- What is told of each rule: why it is there, and what to do where it is broken. The texts stand with its code in src/pages.rt.

pub record Told : Type 0 where
  pub why : List ℕ
  pub fix : List ℕ

abbrev pub why_and_fix : List ℕ → List ℕ → Told
why_and_fix why fix = record { why = why; fix = fix }

-- a text that a constant has
abbrev pub Text : Type 0
Text = record { now : List ℕ }

-- what stands with this code in a table
abbrev pub told_in : List (Text × Text × Text) → (code : List ℕ) → Told
told_in [] code = why_and_fix [] []
told_in (row ∷ rows) code = if bytes_eq row.0.now code then why_and_fix row.1.now row.2.now else told_in rows code

-- why a rule of the checker is there, and each way to mend what breaks it: what that is for, and what to do
pub record Page : Type 0 where
  pub why : List ℕ
  pub fixes : List (List ℕ × List ℕ)

abbrev pub page : (why : Text) → (fixes : List (Text × Text)) → Page
page why fixes = record { why = why.now; fixes = map (λ (f : Text × Text). (f.0.now, f.1.now)) fixes }

abbrev pub page_in : List (Text × Text × record { now : List (Text × Text) }) → (code : List ℕ) → Page
page_in [] code = record { why = []; fixes = [] }
page_in (row ∷ rows) code = if bytes_eq row.0.now code then page row.1 row.2.now else page_in rows code

unfoldable pub check_page : CheckRule → Page
check_page rule = page_in OF_CHECKER (check_code rule).0

abbrev pub first_fix : List (List ℕ × List ℕ) → List ℕ
first_fix [] = []
first_fix (fix ∷ fixes) = fix.1

-- of a rule: of one of the checker the first way
unfoldable pub rule_told : Rule → Told
rule_told (of.Plan rule) = told_in OF_PLANS (plan_code rule).0
rule_told (of.Text rule) = told_in OF_TEXTS (text_code rule).0
rule_told (of.Link rule) = told_in OF_LINKS (link_code rule).0
rule_told (of.Check rule) = why_and_fix (check_page rule).why (first_fix (check_page rule).fixes)
rule_told (of.Answer rule) = told_in OF_ANSWERS (answer_code rule).0
rule_told (of.Event rule) = told_in OF_EVENTS (event_code rule).0
rule_told (of.Warning warning) = told_in OF_WARNINGS (warning_code warning).0

-- several numbers may stand there
abbrev pub is_open : Numbers → Bool
is_open n = nat_lt n.low n.high

-- nothing is known above the lowest number
abbrev pub is_forgotten : Numbers → Bool
is_forgotten n = is_open n && nat_eq n.high greatest

-- a difference of two unknown numbers whose greatest have a sum: its form of its own fits
abbrev pub is_difference : Case → Bool
is_difference (Operation Sub left right) = is_open left && is_open right && nat_le left.high (greatest - right.high)
is_difference case = false

abbrev pub is_right_forgotten : Case → Bool
is_right_forgotten (Operation Sub left right) = is_forgotten right
is_right_forgotten case = false

abbrev pub is_side_forgotten : Case → Bool
is_side_forgotten (Operation operator left right) = is_forgotten left || is_forgotten right
is_side_forgotten case = false

-- a value that may be any number
abbrev pub is_any : Case → Bool
is_any (Width most bits) = nat_eq most greatest
is_any (Word most) = nat_eq most greatest
is_any case = false

-- a larger number in the heading is large enough
abbrev pub is_within : (most : ℕ) → Case → Bool
is_within most (Budget body needed allowed) = nat_le needed most
is_within most case = false

-- what to do in this case; a plan's buffer has at most 4096 words
abbrev pub check_fix : CheckRule → Case → List ℕ
check_fix check.WrongDirection (Direction f Read moves) = READS.1.now
check_fix check.WrongDirection (Direction f Write moves) = WRITES.1.now
check_fix check.WrongDirection case = MOVES_NONE.1.now
check_fix check.ValueOutOfRange case =
    if is_right_forgotten case then ANY_RIGHT.1.now else if is_side_forgotten case then ANY_SIDE.1.now
    else if is_difference case then DIFFERENCE.1.now else RESULT.1.now
check_fix check.ValueTooWide case = if is_any case then ANY_VALUE.1.now else VALUE.1.now
check_fix check.TooManyTurns (Turns needed allowed) = if nat_le needed turn_limit then MORE_TURNS.1.now else TWO_LOOPS.1.now
check_fix check.TooManyTurns (Judged whose needed allowed) = FEWER_EACH.1.now
check_fix check.TooManyTurns case = MOST_TURNS.1.now
check_fix check.TooManyWords case = if is_within 4096 case then MORE_WORDS.1.now else FEWER_WORDS.1.now
check_fix check.TooManyCycles case = if is_within greatest case then MORE_CYCLES.1.now else FEWER_CYCLES.1.now
check_fix check.WordTooWide case = if is_any case then ANY_WORD.1.now else WORD.1.now
check_fix check.TooManySteps case = if is_within greatest case then MORE_STEPS.1.now else FEWER_STEPS.1.now
check_fix rule case = first_fix (check_page rule).fixes

abbrev pub check_told : CheckRule → Case → Told
check_told rule case = why_and_fix (check_page rule).why (check_fix rule case)

-- ---- a rule without a case

abbrev pub line_of : (label text : List ℕ) → List ℕ
line_of label text = label ++ text ++ codes "\n"

-- What is said of it: its code and meaning, why it is there, each way to fix it, and an example.

abbrev pub rule_code : Rule → List ℕ × List ℕ
rule_code (of.Plan rule) = plan_code rule
rule_code (of.Text rule) = text_code rule
rule_code (of.Link rule) = link_code rule
rule_code (of.Check rule) = check_code rule
rule_code (of.Answer rule) = answer_code rule
rule_code (of.Event rule) = event_code rule
rule_code (of.Warning warning) = warning_code warning

-- the rule of these that has this code, in either case, or none has it
abbrev pub Names : {R : Type 0} → (R → List ℕ × List ℕ) → List ℕ → Option R → Type 0
Names code_of code (Some rule) = str_eq_ignore_ascii_case (code_of rule).0 code ≡ true
Names {R} code_of code None = (rule : R) → str_eq_ignore_ascii_case (code_of rule).0 code ≡ false

abbrev pub IsRuleOf : List ℕ → Option Rule → Type 0
IsRuleOf code found = Names rule_code code found

-- a way to mend, behind what it is for
abbrev pub fix_line : List ℕ × List ℕ → List ℕ
fix_line fix = codes "Fix" ++ line_of (fix.0 ++ codes ": ") fix.1

abbrev pub fixes_of : Rule → List ℕ
fixes_of (of.Check rule) = flat_map fix_line (check_page rule).fixes
fixes_of rule = line_of (codes "Fix: ") (rule_told rule).fix

-- something was put at the end
abbrev pub Grows : (old new : List ℕ) → Type 0
Grows old new = (more : List ℕ) × (new ≡ old ++ more)

-- the example is between the fixes and the page
abbrev pub IsRuleText : Rule → List ℕ → Type 0
IsRuleText rule bytes =
    (example : List ℕ)
    × (bytes
    ≡ line_of ((rule_code rule).0 ++ codes ": ") (rule_code rule).1
    ++ line_of (codes "Why: ") (rule_told rule).why
    ++ fixes_of rule
    ++ example
    ++ line_of MORE.now (rule_code rule).0)
