-- The code of each rule: its name and its meaning.
use Rattle.std.specs.Prelude.{ℕ, List, codes}
use Rattle.camac_plan.specs.declared.fault.PlanRule.{PlanRule}
use Rattle.camac_plan.specs.declared.fault.PlanRule.TheVariants as plan
use Rattle.camac_tokens.specs.declared.fault.TextRule.{TextRule}
use Rattle.camac_tokens.specs.declared.fault.TextRule.TheVariants as text
use Rattle.camac_names.specs.declared.fault.LinkRule.{LinkRule}
use Rattle.camac_names.specs.declared.fault.LinkRule.TheVariants as link
use Rattle.camac_rules.specs.declared.rule.CheckRule.{CheckRule}
use Rattle.camac_rules.specs.declared.rule.CheckRule.TheVariants as check
use Rattle.camac_answer.specs.declared.fault.AnswerRule.{AnswerRule}
use Rattle.camac_answer.specs.declared.fault.AnswerRule.TheVariants as answer
use Rattle.camac_event.specs.declared.fault.EventRule.{EventRule}
use Rattle.camac_event.specs.declared.fault.EventRule.TheVariants as event

abbrev pub plan_code : PlanRule → List ℕ × List ℕ
plan_code plan.NotToml = (codes "P1", codes "not TOML")
plan_code plan.UnknownKey = (codes "P2", codes "unknown key")
plan_code plan.MissingOrWrongKind = (codes "P3", codes "missing key or wrong kind")
plan_code plan.OutOfRange = (codes "P4", codes "value out of range")
plan_code plan.CrateTwice = (codes "P5", codes "crate twice")
plan_code plan.StationTwice = (codes "P6", codes "station twice")
plan_code plan.UnknownType = (codes "P7", codes "unknown module type")
plan_code plan.DeclaredTwice = (codes "P8", codes "declared twice")
plan_code plan.BitTwice = (codes "P9", codes "GL bit twice")
plan_code plan.TooDeep = (codes "P11", codes "nested too deeply")

abbrev pub text_code : TextRule → List ℕ × List ℕ
text_code text.BadByte = (codes "S1", codes "bad byte")
text_code text.UnexpectedToken = (codes "S2", codes "unexpected token")
text_code text.NumberTooLarge = (codes "S3", codes "number too large")
text_code text.DeclaredTwice = (codes "S4", codes "name declared twice")
text_code text.NotDeclared = (codes "S5", codes "name not declared")
text_code text.LimitPassed = (codes "S6", codes "limit passed")
text_code text.BranchNotOne = (codes "S7", codes "branch not 1")

abbrev pub link_code : LinkRule → List ℕ × List ℕ
link_code link.LamNotInstalled = (codes "L1", codes "LAM at no installed station")
link_code link.StationWithoutBit = (codes "L2", codes "station without GL bit")
link_code link.StationServedTwice = (codes "L3", codes "two services on one station")
link_code link.EventAboveBuffer = (codes "L4", codes "event above the buffer")

abbrev pub check_code : CheckRule → List ℕ × List ℕ
check_code check.StationNotInstalled = (codes "E1", codes "station may not be installed")
check_code check.CommandNotDeclared = (codes "E2", codes "command may not be declared")
check_code check.WrongDirection = (codes "E3", codes "data direction does not fit")
check_code check.ValueOutOfRange = (codes "E4", codes "value out of range")
check_code check.ValueTooWide = (codes "E5", codes "value too wide")
check_code check.RegisterUnset = (codes "E6", codes "register may be unset")
check_code check.MeasureBroken = (codes "E7", codes "measure rule broken")
check_code check.KeepFailsAtEntry = (codes "E8", codes "keep fails at entry")
check_code check.KeepFailsAfterTurn = (codes "E9", codes "keep fails after a turn")
check_code check.TooManyTurns = (codes "E10", codes "too many turns")
check_code check.TooManyWords = (codes "E11", codes "more event words than annotated")
check_code check.TooManyCycles = (codes "E12", codes "more cycles than annotated")
check_code check.ScanCratesDiffer = (codes "E13", codes "crates of a scan differ")
check_code check.CountAboveTable = (codes "E14", codes "count above the table")
check_code check.CrateUnfit = (codes "E15", codes "crate unfit for the call")
check_code check.WordTooWide = (codes "E16", codes "word above 24 bits")
check_code check.LoopVariableAssigned = (codes "E17", codes "loop variable assigned")
check_code check.TooManySteps = (codes "E18", codes "too many steps")
check_code check.ArgumentOutOfRange = (codes "E21", codes "argument out of range")

abbrev pub answer_code : AnswerRule → List ℕ × List ℕ
answer_code answer.LineShape = (codes "A1", codes "line shape")
answer_code answer.BadDigit = (codes "A2", codes "bad digit")
answer_code answer.TooMany = (codes "A4", codes "too many answers")

abbrev pub event_code : EventRule → List ℕ × List ℕ
event_code event.WrongHeader = (codes "V1", codes "header")
event_code event.WrongMarker = (codes "V2", codes "marker")
event_code event.GlOutOfRange = (codes "V3", codes "GL number")
event_code event.NumberOutOfOrder = (codes "V4", codes "event number")
event_code event.CountAboveLimit = (codes "V5", codes "count")
event_code event.WordTooWide = (codes "V6", codes "word")
event_code event.Truncated = (codes "V7", codes "truncated")
event_code event.MissedAboveCycles = (codes "V9", codes "X count")
