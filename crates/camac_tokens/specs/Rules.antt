-- The rule that a text breaks.
use Rattle.camac_tokens.specs.declared.fault.TextRule.{TextRule}
use Rattle.camac_tokens.specs.declared.fault.TextRule.TheVariants.{BadByte, UnexpectedToken, NumberTooLarge, DeclaredTwice, NotDeclared, LimitPassed, BranchNotOne}
use Rattle.camac_tokens.specs.declared.fault.TextCase.{TextCase}
use Rattle.camac_tokens.specs.declared.fault.TextCase.TheVariants as text_case

abbrev pub rule_of : TextCase → TextRule
rule_of text_case.Byte = BadByte
rule_of text_case.Unexpected = UnexpectedToken
rule_of text_case.ZeroDivisor = UnexpectedToken
rule_of text_case.LockInProcedure = UnexpectedToken
rule_of (text_case.ArgumentCount wanted) = UnexpectedToken
rule_of (text_case.Number most) = NumberTooLarge
rule_of (text_case.Taken by) = DeclaredTwice
rule_of text_case.KeptTwice = DeclaredTwice
rule_of text_case.CounterKept = DeclaredTwice
rule_of text_case.MeasureKept = DeclaredTwice
rule_of (text_case.Undeclared wanted found) = NotDeclared
rule_of (text_case.Limit limit) = LimitPassed
rule_of text_case.Branch = BranchNotOne
