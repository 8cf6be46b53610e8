use Rattle.camac_answer.proofs.Digits.{wait_spelled, wait_unspelled}
use Rattle.std.proofs.Common.{sym, arith}
use Rattle.camac_answer.proofs.line.wait_of.Goals as goal

pub returns-then-value-gt15-clause-value : goal.returns-then-value-gt15-clause-value
returns-then-value-gt15-clause-value c = sym (wait_unspelled c.args.digit (omega (arith, c.value_of-value.ensures.value, c.if-value-gt15.true)))

pub returns-clause-value : goal.returns-clause-value
returns-clause-value c = sym (wait_spelled c.args.digit _ c.value_of-value.ensures.value (omega (arith, c.if-value-gt15.false)))
