use Rattle.std.proofs.Common.{◌++◌, List, ℕ, take, ap, sym, ◌∙◌, arith}
use Rattle.std.proofs.lemmas.Fmt.{decimal_digit}
use Rattle.itoa.proofs.Decimal.{decimal_two}
use Rattle.camac_lines.proofs.bytes.small_in.Goals as goal

pub returns-then-number-lt10-clause-written : goal.returns-then-number-lt10-clause-written
returns-then-number-lt10-clause-written c =
    c.bytes_in.ensures.written ∙ ap (λ (l : List ℕ). take c.args.start c.args.bytes.now ++ l) (sym (decimal_digit c.args.number (omega arith)))

pub returns-then-number-lt100-clause-written : goal.returns-then-number-lt100-clause-written
returns-then-number-lt100-clause-written c =
    c.bytes_in-then-number-lt100.ensures.written
    ∙ ap (λ (l : List ℕ). take c.args.start c.args.bytes.now ++ l) (c.two_digits.ensures ∙ sym (decimal_two c.args.number (omega arith) (omega arith)))
