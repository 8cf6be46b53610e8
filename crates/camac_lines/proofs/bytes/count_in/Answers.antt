use Rattle.std.proofs.Common.{◌/◌, ◌%◌, ◌++◌, List, ℕ, take, ap, sym, ◌∙◌, append_assoc, decimal, arith}
use Rattle.itoa.proofs.Decimal.{decimal_four}
use Rattle.camac_lines.specs.Digits.{two_digits}
use Rattle.camac_lines.proofs.bytes.count_in.Goals as goal

pub returns-then-number-lt100000000-clause-written : goal.returns-then-number-lt100000000-clause-written
returns-then-number-lt100000000-clause-written c =
    let number = c.args.number in
    let before : List ℕ = take c.args.start c.args.bytes.now in
    let high : List ℕ = decimal (number / 10000) in
    let low : List ℕ = two_digits (number % 10000 / 100) ++ two_digits (number % 10000 % 100) in
    c.four_in.ensures.written
    ∙ ap (λ (l : List ℕ). l ++ low) c.short_in-end.ensures.written
    ∙ append_assoc before high low
    ∙ ap (λ (l : List ℕ). before ++ l) (sym (decimal_four number (omega arith) (omega arith)))
