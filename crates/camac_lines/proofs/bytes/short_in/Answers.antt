use Rattle.std.proofs.Common.{◌/◌, ◌++◌, List, ℕ, take, ap, sym, ◌∙◌, append_assoc, decimal, arith}
use Rattle.itoa.proofs.Decimal.{decimal_pair}
use Rattle.camac_lines.proofs.bytes.short_in.Goals as goal

pub returns-else-number-lt100-clause-written : goal.returns-else-number-lt100-clause-written
returns-else-number-lt100-clause-written c =
    let before : List ℕ = take c.args.start c.args.bytes.now in
    let high : List ℕ = decimal (c.args.number / 100) in
    c.bytes_in.ensures.written
    ∙ ap (λ (l : List ℕ). l ++ c.two_digits.result) c.small_in-end.ensures.written
    ∙ append_assoc before high c.two_digits.result
    ∙ ap (λ (l : List ℕ). before ++ l) (ap (λ (l : List ℕ). high ++ l) c.two_digits.ensures ∙ sym (decimal_pair c.args.number (omega arith) (omega arith)))
