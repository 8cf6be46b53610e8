use Rattle.std.proofs.Common.{◌++◌, List, ℕ, codes, ap, sym, arith}
use Rattle.std.proofs.lemmas.Fmt.{decimal_digit}
use Rattle.camac_lines.proofs.cycle.word_and_crate.Goals as goal

pub returns : goal.returns
returns c =
    let to = c.get.ensures.in_range.1 in
    rw c.get.ensures.value (ap (λ (l : List ℕ). codes "cycle " ++ (l ++ codes " ")) (sym (decimal_digit c.args.c (omega (arith, to)))))
