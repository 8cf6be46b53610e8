use Rattle.std.proofs.Common.{◌++◌, ◌∷◌, [], List, ℕ, take, decimal, ap, sym, ◌∙◌, append_assoc, arith}
use Rattle.std.proofs.lemmas.Fmt.{decimal_digit}
use Rattle.camac_lines.proofs.cycle.ended_in.Goals as goal

pub returns-then-number-lt10-clause-written : goal.returns-then-number-lt10-clause-written
returns-then-number-lt10-clause-written c =
    let before : List ℕ = take c.args.start c.args.bytes.now in
    c.bytes_in.ensures.written
    ∙ ap (λ (l : List ℕ). before ++ (l ++ c.args.end ∷ [])) (sym (decimal_digit c.args.number (omega arith)))
    ∙ sym (append_assoc before (decimal c.args.number) (c.args.end ∷ []))
