use Rattle.std.proofs.Common.{◌≡◌, ◌+◌, ◌/◌, ◌%◌, ◌++◌, ◌∷◌, [], List, ℕ, decimal, ap, sym, ◌∙◌, append_assoc, arith}
use Rattle.std.proofs.lemmas.Fmt.{decimal_step}
use Rattle.camac_check_costs.proofs.texts.push_count.Goals as goal

pub returns-then-number-lt10000-clause-text : goal.returns-then-number-lt10000-clause-text
returns-then-number-lt10000-clause-text c =
    let n = c.args.number in
    let before = c.args.line.now in
    let tens : List ℕ = (48 + n / 10 % 10) ∷ [] in
    let ones : List ℕ = (48 + n % 10) ∷ [] in
    let hundreds : n / 100 ≡ n / 10 / 10 = omega arith in
    c.push_bytes.ensures.bytes
    ∙ ap (λ (l : List ℕ). l ++ (tens ++ ones)) c.push_small-then-number-lt10000.ensures.bytes
    ∙ append_assoc before (decimal (n / 100)) (tens ++ ones)
    ∙ ap (λ (m : ℕ). before ++ (decimal m ++ (tens ++ ones))) hundreds
    ∙ ap (λ (l : List ℕ). before ++ l)
    (sym (append_assoc (decimal (n / 10 / 10)) tens ones)
    ∙ ap (λ (l : List ℕ). l ++ ones) (sym (decimal_step (n / 10) (omega arith) (omega arith)))
    ∙ sym (decimal_step n (omega arith) (omega arith)))
