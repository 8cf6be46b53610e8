use Rattle.std.proofs.Common.{◌≡◌, ◌+◌, ◌-◌, ◌^◌, ◌≤◌, length, sym, ap, ◌∙◌, arith}
use Rattle.std.specs.Prelude.{min}
use Rattle.std.proofs.lemmas.List.{drop_all}
use Rattle.camac_lang.specs.View.{statements_of}
use Rattle.camac_rules.specs.EachLimit.{block_judged}
use Rattle.camac_check_loops.proofs.judged.+judged.Goals as goal

pub block_judged-returns : goal.block_judged-returns
block_judged-returns t c =
    let xs = c.args.block.now in
    let i = c.statements.statement-index in
    let sum = c.statements.sum in
    let le : length xs ≤ i = omega arith in
    let small : sum ≤ 2 ^ 64 - 1 = c.statements.invariant.small in
    let whole : sum ≡ min (sum + 0) (2 ^ 64 - 1) = omega (arith, small) in
    whole
    ∙ ap (λ l. min (sum + block_judged (statements_of l)) (2 ^ 64 - 1)) (sym (drop_all i xs le))
    ∙ c.statements.invariant.counted
