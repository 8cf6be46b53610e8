use Rattle.std.proofs.Common.{◌≡◌, ◌++◌, ◌<◌, ◌≤◌, OnOk, length, sym, ap, ◌∙◌, append-nil, arith, subst}
use Rattle.camac_check_costs.proofs.PlaceLaws.{around_here, around_none}
use Rattle.camac_check_costs.proofs.turns.+around.Goals as goal

pub push_each_around-returns-then-is_in : goal.push_each_around-returns-then-is_in
push_each_around-returns-then-is_in t c =
    let xs = c.args.block.now in
    let i = c.statements.statement-index in
    let lt : i < length xs = omega arith in
    subst (λ l. OnOk c.push_each.result (c.push_each.new.loops.items ≡ l))
    (ap (λ l. c.statements.loops.items ++ l) (sym (around_here c.args.left xs i c.statement-item.result lt c.statement-item.is (sym c.is_in.ensures ∙ c.if-is_in.true)))
    ∙ c.statements.invariant)
    c.push_each.ensures

pub push_each_around-returns : goal.push_each_around-returns
push_each_around-returns t c =
    let xs = c.args.block.now in
    let i = c.statements.statement-index in
    let le : length xs ≤ i = omega arith in
    sym (append-nil c.statements.loops.items) ∙ ap (λ l. c.statements.loops.items ++ l) (sym (around_none c.args.left xs i le)) ∙ c.statements.invariant
