use Rattle.std.proofs.Common.{◌≤◌, ◌<◌, sym, subst, arith}
use Rattle.camac_check_known.specs.Gives.{Fails}
use Rattle.camac_check_loops.specs.Counting.{counted}
use Rattle.camac_check_loops.proofs.Counts.{below_limit, past_limit}
use Rattle.camac_check_loops.proofs.judged.within_limit.Goals as goal

pub returns-then-needed-from : goal.returns-then-needed-from
returns-then-needed-from c = λ n e.
    let le : c.args.needed ≤ 65536 = omega arith in
    below_limit c.args.place c.args.spot c.args.needed n e le

pub returns : goal.returns
returns c = λ n e.
    let lt : 65536 < c.args.needed = omega arith in
    subst (λ f. Fails f (counted c.args.place c.args.spot n)) (sym c.broken.ensures) (past_limit c.args.place c.args.spot c.args.needed n e lt)
