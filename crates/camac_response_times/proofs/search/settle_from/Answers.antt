use Rattle.std.proofs.Common.{◌+◌, ◌∙◌, arith}
use Rattle.std.proofs.lemmas.Bool.{ne_eqb}
use Rattle.camac_response_times.specs.Found.{gathered}
use Rattle.camac_response_times.proofs.Rates.{round_on}
use Rattle.camac_response_times.proofs.search.settle_from.Goals as goal

pub loop-left-preserved : goal.loop-left-preserved
loop-left-preserved c =
    let test = c.loop-left-test.true in
    c.loop-left.invariant
    ∙ round_on (λ e. c.args.first + gathered e c.args.wanted.now) c.loop-left.left c.loop-left.cycles c.in_ok-next.next (omega (arith, test)) c.in_ok-next.ensures (ne_eqb c.in_ok-next.next c.loop-left.cycles c.if-next-cycles.false)
