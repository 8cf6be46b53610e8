use Rattle.std.proofs.Common.{refl}
use Rattle.std.proofs.lemmas.Result.{err_from_is_err_and}
use Rattle.camac_explain.specs.Explanation.{refusal_of}
use Rattle.camac_engines.specs.Report.{refused}
use Rattle.camac_engines.specs.declared.outcome.Outcome.TheVariants.{Good}
use Rattle.camac_word.specs.Watched.{inner_of}
use Rattle.camac_engines.proofs.Told.{written}
use Rattle.camac_engines.proofs.costs.show_costs.Goals as goal

pub returns-in_err-write_costs-in-Accepted-clause-tells : goal.returns-in_err-write_costs-in-Accepted-clause-tells
returns-in_err-write_costs-in-Accepted-clause-tells g c =
    let fault = err_from_is_err_and c.from_residual-in_err-write_costs-in-Accepted.result c.from_residual-in_err-write_costs-in-Accepted.ensures.1 in
    rw (c.in-Accepted.is, fault.1, fault.2) (Good, _, refl, rw (c.deref.ensures.value, c.in_ok-bodies-in-Accepted.ensures) at c.in_err-write_costs-in-Accepted.ensures.text)

pub returns-in-Refused-clause-tells : goal.returns-in-Refused-clause-tells
returns-in-Refused-clause-tells g c =
    rw c.in-Refused.is (written (refused (refusal_of c.in-Refused.finding)) (g.W.Write.contents (inner_of c.args.out.now)) (g.W.Write.contents (inner_of c.refuse.new.out)) c.refuse.result (rw c.refusal.ensures at c.refuse.ensures.shows))
