use Rattle.camac_response_times.proofs.Words.{taken_at_head}
use Rattle.camac_response_times.proofs.search.+is_overloaded.Goals as goal

pub returns-then-all-clause-all : goal.returns-then-all-clause-all
returns-then-all-clause-all t c = λ _ e.
    taken_at_head c.args.bit c.args.load e c.load_of.result c.args.sources.now c.source-item.result c.in-len1-up.len_at_least c.source-item.is c.if-all.true (c.load_of.ensures.takes e)
