use Rattle.camac_check_rows.specs.Weights.{level, weight}
use Rattle.camac_check_rows.proofs.Laid.{laid_within}
use Rattle.camac_check_rows.proofs.inside.Level.within.Goals as goal

pub returns : goal.returns
returns c =
    laid_within c.args.self (level c.saturating_add.result (weight c.saturating_mul.result c.saturating_mul-2.result c.saturating_mul-3.result c.saturating_mul-4.result)) c.args.inner
    c.saturating_add.ensures c.saturating_mul.ensures c.saturating_mul-2.ensures c.saturating_mul-3.ensures c.saturating_mul-4.ensures
