use Rattle.std.proofs.Common.{◌∙◌, ap, Err, refl}
use Rattle.std.proofs.lemmas.Result.{err_from_is_err_and}
use Rattle.camac_play.proofs.Sending.{sends_nothing}
use Rattle.camac_tool_run.proofs.Runs.{ends_before, ends_found}
use Rattle.camac_tool_run.proofs.running.run_over.Goals as goal

pub returns-in_err-judged-clause-runs : goal.returns-in_err-judged-clause-runs
returns-in_err-judged-clause-runs g c =
    let p = err_from_is_err_and c.from_residual.result c.from_residual.ensures.1 in
    ends_before _ _ c.args.telling (refl, sends_nothing _) c.from_residual.result c.in_err-judged.field-0.0 (p.1 ∙ ap Err p.2) c.in_err-judged.ensures.reads refl refl c.in_err-judged.ensures.failed

pub returns-clause-runs : goal.returns-clause-runs
returns-clause-runs g c =
    ends_found _ _ c.args.telling c.in_ok-judged.judged c.in_ok-judged.ensures.reads c.run_judged.result c.run_judged.ensures.runs c.run_judged.ensures.headline c.run_judged.ensures.fails.out_failed c.run_judged.ensures.fails.in_failed c.in_ok-judged.ensures.failed
