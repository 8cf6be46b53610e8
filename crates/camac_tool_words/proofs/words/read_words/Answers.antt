use Rattle.std.proofs.Common.{rules, map, string_bytes, subst}
use Rattle.std.proofs.lemmas.Result.{err_from_is_err_and}
use Rattle.clap.specs.Words.{app_of, subcommand_rows_of}
use Rattle.camac_tool_words.specs.Words.{NamesJob}
use Rattle.camac_tool_words.proofs.CommandLines.{of_job, of_memory, of_no_job, of_two, of_usage}
use Rattle.camac_tool_words.proofs.words.read_words.Goals as goal

pub returns-in_err-command-clause-fault : goal.returns-in_err-command-clause-fault
returns-in_err-command-clause-fault c =
    let p = err_from_is_err_and c.from_residual.result c.from_residual.ensures.1 in
    rw p.1 (of_memory (map string_bytes c.args.words.now) _ p.2)

pub returns-in_err-matches-clause-fault : goal.returns-in_err-matches-clause-fault
returns-in_err-matches-clause-fault c =
    let p = err_from_is_err_and c.from_residual-in_err-matches.result c.from_residual-in_err-matches.ensures.1 in
    rw (p.1, p.2) (of_usage (app_of c.in_ok-command.command) _ c.in_err-matches.field-0.0 c.in_err-matches.ensures.passes c.in_err-matches.ensures.kinds (search rules))

pub returns-in_err-error-clause-fault : goal.returns-in_err-error-clause-fault
returns-in_err-error-clause-fault c =
    let p = err_from_is_err_and c.from_residual-in_err-error.result c.from_residual-in_err-error.ensures.1 in
    rw p.1 (of_memory (map string_bytes c.args.words.now) _ p.2)

pub returns-in_default-clause-fault : goal.returns-in_default-clause-fault
returns-in_default-clause-fault c =
    of_no_job (app_of c.in_ok-command.command) _ c.in_ok-error.error _ (c.in_ok-matches.ensures.ok.2 (search rules)).1 (search rules) (search rules)

pub returns-then-input_count-gt1-clause-fault : goal.returns-then-input_count-gt1-clause-fault
returns-then-input_count-gt1-clause-fault c =
    let found = c.in_ok-matches.ensures.ok.2 (search rules) in
    of_two (map string_bytes c.args.words.now) c.in-Some.job
    (of_job (app_of c.in_ok-command.command) _ c.in-Some.job _ found.1 (search rules) (subst (NamesJob (subcommand_rows_of c.in_ok-matches.matches)) c.in-Some.is c.in_ok-job.ensures)) (search rules)

pub returns-clause-job : goal.returns-clause-job
returns-clause-job c =
    let found = c.in_ok-matches.ensures.ok.2 (search rules) in
    of_job (app_of c.in_ok-command.command) _ c.in-Some.job _ found.1 (search rules) (subst (NamesJob (subcommand_rows_of c.in_ok-matches.matches)) c.in-Some.is c.in_ok-job.ensures)
