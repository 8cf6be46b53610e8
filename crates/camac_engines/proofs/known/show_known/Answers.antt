use Rattle.std.proofs.Common.{◌≡◌, ◌++◌, codes, decimal, refl, ◌∙◌}
use Rattle.std.proofs.lemmas.Result.{err_from_is_err_and}
use Rattle.camac_engines.proofs.known.show_known.Goals as goal

pub returns-in_ok-write_text-in-NotReached-clause-shows :
    goal.returns-in_ok-write_text-in-NotReached-clause-shows
returns-in_ok-write_text-in-NotReached-clause-shows g c = rw c.in-NotReached.is (refl, c.in_ok-write_text-in-NotReached.ensures.text)

pub returns-in_ok-write_text-in-NoStatement-clause-shows :
    goal.returns-in_ok-write_text-in-NoStatement-clause-shows
returns-in_ok-write_text-in-NoStatement-clause-shows g c =
    let text : c.as_bytes.result.now ≡ codes "no statement at " ++ decimal c.args.line ++ codes ":" ++ decimal c.args.column ++ codes "\n" =
    c.as_bytes.ensures ∙ c.no_statement.ensures in
    rw c.in-NoStatement.is (refl, rw text at c.in_ok-write_text-in-NoStatement.ensures.text)

pub returns-in_err-write_text-in-NoStatement-clause-shows :
    goal.returns-in_err-write_text-in-NoStatement-clause-shows
returns-in_err-write_text-in-NoStatement-clause-shows g c =
    let fault = err_from_is_err_and c.from_residual-in_err-write_text-in-NoStatement.result c.from_residual-in_err-write_text-in-NoStatement.ensures.1 in
    let text : c.as_bytes.result.now ≡ codes "no statement at " ++ decimal c.args.line ++ codes ":" ++ decimal c.args.column ++ codes "\n" =
    c.as_bytes.ensures ∙ c.no_statement.ensures in
    rw (c.in-NoStatement.is, fault.1, fault.2) (rw text at c.in_err-write_text-in-NoStatement.ensures.text)
