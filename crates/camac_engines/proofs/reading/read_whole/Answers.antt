use Rattle.std.proofs.Common.{◌+◌, ◌≤◌, ◌++◌, take, length, refl, arith}
use Rattle.std.proofs.lemmas.Grind.{common_steps}
use Rattle.std.proofs.lemmas.Result.{err_from_is_err_and}
use Rattle.std.proofs.KnownBytes.{Consumes-trans}
use Rattle.camac_engines.proofs.reading.read_whole.Goals as goal

pub returns-in_err-append-clause-bytes : goal.returns-in_err-append-clause-bytes
returns-in_err-append-clause-bytes g c =
    let p = err_from_is_err_and c.from_residual.result c.from_residual.ensures.1 in
    let prefix = c.loop-chunk.bytes.items in
    let piece = take c.in-Ok.taken c.read_piece.new.buf in
    let short : length (prefix ++ piece) ≤ c.args.limit + 1 = grind (arith, common_steps) in
    rw (p.1, p.2) (length (prefix ++ piece), short, (prefix ++ piece, refl, Consumes-trans _ _ _ prefix piece c.loop-chunk.invariant.0 c.in-Ok.ensures.bytes.0))
