use Rattle.std.proofs.Common.{sym, arith}
use Rattle.std.proofs.lemmas.List.{take_all}
use Rattle.camac_explain.proofs.source.prefix.Goals as goal

pub returns-then-bytes-most : goal.returns-then-bytes-most
returns-then-bytes-most c =
    let short = c.if-bytes-most.true in sym (take_all c.args.most c.args.bytes.now (omega arith))
