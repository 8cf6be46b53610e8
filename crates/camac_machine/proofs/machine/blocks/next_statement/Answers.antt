use Rattle.std.proofs.Common.{◌-◌, length, slice_index_or, arith}
use Rattle.camac_machine.proofs.Lists.{first_of, first_taken}
use Rattle.camac_machine.proofs.machine.blocks.next_statement.Goals as goal

pub returns-in-len1-up-clause-begun : goal.returns-in-len1-up-clause-begun
returns-in-len1-up-clause-begun c =
    let fs = c.args.frames.now in
    let last = slice_index_or fs (length fs - 1) c.index-frames-count.result in
    first_taken fs c.index-frames-count.result _ c.first-item.result (omega (arith, c.if-count-eq0.false)) (first_of last.rest.now c.first-item.result c.in-len1-up.len_at_least c.first-item.is)
