use Rattle.std.proofs.Common.{ℕ, ◌∙◌, refl, ap}
use Rattle.camac_machine.specs.Course.{words_from, words_sent}
use Rattle.camac_run.proofs.Transfers.{stop_leaves}
use Rattle.camac_run.proofs.transfer.stop_left.Goals as goal

pub returns : goal.returns
returns c =
    let first = c.args.first.now in let table = words_sent c.args.table in
    stop_leaves first table _ refl c.args.stop.now c.requires refl c.cycles-most.ensures c.cycles-most.ensures (c.words_from-table.ensures ∙ ap (λ (n : ℕ). words_from n table) c.tally.ensures.tally)
