use Rattle.std.proofs.Common.{ℕ, ◌∙◌, refl, ap}
use Rattle.camac_branch.specs.Address.{Address}
use Rattle.camac_machine.specs.Course.{words_from, words_sent}
use Rattle.camac_machine.specs.Rest.{address_of}
use Rattle.camac_run.specs.Transfer.{window}
use Rattle.camac_run.proofs.Transfers.{scan_leaves}
use Rattle.camac_run.proofs.transfer.scan_left.Goals as goal

pub returns : goal.returns
returns c =
    let first = c.args.first.now in let table = words_sent c.args.table in
    let last = c.args.scan.now.last in
    let spans = c.window-cycles.ensures ∙ ap (λ (at : Address). window at c.last-last.result) c.command_address.ensures.at ∙ ap (λ (end : Address). window (address_of first) end) c.last-last.ensures in
    scan_leaves first table _ refl c.args.scan.now c.requires refl c.last-last.ensures spans c.words-words.ensures (c.words_from-table.ensures ∙ ap (λ (n : ℕ). words_from n table) c.tally.ensures.tally)
