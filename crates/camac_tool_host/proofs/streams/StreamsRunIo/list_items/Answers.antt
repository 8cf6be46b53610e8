use Rattle.std.proofs.KnownBytes.{Keeps-refl}
use Rattle.camac_report.specs.Items.{unlock_texts}
use Rattle.camac_tool_host.proofs.Lines.{some_line, nothing_of}
use Rattle.camac_tool_host.proofs.streams.StreamsRunIo.list_items.Goals as goal

pub returns-then-failed-clause-text : goal.returns-then-failed-clause-text
returns-then-failed-clause-text g c =
    nothing_of _ _ _ (some_line c.args.checked.now.script c.args.item.now (unlock_texts c.args.unlocks.now)) (Keeps-refl _)
