use Rattle.camac_report.specs.Items.{unlock_texts}
use Rattle.camac_tool_host.proofs.Lines.{some_line, writes_nothing, taken}
use Rattle.camac_tool_host.proofs.gathered.Gathered.put_items.Goals as goal

pub returns-in_err-make_room-clause-text : goal.returns-in_err-make_room-clause-text
returns-in_err-make_room-clause-text g c =
    writes_nothing c.from_residual.result _ _ _ c.from_residual.ensures.0 (some_line c.args.checked.now.script c.args.item.now (unlock_texts c.args.unlocks.now)) c.in_err-make_room.ensures.bytes

pub returns-clause-text : goal.returns-clause-text
returns-clause-text g c =
    let before = c.make_room.new.self in
    taken _ (g.W.Device.contents before.inner.0) before.room _ _ c.in_ok-make_room.ensures.bytes c.put_items.ensures
