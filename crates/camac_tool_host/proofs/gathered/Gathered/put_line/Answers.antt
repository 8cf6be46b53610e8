use Rattle.std.proofs.Common.{◌≡◌, ◌∙◌, ◌++◌, List, ℕ, ap, arith, take, take_all, length, sym}
use Rattle.camac_tool_host.proofs.Lines.{taken}
use Rattle.camac_tool_host.proofs.gathered.Gathered.put_line.Goals as goal

pub returns-clause-text : goal.returns-clause-text
returns-clause-text g c =
    let before = c.make_room.new.self in
    let line = c.as_bytes.result.now in
    let counted : length line ≡ c.len.result = ap length c.as_bytes.ensures ∙ sym c.len.ensures.value in
    let whole : take c.put.result line ≡ line = take_all c.put.result line (omega (arith, c.put.ensures.count, counted, c.in_ok-make_room.ensures.room)) in
    taken _ (g.W.Device.contents before.inner.0) before.room _ _ c.in_ok-make_room.ensures.bytes
    (c.put.ensures.bytes ∙ ap (λ (l : List ℕ). before.room ++ l) (whole ∙ c.as_bytes.ensures))
