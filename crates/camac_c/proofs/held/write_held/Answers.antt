use Rattle.std.proofs.Common.{◌≡◌, ◌+◌, ◌*◌, ◌≤◌, ◌<◌, length, get_or, reverse, arith}
use Rattle.std.proofs.lemmas.Grind.{common_steps}
use Rattle.std.proofs.lemmas.List.{length-reverse, get_or-reverse}
use Rattle.camac_c.proofs.Over.{words_next}
use Rattle.camac_c.proofs.held.write_held.Goals as goal

pub loop-i-preserved : goal.loop-i-preserved
loop-i-preserved c =
    let held = c.args.held.now in let i = c.loop-i.i in
    let inside : i < length held = grind (arith, common_steps) in
    let room : 4 * i + 4 ≤ length c.args.bytes.now = grind (arith, common_steps) in
    let word : c.get.result ≡ get_or (reverse held) i 0 = grind (arith, common_steps, get_or-reverse held i 0 inside) in
    let whole : i < length (reverse held) = grind (arith, common_steps, length-reverse held) in
    words_next i c.get.result (reverse held) c.args.bytes.now c.loop-i.bytes c.write_u32.new.buf whole room word c.loop-i.invariant c.write_u32.ensures
