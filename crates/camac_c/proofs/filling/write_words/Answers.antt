use Rattle.std.proofs.Common.{◌≡◌, ◌+◌, ◌*◌, ◌≤◌, ◌<◌, length, get_or, arith}
use Rattle.std.proofs.lemmas.Grind.{common_steps}
use Rattle.camac_c.proofs.Over.{words_next}
use Rattle.camac_c.proofs.filling.write_words.Goals as goal

pub loop-i-preserved : goal.loop-i-preserved
loop-i-preserved c =
    let held = c.args.held.now in let i = c.loop-i.i in
    let inside : i < length held = grind (arith, common_steps) in
    let room : 4 * i + 4 ≤ length c.args.bytes.now = grind (arith, common_steps) in
    let word : c.get.result ≡ get_or held i 0 = grind (arith, common_steps) in
    words_next i c.get.result held c.args.bytes.now c.loop-i.bytes c.write_u32.new.buf inside room word c.loop-i.invariant c.write_u32.ensures
