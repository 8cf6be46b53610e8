use Rattle.std.proofs.Common.{◌<◌, ◌∙◌, ap, sym, length, arith}
use Rattle.byteorder.specs.Endian.{big_bytes}
use Rattle.camac_event.proofs.InPlace.{length-words_in, words_in-at}
use Rattle.camac_event.proofs.file.EventWords.bytes.Goals as goal

pub overflow_mul-index : goal.overflow_mul-index
overflow_mul-index c = omega (arith, c.requires, ap length c.self.view_is, length-words_in c.self.inside.count c.self.inside.bytes.now, c.self.invariant.all, c.self.told.0)

pub low_bytes-requires : goal.low_bytes-requires
low_bytes-requires c = omega (arith, c.requires, ap length c.self.view_is, length-words_in c.self.inside.count c.self.inside.bytes.now, c.self.invariant.all)

pub returns : goal.returns
returns c =
    let below : c.args.index < c.self.inside.count = omega (arith, c.requires, ap length c.self.view_is, length-words_in c.self.inside.count c.self.inside.bytes.now) in
    rw (← c.self.view_is) (c.low_bytes.ensures ∙ ap (big_bytes 3) (sym (words_in-at c.self.inside.count c.self.inside.bytes.now c.args.index below)))
