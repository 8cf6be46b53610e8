use Rattle.std.proofs.lemmas.Bool.{false≢true}
use Rattle.std.proofs.lemmas.Nat.{or_lt}
use Rattle.camac_branch.proofs.table.with_bit.Goals as goal

pub unreachable-requires : goal.unreachable-requires
unreachable-requires c = false≢true ((c.in-None.ensures {u = tt}).in_range.1 (or_lt 24 c.get.result c.bit_value.result c.get.ensures.in_range c.bit_value.ensures.in_range))
