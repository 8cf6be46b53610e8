use Rattle.std.proofs.Common.{◌<◌, ◌-◌, arith}
use Rattle.std.proofs.lemmas.Nat.{one_shl}
use Rattle.std.proofs.Math.Pow.{pow-lt}
use Rattle.camac_branch.proofs.table.bit_value.Goals as goal

pub returns-in-Some-clause-in_range : goal.returns-in-Some-clause-in_range
returns-in-Some-clause-in_range c =
    let (from, to) = c.get.ensures.in_range in
    let few : c.get.result - 1 < 24 = omega (arith, from, to) in
    rw (one_shl (c.get.result - 1) 32 (omega (arith, few))) (pow-lt few)
