use Rattle.std.proofs.Common.{◌≡◌, ◌<◌, ◌-◌, ◌^◌, drop, bit_or}
use Rattle.camac_branch.specs.Branch.{enabled_bits}
use Rattle.camac_branch.specs.Crates.{branch_of}
use Rattle.camac_branch.proofs.branch.enabled_bits.Given as goal

abbrev pub invariant-crates : goal.invariant-crates
invariant-crates l =
    record {
      so_far : bit_or l.bits (enabled_bits (branch_of l.branch) l.number (drop (l.number - 1) l.plan.crates)) ≡ enabled_bits (branch_of l.branch) 1 l.plan.crates;
      in_range : l.bits < 2 ^ 24;
    }
