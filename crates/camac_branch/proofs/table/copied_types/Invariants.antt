use Rattle.std.proofs.Common.{◌≡◌, take}
use Rattle.camac_branch.proofs.table.copied_types.Given as goal

abbrev pub invariant-types : goal.invariant-types
invariant-types l = l.copy.items ≡ take l.kind-index l.types
