use Rattle.std.proofs.Common.{◌≡◌, ◌≤◌, ◌*◌, take}
use Rattle.std.specs.List.{sum_by}
use Rattle.camac_module.specs.Entry.{count_commands, count_probes}
use Rattle.camac_module.specs.Row.{entries_of}
use Rattle.camac_module.proofs.map.CommandMap.counts.Given as goal

abbrev pub invariant-rows : goal.invariant-rows
invariant-rows g l =
    record {
      commands : l.commands ≡ sum_by (λ row. count_commands (entries_of row)) (take l.row-index l.reachable);
      probes : l.probes ≡ sum_by (λ row. count_probes (entries_of row)) (take l.row-index l.reachable);
      few_commands : l.commands ≤ 32 * l.row-index;
      few_probes : l.probes ≤ 32 * l.row-index;
    }
