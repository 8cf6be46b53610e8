use Rattle.std.proofs.Common.{◌≡◌, ◌≤◌, ◌+◌, ◌*◌, ◌++◌, drop, take, length}
use Rattle.camac_report.specs.Items.{unlock_texts}
use Rattle.camac_report.proofs.item.unlocks_in.Given as goal

abbrev pub invariant-unlocks : goal.invariant-unlocks
invariant-unlocks l = record {
  written : take l.start l.initial.bytes ++ unlock_texts l.unlocks ≡ take l.end l.bytes ++ unlock_texts (drop l.c-index l.unlocks);
  end : l.end ≤ l.start + 18 * l.c-index;
  len : length l.bytes ≡ length l.initial.bytes;
}
