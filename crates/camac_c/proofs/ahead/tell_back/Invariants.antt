use Rattle.std.proofs.Common.{◌≡◌, ◌*◌, drop, map}
use Rattle.camac_c.specs.Ahead.{numbers_ahead, numbers_behind, of_none}
use Rattle.camac_c.specs.Filled.{filled_words}
use Rattle.camac_c.proofs.Over.{filled_from}
use Rattle.camac_c.proofs.ahead.tell_back.Given as goal

abbrev pub invariant-operations : goal.invariant-operations
invariant-operations l =
    let plan = l.checked.plan in
    let ms = map of_none l.back in
    filled_from (60 * l.i) (numbers_behind plan l.runner l.locks (drop l.i ms)) l.bytes ≡ filled_words (numbers_ahead plan l.runner ms) l.fn.bytes
