use Rattle.std.proofs.Common.{◌≡◌, ◌*◌, drop}
use Rattle.camac_c.specs.Ahead.{numbers_ahead, numbers_behind}
use Rattle.camac_c.specs.Filled.{filled_words}
use Rattle.camac_c.proofs.Over.{filled_from}
use Rattle.camac_c.proofs.ahead.tell_members.Given as goal

abbrev pub invariant-members : goal.invariant-members
invariant-members l =
    let plan = l.checked.plan in
    filled_from (60 * l.i) (numbers_behind plan l.runner l.locks (drop l.i l.members)) l.bytes ≡ filled_words (numbers_ahead plan l.runner l.members) l.fn.bytes
