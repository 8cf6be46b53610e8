use Rattle.std.proofs.Common.{◌≡◌, ◌+◌, ◌-◌, ◌<◌, suc, length, arith}
use Rattle.std.specs.Vec.{vec_len}
use Rattle.camac_check_known.proofs.Steps.{write_filled}
use Rattle.camac_check_known.proofs.known.put_past.Goals as goal

pub returns-clause-ok : goal.returns-clause-ok
returns-clause-ok g c =
    let a = c.args in
    let next : c.in-Some.end ≡ suc a.place = omega arith in
    let more = c.in-Some.end - vec_len a.items.now in
    let short : length a.items.now.items < c.in-Some.end = omega arith in
    let full : length a.items.now.items + more ≡ c.in-Some.end = omega arith in
    write_filled a.filler a.items.now.items c.resize.new.self.items a.place c.in-Some.end more a.value c.in_ok-resize.ensures.items next full short
