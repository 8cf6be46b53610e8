use Rattle.std.proofs.Common.{◌≡◌, ◌∙◌, ◌<◌, ◌≤◌, ℕ, ◌*◌, length, map, ap, sym, arith}
use Rattle.std.proofs.Math.ListN.{get_or-map}
use Rattle.std.proofs.lemmas.List.{length-map}
use Rattle.camac_c.specs.Ahead.{locks_in, of_none}
use Rattle.camac_c.specs.Told.{counted}
use Rattle.camac_c.proofs.Over.{member_more, members_all, numbers_length}
use Rattle.camac_c.proofs.ahead.tell_back.Goals as goal

pub operations-preserved : goal.operations-preserved
operations-preserved c =
    let back = c.args.back.now in
    let o = c.index-back-i.result in
    let less : c.operations.i < length (map of_none back) = omega (arith, length-map back of_none, c.operations-test.true) in
    let is = get_or-map of_none back c.operations.i o ∙ ap of_none (sym c.index-back-i.is) in
    member_more c.args.checked.now.plan c.args.runner.now c.operations.i c.operations.locks c.lock.new.locks (map of_none back) (of_none o) (of_none o) c.operations.bytes c.tell_member.new.bytes _ less is
    c.operations.invariant c.tell_member.ensures c.lock.ensures

pub returns : goal.returns
returns c =
    let plan = c.args.checked.now.plan in
    let h = c.args.runner.now in
    let ms = map of_none c.args.back.now in
    let all : length ms ≤ c.operations.i = omega (arith, length-map c.args.back.now of_none, c.operations-test.false) in
    let count = numbers_length plan h ms (locks_in h) ∙ ap (λ (n : ℕ). 15 * n) (length-map c.args.back.now of_none) in (
      members_all plan h c.operations.i c.operations.locks ms c.operations.bytes _ all c.operations.invariant,
      c.counted.ensures ∙ ap counted (sym count),
    )
