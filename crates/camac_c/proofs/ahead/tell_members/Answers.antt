use Rattle.std.proofs.Common.{◌∙◌, ap, sym}
use Rattle.camac_c.specs.Ahead.{locks_in}
use Rattle.camac_c.specs.Told.{counted}
use Rattle.camac_c.proofs.Over.{member_more, members_all, numbers_length}
use Rattle.camac_c.proofs.ahead.tell_members.Goals as goal

pub members-preserved : goal.members-preserved
members-preserved c =
    let m = c.index-members-i.result in
    member_more c.args.checked.now.plan c.args.runner.now c.members.i c.members.locks c.lock.new.locks c.args.members.now m m c.members.bytes c.tell_member.new.bytes _ c.members-test.true
    (sym c.index-members-i.is) c.members.invariant c.tell_member.ensures c.lock.ensures

pub returns : goal.returns
returns c =
    let plan = c.args.checked.now.plan in
    let h = c.args.runner.now in (
      members_all plan h c.members.i c.members.locks c.args.members.now c.members.bytes _ c.members-test.false c.members.invariant,
      c.counted.ensures ∙ ap counted (sym (numbers_length plan h c.args.members.now (locks_in h))),
    )
