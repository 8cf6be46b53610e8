use Rattle.std.proofs.Common.{◌++◌, ◌∷◌, [], false, ap, ◌∙◌, arith, rules}
use Rattle.std.proofs.lemmas.Bool.{false≢true}
use Rattle.camac_branch.specs.Branch.{with_lock}
use Rattle.camac_branch.specs.Crates.{branch_of}
use Rattle.camac_machine.proofs.Leaves.{in_range, is_locked, one_more, release_steps, lock_leaves}
use Rattle.camac_machine.proofs.machine.Machine.release.Goals as goal

pub unlock-requires : goal.unlock-requires
unlock-requires g c = record { locked = rw c.in-Some.ensures.kept (is_locked c.args.self.now c.args.crate_no c.requires.room) }

pub overflow_add-self : goal.overflow_add-self
overflow_add-self g c =
    let s = release_steps c.args.self.now c.args.crate_no c.requires.room c.requires.fine in
    let r = c.requires.room.steps in omega arith

pub push-requires : goal.push-requires
push-requires g c =
    let one = one_more c.args.self.now c.args.crate_no c.requires.room in (search rules, one)

pub unreachable-requires : goal.unreachable-requires
unreachable-requires g c = absurd (false≢true (c.in-None.ensures.in_range.1 (in_range c.args.self.now c.args.crate_no c.requires.room)))

pub returns : goal.returns
returns g c =
    let h = c.args.self.now in
    lock_leaves h c.args.crate_no c.requires.room c.unlock.new.branch c.push.new.self
    (c.unlock.ensures.next ∙ ap (λ k. with_lock k false (branch_of h.branch)) c.in-Some.ensures.kept)
    (c.push.ensures.items ∙ ap (λ k. h.unlocks.items ++ k ∷ []) c.in-Some.ensures.kept)
