use Rattle.std.proofs.Common.{◌++◌, ◌∷◌, [], false, refl, ap, ◌∙◌, sym, rules}
use Rattle.std.proofs.lemmas.Bool.{false≢true}
use Rattle.std.proofs.lemmas.List.{append-nil}
use Rattle.camac_branch.specs.Branch.{with_lock}
use Rattle.camac_branch.specs.Crates.{branch_of}
use Rattle.camac_run.proofs.Early.{room_released}
use Rattle.camac_machine.proofs.Leaves.{in_range, is_locked, one_more, room_left, return_leaves}
use Rattle.camac_run.proofs.leaving.leave_block.Goals as goal

pub unlock-requires : goal.unlock-requires
unlock-requires g c = record { locked = rw c.in-Some.ensures.kept (is_locked c.args.machine.now c.in-Locked.crate_no (rw c.in-Locked.is at c.requires.room)) }

pub push-requires : goal.push-requires
push-requires g c =
    let one = one_more c.args.machine.now c.in-Locked.crate_no (rw c.in-Locked.is at c.requires.room) in (search rules, one)

pub unreachable-requires : goal.unreachable-requires
unreachable-requires g c = absurd (false≢true (c.in-None.ensures.in_range.1 (in_range c.args.machine.now c.in-Locked.crate_no (rw c.in-Locked.is at c.requires.room))))

pub returns-in-Some-clause-room : goal.returns-in-Some-clause-room
returns-in-Some-clause-room g c =
    let h = c.args.machine.now in
    room_released h c.in-Locked.crate_no (rw c.in-Locked.is at c.requires.room) c.unlock.new.branch c.push.new.self
    (c.unlock.ensures.next ∙ ap (λ k. with_lock k false (branch_of h.branch)) c.in-Some.ensures.kept)
    (c.push.ensures.items ∙ ap (λ k. h.unlocks.items ++ k ∷ []) c.in-Some.ensures.kept)

pub returns-in-Some-clause-told : goal.returns-in-Some-clause-told
returns-in-Some-clause-told g c = rw c.in-Locked.is (c.push.ensures.items ∙ ap (λ k. c.args.machine.now.unlocks.items ++ k ∷ []) c.in-Some.ensures.kept)

pub returns-in-Return-clause-room : goal.returns-in-Return-clause-room
returns-in-Return-clause-room g c = (return_leaves c.args.machine.now c.in-Return.caller _ _ refl refl (rw c.in-Return.is at c.requires.room)).room

pub returns-in-Return-clause-told : goal.returns-in-Return-clause-told
returns-in-Return-clause-told g c = rw c.in-Return.is (sym (append-nil c.args.machine.now.unlocks.items))

pub returns-in-Plain-clause-room : goal.returns-in-Plain-clause-room
returns-in-Plain-clause-room g c = room_left c.args.machine.now _ refl (λ k. refl) (rw c.in-Plain.is at c.requires.room)

pub returns-in-Plain-clause-told : goal.returns-in-Plain-clause-told
returns-in-Plain-clause-told g c = rw c.in-Plain.is (sym (append-nil c.args.machine.now.unlocks.items))

pub returns-in-For-clause-room : goal.returns-in-For-clause-room
returns-in-For-clause-room g c = room_left c.args.machine.now _ refl (λ k. refl) (rw c.in-For.is at c.requires.room)

pub returns-in-For-clause-told : goal.returns-in-For-clause-told
returns-in-For-clause-told g c = rw c.in-For.is (sym (append-nil c.args.machine.now.unlocks.items))

pub returns-in-While-clause-room : goal.returns-in-While-clause-room
returns-in-While-clause-room g c = room_left c.args.machine.now _ refl (λ k. refl) (rw c.in-While.is at c.requires.room)

pub returns-in-While-clause-told : goal.returns-in-While-clause-told
returns-in-While-clause-told g c = rw c.in-While.is (sym (append-nil c.args.machine.now.unlocks.items))
