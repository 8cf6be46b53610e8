use Rattle.std.proofs.Common.{◌-◌, List, length, take, drop, false, true, refl, sym, subst}
use Rattle.camac_lang.specs.View.{statements_of}
use Rattle.camac_model.specs.Fine.{most_turns}
use Rattle.camac_model.specs.Meaning.{block_meaning}
use Rattle.camac_machine.specs.MachineState.{context_in, opens_of, owner_in}
use Rattle.camac_machine.specs.Rest.{owed, rest_in}
use Rattle.camac_machine.specs.declared.machine.Frame.{Frame}
use Rattle.camac_run.specs.Sure.{Adds}
use Rattle.camac_run.proofs.Around.{adds_no_after, adds_no_block, adds_outer, in_all, innermost_is}
use Rattle.camac_run.proofs.Making.{adds_unknown}
use Rattle.camac_run.proofs.ahead.+add_open.Goals as goal

pub returns-in_default : goal.returns-in_default
returns-in_default g t c =
    let h = c.args.machine.now in
    adds_unknown h.checked.now.plan c.args.known.now c.args.known.now (rest_in (context_in h.checked.now) (opens_of h.variables h.registers c.args.frames.now)) c.args.coming.now.ahead.items c.args.coming.now.ahead.items refl

pub returns-then-not-add_block : goal.returns-then-not-add_block
returns-then-not-add_block g t c =
    let h = c.args.machine.now in
    let x = context_in h.checked.now in
    let fs = c.args.frames.now in
    let last = c.innermost-item.result in
    let b = c.of_all-inside.result in
    let k = c.add_block.new.known in
    let old = c.args.coming.now.ahead.items in
    let mid = c.add_block.new.coming.ahead.items in
    subst (λ (l : List Frame). Adds h.checked.now.plan (rest_in x (opens_of h.variables h.registers l)) c.args.known.now old false k mid) (sym (innermost_is fs last c.in-len1-up.len_at_least c.innermost-item.is))
    (adds_no_block x h.variables h.registers (take (length fs - 1) (drop 0 fs)) last c.args.known.now k k k old mid mid mid
    (in_all b h.checked (λ y. block_meaning y most_turns (statements_of last.rest.now)) c.args.known.now k old mid c.add_block.result false c.of_all-inside.ensures.checked c.of_all-inside.ensures.context c.if-not-add_block.true c.add_block.ensures))

pub returns-then-not-add_after : goal.returns-then-not-add_after
returns-then-not-add_after g t c =
    let h = c.args.machine.now in
    let x = context_in h.checked.now in
    let fs = c.args.frames.now in
    let last = c.innermost-item.result in
    let b = c.of_all-inside.result in
    let k = c.add_block.new.known in
    let k2 = c.add_after.new.known in
    let old = c.args.coming.now.ahead.items in
    let mid = c.add_block.new.coming.ahead.items in
    let new = c.add_after.new.coming.ahead.items in
    subst (λ (l : List Frame). Adds h.checked.now.plan (rest_in x (opens_of h.variables h.registers l)) c.args.known.now old false k2 new) (sym (innermost_is fs last c.in-len1-up.len_at_least c.innermost-item.is))
    (adds_no_after x h.variables h.registers (take (length fs - 1) (drop 0 fs)) last c.args.known.now k k2 k2 old new mid mid
    (in_all b h.checked (λ y. block_meaning y most_turns (statements_of last.rest.now)) c.args.known.now k old mid c.add_block.result true c.of_all-inside.ensures.checked c.of_all-inside.ensures.context c.if-not-add_block.false c.add_block.ensures)
    (in_all b h.checked (λ y. owed y (owner_in h last.owner)) k k2 mid new c.add_after.result false c.of_all-inside.ensures.checked c.of_all-inside.ensures.context c.if-not-add_after.true c.add_after.ensures))

pub returns-else-not-add_after : goal.returns-else-not-add_after
returns-else-not-add_after g t c =
    let h = c.args.machine.now in
    let x = context_in h.checked.now in
    let fs = c.args.frames.now in
    let last = c.innermost-item.result in
    let b = c.of_all-inside.result in
    let k = c.add_block.new.known in
    let k2 = c.add_after.new.known in
    let k3 = c.add_open.new.known in
    let old = c.args.coming.now.ahead.items in
    let mid = c.add_block.new.coming.ahead.items in
    let mid2 = c.add_after.new.coming.ahead.items in
    let new = c.add_open.new.coming.ahead.items in
    subst (λ (l : List Frame). Adds h.checked.now.plan (rest_in x (opens_of h.variables h.registers l)) c.args.known.now old false k3 new) (sym (innermost_is fs last c.in-len1-up.len_at_least c.innermost-item.is))
    (adds_outer x h.variables h.registers (take (length fs - 1) (drop 0 fs)) last c.args.known.now k k2 k3 old new mid mid2
    (in_all b h.checked (λ y. block_meaning y most_turns (statements_of last.rest.now)) c.args.known.now k old mid c.add_block.result true c.of_all-inside.ensures.checked c.of_all-inside.ensures.context c.if-not-add_block.false c.add_block.ensures)
    (in_all b h.checked (λ y. owed y (owner_in h last.owner)) k k2 mid mid2 c.add_after.result true c.of_all-inside.ensures.checked c.of_all-inside.ensures.context c.if-not-add_after.false c.add_after.ensures)
    c.add_open.ensures)
