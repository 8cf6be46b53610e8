use Rattle.std.proofs.Common.{List, false, refl, subst}
use Rattle.camac_lang.specs.View.{statements_of}
use Rattle.camac_model.specs.Fine.{most_turns}
use Rattle.camac_model.specs.Meaning.{block_meaning}
use Rattle.camac_machine.specs.MachineState.{context_in, opens_of}
use Rattle.camac_machine.specs.Rest.{locks, rest_in}
use Rattle.camac_machine.specs.declared.machine.Frame.{Frame}
use Rattle.camac_run.specs.Sure.{Adds, goes_on_with}
use Rattle.camac_run.proofs.Around.{adds_behind, adds_behind_part, in_all}
use Rattle.camac_run.proofs.Making.{adds_inside, adds_no_release}
use Rattle.camac_run.proofs.ahead.add_locked.Goals as goal

pub returns-then-not-add_block : goal.returns-then-not-add_block
returns-then-not-add_block g c =
    let h = c.args.machine.now in
    let x = context_in h.checked.now in
    let body = statements_of c.args.body.now in
    let k = c.args.known.now in
    let k1 = c.add_block.new.known in
    let old = c.args.coming.now.ahead.items in
    let new = c.add_block.new.coming.ahead.items in
    adds_behind_part h c.args.c body k k1 k1 old new new
    (adds_no_release x c.args.c body k k1 k1 old new false refl
    (in_all c.of_all-inside.result h.checked (λ y. block_meaning y most_turns body) k k1 old new c.add_block.result false c.of_all-inside.ensures.checked c.of_all-inside.ensures.context c.if-not-add_block.true c.add_block.ensures))

pub returns-then-not-release : goal.returns-then-not-release
returns-then-not-release g c =
    let h = c.args.machine.now in
    let x = context_in h.checked.now in
    let body = statements_of c.args.body.now in
    let k = c.args.known.now in
    let k1 = c.add_block.new.known in
    let old = c.args.coming.now.ahead.items in
    let mid = c.add_block.new.coming.ahead.items in
    let new = c.release.new.self.ahead.items in
    let a = in_all c.of_all-inside.result h.checked (λ y. block_meaning y most_turns body) k k1 old mid c.add_block.result c.add_block.result c.of_all-inside.ensures.checked c.of_all-inside.ensures.context refl c.add_block.ensures in
    let b = adds_inside x c.args.c body k k1 k1 old mid new c.add_block.result c.release.result c.if-not-add_block.false a c.release.ensures in
    adds_behind_part h c.args.c body k k1 k1 old new new (subst (λ t. Adds h.checked.now.plan (goes_on_with x (locks c.args.c body)) k old t k1 new) c.if-not-release.true b)

pub returns : goal.returns
returns g c =
    let h = c.args.machine.now in
    let x = context_in h.checked.now in
    let body = statements_of c.args.body.now in
    let k = c.args.known.now in
    let k1 = c.add_block.new.known in
    let old = c.args.coming.now.ahead.items in
    let mid = c.add_block.new.coming.ahead.items in
    let far = c.release.new.self.ahead.items in
    let a = in_all c.of_all-inside.result h.checked (λ y. block_meaning y most_turns body) k k1 old mid c.add_block.result c.add_block.result c.of_all-inside.ensures.checked c.of_all-inside.ensures.context refl c.add_block.ensures in
    let b = adds_inside x c.args.c body k k1 k1 old mid far c.add_block.result c.release.result c.if-not-add_block.false a c.release.ensures in
    let d = subst (λ (fs : List Frame). Adds h.checked.now.plan (rest_in x (opens_of h.variables h.registers fs)) k1 far false c.add_open.new.known c.add_open.new.coming.ahead.items) c.as_slice.ensures.value c.add_open.ensures in
    adds_behind h c.args.c body k k1 c.add_open.new.known old far c.add_open.new.coming.ahead.items c.release.result c.if-not-release.false b d
