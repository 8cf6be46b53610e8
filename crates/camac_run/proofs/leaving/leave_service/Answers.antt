use Rattle.std.proofs.Common.{◌++◌, ◌∷◌, [], List, ℕ, length, length-append, refl, ap, ◌∙◌, rules, arith}
use Rattle.camac_machine.specs.declared.machine.Machine.{Machine}
use Rattle.camac_run.specs.Locks.{locks_in}
use Rattle.camac_machine.specs.MachineState.{open_in, opens_in}
use Rattle.camac_run.proofs.Early.{room_over, told_on, room_idle, all_told, none_popped}
use Rattle.camac_machine.proofs.Frames.{room_popped}
use Rattle.camac_run.proofs.leaving.leave_service.Goals as goal

pub loop-frame-init : goal.loop-frame-init
loop-frame-init g c = record {
  room = c.requires.room;
  checked = refl;
  told = ap (λ (us : List ℕ). us ++ locks_in (opens_in c.args.machine.now)) c.requires.quiet;
}

pub leave_block-requires : goal.leave_block-requires
leave_block-requires g c =
    let h = c.loop-frame.machine in
    let frame = c.in-Some.frame in
    let mid : Machine g.row.V g.row.DEPTH g.row.CAP = record h { frames = c.pop.new.self } in
    (search rules, room_over mid (opens_in mid) (open_in h frame) (room_popped h frame c.pop.new.self c.in-Some.ensures.items c.loop-frame.invariant.room))

pub loop-frame-preserved : goal.loop-frame-preserved
loop-frame-preserved g c =
    let h = c.loop-frame.machine in
    let v = c.loop-frame.invariant in
    let new = c.leave_block.new.machine in
    let same = c.leave_block.ensures.same in
    record {
      room = c.leave_block.ensures.room;
      checked = ap (λ (m : Machine g.row.V g.row.DEPTH g.row.CAP). m.checked) same ∙ v.checked;
      told = told_on h c.in-Some.frame c.pop.new.self.items c.in-Some.ensures.items new (ap (λ (m : Machine g.row.V g.row.DEPTH g.row.CAP). opens_in m) same) c.leave_block.ensures.told ∙ v.told;
    }

pub loop-frame-smaller : goal.loop-frame-smaller
loop-frame-smaller g c =
    let n = ap (λ (m : Machine g.row.V g.row.DEPTH g.row.CAP). length m.frames.items) c.leave_block.ensures.same in
    let k = ap length c.in-Some.ensures.items ∙ length-append c.pop.new.self.items (c.in-Some.frame ∷ []) in
    omega (arith, n, k)

pub returns-clause-room : goal.returns-clause-room
returns-clause-room g c =
    let h = c.loop-frame.machine in
    let none = none_popped h.frames c.pop.new.self c.pop.result c.in_default.is c.pop.ensures.variant.1 c.pop.ensures.items in
    room_idle h c.args.branch c.pop.new.self none.1 none.0 c.requires.free c.loop-frame.invariant.room

pub returns-clause-idle : goal.returns-clause-idle
returns-clause-idle g c =
    let none = none_popped c.loop-frame.machine.frames c.pop.new.self c.pop.result c.in_default.is c.pop.ensures.variant.1 c.pop.ensures.items in
    none.1

pub returns-clause-released : goal.returns-clause-released
returns-clause-released g c =
    let h = c.loop-frame.machine in
    let none = none_popped h.frames c.pop.new.self c.pop.result c.in_default.is c.pop.ensures.variant.1 c.pop.ensures.items in
    all_told h (locks_in (opens_in c.args.machine.now)) none.0 c.loop-frame.invariant.told
