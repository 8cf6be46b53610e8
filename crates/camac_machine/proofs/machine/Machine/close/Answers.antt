use Rattle.std.proofs.Common.{◌≡◌, ◌≤◌, List, length, rules, sym, ap, subst, ◌∙◌, arith}
use Rattle.std.specs.Prelude.{None}
use Rattle.arrayvec.specs.ArrayVec.{ArrayVec, with_items}
use Rattle.camac_branch.specs.Branch.{Answer}
use Rattle.camac_machine.specs.declared.machine.Frame.{Frame}
use Rattle.camac_machine.specs.declared.machine.Machine.{Machine}
use Rattle.camac_machine.specs.MachineState.{stands, IsFineHere, HasRoom, LastIsOver, GoesOn}
use Rattle.camac_machine.proofs.Lists.{filled}
use Rattle.camac_machine.proofs.Turns.{turn_whole, turn_sets, turn_room, turn_steps, turn_goes_on}
use Rattle.camac_machine.proofs.machine.Machine.close.Goals as goal

pub set_variable-requires : goal.set_variable-requires
set_variable-requires g c =
    let h = c.args.self.now in
    let x = c.in-Some.variable in
    let v = c.in-Some.value in
    let fs : ArrayVec Frame = with_items h.frames c.next_turn.new.frames in
    let t = turn_whole h.frames.items c.as_mut_slice.result.now c.next_turn.new.frames x v c.as_mut_slice.ensures.value c.in-Some.ensures.turn in
    (search, (turn_room h x v fs t c.requires.over c.requires.room c.requires.fine, turn_sets h x v fs t c.requires.over c.requires.room c.requires.fine))

pub overflow_add-self : goal.overflow_add-self
overflow_add-self g c =
    let h = c.args.self.now in
    let x = c.in-Some.variable in
    let v = c.in-Some.value in
    let fs : ArrayVec Frame = with_items h.frames c.next_turn.new.frames in
    let t = turn_whole h.frames.items c.as_mut_slice.result.now c.next_turn.new.frames x v c.as_mut_slice.ensures.value c.in-Some.ensures.turn in
    let s = turn_steps h x v fs t c.requires.over c.requires.room c.requires.fine in
    let n = ap (λ (m : Machine g.row.V g.row.DEPTH g.row.CAP). m.steps) c.set_variable.ensures.same in
    let r = c.requires.room.steps in omega (arith, n, s, r)

pub returns-in-Some : goal.returns-in-Some
returns-in-Some g c =
    let h = c.args.self.now in
    let x = c.in-Some.variable in
    let v = c.in-Some.value in
    let fs : ArrayVec Frame = with_items h.frames c.next_turn.new.frames in
    let t = turn_whole h.frames.items c.as_mut_slice.result.now c.next_turn.new.frames x v c.as_mut_slice.ensures.value c.in-Some.ensures.turn in
    turn_goes_on h x v fs t c.requires.over c.requires.room c.requires.fine c.set_variable.new.self c.set_variable.ensures.same c.set_variable.ensures.room

pub end_block-requires : goal.end_block-requires
end_block-requires g c =
    let h = c.args.self.now in
    let same : c.next_turn.new.frames ≡ h.frames.items = c.in-None.ensures.none ∙ c.as_mut_slice.ensures.value in
    let fs : ArrayVec Frame = with_items h.frames c.next_turn.new.frames in
    let back : fs ≡ h.frames = ap (λ (gs : List Frame). record { items = gs }) (filled h.frames.items c.next_turn.new.frames (ap length same) ∙ same) in
    let P : ArrayVec Frame → Type 0 = λ gs. HasRoom (record h { frames = gs }) × (1 ≤ length gs.items) × LastIsOver gs.items × ((answers : List Answer) → IsFineHere (record h { frames = gs }) (stands None (record h { frames = gs }) answers)) in
    let k = subst P (sym back) (c.requires.room, c.requires.open, c.requires.over, c.requires.fine) in
    (search rules, (k.0, (k.1, (k.2, k.3))))

pub returns-in-None : goal.returns-in-None
returns-in-None g c =
    let h = c.args.self.now in
    let same : c.next_turn.new.frames ≡ h.frames.items = c.in-None.ensures.none ∙ c.as_mut_slice.ensures.value in
    let fs : ArrayVec Frame = with_items h.frames c.next_turn.new.frames in
    let back : fs ≡ h.frames = ap (λ (gs : List Frame). record { items = gs }) (filled h.frames.items c.next_turn.new.frames (ap length same) ∙ same) in
    subst (λ gs. GoesOn (record h { frames = gs }) None c.end_block.new.self) back c.end_block.ensures
