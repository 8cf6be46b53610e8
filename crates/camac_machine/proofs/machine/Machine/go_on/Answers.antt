use Rattle.std.proofs.Common.{◌≡◌, ◌≤◌, List, rules, ap, sym, subst, ◌∙◌, length}
use Rattle.std.specs.Prelude.{Some, None}
use Rattle.camac_branch.specs.Branch.{Answer}
use Rattle.arrayvec.specs.ArrayVec.{ArrayVec, with_items}
use Rattle.camac_machine.specs.declared.machine.Frame.{Frame}
use Rattle.camac_machine.specs.MachineState.{stands, IsFineHere, HasRoom, LastIsOver, wanted_if, GoesOn}
use Rattle.camac_machine.proofs.Firsts.{first_whole, first_room, first_fine, first_goes}
use Rattle.camac_machine.proofs.Standing.{stands_first}
use Rattle.camac_machine.proofs.Lists.{filled}
use Rattle.camac_machine.proofs.machine.Machine.go_on.Goals as goal

pub begin-waits-requires : goal.begin-waits-requires
begin-waits-requires g c =
    let h = c.args.self.now in
    let first = c.in-Some.first.now in
    let fs : ArrayVec Frame = with_items h.frames c.next_statement.new.frames in
    let t = first_whole h.frames.items c.as_mut_slice.result.now c.next_statement.new.frames first c.as_mut_slice.ensures.value c.in-Some.ensures.begun in
    let room = first_room h first fs t c.requires.room in (search rules, (room.0, (room.1, first_fine h first fs t c.requires.fine)))

pub returns-then-waits-clause-goes : goal.returns-then-waits-clause-goes
returns-then-waits-clause-goes g c =
    let h = c.args.self.now in
    let first = c.in-Some.first in
    let b = c.begin-waits in
    let fs : ArrayVec Frame = with_items h.frames c.next_statement.new.frames in
    let t = first_whole h.frames.items c.as_mut_slice.result.now c.next_statement.new.frames first.now c.as_mut_slice.ensures.value c.in-Some.ensures.begun in
    first_goes h first.now fs t (wanted_if b.result b.new.pending) b.new.self (Some first) b.ensures.advances b.ensures.pace

pub returns-then-waits-clause-begun : goal.returns-then-waits-clause-begun
returns-then-waits-clause-begun g c = λ yes.
    let h = c.args.self.now in
    let fs : ArrayVec Frame = with_items h.frames c.next_statement.new.frames in
    stands_first (record h { frames = fs }) c.begin-waits.new.self c.in-Some.first c.begin-waits.new.pending c.begin-waits.ensures.advances.checked (c.begin-waits.ensures.wants yes)

pub returns-else-waits-clause-goes : goal.returns-else-waits-clause-goes
returns-else-waits-clause-goes g c =
    let h = c.args.self.now in
    let first = c.in-Some.first in
    let b = c.begin-waits in
    let fs : ArrayVec Frame = with_items h.frames c.next_statement.new.frames in
    let t = first_whole h.frames.items c.as_mut_slice.result.now c.next_statement.new.frames first.now c.as_mut_slice.ensures.value c.in-Some.ensures.begun in
    first_goes h first.now fs t (wanted_if b.result b.new.pending) b.new.self b.new.self.begun b.ensures.advances b.ensures.pace

pub close-requires : goal.close-requires
close-requires g c =
    let h = c.args.self.now in
    let same : c.next_statement.new.frames ≡ h.frames.items = c.in-None.ensures.over.1 ∙ c.as_mut_slice.ensures.value in
    let fs : ArrayVec Frame = with_items h.frames c.next_statement.new.frames in
    let back : fs ≡ h.frames = ap (λ (gs : List Frame). record { items = gs }) (filled h.frames.items c.next_statement.new.frames (ap length same) ∙ same) in
    let P : ArrayVec Frame → Type 0 = λ gs. HasRoom (record h { frames = gs }) × (1 ≤ length gs.items) × LastIsOver gs.items × ((answers : List Answer) → IsFineHere (record h { frames = gs }) (stands None (record h { frames = gs }) answers)) in
    let k = subst P (sym back) (c.requires.room, c.requires.open, subst (λ gs. LastIsOver gs) c.as_mut_slice.ensures.value c.in-None.ensures.over.0, c.requires.fine) in
    (search rules, (k.0, (k.1, (k.2, k.3))))

pub returns-in-None-clause-goes : goal.returns-in-None-clause-goes
returns-in-None-clause-goes g c =
    let h = c.args.self.now in
    let same : c.next_statement.new.frames ≡ h.frames.items = c.in-None.ensures.over.1 ∙ c.as_mut_slice.ensures.value in
    let fs : ArrayVec Frame = with_items h.frames c.next_statement.new.frames in
    let back : fs ≡ h.frames = ap (λ (gs : List Frame). record { items = gs }) (filled h.frames.items c.next_statement.new.frames (ap length same) ∙ same) in
    subst (λ gs. GoesOn (record h { frames = gs }) None c.close.new.self) back c.close.ensures
