use Rattle.std.proofs.Common.{◌≡◌, ◌++◌, List, [], ◌∷◌, refl, sym, ap, subst, ◌∙◌}
use Rattle.std.specs.Prelude.{None}
use Rattle.camac_lang.specs.Tree.{Block}
use Rattle.camac_lang.specs.View.{statements_of}
use Rattle.camac_machine.specs.declared.machine.Frame.{Frame}
use Rattle.camac_machine.specs.declared.machine.Machine.{Machine}
use Rattle.camac_machine.specs.declared.machine.Owner.TheVariants.{Return}
use Rattle.camac_machine.specs.MachineState.{owner_in, opens_in, HasRoomFor, ReturnsTo, Advances}
use Rattle.camac_machine.specs.Rest.{owed, left_of}
use Rattle.camac_machine.specs.Store.{held_at}
use Rattle.camac_machine.proofs.Frames.{room_popped, advances_soon}
use Rattle.camac_machine.proofs.Leaves.{return_leaves}
use Rattle.camac_machine.proofs.Lists.{without_last}
use Rattle.camac_machine.proofs.machine.Machine.end_block.Goals as goal

pub returns-in-Some : goal.returns-in-Some
returns-in-Some g c =
    let h = c.args.self.now in
    let p = c.in-Some.caller.now in
    let fs = c.pop.new.self in
    let t = subst (λ (gs : List Frame). ReturnsTo gs p) c.as_slice.ensures.value c.in-Some.ensures in
    let f : Frame = record { rest = t.rest; owner = Return p } in
    let was : h.frames.items ≡ fs.items ++ f ∷ [] = t.was ∙ ap (λ gs. gs ++ f ∷ []) (sym (c.pop.ensures.rest ∙ without_last t.before f h.frames.items t.was)) in
    let o = owner_in h f.owner in
    let mid : Machine g.row.V g.row.DEPTH g.row.CAP = record h { frames = fs } in
    let e = ap statements_of (c.requires.over fs.items f was) in
    let P : Block → Type 0 = λ b. HasRoomFor mid (opens_in mid ++ record { block = b; owner = o } ∷ []) in
    let A : Block → Type 0 = λ b. Advances 2 mid (λ k. left_of k (record { block = b; owner = o })) None (record mid { scope = p }) in
    record {
      before = fs.items;
      last = f;
      was = was;
      advances =
          subst A (sym e)
          (advances_soon mid (λ k. owed k o) None (record mid { scope = p })
          (return_leaves mid p (held_at p.variables h.variables) (held_at p.registers h.registers) refl refl (subst P e (room_popped h f fs was c.requires.room))));
    }
