use Rattle.std.proofs.Common.{◌≡◌, ◌++◌, [], ◌∷◌, rules, refl, sym, ap, subst, arith}
use Rattle.std.proofs.lemmas.Bool.{false≢true}
use Rattle.std.specs.Prelude.{None}
use Rattle.camac_lang.specs.Tree.{Block}
use Rattle.camac_lang.specs.View.{statements_of}
use Rattle.camac_machine.specs.declared.machine.Machine.{Machine}
use Rattle.camac_machine.specs.MachineState.{state_of, owner_in, opens_in, FineThen, HasRoomFor, Advances}
use Rattle.camac_machine.specs.Rest.{owed, left_of}
use Rattle.camac_machine.proofs.Frames.{room_popped, goes_popped, advances_soon, fine_along}
use Rattle.camac_machine.proofs.machine.Machine.pop_block.Goals as goal

pub leave-requires : goal.leave-requires
leave-requires g c =
    let h = c.args.self.now in
    let frame = c.in-Some.frame in
    let was : h.frames.items ≡ c.pop.new.self.items ++ frame ∷ [] = c.in-Some.ensures.items in
    let o = owner_in h frame.owner in
    let mid : Machine g.row.V g.row.DEPTH g.row.CAP = record h { frames = c.pop.new.self } in
    let e = ap statements_of (c.requires.over c.pop.new.self.items frame was) in
    let P : Block → Type 0 = λ b. HasRoomFor mid (opens_in mid ++ record { block = b; owner = o } ∷ []) in
    let F : Block → Type 0 = λ b. FineThen mid (λ k. left_of k (record { block = b; owner = o })) in (
      search rules,
      (
        subst P e (room_popped h frame c.pop.new.self was c.requires.room),
        subst F e (λ answers. fine_along mid h refl refl _ _ (sym (goes_popped h frame c.pop.new.self was (state_of h answers))) (c.requires.fine answers)),
      ),
    )

pub unreachable-requires : goal.unreachable-requires
unreachable-requires g c =
    let open' = c.requires.open in
    false≢true (c.in-None.ensures.variant.1 (omega (arith, open')))

pub returns : goal.returns
returns g c =
    let h = c.args.self.now in
    let frame = c.in-Some.frame in
    let was : h.frames.items ≡ c.pop.new.self.items ++ frame ∷ [] = c.in-Some.ensures.items in
    let o = owner_in h frame.owner in
    let mid : Machine g.row.V g.row.DEPTH g.row.CAP = record h { frames = c.pop.new.self } in
    let e = ap statements_of (c.requires.over c.pop.new.self.items frame was) in
    let A : Block → Type 0 = λ b. Advances 2 mid (λ k. left_of k (record { block = b; owner = o })) None c.leave.new.self in
    record { before = c.pop.new.self.items; last = frame; was = was; advances = subst A (sym e) (advances_soon mid (λ k. owed k o) None c.leave.new.self c.leave.ensures) }
