use Rattle.std.proofs.Common.{◌+◌, ◌-◌, [], sym}
use Rattle.std.specs.Prelude.{None}
use Rattle.camac_lang.specs.Tree.{for_, on_line}
use Rattle.camac_lang.specs.View.{expression_of, statements_of}
use Rattle.camac_model.specs.Fine.{most_turns}
use Rattle.camac_model.specs.Meaning.{effect, for_from, block_meaning}
use Rattle.camac_model.specs.Value.{value}
use Rattle.camac_machine.specs.MachineState.{variables_here}
use Rattle.camac_machine.proofs.Actions.{has_value, known}
use Rattle.camac_machine.proofs.Loops.{fine_as, advances_as, from_to}
use Rattle.camac_machine.proofs.machine.Machine.begin_for.Goals as goal

pub value_of-first-requires : goal.value_of-first-requires
value_of-first-requires g c =
    (search, (c.requires.room, (c.requires.fits.1, has_value c.args.self.now (expression_of c.args.head.now.from) _ (c.requires.fine []))))

pub value_of-last-requires : goal.value_of-last-requires
value_of-last-requires g c =
    let h = c.args.self.now in
    let has = has_value h (expression_of c.args.head.now.to) _
    (known h (value (expression_of c.args.head.now.from) (variables_here h)) c.value_of-first.result _ [] c.value_of-first.ensures (c.requires.fine [])) in
    (search, (c.requires.room, (c.requires.fits.2, has)))

pub begin_from-requires : goal.begin_from-requires
begin_from-requires g c =
    let h = c.args.self.now in
    let x = c.args.head.now.variable in
    let e1 = expression_of c.args.head.now.from in
    let e2 = expression_of c.args.head.now.to in
    let b = statements_of c.args.body.now in
    let v = c.value_of-first.result in
    let w = c.value_of-last.result in (
      search,
      (
        c.requires.room,
        (
          c.requires.fits.0,
          (
            (c.requires.fits.3, c.requires.fits.4),
            fine_as h (λ k. effect k most_turns (for_ (on_line 0) x e1 e2 [] b)) (λ k. for_from (w + 1 - v) most_turns x v w (block_meaning k most_turns b))
                (from_to h x e1 e2 b v w c.value_of-first.ensures c.value_of-last.ensures) c.requires.fine,
          ),
        ),
      ),
    )

pub returns : goal.returns
returns g c =
    let h = c.args.self.now in
    let x = c.args.head.now.variable in
    let e1 = expression_of c.args.head.now.from in
    let e2 = expression_of c.args.head.now.to in
    let b = statements_of c.args.body.now in
    let v = c.value_of-first.result in
    let w = c.value_of-last.result in
    advances_as h (λ k. for_from (w + 1 - v) most_turns x v w (block_meaning k most_turns b)) (λ k. effect k most_turns (for_ (on_line 0) x e1 e2 [] b)) None c.begin_from.new.self
    (λ answers. sym (from_to h x e1 e2 b v w c.value_of-first.ensures c.value_of-last.ensures answers)) c.begin_from.ensures
