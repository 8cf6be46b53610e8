use Rattle.std.proofs.Common.{◌≡◌, ◌∙◌, ℕ, set, Option, None, Some, sym, subst}
use Rattle.std.specs.Prelude.{slice_index_or}
use Rattle.camac_lang.specs.Tree.{q_stop}
use Rattle.camac_lang.specs.View.{expression_of}
use Rattle.camac_run.specs.Sure.{MakesBlock}
use Rattle.camac_run.specs.Transfer.{left_by}
use Rattle.camac_run.proofs.Begun.{q_stop_makes}
use Rattle.camac_run.proofs.Operation.{not_some}
use Rattle.camac_run.proofs.Steps.{map_some}
use Rattle.camac_run.proofs.blocks.q_stop_block.Goals as goal

pub returns : goal.returns
returns c =
    let s = c.args.block.now in
    let known = c.args.variables.now in
    let registers = c.args.registers.now in
    let max = expression_of s.max in
    let none : s.table ≡ None = not_some s.table (sym c.is_some.ensures ∙ c.if-is_some.false) in
    let there : slice_index_or registers s.register None ≡ Some c.in_ok-at.at = sym c.at_place.ensures ∙ c.in_ok-at.was in
    map_some c.begun.result _ _
    (λ b is x. rw c.note.ensures
    (subst (λ (table : Option ℕ). MakesBlock x known registers (q_stop s.spot s.function s.register table max s.tally) (left_by b) (set known s.tally None)) (sym none)
    (q_stop_makes x known registers s.function s.tally s.spot c.in_ok-at.at s.register there max c.in_ok-max.max c.in_ok-max.ensures.sure b is)))
    c.begun.ensures
