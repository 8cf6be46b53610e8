use Rattle.std.proofs.Common.{◌≡◌, ◌∙◌, None, Some, sym}
use Rattle.std.specs.Prelude.{slice_index_or}
use Rattle.camac_lang.specs.View.{expression_of}
use Rattle.camac_run.proofs.Steps.{control_makes, map_some, read_makes, write_makes}
use Rattle.camac_run.proofs.sure.single.Goals as goal

pub returns-in-NoData-clause-sure : goal.returns-in-NoData-clause-sure
returns-in-NoData-clause-sure c =
    let there : slice_index_or c.args.registers.now c.args.action.now.register None ≡ Some c.in_ok-at.at = sym c.at_place.ensures ∙ c.in_ok-at.was in
    map_some c.command_at.result _ _
    (λ k is c'. rw c.in-NoData.is (control_makes c' c.args.variables.now c.args.registers.now k c.args.action.now.spot c.args.action.now.size c.args.action.now.function c.args.action.now.register c.in_ok-at.at there is)) c.command_at.ensures.sure

pub returns-in-Into-clause-sure : goal.returns-in-Into-clause-sure
returns-in-Into-clause-sure c =
    let there : slice_index_or c.args.registers.now c.args.action.now.register None ≡ Some c.in_ok-at.at = sym c.at_place.ensures ∙ c.in_ok-at.was in
    map_some c.command_at-in-Into.result _ _
    (λ k is c'. rw (c.in-Into.is, c.note.ensures) (read_makes c' c.args.variables.now c.args.registers.now k c.args.action.now.spot c.args.action.now.size c.args.action.now.function c.args.action.now.register c.in_ok-at.at there c.in-Into.variable is)) c.command_at-in-Into.ensures.sure

pub returns-in_ok-word-in-From-clause-sure : goal.returns-in_ok-word-in-From-clause-sure
returns-in_ok-word-in-From-clause-sure c =
    let there : slice_index_or c.args.registers.now c.args.action.now.register None ≡ Some c.in_ok-at.at = sym c.at_place.ensures ∙ c.in_ok-at.was in
    map_some c.command_at-in-From.result _ _
    (λ k is c'. rw c.in-From.is (write_makes c' c.args.variables.now c.args.registers.now k c.args.action.now.spot c.args.action.now.size c.args.action.now.function c.args.action.now.register c.in_ok-at.at there (expression_of c.in-From.value) c.in_ok-word-in-From.word c.in_ok-word-in-From.ensures.sure.0 c.in_ok-word-in-From.ensures.sure.1 is)) c.command_at-in-From.ensures.sure
