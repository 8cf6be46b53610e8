use Rattle.std.proofs.Common.{◌≡◌, ◌∙◌, None, Some, sym}
use Rattle.std.specs.Prelude.{slice_index_or}
use Rattle.camac_lang.specs.View.{expression_of}
use Rattle.camac_run.proofs.Begun.{scan_makes}
use Rattle.camac_run.proofs.Steps.{map_some}
use Rattle.camac_run.proofs.blocks.scan_block.Goals as goal

pub returns : goal.returns
returns c =
    let s = c.args.scan.now in
    let first = c.in_ok-first.first in
    let last = c.in_ok-last.last in
    let there : slice_index_or c.args.registers.now s.first None ≡ Some first = sym c.at_place.ensures ∙ c.in_ok-first.was in
    let there' : slice_index_or c.args.registers.now s.last None ≡ Some last = sym c.at_place-2.ensures ∙ c.in_ok-last.was in
    map_some c.begun.result _ _
    (λ b is x. rw c.note.ensures
    (scan_makes x c.args.variables.now c.args.registers.now s.function s.tally s.spot first s.first s.last (expression_of s.max) c.in_ok-max.max last b there there' c.in_ok-max.ensures.sure (sym c.is_same_crate.ensures ∙ c.if-not-is_same_crate.false) (rw c.window-cycles.ensures at is)))
    c.begun.ensures
