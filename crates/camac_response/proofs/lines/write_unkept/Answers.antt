use Rattle.std.proofs.Common.{◌∙◌, ◌≤◌, refl, length, ap, arith}
use Rattle.std.proofs.Math.Bool.{or-false}
use Rattle.std.proofs.lemmas.List.{drop_all}
use Rattle.std.specs.List.{flat_map}
use Rattle.camac_lines.proofs.Lines.{under_way_next, under_way_stops, Writes-at_err}
use Rattle.camac_lines.proofs.Texts.{flat_map-next, under_way_ends}
use Rattle.camac_response.specs.Lines.{unkept_line}
use Rattle.camac_response.proofs.lines.write_unkept.Goals as goal

pub returns-in_err-write_text-clause-text : goal.returns-in_err-write_text-clause-text
returns-in_err-write_text-clause-text g c =
    let parts = flat_map-next (unkept_line c.args.checked.now.script) c.args.unkept.now c.found.one-index c.one-item.result _ c.found-test.true c.one-item.is refl in
    Writes-at_err c.from_residual.result _ _ _ c.from_residual.ensures.0
    (under_way_stops _ _ _ _ _ _ _ c.found.invariant.0 parts (rw (c.as_bytes.ensures ∙ c.unkept_line-line.ensures) at c.in_err-write_text.ensures.text))

pub found-preserved : goal.found-preserved
found-preserved g c =
    let parts = flat_map-next (unkept_line c.args.checked.now.script) c.args.unkept.now c.found.one-index c.one-item.result _ c.found-test.true c.one-item.is refl in
    (under_way_next _ _ _ _ _ _ _ c.found.invariant.0 parts (rw (c.as_bytes.ensures ∙ c.unkept_line-line.ensures) at c.in_ok-write_text.ensures.text), c.in_ok-write_text.ensures.failed ∙ or-false _ ∙ c.found.invariant.1)

pub returns-clause-text : goal.returns-clause-text
returns-clause-text g c =
    let past : length c.args.unkept.now ≤ c.found.one-index = omega arith in
    under_way_ends _ _ _ _ c.found.invariant.0 (ap (flat_map (unkept_line c.args.checked.now.script)) (drop_all c.found.one-index c.args.unkept.now past))
