use Rattle.std.proofs.Common.{◌≡◌, ◌∙◌, sym, Some}
use Rattle.camac_branch.specs.Plan.{crate_waits}
use Rattle.camac_lines.specs.Plan.{crate_line, station_text}
use Rattle.camac_lines.specs.Texts.{texts}
use Rattle.camac_lines.proofs.Lines.{prefix_longer, Writes-at_err}
use Rattle.camac_lines.proofs.Texts.{Writes-after}
use Rattle.camac_lines.proofs.plan.write_crate.Goals as goal

pub returns-in_err-write_text-clause-text : goal.returns-in_err-write_text-clause-text
returns-in_err-write_text-clause-text g c =
    let there : crate_waits c.args.plan.now c.args.c ≡ Some c.in-Some.waits = sym c.in-Some.ensures.value in
    rw there (Writes-at_err c.from_residual.result _ _ _ c.from_residual.ensures.0
    (prefix_longer (crate_line c.args.c c.in-Some.waits) (texts (station_text c.args.plan.now c.args.c) 1 23) _ _ (rw (c.as_bytes.ensures ∙ c.line_of_crate.ensures) at c.in_err-write_text.ensures.text)))

pub returns-clause-text : goal.returns-clause-text
returns-clause-text g c =
    let there : crate_waits c.args.plan.now c.args.c ≡ Some c.in-Some.waits = sym c.in-Some.ensures.value in
    rw there (Writes-after c.write_stations.result (crate_line c.args.c c.in-Some.waits) (texts (station_text c.args.plan.now c.args.c) 1 23) _ _ _
    (rw (c.as_bytes.ensures ∙ c.line_of_crate.ensures) at c.in_ok-write_text.ensures.text) c.write_stations.ensures.text)
