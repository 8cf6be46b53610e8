use Rattle.std.proofs.Common.{◌≡◌, ◌∙◌, rules}
use Rattle.std.proofs.Math.Bool.{or-false}
use Rattle.camac_lines.specs.Plan.{crate_text}
use Rattle.camac_lines.proofs.Lines.{under_way_next, under_way_stops, Writes-at_err}
use Rattle.camac_lines.proofs.Texts.{texts-next, texts-none, under_way_ends}
use Rattle.camac_lines.proofs.plan.write_crates.Goals as goal

pub returns-in_err-write_crate-clause-text : goal.returns-in_err-write_crate-clause-text
returns-in_err-write_crate-clause-text g c =
    let same : c.unwrap.result ≡ c.crates.c = search rules in
    let parts = texts-next (crate_text c.args.plan.now) c.crates.c 8 c.unwrap.result c.crates-test.true same in
    Writes-at_err c.from_residual.result _ _ _ c.from_residual.ensures.0 (under_way_stops _ _ _ _ _ _ _ c.crates.invariant.0 parts c.in_err-write_crate.ensures.text)

pub crates-preserved : goal.crates-preserved
crates-preserved g c =
    let same : c.unwrap.result ≡ c.crates.c = search rules in
    let parts = texts-next (crate_text c.args.plan.now) c.crates.c 8 c.unwrap.result c.crates-test.true same in
    (under_way_next _ _ _ _ _ _ _ c.crates.invariant.0 parts c.in_ok-write_crate.ensures.text, c.in_ok-write_crate.ensures.failed ∙ or-false _ ∙ c.crates.invariant.1)

pub returns-clause-text : goal.returns-clause-text
returns-clause-text g c = under_way_ends _ _ _ _ c.crates.invariant.0 (texts-none (crate_text c.args.plan.now) c.crates.c 8 c.crates-test.false)
