use Rattle.std.proofs.Common.{◌≡◌, ◌∙◌, rules}
use Rattle.std.proofs.Math.Bool.{or-false}
use Rattle.camac_branch.specs.Plan.{kind}
use Rattle.camac_lines.specs.Commands.{command_text}
use Rattle.camac_lines.proofs.Lines.{under_way_next, under_way_stops, Writes-at_err}
use Rattle.camac_lines.proofs.Texts.{texts-next, texts-none, under_way_ends}
use Rattle.camac_lines.proofs.commands.write_function.Goals as goal

pub returns-in_err-write_text-clause-text : goal.returns-in_err-write_text-clause-text
returns-in_err-write_text-clause-text g c =
    let same : c.unwrap.result ≡ c.places.a = search rules in
    let parts = texts-next (command_text (kind c.args.plan.now c.args.t).commands c.args.f) c.places.a 16 c.unwrap.result c.places-test.true same in
    Writes-at_err c.from_residual.result _ _ _ c.from_residual.ensures.0
    (under_way_stops _ _ _ _ _ _ _ c.places.invariant.0 parts (rw (c.as_bytes.ensures ∙ c.line_at-line.ensures) at c.in_err-write_text.ensures.text))

pub places-preserved : goal.places-preserved
places-preserved g c =
    let same : c.unwrap.result ≡ c.places.a = search rules in
    let parts = texts-next (command_text (kind c.args.plan.now c.args.t).commands c.args.f) c.places.a 16 c.unwrap.result c.places-test.true same in (
      under_way_next _ _ _ _ _ _ _ c.places.invariant.0 parts (rw (c.as_bytes.ensures ∙ c.line_at-line.ensures) at c.in_ok-write_text.ensures.text),
      c.in_ok-write_text.ensures.failed ∙ or-false _ ∙ c.places.invariant.1,
    )

pub returns-clause-text : goal.returns-clause-text
returns-clause-text g c =
    under_way_ends _ _ _ _ c.places.invariant.0 (texts-none (command_text (kind c.args.plan.now c.args.t).commands c.args.f) c.places.a 16 c.places-test.false)
