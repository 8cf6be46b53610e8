use Rattle.std.proofs.Common.{◌≡◌, ◌∙◌, rules}
use Rattle.std.proofs.Math.Bool.{or-false}
use Rattle.camac_branch.specs.Plan.{kind}
use Rattle.camac_lines.specs.Commands.{function_text}
use Rattle.camac_lines.proofs.Lines.{under_way_next, under_way_stops, Writes-at_err}
use Rattle.camac_lines.proofs.Texts.{texts-next, texts-none, under_way_ends}
use Rattle.camac_lines.proofs.commands.write_commands.Goals as goal

pub returns-in_err-write_function-clause-text : goal.returns-in_err-write_function-clause-text
returns-in_err-write_function-clause-text g c =
    let same : c.unwrap.result ≡ c.functions.f = search rules in
    let parts = texts-next (function_text (kind c.args.plan.now c.args.t).commands) c.functions.f 32 c.unwrap.result c.functions-test.true same in
    Writes-at_err c.from_residual.result _ _ _ c.from_residual.ensures.0 (under_way_stops _ _ _ _ _ _ _ c.functions.invariant.0 parts c.in_err-write_function.ensures.text)

pub functions-preserved : goal.functions-preserved
functions-preserved g c =
    let same : c.unwrap.result ≡ c.functions.f = search rules in
    let parts = texts-next (function_text (kind c.args.plan.now c.args.t).commands) c.functions.f 32 c.unwrap.result c.functions-test.true same in
    (under_way_next _ _ _ _ _ _ _ c.functions.invariant.0 parts c.in_ok-write_function.ensures.text, c.in_ok-write_function.ensures.failed ∙ or-false _ ∙ c.functions.invariant.1)

pub returns-clause-text : goal.returns-clause-text
returns-clause-text g c =
    under_way_ends _ _ _ _ c.functions.invariant.0 (texts-none (function_text (kind c.args.plan.now c.args.t).commands) c.functions.f 32 c.functions-test.false)
