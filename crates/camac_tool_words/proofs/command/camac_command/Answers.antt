use Rattle.std.proofs.Common.{◌≡◌, ◌∙◌, ap, ap₂}
use Rattle.std.proofs.lemmas.Result.{IfOk-weaker}
use Rattle.clap.specs.Words.{App, Shape, app_of, with_subcommand}
use Rattle.camac_tool_words.specs.Words.{camac_top, plan_app, check_app, explain_app, bounds_app, costs_app, tell_app, response_app, run_app, drive_app}
use Rattle.camac_tool_words.proofs.command.camac_command.Goals as goal

abbrev top : App → Shape
top a = a.top

-- the program with its subcommands so far
abbrev with_plan : App
with_plan = with_subcommand camac_top plan_app.top

abbrev with_check : App
with_check = with_subcommand with_plan check_app.top

abbrev with_explain : App
with_explain = with_subcommand with_check explain_app.top

abbrev with_bounds : App
with_bounds = with_subcommand with_explain bounds_app.top

abbrev with_costs : App
with_costs = with_subcommand with_bounds costs_app.top

abbrev with_tell : App
with_tell = with_subcommand with_costs tell_app.top

abbrev with_response : App
with_response = with_subcommand with_tell response_app.top

abbrev with_run : App
with_run = with_subcommand with_response run_app.top

abbrev with_drive : App
with_drive = with_subcommand with_run drive_app.top

pub returns : goal.returns
returns c =
    let top_is : app_of c.in_ok-top_command.field-0 ≡ camac_top = c.in_ok-top_command.ensures in
    let first : app_of c.in_ok-subcommand.field-0 ≡ with_plan =
    c.in_ok-subcommand.ensures.shape c.in_ok-plan_command.ensures.local ∙ ap₂ with_subcommand top_is (ap top c.in_ok-plan_command.ensures.app) in
    let second : app_of c.in_ok-subcommand-2.field-0 ≡ with_check =
    c.in_ok-subcommand-2.ensures.shape c.in_ok-check_command.ensures.local ∙ ap₂ with_subcommand first (ap top c.in_ok-check_command.ensures.app) in
    let third : app_of c.in_ok-subcommand-3.field-0 ≡ with_explain =
    c.in_ok-subcommand-3.ensures.shape c.in_ok-explain_command.ensures.local ∙ ap₂ with_subcommand second (ap top c.in_ok-explain_command.ensures.app) in
    let fourth : app_of c.in_ok-subcommand-4.field-0 ≡ with_bounds =
    c.in_ok-subcommand-4.ensures.shape c.in_ok-bounds_command.ensures.local ∙ ap₂ with_subcommand third (ap top c.in_ok-bounds_command.ensures.app) in
    let fifth : app_of c.in_ok-subcommand-5.field-0 ≡ with_costs =
    c.in_ok-subcommand-5.ensures.shape c.in_ok-costs_command.ensures.local ∙ ap₂ with_subcommand fourth (ap top c.in_ok-costs_command.ensures.app) in
    let sixth : app_of c.in_ok-subcommand-6.field-0 ≡ with_tell =
    c.in_ok-subcommand-6.ensures.shape c.in_ok-tell_command.ensures.local ∙ ap₂ with_subcommand fifth (ap top c.in_ok-tell_command.ensures.app) in
    let seventh : app_of c.in_ok-subcommand-7.field-0 ≡ with_response =
    c.in_ok-subcommand-7.ensures.shape c.in_ok-response_command.ensures.local ∙ ap₂ with_subcommand sixth (ap top c.in_ok-response_command.ensures.app) in
    let eighth : app_of c.in_ok-subcommand-8.field-0 ≡ with_run =
    c.in_ok-subcommand-8.ensures.shape c.in_ok-run_command.ensures.local ∙ ap₂ with_subcommand seventh (ap top c.in_ok-run_command.ensures.app) in
    let ninth : app_of c.in_ok-subcommand-9.field-0 ≡ with_drive =
    c.in_ok-subcommand-9.ensures.shape c.in_ok-drive_command.ensures.local ∙ ap₂ with_subcommand eighth (ap top c.in_ok-drive_command.ensures.app) in
    IfOk-weaker c.subcommand-10.result _ _ (λ r added. added.shape c.in_ok-events_command.ensures.local ∙ ap₂ with_subcommand ninth (ap top c.in_ok-events_command.ensures.app)) c.subcommand-10.ensures
