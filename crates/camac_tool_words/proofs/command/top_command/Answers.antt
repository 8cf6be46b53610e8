use Rattle.std.proofs.Common.{◌≡◌, ap, ◌∙◌}
use Rattle.std.specs.Prelude.{true}
use Rattle.std.proofs.lemmas.Result.{IfOk-weaker}
use Rattle.clap.specs.Simple.{app_of_fields}
use Rattle.clap.specs.Words.{App, app_of}
use Rattle.camac_tool_words.specs.Words.{camac_top}
use Rattle.camac_tool_words.proofs.command.top_command.Goals as goal

-- the name for the lines on usage is no part of what the command takes
pub returns : goal.returns
returns c =
    let named : app_of c.version.result ≡ _ = ap app_of_fields c.version.ensures ∙ ap (λ (a : App). record a { top = record a.top { has_version = true } }) c.subcommand.ensures.app in
    let before : app_of c.subcommand_required.result ≡ camac_top =
    ap app_of_fields c.subcommand_required.ensures ∙ ap (λ f. app_of_fields (record f { subcommand_required = true })) c.no_binary_name.ensures
    ∙ ap (λ (a : App). record a { top = record a.top { no_binary_name = true; subcommand_required = true } }) named in
    IfOk-weaker c.bin_name.result _ _ (λ r named. ap app_of_fields named.0 ∙ before) c.bin_name.ensures
