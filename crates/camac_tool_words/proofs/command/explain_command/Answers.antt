use Rattle.camac_tool_words.proofs.CommandLines.{with_argument, with_last}
use Rattle.camac_tool_words.proofs.command.explain_command.Goals as goal

pub returns : goal.returns
returns c =
    let first = with_argument _ _ _ _ _ (c.subcommand.ensures.app, c.subcommand.ensures.local) c.named_word.ensures.rule c.named_word.ensures.local c.in_ok-arg.ensures in
    let second = with_argument _ _ _ _ _ first c.optional_word.ensures.rule c.optional_word.ensures.local c.in_ok-arg-2.ensures in
    let third = with_argument _ _ _ _ _ second c.place_option.ensures.rule c.place_option.ensures.local c.in_ok-arg-3.ensures in
    let fourth = with_argument _ _ _ _ _ third c.setting.ensures.rule c.setting.ensures.local c.in_ok-arg-4.ensures in
    let all = with_last _ _ _ _ c.arg-5.result fourth c.option.ensures.rule c.option.ensures.local c.arg-5.ensures in
    record { app = all.0; local = all.1 }
