use Rattle.camac_tool_words.proofs.CommandLines.{with_argument, with_last}
use Rattle.camac_tool_words.proofs.command.response_command.Goals as goal

pub returns : goal.returns
returns c =
    let first = with_argument _ _ _ _ _ (c.in_ok-script_command.ensures.app, c.in_ok-script_command.ensures.local) c.setting.ensures.rule c.setting.ensures.local c.in_ok-arg.ensures in
    let all = with_last _ _ _ _ c.arg-2.result first c.setting-2.ensures.rule c.setting-2.ensures.local c.arg-2.ensures in
    record { app = all.0; local = all.1 }
