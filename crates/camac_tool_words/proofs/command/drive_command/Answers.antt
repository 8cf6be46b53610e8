use Rattle.camac_tool_words.proofs.CommandLines.{with_argument, with_last}
use Rattle.camac_tool_words.proofs.command.drive_command.Goals as goal

pub returns : goal.returns
returns c =
    let first = with_argument _ _ _ _ _ (c.subcommand.ensures.app, c.subcommand.ensures.local) c.word.ensures.rule c.word.ensures.local c.in_ok-arg.ensures in
    let second = with_argument _ _ _ _ _ first c.word-2.ensures.rule c.word-2.ensures.local c.in_ok-arg-2.ensures in
    let all = with_last _ _ _ _ c.arg-3.result second c.word-3.ensures.rule c.word-3.ensures.local c.arg-3.ensures in
    record { app = all.0; local = all.1 }
