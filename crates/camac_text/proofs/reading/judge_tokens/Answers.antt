use Rattle.std.proofs.Common.{Result, sym, subst, ◌∙◌}
use Rattle.camac_tokens.specs.declared.fault.TextFault.{TextFault}
use Rattle.camac_tokens.specs.Left.{ahead_of}
use Rattle.camac_text_cursor.specs.Parser.{state, Gives}
use Rattle.camac_text.specs.Declarations.{declarations_at}
use Rattle.camac_text.specs.Parser.{unread_in}
use Rattle.camac_text.proofs.Faults.{read_whole}
use Rattle.camac_text.proofs.reading.judge_tokens.Goals as goal

pub returns-in-Ok : goal.returns-in-Ok
returns-in-Ok c =
    let text = c.args.text.now in
    let parser = c.args.parser.now in
    read_whole text (state parser) (subst (λ (r : Result (Unit {0}) TextFault). Gives (λ _. tt) r parser (declarations_at (unread_in (ahead_of text)))) c.in-Ok.is c.requires) (sym c.is_at_end.ensures ∙ c.if-is_at_end.true)
