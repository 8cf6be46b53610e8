use Rattle.std.proofs.Common.{sym, ◌∙◌}
use Rattle.std.proofs.lemmas.Result.{err_from_is_err_and}
use Rattle.camac_text.specs.Declarations.{is_token, declaration_at, declarations_at}
use Rattle.camac_text_cursor.specs.Parser.{state}
use Rattle.camac_text.proofs.Declares.{declaration_less, declarations_progress}
use Rattle.camac_text_cursor.proofs.Loops.{goes, fails, ends}
use Rattle.camac_text.proofs.declarations.declarations.Goals as goal

pub returns-in_err-declaration : goal.returns-in_err-declaration
returns-in_err-declaration c =
    let p = err_from_is_err_and c.from_residual.result c.from_residual.ensures.1 in
    rw (p.1, p.2) (fails is_token (λ _. declaration_at) declarations_progress tt (state c.loop-parser.parser) (declarations_at (state c.args.parser.now)) c.in_err-declaration.field-0.0 (state c.declaration.new.parser).tried (sym c.has_token.ensures ∙ c.loop-parser-test.true) c.in_err-declaration.ensures c.loop-parser.invariant)

pub loop-parser-smaller : goal.loop-parser-smaller
loop-parser-smaller c = declaration_less (state c.loop-parser.parser) (tt, state c.declaration.new.parser) c.in_ok-declaration.ensures

pub loop-parser-preserved : goal.loop-parser-preserved
loop-parser-preserved c = goes is_token (λ _. declaration_at) declarations_progress tt (state c.loop-parser.parser) (declarations_at (state c.args.parser.now)) tt (state c.declaration.new.parser) (sym c.has_token.ensures ∙ c.loop-parser-test.true) c.in_ok-declaration.ensures c.loop-parser.invariant

pub returns : goal.returns
returns c = ends is_token (λ _. declaration_at) declarations_progress tt (state c.loop-parser.parser) (declarations_at (state c.args.parser.now)) (sym c.has_token.ensures ∙ c.loop-parser-test.false) c.loop-parser.invariant
