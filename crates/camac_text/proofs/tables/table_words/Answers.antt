use Rattle.std.proofs.Common.{◌≡◌, ℕ, ◌++◌, ◌∷◌, [], length, Result, arith, sym, ap, subst, ◌∙◌}
use Rattle.std.proofs.lemmas.Result.{err_from_is_err_and}
use Rattle.camac_tokens.specs.declared.token.TokenKind.TheVariants as kind
use Rattle.camac_text_cursor.specs.declared.choice.Choice.TheVariants as choice
use Rattle.camac_text_cursor.specs.Reading.{State, then_read, give, Fault}
use Rattle.camac_text_cursor.specs.Parser.{state, FailsWith}
use Rattle.camac_text_cursor.proofs.Moves.{one_less}
use Rattle.camac_text_cursor.proofs.Loops.{until_goes, until_fails, until_ends, then_fails}
use Rattle.camac_text_cursor.specs.Readers.{is_number}
use Rattle.camac_text.specs.Tables.{word_after, one_more_word, table_words}
use Rattle.camac_text.proofs.TablesRead.{word_ok, words_progress}
use Rattle.camac_text.proofs.tables.table_words.Goals as goal

pub returns-in_err-word : goal.returns-in_err-word
returns-in_err-word c =
    let p = err_from_is_err_and c.from_residual-in_err-word.result c.from_residual-in_err-word.ensures.1 in
    let items = c.loop-parser.words.items in
    let count : c.len.result ≡ length items = omega (arith, c.len.ensures, c.loop-parser.words.ok.0) in
    rw (p.1, p.2) (until_fails choice.Number is_number one_more_word words_progress items (state c.loop-parser.parser) (table_words (state c.args.parser.now)) c.in_err-word.field-0.0 (state c.word_after-in-loop-parser.new.parser).tried (sym c.next_is_number.ensures ∙ c.loop-parser-test.true)
    (then_fails c.in_err-word.field-0.0 (state c.word_after-in-loop-parser.new.parser).tried (word_after (length items) (state c.loop-parser.parser)) (λ w. give (items ++ w ∷ [])) (subst (λ (n : ℕ). FailsWith c.in_err-word.field-0.0 (state c.word_after-in-loop-parser.new.parser).tried (word_after n (state c.loop-parser.parser))) count c.in_err-word.ensures)) c.loop-parser.invariant)

pub loop-parser-smaller : goal.loop-parser-smaller
loop-parser-smaller c = one_less (state c.loop-parser.parser) (kind.Number c.in_ok-word.word) (state c.word_after-in-loop-parser.new.parser) (word_ok c.len.result (state c.loop-parser.parser) (c.in_ok-word.word, state c.word_after-in-loop-parser.new.parser) c.in_ok-word.ensures).one

pub loop-parser-preserved : goal.loop-parser-preserved
loop-parser-preserved c =
    let items = c.loop-parser.words.items in
    let count : c.len.result ≡ length items = omega (arith, c.len.ensures, c.loop-parser.words.ok.0) in
    rw c.in_ok-push-2.ensures.items (until_goes choice.Number is_number one_more_word words_progress items (state c.loop-parser.parser) (table_words (state c.args.parser.now)) (items ++ c.in_ok-word.word ∷ []) (state c.word_after-in-loop-parser.new.parser) (sym c.next_is_number.ensures ∙ c.loop-parser-test.true)
    (ap (λ (n : ℕ). then_read (word_after n (state c.loop-parser.parser)) (λ w. give (items ++ w ∷ []))) (sym count) ∙ ap (λ (r : Result (ℕ × State) Fault). then_read r (λ w. give (items ++ w ∷ []))) c.in_ok-word.ensures) c.loop-parser.invariant)

pub returns : goal.returns
returns c = rw c.miss.ensures (until_ends choice.Number is_number one_more_word words_progress c.loop-parser.words.items (state c.loop-parser.parser) (table_words (state c.args.parser.now)) (sym c.next_is_number.ensures ∙ c.loop-parser-test.false) c.loop-parser.invariant)
