use Rattle.std.proofs.Common.{◌≡◌, ℕ, ◌++◌, ◌∷◌, [], length, map, Result, arith, sym, ap, subst, ◌∙◌}
use Rattle.std.proofs.lemmas.Result.{err_from_is_err_and}
use Rattle.std.proofs.lemmas.List.{map_push, length-map}
use Rattle.camac_lang.specs.Tree.{Part}
use Rattle.camac_lang.specs.View.{part_of}
use Rattle.camac_tokens.specs.declared.token.Keyword.TheVariants as word
use Rattle.camac_text_cursor.specs.declared.choice.Choice.TheVariants as choice
use Rattle.camac_text_cursor.specs.Reading.{State, then_read, give, Fault}
use Rattle.camac_text_cursor.specs.Readers.{is_keyword}
use Rattle.camac_text_phrases.specs.Conditions.{and_part, one_more_part, condition_at}
use Rattle.camac_text_cursor.specs.Parser.{state, FailsWith}
use Rattle.camac_text_phrases.proofs.ConditionsRead.{and_part_less, parts_progress}
use Rattle.camac_text_cursor.proofs.Loops.{until_goes, until_fails, until_ends, then_fails}
use Rattle.camac_text_phrases.proofs.conditions.condition.Goals as goal

pub returns-in_err-part : goal.returns-in_err-part
returns-in_err-part c =
    let p = err_from_is_err_and c.from_residual-in_err-part.result c.from_residual-in_err-part.ensures.1 in
    let items = map part_of c.loop-parser.parts.items in
    let count : c.len.result ≡ length items = rw length-map (omega (arith, c.len.ensures, c.loop-parser.parts.ok.0)) in
    rw (p.1, p.2) (until_fails (choice.Word word.And) (is_keyword word.And) (one_more_part c.args.room) (parts_progress c.args.room) items (state c.loop-parser.parser) (condition_at c.args.room (state c.args.parser.now)) c.in_err-part.field-0.0 (state c.and_part.new.parser).tried (sym c.next_is.ensures ∙ c.loop-parser-test.true)
    (then_fails c.in_err-part.field-0.0 (state c.and_part.new.parser).tried (and_part c.args.room (length items) (state c.loop-parser.parser)) (λ part. give (items ++ part ∷ [])) (subst (λ (n : ℕ). FailsWith c.in_err-part.field-0.0 (state c.and_part.new.parser).tried (and_part c.args.room n (state c.loop-parser.parser))) count c.in_err-part.ensures)) c.loop-parser.invariant)

pub loop-parser-smaller : goal.loop-parser-smaller
loop-parser-smaller c = and_part_less c.args.room c.len.result (state c.loop-parser.parser) (part_of c.in_ok-part.part, state c.and_part.new.parser) (sym c.next_is.ensures ∙ c.loop-parser-test.true) c.in_ok-part.ensures

pub loop-parser-preserved : goal.loop-parser-preserved
loop-parser-preserved c =
    let items = map part_of c.loop-parser.parts.items in
    let count : c.len.result ≡ length items = rw length-map (omega (arith, c.len.ensures, c.loop-parser.parts.ok.0)) in
    let longer : map part_of c.push-in-loop-parser.new.self.items ≡ items ++ part_of c.in_ok-part.part ∷ [] = rw c.in_ok-push-2.ensures.items (map_push part_of c.loop-parser.parts.items c.in_ok-part.part) in
    rw longer (until_goes (choice.Word word.And) (is_keyword word.And) (one_more_part c.args.room) (parts_progress c.args.room) items (state c.loop-parser.parser) (condition_at c.args.room (state c.args.parser.now)) (items ++ part_of c.in_ok-part.part ∷ []) (state c.and_part.new.parser) (sym c.next_is.ensures ∙ c.loop-parser-test.true)
    (ap (λ (n : ℕ). then_read (and_part c.args.room n (state c.loop-parser.parser)) (λ part. give (items ++ part ∷ []))) (sym count) ∙ ap (λ (r : Result (Part × State) Fault). then_read r (λ part. give (items ++ part ∷ []))) c.in_ok-part.ensures) c.loop-parser.invariant)

pub returns : goal.returns
returns c = rw c.miss.ensures (until_ends (choice.Word word.And) (is_keyword word.And) (one_more_part c.args.room) (parts_progress c.args.room) (map part_of c.loop-parser.parts.items) (state c.loop-parser.parser) (condition_at c.args.room (state c.args.parser.now)) (sym c.next_is.ensures ∙ c.loop-parser-test.false) c.loop-parser.invariant)
