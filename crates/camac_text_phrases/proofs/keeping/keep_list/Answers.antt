use Rattle.std.proofs.Common.{◌≡◌, List, ◌++◌, ◌∷◌, [], map, Result, sym, ap, subst, ◌∙◌}
use Rattle.std.proofs.lemmas.Result.{err_from_is_err_and}
use Rattle.std.proofs.lemmas.List.{map_push}
use Rattle.camac_lang.specs.Tree.{Keep}
use Rattle.camac_lang.specs.View.{keep_of}
use Rattle.camac_tokens.specs.declared.token.Sign.TheVariants as sign
use Rattle.camac_text_cursor.specs.declared.choice.Choice.TheVariants as choice
use Rattle.camac_text_cursor.specs.Reading.{State, then_read, give, Fault}
use Rattle.camac_text_cursor.specs.Readers.{is_sign}
use Rattle.camac_text_phrases.specs.Keeps.{next_keep, one_more_keep, keep_list}
use Rattle.camac_text_cursor.specs.Parser.{state, FailsWith}
use Rattle.camac_text_phrases.proofs.KeepsRead.{next_keep_less, keeps_progress}
use Rattle.camac_text_cursor.proofs.Loops.{until_goes, until_fails, until_ends, then_fails}
use Rattle.camac_text_phrases.proofs.keeping.keep_list.Goals as goal

pub returns-in_err-keep : goal.returns-in_err-keep
returns-in_err-keep c =
    let p = err_from_is_err_and c.from_residual-in_err-keep.result c.from_residual-in_err-keep.ensures.1 in
    let items = map keep_of c.more.keeps.items in
    let same : map keep_of c.deref-in-more.result.now ≡ items = ap (map keep_of) c.deref-in-more.ensures.value in
    rw (p.1, p.2) (until_fails (choice.Mark sign.Comma) (is_sign sign.Comma) (one_more_keep c.args.own) (keeps_progress c.args.own) items (state c.more.parser) (keep_list c.args.own (state c.args.parser.now)) c.in_err-keep.field-0.0 (state c.next_keep.new.parser).tried (sym c.next_is_sign.ensures ∙ c.more-test.true)
    (then_fails c.in_err-keep.field-0.0 (state c.next_keep.new.parser).tried (next_keep c.args.own items (state c.more.parser)) (λ k. give (items ++ k ∷ [])) (subst (λ (ks : List Keep). FailsWith c.in_err-keep.field-0.0 (state c.next_keep.new.parser).tried (next_keep c.args.own ks (state c.more.parser))) same c.in_err-keep.ensures)) c.more.invariant)

pub more-smaller : goal.more-smaller
more-smaller c = next_keep_less c.args.own (map keep_of c.deref-in-more.result.now) (state c.more.parser) (keep_of c.in_ok-keep.keep, state c.next_keep.new.parser) (sym c.next_is_sign.ensures ∙ c.more-test.true) c.in_ok-keep.ensures

pub more-preserved : goal.more-preserved
more-preserved c =
    let items = map keep_of c.more.keeps.items in
    let same : map keep_of c.deref-in-more.result.now ≡ items = ap (map keep_of) c.deref-in-more.ensures.value in
    let longer : map keep_of c.push-in-more.new.self.items ≡ items ++ keep_of c.in_ok-keep.keep ∷ [] = rw c.in_ok-push-2.ensures.items (map_push keep_of c.more.keeps.items c.in_ok-keep.keep) in
    rw longer (until_goes (choice.Mark sign.Comma) (is_sign sign.Comma) (one_more_keep c.args.own) (keeps_progress c.args.own) items (state c.more.parser) (keep_list c.args.own (state c.args.parser.now)) (items ++ keep_of c.in_ok-keep.keep ∷ []) (state c.next_keep.new.parser) (sym c.next_is_sign.ensures ∙ c.more-test.true)
    (ap (λ (ks : List Keep). then_read (next_keep c.args.own ks (state c.more.parser)) (λ k. give (items ++ k ∷ []))) (sym same) ∙ ap (λ (r : Result (Keep × State) Fault). then_read r (λ k. give (items ++ k ∷ []))) c.in_ok-keep.ensures) c.more.invariant)

pub returns : goal.returns
returns c = rw c.miss.ensures (until_ends (choice.Mark sign.Comma) (is_sign sign.Comma) (one_more_keep c.args.own) (keeps_progress c.args.own) (map keep_of c.more.keeps.items) (state c.more.parser) (keep_list c.args.own (state c.args.parser.now)) (sym c.next_is_sign.ensures ∙ c.more-test.false) c.more.invariant)
