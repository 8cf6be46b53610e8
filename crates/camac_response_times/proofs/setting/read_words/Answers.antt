use Rattle.std.proofs.Common.{◌+◌, [], map, take, slice_index_or, refl, sym, ap, ◌∙◌}
use Rattle.camac_response_times.specs.Setting.{told_for}
use Rattle.camac_response_times.proofs.Words.{around, one_further, one_more_read, there_is, there_is_none}
use Rattle.camac_response_times.proofs.setting.read_words.Goals as goal

pub returns-in_default : goal.returns-in_default
returns-in_default c =
    let rest = around (λ w. w.now) c.args.words.now c.words.word-index (record { ref_ptr = (0, 0); now = [] }) c.words-test.true in
    (refl, (take c.words.word-index (map (λ w. w.now) c.args.words.now), rest.0, c.words.settings.items, rest.1, c.words.invariant, c.in_default.ensures.none))

pub returns-then-is_some : goal.returns-then-is_some
returns-then-is_some c =
    let word = slice_index_or c.args.words.now c.words.word-index (record { ref_ptr = (0, 0); now = [] }) in
    let rest = around (λ w. w.now) c.args.words.now c.words.word-index (record { ref_ptr = (0, 0); now = [] }) c.words-test.true in
    let stands = there_is c.told_for.result (sym c.is_some.ensures ∙ c.if-is_some.true) in (
      refl,
      (
        take c.words.word-index (map (λ w. w.now) c.args.words.now),
        rest.0,
        word.now,
        c.words.settings.items,
        c.in-Some.setting.cycles,
        stands.0,
        rest.1,
        c.words.invariant,
        c.in-Some.ensures.some,
        ap (λ ss. told_for ss c.in-Some.setting.service.now) (sym c.deref.ensures.value) ∙ ap (told_for c.deref.result.now) (sym c.as_bytes.ensures.value) ∙ sym c.told_for.ensures ∙ stands.1,
      ),
    )

pub words-preserved : goal.words-preserved
words-preserved c =
    let word = slice_index_or c.args.words.now c.words.word-index (record { ref_ptr = (0, 0); now = [] }) in
    one_more_read c.args.option (take c.words.word-index (map (λ w. w.now) c.args.words.now)) (take (c.words.word-index + 1) (map (λ w. w.now) c.args.words.now))
    c.words.settings.items c.push.new.self.items word.now c.in-Some.setting c.words.invariant c.in-Some.ensures.some
    (ap (λ ss. told_for ss c.in-Some.setting.service.now) (sym c.deref.ensures.value) ∙ ap (told_for c.deref.result.now) (sym c.as_bytes.ensures.value) ∙ sym c.told_for.ensures ∙ there_is_none c.told_for.result (sym c.is_some.ensures ∙ c.if-is_some.false))
    (one_further (λ w. w.now) c.args.words.now c.words.word-index (record { ref_ptr = (0, 0); now = [] }) c.words-test.true) c.in_ok-push.ensures.items
