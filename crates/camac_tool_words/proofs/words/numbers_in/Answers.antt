use Rattle.std.proofs.Common.{◌+◌, ◌≤◌, [], arith, drop, length, map, slice_index_or, subst, sym}
use Rattle.std.proofs.lemmas.List.{drop_all, length-map}
use Rattle.camac_tool_words.proofs.CommandLines.{all_read, further, none_read, not_one, one_more}
use Rattle.camac_tool_words.proofs.words.numbers_in.Goals as goal

pub returns-in_default-clause-none : goal.returns-in_default-clause-none
returns-in_default-clause-none c =
    let texts = map (λ w. w.now) c.args.words.now in
    let i = c.words.word-index in
    not_one texts (drop i texts) (slice_index_or c.args.words.now i (record { ref_ptr = (0, 0); now = [] })).now (drop (i + 1) texts) c.words.numbers.items c.words.invariant
    (further (λ w. w.now) c.args.words.now i (record { ref_ptr = (0, 0); now = [] }) c.words-test.true) c.in_default.ensures.none

pub words-preserved : goal.words-preserved
words-preserved c =
    let texts = map (λ w. w.now) c.args.words.now in
    let i = c.words.word-index in
    one_more texts (drop i texts) (slice_index_or c.args.words.now i (record { ref_ptr = (0, 0); now = [] })).now (drop (i + 1) texts) c.words.numbers.items c.words.invariant
    (further (λ w. w.now) c.args.words.now i (record { ref_ptr = (0, 0); now = [] }) c.words-test.true) c.in-Some.number c.push.new.self.items c.in-Some.ensures.some c.in_ok-push.ensures.items

pub returns-clause-some : goal.returns-clause-some
returns-clause-some c =
    let words = c.args.words.now in
    let texts = map (λ w. w.now) words in
    let i = c.words.word-index in
    let ended : length words ≤ i = omega arith in
    all_read texts (drop i texts) c.words.numbers.items c.words.invariant (drop_all i texts (subst (λ n. n ≤ i) (sym (length-map words (λ w. w.now))) ended))
