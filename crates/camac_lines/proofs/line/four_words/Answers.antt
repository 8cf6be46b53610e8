use Rattle.std.proofs.Common.{◌≡◌, ◌+◌, ◌++◌, ◌∙◌, List, ℕ, get_or, sym, ap, take_all, arith}
use Rattle.std.specs.List.{between, flat_map}
use Rattle.std.proofs.lemmas.List.Edits.{between_none}
use Rattle.camac_lines.specs.Events.{word_text}
use Rattle.camac_lines.proofs.Texts.{flat_map-between_more}
use Rattle.camac_lines.proofs.line.four_words.Goals as goal

zero-right : (n : ℕ) → n + 0 ≡ n
zero-right n = omega arith

pub words-init : goal.words-init
words-init c = record {
  so_far = sym (ap (λ (n : ℕ). flat_map word_text (between c.args.first n c.args.words.now)) (zero-right c.args.first) ∙ ap (flat_map word_text) (between_none c.args.words.now c.args.first));
  place = omega arith;
  len = omega arith;
}

pub words-preserved : goal.words-preserved
words-preserved c =
    let words = c.args.words.now in
    let first = c.args.first in
    let i = c.words.i in
    let step : first + (i + 1) ≡ first + i + 1 = omega arith in
    let more = flat_map-between_more word_text words first (first + i) 0 (omega arith) (omega arith) in
    record {
      so_far = c.word_in-at.ensures.written
          ∙ ap (λ (l : List ℕ). l ++ word_text (get_or words (first + i) 0)) c.words.invariant.so_far
          ∙ sym (ap (λ (n : ℕ). flat_map word_text (between first n words)) step ∙ more);
      place = omega (arith, c.word_in-at.ensures.end, c.words.invariant.place);
      len = c.word_in-at.ensures.len ∙ c.words.invariant.len;
    }

pub returns : goal.returns
returns c =
    let words = c.args.words.now in
    let first = c.args.first in
    let done : c.words.i ≡ 4 = omega (arith, c.words-test.false, c.words.auto.i-end) in
    sym (take_all c.words.at c.words.bytes (omega arith)) ∙ c.words.invariant.so_far ∙ ap (λ (n : ℕ). flat_map word_text (between first (first + n) words)) done
