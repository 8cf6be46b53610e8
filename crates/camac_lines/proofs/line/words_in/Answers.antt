use Rattle.std.proofs.Common.{◌≡◌, ◌++◌, ◌∙◌, List, ℕ, get_or, take, sym, ap, append-nil, append_assoc, arith}
use Rattle.std.specs.List.{between, flat_map}
use Rattle.std.proofs.lemmas.List.Edits.{between_none}
use Rattle.camac_lines.specs.Events.{word_text}
use Rattle.camac_lines.proofs.Texts.{flat_map-between_more}
use Rattle.camac_lines.proofs.line.words_in.Goals as goal

pub words-init : goal.words-init
words-init c = record {
  so_far = sym (ap (λ (ws : List ℕ). take c.args.start c.args.bytes.now ++ flat_map word_text ws) (between_none c.args.words.now c.args.first) ∙ append-nil _);
  place = omega arith;
  len = omega arith;
}

pub words-preserved : goal.words-preserved
words-preserved c =
    let words = c.args.words.now in
    let i = c.words.i in
    let first = c.args.first in
    let before : List ℕ = take c.args.start c.args.bytes.now in
    let old : List ℕ = flat_map word_text (between first i words) in
    let text : List ℕ = word_text (get_or words i 0) in
    let more = flat_map-between_more word_text words first i 0 (omega (arith, c.words.auto.i)) (omega (arith, c.words-test.true, c.requires.places.1)) in
    record {
      so_far = c.word_in-at.ensures.written
          ∙ ap (λ (l : List ℕ). l ++ text) c.words.invariant.so_far
          ∙ append_assoc before old text
          ∙ ap (λ (l : List ℕ). before ++ l) (sym more);
      place = omega (arith, c.word_in-at.ensures.end, c.words.invariant.place, c.words.auto.i);
      len = c.word_in-at.ensures.len ∙ c.words.invariant.len;
    }

pub returns-clause-written : goal.returns-clause-written
returns-clause-written c =
    let done : c.words.i ≡ c.args.last = omega (arith, c.words-test.false, c.words.auto.i, c.requires.places.0) in
    c.words.invariant.so_far ∙ ap (λ (n : ℕ). take c.args.start c.args.bytes.now ++ flat_map word_text (between c.args.first n c.args.words.now)) done
