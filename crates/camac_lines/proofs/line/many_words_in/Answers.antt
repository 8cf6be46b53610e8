use Rattle.std.proofs.Common.{◌+◌, ◌++◌, ◌∙◌, List, ℕ, take, sym, ap, append-nil, append_assoc, arith}
use Rattle.std.specs.List.{between, flat_map}
use Rattle.std.proofs.lemmas.List.Edits.{between_none}
use Rattle.camac_lines.specs.Events.{word_text}
use Rattle.camac_lines.proofs.Texts.{flat_map-between_join}
use Rattle.camac_lines.proofs.line.many_words_in.Goals as goal

pub fours-init : goal.fours-init
fours-init c = record {
  so_far = sym (ap (λ (ws : List ℕ). take c.args.start c.args.bytes.now ++ flat_map word_text ws) (between_none c.args.words.now c.args.first) ∙ append-nil _);
  place = omega arith;
  from = omega arith;
  to = c.requires.places.0;
  len = omega arith;
}

pub fours-preserved : goal.fours-preserved
fours-preserved c =
    let words = c.args.words.now in
    let first = c.args.first in
    let next = c.fours.next in
    let before : List ℕ = take c.args.start c.args.bytes.now in
    let old : List ℕ = flat_map word_text (between first next words) in
    let four : List ℕ = flat_map word_text (between next (next + 4) words) in
    let more = flat_map-between_join word_text words first next (next + 4) c.fours.invariant.from (omega arith) in
    record {
      so_far = c.bytes_in-at.ensures.written
          ∙ ap (λ (l : List ℕ). l ++ c.four_words.result) c.fours.invariant.so_far
          ∙ ap (λ (l : List ℕ). (before ++ old) ++ l) c.four_words.ensures
          ∙ append_assoc before old four
          ∙ ap (λ (l : List ℕ). before ++ l) (sym more);
      place = omega (arith, c.bytes_in-at.ensures.end, c.fours.invariant.place, c.fours.invariant.from);
      from = omega (arith, c.fours.invariant.from);
      to = omega (arith, c.fours-test.true, c.fours.invariant.to);
      len = c.bytes_in-at.ensures.len ∙ c.fours.invariant.len;
    }

pub returns-clause-written : goal.returns-clause-written
returns-clause-written c =
    let words = c.args.words.now in
    let first = c.args.first in
    let next = c.fours.next in
    let last = c.args.last in
    let before : List ℕ = take c.args.start c.args.bytes.now in
    let old : List ℕ = flat_map word_text (between first next words) in
    let rest : List ℕ = flat_map word_text (between next last words) in
    c.words_in.ensures.written ∙ ap (λ (l : List ℕ). l ++ rest) c.fours.invariant.so_far ∙ append_assoc before old rest
    ∙ ap (λ (l : List ℕ). before ++ l) (sym (flat_map-between_join word_text words first next last c.fours.invariant.from c.fours.invariant.to))
