use Rattle.std.proofs.Common.{◌∙◌, ◌++◌, ◌+◌, ◌≤◌, List, ℕ, ap, codes, sym, refl, drop, length, append_assoc, arith}
use Rattle.std.proofs.Math.Bool.{or-false}
use Rattle.std.specs.List.{flat_map}
use Rattle.camac_lines.specs.Events.{word_text}
use Rattle.camac_lines.proofs.Lines.{under_way_next, under_way_stops}
use Rattle.camac_lines.proofs.Texts.{under_way_as, under_way_laid, under_way_left, laid_all, Puts-at_err}
use Rattle.camac_lines.proofs.events.put_file_words.Goals as goal

pub returns-in_err-put_text-clause-text : goal.returns-in_err-put_text-clause-text
returns-in_err-put_text-clause-text g c =
    let first = c.pieces.first in
    let last = first + c.pieces.room in
    let end : List ℕ = codes "\n" in
    let line = c.push_many_words.new.self in
    let rest : List ℕ = flat_map word_text (drop last c.args.words.now) in
    let pushed = under_way_laid word_text c.args.words.now first last _ c.pieces.line line end _ _ (omega arith) c.push_many_words.ensures.text c.pieces.invariant.0 in
    Puts-at_err c.from_residual.result _ _ _ _ c.from_residual.ensures.0
    (under_way_stops _ _ line (rest ++ end) _ _ _ pushed (append_assoc line rest end) (rw c.as_bytes.ensures at c.in_err-put_text.ensures.text))

pub pieces-preserved : goal.pieces-preserved
pieces-preserved g c =
    let first = c.pieces.first in
    let last = first + c.pieces.room in
    let end : List ℕ = codes "\n" in
    let line = c.push_many_words.new.self in
    let rest : List ℕ = flat_map word_text (drop last c.args.words.now) in
    let pushed = under_way_laid word_text c.args.words.now first last _ c.pieces.line line end _ _ (omega arith) c.push_many_words.ensures.text c.pieces.invariant.0 in
    let written = under_way_next _ _ line (rest ++ end) _ _ _ pushed (append_assoc line rest end) (rw c.as_bytes.ensures at c.in_ok-put_text.ensures.text) in (
      under_way_as _ (rest ++ end) (c.clear.new.self ++ rest ++ end) _ _ _ written (ap (λ (l : List ℕ). l ++ rest ++ end) (sym c.clear.ensures)) refl,
      c.in_ok-put_text.ensures.failed ∙ or-false _ ∙ c.pieces.invariant.1,
      omega (arith, c.pieces-test.true, c.len.ensures, c.pieces.invariant.2),
      omega (arith, ap length c.clear.ensures),
      omega arith,
    )

pub returns-clause-text : goal.returns-clause-text
returns-clause-text g c =
    let words = c.args.words.now in
    let first = c.pieces.first in
    let end : List ℕ = codes "\n" in
    let count = c.len-2.result in
    let pushed = under_way_laid word_text words first count _ c.pieces.line c.push_words.new.self end _ _ (omega (arith, c.len-2.ensures, c.pieces.invariant.2)) c.push_words.ensures.text c.pieces.invariant.0 in
    let past : length words ≤ count = omega (arith, c.len-2.ensures) in
    let all = ap (λ (l : List ℕ). l ++ end) (laid_all word_text words count c.push_words.new.self past) in
    under_way_left _ _ _ _ _ pushed (all ∙ sym c.push_str.ensures.bytes)
