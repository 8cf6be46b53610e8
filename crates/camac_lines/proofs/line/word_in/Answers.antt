use Rattle.std.proofs.Common.{◌≡◌, ◌++◌, ◌∙◌, ◌∷◌, [], List, ℕ, codes, get_or, length, take, ap, refl}
use Rattle.hex.specs.Hex.{encode_with, encode_lower}
use Rattle.camac_lines.specs.Digits.{hex_word}
use Rattle.camac_lines.specs.Events.{word_text}
use Rattle.camac_lines.proofs.line.word_in.Goals as goal

length-word_text : (word : ℕ) → length (word_text word) ≡ 7
unfolding hex_word encode_with
length-word_text word = refl

pub returns-clause-written : goal.returns-clause-written
unfolding hex_word
returns-clause-written c =
    let words = c.args.words.now in
    let text : c.spaced.result ≡ word_text (get_or words c.args.i 0) =
    c.spaced.ensures ∙ ap (λ (l : List ℕ). codes " " ++ l) (c.hex_bytes.ensures ∙ ap (λ (b : List ℕ). encode_lower (get_or b 0 0 ∷ get_or b 1 0 ∷ get_or b 2 0 ∷ [])) c.bytes.ensures) in
    c.bytes_in.ensures.written ∙ ap (λ (l : List ℕ). take c.args.start c.args.bytes.now ++ l) text
