use Rattle.std.proofs.Common.{◌≡◌, ℕ, ◌/◌, ◌%◌, ◌∙◌, ◌∷◌, [], ap, arith}
use Rattle.hex.specs.Hex.{encode_lower}
use Rattle.camac_lines.specs.Digits.{hex_word}
use Rattle.camac_lines.proofs.digits.hex_word.Goals as goal

pub returns : goal.returns
unfolding hex_word
returns c =
    let w = c.get-word.result in
    let high : w / 0x10000 ≡ w / 0x10000 % 0x100 = omega (arith, c.get-word.ensures.in_range) in
    rw (← c.get-word.ensures.value) (c.hex_bytes.ensures ∙ ap (λ (h : ℕ). encode_lower (h ∷ (w / 0x100 % 0x100) ∷ (w % 0x100) ∷ [])) high)
