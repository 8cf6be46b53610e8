use Rattle.std.proofs.Common.{◌≡◌, ◌∙◌, ◌++◌, List, ℕ, ap, sym, append_assoc, refl, drop, take, ◌+◌, arith}
use Rattle.camac_lines.proofs.Texts.{flat_map-next}
use Rattle.camac_report.specs.Items.{unlock_text, unlock_texts}
use Rattle.camac_report.proofs.item.unlocks_in.Goals as goal

pub unlocks-preserved : goal.unlocks-preserved
unlocks-preserved c =
    let unlocks = c.args.unlocks.now in
    let i = c.unlocks.c-index in
    let rest : List ℕ = unlock_texts (drop (i + 1) unlocks) in
    let line : List ℕ = unlock_text c.c-item.result in
    let before : List ℕ = take c.unlocks.end c.unlocks.bytes in
    let next : unlock_texts (drop i unlocks) ≡ line ++ rest =
    flat_map-next unlock_text unlocks i c.c-item.result line c.unlocks-test.true c.c-item.is refl in record {
      written = c.unlocks.invariant.written ∙ ap (λ (l : List ℕ). before ++ l) next ∙ sym (append_assoc before line rest)
          ∙ ap (λ (l : List ℕ). l ++ rest) (sym c.unlock_in-end.ensures.written);
      end = omega arith;
      len = c.unlock_in-end.ensures.len ∙ c.unlocks.invariant.len;
    }
