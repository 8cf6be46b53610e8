use Rattle.std.proofs.Common.{ℕ, ◌∷◌, [], ◌++◌, List, take, ap, sym, ◌∙◌}
use Rattle.std.proofs.lemmas.List.{take_more}
use Rattle.std.proofs.lemmas.Option.{slice_get_within, get_or_from_slice_get}
use Rattle.camac_event.proofs.decoding.words_of.Goals as goal

pub loop-i-preserved : goal.loop-i-preserved
loop-i-preserved c =
    let words = c.args.words.now in
    let i = c.loop-i.i in
    let x = c.unwrap.result in
    let got = sym c.get.ensures ∙ c.unwrap.ensures in
    c.in_ok-push.ensures.items
    ∙ ap (λ (l : List ℕ). l ++ x ∷ []) c.loop-i.invariant
    ∙ sym (take_more words i x (slice_get_within words i x got) ∙ ap (λ (y : ℕ). take i words ++ y ∷ []) (get_or_from_slice_get words i x x got))
