use Rattle.std.proofs.Common.{◌≡◌, ◌+◌, ◌-◌, ◌*◌, ◌^◌, sym, ap, ap₂, ◌∙◌, subst}
use Rattle.std.specs.Prelude.{min}
use Rattle.camac_lang.specs.View.{statement_of, statements_of}
use Rattle.camac_check_known.specs.Gives.{Gives}
use Rattle.camac_rules.specs.EachLimit.{block_judged, count}
use Rattle.camac_lang.proofs.Trees.{each_is}
use Rattle.camac_check_loops.proofs.Counts.{turns_cut}
use Rattle.camac_check_loops.proofs.judged.+count.Goals as goal

pub count-returns-in-ForEach : goal.count-returns-in-ForEach
count-returns-in-ForEach t c =
    let it = c.in-ForEach in
    let before = c.args.before in
    let turns = c.saturating_sub-turns.result in
    let most = 2 ^ 64 - 1 in
    let n = block_judged (statements_of it.body.items) in
    let some : c.saturating_add.result ≡ min (min n most + 1) most =
    c.saturating_add.ensures ∙ ap (λ m. min (m + 1) most) (c.block_judged.ensures ∙ ap (λ b. min (block_judged (statements_of b)) most) c.deref.ensures.value) in
    let all : c.saturating_mul-all.result ≡ min (turns * min (min n most + 1) most) most = c.saturating_mul-all.ensures ∙ ap (λ m. min (turns * m) most) some in
    let numbers : turns ≡ it.last + 1 - it.first = c.saturating_sub-turns.ensures ∙ ap₂ (λ a b. a + 1 - b) c.from.ensures c.from-in-ForEach.ensures in
    subst (λ s. Gives (λ m. m) c.within_limit.result (count c.args.place s before))
    (sym (ap statement_of it.is ∙ each_is it.spot it.variable it.first it.last it.body))
    (c.within_limit.ensures (before + (it.last + 1 - it.first) * (1 + n))
    (c.saturating_add-in-ForEach.ensures ∙ ap (λ m. min (before + m) most) all ∙ turns_cut before turns n most ∙ ap (λ m. min (before + m * (1 + n)) most) numbers))
