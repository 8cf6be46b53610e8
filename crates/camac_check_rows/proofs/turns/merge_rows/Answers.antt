use Rattle.std.proofs.Common.{◌≡◌, ◌++◌, length, drop, sym, ap, ◌∙◌, arith}
use Rattle.std.specs.Prelude.{min}
use Rattle.camac_rules.specs.Capped.{capped}
use Rattle.camac_check_rows.proofs.Merged.{merge_end, rest_of}
use Rattle.camac_check_rows.proofs.turns.merge_rows.Goals as goal

pub returns : goal.returns
returns c =
    let rows = c.rows.rows.items in
    let turn = c.args.turn.now in
    let i = c.rows.i in
    let end : c.min-end.result ≡ i = omega arith in
    let at_end : i ≡ min (length rows) (length turn) = omega (arith, c.min-end.ensures, c.len.ensures, c.rows.invariant.long) in
    c.in_ok-extend_from_slice.ensures.items
    ∙ ap (λ zs. rows ++ zs) (rest_of turn c.min-end.result)
    ∙ ap (λ n. rows ++ drop n turn) end
    ∙ sym (merge_end capped rows turn i at_end)
    ∙ c.rows.invariant.merged
