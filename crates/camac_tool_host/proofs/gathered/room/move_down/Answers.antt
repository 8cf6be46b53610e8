use Rattle.std.proofs.Common.{◌≡◌, ◌+◌, ◌-◌, List, ℕ, length, take, drop, sym, ap, ◌∙◌, length-take, arith}
use Rattle.std.proofs.lemmas.List.{drop-take, length-drop, take_at}
use Rattle.camac_tool_host.proofs.gathered.room.move_down.Goals as goal

pub returns-clause-moved : goal.returns-clause-moved
returns-clause-moved c =
    let xs : List ℕ = c.args.bytes.now in
    let from : ℕ = c.args.from in
    let n : ℕ = c.args.end - from in
    let middle : List ℕ = take n (drop from xs) in
    let counted : length middle ≡ n = omega (arith, length-take n (drop from xs), length-drop from xs) in
    let whole : from + n ≡ c.args.end = omega arith in
    ap (take n) c.copy_within.ensures.after
    ∙ take_at middle (drop (0 + n) xs) n counted
    ∙ sym (drop-take from n xs) ∙ ap (λ k. drop from (take k xs)) whole
