use Rattle.std.proofs.Common.{◌≡◌, ◌≤◌, ◌+◌, ◌-◌, ℕ, length, take, drop, sym, ap, ◌∙◌, arith, length-take, drop-drop}
use Rattle.std.proofs.lemmas.List.{drop-take}
use Rattle.camac_tool_host.proofs.ahead.unread.Unread.drop_first.Goals as goal

pub returns : goal.returns
returns c =
    let w = c.self.inside in
    let n : ℕ = c.args.count in
    let few : n ≤ w.end - w.start = omega (arith, c.requires, ap length c.self.view_is, length-take (w.end - w.start) (drop w.start w.bytes.items)) in
    let whole : n + (w.end - (w.start + n)) ≡ w.end - w.start = omega (arith, few) in
    ap (take (w.end - (w.start + n))) (sym (drop-drop n w.start w.bytes.items))
    ∙ sym (drop-take n (w.end - (w.start + n)) (drop w.start w.bytes.items))
    ∙ ap (λ k. drop n (take k (drop w.start w.bytes.items))) whole
    ∙ ap (drop n) c.self.view_is
