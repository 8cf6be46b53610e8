use Rattle.std.proofs.Common.{◌≡◌, ◌++◌, drop, map}
use Rattle.std.specs.List.{flat_map}
use Rattle.camac_explain_rule.specs.Advice.{fix_line}
use Rattle.camac_explain_rule.proofs.rule.push_each.Given as goal

abbrev pub invariant-fixes : goal.invariant-fixes
invariant-fixes l =
    l.lines.items ++ flat_map fix_line (map (λ f. (f.0.now, f.1.now)) (drop l.purpose-index l.fixes))
    ≡ l.initial.lines.items ++ flat_map fix_line (map (λ f. (f.0.now, f.1.now)) l.fixes)
