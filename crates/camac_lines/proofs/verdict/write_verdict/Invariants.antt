use Rattle.std.proofs.Common.{◌≡◌, drop}
use Rattle.camac_word.specs.Watched.{inner_of, has_failed}
use Rattle.camac_word.proofs.Prefixes.{IsUnderWay}
use Rattle.camac_lines.specs.Verdict.{service_texts, verdict_text}
use Rattle.camac_lines.proofs.verdict.write_verdict.Given as goal

abbrev pub invariant-services : goal.invariant-services
invariant-services g l =
    IsUnderWay (verdict_text l.checked.plan l.checked.script l.checked.bounds)
    (service_texts l.checked.plan l.checked.script.lams (drop l.i l.checked.script.services) (drop l.i l.checked.bounds))
    (g.W.Write.contents (inner_of l.fn.out)) (g.W.Write.contents (inner_of l.out))
    × (has_failed l.out ≡ has_failed l.fn.out)
