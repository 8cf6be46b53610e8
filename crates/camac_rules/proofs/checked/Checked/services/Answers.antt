use Rattle.std.proofs.Common.{◌≡◌, length, subst, arith}
use Rattle.camac_rules.specs.Checked.{CheckedScript}
use Rattle.camac_rules.proofs.Fitting.{fine_count}
use Rattle.camac_rules.proofs.checked.Checked.services.Goals as goal

pub returns-clause-services : goal.returns-clause-services
returns-clause-services c =
    let k = c.self.inside in
    let count = fine_count k.linked.plan k.linked.script k.bounds.items k.linked.script.services c.self.invariant.services in
    let Q : CheckedScript → Type 0 = λ s. c.len.result ≡ length s.script.services in
    let here : c.len.result ≡ length k.linked.script.services = omega arith in
    subst Q c.self.view_is here
