use Rattle.std.proofs.Common.{◌≡◌, true, refl, inr}
use Rattle.camac_tool.proofs.Inputs.{if_ok, on_err, or_else, other_is, other_met, other_was}
use Rattle.camac_tool.proofs.target.There.is_no_output.Goals as goal

pub returns-clause-outputs : goal.returns-clause-outputs
returns-clause-outputs g c =
    let file = c.args.self.now.file in
    let output = other_was _ file c.id_at.result (c.in_ok-differs.ensures.other.0 refl) c.id_at.ensures.found in
    if_ok c.differs-2.result (λ errors. (output, errors)) (other_is _ file c.differs-2.result c.id_at-2.result c.differs-2.ensures.other c.id_at-2.ensures.found)

pub returns-clause-cause : goal.returns-clause-cause
returns-clause-cause g c =
    on_err c.differs-2.result (λ met. or_else (λ errors. inr errors) met)
    (other_met (g.H.Host.fails c.args.host.now ≡ true) _ c.args.self.now.file c.differs-2.result c.id_at-2.result c.differs-2.ensures.other c.id_at-2.ensures.found c.id_at-2.ensures.fails)
