use Rattle.std.proofs.Common.{◌≡◌, true}
use Rattle.camac_tool.proofs.Inputs.{other_is, other_met}
use Rattle.camac_tool.proofs.target.There.is_not.Goals as goal

pub returns-clause-input : goal.returns-clause-input
returns-clause-input g c = other_is _ c.args.self.now.file c.differs.result c.id_of.result c.differs.ensures.other c.id_of.ensures.file

pub returns-clause-cause : goal.returns-clause-cause
returns-clause-cause g c =
    other_met (g.H.Host.fails c.args.host.now ≡ true) _ c.args.self.now.file c.differs.result c.id_of.result c.differs.ensures.other c.id_of.ensures.file c.id_of.ensures.fails
