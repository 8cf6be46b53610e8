use Rattle.std.proofs.Common.{arith}
use Rattle.camac_event.specs.Spelling.{header}
use Rattle.camac_event.specs.declared.event.Version.TheVariants.{Two}
use Rattle.camac_tool_host.proofs.Lines.{writes_nothing, written_behind}
use Rattle.camac_tool_host.proofs.gathered.Gathered.put_header.Goals as goal

pub returns-in_err-write_held-clause-text : goal.returns-in_err-write_held-clause-text
returns-in_err-write_held-clause-text g c =
    writes_nothing c.from_residual.result _ _ (header Two) c.from_residual.ensures.0 (omega arith) c.in_err-write_held.ensures.bytes

pub returns-clause-text : goal.returns-clause-text
returns-clause-text g c = written_behind c.write_header.result _ _ _ _ (header Two) c.in_ok-write_held.ensures.bytes c.in_ok-write_held.ensures.empty c.write_header.ensures.text
