use Rattle.std.proofs.Common.{◌∙◌}
use Rattle.std.proofs.Math.Bool.{or-false}
use Rattle.camac_word.proofs.Prefixes.{IsUnderWay-moves}
use Rattle.camac_tool_host.proofs.gathered.GatheredTextWriter.put_text.Goals as goal

pub loop-rest-preserved : goal.loop-rest-preserved
loop-rest-preserved g c = (
  IsUnderWay-moves _ _ c.in-Ok.taken _ _ _ c.loop-rest.invariant.0 c.in-Ok.ensures.bytes,
  c.in-Ok.ensures.failed ∙ or-false _ ∙ c.loop-rest.invariant.1,
)
