use Rattle.std.proofs.Common.{refl}
use Rattle.camac_module.specs.Entry.{no_entries}
use Rattle.camac_engines.specs.Sample.{adc, reg}
use Rattle.camac_tool.proofs.laws.sample_is_of_the_rows.Goals as goal

pub returns : goal.returns
unfolding adc reg no_entries
returns c = refl
