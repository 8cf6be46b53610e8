use Rattle.std.proofs.Common.{refl}
use Rattle.std.specs.Str.{is_utf8, chars}
use Rattle.toml.proofs.OnLiterals.{toml_on_literals}
use Rattle.camac_module.specs.Entry.{no_entries}
use Rattle.camac_laws.specs.SampleText.{sample_text}
use Rattle.camac_laws.proofs.sample.sample_text_is_read.Goals as goal

pub returns : goal.returns
unfolding toml_on_literals sample_text no_entries is_utf8 chars
returns c = refl
