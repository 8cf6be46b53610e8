use Rattle.camac_run.proofs.Sizes.{machine_fits}
use Rattle.camac_run.proofs.runner.Runner.last_words.Goals as goal

pub words-requires : goal.words-requires
words-requires g c = machine_fits _ c.requires-raw.1.1.1
