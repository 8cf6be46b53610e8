-- How a run ended.
use Rattle.std.specs.Prelude.{Option, Some, None}
use Rattle.camac_model.specs.Behaviour.{Stop, short, overrun}
use Rattle.camac_run.specs.declared.progress.End.{End}
use Rattle.camac_run.specs.declared.progress.End.TheVariants.{Ended, Short, Overrun}

-- why a run with this end stopped, if it did
abbrev pub stop_in : End → Option Stop
stop_in Ended = None
stop_in Short = Some short
stop_in (Overrun o) = Some (overrun o.c o.wait)
