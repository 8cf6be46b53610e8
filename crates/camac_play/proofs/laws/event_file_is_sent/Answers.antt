use Rattle.camac_play.proofs.Files.{report_file, played_file}
use Rattle.camac_play.proofs.laws.event_file_is_sent.Goals as goal

pub returns : goal.returns
returns c = record { report = report_file; played = played_file }
