use Rattle.camac_tool_host.specs.Apart.{words_of}
use Rattle.camac_tool.proofs.program.Tool.do_job.Given as goal

-- what is known of the disk is what the system tells for the words of this run
abbrev pub ghosts-run : goal.ghosts-run
ghosts-run g a = record { begun = g.R.Host.holds a.events; saves = g.R.Host.saved a.self.now.rt.now (words_of a.words) }

abbrev pub ghosts-drive : goal.ghosts-drive
ghosts-drive g a = record { begun = g.R.Host.holds a.events; saves = g.R.Host.saved a.self.now.rt.now (words_of a.words) }
