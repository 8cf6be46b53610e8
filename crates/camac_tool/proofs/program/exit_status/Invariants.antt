use Rattle.camac_tool.proofs.program.exit_status.Given as goal

abbrev pub ghosts-serve_words : goal.ghosts-serve_words
ghosts-serve_words g a = record { fails = g.R.Host.fails a.rt.now }
