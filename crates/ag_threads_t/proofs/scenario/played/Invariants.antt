use Rattle.ag_threads_t.proofs.scenario.played.Given as goal

abbrev pub ghosts-play_lines : goal.ghosts-play_lines
ghosts-play_lines g a = record { table = a.opened.0.table.shared.table_id }
