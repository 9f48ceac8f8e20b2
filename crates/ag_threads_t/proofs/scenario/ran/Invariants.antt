use Rattle.ag_threads_t.proofs.scenario.ran.Given as goal

abbrev pub ghosts-run : goal.ghosts-run
ghosts-run g a = record { table = a.opened.0.table.shared.table_id }
