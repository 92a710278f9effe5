use Rattle.zdd_shared_table.proofs.search.ends_at.Given as goal

abbrev pub ghosts-load : goal.ghosts-load
ghosts-load a = record { word = a.word; passed = a.passed }

abbrev pub ghosts-exchange : goal.ghosts-exchange
ghosts-exchange a = record { word = a.word; passed = a.passed }
