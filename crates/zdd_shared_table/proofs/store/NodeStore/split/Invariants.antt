use Rattle.zdd_shared_table.proofs.store.NodeStore.split.Given as goal

abbrev pub ghosts-cut : goal.ghosts-cut
ghosts-cut a = record { share = a.share }
