use Rattle.node_threads.proofs.run.run_nodes_as.Given as goal

abbrev pub ghosts-run_round-L-Round : goal.ghosts-run_round-L-Round
ghosts-run_round-L-Round g a = record { nodes = a.book.config.graph.nodes }

abbrev pub ghosts-run_round-L-Sharing : goal.ghosts-run_round-L-Sharing
ghosts-run_round-L-Sharing g a = record { book = a.book }

abbrev pub ghosts-run_round-L-Ledger : goal.ghosts-run_round-L-Ledger
ghosts-run_round-L-Ledger g a = record { name = a.blank.name; parts = a.blank.parts }
