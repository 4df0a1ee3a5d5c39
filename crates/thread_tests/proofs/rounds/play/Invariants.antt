use Rattle.thread_tests.proofs.rounds.play.Given as goal

abbrev pub ghosts-play_round-L-Round : goal.ghosts-play_round-L-Round
ghosts-play_round-L-Round g a = record { nodes = a.book.config.graph.nodes }

abbrev pub ghosts-play_round-L-Sharing : goal.ghosts-play_round-L-Sharing
ghosts-play_round-L-Sharing g a = record { book = a.book }

abbrev pub ghosts-play_round-L-Ledger : goal.ghosts-play_round-L-Ledger
ghosts-play_round-L-Ledger g a = record { name = a.blank.name; parts = a.blank.parts }
