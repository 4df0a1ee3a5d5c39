use Rattle.history.proofs.book.Book.config_after.Goals as goal

pub config_before-requires-clause-log : goal.config_before-requires-clause-log
config_before-requires-clause-log g c κs within = c.self.invariant.4
