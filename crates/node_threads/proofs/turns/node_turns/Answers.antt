use Rattle.node_threads.proofs.turns.node_turns.Goals as goal

pub returns-clause-full : goal.returns-clause-full
returns-clause-full g c = λ full. c.take_turns-ended.ensures.full (c.end_of.ensures full)
