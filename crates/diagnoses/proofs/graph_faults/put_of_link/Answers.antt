use Rattle.diagnoses.proofs.graph_faults.put_of_link.Goals as goal

pub returns-clause-ok : goal.returns-clause-ok
returns-clause-ok g c = rw (← c.from.ensures, ← c.from-2.ensures) c.put_parts.ensures.ok
