use Rattle.diagnoses.proofs.said.put_head.Goals as goal

pub returns-clause-ok : goal.returns-clause-ok
returns-clause-ok g c = rw (← c.as_bytes.ensures.value) c.put_parts.ensures.ok
