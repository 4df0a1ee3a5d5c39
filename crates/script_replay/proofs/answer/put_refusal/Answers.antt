use Rattle.script_replay.proofs.answer.put_refusal.Goals as goal

pub returns-in-StrangeNode-clause-ok : goal.returns-in-StrangeNode-clause-ok
returns-in-StrangeNode-clause-ok g c = rw c.in-StrangeNode.is c.put_bytes.ensures.ok

pub returns-in-StrangeNode-clause-err : goal.returns-in-StrangeNode-clause-err
returns-in-StrangeNode-clause-err g c = rw c.in-StrangeNode.is c.put_bytes.ensures.err

pub returns-in-StrangeNeighbour-clause-ok : goal.returns-in-StrangeNeighbour-clause-ok
returns-in-StrangeNeighbour-clause-ok g c = rw c.in-StrangeNeighbour.is c.put_bytes-in-StrangeNeighbour.ensures.ok

pub returns-in-StrangeNeighbour-clause-err : goal.returns-in-StrangeNeighbour-clause-err
returns-in-StrangeNeighbour-clause-err g c = rw c.in-StrangeNeighbour.is c.put_bytes-in-StrangeNeighbour.ensures.err

pub returns-in-NoSuchCase-clause-ok : goal.returns-in-NoSuchCase-clause-ok
returns-in-NoSuchCase-clause-ok g c = rw c.in-NoSuchCase.is c.put_bytes-in-NoSuchCase.ensures.ok

pub returns-in-NoSuchCase-clause-err : goal.returns-in-NoSuchCase-clause-err
returns-in-NoSuchCase-clause-err g c = rw c.in-NoSuchCase.is c.put_bytes-in-NoSuchCase.ensures.err

pub returns-in-WantsNeighbour-clause-ok : goal.returns-in-WantsNeighbour-clause-ok
returns-in-WantsNeighbour-clause-ok g c = rw c.in-WantsNeighbour.is c.put_bytes-in-WantsNeighbour.ensures.ok

pub returns-in-WantsNeighbour-clause-err : goal.returns-in-WantsNeighbour-clause-err
returns-in-WantsNeighbour-clause-err g c = rw c.in-WantsNeighbour.is c.put_bytes-in-WantsNeighbour.ensures.err

pub returns-in-TakesNoNeighbour-clause-ok : goal.returns-in-TakesNoNeighbour-clause-ok
returns-in-TakesNoNeighbour-clause-ok g c = rw c.in-TakesNoNeighbour.is c.put_bytes-in-TakesNoNeighbour.ensures.ok

pub returns-in-TakesNoNeighbour-clause-err : goal.returns-in-TakesNoNeighbour-clause-err
returns-in-TakesNoNeighbour-clause-err g c = rw c.in-TakesNoNeighbour.is c.put_bytes-in-TakesNoNeighbour.ensures.err

pub returns-in-Disagrees-clause-ok : goal.returns-in-Disagrees-clause-ok
returns-in-Disagrees-clause-ok g c = rw c.in-Disagrees.is c.put_node_fault.ensures.ok

pub returns-in-Disagrees-clause-err : goal.returns-in-Disagrees-clause-err
returns-in-Disagrees-clause-err g c = rw c.in-Disagrees.is c.put_node_fault.ensures.err

pub returns-in-NotEnabled-clause-ok : goal.returns-in-NotEnabled-clause-ok
returns-in-NotEnabled-clause-ok g c = rw c.in-NotEnabled.is c.put_bytes-in-NotEnabled.ensures.ok

pub returns-in-NotEnabled-clause-err : goal.returns-in-NotEnabled-clause-err
returns-in-NotEnabled-clause-err g c = rw c.in-NotEnabled.is c.put_bytes-in-NotEnabled.ensures.err

pub returns-in-NoMemory-clause-ok : goal.returns-in-NoMemory-clause-ok
returns-in-NoMemory-clause-ok g c = rw c.in-NoMemory.is c.put_bytes-in-NoMemory.ensures.ok

pub returns-in-NoMemory-clause-err : goal.returns-in-NoMemory-clause-err
returns-in-NoMemory-clause-err g c = rw c.in-NoMemory.is c.put_bytes-in-NoMemory.ensures.err
