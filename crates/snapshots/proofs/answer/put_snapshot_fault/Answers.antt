use Rattle.snapshots.proofs.answer.put_snapshot_fault.Goals as goal

pub returns-in-StrangeNode-clause-ok : goal.returns-in-StrangeNode-clause-ok
returns-in-StrangeNode-clause-ok g c = rw c.in-StrangeNode.is c.put_node_fault.ensures.ok

pub returns-in-TwiceNode-clause-ok : goal.returns-in-TwiceNode-clause-ok
returns-in-TwiceNode-clause-ok g c = rw c.in-TwiceNode.is c.put_node_fault-in-TwiceNode.ensures.ok

pub returns-in-SelfLink-clause-ok : goal.returns-in-SelfLink-clause-ok
returns-in-SelfLink-clause-ok g c = rw c.in-SelfLink.is c.put_node_fault-in-SelfLink.ensures.ok

pub returns-in-TwiceLink-clause-ok : goal.returns-in-TwiceLink-clause-ok
returns-in-TwiceLink-clause-ok g c = rw c.in-TwiceLink.is c.put_link_fault.ensures.ok

pub returns-in-TooManyLinks-clause-ok : goal.returns-in-TooManyLinks-clause-ok
returns-in-TooManyLinks-clause-ok g c = rw c.in-TooManyLinks.is c.put_bytes-in-TooManyLinks.ensures.ok

pub returns-in-NoMemory-clause-ok : goal.returns-in-NoMemory-clause-ok
returns-in-NoMemory-clause-ok g c = rw c.in-NoMemory.is c.put_bytes-in-NoMemory.ensures.ok
