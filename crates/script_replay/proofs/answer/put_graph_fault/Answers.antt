use Rattle.std.proofs.Common.{sym}
use Rattle.script_replay.proofs.FaultTexts.{twice_link}
use Rattle.script_replay.proofs.answer.put_graph_fault.Goals as goal

pub returns-in-NoNodes-clause-ok : goal.returns-in-NoNodes-clause-ok
returns-in-NoNodes-clause-ok g c = rw c.in-NoNodes.is c.put_bytes.ensures.ok

pub returns-in-TooManyNodes-clause-ok : goal.returns-in-TooManyNodes-clause-ok
returns-in-TooManyNodes-clause-ok g c = rw c.in-TooManyNodes.is c.put_bytes-in-TooManyNodes.ensures.ok

pub returns-in-BadId-clause-ok : goal.returns-in-BadId-clause-ok
returns-in-BadId-clause-ok g c = rw c.in-BadId.is c.put_node_fault.ensures.ok

pub returns-in-TwiceNode-clause-ok : goal.returns-in-TwiceNode-clause-ok
returns-in-TwiceNode-clause-ok g c = rw c.in-TwiceNode.is c.put_node_fault-in-TwiceNode.ensures.ok

pub returns-in-TooManyLinks-clause-ok : goal.returns-in-TooManyLinks-clause-ok
returns-in-TooManyLinks-clause-ok g c = rw c.in-TooManyLinks.is c.put_bytes-in-TooManyLinks.ensures.ok

pub returns-in-StrangeNode-clause-ok : goal.returns-in-StrangeNode-clause-ok
returns-in-StrangeNode-clause-ok g c = rw c.in-StrangeNode.is c.put_node_fault-in-StrangeNode.ensures.ok

pub returns-in-SelfLink-clause-ok : goal.returns-in-SelfLink-clause-ok
returns-in-SelfLink-clause-ok g c = rw c.in-SelfLink.is c.put_node_fault-in-SelfLink.ensures.ok

pub returns-in-TwiceLink-clause-ok : goal.returns-in-TwiceLink-clause-ok
returns-in-TwiceLink-clause-ok g c =
    rw (c.in-TwiceLink.is, sym (twice_link c.in-TwiceLink.a c.in-TwiceLink.b)) c.put_link_fault.ensures.ok

pub returns-in-TwiceLink-clause-err : goal.returns-in-TwiceLink-clause-err
returns-in-TwiceLink-clause-err g c =
    rw (c.in-TwiceLink.is, sym (twice_link c.in-TwiceLink.a c.in-TwiceLink.b)) c.put_link_fault.ensures.err

pub returns-in-NoMemory-clause-ok : goal.returns-in-NoMemory-clause-ok
returns-in-NoMemory-clause-ok g c = rw c.in-NoMemory.is c.put_bytes-in-NoMemory.ensures.ok

pub returns-in-NoSuchLink-clause-ok : goal.returns-in-NoSuchLink-clause-ok
returns-in-NoSuchLink-clause-ok g c = rw c.in-NoSuchLink.is c.put_bytes-in-NoSuchLink.ensures.ok

pub returns-in-LinkIsThere-clause-ok : goal.returns-in-LinkIsThere-clause-ok
returns-in-LinkIsThere-clause-ok g c = rw c.in-LinkIsThere.is c.put_bytes-in-LinkIsThere.ensures.ok

pub returns-in-NodeIsUp-clause-ok : goal.returns-in-NodeIsUp-clause-ok
returns-in-NodeIsUp-clause-ok g c = rw c.in-NodeIsUp.is c.put_bytes-in-NodeIsUp.ensures.ok

pub returns-in-NoNodes-clause-err : goal.returns-in-NoNodes-clause-err
returns-in-NoNodes-clause-err g c = rw c.in-NoNodes.is c.put_bytes.ensures.err

pub returns-in-TooManyNodes-clause-err : goal.returns-in-TooManyNodes-clause-err
returns-in-TooManyNodes-clause-err g c = rw c.in-TooManyNodes.is c.put_bytes-in-TooManyNodes.ensures.err

pub returns-in-BadId-clause-err : goal.returns-in-BadId-clause-err
returns-in-BadId-clause-err g c = rw c.in-BadId.is c.put_node_fault.ensures.err

pub returns-in-TwiceNode-clause-err : goal.returns-in-TwiceNode-clause-err
returns-in-TwiceNode-clause-err g c = rw c.in-TwiceNode.is c.put_node_fault-in-TwiceNode.ensures.err

pub returns-in-TooManyLinks-clause-err : goal.returns-in-TooManyLinks-clause-err
returns-in-TooManyLinks-clause-err g c = rw c.in-TooManyLinks.is c.put_bytes-in-TooManyLinks.ensures.err

pub returns-in-StrangeNode-clause-err : goal.returns-in-StrangeNode-clause-err
returns-in-StrangeNode-clause-err g c = rw c.in-StrangeNode.is c.put_node_fault-in-StrangeNode.ensures.err

pub returns-in-SelfLink-clause-err : goal.returns-in-SelfLink-clause-err
returns-in-SelfLink-clause-err g c = rw c.in-SelfLink.is c.put_node_fault-in-SelfLink.ensures.err

pub returns-in-NoMemory-clause-err : goal.returns-in-NoMemory-clause-err
returns-in-NoMemory-clause-err g c = rw c.in-NoMemory.is c.put_bytes-in-NoMemory.ensures.err

pub returns-in-NoSuchLink-clause-err : goal.returns-in-NoSuchLink-clause-err
returns-in-NoSuchLink-clause-err g c = rw c.in-NoSuchLink.is c.put_bytes-in-NoSuchLink.ensures.err

pub returns-in-LinkIsThere-clause-err : goal.returns-in-LinkIsThere-clause-err
returns-in-LinkIsThere-clause-err g c = rw c.in-LinkIsThere.is c.put_bytes-in-LinkIsThere.ensures.err

pub returns-in-NodeIsUp-clause-err : goal.returns-in-NodeIsUp-clause-err
returns-in-NodeIsUp-clause-err g c = rw c.in-NodeIsUp.is c.put_bytes-in-NodeIsUp.ensures.err
