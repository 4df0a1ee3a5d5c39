use Rattle.script_replay.proofs.answer.put_topology_fault.Goals as goal

pub returns-in-TextTooLong-clause-ok : goal.returns-in-TextTooLong-clause-ok
returns-in-TextTooLong-clause-ok g c = rw c.in-TextTooLong.is c.put_bytes.ensures.ok

pub returns-in-NotToml-clause-ok : goal.returns-in-NotToml-clause-ok
returns-in-NotToml-clause-ok g c = rw c.in-NotToml.is c.put_bytes-in-NotToml.ensures.ok

pub returns-in-MissingKey-clause-ok : goal.returns-in-MissingKey-clause-ok
returns-in-MissingKey-clause-ok g c = rw c.in-MissingKey.is c.put_bytes-in-MissingKey.ensures.ok

pub returns-in-UnknownKey-clause-ok : goal.returns-in-UnknownKey-clause-ok
returns-in-UnknownKey-clause-ok g c = rw c.in-UnknownKey.is c.put_bytes-in-UnknownKey.ensures.ok

pub returns-in-WrongKind-clause-ok : goal.returns-in-WrongKind-clause-ok
returns-in-WrongKind-clause-ok g c = rw c.in-WrongKind.is c.put_bytes-in-WrongKind.ensures.ok

pub returns-in-UnknownApp-clause-ok : goal.returns-in-UnknownApp-clause-ok
returns-in-UnknownApp-clause-ok g c = rw c.in-UnknownApp.is c.put_bytes-in-UnknownApp.ensures.ok

pub returns-in-NoMemory-clause-ok : goal.returns-in-NoMemory-clause-ok
returns-in-NoMemory-clause-ok g c = rw c.in-NoMemory.is c.put_bytes-in-NoMemory.ensures.ok

pub returns-in-TextTooLong-clause-err : goal.returns-in-TextTooLong-clause-err
returns-in-TextTooLong-clause-err g c = rw c.in-TextTooLong.is c.put_bytes.ensures.err

pub returns-in-NotToml-clause-err : goal.returns-in-NotToml-clause-err
returns-in-NotToml-clause-err g c = rw c.in-NotToml.is c.put_bytes-in-NotToml.ensures.err

pub returns-in-MissingKey-clause-err : goal.returns-in-MissingKey-clause-err
returns-in-MissingKey-clause-err g c = rw c.in-MissingKey.is c.put_bytes-in-MissingKey.ensures.err

pub returns-in-UnknownKey-clause-err : goal.returns-in-UnknownKey-clause-err
returns-in-UnknownKey-clause-err g c = rw c.in-UnknownKey.is c.put_bytes-in-UnknownKey.ensures.err

pub returns-in-WrongKind-clause-err : goal.returns-in-WrongKind-clause-err
returns-in-WrongKind-clause-err g c = rw c.in-WrongKind.is c.put_bytes-in-WrongKind.ensures.err

pub returns-in-UnknownApp-clause-err : goal.returns-in-UnknownApp-clause-err
returns-in-UnknownApp-clause-err g c = rw c.in-UnknownApp.is c.put_bytes-in-UnknownApp.ensures.err

pub returns-in-NoMemory-clause-err : goal.returns-in-NoMemory-clause-err
returns-in-NoMemory-clause-err g c = rw c.in-NoMemory.is c.put_bytes-in-NoMemory.ensures.err

pub returns-in-Topology-clause-ok : goal.returns-in-Topology-clause-ok
returns-in-Topology-clause-ok g c = rw c.in-Topology.is c.put_graph_fault.ensures.ok

pub returns-in-Topology-clause-err : goal.returns-in-Topology-clause-err
returns-in-Topology-clause-err g c = rw c.in-Topology.is c.put_graph_fault.ensures.err
