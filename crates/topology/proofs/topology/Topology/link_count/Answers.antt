use Rattle.topology.proofs.topology.Topology.link_count.Goals as goal

pub returns : goal.returns
returns c = rw (← c.self.view_is) c.self.invariant.counted
