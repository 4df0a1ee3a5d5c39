use Rattle.reset_machine.proofs.Locality.{known_tree}
use Rattle.reset_machine.proofs.config.Config.set_tree.Goals as goal

pub invariant_of-self : goal.invariant_of-self
invariant_of-self g c =
    let app = g.P.Application.app in
    let i = c.self.inside in
    let doubts = rw c.topology.ensures at c.doubt_around.ensures in
    rw c.set_tree.ensures
    (known_tree app i.nodes c.args.index c.lemma_is_graph.ensures.graph i.known c.doubt_around.new.known
    c.self.invariant doubts c.args.regs)
