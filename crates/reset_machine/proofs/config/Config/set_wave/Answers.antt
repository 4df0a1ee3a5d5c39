use Rattle.reset_machine.proofs.Locality.{known_restart, known_wave}
use Rattle.reset_machine.proofs.config.Config.set_wave.Goals.{in-Some, in_default}
use Rattle.reset_machine.proofs.config.Config.set_wave.Goals as goal

pub invariant_of-self : goal.invariant_of-self
invariant_of-self g c =
    let app = g.P.Application.app in
    let i = c.self.inside in
    let graph = c.lemma_is_graph.ensures.graph in
    let doubts = rw c.topology.ensures at c.doubt_around.ensures in
    rw c.set_wave.ensures (elim c.match-restarted.branch [
      | in-Some w ↦ rw (w.self-inside-is, w.set_local.ensures)
          (known_restart app i.nodes c.args.index graph i.known c.doubt_around.new.known c.self.invariant doubts
          c.args.regs w.in-Some.local)
      | in_default w ↦ rw w.self-inside-is
          (known_wave app i.nodes c.args.index graph i.known c.doubt_around.new.known c.self.invariant doubts
          c.args.regs)
    ])
