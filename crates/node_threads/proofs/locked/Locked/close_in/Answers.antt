use Rattle.std.proofs.Common.{◌≡◌, Some, None, ap, sym, ◌∙◌}
use Rattle.topology.specs.Graph.{Graph}
use Rattle.node_threads.specs.Closed.{first_missing}
use Rattle.node_threads.specs.declared.closing.CloseFault.TheVariants.{SeatMissing}
use Rattle.node_threads.proofs.Collecting.{decides, seated, unclosed}
use Rattle.node_threads.proofs.Entering.{if_err}
use Rattle.node_threads.proofs.locked.Locked.close_in.Goals as goal

pub returns-in-Ok : goal.returns-in-Ok
returns-in-Ok g c =
    let l = c.args.self.now in
    let seats = c.args.seats.now in
    let nodes = c.nodes.ensures ∙ ap (λ (t : Graph). t.nodes) (c.topology.ensures ∙ ap (λ k. k.graph) c.config.ensures) in
    let none : first_missing l.book.config.graph.nodes seats ≡ None =
    sym (c.first_missing.ensures ∙ ap (λ is. first_missing is seats) nodes) ∙ c.in-None.is in
    let both = decides g.P.Application.app g.P.Application.from_text l.book l.mark c.deref.result.now seats
    c.compared.result (c.deref.ensures.value ∙ c.in-Ok.ensures) none c.compared.ensures.ok c.compared.ensures.differs
    c.compared.ensures.all in
    record {
      ok = both.0;
      seated = seated c.compared.result none;
      err = both.1;
      exact = if_err c.compared.result _ _ (unclosed g.P.Application.app g.P.Application.from_text l.book l.mark seats) both.1;
    }

pub returns-in-Some-clause-exact : goal.returns-in-Some-clause-exact
returns-in-Some-clause-exact g c =
    let l = c.args.self.now in
    let seats = c.args.seats.now in
    let nodes = c.nodes.ensures ∙ ap (λ (t : Graph). t.nodes) (c.topology.ensures ∙ ap (λ k. k.graph) c.config.ensures) in
    let missing : first_missing l.book.config.graph.nodes seats ≡ Some c.in-Some.node =
    sym (c.first_missing.ensures ∙ ap (λ is. first_missing is seats) nodes) ∙ c.in-Some.is in
    unclosed g.P.Application.app g.P.Application.from_text l.book l.mark seats (SeatMissing c.in-Some.node) missing
