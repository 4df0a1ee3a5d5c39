use Rattle.std.proofs.Common.{arith, subst}
use Rattle.std.specs.List.Sorted.{IsStrictlyIncreasing}
use Rattle.reset_model.specs.Configuration.{Configuration}
use Rattle.node_threads.proofs.Collecting.{counts}
use Rattle.node_threads.proofs.unlocked.Unlocked.audit.Goals as goal

pub returns-clause-counted : goal.returns-clause-counted
returns-clause-counted g c =
    let u = c.args.self.now in
    counts g.L.Sharing.book u.locked.book g.L.Round.nodes u.locked.tally.total u.last.parts g.L.Ledger.parts
    c.args.seats.now u.locked.nodes c.lemma_is_locked.ensures.counted
    (subst (λ (k : Configuration g.row.P-Local.Denot). IsStrictlyIncreasing k.graph.nodes) c.config.ensures
    c.lemma_is_graph.ensures.graph.rising) u.last_part c.audit_all.ensures.apart c.lemma_one_more.ensures
    (λ all. omega (arith, c.audit_all.ensures.counted all, u.last_empty))
