use Rattle.std.proofs.Common.{◌≡◌, ℕ, ◌++◌, Global, Vec, append-nil, flat_map, map, slice_index, subst, sym, take_all}
use Rattle.std.proofs.Common.{ap, ◌∙◌}
use Rattle.topology.specs.Graph.{Graph, AreLinked, are_linked, neighbours_of, node_bound}
use Rattle.reset_machine.proofs.CaseArguments.{near_passes}
use Rattle.reset_machine.proofs.NearSeen.{at_indexes}
use Rattle.reset_model.specs.View.{Neighbour, near_of}
use Rattle.link_predicates.specs.Faults.{link_faults}
use Rattle.link_predicates.specs.declared.fault.LinkFault.{LinkFault}
use Rattle.link_predicates.proofs.NodeFaults.{more_told_at}
use Rattle.link_predicates.proofs.check.add_links.Goals.{then-not-is_quiet+in_ok-add_link, else-not-is_quiet}
use Rattle.link_predicates.proofs.check.add_links.Goals as goal

pub add_link-requires-clause-others : goal.add_link-requires-clause-others
add_link-requires-clause-others g c = λ κs within same.
    let graph = c.args.config.now.graph in
    let near = c.neighbours-near-items.result.now in
    let i = slice_index graph.ids c.args.index in
    let j = slice_index graph.ids (slice_index near c.loop-near.near-index) in
    let Lists : Graph → Type 0 =
    λ h. map (λ n. slice_index h.ids n) near ≡ neighbours_of h (slice_index h.ids c.args.index) in
    let lists = subst Lists c.topology.ensures c.neighbours-near-items.ensures.ids in
    let linked : AreLinked graph i j =
    near_passes graph.ids (are_linked graph i) near graph.ids c.loop-near.near-index lists c.loop-near-test.true in
    let P : ℕ → Type 0 = λ k. AreLinked graph i k in
    let own : j ≡ i =
    sym (ap (λ (n : Neighbour g.row.P-Local.Denot). n.id) c.end_at-then-not-is_quiet.ensures) ∙ same
    ∙ ap (λ (n : Neighbour g.row.P-Local.Denot). n.id) c.requires.there in
    c.lemma_is_graph.ensures.graph.irreflexive i (subst P own linked)

pub loop-near-preserved : goal.loop-near-preserved
loop-near-preserved g c =
    let app = g.P.Application.app in
    let config = c.args.config.now in
    let ids = config.graph.ids in
    let own = c.args.own.now in
    let before = c.loop-near.found.items in
    let near = c.neighbours-near-items.result.now in
    let index = c.loop-near.near-index in
    let limits = c.limits_of-limits.result in
    let Told : ℕ → ℕ → Neighbour g.row.P-Local.Denot → Type 0 =
    λ K m other. c.if-not-is_quiet.found.items ≡ before ++ link_faults app K m own other in
    let there = near_of app config (slice_index ids (slice_index near index)) in
    let told : (other : Neighbour g.row.P-Local.Denot) → other ≡ there → Told limits.k limits.modulus other
    → Told (node_bound config.graph) config.modulus there = λ other is added.
    subst (λ m. Told (node_bound config.graph) m there) c.limits_of-limits.ensures.modulus
    (subst (λ K. Told K limits.modulus there) c.limits_of-limits.ensures.bound
    (subst (Told limits.k limits.modulus) is added)) in
    let more = λ (added : Told (node_bound config.graph) config.modulus there).
    more_told_at (near_of app config) (link_faults app (node_bound config.graph) config.modulus own) ids near index _ before _
    c.loop-near-test.true added c.loop-near.invariant in
    elim c.if-not-is_quiet.branch [
      | then-not-is_quiet+in_ok-add_link w ↦ more
          (told w.end_at-then-not-is_quiet.result w.end_at-then-not-is_quiet.ensures
          (ap (λ (v : Vec LinkFault Global). v.items) w.found-is ∙ w.in_ok-add_link.ensures))
      | else-not-is_quiet w ↦ more (told c.end_at.result c.end_at.ensures
          (ap (λ (v : Vec LinkFault Global). v.items) w.found-is ∙ sym (append-nil before)
          ∙ ap (λ l. before ++ l) (sym (c.is_quiet.ensures w.if-not-is_quiet.false))))
    ]

pub returns : goal.returns
returns g c =
    let app = g.P.Application.app in
    let config = c.args.config.now in
    let graph = config.graph in
    let near = c.neighbours-near-items.result.now in
    let Lists : Graph → Type 0 =
    λ h. map (λ n. slice_index h.ids n) near ≡ neighbours_of h (slice_index h.ids c.args.index) in
    let lists = subst Lists c.topology.ensures c.neighbours-near-items.ensures.ids in
    let all = take_all c.loop-near.near-index near c.loop-near-test.false in
    c.loop-near.invariant
    ∙ ap (λ ns. c.args.found.now.items
    ++ flat_map (link_faults app (node_bound graph) config.modulus c.args.own.now) (at_indexes (near_of app config) graph.ids ns)) all
    ∙ ap (λ js. c.args.found.now.items
    ++ flat_map (link_faults app (node_bound graph) config.modulus c.args.own.now) (map (near_of app config) js)) lists
