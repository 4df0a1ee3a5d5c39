use Rattle.std.proofs.Common.{◌≤◌, Contains, ap, inr, length, sym, subst, arith}
use Rattle.topology.specs.Components.{component}
use Rattle.topology.specs.Graph.{IsGraph, IsNode, node_bound}
use Rattle.topology.proofs.Components.{component_is, reached_itself}
use Rattle.reset_model.specs.Refinement.{abstract_of}
use Rattle.reset_model.specs.declared.event.Event.TheVariants.{Open}
use Rattle.link_predicates.proofs.Silence.{silent}
use Rattle.link_predicates.proofs.laws.joined_are_silent.Goals as goal

pub returns-clause-invariant : goal.returns-clause-invariant
returns-clause-invariant g c = λ config i graph inv joined.
    let app = g.P.Application.app in
    let laws = g.met.P.Application g.world.𝓛 g.world.𝓜 g.world.𝓡 ((λ s x. x), (λ x. x), (λ x. x), λ x. x) in
    silent app config graph i joined
    (λ j linked.
    let part = component_is config.graph i graph (graph.ends i j linked) in
    let few : length (component config.graph i).ids ≤ node_bound config.graph =
    omega (arith, ap (λ xs. length xs) part.ids) in
    (laws.quiet (component config.graph i) (node_bound config.graph) part.as_graph few).at (abstract_of app config) inv i j
    ((part.same_links i j).1 (reached_itself config.graph i, linked)))

pub returns-clause-opened : goal.returns-clause-opened
returns-clause-opened g c = λ before after es ds i o graph counted sound run reached opened joined.
    let app = g.P.Application.app in
    let laws = g.met.P.Application g.world.𝓛 g.world.𝓜 g.world.𝓡 ((λ s x. x), (λ x. x), (λ x. x), λ x. x) in
    let kept = c.runs_stay_sound.ensures before after es ds graph counted sound run in
    let by_steps = c.runs_are_steps.ensures before after es ds graph counted sound run in
    let there : IsGraph after.graph = subst IsGraph (sym kept.0) graph in
    silent app after there i joined
    (λ j linked.
    let node : IsNode after.graph i = there.ends i j linked in
    let inv =
    by_steps.headline.keeps i (subst (λ h. IsNode h i) kept.0 node)
    (inr (o, reached, subst (λ xs. Contains xs (Open o)) (sym by_steps.events) opened)) in
    let part = component_is after.graph i there node in
    let few : length (component after.graph i).ids ≤ node_bound after.graph =
    omega (arith, ap (λ xs. length xs) part.ids) in
    (laws.quiet (component after.graph i) (node_bound after.graph) part.as_graph few).at (abstract_of app after) inv i j
    ((part.same_links i j).1 (reached_itself after.graph i, linked)))
