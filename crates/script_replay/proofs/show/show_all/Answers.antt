use Rattle.std.proofs.Common.{◌≡◌, ◌<◌, ◌∙◌, ap, subst, List, ℕ, length, get_or}
use Rattle.topology.specs.Graph.{Graph}
use Rattle.action_tables.specs.Written.{AppendsPrefix}
use Rattle.action_tables.proofs.Prefixes.{OnErr-always}
use Rattle.action_tables.proofs.Pieces.{AppendsPrefix-piece}
use Rattle.applications.specs.Meaning.{meaning_of}
use Rattle.script_replay.specs.Output.{at_node, shown}
use Rattle.script_replay.proofs.Nodes.{told_at}
use Rattle.script_replay.proofs.show.show_all.Goals as goal

pub returns-in_err-show_node-clause-err : goal.returns-in_err-show_node-clause-err
returns-in_err-show_node-clause-err g c =
    let m =
    meaning_of g.P.Application.app g.P.Application.text g.P.Application.from_text g.P.Application.names
    g.P.Invariant.counts in
    let config = c.args.config.now in
    let i = c.loop-id.id-index in
    let items : c.nodes-id-items.result.now ≡ config.graph.nodes =
    c.nodes-id-items.ensures ∙ ap (λ (t : Graph). t.nodes) c.topology.ensures in
    let inside : i < length config.graph.nodes = subst (λ (ids : List ℕ). i < length ids) items c.loop-id-test.true in
    let P : List ℕ → Type 0 =
    λ ids. AppendsPrefix (g.W.Write.contents c.loop-id.out) (g.W.Write.contents c.show_node.new.out)
    (at_node config (get_or ids i 0) (shown m config (get_or ids i 0))) in
    let Q : List ℕ → Type 0 =
    λ t. AppendsPrefix (g.W.Write.contents c.loop-id.out) (g.W.Write.contents c.show_node.new.out) t in
    OnErr-always _ _
    (AppendsPrefix-piece (g.W.Write.contents c.args.out.now) (g.W.Write.contents c.loop-id.out)
    (g.W.Write.contents c.show_node.new.out) (shown m config) config.graph.nodes i 0 inside
    c.loop-id.invariant
    (subst Q (told_at config (shown m config) i inside) (subst P items c.in_err-show_node.ensures.err)))
