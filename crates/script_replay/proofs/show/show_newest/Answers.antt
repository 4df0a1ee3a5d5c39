use Rattle.std.proofs.Common.{◌≡◌, ◌<◌, ◌∙◌, ap, subst, List, ℕ, length, get_or}
use Rattle.std.specs.Io.KnownBytes.{Appends}
use Rattle.topology.specs.Graph.{Graph}
use Rattle.action_tables.specs.Written.{AppendsPrefix}
use Rattle.action_tables.proofs.Prefixes.{OnErr-always}
use Rattle.action_tables.proofs.Pieces.{Appends-piece, AppendsPrefix-piece}
use Rattle.applications.specs.Meaning.{meaning_of}
use Rattle.script_replay.specs.Output.{newest_line}
use Rattle.script_replay.proofs.show.show_newest.Goals as goal

pub returns-in_err-newest_of-clause-err : goal.returns-in_err-newest_of-clause-err
returns-in_err-newest_of-clause-err g c =
    let m =
    meaning_of g.P.Application.app g.P.Application.text g.P.Application.from_text g.P.Application.names
    g.P.Invariant.counts in
    let config = c.args.config.now in
    let i = c.loop-node.node-index in
    let items : c.nodes-node-items.result.now ≡ config.graph.nodes =
    c.nodes-node-items.ensures ∙ ap (λ (t : Graph). t.nodes) c.topology.ensures in
    let inside : i < length config.graph.nodes = subst (λ (ids : List ℕ). i < length ids) items c.loop-node-test.true in
    let P : List ℕ → Type 0 =
    λ ids. AppendsPrefix (g.W.Write.contents c.loop-node.out) (g.W.Write.contents c.newest_of.new.out)
    (newest_line m config (get_or ids i 0)) in
    OnErr-always _ _
    (AppendsPrefix-piece (g.W.Write.contents c.args.out.now) (g.W.Write.contents c.loop-node.out)
    (g.W.Write.contents c.newest_of.new.out) (newest_line m config) config.graph.nodes i 0 inside
    c.loop-node.invariant (subst P items c.in_err-newest_of.ensures.err))

pub loop-node-preserved : goal.loop-node-preserved
loop-node-preserved g c =
    let m =
    meaning_of g.P.Application.app g.P.Application.text g.P.Application.from_text g.P.Application.names
    g.P.Invariant.counts in
    let config = c.args.config.now in
    let i = c.loop-node.node-index in
    let items : c.nodes-node-items.result.now ≡ config.graph.nodes =
    c.nodes-node-items.ensures ∙ ap (λ (t : Graph). t.nodes) c.topology.ensures in
    let inside : i < length config.graph.nodes = subst (λ (ids : List ℕ). i < length ids) items c.loop-node-test.true in
    let P : List ℕ → Type 0 =
    λ ids. Appends (g.W.Write.contents c.loop-node.out) (g.W.Write.contents c.newest_of.new.out)
    (newest_line m config (get_or ids i 0)) in
    Appends-piece (g.W.Write.contents c.args.out.now) (g.W.Write.contents c.loop-node.out)
    (g.W.Write.contents c.newest_of.new.out) (newest_line m config) config.graph.nodes i 0 inside
    c.loop-node.invariant (subst P items c.in_ok-newest_of.ensures.ok)
