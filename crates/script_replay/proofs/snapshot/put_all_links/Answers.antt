use Rattle.std.proofs.Common.{◌≡◌, ◌<◌, ℕ, List, ap, sym, subst, ◌∙◌, arith, get_or, length}
use Rattle.std.specs.List.{flat_map}
use Rattle.std.specs.Io.KnownBytes.{Appends}
use Rattle.std.proofs.lemmas.List.{take_all}
use Rattle.action_tables.specs.Written.{AppendsPrefix}
use Rattle.action_tables.proofs.Pieces.{AppendsPrefix-piece}
use Rattle.action_tables.proofs.Prefixes.{OnErr-always}
use Rattle.script_replay.specs.Output.{link_line}
use Rattle.script_replay.specs.Parts.{links_from}
use Rattle.script_replay.proofs.LinkTexts.{lines_of_links}
use Rattle.script_replay.proofs.snapshot.put_all_links.Goals as goal

pub returns-in_err-put_links_from-clause-err : goal.returns-in_err-put_links_from-clause-err
returns-in_err-put_links_from-clause-err g c =
    let graph = c.args.topology.now in
    let i = c.loop-at.at-index in
    let before = g.W.Write.contents c.args.out.now in
    let here = g.W.Write.contents c.loop-at.out in
    let after = g.W.Write.contents c.put_links_from.new.out in
    let lines : ℕ → List ℕ = λ at. flat_map link_line (links_from graph at) in
    let inside : i < length graph.nodes =
    subst (λ (ids : List ℕ). i < length ids) c.nodes-at-items.ensures c.loop-at-test.true in
    let Prefix : List ℕ → Type 0 = λ ids. AppendsPrefix here after (lines (get_or ids i 0)) in
    let Whole : List ℕ → Type 0 = λ t. AppendsPrefix before after t in
    OnErr-always _ _
    (subst Whole (sym (lines_of_links graph))
    (AppendsPrefix-piece before here after lines graph.nodes i 0 inside c.loop-at.invariant
    (subst Prefix c.nodes-at-items.ensures c.in_err-put_links_from.ensures.err)))

pub returns-clause-ok : goal.returns-clause-ok
returns-clause-ok g c =
    let graph = c.args.topology.now in
    let i = c.loop-at.at-index in
    let lines : ℕ → List ℕ = λ at. flat_map link_line (links_from graph at) in
    let count : length c.nodes-at-items.result.now ≡ length graph.nodes = ap length c.nodes-at-items.ensures in
    let Whole : List ℕ → Type 0 =
    λ t. Appends (g.W.Write.contents c.args.out.now) (g.W.Write.contents c.loop-at.out) t in
    subst Whole
    (ap (flat_map lines) (take_all i graph.nodes (omega (arith, c.loop-at-test.false, count)))
    ∙ sym (lines_of_links graph)) c.loop-at.invariant
