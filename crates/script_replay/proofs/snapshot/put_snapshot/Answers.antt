use Rattle.std.specs.Prelude.{codes}
use Rattle.std.proofs.Common.{ℕ, List, ◌++◌, refl, sym, subst}
use Rattle.std.specs.List.{flat_map}
use Rattle.action_tables.specs.Written.{AppendsPrefix}
use Rattle.action_tables.proofs.Prefixes.{AppendsPrefix-first, AppendsPrefix-then, OnErr-always, OnErr-then, OnOk-then}
use Rattle.applications.specs.Meaning.{meaning_of}
use Rattle.script_replay.specs.Output.{links_of, links_text, shown, snapshot_text}
use Rattle.script_replay.proofs.LinkTexts.{snapshot_text-is}
use Rattle.script_replay.proofs.snapshot.put_snapshot.Goals as goal

pub returns-in_err-put_bytes-clause-err : goal.returns-in_err-put_bytes-clause-err
returns-in_err-put_bytes-clause-err g c =
    let m =
    meaning_of g.P.Application.app g.P.Application.text g.P.Application.from_text g.P.Application.names
    g.P.Invariant.counts in
    let config = c.args.config.now in
    let P : List ℕ → Type 0 =
    λ t. AppendsPrefix (g.W.Write.contents c.args.out.now) (g.W.Write.contents c.put_bytes.new.out) t in
    OnErr-always _ _
    (subst P (sym (snapshot_text-is m config config.graph refl))
    (AppendsPrefix-first _ _ (codes "reset-snapshot 1\n") _ c.in_err-put_bytes.ensures.err))

pub returns-in_err-show_all-clause-err : goal.returns-in_err-show_all-clause-err
returns-in_err-show_all-clause-err g c =
    let m =
    meaning_of g.P.Application.app g.P.Application.text g.P.Application.from_text g.P.Application.names
    g.P.Invariant.counts in
    let config = c.args.config.now in
    let nodes = flat_map (shown m config) config.graph.nodes in
    let P : List ℕ → Type 0 =
    λ t. AppendsPrefix (g.W.Write.contents c.args.out.now) (g.W.Write.contents c.show_all.new.out) t in
    OnErr-always _ _
    (subst P (sym (snapshot_text-is m config config.graph refl))
    (AppendsPrefix-then _ _ _ (codes "reset-snapshot 1\n") _ c.in_ok-put_bytes.ensures.ok
    (AppendsPrefix-first _ _ nodes _ c.in_err-show_all.ensures.err)))

pub returns-clause-err : goal.returns-clause-err
returns-clause-err g c =
    let m =
    meaning_of g.P.Application.app g.P.Application.text g.P.Application.from_text g.P.Application.names
    g.P.Invariant.counts in
    let config = c.args.config.now in
    let nodes = flat_map (shown m config) config.graph.nodes in
    let links = links_text (links_of c.topology.result.now) in
    let before = g.W.Write.contents c.put_bytes.new.out in
    let last = g.W.Write.contents c.put_links.new.out in
    let rest =
    OnErr-then c.put_links.result before (g.W.Write.contents c.show_all.new.out) last nodes links (nodes ++ links) refl
    c.in_ok-show_all.ensures.ok c.put_links.ensures.err in
    OnErr-then c.put_links.result (g.W.Write.contents c.args.out.now) before last (codes "reset-snapshot 1\n")
    (nodes ++ links) (snapshot_text m config) (snapshot_text-is m config c.topology.result.now c.topology.ensures)
    c.in_ok-put_bytes.ensures.ok rest

pub returns-clause-ok : goal.returns-clause-ok
returns-clause-ok g c =
    let m =
    meaning_of g.P.Application.app g.P.Application.text g.P.Application.from_text g.P.Application.names
    g.P.Invariant.counts in
    let config = c.args.config.now in
    let nodes = flat_map (shown m config) config.graph.nodes in
    let links = links_text (links_of c.topology.result.now) in
    let before = g.W.Write.contents c.put_bytes.new.out in
    let last = g.W.Write.contents c.put_links.new.out in
    let rest =
    OnOk-then c.put_links.result before (g.W.Write.contents c.show_all.new.out) last nodes links (nodes ++ links) refl
    c.in_ok-show_all.ensures.ok c.put_links.ensures.ok in
    OnOk-then c.put_links.result (g.W.Write.contents c.args.out.now) before last (codes "reset-snapshot 1\n")
    (nodes ++ links) (snapshot_text m config) (snapshot_text-is m config c.topology.result.now c.topology.ensures)
    c.in_ok-put_bytes.ensures.ok rest
