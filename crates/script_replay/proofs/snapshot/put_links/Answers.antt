use Rattle.std.proofs.Common.{◌≡◌, ◌≢◌, ℕ, List, sym, subst, arith}
use Rattle.std.specs.FinSet as set
use Rattle.std.specs.Prelude.{OnErr, OnOk}
use Rattle.std.specs.Io.KnownBytes.{Appends}
use Rattle.action_tables.specs.Written.{AppendsPrefix}
use Rattle.script_replay.proofs.LinkTexts.{linked_text, unlinked_text}
use Rattle.script_replay.proofs.snapshot.put_links.Goals as goal

pub returns-then-link_count-eq0-clause-ok : goal.returns-then-link_count-eq0-clause-ok
returns-then-link_count-eq0-clause-ok g c =
    let graph = c.args.topology.now in
    let none : set.len graph.links ≡ 0 = omega (arith, c.link_count.ensures, c.if-link_count-eq0.true) in
    let Whole : List ℕ → Type 0 =
    λ t. OnOk c.put_bytes.result (Appends (g.W.Write.contents c.args.out.now) (g.W.Write.contents c.put_bytes.new.out) t)
    in
    subst Whole (sym (unlinked_text graph none)) c.put_bytes.ensures.ok

pub returns-then-link_count-eq0-clause-err : goal.returns-then-link_count-eq0-clause-err
returns-then-link_count-eq0-clause-err g c =
    let graph = c.args.topology.now in
    let none : set.len graph.links ≡ 0 = omega (arith, c.link_count.ensures, c.if-link_count-eq0.true) in
    let Whole : List ℕ → Type 0 =
    λ t. OnErr c.put_bytes.result
    (AppendsPrefix (g.W.Write.contents c.args.out.now) (g.W.Write.contents c.put_bytes.new.out) t) in
    subst Whole (sym (unlinked_text graph none)) c.put_bytes.ensures.err

pub returns-clause-ok : goal.returns-clause-ok
returns-clause-ok g c =
    let graph = c.args.topology.now in
    let some : set.len graph.links ≢ 0 =
    λ none. absurd (omega (arith, c.link_count.ensures, c.if-link_count-eq0.false, none)) in
    let Whole : List ℕ → Type 0 =
    λ t. OnOk c.put_all_links.result
    (Appends (g.W.Write.contents c.args.out.now) (g.W.Write.contents c.put_all_links.new.out) t) in
    subst Whole (sym (linked_text graph c.lemma_is_graph.ensures.graph some)) c.put_all_links.ensures.ok

pub returns-clause-err : goal.returns-clause-err
returns-clause-err g c =
    let graph = c.args.topology.now in
    let some : set.len graph.links ≢ 0 =
    λ none. absurd (omega (arith, c.link_count.ensures, c.if-link_count-eq0.false, none)) in
    let Whole : List ℕ → Type 0 =
    λ t. OnErr c.put_all_links.result
    (AppendsPrefix (g.W.Write.contents c.args.out.now) (g.W.Write.contents c.put_all_links.new.out) t) in
    subst Whole (sym (linked_text graph c.lemma_is_graph.ensures.graph some)) c.put_all_links.ensures.err
