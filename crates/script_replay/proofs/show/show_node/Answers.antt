use Rattle.std.proofs.Common.{List, ℕ, subst, sym}
use Rattle.std.specs.Io.KnownBytes.{Appends}
use Rattle.std.proofs.KnownBytes.{Appends-trans}
use Rattle.std.proofs.lemmas.Result.{on_ok_weaker}
use Rattle.action_tables.specs.Written.{AppendsPrefix}
use Rattle.action_tables.proofs.Prefixes.{AppendsPrefix-first, OnErr-always, OnErr-then}
use Rattle.applications.specs.Meaning.{meaning_of}
use Rattle.history.specs.HistoryText.{ended}
use Rattle.script_replay.specs.Output.{node_head, shown}
use Rattle.script_replay.proofs.Nodes.{shown_node, told_none}
use Rattle.script_replay.proofs.show.show_node.Goals as goal

pub returns-in_err-put_head-in-Some-clause-err : goal.returns-in_err-put_head-in-Some-clause-err
returns-in_err-put_head-in-Some-clause-err g c =
    let m =
    meaning_of g.P.Application.app g.P.Application.text g.P.Application.from_text g.P.Application.names
    g.P.Invariant.counts in
    let head = node_head c.args.id c.in-Some.tree c.in-Some.wave in
    let local = ended (m.text c.in-Some.local.now) in
    let at = c.in-Some.ensures.found in
    let is =
    shown_node m c.args.config.now c.args.id c.in-Some.tree c.in-Some.wave c.in-Some.local.now at.0 at.1 at.2 at.3
    in
    let P : List ℕ → Type 0 =
    λ t. AppendsPrefix (g.W.Write.contents c.args.out.now) (g.W.Write.contents c.put_head.new.out) t in
    OnErr-always _ _ (subst P (sym is) (AppendsPrefix-first _ _ head local c.in_err-put_head-in-Some.ensures.err))

pub returns-in_ok-put_head-in-Some-clause-err : goal.returns-in_ok-put_head-in-Some-clause-err
returns-in_ok-put_head-in-Some-clause-err g c =
    let m =
    meaning_of g.P.Application.app g.P.Application.text g.P.Application.from_text g.P.Application.names
    g.P.Invariant.counts in
    let head = node_head c.args.id c.in-Some.tree c.in-Some.wave in
    let local = ended (m.text c.in-Some.local.now) in
    let at = c.in-Some.ensures.found in
    let is =
    shown_node m c.args.config.now c.args.id c.in-Some.tree c.in-Some.wave c.in-Some.local.now at.0 at.1 at.2 at.3
    in
    OnErr-then c.put_local.result (g.W.Write.contents c.args.out.now) (g.W.Write.contents c.put_head.new.out)
    (g.W.Write.contents c.put_local.new.out)
    head local _ is c.in_ok-put_head-in-Some.ensures.ok c.put_local.ensures.err

pub returns-in-None-clause-ok : goal.returns-in-None-clause-ok
returns-in-None-clause-ok g c =
    let m =
    meaning_of g.P.Application.app g.P.Application.text g.P.Application.from_text g.P.Application.names
    g.P.Invariant.counts in
    rw (told_none c.args.config.now c.args.id (shown m c.args.config.now c.args.id) c.in-None.ensures.none)
    c.put_refusal.ensures.ok

pub returns-in-None-clause-err : goal.returns-in-None-clause-err
returns-in-None-clause-err g c =
    let m =
    meaning_of g.P.Application.app g.P.Application.text g.P.Application.from_text g.P.Application.names
    g.P.Invariant.counts in
    rw (told_none c.args.config.now c.args.id (shown m c.args.config.now c.args.id) c.in-None.ensures.none)
    c.put_refusal.ensures.err

pub returns-in_ok-put_head-in-Some-clause-ok : goal.returns-in_ok-put_head-in-Some-clause-ok
returns-in_ok-put_head-in-Some-clause-ok g c =
    let m =
    meaning_of g.P.Application.app g.P.Application.text g.P.Application.from_text g.P.Application.names
    g.P.Invariant.counts in
    let head = node_head c.args.id c.in-Some.tree c.in-Some.wave in
    let local = ended (m.text c.in-Some.local.now) in
    let at = c.in-Some.ensures.found in
    let is =
    shown_node m c.args.config.now c.args.id c.in-Some.tree c.in-Some.wave c.in-Some.local.now at.0 at.1 at.2 at.3
    in
    let P : List ℕ → Type 0 =
    λ t. Appends (g.W.Write.contents c.args.out.now) (g.W.Write.contents c.put_local.new.out) t in
    on_ok_weaker c.put_local.result
    (λ told. subst P (sym is) (Appends-trans _ _ _ head local c.in_ok-put_head-in-Some.ensures.ok told))
    c.put_local.ensures.ok
