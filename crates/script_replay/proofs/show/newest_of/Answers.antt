use Rattle.std.specs.Prelude.{codes}
use Rattle.std.proofs.Common.{if◌then◌else◌, sym}
use Rattle.action_tables.proofs.Prefixes.{AppendsPrefix-first, OnErr-always, OnErr-then, OnOk-then}
use Rattle.reset_model.specs.Configuration.{local_of}
use Rattle.applications.specs.Meaning.{meaning_of}
use Rattle.history.specs.HistoryText.{ended}
use Rattle.reset_model.specs.Configuration.{wave_of}
use Rattle.reset_model.specs.Refinement.{has_joined}
use Rattle.script_replay.specs.Output.{newest_head}
use Rattle.script_replay.proofs.Nodes.{newest_joined, newest_unjoined}
use Rattle.script_replay.proofs.show.newest_of.Goals as goal

pub returns-in_err-put_newest_head-clause-err : goal.returns-in_err-put_newest_head-clause-err
returns-in_err-put_newest_head-clause-err g c =
    let m =
    meaning_of g.P.Application.app g.P.Application.text g.P.Application.from_text g.P.Application.names
    g.P.Invariant.counts in
    let config = c.args.config.now in
    let local =
    ended (if has_joined config.graph (wave_of config) c.args.id then m.text (local_of m.app config c.args.id) else
    codes "unjoined") in
    OnErr-always _ _ (AppendsPrefix-first _ _ (newest_head c.args.id) local c.in_err-put_newest_head.ensures.err)

pub returns-in-Some-clause-ok : goal.returns-in-Some-clause-ok
returns-in-Some-clause-ok g c =
    let m =
    meaning_of g.P.Application.app g.P.Application.text g.P.Application.from_text g.P.Application.names
    g.P.Invariant.counts in
    let at = c.in-Some.ensures.found in
    let is = newest_joined m c.args.config.now c.args.id at.1 in
    OnOk-then c.put_local.result (g.W.Write.contents c.args.out.now) (g.W.Write.contents c.put_newest_head.new.out)
    (g.W.Write.contents c.put_local.new.out)
    (newest_head c.args.id) (ended (m.text (local_of m.app c.args.config.now c.args.id))) _ is
    c.in_ok-put_newest_head.ensures.ok (rw (sym at.2) c.put_local.ensures.ok)

pub returns-in-Some-clause-err : goal.returns-in-Some-clause-err
returns-in-Some-clause-err g c =
    let m =
    meaning_of g.P.Application.app g.P.Application.text g.P.Application.from_text g.P.Application.names
    g.P.Invariant.counts in
    let at = c.in-Some.ensures.found in
    let is = newest_joined m c.args.config.now c.args.id at.1 in
    OnErr-then c.put_local.result (g.W.Write.contents c.args.out.now) (g.W.Write.contents c.put_newest_head.new.out)
    (g.W.Write.contents c.put_local.new.out)
    (newest_head c.args.id) (ended (m.text (local_of m.app c.args.config.now c.args.id))) _ is
    c.in_ok-put_newest_head.ensures.ok (rw (sym at.2) c.put_local.ensures.err)

pub returns-in-None-clause-ok : goal.returns-in-None-clause-ok
returns-in-None-clause-ok g c =
    let m =
    meaning_of g.P.Application.app g.P.Application.text g.P.Application.from_text g.P.Application.names
    g.P.Invariant.counts in
    let is = newest_unjoined m c.args.config.now c.args.id (c.in-None.ensures.none c.requires) in
    OnOk-then c.put_bytes.result (g.W.Write.contents c.args.out.now) (g.W.Write.contents c.put_newest_head.new.out)
    (g.W.Write.contents c.put_bytes.new.out)
    (newest_head c.args.id) (codes "unjoined\n") _ is c.in_ok-put_newest_head.ensures.ok c.put_bytes.ensures.ok

pub returns-in-None-clause-err : goal.returns-in-None-clause-err
returns-in-None-clause-err g c =
    let m =
    meaning_of g.P.Application.app g.P.Application.text g.P.Application.from_text g.P.Application.names
    g.P.Invariant.counts in
    let is = newest_unjoined m c.args.config.now c.args.id (c.in-None.ensures.none c.requires) in
    OnErr-then c.put_bytes.result (g.W.Write.contents c.args.out.now) (g.W.Write.contents c.put_newest_head.new.out)
    (g.W.Write.contents c.put_bytes.new.out)
    (newest_head c.args.id) (codes "unjoined\n") _ is c.in_ok-put_newest_head.ensures.ok c.put_bytes.ensures.err
