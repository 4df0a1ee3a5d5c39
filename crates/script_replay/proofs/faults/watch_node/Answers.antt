use Rattle.std.proofs.Common.{◌∙◌}
use Rattle.std.proofs.lemmas.Result.{on_err_weaker}
use Rattle.applications.specs.Meaning.{meaning_of}
use Rattle.script_replay.proofs.Nodes.{told_alarm}
use Rattle.script_replay.proofs.Watching.{asked_config, asked_err, asked_ok, quiet_config, quiet_text, watched_prefix}
use Rattle.script_replay.proofs.Written.{written_err, written_ok}
use Rattle.script_replay.proofs.faults.watch_node.Goals as goal

pub returns-in-None-clause-ok : goal.returns-in-None-clause-ok
returns-in-None-clause-ok g c =
    let m =
    meaning_of g.P.Application.app g.P.Application.text g.P.Application.from_text g.P.Application.names
    g.P.Invariant.counts in
    let is =
    told_alarm m.app c.args.config.now c.args.at c.alarm-told.result c.requires c.alarm-told.ensures.found
    c.alarm-told.ensures.none in
    written_ok c.put_alarm.result c.written.result c.written.ensures.ok c.written.ensures.err
    (λ text. (
      quiet_config m c.args.config.now c.args.at c.alarm-told.result is c.in-None.is,
      quiet_text m c.args.config.now c.args.at c.alarm-told.result is _ _ c.in-None.is text,
    )) c.put_alarm.ensures.ok

pub returns-in-None-clause-err : goal.returns-in-None-clause-err
returns-in-None-clause-err g c =
    let m =
    meaning_of g.P.Application.app g.P.Application.text g.P.Application.from_text g.P.Application.names
    g.P.Invariant.counts in
    let is =
    told_alarm m.app c.args.config.now c.args.at c.alarm-told.result c.requires c.alarm-told.ensures.found
    c.alarm-told.ensures.none in
    written_err c.put_alarm.result c.written.result c.written.ensures.ok c.written.ensures.err _
    (on_err_weaker c.put_alarm.result
    (λ prefix. watched_prefix m c.args.config.now c.args.at c.alarm-told.result is _ _ prefix) c.put_alarm.ensures.err)

pub returns-in-None-clause-fault : goal.returns-in-None-clause-fault
returns-in-None-clause-fault g c =
    let m =
    meaning_of g.P.Application.app g.P.Application.text g.P.Application.from_text g.P.Application.names
    g.P.Invariant.counts in
    let is =
    told_alarm m.app c.args.config.now c.args.at c.alarm-told.result c.requires c.alarm-told.ensures.found
    c.alarm-told.ensures.none in
    λ failed. quiet_config m c.args.config.now c.args.at c.alarm-told.result is c.in-None.is

pub returns-in-Some-clause-ok : goal.returns-in-Some-clause-ok
returns-in-Some-clause-ok g c =
    let m =
    meaning_of g.P.Application.app g.P.Application.text g.P.Application.from_text g.P.Application.names
    g.P.Invariant.counts in
    let is =
    told_alarm m.app c.args.config.now c.args.at c.alarm-told.result c.requires c.alarm-told.ensures.found
    c.alarm-told.ensures.none in
    asked_ok m c.args.config.now c.args.at c.alarm-told.result is c.in-Some.fault c.in-Some.is _ _
    c.ask.new.config c.ask.result c.ask.ensures.ok

pub returns-in-Some-clause-err : goal.returns-in-Some-clause-err
returns-in-Some-clause-err g c =
    let m =
    meaning_of g.P.Application.app g.P.Application.text g.P.Application.from_text g.P.Application.names
    g.P.Invariant.counts in
    let is =
    told_alarm m.app c.args.config.now c.args.at c.alarm-told.result c.requires c.alarm-told.ensures.found
    c.alarm-told.ensures.none in
    asked_err m c.args.config.now c.args.at c.alarm-told.result is c.in-Some.fault c.in-Some.is _ _
    c.ask.result c.ask.ensures.err

pub returns-in-Some-clause-fault : goal.returns-in-Some-clause-fault
returns-in-Some-clause-fault g c =
    let m =
    meaning_of g.P.Application.app g.P.Application.text g.P.Application.from_text g.P.Application.names
    g.P.Invariant.counts in
    let is =
    told_alarm m.app c.args.config.now c.args.at c.alarm-told.result c.requires c.alarm-told.ensures.found
    c.alarm-told.ensures.none in
    λ failed. c.ask.ensures.fault failed
    ∙ asked_config m c.args.config.now c.args.at c.alarm-told.result is c.in-Some.fault c.in-Some.is
