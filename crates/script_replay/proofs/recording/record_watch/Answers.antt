use Rattle.std.proofs.Common.{◌≡◌, None, Some, refl, subst}
use Rattle.std.proofs.lemmas.Result.{on_ok_weaker}
use Rattle.topology.specs.Graph.{IsNode}
use Rattle.applications.specs.Meaning.{meaning_of}
use Rattle.link_predicates.specs.Faults.{alarm_of}
use Rattle.script_replay.proofs.Noting.{alarm_noted, quiet_noted}
use Rattle.script_replay.proofs.recording.record_watch.Goals as goal

pub returns-in-None : goal.returns-in-None
returns-in-None g c =
    let m =
    meaning_of g.P.Application.app g.P.Application.text g.P.Application.from_text g.P.Application.names
    g.P.Invariant.counts in
    let b = c.args.book.now in
    quiet_noted m b.config c.args.at b refl
    (subst (λ x. IsNode x.graph c.args.at → alarm_of m.app x c.args.at ≡ None) c.config.ensures c.in-None.ensures.none)

pub returns-in-Some : goal.returns-in-Some
returns-in-Some g c =
    let m =
    meaning_of g.P.Application.app g.P.Application.text g.P.Application.from_text g.P.Application.names
    g.P.Invariant.counts in
    let b = c.args.book.now in
    let found =
    subst (λ x. IsNode x.graph c.args.at × (alarm_of m.app x c.args.at ≡ Some c.in-Some.field-0)) c.config.ensures
    c.in-Some.ensures.found in
    on_ok_weaker c.record_event.result
    (alarm_noted m b.config c.args.at b refl c.in-Some.field-0 found c.record_event.new.book) c.record_event.ensures
