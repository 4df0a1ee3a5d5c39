use Rattle.applications.specs.Meaning.{meaning_of}
use Rattle.script_replay.specs.Recorded.{IsRecord, IsRecordFrom}
use Rattle.script_replay.proofs.LeftRecords.{record_weaker}
use Rattle.script_replay.proofs.recorded.record_booted.Goals as goal

pub returns-in-Ok : goal.returns-in-Ok
returns-in-Ok g c =
    let m =
    meaning_of g.P.Application.app g.P.Application.text g.P.Application.from_text g.P.Application.names
    g.P.Invariant.counts in
    record_weaker (IsRecord m c.in-Ok.config c.args.script.now)
    (IsRecordFrom m c.args.network.topology c.args.network.modulus c.args.script.now)
    _ _ _ _ c.record_script.result (λ h o is. (c.in-Ok.config, c.in-Ok.ensures.ok, is)) c.record_script.ensures
