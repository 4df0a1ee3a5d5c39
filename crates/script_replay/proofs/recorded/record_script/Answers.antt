use Rattle.std.proofs.Common.{refl}
use Rattle.applications.specs.Meaning.{meaning_of}
use Rattle.script_replay.specs.Output.{script_output}
use Rattle.script_replay.specs.Recorded.{IsRecord}
use Rattle.script_replay.specs.declared.status.Purpose.TheVariants.{Replay}
use Rattle.script_replay.proofs.LeftRecords.{record_replayed}
use Rattle.script_replay.proofs.recorded.record_script.Goals as goal

pub returns-in-Ok : goal.returns-in-Ok
returns-in-Ok g c =
    let m =
    meaning_of g.P.Application.app g.P.Application.text g.P.Application.from_text g.P.Application.names
    g.P.Invariant.counts in
    let (text, history, wrote) = c.in-Ok.ensures.ok in
    record_replayed (IsRecord m c.args.config.now c.args.script.now) text
    (script_output m Replay c.args.config.now c.args.script.now) _ _ _ _ c.run_script.result
    (record { history_is = history; output_is = refl }) wrote c.run_script.ensures.stop c.run_script.ensures.leaves

pub returns-in-Err : goal.returns-in-Err
returns-in-Err g c = c.in-Err.ensures.err (g.W.Write.contents c.args.out.now)
