use Rattle.std.proofs.Common.{◌≡◌, Err, refl, rules, subst, sym}
use Rattle.applications.specs.Meaning.{meaning_of}
use Rattle.script_replay.specs.Output.{script_output}
use Rattle.script_replay.specs.Recorded.{IsHistory, IsRecord}
use Rattle.script_replay.specs.declared.status.Purpose.TheVariants.{Replay}
use Rattle.script_replay.specs.declared.status.RunStop.TheVariants.{WriteFailed}
use Rattle.script_replay.proofs.LeftRecords.{record_cut}
use Rattle.script_replay.proofs.recorded.put_history.Goals as goal

pub returns-in_err-put_bytes-clause-err : goal.returns-in_err-put_bytes-clause-err
returns-in_err-put_bytes-clause-err g c =
    let m =
    meaning_of g.P.Application.app g.P.Application.text g.P.Application.from_text g.P.Application.names
    g.P.Invariant.counts in
    let residual = c.from_residual-in_err-put_bytes in
    let failed : residual.result ≡ Err WriteFailed = search (rules, residual.ensures) in
    let kept =
    subst (IsHistory m c.args.opening.now c.args.script.now) (sym c.deref.ensures.value) c.in_ok-text.ensures in
    rw failed
    (λ output. record_cut (IsRecord m c.args.opening.now c.args.script.now) c.deref.result.now
    (script_output m Replay c.args.opening.now c.args.script.now) _ _ output (Err WriteFailed) refl
    (record { history_is = kept; output_is = refl }) c.in_err-put_bytes.ensures.err)

pub returns-clause-ok : goal.returns-clause-ok
returns-clause-ok g c =
    let m =
    meaning_of g.P.Application.app g.P.Application.text g.P.Application.from_text g.P.Application.names
    g.P.Invariant.counts in (
      c.deref.result.now,
      subst (IsHistory m c.args.opening.now c.args.script.now) (sym c.deref.ensures.value) c.in_ok-text.ensures,
      c.in_ok-put_bytes.ensures.ok,
    )
