use Rattle.std.proofs.Common.{◌≡◌, ◌++◌, ℕ, List, Err, refl, rules}
use Rattle.std.proofs.KnownBytes.{Appends-trans}
use Rattle.action_tables.proofs.Prefixes.{AppendsPrefix-first, AppendsPrefix-then}
use Rattle.applications.specs.Meaning.{meaning_of}
use Rattle.script_replay.specs.declared.status.RunStop.TheVariants.{WriteFailed}
use Rattle.script_replay.specs.declared.status.Status.{Status}
use Rattle.script_replay.specs.declared.status.Status.TheVariants.{NotEnabled}
use Rattle.script_replay.proofs.Runs.{leaves_stop}
use Rattle.reset_service.specs.Asked.{asked_reason}
use Rattle.reset_service.specs.Verified.{not_enabled_text}
use Rattle.reset_service.proofs.asked.answer_refused.Goals as goal

pub returns-in_err-put_not_enabled : goal.returns-in_err-put_not_enabled
returns-in_err-put_not_enabled g c =
    let m =
    meaning_of g.P.Application.app g.P.Application.text g.P.Application.from_text g.P.Application.names
    g.P.Invariant.counts in
    let r = c.args.refused in
    let residual = c.from_residual in
    let failed : residual.result ≡ Err WriteFailed = search (rules, residual.ensures) in
    record {
      leaves = rw failed (
        (not_enabled_text r.position ++ asked_reason c.args.why m r.config r.entry, NotEnabled),
        refl,
        AppendsPrefix-first _ _ (not_enabled_text r.position) (asked_reason c.args.why m r.config r.entry)
            c.in_err-put_not_enabled.ensures.err,
      );
    }

pub returns-in-Ok : goal.returns-in-Ok
returns-in-Ok g c =
    let m =
    meaning_of g.P.Application.app g.P.Application.text g.P.Application.from_text g.P.Application.names
    g.P.Invariant.counts in
    let r = c.args.refused in
    let place = not_enabled_text r.position in
    let reason = asked_reason c.args.why m r.config r.entry in
    record {
      leaves = (
        place ++ reason,
        refl,
        Appends-trans _ _ _ place reason c.in_ok-put_not_enabled.ensures.ok c.in-Ok.ensures.ok,
      );
    }

pub returns-in-Err : goal.returns-in-Err
returns-in-Err g c =
    let m =
    meaning_of g.P.Application.app g.P.Application.text g.P.Application.from_text g.P.Application.names
    g.P.Invariant.counts in
    let r = c.args.refused in
    let place = not_enabled_text r.position in
    let reason = asked_reason c.args.why m r.config r.entry in
    let all : List ℕ × Status = (place ++ reason, NotEnabled) in
    record {
      leaves = leaves_stop (λ o. o ≡ all) _ _ c.in-Err.stop c.in-Err.ensures.stop
          (all, refl, AppendsPrefix-then _ _ _ place reason c.in_ok-put_not_enabled.ensures.ok c.in-Err.ensures.err);
    }
