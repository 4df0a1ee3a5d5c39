use Rattle.std.proofs.Common.{◌≡◌, ◌≢◌, [], refl}
use Rattle.std.specs.Prelude.{option_map}
use Rattle.applications.specs.Meaning.{meaning_of}
use Rattle.script_replay.specs.declared.status.Status.TheVariants.{BadInput}
use Rattle.script_replay.proofs.LeftRecords.{record_alone, record_weaker}
use Rattle.reset_service.specs.Opened.{IsOpenedFrom}
use Rattle.reset_service.specs.Opened.IsOpenedFrom.{bad_snapshot, opened}
use Rattle.reset_service.specs.Shown.{IsShown, Shows}
use Rattle.reset_service.specs.Started.{start_fault_text}
use Rattle.reset_service.specs.declared.started.StartFault.TheVariants.{NoMemory}
use Rattle.reset_service.proofs.shown.show_opened.Goals as goal

pub returns-in-Ok : goal.returns-in-Ok
returns-in-Ok g c =
    let m =
    meaning_of g.P.Application.app g.P.Application.text g.P.Application.from_text g.P.Application.names
    g.P.Invariant.counts in
    let run = c.args.run in
    let script = c.args.script.now in
    let snapshot = option_map (λ s. s.now) c.args.snapshot in
    record_weaker (λ h o. IsShown m run c.in-Ok.opening script h o × (o.1 ≡ BadInput → h ≡ []))
    (λ h o. IsOpenedFrom m c.args.network.topology c.args.network.modulus snapshot (Shows run script h _ m) o
    × (o.1 ≡ BadInput → h ≡ [])) _ _ _ _ c.show_after.result
    (λ h o is. (opened c.in-Ok.opening c.in-Ok.ensures.ok is.0, is.1)) c.show_after.ensures

pub returns-in-Err : goal.returns-in-Err
returns-in-Err g c =
    let m =
    meaning_of g.P.Application.app g.P.Application.text g.P.Application.from_text g.P.Application.names
    g.P.Invariant.counts in
    let run = c.args.run in
    let script = c.args.script.now in
    let snapshot = option_map (λ s. s.now) c.args.snapshot in
    record_alone
    (λ h o. IsOpenedFrom m c.args.network.topology c.args.network.modulus snapshot (Shows run script h _ m) o
    × (o.1 ≡ BadInput → h ≡ []))
    (λ o. (c.in-Err.fault ≢ NoMemory) × (o ≡ (start_fault_text c.in-Err.fault, BadInput)))
    (λ o is. (bad_snapshot c.in-Err.fault (c.in-Err.ensures.err is.0) is.1, λ _. refl))
    (g.H.Write.contents c.args.history.now) _ _ c.refuse_start.result c.refuse_start.ensures.stop
    c.refuse_start.ensures.leaves
