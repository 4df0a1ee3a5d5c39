use Rattle.std.proofs.Common.{◌≡◌, ◌∙◌, sym, subst, true≢false}
use Rattle.fault_inject.proofs.FaultLines.{one_fault}
use Rattle.fault_inject.specs.FaultText.{Fits, fault_line}
use Rattle.history.specs.HistoryText.{IsPrintable}
use Rattle.script_replay.proofs.script.read_injected.Goals as goal

pub returns-then-not-is_printable-clause-only : goal.returns-then-not-is_printable-clause-only
returns-then-not-is_printable-clause-only c f fits is =
    let found : c.args.line.now ≡ fault_line c.in-Some.fault = rw c.in-Some.is at c.in_ok-read.ensures.found in
    let small : Fits c.in-Some.fault = rw c.in-Some.is at c.in_ok-read.ensures.fits in
    let same : f ≡ c.in-Some.fault = one_fault f c.in-Some.fault fits.0 small (sym is ∙ found) in
    true≢false (sym (c.if-not-is_printable.ensures.1 (subst IsPrintable same fits.1)))
