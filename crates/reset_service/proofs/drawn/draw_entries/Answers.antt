use Rattle.std.proofs.Common.{◌≡◌, ℕ, IsSome, List, Ok, subst}
use Rattle.applications.specs.Meaning.{meaning_of}
use Rattle.history.specs.Entries.{IsFirstRefused, replayed}
use Rattle.history.specs.HistoryText.{IsReadAs}
use Rattle.script_replay.proofs.Runs.{leaves_weaker}
use Rattle.script_replay.specs.declared.status.Status.TheVariants.{NotEnabled}
use Rattle.reset_service.specs.Parted.{IsHistoryDrawn, IsRunDrawn}
use Rattle.reset_service.specs.Parted.IsHistoryDrawn.{verified}
use Rattle.reset_service.specs.Verified.{not_enabled_text}
use Rattle.reset_service.proofs.Parting.{of_refused}
use Rattle.reset_service.proofs.drawn.draw_entries.Goals as goal

pub returns-in-Ok-clause-leaves : goal.returns-in-Ok-clause-leaves
returns-in-Ok-clause-leaves g c =
    let m =
    meaning_of g.P.Application.app g.P.Application.text g.P.Application.from_text g.P.Application.names
    g.P.Invariant.counts in
    let opening = c.args.opening.now in
    let nodes = c.args.nodes.now in
    let es = c.args.entries.now in
    let allowed : IsSome (replayed m.app m.from_text opening es) =
    subst (λ x. IsSome (replayed m.app m.from_text x es)) c.in_ok-copy.ensures c.in-Ok.ensures.allowed in
    leaves_weaker (IsRunDrawn m c.args.rows nodes opening es)
    (λ o. (text : List ℕ) → IsReadAs text (Ok (opening.modulus, es))
    → IsHistoryDrawn m c.args.rows nodes opening text o) _ _ c.draw_run.result (λ o is text reads. verified es reads allowed is) c.draw_run.ensures.leaves

pub returns-in-Err-NotEnabledAt-clause-leaves : goal.returns-in-Err-NotEnabledAt-clause-leaves
returns-in-Err-NotEnabledAt-clause-leaves g c =
    let m =
    meaning_of g.P.Application.app g.P.Application.text g.P.Application.from_text g.P.Application.names
    g.P.Invariant.counts in
    let opening = c.args.opening.now in
    let nodes = c.args.nodes.now in
    let position = c.in-Err-NotEnabledAt.position in
    let es = c.args.entries.now in
    let first = subst (λ x. IsFirstRefused m.app m.from_text x es position) c.in_ok-copy.ensures
    (c.in-Err-NotEnabledAt.ensures.err position c.in-Err-NotEnabledAt.field-0-is) in
    leaves_weaker (λ o. o ≡ (not_enabled_text position, NotEnabled))
    (λ o. (text : List ℕ) → IsReadAs text (Ok (opening.modulus, es))
    → IsHistoryDrawn m c.args.rows nodes opening text o) _ _ c.refuse_entry.result
    (λ o is text reads. of_refused m c.args.rows nodes opening text o es position reads first is)
    (rw c.in-Err-NotEnabledAt.field-0-is at c.refuse_entry.ensures.leaves)
