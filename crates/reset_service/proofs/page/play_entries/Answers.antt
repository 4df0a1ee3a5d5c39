use Rattle.std.proofs.Common.{◌≡◌, subst}
use Rattle.applications.specs.Meaning.{meaning_of}
use Rattle.history.specs.Entries.{IsFirstRefused}
use Rattle.reset_service.specs.Page.{IsPageOfEntries}
use Rattle.reset_service.specs.Page.IsPageOfEntries.{not_enabled}
use Rattle.reset_service.specs.Verified.{not_enabled_text}
use Rattle.script_replay.specs.declared.status.Status.TheVariants.{NotEnabled}
use Rattle.script_replay.proofs.Runs.{leaves_weaker}
use Rattle.reset_service.proofs.Paging.{page_frame}
use Rattle.reset_service.proofs.page.play_entries.Goals as goal

pub returns-in-Err-NotEnabledAt-clause-leaves : goal.returns-in-Err-NotEnabledAt-clause-leaves
returns-in-Err-NotEnabledAt-clause-leaves g c =
    let m =
    meaning_of g.P.Application.app g.P.Application.text g.P.Application.from_text g.P.Application.names
    g.P.Invariant.counts in
    let position = c.in-Err-NotEnabledAt.position in
    let es = c.args.entries.now in
    let first = c.in-Err-NotEnabledAt.ensures.err position c.in-Err-NotEnabledAt.field-0-is in
    leaves_weaker (λ o. o ≡ (not_enabled_text position, NotEnabled))
    (IsPageOfEntries page_frame c.args.title.now c.args.word.now m c.args.opening.now es) _ _
    c.refuse_entry.result
    (λ o is. not_enabled position
    (subst (λ x. IsFirstRefused m.app m.from_text x es position) c.in_ok-copy.ensures first) is)
    (rw c.in-Err-NotEnabledAt.field-0-is at c.refuse_entry.ensures.leaves)
