use Rattle.std.proofs.Common.{◌≡◌, ◌∙◌, sym, arith}
use Rattle.applications.specs.Meaning.{meaning_of}
use Rattle.history_page.specs.Page.{data_text}
use Rattle.reset_service.specs.Page.{page_output}
use Rattle.script_replay.specs.declared.status.Status.TheVariants.{Good}
use Rattle.reset_service.proofs.Paging.{page_frame, page_few}
use Rattle.script_replay.proofs.Runs.{leaves_weaker}
use Rattle.reset_service.proofs.page.play.Goals as goal

pub returns-else-entries-gt-MAX_PLAYED-clause-leaves : goal.returns-else-entries-gt-MAX_PLAYED-clause-leaves
returns-else-entries-gt-MAX_PLAYED-clause-leaves g c =
    let m =
    meaning_of g.P.Application.app g.P.Application.text g.P.Application.from_text g.P.Application.names
    g.P.Invariant.counts in
    let title = c.args.title.now in
    let name = c.args.word.now in
    let opening = c.args.opening.now in
    let es = c.args.entries.now in
    leaves_weaker (λ o. o ≡ (page_frame (data_text m.app m.text m.from_text title name opening es), Good))
    (λ o. o ≡ page_output page_frame title name m opening es) _ _ c.play_few.result
    (λ o is. is ∙ sym (page_few page_frame title name m opening es (omega arith))) c.play_few.ensures.leaves
