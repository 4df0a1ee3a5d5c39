use Rattle.std.proofs.Common.{◌<◌, ◌++◌, [], filter, length, nat_lt, ap, refl, sym, ◌∙◌, arith}
use Rattle.node_threads.specs.Seats.{receipts_after}
use Rattle.node_threads.specs.Told.{receipts_told}
use Rattle.node_threads.proofs.Telling.{told_all, told_fault, told_receipts, told_step}
use Rattle.node_threads.proofs.closing.receipts_after.Goals.{in-Some+in_ok-push_after-in-Some, in-None}
use Rattle.node_threads.proofs.closing.receipts_after.Goals as goal

pub loop-index-init : goal.loop-index-init
loop-index-init g c =
    let b = c.args.book.now in
    let app = g.P.Application.app in
    let from_text = g.P.Application.from_text in
    record {
      whole = ap (λ items. items ++ filter (λ r. nat_lt c.args.mark r.position)
          (receipts_told c.reports-reports.result.now 0
          b.entries)) c.new-told.ensures.items
          ∙ ap (filter (λ r. nat_lt c.args.mark r.position)) (ap (λ rs. receipts_told rs 0 b.entries)
          c.reports-reports.ensures
          ∙ told_receipts app from_text b.opening b.config [] b.entries 0 refl c.lemma_is_book.ensures.replay);
      within = omega arith;
    }

pub loop-index-preserved : goal.loop-index-preserved
loop-index-preserved g c =
    let b = c.args.book.now in
    let all = receipts_after g.P.Application.app g.P.Application.from_text b c.args.mark in
    let i = c.loop-index.index in
    let short : i < length b.entries = omega (arith, c.loop-index-test.true, c.len-index-end.ensures) in
    elim c.match-event_at.branch [
      | in-Some+in_ok-push_after-in-Some w ↦ rw (w.told-is, w.next-is) (told_step c.args.mark all
          c.loop-index.told.items w.push_after.new.told.items c.reports-reports.result.now c.loop-index.next
          w.reply_at-reply.result.1 i b.entries
          w.in-Some.event w.reply_at-reply.result.0 short (sym w.in-Some.is ∙ c.event_at.ensures)
          w.reply_at-reply.ensures.reply w.reply_at-reply.ensures.left w.reply_at-reply.ensures.within
          w.in_ok-push_after-in-Some.ensures c.loop-index.invariant)
      | in-None w ↦ rw (w.told-is, w.next-is) (told_fault c.args.mark all c.loop-index.told.items
          c.reports-reports.result.now c.loop-index.next i b.entries short (sym w.in-None.is ∙ c.event_at.ensures)
          c.loop-index.invariant)
    ]

pub returns : goal.returns
returns g c =
    let b = c.args.book.now in
    told_all c.args.mark (receipts_after g.P.Application.app g.P.Application.from_text b c.args.mark)
    c.loop-index.told.items c.reports-reports.result.now c.loop-index.next c.loop-index.index b.entries
    (omega (arith, c.loop-index-test.false, c.len-index-end.ensures)) c.loop-index.invariant
