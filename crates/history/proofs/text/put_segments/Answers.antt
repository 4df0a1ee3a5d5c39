use Rattle.std.proofs.Common.{subst}
use Rattle.std.specs.Io.KnownBytes.{Appends}
use Rattle.action_tables.specs.Written.{AppendsPrefix}
use Rattle.action_tables.proofs.Prefixes.{OnErr-always}
use Rattle.history.specs.HistoryText.{entries_text}
use Rattle.history.specs.Segments.{entries_of}
use Rattle.history.proofs.SegmentTexts.{writes_prefix, writes_next}
use Rattle.history.proofs.text.put_segments.Goals as goal

pub returns-in_err-put_entries-clause-err : goal.returns-in_err-put_entries-clause-err
returns-in_err-put_entries-clause-err g c =
    let before = g.W.Write.contents c.args.out.now in
    let here = g.W.Write.contents c.loop-index.out in
    let after = g.W.Write.contents c.put_entries.new.out in
    let prefix = subst (λ es. AppendsPrefix here after (entries_text es)) c.segment.ensures
    c.in_err-put_entries.ensures.err in
    OnErr-always _ _
    (writes_prefix before here after (entries_of c.args.segments.now) c.loop-index.index c.loop-index.invariant prefix)

pub loop-index-preserved : goal.loop-index-preserved
loop-index-preserved g c =
    let before = g.W.Write.contents c.args.out.now in
    let here = g.W.Write.contents c.loop-index.out in
    let after = g.W.Write.contents c.put_entries.new.out in
    let next = subst (λ es. Appends here after (entries_text es)) c.segment.ensures c.in_ok-put_entries.ensures.ok in
    writes_next before here after (entries_of c.args.segments.now) c.loop-index.index c.loop-index.invariant next
