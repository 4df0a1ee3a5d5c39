use Rattle.std.proofs.Common.{◌+◌, ℕ, List, ap, arith, refl, subst, sym, ◌∙◌}
use Rattle.std.specs.Io.KnownBytes.{Appends}
use Rattle.action_tables.specs.Written.{AppendsPrefix}
use Rattle.action_tables.proofs.Prefixes.{OnErr-always}
use Rattle.history.specs.declared.entry.Report.{Report}
use Rattle.history_page.specs.Entries.{entry_data}
use Rattle.history_page.specs.Lines.{line_text}
use Rattle.history_page.proofs.PutEntries.{ArePut, all_put, line_failed, more_put, next_allowed, none_put}
use Rattle.history_page.proofs.entry.put_entries.Goals as goal

pub loop-entry-init : goal.loop-entry-init
loop-entry-init g c = (
  none_put g.P.Application.app g.P.Application.text g.P.Application.from_text c.args.config.now c.args.entries.now
      (g.W.Write.contents c.args.out.now) c.args.reports.now c.requires.run c.requires.reports,
  refl,
  c.requires.known,
)

pub next_line-requires-clause-known : goal.next_line-requires-clause-known
next_line-requires-clause-known g c κs within = c.loop-entry.invariant.2

pub next_line-requires-clause-allowed : goal.next_line-requires-clause-allowed
next_line-requires-clause-allowed g c κs within =
    next_allowed g.P.Application.app g.P.Application.text g.P.Application.from_text c.args.config.now
    c.loop-entry.config c.args.entries.now _ _ c.loop-entry.entry-index c.loop-entry.rest.now c.entry-item.result
    c.loop-entry.invariant.0 c.loop-entry-test.true c.entry-item.is

pub returns-in_err-put_line-clause-err : goal.returns-in_err-put_line-clause-err
returns-in_err-put_line-clause-err g c =
    let app = g.P.Application.app in
    let text = g.P.Application.text in
    let loop = c.loop-entry in
    let x = c.entry-item.result in
    let is = c.deref.ensures.value ∙ c.in_ok-line.ensures.line
    ∙ ap (λ rs. entry_data app text loop.config c.next_line.new.config x rs) c.told_now-told.ensures in
    let Prefix : List ℕ → Type 0 =
    λ t. AppendsPrefix (g.W.Write.contents loop.out) (g.W.Write.contents c.put_line.new.out) (line_text t) in
    OnErr-always _ _
    (line_failed app text g.P.Application.from_text c.args.config.now loop.config c.next_line.new.config
    c.args.entries.now _ _ _ loop.entry-index (loop.place + 1) loop.rest.now x loop.invariant.0
    c.loop-entry-test.true c.entry-item.is c.in_ok-line.ensures.played (omega (arith, loop.invariant.1))
    (subst Prefix is c.in_err-put_line.ensures.err))

pub loop-entry-preserved : goal.loop-entry-preserved
loop-entry-preserved g c =
    let app = g.P.Application.app in
    let text = g.P.Application.text in
    let from_text = g.P.Application.from_text in
    let loop = c.loop-entry in
    let x = c.entry-item.result in
    let is = c.deref.ensures.value ∙ c.in_ok-line.ensures.line
    ∙ ap (λ rs. entry_data app text loop.config c.next_line.new.config x rs) c.told_now-told.ensures in
    let Whole : List ℕ → Type 0 =
    λ t. Appends (g.W.Write.contents loop.out) (g.W.Write.contents c.put_line.new.out) (line_text t) in
    let Put : List Report → Type 0 =
    λ rs. ArePut app text from_text c.args.config.now c.args.entries.now (g.W.Write.contents c.args.out.now)
    (g.W.Write.contents c.put_line.new.out) (loop.entry-index + 1) c.next_line.new.config rs in (
      subst Put (sym c.told_later-rest.ensures)
          (more_put app text from_text c.args.config.now loop.config c.next_line.new.config c.args.entries.now _ _ _
          loop.entry-index (loop.place + 1) loop.rest.now x loop.invariant.0 c.loop-entry-test.true c.entry-item.is
          c.in_ok-line.ensures.played (omega (arith, loop.invariant.1))
          (subst Whole is c.in_ok-put_line.ensures.ok)),
      omega (arith, loop.invariant.1),
      c.in_ok-line.ensures.known,
    )

pub returns-clause-ok : goal.returns-clause-ok
returns-clause-ok g c =
    all_put g.P.Application.app g.P.Application.text g.P.Application.from_text c.args.config.now c.loop-entry.config
    c.args.entries.now _ _ c.loop-entry.entry-index c.loop-entry.rest.now c.loop-entry.invariant.0
    c.loop-entry-test.false
