use Rattle.std.proofs.Common.{◌≡◌, ◌∙◌, ℕ, List, Ok, ap}
use Rattle.topology.specs.Graph.{Graph}
use Rattle.applications.specs.Meaning.{meaning_of}
use Rattle.history.specs.HistoryText.{IsReadAs}
use Rattle.history.specs.declared.entry.Entry.{Entry}
use Rattle.reset_service.specs.Selected.{IsSelected}
use Rattle.reset_service.specs.Threaded.{IsKept, told_history, told_output}
use Rattle.reset_service.proofs.Beginning.{ok_both}
use Rattle.reset_service.proofs.Selecting.{asks_as_run, ran_there, stopped_told, stopped_unkept}
use Rattle.reset_service.proofs.Threading.{ok_weaker}
use Rattle.reset_service.proofs.threaded.run_from.Goals as goal

pub returns-in-Ok-clause-ok : goal.returns-in-Ok-clause-ok
returns-in-Ok-clause-ok g c =
    let m =
    meaning_of g.P.Application.app g.P.Application.text g.P.Application.from_text g.P.Application.names
    g.P.Invariant.counts in
    let run = c.args.run in
    let opening = c.args.opening in
    let o = c.in-Ok.outcome in
    let done = c.in-Ok.ensures in
    let graph = ap (λ b. b.config.graph) c.open_book-book.ensures ∙ ap (λ x. x.graph) c.in_ok-copy.ensures in
    let none = ap (λ b. b.entries) c.open_book-book.ensures in
    let nodes = done.ok.closed.continued.nodes ∙ ap (λ (h : Graph). h.nodes) graph in
    ok_weaker c.judge-told.result
    (λ told. IsKept m opening (told_history told) (told_output told)
    × ((modulus : ℕ) (es : List Entry) → IsReadAs (told_history told) (Ok (modulus, es)) → es ≡ o.book.entries))
    (λ told. IsSelected m run opening (told_history told) (told_output told))
    (λ told is. ran_there m run opening _ _ graph c.task_of-task.ensures done.ok.there is.0 (λ good.
    asks_as_run run opening c.open_book-book.result o.book _ (told_history told) none nodes c.task_of-task.ensures done.asked is.1))
    (ok_both c.judge-told.result (λ told. IsKept m opening (told_history told) (told_output told))
    (λ told. (modulus : ℕ) (es : List Entry) → IsReadAs (told_history told) (Ok (modulus, es)) → es ≡ o.book.entries)
    c.judge-told.ensures.ok c.judge-told.ensures.text)

pub returns-in-Err-clause-ok : goal.returns-in-Err-clause-ok
returns-in-Err-clause-ok g c =
    let m =
    meaning_of g.P.Application.app g.P.Application.text g.P.Application.from_text g.P.Application.names
    g.P.Invariant.counts in
    let graph = ap (λ b. b.config.graph) c.open_book-book.ensures ∙ ap (λ x. x.graph) c.in_ok-copy.ensures in
    stopped_told m c.args.run c.args.opening _ _ graph c.task_of-task.ensures c.stopped_by.result c.in-Err.fault.cause
    c.in-Err.ensures.err.strange c.in-Err.ensures.err.there c.in-Err.ensures.err.many c.stopped_by.ensures.told

pub returns-in-Err-clause-unkept : goal.returns-in-Err-clause-unkept
returns-in-Err-clause-unkept g c = stopped_unkept c.args.run c.stopped_by.result c.in-Err.fault.cause c.stopped_by.ensures.told
