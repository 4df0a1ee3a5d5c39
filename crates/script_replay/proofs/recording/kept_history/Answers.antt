use Rattle.std.proofs.Common.{ap, subst}
use Rattle.std.specs.Prelude.{IfOk}
use Rattle.applications.specs.Meaning.{meaning_of}
use Rattle.history.specs.Book.{BookView}
use Rattle.script_replay.specs.Recorded.{IsHistory}
use Rattle.script_replay.proofs.recording.kept_history.Goals as goal

pub returns : goal.returns
returns g c =
    let m =
    meaning_of g.P.Application.app g.P.Application.text g.P.Application.from_text g.P.Application.names
    g.P.Invariant.counts in
    subst (λ d. IfOk c.history_in.result (λ text. IsHistory m d c.args.script.now text.items))
    (ap (λ (x : BookView _). x.config) c.open_book-book.ensures) c.history_in.ensures
