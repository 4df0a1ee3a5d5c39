use Rattle.std.proofs.Common.{◌≡◌, ◌∙◌, List, [], ap, append-nil, refl, sym}
use Rattle.history.specs.Book.{BookView}
use Rattle.history.specs.declared.entry.Entry.{Entry}
use Rattle.script_replay.specs.Parts.{with_entries}
use Rattle.script_replay.proofs.recording.record_line.Goals as goal

none_more : {L : Type 0} (b : BookView L) → b ≡ with_entries b [] b.config
none_more {L = L} b =
    let with : List Entry → BookView L =
    λ es. record { opening = b.opening; entries = es; config = b.config; limit = b.limit } in
    sym (ap with (append-nil b.entries))

pub returns-in-Silent : goal.returns-in-Silent
returns-in-Silent g c =
    rw (sym c.in_ok-read_line.ensures.read ∙ c.in-Silent.is)
    (record { book = λ n. none_more c.args.book.now; good = λ n. refl })

pub returns-in-Bad : goal.returns-in-Bad
returns-in-Bad g c =
    rw (sym c.in_ok-read_line.ensures.read ∙ c.in-Bad.is)
    (record { book = λ n. none_more c.args.book.now; good = λ n. refl })

pub returns-in_ok-record_command-in-Asks : goal.returns-in_ok-record_command-in-Asks
returns-in_ok-record_command-in-Asks g c =
    rw (sym c.in_ok-read_line.ensures.read ∙ c.in-Asks.is)
    (record { book = λ n. c.in_ok-record_command-in-Asks.ensures; good = λ n. refl })
