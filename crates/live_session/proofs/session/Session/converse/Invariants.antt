-- What the reader gave is answered, or held back.
use Rattle.std.proofs.Common.{◌≡◌, [], ℕ, List, length}
use Rattle.std.specs.Io.KnownBytes.{Consumes}
use Rattle.applications.specs.Meaning.{meaning_of}
use Rattle.live_session.specs.Progress.{IsAt, Start}
use Rattle.live_session.proofs.session.Session.converse.Given as goal

abbrev pub invariant-loop : goal.invariant-loop
invariant-loop g l =
    let m =
    meaning_of g.P.Application.app g.P.Application.text g.P.Application.from_text g.P.Application.names
    g.P.Invariant.counts in
    (given : List ℕ) × Consumes (g.R.Read.remaining l.initial.input) (g.R.Read.remaining l.input) given
    × (length l.chunk ≡ 8192)
    × ((s : Start _)
    → IsAt m s [] l.initial.self (g.H.Write.contents l.initial.log) (g.W.Write.contents l.initial.out)
    → IsAt m s given l.self (g.H.Write.contents l.log) (g.W.Write.contents l.out))
