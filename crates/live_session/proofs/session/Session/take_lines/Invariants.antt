-- The bytes that were passed are answered, or held back.
use Rattle.std.proofs.Common.{◌≡◌, ◌≤◌, ◌+◌, ◌++◌, [], ℕ, List, length}
use Rattle.applications.specs.Meaning.{meaning_of}
use Rattle.live_session.specs.Progress.{IsWithin, Start}
use Rattle.live_session.proofs.session.Session.take_lines.Given as goal

abbrev pub invariant-loop-line : goal.invariant-loop-line
invariant-loop-line g l =
    let m =
    meaning_of g.P.Application.app g.P.Application.text g.P.Application.from_text g.P.Application.names
    g.P.Invariant.counts in
    (passed : List ℕ) × (l.bytes ≡ passed ++ l.rest)
    × (l.self.number + length l.rest ≤ l.initial.self.number + length l.bytes)
    × (l.self.partial.items ≡ [])
    × ((s : Start _) (given : List ℕ)
    → IsWithin m s (given ++ []) [] l.initial.self (g.H.Write.contents l.initial.log) (g.W.Write.contents l.initial.out)
    → IsWithin m s (given ++ passed) [] l.self (g.H.Write.contents l.log) (g.W.Write.contents l.out))

abbrev pub decreases-loop-line : goal.decreases-loop-line
decreases-loop-line g l = length l.rest
