-- What is gone from the rest was appended.
use Rattle.std.proofs.Common.{◌≡◌, ℕ, List, ◌++◌, length}
use Rattle.std.specs.Io.KnownBytes.{Appends}
use Rattle.action_tables.proofs.put.put_rest.Given as goal

abbrev pub invariant-loop-rest : goal.invariant-loop-rest
invariant-loop-rest g l =
    (prefix : List ℕ) × (l.initial.rest ≡ prefix ++ l.rest)
    × Appends (g.W.Write.contents l.initial.out) (g.W.Write.contents l.out) prefix

abbrev pub decreases-loop-rest : goal.decreases-loop-rest
decreases-loop-rest g l = length l.rest
