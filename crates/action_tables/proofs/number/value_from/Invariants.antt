-- The digits up to here, with the first, have the value.
use Rattle.std.proofs.Common.{◌<◌, ◌∷◌, ◌^◌, length}
use Rattle.std.specs.Char.{digit_char}
use Rattle.action_tables.proofs.LeadingDigits.{IsLedBy}
use Rattle.action_tables.proofs.number.value_from.Given as goal

abbrev pub invariant-loop-rest : goal.invariant-loop-rest
invariant-loop-rest l = IsLedBy (digit_char l.first ∷ l.text) l.value l.rest × (l.value < 2 ^ 32)

abbrev pub decreases-loop-rest : goal.decreases-loop-rest
decreases-loop-rest l = length l.rest
