-- What a plan that recovers a network is written as.
use Rattle.std.specs.Prelude.{◌≡◌, ◌<◌, ◌≤◌, ℕ, List, [], ◌∷◌, ◌++◌, length, codes, Some, None}
use Rattle.std.specs.Fmt.{decimal}
use Rattle.std.specs.List.{concat, flat_map}
use Rattle.reset_model.specs.Configuration.{Configuration}
use Rattle.reset_model.specs.EventText.{event_line}
use Rattle.reset_model.specs.declared.event.Event.{Event}
use Rattle.applications.specs.Meaning.{Meaning}
use Rattle.recovery.specs.Recovered.{Recovers}
use Rattle.history.specs.HistoryText.{ended}
use Rattle.script_replay.specs.Left.{bad_line_of, left_by}
use Rattle.script_replay.specs.Output.{bad_line_text, too_long_text}
use Rattle.script_replay.specs.declared.status.Status.{Status}
use Rattle.script_replay.specs.declared.status.Status.TheVariants.{Good, BadInput}

-- the line of the command that makes an event happen
abbrev pub command_text : Event → List ℕ
command_text e = ended (event_line e)

-- a comment that counts events, and their commands, one a line
abbrev pub counted_text : List Event → List ℕ → List ℕ
counted_text events what =
    concat (codes "# " ∷ decimal (length events) ∷ what ∷ ended [] ∷ []) ++ flat_map command_text events

-- the script of repairs and of the reset that follows them
abbrev pub recovery_text : List Event → List Event → List ℕ
recovery_text repairs reset = counted_text repairs (codes " repairs") ++ counted_text reset (codes " steps of a reset")

-- what is written for a script on a configuration, and the status: a plan that recovers the configuration that its lines
-- leave, where all of them are good
pub data IsPlan {L : Type 0} (m : Meaning L) (c : Configuration L) (script : List ℕ) (output : List ℕ × Status) : Type 0 where
  too_long : 1048576 < length script → output ≡ (too_long_text, BadInput) → IsPlan m c script output
  bad_line : (n : ℕ) → length script ≤ 1048576 → bad_line_of m.names script ≡ Some n
      → output ≡ (bad_line_text n, BadInput) → IsPlan m c script output
  planned : (repairs reset : List Event) → length script ≤ 1048576 → bad_line_of m.names script ≡ None
      → Recovers m.app (left_by m c script) repairs reset → output ≡ (recovery_text repairs reset, Good)
      → IsPlan m c script output
