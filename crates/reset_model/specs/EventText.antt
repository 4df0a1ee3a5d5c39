-- The lines that stand for events.
use Rattle.std.specs.Prelude.{ℕ, ◌<◌, ◌^◌, List, [], ◌∷◌, Option, Some, None}
use Rattle.std.specs.Fmt.{decimal}
use Rattle.std.specs.List.{join_with_byte}
use Rattle.reset_model.specs.EventCommands.{command_of}
use Rattle.reset_model.specs.declared.event_kind.EventKind.{EventKind}
use Rattle.reset_model.specs.declared.event.Event.{Event}
use Rattle.reset_model.specs.declared.event.Event.TheVariants.{Claim, Follow, Adopt, Request, Relay, Open, Join, Finish}
use Rattle.reset_model.specs.declared.event.Event.TheVariants.{Mend, Act}

-- the neighbour that is named, if one is
abbrev pub neighbour_words : Option ℕ → List (List ℕ)
neighbour_words None = []
neighbour_words (Some j) = decimal j ∷ []

-- an event in words: its command, and the numbers of the nodes and of the case
abbrev pub event_words : Event → List (List ℕ)
event_words (Claim at) = command_of EventKind.Claim ∷ decimal at ∷ []
event_words (Follow at) = command_of EventKind.Follow ∷ decimal at ∷ []
event_words (Adopt at from) = command_of EventKind.Adopt ∷ decimal at ∷ decimal from ∷ []
event_words (Request at) = command_of EventKind.Request ∷ decimal at ∷ []
event_words (Relay at child) = command_of EventKind.Relay ∷ decimal at ∷ decimal child ∷ []
event_words (Open at) = command_of EventKind.Open ∷ decimal at ∷ []
event_words (Join at) = command_of EventKind.Join ∷ decimal at ∷ []
event_words (Finish at) = command_of EventKind.Finish ∷ decimal at ∷ []
event_words (Mend at) = command_of EventKind.Mend ∷ decimal at ∷ []
event_words (Act at case with) = command_of EventKind.Act ∷ decimal at ∷ decimal case ∷ neighbour_words with

-- the one line of an event: its words, with a space between each two
abbrev pub event_line : Event → List ℕ
event_line e = join_with_byte 32 (event_words e)

-- the numbers of an event are those of 32 bits, and that of a case is one of 8 bits
abbrev pub Fits : Event → Type 0
Fits (Claim at) = at < 2 ^ 32
Fits (Follow at) = at < 2 ^ 32
Fits (Adopt at from) = (at < 2 ^ 32) × (from < 2 ^ 32)
Fits (Request at) = at < 2 ^ 32
Fits (Relay at child) = (at < 2 ^ 32) × (child < 2 ^ 32)
Fits (Open at) = at < 2 ^ 32
Fits (Join at) = at < 2 ^ 32
Fits (Finish at) = at < 2 ^ 32
Fits (Mend at) = at < 2 ^ 32
Fits (Act at case None) = (at < 2 ^ 32) × (case < 2 ^ 8)
Fits (Act at case (Some j)) = (at < 2 ^ 32) × (case < 2 ^ 8) × (j < 2 ^ 32)
