-- The commands of the kinds of events.
use Rattle.std.specs.Prelude.{◌≡◌, ℕ, List, ◌∷◌, ◌++◌, Option, MatchOption, codes}
use Rattle.reset_model.specs.declared.event_kind.EventKind.{EventKind}
use Rattle.reset_model.specs.declared.event_kind.EventKind.TheVariants.{Claim, Follow, Adopt, Request, Relay, Open}
use Rattle.reset_model.specs.declared.event_kind.EventKind.TheVariants.{Join, Finish, Mend, Act}

-- the command that the lines of a kind of events begin with
abbrev pub command_of : EventKind → List ℕ
command_of Claim = codes "claim"
command_of Follow = codes "follow"
command_of Adopt = codes "adopt"
command_of Request = codes "request"
command_of Relay = codes "relay"
command_of Open = codes "open"
command_of Join = codes "join"
command_of Finish = codes "finish"
command_of Mend = codes "mend"
command_of Act = codes "act"

-- what follows the command of this kind and a space, None where the line doesn't begin with them
abbrev pub IsAfter : EventKind → List ℕ → Option (List ℕ) → Type 0
IsAfter kind line after =
    MatchOption after ((rest : List ℕ) → line ≡ command_of kind ++ 32 ∷ rest → ⊥)
    (λ rest. line ≡ command_of kind ++ 32 ∷ rest)
