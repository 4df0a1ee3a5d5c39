-- Verified histories tell steps.
use Rattle.std.specs.Prelude.{ℕ, List, IsSome, Ok}
use Rattle.topology.specs.Graph.{Graph}
use Rattle.topology.specs.declared.text.AppName.{AppName}
use Rattle.reset_model.specs.Configuration.{Configuration}
use Rattle.reset_model.specs.BySteps.{IsBySteps}
use Rattle.reset_model.specs.Outcome.{IsBoot}
use Rattle.reset_model.specs.Sound.{IsSound}
use Rattle.applications.specs.Choice.{ForInvariant}
use Rattle.applications.specs.Meaning.{Meaning}
use Rattle.history.specs.Entries.{replayed}
use Rattle.history.specs.HistoryText.{IsReadAs}
use Rattle.history.specs.Stretches.{IsStretch, Stretch}
use Rattle.history.specs.declared.entry.Entry.{Entry}

-- a history is that of entries each of which is allowed where it stands, from the booted configuration of a graph on,
-- with sessions modulo this number, whose registers are sound; and each undisturbed stretch of it that begins in sound
-- registers is steps
pub record TellsSteps {L : Type 0} (m : Meaning L) (Inv : Graph → (ℕ → L) → Type 0) (g : Graph) (modulus : ℕ)
    (history : List ℕ) : Type 0 where
  pub opening : Configuration L
  pub entries : List Entry
  pub booted : IsBoot m.app g modulus opening
  pub sound : IsSound opening
  pub read : IsReadAs history (Ok (modulus, entries))
  pub allowed : IsSome (replayed m.app m.from_text opening entries)
  pub stepped : (s : Stretch L) → IsStretch m.app m.from_text opening entries s → IsSound s.here
      → IsBySteps m.app Inv s.here s.events s.left

-- the same for the application of a name, with its fact
abbrev pub TellsStepsOf : AppName → Graph → ℕ → List ℕ → Type 0
TellsStepsOf app g modulus history = ForInvariant (λ L m Inv. TellsSteps m Inv g modulus history) app
