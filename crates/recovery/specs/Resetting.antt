-- What holds while the nodes of sound registers join, finish and restart in turn.
use Rattle.std.specs.Prelude.{◌≡◌, ℕ, ◌<◌, ◌≤◌, ◌==◌, ◌⊎◌, Bool, true, false, cond, Contains, List, ◌∷◌, ◌++◌, length, slice_index_or}
use Rattle.app_interface.specs.Application.{App}
use Rattle.topology.specs.Graph.{IsNode}
use Rattle.wave_layer.specs.declared.regs.Phase.TheVariants.{Normal, Reset}
use Rattle.wave_layer.specs.Sessions.{next_session}
use Rattle.reset_model.specs.declared.event.Event.{Event}
use Rattle.reset_model.specs.declared.event.Event.TheVariants.{Open}
use Rattle.reset_model.specs.Configuration.{Configuration, local_of, tree_of, wave_of}
use Rattle.reset_model.specs.Sound.{IsSound}
use Rattle.reset_model.specs.Completion.{is_open_at, times}
use Rattle.reset_model.specs.Steps.{event_node, reset_at}
use Rattle.reset_model.specs.WavePicture.{HasJoined}
use Rattle.recovery.specs.FalseNodes.{far_of}
use Rattle.recovery.specs.Mended.{KeepsTree}
use Rattle.recovery.specs.Outward.{IsOutward}
use Rattle.recovery.specs.Recovered.{is_finish_at}

-- the list has the nodes of b, each once, and farther ones before others
pub record IsInward {L : Type 0} (b : Configuration L) (order : List ℕ) : Type 0 where
  pub count : length order ≡ length b.graph.nodes
  pub only : (i : ℕ) → Contains order i → IsNode b.graph i
  pub all : (i : ℕ) → IsNode b.graph i → Contains order i
  pub falling : (k l d : ℕ) → k ≤ l → l < length order
      → far_of b (slice_index_or order l d) ≤ far_of b (slice_index_or order k d)

-- each node is in its leader's session
abbrev pub AllJoined : {L : Type 0} → Configuration L → Type 0
AllJoined c = (i : ℕ) → IsNode c.graph i → HasJoined c.graph (wave_of c) i

-- no node is reset
abbrev pub NoneReset : {L : Type 0} → Configuration L → Type 0
NoneReset c = (i : ℕ) → IsNode c.graph i → reset_at (wave_of c) i ≡ false

-- the first n of the list have joined
pub record JoinsSoFar {L : Type 0} (c : Configuration L) (order : List ℕ) (n : ℕ) : Type 0 where
  pub out : IsOutward c order
  pub sound : IsSound c
  pub first : (k d : ℕ) → k < n → HasJoined c.graph (wave_of c) (slice_index_or order k d)

-- c' differs from c in phases alone, and each that differs is normal
pub record HasFinished {L : Type 0} (app : App L) (c c' : Configuration L) : Type 0 where
  pub keeps : KeepsTree c c'
  pub sessions : (i : ℕ) → IsNode c.graph i → (wave_of c' i).session ≡ (wave_of c i).session
  pub phases : (i : ℕ) → IsNode c.graph i
      → ((wave_of c' i).phase ≡ Normal) ⊎ ((wave_of c' i).phase ≡ (wave_of c i).phase)
  pub locals : (i : ℕ) → IsNode c.graph i → local_of app c' i ≡ local_of app c i

abbrev pub is_at : ℕ → Event → Bool
is_at i e = event_node e == i

-- es' is es and events by which c became c', no opening among them, and one finish of each node that isn't reset any more
pub record EndsBy {L : Type 0} (c c' : Configuration L) (es es' : List Event) : Type 0 where
  pub more : List Event
  pub added : es' ≡ es ++ more
  pub closed : (i : ℕ) → times (is_open_at i) more ≡ 0
  pub once : (i : ℕ) → IsNode c.graph i → reset_at (wave_of c) i ≡ true
      → times (is_finish_at i) more ≡ cond (reset_at (wave_of c') i) 0 1

-- the first n of the list aren't reset
pub record FinishesSoFar {L : Type 0} (c : Configuration L) (order : List ℕ) (n : ℕ) : Type 0 where
  pub inward : IsInward c order
  pub sound : IsSound c
  pub joined : AllJoined c
  pub first : (k d : ℕ) → k < n → reset_at (wave_of c) (slice_index_or order k d) ≡ false

-- of the events at i the last one opens a session
abbrev pub OpensLast : List Event → ℕ → Type 0
OpensLast es i =
    (before : List Event) × (after : List Event) × (es ≡ before ++ Open i ∷ after) × (times (is_at i) after ≡ 0)

-- i is reset in the session after the one that it had in c, and at its start; and where it leads it opened one
pub record IsAnew {L : Type 0} (app : App L) (c c' : Configuration L) (es : List Event) (i : ℕ) : Type 0 where
  pub wave : wave_of c' i ≡ record { phase = Reset; session = next_session c.modulus (wave_of c i).session }
  pub local : local_of app c' i ≡ app.start c.graph i
  pub opened : (tree_of c i).father ≡ i → OpensLast es i

-- each node is as it was in c or anew, and the first n of the list are anew
pub record RestartsSoFar {L : Type 0} (app : App L) (c c' : Configuration L) (es : List Event) (order : List ℕ) (n : ℕ) :
    Type 0 where
  pub keeps : KeepsTree c c'
  pub sound : IsSound c'
  pub each : (i : ℕ) → IsNode c.graph i → (wave_of c' i ≡ wave_of c i) ⊎ IsAnew app c c' es i
  pub first : (k d : ℕ) → k < n → IsAnew app c c' es (slice_index_or order k d)
