-- The newest state of a node that hasn't joined is its start state.
use Rattle.std.proofs.Common.{◌≡◌, ℕ, ◌<◌, Bool, true, false, List, length, slice_get, slice_index, refl, sym, ◌∙◌}
use Rattle.std.proofs.Common.{eqb-true, IfOk, IfSome, Result, Ok, Err}
use Rattle.std.specs.declared.alloc.AllocError.{AllocError}
use Rattle.std.proofs.lemmas.Option.{slice_get-get_or}
use Rattle.app_interface.specs.Application.{App}
use Rattle.topology.specs.Components.{leader}
use Rattle.topology.specs.Graph.{IsNode, is_node}
use Rattle.topology.proofs.Membership.{Contains-has}
use Rattle.reset_model.specs.Configuration.{Configuration, wave_of}
use Rattle.reset_model.specs.Refinement.{has_joined}
use Rattle.reset_model.specs.WavePicture.{HasJoined}
use Rattle.app_invariants.specs.Verdicts.{newest_of}

module _ {L : Type 0} (app : App L) (c : Configuration L) (i : ℕ) where
  pub not_joined : (IsNode c.graph i → HasJoined c.graph (wave_of c) i → ⊥) → newest_of app c i ≡ app.start c.graph i
  not_joined none = at (is_node c.graph i) (has_joined c.graph (wave_of c) i) refl refl
    where
      at : (up joined : Bool) → is_node c.graph i ≡ up → has_joined c.graph (wave_of c) i ≡ joined
          → newest_of app c i ≡ app.start c.graph i
      at true true there is =
          absurd (none (Contains-has c.graph.nodes i there)
          (eqb-true (wave_of c i).session (wave_of c (leader c.graph i)).session is))
      at true false there is = rw (there, is) refl
      at false joined there is = rw there refl

-- what is told of the identifier at an index is told of it
told_there : {L : Type 0} (f : ℕ → L) (ids : List ℕ) (i : ℕ) (x : L) → i < length ids
    → IfSome (slice_get ids i) (λ id. x ≡ f id) → x ≡ f (slice_index ids i)
told_there f ids i x short h = rw (slice_get-get_or ids i 0 short) at h

-- a start state that was made for what hasn't joined is the newest state there
pub newest_start : {L : Type 0} (app : App L) (c : Configuration L) (i : ℕ) (made : Result L AllocError)
    → i < length c.graph.ids
    → IfSome (slice_get c.graph.ids i) (λ id. IfOk made (λ local. local ≡ app.start c.graph id))
    → (IsNode c.graph (slice_index c.graph.ids i) → HasJoined c.graph (wave_of c) (slice_index c.graph.ids i) → ⊥)
    → IfOk made (λ state. state ≡ newest_of app c (slice_index c.graph.ids i))
newest_start app c i (Ok x) short start none =
    told_there (app.start c.graph) c.graph.ids i x short start ∙ sym (not_joined app c (slice_index c.graph.ids i) none)
newest_start app c i (Err e) short start none = tt
