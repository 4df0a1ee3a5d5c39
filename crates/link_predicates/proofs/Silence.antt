-- Where no link table tells anything at a node that has joined, the node has no alarm.
use Rattle.std.proofs.Common.{◌≡◌, ◌≢◌, ◌⊎◌, inl, inr, ℕ, nat_eq, Bool, true, false, cond, List, [], ◌∷◌, None, filter}
use Rattle.std.proofs.Common.{find, flat_map, map, refl, sym, ap, ◌∙◌}
use Rattle.std.specs.Option.{option_map, option_or}
use Rattle.std.proofs.lemmas.Bool.{eq-eqb}
use Rattle.std.proofs.lemmas.Bool.Decides.{eqb_tells}
use Rattle.std.proofs.lemmas.List.Folds.{find-append}
use Rattle.app_interface.specs.Application.{App}
use Rattle.topology.specs.Graph.{AreLinked, IsGraph, are_linked, neighbours_of, node_bound}
use Rattle.topology.proofs.Components.{same_leader}
use Rattle.reset_model.specs.Configuration.{Configuration, local_of, wave_of}
use Rattle.reset_model.specs.Refinement.{abstract_of}
use Rattle.reset_model.specs.View.{near_of}
use Rattle.reset_model.specs.WavePicture.{HasJoined}
use Rattle.link_predicates.specs.Faults.{alarm_of, app_row, is_of_app, link_faults, own_row}
use Rattle.link_predicates.specs.declared.fault.Family.TheVariants.{App as OfApp}
use Rattle.link_predicates.proofs.NodeFaults.{app_alone, none_of_own}

-- nothing is found in the lists of those that are kept, where nothing is found in any
none_found : {X A : Type 0} (p : A → Bool) (f : X → List A) (of : ℕ → X) (keeps : ℕ → Bool) (ids : List ℕ)
    → ((j : ℕ) → keeps j ≡ true → find p (f (of j)) ≡ None) → find p (flat_map f (map of (filter keeps ids))) ≡ None
none_found p f of keeps [] each = refl
none_found p f of keeps (j ∷ js) each = at (keeps j) refl (none_found p f of keeps js each)
  where
    at : (b : Bool) → keeps j ≡ b → find p (flat_map f (map of (filter keeps js))) ≡ None
        → find p (flat_map f (map of (cond b (j ∷ filter keeps js) (filter keeps js)))) ≡ None
    at false is rest = rest
    at true is rest =
        find-append p (f (of j)) (flat_map f (map of (filter keeps js)))
        ∙ ap (λ o. option_or o (find p (flat_map f (map of (filter keeps js))))) (each j is) ∙ rest

module _ {L : Type 0} (app : App L) (c : Configuration L) where
  abbrev abstract : ℕ → L
  abstract = abstract_of app c

  joined_local : (i : ℕ) → HasJoined c.graph (wave_of c) i → abstract i ≡ local_of app c i
  joined_local i joined = ap (λ b. cond b (local_of app c i) (app.start c.graph i)) (eq-eqb _ _ joined)

  module _ (graph : IsGraph c.graph) (i : ℕ) (joined : HasJoined c.graph (wave_of c) i)
      (quiet : (j : ℕ) → AreLinked c.graph i j → app.link_fault i (node_bound c.graph) (abstract i) j (abstract j) ≡ None)
    where
      silent_row : (j : ℕ) → AreLinked c.graph i j
          → app_row app (node_bound c.graph) (near_of app c i) (near_of app c j) ≡ None
      silent_row j linked = at (eqb_tells (wave_of c i).session (wave_of c j).session)
        where
          at : ((nat_eq (wave_of c i).session (wave_of c j).session ≡ true)
              × ((wave_of c i).session ≡ (wave_of c j).session))
              ⊎ ((nat_eq (wave_of c i).session (wave_of c j).session ≡ false)
              × ((wave_of c i).session ≢ (wave_of c j).session))
              → app_row app (node_bound c.graph) (near_of app c i) (near_of app c j) ≡ None
          at (inr apart) =
              ap (λ b. cond b (app.link_fault i (node_bound c.graph) (local_of app c i) j (local_of app c j)) None) apart.0
          at (inl same) =
              ap (λ b. cond b (app.link_fault i (node_bound c.graph) (local_of app c i) j (local_of app c j)) None) same.0
              ∙ ap (λ own. app.link_fault i (node_bound c.graph) own j (local_of app c j)) (sym (joined_local i joined))
              ∙ ap (λ theirs. app.link_fault i (node_bound c.graph) (abstract i) j theirs)
              (sym (joined_local j
              (sym same.1 ∙ joined
              ∙ ap (λ k. (wave_of c k).session)
              (sym (same_leader c.graph i j graph (graph.ends i j linked) (j ∷ [], (linked, refl)))))))
              ∙ quiet j linked

      pub silent : alarm_of app c i ≡ None
      silent =
          let links = link_faults app (node_bound c.graph) c.modulus (near_of app c i) in
          none_of_own i (own_row c i) (flat_map links (map (near_of app c) (neighbours_of c.graph i)))
          ∙ none_found is_of_app links (near_of app c) (are_linked c.graph i) c.graph.ids
          (λ j linked. app_alone app (node_bound c.graph) c.modulus (near_of app c i) (near_of app c j)
          ∙ ap (λ o. option_map (λ row. record { at = i; other = j; family = OfApp; row = row }) o)
          (silent_row j linked))
