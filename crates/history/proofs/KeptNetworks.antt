-- Entries leave a network where there was one: a graph, whose nodes have their registers and local states.
use Rattle.std.proofs.Common.{◌≡◌, ◌≢◌, ℕ, ◌==◌, ◌&&◌, ◌||◌, not, false, List, [], ◌∷◌}
use Rattle.std.proofs.Common.{Option, Some, None, Result, Ok, Err, ◌⊎◌, inl, inr, ⊎_elim}
use Rattle.std.proofs.Common.{refl, sym, ap₂, subst, ◌∙◌}
use Rattle.std.specs.Option.{option_and_then}
use Rattle.std.proofs.lemmas.Bool.{and_parts, both_ways, eq-eqb, not-false, or_cases}
use Rattle.app_interface.specs.Application.{App}
use Rattle.topology.specs.Building.{joins}
use Rattle.topology.specs.Changing.{first_of, with_link, with_node, without_link, without_node}
use Rattle.topology.specs.Graph.{AreLinked, Graph, IsGraph, IsNode, are_linked, is_node}
use Rattle.topology.proofs.Changed.{has_fewer, has_more}
use Rattle.topology.proofs.Inserting.{joins_back, joins_ends}
use Rattle.topology.proofs.Membership.{Contains-has}
use Rattle.topology.proofs.NodeChanges.{graph_with, graph_without}
use Rattle.topology.proofs.Reasons.{none_holds}
use Rattle.reset_model.specs.Configuration.{Configuration, IsShaped}
use Rattle.reset_model.specs.Planned.{Outcome, outcome_of}
use Rattle.reset_model.specs.Topologies.{with_topology}
use Rattle.reset_model.specs.declared.event.Event.{Event}
use Rattle.reset_model.specs.declared.step.Reply.{Reply}
use Rattle.reset_model.proofs.ConfigurationSteps.{outcome_is_step}
use Rattle.reset_model.proofs.OtherGraphs.{shaped-with_topology}
use Rattle.reset_model.proofs.RunShadows.{step_graph}
use Rattle.reset_model.proofs.Shapes.{length-put_at, outcome_shaped}
use Rattle.fault_inject.specs.Effects.{damaged, injected, refusals, with_read}
use Rattle.fault_inject.specs.declared.fault.Fault.{Fault}
use Rattle.fault_inject.specs.declared.fault.Fault.TheVariants.{SetTree, SetWave, SetLocal, LinkDown, LinkUp}
use Rattle.fault_inject.specs.declared.fault.Fault.TheVariants.{NodeDown, NodeUp}
use Rattle.fault_inject.specs.declared.refusal.FaultRefusal.{FaultRefusal}
use Rattle.history.specs.declared.entry.Entry.{Entry}
use Rattle.history.specs.declared.entry.Entry.TheVariants.{Step, Disturbed}
use Rattle.history.specs.Entries.{entered, left_by_fault, left_by_step, replayed}

-- a configuration of a graph, in which each node has its registers and its local state
pub record IsNetwork {L : Type 0} (c : Configuration L) : Type 0 where
  pub graph : IsGraph c.graph
  pub shaped : IsShaped c

-- ---- one link more or less

module _ (g : Graph) (a b : ℕ) where
  linked_more : (x y : ℕ) → are_linked (with_link g a b) x y ≡ (are_linked g x y || joins x y (a, b))
  linked_more x y = has_more g.links a b (x, y)

  linked_fewer : (x y : ℕ) → are_linked (without_link g a b) x y ≡ (are_linked g x y && not (joins x y (a, b)))
  linked_fewer x y = has_fewer g.links a b (x, y)

  module _ (are : IsGraph g) where
    graph_less : IsGraph (without_link g a b)
    graph_less =
        let was : (x y : ℕ) → AreLinked (without_link g a b) x y → AreLinked g x y =
        λ x y e. (and_parts (are_linked g x y) (not (joins x y (a, b))) (sym (linked_fewer x y) ∙ e)).0 in
        record {
          some = are.some;
          ascending = are.ascending;
          rising = are.rising;
          within = are.within;
          symmetric = λ x y. linked_fewer x y
              ∙ ap₂ (λ s t. s && not t) (are.symmetric x y) (joins_back x y (a, b))
              ∙ sym (linked_fewer y x);
          irreflexive = λ x e. are.irreflexive x (was x x e);
          ends = λ x y e. are.ends x y (was x y e);
        }

    module _ (node_a : IsNode g a) (node_b : IsNode g b) (other : a ≢ b) where
      is_old_or_new : (x y : ℕ) → AreLinked (with_link g a b) x y
          → AreLinked g x y ⊎ (((a ≡ x) × (b ≡ y)) ⊎ ((a ≡ y) × (b ≡ x)))
      is_old_or_new x y e =
          ⊎_elim (λ old. inl old) (λ joined. inr (joins_ends x y (a, b) joined))
          (or_cases (are_linked g x y) (joins x y (a, b)) (sym (linked_more x y) ∙ e))

      graph_more : IsGraph (with_link g a b)
      graph_more = record {
        some = are.some;
        ascending = are.ascending;
        rising = are.rising;
        within = are.within;
        symmetric = λ x y. linked_more x y
            ∙ ap₂ (λ s t. s || t) (are.symmetric x y) (joins_back x y (a, b))
            ∙ sym (linked_more y x);
        irreflexive = λ x e. ⊎_elim (λ old. are.irreflexive x old)
            (λ joined. ⊎_elim (λ (p : (a ≡ x) × (b ≡ x)). other (p.0 ∙ sym p.1))
            (λ (p : (a ≡ x) × (b ≡ x)). other (p.0 ∙ sym p.1)) joined)
            (is_old_or_new x x e);
        ends = λ x y e. ⊎_elim (λ old. are.ends x y old)
            (λ joined. ⊎_elim (λ (p : (a ≡ x) × (b ≡ y)). subst (IsNode g) p.0 node_a)
            (λ (p : (a ≡ y) × (b ≡ x)). subst (IsNode g) p.1 node_b) joined)
            (is_old_or_new x y e);
      }

-- ---- faults

-- where the first reason that holds is none, none of them holds
module _ {L : Type 0} (app : App L) (from_text : List ℕ → Option L) (c : Configuration L) (network : IsNetwork c) where
  abbrev graph : IsGraph c.graph
  graph = network.graph

  abbrev shaped : IsShaped c
  shaped = network.shaped

  with_read_network : (at : ℕ) (o : Option L) → IsNetwork (with_read c at o)
  with_read_network at None = network
  with_read_network at (Some local) = record {
    graph = graph;
    shaped = record {
      modulus = shaped.modulus;
      trees = shaped.trees;
      waves = shaped.waves;
      locals = length-put_at c.graph.ids c.locals at local shaped.locals;
    };
  }

  -- under a graph of the same identifiers each has its registers and its local state
  other_graph : (g : Graph) → g.ids ≡ c.graph.ids → IsGraph g → IsNetwork (with_topology app c g)
  other_graph g same are = record { graph = are; shaped = shaped-with_topology app c g same shaped }

  is_there : (i : ℕ) → not (is_node c.graph i) ≡ false → IsNode c.graph i
  is_there i e = Contains-has c.graph.nodes i (not-false (is_node c.graph i) e)

  damaged_network : (f : Fault) → first_of (refusals from_text c f) ≡ None → IsNetwork (damaged app from_text c f)
  damaged_network (SetTree at regs) none = record {
    graph = graph;
    shaped = record {
      modulus = shaped.modulus;
      trees = length-put_at c.graph.ids c.trees at regs shaped.trees;
      waves = shaped.waves;
      locals = shaped.locals;
    };
  }
  damaged_network (SetWave at regs) none = record {
    graph = graph;
    shaped = record {
      modulus = shaped.modulus;
      trees = shaped.trees;
      waves = length-put_at c.graph.ids c.waves at regs shaped.waves;
      locals = shaped.locals;
    };
  }
  damaged_network (SetLocal at text) none = with_read_network at (from_text text)
  damaged_network (LinkDown a b) none =
      other_graph (without_link c.graph a b) refl (graph_less c.graph a b graph)
  damaged_network (LinkUp a b) none =
      let holds = none_holds (refusals from_text c (LinkUp a b)) none in
      let node_a = is_there a holds.0 in
      let node_b = is_there b holds.1.0 in
      let other : a ≢ b = λ same. both_ways (a == b) holds.1.1.0 (eq-eqb a b same) in
      other_graph (with_link c.graph a b) refl (graph_more c.graph a b graph node_a node_b other)
  damaged_network (NodeDown at) none = other_graph (without_node c.graph at) refl (graph_without c.graph at graph)
  damaged_network (NodeUp at) none = other_graph (with_node c.graph at) refl (graph_with c.graph at graph)

  injected_network : (f : Fault) (left : Configuration L) → injected app from_text c f ≡ Ok left → IsNetwork left
  unfolding injected
  injected_network f left is = by_refusal (first_of (refusals from_text c f)) refl is
    where
      by_refusal : (o : Option FaultRefusal) → first_of (refusals from_text c f) ≡ o
          → (elim o as (λ _. Configuration L → Result (Configuration L) FaultRefusal)
          [ None ↦ λ d. Ok d | Some refusal ↦ λ d. Err refusal ]) (damaged app from_text c f) ≡ Ok left
          → IsNetwork left
      by_refusal None none is =
          let same : damaged app from_text c f ≡ left = cc in
          subst IsNetwork same (damaged_network f none)
      by_refusal (Some r) some is = absurd (cc)

-- ---- entries

module _ {L : Type 0} (app : App L) where
  pub applied_network : (c left : Configuration L) (e : Event) (reply : Reply) → IsNetwork c
      → outcome_of app c e ≡ Ok (left, reply) → IsNetwork left
  applied_network c left e reply network is =
      let step = (outcome_is_step app c network.graph network.shaped e left reply is).0 in
      let same = step_graph app c left e step in
      record {
        graph = subst IsGraph (sym same) network.graph;
        shaped = outcome_shaped app c network.shaped e left reply is;
      }

  module _ (from_text : List ℕ → Option L) where
    entered_network : (c left : Configuration L) (entry : Entry) → IsNetwork c
        → entered app from_text c entry ≡ Some left → IsNetwork left
    entered_network c left (Step e) network is = by_outcome (outcome_of app c e) refl is
      where
        by_outcome : (o : Outcome L) → outcome_of app c e ≡ o → left_by_step o ≡ Some left → IsNetwork left
        by_outcome (Ok done) ok is =
            let same : done.0 ≡ left = cc in
            subst IsNetwork same (applied_network c done.0 e done.1 network ok)
        by_outcome (Err f) err is = absurd (cc)
    entered_network c left (Disturbed f) network is = by_fault (injected app from_text c f) refl is
      where
        by_fault : (o : Result (Configuration L) FaultRefusal) → injected app from_text c f ≡ o
            → left_by_fault o ≡ Some left → IsNetwork left
        by_fault (Ok done) ok is =
            let same : done ≡ left = cc in subst IsNetwork same (injected_network app from_text c network f done ok)
        by_fault (Err refusal) err is = absurd (cc)

    pub replayed_network : (es : List Entry) (c left : Configuration L) → IsNetwork c
        → replayed app from_text c es ≡ Some left → IsNetwork left
    unfolding replayed
    replayed_network [] c left network is = let same : c ≡ left = cc in subst IsNetwork same network
    replayed_network (e ∷ es) c left network is =
        by_entry (λ after some rest. replayed_network es after left (entered_network c after e network some) rest)
        (entered app from_text c e) refl is
      where
        by_entry : ((after : Configuration L) → entered app from_text c e ≡ Some after
            → replayed app from_text after es ≡ Some left → IsNetwork left)
            → (o : Option (Configuration L)) → entered app from_text c e ≡ o
            → option_and_then (λ after. replayed app from_text after es) o ≡ Some left → IsNetwork left
        by_entry later (Some after) some is = later after some is
        by_entry later None none is = absurd (cc)
