-- What an event of the wave changes, and orders that stay where the tree does.
use Rattle.std.proofs.Common.{◌≡◌, ◌≢◌, ℕ, ◌<◌, false, List, length, slice_index_or, sym, ap, subst, ◌∙◌}
use Rattle.std.proofs.Common.{⊎_elim, true≢false, arith}
use Rattle.std.proofs.lemmas.Bool.{cases_eq}
use Rattle.app_interface.specs.Application.{App}
use Rattle.topology.specs.Components.{leader}
use Rattle.topology.specs.Graph.{Graph, IsGraph, IsNode, node_bound}
use Rattle.topology.proofs.Components.{leader_leads, one_leader}
use Rattle.tree_layer.specs.declared.regs.TreeRegs.{TreeRegs}
use Rattle.tree_layer.specs.TreePicture.{TreePicture}
use Rattle.tree_layer.proofs.TreePictures.{rests_where_picture}
use Rattle.reset_model.specs.declared.event.Event.{Event}
use Rattle.reset_model.specs.Configuration.{Configuration, local_of, tree_of, wave_of}
use Rattle.reset_model.specs.MachineSteps.{IsStep, act_step, local_effect, row_step}
use Rattle.reset_model.specs.Sound.{IsSound}
use Rattle.reset_model.specs.Steps.{IsEnabled, event_node, is_act, tree_effect, wave_effect}
use Rattle.reset_model.specs.WavePicture.{WavePicture}
use Rattle.reset_model.proofs.WavePictures.{sound_where_picture}
use Rattle.recovery.specs.FalseNodes.{far_of}
use Rattle.recovery.specs.Mended.{KeepsTree}
use Rattle.recovery.specs.Outward.{IsOutward}
use Rattle.recovery.specs.Resetting.{IsInward}
use Rattle.recovery.proofs.Leading.{same_item}

-- what an event that leaves the tree changes
pub record Moved {L : Type 0} (app : App L) (c : Configuration L) (e : Event) (c' : Configuration L) : Type 0 where
  pub node : IsNode c.graph (event_node e)
  pub enabled : IsEnabled c.graph (node_bound c.graph) c.modulus (tree_of c) (wave_of c) e
  pub keeps : KeepsTree c c'
  pub here : wave_of c' (event_node e) ≡ wave_effect c.modulus (tree_of c) (wave_of c) e
  pub others : (k : ℕ) → IsNode c.graph k → k ≢ event_node e → wave_of c' k ≡ wave_of c k
  pub local_here : local_of app c' (event_node e) ≡ local_effect app c.graph (local_of app c) e
  pub local_others : (k : ℕ) → IsNode c.graph k → k ≢ event_node e → local_of app c' k ≡ local_of app c k

pub moved : {L : Type 0} (app : App L) (c c' : Configuration L) (e : Event) → is_act e ≡ false
    → tree_effect (node_bound c.graph) (tree_of c) e ≡ tree_of c (event_node e) → IsStep app c e c' → Moved app c e c'
moved app c c' e row tree (act_step i case with is step) = absurd (true≢false (sym (ap is_act is) ∙ row))
moved app c c' e row tree (row_step step) = record {
  node = step.regs.node;
  enabled = step.regs.enabled;
  keeps = record {
    graph = step.graph;
    modulus = step.modulus;
    trees = λ i node.
        let P : ℕ → Type 0 = λ k. tree_of c' k ≡ tree_of c k in
        ⊎_elim (λ same. subst P (sym same) (step.regs.trees.here ∙ tree))
        (λ other. step.regs.trees.others i node other) (cases_eq i (event_node e));
  };
  here = step.regs.waves.here;
  others = step.regs.waves.others;
  local_here = step.locals.here;
  local_others = step.locals.others;
}

-- ---- nodes and orders of a configuration with the same tree

pub node_on : {L : Type 0} (c c' : Configuration L) → KeepsTree c c' → (i : ℕ) → IsNode c.graph i → IsNode c'.graph i
node_on c c' keeps i node = let P : Graph → Type 0 = λ g. IsNode g i in subst P (sym keeps.graph) node

pub node_back : {L : Type 0} (c c' : Configuration L) → KeepsTree c c' → (i : ℕ) → IsNode c'.graph i → IsNode c.graph i
node_back c c' keeps i node = let P : Graph → Type 0 = λ g. IsNode g i in subst P keeps.graph node

far_on : {L : Type 0} (c c' : Configuration L) → KeepsTree c c' → (i : ℕ) → IsNode c.graph i → far_of c' i ≡ far_of c i
far_on c c' keeps i node = ap (λ (r : TreeRegs). r.dist) (keeps.trees i node)

module _ {L : Type 0} (c c' : Configuration L) (keeps : KeepsTree c c') (order : List ℕ) where
  pub outward_on : IsOutward c order → IsOutward c' order
  outward_on out = record {
    count = out.count ∙ ap (λ (g : Graph). length g.nodes) (sym keeps.graph);
    only = λ i there. node_on c c' keeps i (out.only i there);
    all = λ i node. out.all i (node_back c c' keeps i node);
    rising = λ k l d low high.
        let item : (n : ℕ) → n < length order → IsNode c.graph (slice_index_or order n d) =
        λ n short. out.only (slice_index_or order n d) (n, short, same_item order n (slice_index_or order n d) d short) in
        let a = far_on c c' keeps (slice_index_or order k d) (item k (omega (arith, low, high))) in
        let b = far_on c c' keeps (slice_index_or order l d) (item l high) in
        let was = out.rising k l d low high in
        omega (arith, a, b, was);
  }

  pub inward_on : IsInward c order → IsInward c' order
  inward_on inward = record {
    count = inward.count ∙ ap (λ (g : Graph). length g.nodes) (sym keeps.graph);
    only = λ i there. node_on c c' keeps i (inward.only i there);
    all = λ i node. inward.all i (node_back c c' keeps i node);
    falling = λ k l d low high.
        let item : (n : ℕ) → n < length order → IsNode c.graph (slice_index_or order n d) =
        λ n short. inward.only (slice_index_or order n d) (n, short, same_item order n (slice_index_or order n d) d short) in
        let a = far_on c c' keeps (slice_index_or order k d) (item k (omega (arith, low, high))) in
        let b = far_on c c' keeps (slice_index_or order l d) (item l high) in
        let was = inward.falling k l d low high in
        omega (arith, a, b, was);
  }

-- ---- the pictures of sound registers

module _ {L : Type 0} (c : Configuration L) (graph : IsGraph c.graph) (sound : IsSound c) where
  pub tree_picture : TreePicture c.graph (tree_of c)
  tree_picture = (rests_where_picture c.graph (node_bound c.graph) (tree_of c) graph (omega arith)).0 sound.tree

  pub wave_picture : WavePicture c.graph c.modulus (tree_of c) (wave_of c)
  wave_picture = (sound_where_picture c.graph c.modulus (tree_of c) (wave_of c) graph tree_picture).0 sound.wave

  -- a leader is its own father
  pub leader_own : (i : ℕ) → IsNode c.graph i → i ≡ leader c.graph i → (tree_of c i).father ≡ i
  leader_own i node leads =
      tree_picture.top i node
      (leads
      ∙ sym (one_leader c.graph i (tree_of c i).root (leader c.graph i) (tree_picture.root i node)
      (leader_leads c.graph i graph node)))
