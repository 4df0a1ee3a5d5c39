-- The nodes that lines name are different ones of the graph.
use Rattle.std.proofs.Common.{◌≡◌, ℕ, ◌+◌, Bool, true, false, not, ◌||◌, ◌==◌, cond, List, [], ◌∷◌, ◌++◌, Option, Some}
use Rattle.std.proofs.Common.{None, refl, sym, ap, ◌∙◌, subst, true≢false, append-nil}
use Rattle.std.proofs.lemmas.Bool.{eqb-true, eq-eqb, false_from_ne_true}
use Rattle.std.proofs.lemmas.List.Elements.{All-append, All-cons, All-nil}
use Rattle.std.proofs.lemmas.List.Folds.{list_any-append}
use Rattle.topology.specs.Changing.{first_of}
use Rattle.topology.specs.Graph.{Graph, has}
use Rattle.applications.specs.Meaning.{Meaning}
use Rattle.snapshots.specs.Items.{has_node, nodes_in}
use Rattle.snapshots.specs.Parts.{AreDistinct, ArePossible}
use Rattle.snapshots.specs.Reading.{Say, said_refusals, with_said}
use Rattle.snapshots.specs.declared.item.Item.{Item}
use Rattle.snapshots.specs.declared.item.Item.TheVariants.{Version, Node, Link, NoLink}
use Rattle.snapshots.specs.declared.item.NodeState.{NodeState}
use Rattle.snapshots.proofs.Collected.{nodes_more}

-- what isn't told doesn't hold
pub not_told : {F : Type 0} (holds : Bool) (told : F) (rest : Option F) → cond holds (Some told) rest ≡ None
    → (holds ≡ false) × (rest ≡ None)
not_told true told rest none = absurd (cc)
not_told false told rest none = (refl, none)

pub not-false_is : (b : Bool) → not b ≡ false → b ≡ true
not-false_is true h = refl
not-false_is false h = absurd (true≢false h)

pub or_parts : (a b : Bool) → (a || b) ≡ false → (a ≡ false) × (b ≡ false)
or_parts true b h = absurd (true≢false h)
or_parts false b h = (refl, h)

other_way : (a b : ℕ) → (a == b) ≡ false → (b == a) ≡ false
other_way a b other =
    false_from_ne_true (b == a) (λ same. true≢false (sym (eq-eqb a b (sym (eqb-true b a same))) ∙ other))

module _ {L : Type 0} where
  distinct_more : (nodes : List (NodeState L)) (node : NodeState L) → AreDistinct nodes → has_node nodes node.id ≡ false
      → AreDistinct (nodes ++ node ∷ [])
  distinct_more [] node apart new = (refl, tt)
  distinct_more (first ∷ nodes) node apart new =
      let parts = or_parts (first.id == node.id) (has_node nodes node.id) new in
      let other : (node.id == first.id) ≡ false = other_way first.id node.id parts.0 in (
        list_any-append (λ n. n.id == first.id) nodes (node ∷ [])
            ∙ ap (λ b. b || ((node.id == first.id) || false)) apart.0
            ∙ ap (λ b. b || false) other,
        distinct_more nodes node apart.1 parts.1,
      )

  possible_more : (g : Graph) (nodes : List (NodeState L)) (node : NodeState L) → ArePossible g nodes
      → has g.ids node.id ≡ true → has_node nodes node.id ≡ false → ArePossible g (nodes ++ node ∷ [])
  possible_more g nodes node are known new =
      let P : NodeState L → Type 0 = λ n. has g.ids n.id ≡ true in
      record {
        known = All-append P nodes (node ∷ []) are.known (All-cons P node [] known (All-nil P));
        distinct = distinct_more nodes node are.distinct new;
      }

  possible_said : (g : Graph) (items : List (Item L)) (said : Option (Item L)) → ArePossible g (nodes_in items)
      → first_of (said_refusals g items said) ≡ None → ArePossible g (nodes_in (with_said items said))
  possible_said g items None are none = are
  possible_said g items (Some (Node node)) are none =
      let first = not_told (not (has g.ids node.id)) _ _ none in
      let second = not_told (has_node (nodes_in items) node.id) _ _ first.1 in
      subst (ArePossible g) (sym (nodes_more items (Node node)))
      (possible_more g (nodes_in items) node are (not-false_is (has g.ids node.id) first.0) second.0)
  possible_said g items (Some (Version version)) are none =
      subst (ArePossible g) (sym (nodes_more items (Version version) ∙ append-nil (nodes_in items))) are
  possible_said g items (Some (Link a b)) are none =
      subst (ArePossible g) (sym (nodes_more items (Link a b) ∙ append-nil (nodes_in items))) are
  possible_said g items (Some NoLink) are none =
      subst (ArePossible g) (sym (nodes_more items NoLink ∙ append-nil (nodes_in items))) are

  pub possible : (m : Meaning L) (g : Graph) (n : ℕ) (before : List (Item L)) (lines : List (List ℕ))
      (items : List (Item L)) → ArePossible g (nodes_in before) → Say m g n before lines items → ArePossible g (nodes_in items)
  possible m g n before [] items are said = subst (λ is. ArePossible g (nodes_in is)) said are
  possible m g n before (line ∷ lines) items are said =
      possible m g (n + 1) (with_said before said.0) lines items (possible_said g before said.0 are said.2) said.3

  pub possible_none : (g : Graph) → ArePossible {L = L} g []
  possible_none g = record { known = All-nil (λ (node : NodeState L). has g.ids node.id ≡ true); distinct = tt }
