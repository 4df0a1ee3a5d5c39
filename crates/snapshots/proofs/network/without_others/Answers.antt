use Rattle.std.proofs.Common.{◌≡◌, ◌<◌, ◌+◌, ◌∷◌, ◌∙◌, ℕ, List, Bool, true, not, drop, filter, slice_index, ap, refl, subst, sym}
use Rattle.std.specs.List.{AllByRecursion}
use Rattle.std.proofs.lemmas.List.{drop_more}
use Rattle.topology.specs.Graph.{has, is_node}
use Rattle.snapshots.specs.Items.{has_node}
use Rattle.snapshots.specs.Parts.{without_nodes}
use Rattle.snapshots.proofs.LinkLists.{AreOrdered, ordered_ids}
use Rattle.snapshots.proofs.Others.{all_there, one_by_one, others_up}
use Rattle.snapshots.proofs.network.without_others.Goals as goal

pub loop-id-init : goal.loop-id-init
loop-id-init g c =
    let ids = c.args.ids.now in
    let P : List ℕ → Type 0 = λ nodes. AllByRecursion (λ i. has nodes i ≡ true) ids in
    record {
      same = refl;
      up = subst P (sym c.requires.up) (all_there ids);
      rising = ordered_ids ids c.requires.rising;
    }

pub loop-id-preserved : goal.loop-id-preserved
loop-id-preserved g c =
    let ids = c.args.ids.now in
    let k = c.loop-id.id-index in
    let rest = drop (k + 1) ids in
    let old = c.loop-id.left in
    let named : ℕ → Bool = λ i. has_node c.args.nodes.now i in
    let split : drop k ids ≡ slice_index ids k ∷ rest = drop_more ids k 0 c.loop-id-test.true in
    let up = subst (AllByRecursion (λ i. is_node old i ≡ true)) split c.loop-id.invariant.up in
    let rising = subst (AreOrdered (λ x y. x < y)) split c.loop-id.invariant.rising in
    record {
      same = ap (λ t. without_nodes t (filter (λ i. not (named i)) rest)) c.in_ok-left.ensures
          ∙ sym (one_by_one named old (slice_index ids k) rest)
          ∙ ap (λ xs. without_nodes old (filter (λ i. not (named i)) xs)) (sym split)
          ∙ c.loop-id.invariant.same;
      up = subst (λ t. AllByRecursion (λ i. is_node t i ≡ true) rest) (sym c.in_ok-left.ensures)
          (others_up named old (slice_index ids k) rest rising.0 up.1);
      rising = rising.1;
    }
