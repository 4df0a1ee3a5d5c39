use Rattle.std.proofs.Common.{◌≡◌, true, false, ℕ, List, Some, None, not, ap, refl, sym, ◌∙◌}
use Rattle.topology.specs.Graph.{has}
use Rattle.topology.specs.Rows.{AreNodes}
use Rattle.topology.proofs.RowLemmas.{index_found, index_if_node, no_node_index, node_index}
use Rattle.topology.proofs.links.end_indexes.Goals as goal

known : (ids nodes : List ℕ) (x i : ℕ) → Some i ≡ index_if_node ids nodes x → not (has nodes x) ≡ false
known ids nodes x i at = ap not (node_index ids nodes x i at).1

strange : (ids nodes : List ℕ) → AreNodes ids nodes → (x : ℕ) → None ≡ index_if_node ids nodes x
    → not (has nodes x) ≡ true
strange ids nodes are x at = ap not (no_node_index ids nodes are x at)

pub returns-in-Some-Some-clause-ok : goal.returns-in-Some-Some-clause-ok
returns-in-Some-Some-clause-ok c = (
  index_found _ c.args.ids.now.nodes _ _ c.in-Some-Some.ensures,
  index_found _ c.args.ids.now.nodes _ _ c.in-Some-Some.ensures',
)

pub returns-in-Some-Some-clause-up : goal.returns-in-Some-Some-clause-up
returns-in-Some-Some-clause-up c = (
  (node_index _ c.args.ids.now.nodes _ _ c.in-Some-Some.ensures).1,
  (node_index _ c.args.ids.now.nodes _ _ c.in-Some-Some.ensures').1,
)

pub returns-in-Some-Some-clause-known : goal.returns-in-Some-Some-clause-known
returns-in-Some-Some-clause-known c =
    let members = c.args.ids.now in
    rw (known members.ids members.nodes _ _ c.in-Some-Some.ensures, known members.ids members.nodes _ _ c.in-Some-Some.ensures') refl

pub returns-in-Some-None-clause-err : goal.returns-in-Some-None-clause-err
returns-in-Some-None-clause-err c =
    let members = c.args.ids.now in
    rw (
      known members.ids members.nodes _ _ c.in-Some-None.ensures,
      strange members.ids members.nodes c.lemma_are_ids.ensures.nodes _ c.in-Some-None.ensures',
    ) refl

pub returns-in-None-default-clause-err : goal.returns-in-None-default-clause-err
returns-in-None-default-clause-err c =
    let members = c.args.ids.now in
    rw (strange members.ids members.nodes c.lemma_are_ids.ensures.nodes _ (sym c.in-None-default.is-0 ∙ c.node_at.ensures)) refl
