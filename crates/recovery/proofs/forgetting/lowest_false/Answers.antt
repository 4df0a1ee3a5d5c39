use Rattle.std.proofs.Common.{◌≡◌, ◌<◌, ℕ, slice_index_or, ⊎_elim, subst, sym, arith, true, ap, ◌∙◌, length, List}
use Rattle.std.proofs.lemmas.Bool.{cases_lt}
use Rattle.topology.specs.Graph.{IsNode}
use Rattle.reset_model.specs.Configuration.{tree_of}
use Rattle.recovery.specs.FalseNodes.{AtMost, far_of, is_false, top_of}
use Rattle.recovery.proofs.Leading.{same_item}
use Rattle.recovery.proofs.ForgetSteps.{lowest_found, lowest_none}
use Rattle.recovery.proofs.forgetting.lowest_false.Goals as goal

pub loop-id-preserved : goal.loop-id-preserved
loop-id-preserved g c =
    let config = c.args.config.now in
    let target = c.args.target.now in
    let nodes = c.nodes-nodes.result.now in (
      c.next_lowest-lowest.ensures.found,
      λ k d low is. ⊎_elim
          (λ less. c.next_lowest-lowest.ensures.there (slice_index_or nodes k d) (c.loop-id.invariant.1 k d less is))
          (λ most.
          let same : c.loop-id.id-index ≡ k = omega (arith, low, most) in
          let P : ℕ → Type 0 = λ n. is_false (top_of target) (far_of target) (tree_of config) n ≡ true
          → AtMost config c.next_lowest-lowest.result n in
          let Q : ℕ → Type 0 = λ n. P (slice_index_or nodes n d) in
          subst Q same (subst P (same_item nodes c.loop-id.id-index _ d c.loop-id-test.true) c.next_lowest-lowest.ensures.here) is)
          (cases_lt k c.loop-id.id-index),
    )

pub returns : goal.returns
returns g c =
    let config = c.args.config.now in
    let target = c.args.target.now in
    let nodes = c.nodes-nodes.result.now in
    let same : nodes ≡ config.graph.nodes = c.nodes-nodes.ensures ∙ ap (λ h. h.nodes) c.topology.ensures in
    let least : (j : ℕ) → IsNode config.graph j
    → is_false (top_of target) (far_of target) (tree_of config) j ≡ true → AtMost config c.loop-id.lowest j =
    λ j node is.
    let W : List ℕ → Type 0 = λ l. (k : ℕ) × (k < length l) × (slice_index_or l k j ≡ j) in
    let at = subst W (sym same) node in
    let P : ℕ → Type 0 = λ n. is_false (top_of target) (far_of target) (tree_of config) n ≡ true
    → AtMost config c.loop-id.lowest n in
    subst P at.2 (c.loop-id.invariant.1 at.0 j (let low : at.0 < length nodes = at.1 in omega (arith, low, c.loop-id-test.false))) is in
    record {
      found = lowest_found config target c.loop-id.lowest c.loop-id.invariant.0 least;
      none = lowest_none config target c.loop-id.lowest least;
    }
