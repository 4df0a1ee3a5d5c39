use Rattle.std.proofs.Common.{◌==◌, ◌++◌, ◌∷◌, ◌∙◌, [], ap, rules}
use Rattle.reset_model.proofs.Collected.{passed_over, taken_more}
use Rattle.reset_model.proofs.neighbourhood.read_child_waves.Goals as goal
use Rattle.reset_model.proofs.neighbourhood.read_child_waves.Goals.{then-other-id+in_ok-push, else-other-id}

pub loop-other-preserved : goal.loop-other-preserved
loop-other-preserved g c =
    let near = c.args.near.now in
    let i = c.loop-other.other-index in
    let other = c.other-item.result in
    let short = c.loop-other-test.true in
    let waves = c.loop-other.children.items in
    elim c.if-other-id.branch [
      | then-other-id+in_ok-push w ↦
          rw w.children-is
          (taken_more near i other short c.other-item.is (λ n. n.tree.father == c.args.id) (λ n. (n.id, n.wave)) _ _
          c.loop-other.invariant (search rules)
          (w.in_ok-push.ensures.items ∙ ap (λ n. waves ++ (n.id, n.wave) ∷ []) c.other.view_is))
      | else-other-id w ↦
          rw w.children-is
          (passed_over near i other short c.other-item.is (λ n. n.tree.father == c.args.id) (λ n. (n.id, n.wave)) _
          c.loop-other.invariant (search rules))
    ]
