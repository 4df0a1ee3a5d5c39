use Rattle.std.proofs.Common.{Bor, List, ℕ, ◌<◌, ◌≤◌, [], option_map, subst}
use Rattle.diagnoses.proofs.Nearing.{further_lent, nearer_lent}
use Rattle.diagnoses.proofs.near_names.nearest.Goals as goal
use Rattle.diagnoses.proofs.near_names.nearest.Goals.{then-edits-least, else-edits-least}

pub loop-name-preserved : goal.loop-name-preserved
loop-name-preserved c =
    let text : Bor (List ℕ) → List ℕ = λ name. name.now in
    let none : Bor (List ℕ) = record { ref_ptr = (0, 0); now = [] } in
    let names = c.args.names.now in
    let i = c.loop-name.name-index in
    let found = option_map text c.loop-name.found in
    let least = c.loop-name.least in
    elim c.if-edits-least.branch [
      | then-edits-least w ↦
          rw (w.found-is, w.least-is, c.in_ok-edits.ensures.value)
          (nearer_lent text names c.args.word.now i none c.loop-name-test.true found least c.loop-name.invariant
          (subst (λ n. n < least) c.in_ok-edits.ensures.value w.if-edits-least.true))
      | else-edits-least w ↦
          rw (w.found-is, w.least-is)
          (further_lent text names c.args.word.now i none c.loop-name-test.true found least c.loop-name.invariant
          (subst (λ n. least ≤ n) c.in_ok-edits.ensures.value w.if-edits-least.false))
    ]
