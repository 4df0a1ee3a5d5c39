use Rattle.std.proofs.lemmas.Result.{IfErr-weaker}
use Rattle.std.proofs.Common.{Some}
use Rattle.snapshots.specs.Reading.IsLineFault.{refused}
use Rattle.snapshots.proofs.reading.take_line.Goals as goal

pub returns-in-Some-clause-err : goal.returns-in-Some-clause-err
returns-in-Some-clause-err g c =
    IfErr-weaker c.take_item.result _ _
    (λ f h other items kept. refused (Some c.in-Some.item) (rw c.in-Some.is at c.in_ok-item.ensures.ok) (h other items kept))
    c.take_item.ensures.err
