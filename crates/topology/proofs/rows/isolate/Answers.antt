use Rattle.std.proofs.Common.{◌≡◌, ◌<◌, length, get_or, ap, subst, subst₂, arith}
use Rattle.topology.specs.Building.{Unlinks}
use Rattle.topology.specs.Rows.{row_at}
use Rattle.topology.proofs.Inserting.{rows_of}
use Rattle.topology.proofs.Isolating.{isolated, isolating_more, row_below}
use Rattle.topology.proofs.rows.isolate.Goals as goal

pub unlink-requires-clause-j_within : goal.unlink-requires-clause-j_within
unlink-requires-clause-j_within c =
    let rows = rows_of c.args.near.now in
    let k = c.loop-other.other-index in
    let low : k < length (row_at rows c.args.index) =
    subst (λ row. k < length row) c.requires.row c.loop-other-test.true in
    omega (
      arith,
      row_below (length c.args.near.now) rows c.args.index c.requires.rows c.requires.within k low,
      ap (λ row. get_or row k 0) c.requires.row,
      c.loop-other.auto.near,
    )

pub loop-other-preserved : goal.loop-other-preserved
loop-other-preserved c =
    let rows = rows_of c.args.near.now in
    let k = c.loop-other.other-index in
    let low : k < length (row_at rows c.args.index) =
    subst (λ row. k < length row) c.requires.row c.loop-other-test.true in
    isolating_more (length c.args.near.now) rows c.args.index c.requires.rows c.requires.within k low
    (rows_of c.loop-other.near) (rows_of c.unlink.new.near) c.loop-other.invariant
    (subst₂ (λ n j. Unlinks n (rows_of c.loop-other.near) c.args.index j (rows_of c.unlink.new.near))
    c.loop-other.auto.near (ap (λ row. get_or row k 0) c.requires.row) c.unlink.ensures)

pub returns : goal.returns
returns c =
    let rows = rows_of c.args.near.now in
    let k = c.loop-other.other-index in
    let same : length c.args.row.now ≡ length (row_at rows c.args.index) = ap length c.requires.row in
    isolated (length c.args.near.now) rows c.args.index c.requires.rows c.requires.within k
    (rows_of c.loop-other.near) (omega (arith, same, c.loop-other-test.false)) c.loop-other.invariant
    (omega (arith, same, c.loop-other-test.false, c.loop-other.auto.other-index-end))
