use Rattle.std.proofs.Common.{◌≡◌, ◌<◌, length, get_or, sym, subst, ◌∙◌, arith}
use Rattle.std.proofs.lemmas.List.{get_or_read}
use Rattle.topology.specs.Rows.{row_at}
use Rattle.topology.specs.Searching.{MarksRow}
use Rattle.topology.proofs.Flooding.{follow_more}
use Rattle.topology.proofs.Inserting.{rows_of}
use Rattle.topology.proofs.RowLemmas.{row_within, row_here}
use Rattle.topology.proofs.leaders.lead_reached.Goals as goal

pub mark_row-requires-clause-within : goal.mark_row-requires-clause-within
mark_row-requires-clause-within c =
    let near = c.args.near.now in
    let n = length near in
    let following = c.loop-place.invariant.following in
    let place = c.loop-place.place in
    let index = c.index.result.now in
    let place_in : place < length c.loop-place.reached.items = omega arith in
    let read : index ≡ get_or c.loop-place.reached.items place 0 =
    get_or_read c.loop-place.reached.items place index place_in c.index.ensures 0 in
    let index_in : index < n = subst (λ i. i < n) (sym read) (following.follow place place_in).0 in
    rw (c.deref.ensures.value, following.count, c.requires.count)
    (row_within n near c.requires.rows index c.index-near-index.result index_in c.index-near-index.is)

pub loop-place-preserved : goal.loop-place-preserved
loop-place-preserved c =
    let near = c.args.near.now in
    let n = length near in
    let start = c.args.start in
    let following = c.loop-place.invariant.following in
    let old = c.loop-place.leaders in
    let new = c.mark_row.new.marks in
    let before = c.loop-place.reached.items in
    let after = c.mark_row.new.reached.items in
    let place = c.loop-place.place in
    let index = c.index.result.now in
    let row = c.index-near-index.result in
    let place_in : place < length before = omega arith in
    let read : index ≡ get_or before place 0 = get_or_read before place index place_in c.index.ensures 0 in
    let index_in : index < n = subst (λ i. i < n) (sym read) (following.follow place place_in).0 in
    let row_is : c.deref.result.now ≡ row_at (rows_of near) index =
    c.deref.ensures.value ∙ sym (row_here n near c.requires.rows index row index_in c.index-near-index.is) in
    let marked : MarksRow n (row_at (rows_of near) index) start old new =
    subst (λ r. MarksRow n r start old new) row_is c.mark_row.ensures.marked in
    record {
      following = follow_more n (rows_of near) start c.requires.within c.args.leaders.now c.requires.count c.requires.rows
          place old before following place_in new after
          (subst (λ i. MarksRow n (row_at (rows_of near) i) start old new) read marked) c.mark_row.ensures.queued;
      capacity = omega (arith, c.mark_row.ensures.capacity, c.loop-place.invariant.capacity);
    }
