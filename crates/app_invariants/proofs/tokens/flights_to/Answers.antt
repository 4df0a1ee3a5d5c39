use Rattle.std.proofs.Common.{length, get_or, arith, ap}
use Rattle.std.proofs.lemmas.List.{length-map}
use Rattle.std.proofs.lemmas.List.Sums.{count_by-le-length, length-filter}
use Rattle.topology.specs.Graph.{are_linked}
use Rattle.app_invariants.proofs.tokens.flights_to.Goals as goal

pub returns-clause-small : goal.returns-clause-small
returns-clause-small c =
    let g = c.args.topology.now in
    let linked = are_linked g (get_or g.ids c.args.index 0) in
    omega (
      arith,
      c.loop-near.invariant.few,
      ap length c.neighbours-near-items.ensures.ids,
      length-map c.neighbours-near-items.result.now (λ n. get_or g.ids n 0),
      length-filter linked g.ids,
      count_by-le-length linked g.ids,
    )
