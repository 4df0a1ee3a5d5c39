use Rattle.std.proofs.Common.{◌≡◌, Some, length, get_or, subst, ◌∙◌, arith}
use Rattle.std.proofs.lemmas.List.{length-set}
use Rattle.topology.proofs.Indexes.{HasFirst, at_most_last, has_all, has_more}
use Rattle.topology.proofs.ids.indexes_of.Goals as goal

pub index_mut-requires : goal.index_mut-requires
index_mut-requires c =
    omega (
      arith,
      at_most_last c.args.ids.now c.requires.ascending c.loop-index.index c.loop-index-test.true,
      c.loop-index.invariant.0,
      c.loop-index.indexes.ok.0,
    )

pub loop-index-preserved : goal.loop-index-preserved
loop-index-preserved c =
    let ids = c.args.ids.now in (
      length-set c.loop-index.indexes.items (get_or ids c.loop-index.index 0) (Some c.loop-index.index)
          ∙ c.loop-index.invariant.0,
      has_more ids c.requires.ascending c.loop-index.index c.loop-index.indexes.items c.loop-index.invariant.1
          c.loop-index-test.true
          (omega (
            arith,
            at_most_last ids c.requires.ascending c.loop-index.index c.loop-index-test.true,
            c.loop-index.invariant.0,
          )),
    )

pub returns-clause-indexes : goal.returns-clause-indexes
returns-clause-indexes c =
    let ids = c.args.ids.now in
    let same : c.loop-index.index ≡ length ids = omega (arith, c.loop-index-test.false, c.loop-index.auto.index-end) in
    has_all ids c.requires.ascending c.loop-index.indexes.items
    (subst (λ n. HasFirst ids n c.loop-index.indexes.items) same c.loop-index.invariant.1)

pub returns-clause-room : goal.returns-clause-room
returns-clause-room c =
    λ k low.
    omega (arith, at_most_last c.args.ids.now c.requires.ascending k low, c.loop-index.invariant.0)
