use Rattle.std.proofs.Common.{◌≡◌, List, ℕ, subst, arith, ◌∷◌, take}
use Rattle.std.proofs.lemmas.List.{take_all}
use Rattle.reset_machine.proofs.Doubting.{DoubtsEach, doubts_around, doubts_first, doubts_next}
use Rattle.reset_machine.proofs.ready_set.ReadySet.doubt_around.Goals as goal

pub loop-near-init : goal.loop-near-init
loop-near-init c = doubts_first c.args.self.now c.doubt.new.self c.args.node c.doubt.ensures

pub loop-near-preserved : goal.loop-near-preserved
loop-near-preserved c =
    doubts_next c.args.self.now c.loop-near.self c.doubt-in-loop-near.new.self c.args.node
    c.neighbours-near-items.result.now c.loop-near.near-index c.loop-near-test.true c.loop-near.invariant
    c.doubt-in-loop-near.ensures

pub returns : goal.returns
returns c =
    let near = c.neighbours-near-items.result.now in
    let all : take c.loop-near.near-index near ≡ near =
    take_all c.loop-near.near-index near (omega (arith, c.loop-near-test.false)) in
    let doubts = subst (λ (ns : List ℕ). DoubtsEach c.args.self.now (c.args.node ∷ ns) c.loop-near.self) all
    c.loop-near.invariant in
    doubts_around c.args.topology.now c.args.self.now c.loop-near.self c.args.node c.lemma_is_graph.ensures.graph
    c.lemma_is_standing.ensures c.requires.node c.requires.count near c.neighbours-near-items.ensures.ids
    c.neighbours-near-items.ensures.within doubts
