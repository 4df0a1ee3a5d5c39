use Rattle.std.proofs.Common.{arith, refl, ◌∙◌}
use Rattle.node_threads.proofs.Turning.{kept_before, no_turn, turns_on}
use Rattle.node_threads.proofs.turns.take_turns.Goals as goal

pub loop-turn-init : goal.loop-turn-init
loop-turn-init g c =
    let app = g.P.Application.app in
    let from_text = g.P.Application.from_text in
    let had = c.args.seat.now.receipts in
    let none = no_turn app from_text g.L.Sharing.book c.args.seat.now.node had had refl in record {
      most = omega arith;
      kept = kept_before _ _ _ _ had had none;
      node = refl;
      turns = none;
    }

pub returns-in-BookFull-clause-turns : goal.returns-in-BookFull-clause-turns
returns-in-BookFull-clause-turns g c =
    turns_on _ _ _ _ _ _ _ _ c.loop-turn.invariant.node c.loop-turn.invariant.turns c.turn_on.ensures.turns

pub returns-in-BookFull-clause-full : goal.returns-in-BookFull-clause-full
returns-in-BookFull-clause-full g c = λ full. c.turn_on.ensures.full c.in-BookFull.is

pub returns-in-NoMemory-clause-turns : goal.returns-in-NoMemory-clause-turns
returns-in-NoMemory-clause-turns g c =
    turns_on _ _ _ _ _ _ _ _ c.loop-turn.invariant.node c.loop-turn.invariant.turns c.turn_on.ensures.turns

pub loop-turn-preserved : goal.loop-turn-preserved
loop-turn-preserved g c =
    let app = g.P.Application.app in
    let from_text = g.P.Application.from_text in
    let had = c.args.seat.now.receipts in
    let has = c.turn_on.new.seat.receipts in
    let more =
    turns_on app from_text g.L.Sharing.book c.args.seat.now.node c.loop-turn.seat.node had
    c.loop-turn.seat.receipts has c.loop-turn.invariant.node c.loop-turn.invariant.turns c.turn_on.ensures.turns in record {
      most = omega arith;
      kept = kept_before _ _ _ _ had has more;
      node = c.turn_on.ensures.node ∙ c.loop-turn.invariant.node;
      turns = more;
    }
