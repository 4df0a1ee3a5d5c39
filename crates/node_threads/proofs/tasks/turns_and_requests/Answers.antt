use Rattle.std.proofs.Common.{◌∙◌, ap, arith}
use Rattle.node_threads.specs.Requests.{request_count}
use Rattle.node_threads.proofs.Requesting.{turns_add_none}
use Rattle.node_threads.proofs.tasks.turns_and_requests.Goals as goal

pub returns-in-None-turns_after-clause-asked : goal.returns-in-None-turns_after-clause-asked
returns-in-None-turns_after-clause-asked g c =
    let none = turns_add_none g.P.Application.app g.P.Application.from_text g.L.Sharing.book c.loop.seat.node
    c.loop.seat.receipts c.take_turns-ended.new.seat.receipts c.take_turns-ended.ensures.turns in
    omega (arith, none, c.loop.invariant.asked)

pub returns-in-None-ask-clause-asked : goal.returns-in-None-ask-clause-asked
returns-in-None-ask-clause-asked g c =
    let none = turns_add_none g.P.Application.app g.P.Application.from_text g.L.Sharing.book c.loop.seat.node
    c.loop.seat.receipts c.take_turns-ended.new.seat.receipts c.take_turns-ended.ensures.turns in
    omega (arith, ap (λ s. request_count s.receipts) c.in-None-ask.ensures.kept, none, c.loop.invariant.asked)

pub loop-preserved : goal.loop-preserved
loop-preserved g c =
    let none = turns_add_none g.P.Application.app g.P.Application.from_text g.L.Sharing.book c.loop.seat.node
    c.loop.seat.receipts c.take_turns-ended.new.seat.receipts c.take_turns-ended.ensures.turns in record {
      node = c.in-Some-ask.ensures.node ∙ c.take_turns-ended.ensures.node ∙ c.loop.invariant.node;
      asked = omega (arith, c.in-Some-ask.ensures.asked, none, c.loop.invariant.asked);
    }
