use Rattle.std.proofs.Common.{Some, refl, ap, sym, ◌∙◌, arith, length, take, take_all}
use Rattle.node_choices.specs.Choice.{next_of}
use Rattle.node_threads.proofs.Turning.{a_turn, kept_before, most_with, no_turn}
use Rattle.node_threads.proofs.turns.turn_on.Goals as goal

pub returns-in-Ok-clause-turns : goal.returns-in-Ok-clause-turns
returns-in-Ok-clause-turns g c =
    let told = c.in-Ok.ensures in
    a_turn g.P.Application.app g.P.Application.from_text _ _ _ _ c.args.plan.view c.args.plan.event c.in-Ok._receipt
    (ap (λ s. s.receipts) told.seat) told.yours.seen c.requires told.told.0 told.ok

pub returns-in-Err-clause-turns : goal.returns-in-Err-clause-turns
returns-in-Err-clause-turns g c = no_turn _ _ _ _ _ _ (ap (λ s. s.receipts) c.in-Err.ensures.kept.0)

pub returns-in-Err-clause-full : goal.returns-in-Err-clause-full
returns-in-Err-clause-full g c = λ full.
    c.in-Err.ensures.full (c.turn_of.ensures full)

pub returns-in-Ok-clause-kept : goal.returns-in-Ok-clause-kept
returns-in-Ok-clause-kept g c =
    kept_before g.P.Application.app g.P.Application.from_text _ _ _ _ (returns-in-Ok-clause-turns g c)

pub returns-in-Ok-clause-most : goal.returns-in-Ok-clause-most
returns-in-Ok-clause-most g c = most_with _ _ c.in-Ok._receipt c.in-Ok.ensures.seat

pub returns-in-Err-clause-most : goal.returns-in-Err-clause-most
returns-in-Err-clause-most g c = omega (arith, ap (λ s. length s.receipts) c.in-Err.ensures.kept.0)

pub returns-in-Err-clause-kept : goal.returns-in-Err-clause-kept
returns-in-Err-clause-kept g c =
    ap (λ s. take (length c.args.seat.now.receipts) s.receipts) c.in-Err.ensures.kept.0
    ∙ take_all _ c.args.seat.now.receipts (omega arith)
