use Rattle.std.proofs.Common.{IsSome, subst, sym}
use Rattle.history.proofs.FirstRefused.{not_allowed}
use Rattle.history.specs.Entries.{replayed}
use Rattle.reset_service.proofs.drawn.draw_left.Goals as goal

pub unreachable-requires : goal.unreachable-requires
unreachable-requires g c =
    let app = g.P.Application.app in
    let from_text = g.P.Application.from_text in
    let es = c.args.entries.now in
    let position = c.in-Err-NotEnabledAt.field-0-0 in
    let copy = c.in_ok-copy.field-0 in
    not_allowed app from_text copy es position
    (c.in-Err-NotEnabledAt.ensures.err position c.in-Err-NotEnabledAt.field-0-is)
    (subst (λ x. IsSome (replayed app from_text x es)) (sym c.in_ok-copy.ensures) c.requires.run)
