use Rattle.std.proofs.Common.{IsSome, ap, subst, sym, ◌∙◌}
use Rattle.std.proofs.lemmas.List.{drop_all}
use Rattle.history.specs.Entries.{replayed}
use Rattle.history.proofs.Plays.{replayed_nil}
use Rattle.history.proofs.Replays.{next_allowed, next_replayed}
use Rattle.history.proofs.replay.play_all.Goals as goal

pub play-requires-after_bounds : goal.play-requires-after_bounds
play-requires-after_bounds g c κs within =
    let loop = c.loop-entry in
    next_allowed g.P.Application.app g.P.Application.from_text loop.config c.args.entries.now loop.entry-index _
    c.loop-entry-test.true c.entry-item.is (subst (λ o. IsSome o) (sym loop.invariant) c.requires)

pub loop-entry-preserved : goal.loop-entry-preserved
loop-entry-preserved g c =
    let loop = c.loop-entry in
    next_replayed g.P.Application.app g.P.Application.from_text loop.config c.play.new.config c.args.entries.now
    loop.entry-index _ c.loop-entry-test.true c.entry-item.is c.in_ok-play.ensures ∙ loop.invariant

pub returns : goal.returns
returns g c =
    let loop = c.loop-entry in
    let app = g.P.Application.app in
    let from_text = g.P.Application.from_text in
    sym loop.invariant
    ∙ ap (replayed app from_text loop.config) (drop_all loop.entry-index c.args.entries.now c.loop-entry-test.false)
    ∙ replayed_nil app from_text loop.config
