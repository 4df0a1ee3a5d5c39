use Rattle.std.proofs.Common.{arith, length, take, ◌≡◌, ◌+◌, ◌++◌}
use Rattle.std.proofs.lemmas.List.{length-append, length-take}
use Rattle.history.proofs.Plays.{played_more, stopped}
use Rattle.history.proofs.player.Player.play.Goals as goal

pub returns-in-Err-clause-err : goal.returns-in-Err-clause-err
returns-in-Err-clause-err g c start es played here =
    let loop = c.loop-entry in
    rw c.in-Err.ensures.kept
    (stopped g.P.Application.app g.P.Application.from_text start loop.self.config es c.args.entries.now
    loop.entry-index (loop.position + 1) _ c.in-Err.fault
    c.loop-entry-test.true c.entry-item.is (loop.invariant.0 start es played here).replay c.in-Err.ensures.err
    (omega (arith, loop.invariant.1, here)))

pub loop-entry-preserved : goal.loop-entry-preserved
loop-entry-preserved g c =
    let loop = c.loop-entry in
    let entries = c.args.entries.now in (
      λ start es played here.
          let at : loop.position + 1 ≡ length (es ++ take loop.entry-index entries) + 1 = omega (
            arith,
            loop.invariant.1,
            here,
            length-append es (take loop.entry-index entries),
            length-take loop.entry-index entries,
            c.loop-entry-test.true,
          ) in
          played_more g.P.Application.app g.P.Application.from_text start c.enter.new.self.config es entries
          loop.entry-index _ c.enter.new.self.openings
          c.enter.new.self.reports.items c.loop-entry-test.true c.entry-item.is
          (c.in-Ok.ensures.played start (es ++ take loop.entry-index entries)
          (loop.invariant.0 start es played here) at),
      omega (arith, loop.invariant.1),
    )
