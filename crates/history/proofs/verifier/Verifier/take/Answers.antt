use Rattle.std.proofs.Common.{rules, ◌≡◌, true, false}
use Rattle.std.specs.Option.{is_none}
use Rattle.history.proofs.Verified.{all_played, played_on, stopped_at}
use Rattle.history.proofs.verifier.Verifier.take.Goals as goal

pub returns-else-is_none : goal.returns-else-is_none
returns-else-is_none g c start es verified here =
    let self = c.args.self.now in
    let some : is_none self.stop ≡ false = search rules in
    played_on g.P.Application.app g.P.Application.from_text start es c.args.entries.now self.player self.stop
    some verified

pub returns-in-Err : goal.returns-in-Err
returns-in-Err g c start es verified here =
    let self = c.args.self.now in
    let none : is_none self.stop ≡ true = search rules in
    let app = g.P.Application.app in
    let from_text = g.P.Application.from_text in
    stopped_at app from_text start _ c.play.new.self c.in-Err.fault c.kept.result
    (c.in-Err.ensures.err start es (all_played app from_text start es self.player self.stop none verified) here)
    c.kept.ensures
