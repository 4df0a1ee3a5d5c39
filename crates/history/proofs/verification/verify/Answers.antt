use Rattle.std.proofs.Common.{[], refl, sym, ◌∙◌}
use Rattle.history.proofs.Plays.{named}
use Rattle.history.proofs.verification.verify.Goals as goal

pub returns-in-Err-clause-err : goal.returns-in-Err-clause-err
returns-in-Err-clause-err g c at fault =
    named g.P.Application.app g.P.Application.from_text c.args.opening c.play-played.new.self.config c.args.entries.now at
    c.in-Err.fault (sym c.verify_fault.ensures ∙ fault)
    (c.in-Err.ensures.err c.args.opening [] c.new-player.ensures.played refl)
