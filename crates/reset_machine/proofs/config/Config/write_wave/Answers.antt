use Rattle.std.proofs.Common.{◌∙◌}
use Rattle.reset_machine.proofs.Writing.{kept_wave, restarted_wave, start_at}
use Rattle.reset_machine.proofs.config.Config.write_wave.Goals.{then-fired+in-Ok, else-fired}
use Rattle.reset_machine.proofs.config.Config.write_wave.Goals as goal

pub returns-clause-ok : goal.returns-clause-ok
returns-clause-ok g c =
    let app = g.P.Application.app in
    let now = c.args.self.now in
    let fired = c.args.fired in
    elim c.if-fired.branch [
      | then-fired+in-Ok w ↦
          let starts = rw c.self.view_is at w.starts.ensures in
          let start = start_at app now c.args.ix w.starts.result.now _ starts c.requires
          w.index-starts-ix.is in (
            c.reply_to.ensures,
            restarted_wave app now c.args.ix c.set_wave.new.self fired.regs fired.restarts c.if-fired.restarted
                w.in-Ok.start w.if-fired.true (w.in-Ok.ensures ∙ start) w.restarted-is c.set_wave.ensures,
          )
      | else-fired w ↦ (
        c.reply_to.ensures,
        kept_wave app now c.args.ix c.set_wave.new.self fired.regs fired.restarts c.if-fired.restarted
            w.if-fired.false w.restarted-is c.set_wave.ensures,
      )
    ]
