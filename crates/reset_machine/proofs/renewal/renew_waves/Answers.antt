use Rattle.std.proofs.Common.{◌≡◌, ℕ, length, refl, sym, ◌∙◌, arith}
use Rattle.wave_layer.specs.declared.regs.Phase.TheVariants.{Normal}
use Rattle.wave_layer.specs.declared.regs.WaveRegs.{WaveRegs}
use Rattle.reset_model.specs.Topologies.{comes_up}
use Rattle.reset_machine.proofs.Renewing.{all_renewed, none_renewed, one_kept, one_renewed}
use Rattle.reset_machine.proofs.renewal.renew_waves.Goals.{then-comes_up, else-comes_up}
use Rattle.reset_machine.proofs.renewal.renew_waves.Goals as goal

abbrev fresh : ℕ → WaveRegs
fresh i = record { phase = Normal; session = 0 }

pub loop-index-init : goal.loop-index-init
loop-index-init c = none_renewed (comes_up c.args.old.now c.args.new.now) fresh c.args.new.now.ids c.args.waves.now

pub loop-index-preserved : goal.loop-index-preserved
loop-index-preserved c =
    let comes = comes_up c.args.old.now c.args.new.now in
    let ids = c.args.new.now.ids in
    let at = c.loop-index.index in
    elim c.if-comes_up.branch [
      | then-comes_up w ↦ one_renewed comes fresh ids c.args.waves.now at c.loop-index.waves c.loop-index.invariant
          (omega (arith, c.loop-index-test.true, c.requires.count)) c.requires.count
          (sym c.comes_up.ensures ∙ w.if-comes_up.true) _ c.if-comes_up.waves refl w.waves-is
      | else-comes_up w ↦ rw w.waves-is
          (one_kept comes fresh ids c.args.waves.now at c.loop-index.waves c.loop-index.invariant
          (sym c.comes_up.ensures ∙ w.if-comes_up.false))
    ]

pub returns : goal.returns
returns c =
    let ended : length c.args.new.now.ids ≡ c.loop-index.index =
    omega (arith, c.requires.count, c.loop-index-test.false, c.loop-index.auto.index-end) in
    all_renewed (comes_up c.args.old.now c.args.new.now) fresh c.args.new.now.ids c.args.waves.now c.loop-index.index
    c.loop-index.waves c.loop-index.invariant ended c.requires.count
