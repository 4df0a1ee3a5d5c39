use Rattle.std.proofs.Common.{◌≡◌, ℕ, length, sym, ap, ◌∙◌}
use Rattle.tree_layer.specs.TreeRows.{claimed}
use Rattle.wave_layer.specs.declared.regs.Phase.TheVariants.{Normal}
use Rattle.wave_layer.specs.declared.regs.WaveRegs.{WaveRegs}
use Rattle.reset_model.specs.Topologies.{comes_up}
use Rattle.reset_machine.proofs.Renewing.{length-renewed, take_written}
use Rattle.reset_machine.proofs.nodes.Nodes.set_topology.Goals as goal

abbrev fresh : ℕ → WaveRegs
fresh i = record { phase = Normal; session = 0 }

pub invariant_of-self : goal.invariant_of-self
invariant_of-self g c =
    let i = c.self.inside in
    let shaped = c.self.invariant.0 in
    let new = c.args.topology in
    let comes = comes_up i.topology new in
    let same : new.ids ≡ i.topology.ids = rw (← c.self.view_is) at c.requires in
    let count = sym (ap length same) in
    let trees_before : length c.deref_mut.result.now ≡ length new.ids =
    ap length c.deref_mut.ensures.value ∙ shaped.trees ∙ count in
    let trees : length c.renew_trees.new.trees ≡ length new.ids =
    ap length c.renew_trees.ensures ∙ length-renewed comes claimed new.ids c.deref_mut.result.now trees_before in
    let waves_before : length c.deref_mut-2.result.now ≡ length new.ids =
    ap length c.deref_mut-2.ensures.value ∙ shaped.waves ∙ count in
    let waves : length c.renew_waves.new.waves ≡ length new.ids =
    ap length c.renew_waves.ensures ∙ length-renewed comes fresh new.ids c.deref_mut-2.result.now waves_before in (
      record {
        modulus = shaped.modulus;
        trees = ap length (take_written i.trees.len c.renew_trees.new.trees i.trees.items
            (trees ∙ sym trees_before ∙ c.deref_mut.ensures.len)) ∙ trees;
        waves = ap length (take_written i.waves.len c.renew_waves.new.waves i.waves.items
            (waves ∙ sym waves_before ∙ c.deref_mut-2.ensures.len)) ∙ waves;
        locals = ap length c.in-Ok-renewed_locals.ensures
            ∙ length-renewed comes (g.P.Application.app.start new) new.ids c.deref.result.now
            (ap length c.deref.ensures.value ∙ shaped.locals ∙ count);
      },
      c.in-Ok.ensures,
    )
