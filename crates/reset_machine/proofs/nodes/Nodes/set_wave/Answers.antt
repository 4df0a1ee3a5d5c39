use Rattle.std.proofs.Common.{List, sym, ap}
use Rattle.wave_layer.specs.declared.regs.WaveRegs.{WaveRegs}
use Rattle.reset_model.specs.Configuration.{Configuration, configuration}
use Rattle.reset_machine.proofs.Writing.{put_at-index}
use Rattle.reset_machine.proofs.nodes.Nodes.set_wave.Goals as goal

pub returns : goal.returns
returns g c =
    let i = c.self.inside in
    let low = rw (← c.self.view_is) at c.requires in
    let with : List WaveRegs → Configuration _ =
    λ xs. configuration i.topology i.modulus i.trees.items xs i.locals.items in
    rw (← c.self.view_is)
    (ap with (sym
    (put_at-index i.topology.ids i.waves.items c.args.index c.args.regs c.lemma_is_graph.ensures.graph.ascending
    c.self.invariant.0.waves low)))
