use Rattle.std.proofs.Common.{ℕ, List, map, sym, ◌∙◌, subst}
use Rattle.std.specs.List.Sorted.{IsStrictlyIncreasing}
use Rattle.wave_layer.specs.declared.regs.WaveRegs.{WaveRegs}
use Rattle.reset_model.specs.Configuration.{tree_of, wave_of}
use Rattle.reset_machine.proofs.Children.{children_ascend}
use Rattle.reset_machine.proofs.enabled.enabled_waves.Goals as goal

pub wave_rows-requires : goal.wave_rows-requires
wave_rows-requires g c =
    let place = c.args.place.now in
    let config = place.config in
    let Ascend : List (ℕ × WaveRegs) → Type 0 = λ cs. IsStrictlyIncreasing (map (λ c. c.0) cs) in
    let children = c.deref.ensures.value ∙ c.in_ok-read_children.ensures in
    subst Ascend (sym children)
    (children_ascend config.graph (tree_of config) (wave_of config) place.id c.lemma_is_place.ensures.graph.ascending)
