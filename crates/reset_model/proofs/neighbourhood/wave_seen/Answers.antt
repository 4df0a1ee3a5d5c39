use Rattle.std.proofs.Common.{◌==◌, ℕ, List, map, subst, sym, ap}
use Rattle.std.specs.List.Sorted.{IsStrictlyIncreasing}
use Rattle.wave_layer.specs.declared.regs.WaveRegs.{WaveRegs}
use Rattle.reset_model.specs.declared.plan.Seen.TheVariants.{Wave}
use Rattle.reset_model.proofs.Deciding.{kept_ascend, wave_view-parts}
use Rattle.reset_model.proofs.Positions.{none_is_no_some}
use Rattle.reset_model.proofs.neighbourhood.wave_seen.Goals as goal

pub unreachable-requires : goal.unreachable-requires
unreachable-requires g c =
    let v = c.args.view.now in
    let Ascend : List (ℕ × WaveRegs) → Type 0 = λ cs. IsStrictlyIncreasing (map (λ c. c.0) cs) in
    none_is_no_some c.in-None.is
    (c.new.ensures.ascending.1
    (subst Ascend (sym c.requires)
    (kept_ascend (λ n. n.tree.father == v.id) v.near c.neighbours-near.ensures.view.ascending)))

pub returns : goal.returns
returns g c =
    let v = c.args.view.now in
    ap (λ w. Wave w)
    (sym (wave_view-parts v c.in-Some.wave _ _ _ _ c.in-Some.ensures.value c.wave.ensures c.father.ensures c.requires
    c.modulus.ensures))
