use Rattle.std.proofs.Common.{◌≡◌, cond, None, sym, ap, ◌∙◌}
use Rattle.std.proofs.lemmas.Bool.{eq-eqb}
use Rattle.wave_layer.specs.declared.regs.WaveRegs.{WaveRegs}
use Rattle.reset_model.specs.View.{Neighbour}
use Rattle.link_predicates.specs.Faults.{mending_row}
use Rattle.link_predicates.proofs.rows.wave_row.Goals as goal

pub returns-then-own-other : goal.returns-then-own-other
returns-then-own-other g c =
    let own = c.args.own.now in
    let other = c.args.other.now in
    let father : own.tree.father ≡ other.id =
    sym (ap (λ (n : Neighbour g.row.P-Local.Denot). n.tree.father) c.own.view_is) ∙ c.if-own-other.true
    ∙ ap (λ (n : Neighbour g.row.P-Local.Denot). n.id) c.other.view_is in
    c.mending_row.ensures
    ∙ ap (λ (w : WaveRegs). mending_row c.args.modulus w c.other.inside.wave)
    (ap (λ (n : Neighbour g.row.P-Local.Denot). n.wave) c.own.view_is)
    ∙ ap (λ (w : WaveRegs). mending_row c.args.modulus own.wave w) (ap (λ (n : Neighbour g.row.P-Local.Denot). n.wave) c.other.view_is)
    ∙ ap (λ b. cond b (mending_row c.args.modulus own.wave other.wave) None) (sym (eq-eqb _ _ father))
