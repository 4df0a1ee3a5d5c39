use Rattle.std.proofs.Common.{refl, sym, ap, ◌∙◌}
use Rattle.std.proofs.lemmas.Bool.{ne_eqb}
use Rattle.reset_model.specs.Configuration.{tree_of, wave_of}
use Rattle.reset_model.proofs.Positions.{found_is_node, id_at-position}
use Rattle.reset_machine.proofs.AskedChildren.{asked_child, asked_of_another}
use Rattle.reset_machine.proofs.commands.asked_child.Goals as goal

pub returns-then-tree_at-id : goal.returns-then-tree_at-id
returns-then-tree_at-id g c =
    let place = c.args.place.now in
    let config = place.config in
    let here = id_at-position config.graph.ids c.args.index c.args.child c.requires.0 in
    let father = ap (λ k. (tree_of config k).father) (sym here) ∙ ap (λ r. r.father) (sym c.tree_at.ensures) in
    asked_child config.graph (tree_of config) (wave_of config) place.id c.args.child _
    (father ∙ c.if-tree_at-id.true ∙ c.id.ensures) c.requires.1
    (found_is_node config.graph.ids c.args.child c.args.child c.args.index refl (sym c.requires.0))
    (ap (wave_of config) (sym here) ∙ sym c.wave_at.ensures)

pub returns-else-tree_at-id : goal.returns-else-tree_at-id
returns-else-tree_at-id g c =
    let place = c.args.place.now in
    let config = place.config in
    let here = id_at-position config.graph.ids c.args.index c.args.child c.requires.0 in
    let father = ap (λ k. (tree_of config k).father) (sym here) ∙ ap (λ r. r.father) (sym c.tree_at.ensures) in
    asked_of_another config.graph (tree_of config) (wave_of config) place.id c.args.child
    (ne_eqb _ _ (λ same. absurd (c.if-tree_at-id.false (sym father ∙ same ∙ sym c.id.ensures))))
