use Rattle.std.proofs.Common.{Some, None, ap, ◌∙◌}
use Rattle.wave_layer.specs.declared.regs.FatherSeen.TheVariants.{Is}
use Rattle.reset_model.proofs.Deciding.{father-found}
use Rattle.reset_model.proofs.neighbourhood.father.Goals as goal

pub returns-in-Some : goal.returns-in-Some
returns-in-Some g c =
    ap (λ n. Is n.wave) c.father.view_is
    ∙ father-found c.args.view.now _ _ _ (Some c.in-Some.father.now) c.tree-named.ensures c.id.ensures
    c.neighbours.ensures.value c.if-named-id.false c.in-Some.ensures

pub returns-in-None : goal.returns-in-None
returns-in-None g c =
    father-found c.args.view.now _ _ _ None c.tree-named.ensures c.id.ensures c.neighbours.ensures.value
    c.if-named-id.false c.in-None.ensures
