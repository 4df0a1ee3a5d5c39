use Rattle.std.proofs.Common.{◌≡◌, ◌<◌, true, length, get_or, refl, sym, ap, subst, ◌∙◌, rules, arith}
use Rattle.std.proofs.lemmas.List.{get_or_default}
use Rattle.topology.specs.Components.{leader}
use Rattle.topology.specs.Graph.{Graph, has, is_node}
use Rattle.topology.specs.Id.{IsId}
use Rattle.topology.proofs.topology.Topology.greatest_of.Goals as goal

pub index-requires : goal.index-requires
index-requires c =
    let inside = c.self.inside in
    let lead = c.self.invariant.as_leaders inside.ids.ids inside.ids.nodes c.self.invariant.tied refl in
    let within : c.args.index < length inside.ids.ids =
    subst (λ (g : Graph). c.args.index < length g.ids) (sym c.self.view_is) c.requires.within in
    omega (arith, lead.count, within, inside.leaders.ok.0)

pub offset_bounds-ids-index : goal.offset_bounds-ids-index
offset_bounds-ids-index c =
    let inside = c.self.inside in
    let lead = c.self.invariant.as_leaders inside.ids.ids inside.ids.nodes c.self.invariant.tied refl in
    let within : c.args.index < length inside.ids.ids =
    subst (λ (g : Graph). c.args.index < length g.ids) (sym c.self.view_is) c.requires.within in
    let at : c.index.result.now ≡ get_or inside.leaders.items c.args.index 0 =
    c.index.ensures
    ∙ get_or_default inside.leaders.items c.args.index c.index.result.now 0 (omega (arith, lead.count, within)) in
    omega (
      arith,
      at,
      lead.within c.args.index within,
      ap (λ (g : Graph). length g.ids) c.self.view_is,
      c.lemma_is_graph.ensures.small,
    )

pub bounds-ids-index : goal.bounds-ids-index
bounds-ids-index c =
    let inside = c.self.inside in
    let lead = c.self.invariant.as_leaders inside.ids.ids inside.ids.nodes c.self.invariant.tied refl in
    let within : c.args.index < length inside.ids.ids =
    subst (λ (g : Graph). c.args.index < length g.ids) (sym c.self.view_is) c.requires.within in
    let at : c.index.result.now ≡ get_or inside.leaders.items c.args.index 0 =
    c.index.ensures
    ∙ get_or_default inside.leaders.items c.args.index c.index.result.now 0 (omega (arith, lead.count, within)) in
    omega (
      arith,
      at,
      lead.within c.args.index within,
      ap (λ (g : Graph). length g.ids) c.self.view_is,
      ap (λ xs. length xs) c.ids-ids.ensures,
    )

pub unwrap-requires : goal.unwrap-requires
unwrap-requires c =
    let inside = c.self.inside in
    let lead = c.self.invariant.as_leaders inside.ids.ids inside.ids.nodes c.self.invariant.tied refl in
    let within : c.args.index < length inside.ids.ids =
    subst (λ (g : Graph). c.args.index < length g.ids) (sym c.self.view_is) c.requires.within in
    let at : c.index.result.now ≡ get_or inside.leaders.items c.args.index 0 =
    c.index.ensures
    ∙ get_or_default inside.leaders.items c.args.index c.index.result.now 0 (omega (arith, lead.count, within)) in
    let low : c.index.result.now < length c.args.self.now.ids =
    omega (arith, at, lead.within c.args.index within, ap (λ (g : Graph). length g.ids) c.self.view_is) in
    c.new.ensures.valid.1
    (subst (λ xs. IsId (get_or xs c.index.result.now 0)) (sym c.ids-ids.ensures)
    (c.lemma_is_graph.ensures.ids c.index.result.now 0 low))

pub returns : goal.returns
returns c =
    let inside = c.self.inside in
    let lead = c.self.invariant.as_leaders inside.ids.ids inside.ids.nodes c.self.invariant.tied refl in
    let within : c.args.index < length inside.ids.ids =
    subst (λ (g : Graph). c.args.index < length g.ids) (sym c.self.view_is) c.requires.within in
    let at : c.index.result.now ≡ get_or inside.leaders.items c.args.index 0 =
    c.index.ensures
    ∙ get_or_default inside.leaders.items c.args.index c.index.result.now 0 (omega (arith, lead.count, within)) in
    let up : has inside.ids.nodes (get_or inside.ids.ids c.args.index 0) ≡ true =
    ap (λ (g : Graph). is_node g (get_or g.ids c.args.index 0)) c.self.view_is ∙ c.requires.up in
    let value : c.unwrap.result ≡ get_or c.ids-ids.result.now c.index.result.now 0 = search rules in
    value ∙ ap (λ xs. get_or xs c.index.result.now 0) c.ids-ids.ensures
    ∙ ap (λ (g : Graph). get_or g.ids c.index.result.now 0) (sym c.self.view_is)
    ∙ ap (λ k. get_or inside.ids.ids k 0) at ∙ lead.leads c.args.index within up
    ∙ ap (λ (g : Graph). leader g (get_or g.ids c.args.index 0)) c.self.view_is
