use Rattle.std.proofs.Common.{◌≡◌, ◌==◌, ℕ, Bool, true, false, Option, Some, None, IfSome, IfNone, is_some}
use Rattle.std.proofs.Common.{get_or, ap, sym, ◌∙◌}
use Rattle.std.proofs.lemmas.Bool.{eqb-true}
use Rattle.std.proofs.lemmas.List.Quantifiers.{position-Some}
use Rattle.topology.specs.Graph.{are_linked, node_at}
use Rattle.topology.proofs.RowLemmas.{no_node_index, node_index, strange_first}
use Rattle.topology.proofs.topology.Topology.linked.Goals as goal

-- what is said of a value and of none, as one test
found_if : (P : ℕ → Type 0) (t : Bool) (o : Option ℕ) → IfSome o (λ n. P n × (t ≡ true)) → IfNone o (t ≡ false)
    → is_some o ≡ t
found_if P t (Some n) found none = sym found.1
found_if P t None found none = sym none

pub returns-in-Some : goal.returns-in-Some
returns-in-Some c =
    let g = c.args.self.now in
    let i = c.in-Some.index in
    let same : get_or g.ids i 0 ≡ c.args.a =
    eqb-true _ _
    (position-Some (λ k. k == c.args.a) g.ids i 0 (sym (node_index g.ids g.nodes c.args.a i c.in-Some.ensures).0)).1 in
    c.is_some.ensures ∙ found_if _ _ c.neighbour_at.result c.neighbour_at.ensures.found c.neighbour_at.ensures.none
    ∙ ap (λ x. are_linked g x c.args.b) same

pub returns-in-None : goal.returns-in-None
returns-in-None c =
    let are = c.self.invariant in
    rw (← c.self.view_is)
    (sym (strange_first _ c.self.inside.ids.nodes _ are.tied c.args.a c.args.b
    (no_node_index _ c.self.inside.ids.nodes are.tied.as_nodes c.args.a
    (c.in-None.ensures ∙ ap (λ g. node_at g c.args.a) (sym c.self.view_is)))))
