use Rattle.std.proofs.Common.{ℕ, List, [], sym, ap, ◌∙◌}
use Rattle.reset_model.proofs.Positions.{read_at-position}
use Rattle.history_page.proofs.Known.{unplaced}
use Rattle.history_page.proofs.changes.known_rows.Goals as goal

pub returns-in-Some : goal.returns-in-Some
returns-in-Some c =
    let placed = sym c.index_of.ensures ∙ c.in-Some.is in
    c.deref.ensures.value
    ∙ ap (λ (n : ℕ × List ℕ). n.1)
    (c.noted.view_is
    ∙ read_at-position (0, []) c.args.topology.now.ids c.args.known.now c.in-Some.index c.args.id c.index-known-index.result
    c.requires placed c.index-known-index.is)

pub returns-in-None : goal.returns-in-None
returns-in-None c =
    sym (unplaced c.args.topology.now.ids c.args.known.now c.args.id (sym c.index_of.ensures ∙ c.in-None.is))
