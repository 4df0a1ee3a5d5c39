use Rattle.std.proofs.Common.{sym, ◌∙◌}
use Rattle.reset_model.proofs.Positions.{put_at-position}
use Rattle.history_page.proofs.Known.{put_nowhere}
use Rattle.history_page.proofs.changes.keep.Goals as goal

pub returns-in-Some : goal.returns-in-Some
returns-in-Some c =
    sym (put_at-position c.args.topology.now.ids c.args.known.now c.in-Some.index c.args.id (c.args.id, c.args.rows.items)
    c.requires (sym c.index_of.ensures ∙ c.in-Some.is))

pub returns-in-None : goal.returns-in-None
returns-in-None c =
    sym (put_nowhere c.args.topology.now.ids c.args.known.now c.args.id (c.args.id, c.args.rows.items)
    (sym c.index_of.ensures ∙ c.in-None.is))
