use Rattle.std.proofs.Common.{◌∙◌, sym, ap}
use Rattle.std.specs.Option.{is_some}
use Rattle.reset_model.proofs.Positions.{list_any-position}
use Rattle.snapshots.proofs.reading.is_known.Goals as goal

pub returns : goal.returns
returns c =
    c.is_some.ensures ∙ ap is_some c.index_of.ensures ∙ sym (list_any-position c.args.topology.now.ids c.args.id)
