use Rattle.std.proofs.Common.{rules}
use Rattle.reset_model.specs.Planned.{sees}
use Rattle.reset_model.specs.Steps.{named_node}
use Rattle.node_choices.proofs.EnabledRows.{none_fires}
use Rattle.node_choices.proofs.sight.fires.Goals as goal

pub returns-then-not-some_among : goal.returns-then-not-some_among
returns-then-not-some_among g c =
    none_fires c.args.seen.now c.args.event (sees c.args.view.now (named_node c.args.event)) c.args.rows c.requires.layer
    c.requires.rows (search rules)
