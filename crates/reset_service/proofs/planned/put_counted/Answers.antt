use Rattle.std.specs.Prelude.{codes}
use Rattle.std.proofs.Common.{[], ◌∷◌, length, refl}
use Rattle.std.specs.Fmt.{decimal}
use Rattle.std.specs.List.{concat, flat_map}
use Rattle.action_tables.proofs.Prefixes.{AppendsPrefix-first, OnErr-always, OnErr-then}
use Rattle.history.specs.HistoryText.{ended}
use Rattle.reset_service.specs.Planned.{command_text, counted_text}
use Rattle.reset_service.proofs.planned.put_counted.Goals as goal

pub returns-in_err-put_parts-clause-err : goal.returns-in_err-put_parts-clause-err
returns-in_err-put_parts-clause-err g c =
    OnErr-always _ _
    (AppendsPrefix-first _ _
    (concat (codes "# " ∷ decimal (length c.args.events.now) ∷ c.args.what.now ∷ ended [] ∷ []))
    (flat_map command_text c.args.events.now) c.in_err-put_parts.ensures.err)

pub returns-clause-err : goal.returns-clause-err
returns-clause-err g c =
    OnErr-then c.put_commands.result (g.W.Write.contents c.args.out.now) (g.W.Write.contents c.put_parts.new.out)
    (g.W.Write.contents c.put_commands.new.out)
    (concat (codes "# " ∷ decimal (length c.args.events.now) ∷ c.args.what.now ∷ ended [] ∷ []))
    (flat_map command_text c.args.events.now) (counted_text c.args.events.now c.args.what.now) refl
    c.in_ok-put_parts.ensures.ok c.put_commands.ensures.err
