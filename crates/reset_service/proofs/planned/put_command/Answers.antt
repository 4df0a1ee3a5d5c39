use Rattle.std.proofs.Common.{[], ◌∷◌, refl}
use Rattle.action_tables.proofs.Prefixes.{AppendsPrefix-first, OnErr-always, OnErr-then}
use Rattle.reset_model.specs.EventText.{event_line}
use Rattle.history.specs.HistoryText.{ended}
use Rattle.reset_service.proofs.planned.put_command.Goals as goal

pub returns-in_err-write_event-clause-err : goal.returns-in_err-write_event-clause-err
returns-in_err-write_event-clause-err g c =
    OnErr-always _ _ (AppendsPrefix-first _ _ (event_line c.args.event.now) (10 ∷ []) c.in_err-write_event.ensures.err)

pub returns-clause-err : goal.returns-clause-err
returns-clause-err g c =
    OnErr-then c.put_bytes.result (g.W.Write.contents c.args.out.now) (g.W.Write.contents c.write_event.new.out)
    (g.W.Write.contents c.put_bytes.new.out)
    (event_line c.args.event.now) (10 ∷ []) (ended (event_line c.args.event.now)) refl
    c.in_ok-write_event.ensures.ok c.put_bytes.ensures.err
