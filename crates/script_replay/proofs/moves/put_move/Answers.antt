use Rattle.std.specs.Prelude.{codes}
use Rattle.std.proofs.Common.{[], ◌∷◌, ◌++◌, refl}
use Rattle.std.proofs.KnownBytes.{Appends-trans}
use Rattle.std.proofs.lemmas.Result.{on_ok_weaker}
use Rattle.action_tables.proofs.Prefixes.{AppendsPrefix-first, AppendsPrefix-then, OnErr-always, OnErr-then}
use Rattle.reset_model.specs.EventText.{event_line}
use Rattle.script_replay.proofs.moves.put_move.Goals as goal

pub returns-in_err-put_bytes-clause-err : goal.returns-in_err-put_bytes-clause-err
returns-in_err-put_bytes-clause-err g c =
    OnErr-always _ _ (AppendsPrefix-first _ _ (codes "move ") _ c.in_err-put_bytes.ensures.err)

pub returns-in_err-write_event-clause-err : goal.returns-in_err-write_event-clause-err
returns-in_err-write_event-clause-err g c =
    OnErr-always _ _
    (AppendsPrefix-then _ _ _ (codes "move ") _ c.in_ok-put_bytes.ensures.ok
    (AppendsPrefix-first _ _ (event_line c.args.event.now) (10 ∷ []) c.in_err-write_event.ensures.err))

pub returns-clause-err : goal.returns-clause-err
returns-clause-err g c =
    OnErr-then _ _ _ _ (codes "move ") _ _ refl c.in_ok-put_bytes.ensures.ok
    (OnErr-then _ _ _ _ (event_line c.args.event.now) (10 ∷ []) _ refl c.in_ok-write_event.ensures.ok
    c.put_bytes-2.ensures.err)

pub returns-clause-ok : goal.returns-clause-ok
returns-clause-ok g c =
    let line = event_line c.args.event.now in
    on_ok_weaker c.put_bytes-2.result
    (λ told. Appends-trans _ _ _ (codes "move ") (line ++ 10 ∷ []) c.in_ok-put_bytes.ensures.ok
    (Appends-trans _ _ _ line (10 ∷ []) c.in_ok-write_event.ensures.ok told)) c.put_bytes-2.ensures.ok
