use Rattle.std.proofs.Common.{[], ◌∷◌, Option, refl, subst}
use Rattle.std.specs.Io.KnownBytes.{Appends}
use Rattle.std.proofs.KnownBytes.{Appends-trans}
use Rattle.std.proofs.lemmas.Result.{on_ok_weaker}
use Rattle.action_tables.specs.Written.{AppendsPrefix}
use Rattle.action_tables.proofs.Prefixes.{AppendsPrefix-first, AppendsPrefix-then, OnErr-always, OnErr-then}
use Rattle.reset_model.specs.declared.event.Event.{Event}
use Rattle.script_replay.specs.Output.{fault_words, repair_text}
use Rattle.script_replay.proofs.faults.put_fault.Goals as goal

pub returns-in_err-put_fault_words-clause-err : goal.returns-in_err-put_fault_words-clause-err
returns-in_err-put_fault_words-clause-err g c =
    OnErr-always _ _ (AppendsPrefix-first _ _ (fault_words c.args.fault) _ c.in_err-put_fault_words.ensures.err)

pub returns-in_err-put_repair-clause-err : goal.returns-in_err-put_repair-clause-err
returns-in_err-put_repair-clause-err g c =
    OnErr-always _ _
    (AppendsPrefix-then _ _ _ (fault_words c.args.fault) _ c.in_ok-put_fault_words.ensures.ok
    (AppendsPrefix-first _ _ _ (10 ∷ [])
    (subst (λ (o : Option Event). AppendsPrefix (g.W.Write.contents c.put_fault_words.new.out)
    (g.W.Write.contents c.put_repair.new.out) (repair_text o)) c.asked_repair-repair.ensures
    c.in_err-put_repair.ensures.err)))

pub returns-clause-err : goal.returns-clause-err
returns-clause-err g c =
    OnErr-then _ _ _ _ (fault_words c.args.fault) _ _ refl c.in_ok-put_fault_words.ensures.ok
    (OnErr-then _ _ _ _ _ (10 ∷ []) _ refl
    (subst (λ (o : Option Event). Appends (g.W.Write.contents c.put_fault_words.new.out)
    (g.W.Write.contents c.put_repair.new.out) (repair_text o)) c.asked_repair-repair.ensures
    c.in_ok-put_repair.ensures.ok)
    c.put_bytes.ensures.err)

pub returns-clause-ok : goal.returns-clause-ok
returns-clause-ok g c =
    on_ok_weaker c.put_bytes.result
    (λ told. Appends-trans _ _ _ (fault_words c.args.fault) _ c.in_ok-put_fault_words.ensures.ok
    (Appends-trans _ _ _ _ (10 ∷ [])
    (subst (λ (o : Option Event). Appends (g.W.Write.contents c.put_fault_words.new.out)
    (g.W.Write.contents c.put_repair.new.out) (repair_text o)) c.asked_repair-repair.ensures
    c.in_ok-put_repair.ensures.ok) told)) c.put_bytes.ensures.ok
