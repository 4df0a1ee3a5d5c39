use Rattle.std.proofs.Common.{◌∷◌, ◌++◌, OnErr}
use Rattle.std.proofs.lemmas.Result.{on_err_weaker}
use Rattle.action_tables.specs.RowText.{set_text}
use Rattle.action_tables.specs.Written.{AppendsPrefix}
use Rattle.action_tables.proofs.Prefixes.{AppendsPrefix-first, AppendsPrefix-then, OnErr-always}
use Rattle.app_token.specs.LocalText.{hold_text}
use Rattle.app_token.proofs.show.show.Goals as goal

pub returns-in_err-put_slash_ids-clause-err : goal.returns-in_err-put_slash_ids-clause-err
returns-in_err-put_slash_ids-clause-err g c =
    let given = 47 ∷ set_text c.args.local.now.given in
    let taken = 47 ∷ set_text c.args.local.now.taken in
    OnErr-always _ _
    (AppendsPrefix-then _ _ _ (hold_text c.args.local.now.hold) (given ++ taken) c.in_ok-put_hold.ensures.ok
    (AppendsPrefix-first _ _ given taken (rw (← c.ids.ensures.value) c.in_err-put_slash_ids.ensures.err)))

pub returns-clause-err : goal.returns-clause-err
returns-clause-err g c =
    let given = 47 ∷ set_text c.args.local.now.given in
    let taken = 47 ∷ set_text c.args.local.now.taken in
    let last : OnErr c.put_slash_ids-2.result
    (AppendsPrefix (g.W.Write.contents c.put_slash_ids.new.out) (g.W.Write.contents c.put_slash_ids-2.new.out)
    taken) =
    rw (← c.ids-2.ensures.value) c.put_slash_ids-2.ensures.err in
    on_err_weaker _
    (λ h. AppendsPrefix-then _ _ _ (hold_text c.args.local.now.hold) (given ++ taken) c.in_ok-put_hold.ensures.ok
    (AppendsPrefix-then _ _ _ given taken (rw (← c.ids.ensures.value) c.in_ok-put_slash_ids.ensures.ok) h)) last
