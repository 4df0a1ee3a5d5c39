use Rattle.std.specs.Prelude.{codes}
use Rattle.std.proofs.Common.{◌≢◌, ◌++◌, ℕ, List, [], refl, subst, sym, rules}
use Rattle.std.specs.List.{flat_map}
use Rattle.action_tables.specs.Written.{AppendsPrefix}
use Rattle.action_tables.proofs.Prefixes.{AppendsPrefix-first, AppendsPrefix-then, OnErr-always, OnErr-then}
use Rattle.script_replay.specs.Output.{ready_text, spaced}
use Rattle.script_replay.proofs.ReadyTexts.{ready_some}
use Rattle.script_replay.proofs.rows.put_ready.Goals as goal

pub returns-in_err-put_bytes-clause-err : goal.returns-in_err-put_bytes-clause-err
returns-in_err-put_bytes-clause-err g c =
    let some : c.args.ids.now ≢ [] = search rules in
    let P : List ℕ → Type 0 =
    λ t. AppendsPrefix (g.W.Write.contents c.args.out.now) (g.W.Write.contents c.put_bytes-2.new.out) t in
    OnErr-always _ _
    (subst P (sym (ready_some c.args.ids.now some))
    (AppendsPrefix-first _ _ (codes "ready") (flat_map spaced c.args.ids.now ++ codes "\n")
    c.in_err-put_bytes.ensures.err))

pub returns-in_err-put_ids-clause-err : goal.returns-in_err-put_ids-clause-err
returns-in_err-put_ids-clause-err g c =
    let some : c.args.ids.now ≢ [] = search rules in
    let P : List ℕ → Type 0 =
    λ t. AppendsPrefix (g.W.Write.contents c.args.out.now) (g.W.Write.contents c.put_ids.new.out) t in
    OnErr-always _ _ (subst P (sym (ready_some c.args.ids.now some))
    (AppendsPrefix-then (g.W.Write.contents c.args.out.now) (g.W.Write.contents c.put_bytes-2.new.out)
    (g.W.Write.contents c.put_ids.new.out) (codes "ready") (flat_map spaced c.args.ids.now ++ codes "\n")
    c.in_ok-put_bytes.ensures.ok
    (AppendsPrefix-first _ _ (flat_map spaced c.args.ids.now) (codes "\n") c.in_err-put_ids.ensures.err)))

pub returns-clause-err : goal.returns-clause-err
returns-clause-err g c =
    let some : c.args.ids.now ≢ [] = search rules in
    let rest =
    OnErr-then c.put_bytes-3.result (g.W.Write.contents c.put_bytes-2.new.out)
    (g.W.Write.contents c.put_ids.new.out) (g.W.Write.contents c.put_bytes-3.new.out)
    (flat_map spaced c.args.ids.now) (codes "\n") (flat_map spaced c.args.ids.now ++ codes "\n") refl
    c.in_ok-put_ids.ensures.ok c.put_bytes-3.ensures.err in
    OnErr-then c.put_bytes-3.result (g.W.Write.contents c.args.out.now) (g.W.Write.contents c.put_bytes-2.new.out)
    (g.W.Write.contents c.put_bytes-3.new.out)
    (codes "ready") (flat_map spaced c.args.ids.now ++ codes "\n") (ready_text c.args.ids.now)
    (ready_some c.args.ids.now some) c.in_ok-put_bytes.ensures.ok rest
