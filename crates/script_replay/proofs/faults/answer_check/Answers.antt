use Rattle.std.proofs.Common.{ℕ, List, subst, sym, ◌∙◌}
use Rattle.std.specs.Io.KnownBytes.{Appends}
use Rattle.action_tables.specs.Written.{AppendsPrefix}
use Rattle.action_tables.proofs.Prefixes.{OnErr-always}
use Rattle.applications.specs.Meaning.{meaning_of}
use Rattle.script_replay.proofs.Nodes.{faults_lines-is, faults_status-is}
use Rattle.script_replay.proofs.faults.answer_check.Goals as goal

pub returns-in_err-put_faults-in-Ok-clause-err : goal.returns-in_err-put_faults-in-Ok-clause-err
returns-in_err-put_faults-in-Ok-clause-err g c =
    let text =
    faults_lines-is
    (meaning_of g.P.Application.app g.P.Application.text g.P.Application.from_text g.P.Application.names
    g.P.Invariant.counts)
    c.args.repairs c.args.config.now c.deref.result.now (c.deref.ensures.value ∙ c.in-Ok.ensures) in
    let P : List ℕ → Type 0 =
    λ t. AppendsPrefix (g.W.Write.contents c.args.out.now) (g.W.Write.contents c.put_faults.new.out) t in
    OnErr-always _ _ (subst P (sym text) c.in_err-put_faults-in-Ok.ensures.err)

pub returns-in_ok-put_faults-in-Ok-clause-ok : goal.returns-in_ok-put_faults-in-Ok-clause-ok
returns-in_ok-put_faults-in-Ok-clause-ok g c =
    let text =
    faults_lines-is
    (meaning_of g.P.Application.app g.P.Application.text g.P.Application.from_text g.P.Application.names
    g.P.Invariant.counts)
    c.args.repairs c.args.config.now c.deref.result.now (c.deref.ensures.value ∙ c.in-Ok.ensures) in
    let P : List ℕ → Type 0 =
    λ t. Appends (g.W.Write.contents c.args.out.now) (g.W.Write.contents c.put_faults.new.out) t in
    subst P (sym text) c.in_ok-put_faults-in-Ok.ensures.ok

pub returns-in_ok-put_faults-in-Ok-clause-status : goal.returns-in_ok-put_faults-in-Ok-clause-status
returns-in_ok-put_faults-in-Ok-clause-status g c =
    let m =
    meaning_of g.P.Application.app g.P.Application.text g.P.Application.from_text g.P.Application.names
    g.P.Invariant.counts in
    c.found_status.ensures
    ∙ faults_status-is m c.args.config.now c.deref-in-Ok.result.now (c.deref-in-Ok.ensures.value ∙ c.in-Ok.ensures)
