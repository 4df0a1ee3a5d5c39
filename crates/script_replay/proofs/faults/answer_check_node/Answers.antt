use Rattle.std.proofs.Common.{◌≢◌, List, ◌∙◌, rules, subst, sym, ℕ}
use Rattle.std.specs.Prelude.{OnErr}
use Rattle.std.specs.Io.KnownBytes.{Appends}
use Rattle.action_tables.specs.Written.{AppendsPrefix}
use Rattle.reset_model.specs.declared.step.StepRefusal.TheVariants.{NoMemory}
use Rattle.applications.specs.Meaning.{meaning_of}
use Rattle.script_replay.specs.Output.{node_faults_lines}
use Rattle.script_replay.proofs.Nodes.{faults_node, told_refused}
use Rattle.script_replay.proofs.Written.{written_err, written_ok}
use Rattle.script_replay.proofs.faults.answer_check_node.Goals as goal

pub returns-in-Ok-clause-ok : goal.returns-in-Ok-clause-ok
returns-in-Ok-clause-ok g c =
    let m =
    meaning_of g.P.Application.app g.P.Application.text g.P.Application.from_text g.P.Application.names
    g.P.Invariant.counts in
    let text =
    faults_node m c.args.config.now c.args.at c.deref.result.now c.in-Ok.ensures.ok.0
    (c.deref.ensures.value ∙ c.in-Ok.ensures.ok.1) in
    let P : List ℕ → Type 0 =
    λ t. Appends (g.W.Write.contents c.args.out.now) (g.W.Write.contents c.put_faults.new.out) t in
    written_ok c.put_faults.result c.written.result c.written.ensures.ok c.written.ensures.err (subst P (sym text))
    c.put_faults.ensures.ok

pub returns-in-Ok-clause-err : goal.returns-in-Ok-clause-err
returns-in-Ok-clause-err g c =
    let m =
    meaning_of g.P.Application.app g.P.Application.text g.P.Application.from_text g.P.Application.names
    g.P.Invariant.counts in
    let text =
    faults_node m c.args.config.now c.args.at c.deref.result.now c.in-Ok.ensures.ok.0
    (c.deref.ensures.value ∙ c.in-Ok.ensures.ok.1) in
    let P : List ℕ → Type 0 =
    λ t. AppendsPrefix (g.W.Write.contents c.args.out.now) (g.W.Write.contents c.put_faults.new.out) t in
    subst (λ t. OnErr c.written.result (P t)) (sym text)
    (written_err c.put_faults.result c.written.result c.written.ensures.ok c.written.ensures.err _
    c.put_faults.ensures.err)

pub returns-in-Err-clause-ok : goal.returns-in-Err-clause-ok
returns-in-Err-clause-ok g c =
    let m =
    meaning_of g.P.Application.app g.P.Application.text g.P.Application.from_text g.P.Application.names
    g.P.Invariant.counts in
    let memory : c.in-Err.refusal ≢ NoMemory = search rules in
    let text =
    told_refused c.args.config.now c.args.at (node_faults_lines m c.args.config.now c.args.at) c.in-Err.refusal
    c.in-Err.ensures.err memory in
    let P : List ℕ → Type 0 =
    λ t. Appends (g.W.Write.contents c.args.out.now) (g.W.Write.contents c.put_refusal.new.out) t in
    written_ok c.put_refusal.result c.written-in-Err.result c.written-in-Err.ensures.ok c.written-in-Err.ensures.err
    (subst P (sym text)) c.put_refusal.ensures.ok

pub returns-in-Err-clause-err : goal.returns-in-Err-clause-err
returns-in-Err-clause-err g c =
    let m =
    meaning_of g.P.Application.app g.P.Application.text g.P.Application.from_text g.P.Application.names
    g.P.Invariant.counts in
    let memory : c.in-Err.refusal ≢ NoMemory = search rules in
    let text =
    told_refused c.args.config.now c.args.at (node_faults_lines m c.args.config.now c.args.at) c.in-Err.refusal
    c.in-Err.ensures.err memory in
    let P : List ℕ → Type 0 =
    λ t. AppendsPrefix (g.W.Write.contents c.args.out.now) (g.W.Write.contents c.put_refusal.new.out) t in
    subst (λ t. OnErr c.written-in-Err.result (P t)) (sym text)
    (written_err c.put_refusal.result c.written-in-Err.result c.written-in-Err.ensures.ok c.written-in-Err.ensures.err _
    c.put_refusal.ensures.err)
