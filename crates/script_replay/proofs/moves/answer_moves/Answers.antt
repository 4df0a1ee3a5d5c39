use Rattle.std.proofs.Common.{ℕ, List, subst, sym, ◌∙◌}
use Rattle.std.specs.Prelude.{OnErr}
use Rattle.std.specs.Io.KnownBytes.{Appends}
use Rattle.action_tables.specs.Written.{AppendsPrefix}
use Rattle.applications.specs.Meaning.{meaning_of}
use Rattle.script_replay.proofs.MoveTexts.{moves_all}
use Rattle.script_replay.proofs.Written.{written_err, written_ok}
use Rattle.script_replay.proofs.moves.answer_moves.Goals as goal

pub returns-in-Ok-clause-err : goal.returns-in-Ok-clause-err
returns-in-Ok-clause-err g c =
    let m =
    meaning_of g.P.Application.app g.P.Application.text g.P.Application.from_text g.P.Application.names
    g.P.Invariant.counts in
    let text = moves_all m c.args.config.now c.deref.result.now (c.deref.ensures.value ∙ c.in-Ok.ensures) in
    let P : List ℕ → Type 0 =
    λ t. AppendsPrefix (g.W.Write.contents c.args.out.now) (g.W.Write.contents c.put_moves.new.out) t in
    subst (λ t. OnErr c.written.result (P t)) (sym text)
    (written_err c.put_moves.result c.written.result c.written.ensures.ok c.written.ensures.err _
    c.put_moves.ensures.err)

pub returns-in-Ok-clause-ok : goal.returns-in-Ok-clause-ok
returns-in-Ok-clause-ok g c =
    let m =
    meaning_of g.P.Application.app g.P.Application.text g.P.Application.from_text g.P.Application.names
    g.P.Invariant.counts in
    let text = moves_all m c.args.config.now c.deref.result.now (c.deref.ensures.value ∙ c.in-Ok.ensures) in
    let P : List ℕ → Type 0 =
    λ t. Appends (g.W.Write.contents c.args.out.now) (g.W.Write.contents c.put_moves.new.out) t in
    written_ok c.put_moves.result c.written.result c.written.ensures.ok c.written.ensures.err (subst P (sym text))
    c.put_moves.ensures.ok
