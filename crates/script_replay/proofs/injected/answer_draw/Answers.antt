use Rattle.std.proofs.Common.{ℕ, List, [], refl, subst, OnErr}
use Rattle.std.proofs.KnownBytes.{Appends-nil}
use Rattle.action_tables.specs.Written.{AppendsPrefix}
use Rattle.action_tables.proofs.Prefixes.{OnErr-always}
use Rattle.applications.specs.Meaning.{meaning_of}
use Rattle.script_replay.specs.Output.{answered}
use Rattle.script_replay.specs.declared.script.Command.TheVariants.{Draw}
use Rattle.script_replay.proofs.Disturbing.{drawn_err, drawn_prefix}
use Rattle.script_replay.proofs.Written.{written_err}
use Rattle.script_replay.proofs.injected.answer_draw.Goals as goal

pub returns-in_err-line-clause-err : goal.returns-in_err-line-clause-err
returns-in_err-line-clause-err g c =
    let m =
    meaning_of g.P.Application.app g.P.Application.text g.P.Application.from_text g.P.Application.names
    g.P.Invariant.counts in
    let text : List ℕ = (answered m c.args.config.now (Draw c.args.seed)).1 in
    let out = g.W.Write.contents c.args.out.now in
    let nothing : AppendsPrefix out out text =
    record { prefix = []; rest = text; cut = refl; appended = Appends-nil out } in
    OnErr-always _ _ nothing

pub returns-in_err-put_drawn-clause-err : goal.returns-in_err-put_drawn-clause-err
returns-in_err-put_drawn-clause-err g c =
    let m =
    meaning_of g.P.Application.app g.P.Application.text g.P.Application.from_text g.P.Application.names
    g.P.Invariant.counts in
    OnErr-always _ _
    (drawn_prefix m c.args.config.now c.drawn-fault.result _ c.drawn-fault.ensures _ _
    c.in_err-put_drawn.ensures.err)

pub returns-clause-err : goal.returns-clause-err
returns-clause-err g c =
    let m =
    meaning_of g.P.Application.app g.P.Application.text g.P.Application.from_text g.P.Application.names
    g.P.Invariant.counts in
    let P : List ℕ → Type 0 =
    λ text. OnErr c.written.result
    (AppendsPrefix (g.W.Write.contents c.put_drawn.new.out) (g.W.Write.contents c.put_bytes.new.out) text) in
    drawn_err m c.args.config.now c.drawn-fault.result _ c.drawn-fault.ensures _ _ c.in_ok-put_drawn.ensures.ok _
    c.written.result
    (subst P c.in_ok-line.ensures.ok.1
    (written_err c.put_bytes.result c.written.result c.written.ensures.ok c.written.ensures.err _
    c.put_bytes.ensures.err))
