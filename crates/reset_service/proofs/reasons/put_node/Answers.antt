use Rattle.std.proofs.Common.{OnErr, OnOk, subst, sym}
use Rattle.std.specs.Io.KnownBytes.{Appends}
use Rattle.std.proofs.KnownBytes.{Appends-nil}
use Rattle.action_tables.specs.Written.{AppendsPrefix}
use Rattle.applications.specs.Meaning.{meaning_of}
use Rattle.reset_service.proofs.Reasoning.{line_of_node, line_of_none}
use Rattle.reset_service.proofs.reasons.put_node.Goals as goal

pub returns-in-Some-clause-ok : goal.returns-in-Some-clause-ok
returns-in-Some-clause-ok g c =
    let m =
    meaning_of g.P.Application.app g.P.Application.text g.P.Application.from_text g.P.Application.names
    g.P.Invariant.counts in
    let a = g.W.Write.contents c.args.out.now in
    let b = g.W.Write.contents c.show_node.new.out in
    subst (λ t. OnOk c.show_node.result (Appends a b t))
    (line_of_node m c.args.config.now c.args.id c.in-Some.ensures.found.0) c.show_node.ensures.ok

pub returns-in-Some-clause-err : goal.returns-in-Some-clause-err
returns-in-Some-clause-err g c =
    let m =
    meaning_of g.P.Application.app g.P.Application.text g.P.Application.from_text g.P.Application.names
    g.P.Invariant.counts in
    let a = g.W.Write.contents c.args.out.now in
    let b = g.W.Write.contents c.show_node.new.out in
    subst (λ t. OnErr c.show_node.result (AppendsPrefix a b t))
    (line_of_node m c.args.config.now c.args.id c.in-Some.ensures.found.0) c.show_node.ensures.err

pub returns-in-None-clause-ok : goal.returns-in-None-clause-ok
returns-in-None-clause-ok g c =
    let m =
    meaning_of g.P.Application.app g.P.Application.text g.P.Application.from_text g.P.Application.names
    g.P.Invariant.counts in
    let a = g.W.Write.contents c.args.out.now in
    subst (Appends a a) (sym (line_of_none m c.args.config.now c.args.id c.in-None.ensures.none)) (Appends-nil a)
