use Rattle.std.proofs.Common.{◌≡◌, ◌++◌, ◌∙◌, [], ap, ap₂, refl, subst}
use Rattle.std.specs.List.{flat_map}
use Rattle.std.specs.Io.KnownBytes.{Appends}
use Rattle.std.proofs.KnownBytes.{Appends-nil, Appends-trans}
use Rattle.action_tables.specs.Written.{AppendsPrefix}
use Rattle.action_tables.proofs.Prefixes.{AppendsPrefix-first, AppendsPrefix-then, OnErr-always}
use Rattle.applications.specs.Meaning.{meaning_of}
use Rattle.reset_service.specs.Reasons.{entry_text, line_there, near_text, nodes_near, reason_text}
use Rattle.reset_service.specs.Reasons.{refusal_lines}
use Rattle.reset_service.proofs.reasons.put_reason.Goals as goal

pub returns-in_err-ids-clause-err : goal.returns-in_err-ids-clause-err
returns-in_err-ids-clause-err g c =
    let m =
    meaning_of g.P.Application.app g.P.Application.text g.P.Application.from_text g.P.Application.names
    g.P.Invariant.counts in
    let a = g.W.Write.contents c.args.out.now in
    let all = reason_text m c.args.config.now c.args.entry in
    let nothing : AppendsPrefix a a all = record { prefix = []; rest = all; cut = refl; appended = Appends-nil a } in
    OnErr-always _ _ nothing

pub returns-in_err-put_entry_text-clause-err : goal.returns-in_err-put_entry_text-clause-err
returns-in_err-put_entry_text-clause-err g c =
    let m =
    meaning_of g.P.Application.app g.P.Application.text g.P.Application.from_text g.P.Application.names
    g.P.Invariant.counts in
    let here = c.args.config.now in
    OnErr-always _ _
    (AppendsPrefix-first _ _ (entry_text c.args.entry) (refusal_lines m here c.args.entry ++ near_text m here c.args.entry)
    c.in_err-put_entry_text.ensures.err)

pub returns-in_err-put_refusal_lines-clause-err : goal.returns-in_err-put_refusal_lines-clause-err
returns-in_err-put_refusal_lines-clause-err g c =
    let m =
    meaning_of g.P.Application.app g.P.Application.text g.P.Application.from_text g.P.Application.names
    g.P.Invariant.counts in
    let here = c.args.config.now in
    let refusal = refusal_lines m here c.args.entry in
    let near = near_text m here c.args.entry in
    OnErr-always _ _
    (AppendsPrefix-then _ _ _ (entry_text c.args.entry) (refusal ++ near) c.in_ok-put_entry_text.ensures.ok
    (AppendsPrefix-first _ _ refusal near c.in_err-put_refusal_lines.ensures.err))

pub returns-in_err-put_nodes-clause-err : goal.returns-in_err-put_nodes-clause-err
returns-in_err-put_nodes-clause-err g c =
    let m =
    meaning_of g.P.Application.app g.P.Application.text g.P.Application.from_text g.P.Application.names
    g.P.Invariant.counts in
    let here = c.args.config.now in
    let refusal = refusal_lines m here c.args.entry in
    let near = near_text m here c.args.entry in
    let same : flat_map (line_there m c.put_refusal_lines.new.config) c.deref.result.now ≡ near =
    ap₂ (λ d l. flat_map (line_there m d) l) c.in_ok-put_refusal_lines.ensures.same
    (c.deref.ensures.value ∙ c.in_ok-ids.ensures ∙ ap (λ graph. nodes_near graph c.args.entry) c.topology.ensures) in
    OnErr-always _ _
    (AppendsPrefix-then _ _ _ (entry_text c.args.entry) (refusal ++ near) c.in_ok-put_entry_text.ensures.ok
    (AppendsPrefix-then _ _ _ refusal near c.in_ok-put_refusal_lines.ensures.ok
    (subst (AppendsPrefix (g.W.Write.contents c.put_refusal_lines.new.out) (g.W.Write.contents c.put_nodes.new.out)) same
    c.in_err-put_nodes.ensures.err)))

pub returns-clause-ok : goal.returns-clause-ok
returns-clause-ok g c =
    let m =
    meaning_of g.P.Application.app g.P.Application.text g.P.Application.from_text g.P.Application.names
    g.P.Invariant.counts in
    let here = c.args.config.now in
    let refusal = refusal_lines m here c.args.entry in
    let near = near_text m here c.args.entry in
    let same : flat_map (line_there m c.put_refusal_lines.new.config) c.deref.result.now ≡ near =
    ap₂ (λ d l. flat_map (line_there m d) l) c.in_ok-put_refusal_lines.ensures.same
    (c.deref.ensures.value ∙ c.in_ok-ids.ensures ∙ ap (λ graph. nodes_near graph c.args.entry) c.topology.ensures) in
    Appends-trans _ _ _ (entry_text c.args.entry) (refusal ++ near) c.in_ok-put_entry_text.ensures.ok
    (Appends-trans _ _ _ refusal near c.in_ok-put_refusal_lines.ensures.ok
    (subst (Appends (g.W.Write.contents c.put_refusal_lines.new.out) (g.W.Write.contents c.put_nodes.new.out)) same
    c.in_ok-put_nodes.ensures.ok))
