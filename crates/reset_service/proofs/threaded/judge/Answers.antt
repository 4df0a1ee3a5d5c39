use Rattle.std.proofs.Common.{Ok, ◌∙◌, ap, length, subst}
use Rattle.topology.specs.Graph.{Graph}
use Rattle.applications.specs.Meaning.{meaning_of}
use Rattle.history.specs.Verdict.{IsVerdict}
use Rattle.reset_service.proofs.Threading.{kept_by, same_entries}
use Rattle.reset_service.proofs.threaded.judge.Goals as goal

pub returns-in-Ok-clause-ok : goal.returns-in-Ok-clause-ok
returns-in-Ok-clause-ok g c =
    let m =
    meaning_of g.P.Application.app g.P.Application.text g.P.Application.from_text g.P.Application.names
    g.P.Invariant.counts in
    let history = c.in_ok-history.history.items in
    let (text, whole, verdict) = c.in-Ok.ensures.told in
    kept_by m c.args.opening c.one_reading_a_text.ensures history c.args.book.now.config.modulus
    c.args.book.now.entries c.in-Ok.summary c.requires.few c.in_ok-history.ensures.read c.requires.steps
    (subst (λ t. IsVerdict m.app m.from_text c.args.opening t (Ok c.in-Ok.summary))
    (whole ∙ c.as_slice-rest.ensures.value) verdict)
    c.node_count-nodes.result (length c.as_slice-reports.result.now)
    (c.node_count-nodes.ensures ∙ ap (λ (h : Graph). length h.nodes) c.topology.ensures)
    (ap length c.as_slice-reports.ensures.value)

pub returns-in-Ok-clause-text : goal.returns-in-Ok-clause-text
returns-in-Ok-clause-text g c = λ modulus es is.
    same_entries c.one_reading_a_text.ensures c.in_ok-history.history.items modulus c.args.book.now.config.modulus es
    c.args.book.now.entries is c.in_ok-history.ensures.read
