use Rattle.std.proofs.Common.{◌≡◌, ◌∙◌, ap, sym, arith}
use Rattle.applications.specs.Meaning.{meaning_of}
use Rattle.space_time_diagram.specs.Diagram.{diagram_text}
use Rattle.script_replay.specs.declared.status.Status.TheVariants.{Good}
use Rattle.script_replay.proofs.Runs.{leaves_weaker}
use Rattle.reset_service.specs.Pictured.{drawing_of}
use Rattle.reset_service.proofs.Picturing.{drawing_few}
use Rattle.reset_service.proofs.drawn.draw.Goals as goal

pub returns-else-entries-gt-MAX_MARKS-clause-leaves : goal.returns-else-entries-gt-MAX_MARKS-clause-leaves
returns-else-entries-gt-MAX_MARKS-clause-leaves g c =
    let m =
    meaning_of g.P.Application.app g.P.Application.text g.P.Application.from_text g.P.Application.names
    g.P.Invariant.counts in
    let nodes = c.args.nodes.now in
    let before = c.args.before in
    let opening = c.args.opening.now in
    let es = c.args.entries.now in
    leaves_weaker
    (λ o. o ≡ (diagram_text m.app m.from_text nodes before opening es c.args.reports.now, Good))
    (λ o. o ≡ drawing_of m nodes before opening es) _ _ c.draw_few.result
    (λ o is. is ∙ ap (λ rs. (diagram_text m.app m.from_text nodes before opening es rs, Good)) c.requires.reports
    ∙ sym (drawing_few m nodes before opening es (omega arith))) c.draw_few.ensures.leaves
