use Rattle.std.proofs.Common.{rules, ◌≡◌, ap, subst, ◌∙◌}
use Rattle.rand_pcg.specs.Lcg.{Lcg}
use Rattle.fault_inject.specs.Drawn.{seeded}
use Rattle.history.specs.HistoryText.{ended, first_line}
use Rattle.scheduler.specs.Driven.{drawn_steps}
use Rattle.scheduler.specs.Told.{IsTold, new_book}
use Rattle.scheduler.proofs.Telling.{nothing_kept}
use Rattle.scheduler.proofs.text_run.driven_history.Goals as goal

pub returns : goal.returns
returns g c =
    let app = g.P.Application.app in
    let from_text = g.P.Application.from_text in
    let opening = c.args.opening in
    let started : c.seed_from_u64-random.result ≡ seeded c.args.seed = search rules in
    let kept = nothing_kept app from_text opening c.in_ok-told.told c.lemma_is_graph.ensures.graph
    c.lemma_is_graph.ensures.shaped
    (c.in_ok-told.ensures.text ∙ ap (λ n. ended (first_line n)) (c.get.ensures.number ∙ c.modulus.ensures))
    c.in_ok-told.ensures.entries c.in_ok-told.ensures.reports in
    subst (λ (r : Lcg). IsTold app from_text (drawn_steps app from_text c.args.faults c.args.steps (new_book opening) r).0
    c.take_steps.new.told) started (c.in_ok-take_steps.ensures (new_book opening) kept).0.told
