use Rattle.std.proofs.Common.{rules, ◌≡◌, ap, ◌∙◌}
use Rattle.rand_pcg.specs.Lcg.{Lcg}
use Rattle.fault_inject.specs.Drawn.{seeded}
use Rattle.scheduler.proofs.Steps.{no_steps, steps_keep, steps_more}
use Rattle.scheduler.proofs.run.drive.Goals as goal

pub loop-init : goal.loop-init
loop-init g c =
    let started : c.seed_from_u64-random.result ≡ seeded c.args.seed = search rules in
    ap (λ (random : Lcg). (c.args.book.now, random)) started
    ∙ no_steps g.P.Application.app g.P.Application.from_text c.args.faults c.args.book.now (seeded c.args.seed)

pub loop-preserved : goal.loop-preserved
loop-preserved g c =
    steps_more g.P.Application.app g.P.Application.from_text c.args.faults c.args.book.now (seeded c.args.seed)
    c.loop.counter (c.loop.book, c.loop.random) (c.drawn_step.new.book, c.drawn_step.new.random) c.loop.invariant
    c.in_ok-drawn_step.ensures.ok

pub returns-in_err-drawn_step-clause-opening : goal.returns-in_err-drawn_step-clause-opening
returns-in_err-drawn_step-clause-opening g c =
    let kept = steps_keep g.P.Application.app g.P.Application.from_text c.args.faults c.loop.counter c.args.book.now
    (seeded c.args.seed) in
    ap (λ b. b.opening) c.in_err-drawn_step.ensures.kept ∙ ap (λ s. s.0.opening) c.loop.invariant ∙ kept.opening

pub returns-in_err-drawn_step-clause-limit : goal.returns-in_err-drawn_step-clause-limit
returns-in_err-drawn_step-clause-limit g c =
    let kept = steps_keep g.P.Application.app g.P.Application.from_text c.args.faults c.loop.counter c.args.book.now
    (seeded c.args.seed) in
    ap (λ b. b.limit) c.in_err-drawn_step.ensures.kept ∙ ap (λ s. s.0.limit) c.loop.invariant ∙ kept.limit

pub returns-clause-opening : goal.returns-clause-opening
returns-clause-opening g c =
    let kept = steps_keep g.P.Application.app g.P.Application.from_text c.args.faults c.loop.counter c.args.book.now
    (seeded c.args.seed) in
    ap (λ s. s.0.opening) c.loop.invariant ∙ kept.opening

pub returns-clause-limit : goal.returns-clause-limit
returns-clause-limit g c =
    let kept = steps_keep g.P.Application.app g.P.Application.from_text c.args.faults c.loop.counter c.args.book.now
    (seeded c.args.seed) in
    ap (λ s. s.0.limit) c.loop.invariant ∙ kept.limit
