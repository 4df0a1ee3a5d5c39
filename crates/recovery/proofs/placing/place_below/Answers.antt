use Rattle.std.proofs.Common.{ℕ, ap, subst, ◌∙◌, arith, length}
use Rattle.reset_model.specs.Configuration.{Configuration}
use Rattle.reset_model.specs.MachineSteps.{IsRefused, IsStep}
use Rattle.reset_model.specs.declared.event.Event.TheVariants.{Adopt, Claim, Follow}
use Rattle.recovery.proofs.ForgetSteps.{one_longer}
use Rattle.recovery.proofs.PlaceSteps.{adopts_now, claim_adopted, claim_stuck, follow_adopted, follow_stuck, rests_below}
use Rattle.recovery.proofs.placing.place_below.Goals as goal

pub returns-then-branch-clause-places : goal.returns-then-branch-clause-places
returns-then-branch-clause-places g c =
    let app = g.P.Application.app in
    let old = c.args.draft.now.config in
    let S : ℕ → Type 0 = λ n. IsStep app old (Adopt c.args.at n) c.attempt.new.self.config in
    adopts_now app old c.args.target.now c.args.at (rw (← c.config.ensures) c.lemma_is_graph.ensures.graph)
    c.requires.target c.requires.next c.requires.below c.attempt.new.self.config
    (subst S c.requires.from (c.in_ok-attempt.ensures.done c.if-branch.true).0)

pub returns-then-branch-3-clause-places : goal.returns-then-branch-3-clause-places
returns-then-branch-3-clause-places g c =
    let app = g.P.Application.app in
    let old = c.args.draft.now.config in
    let m = c.attempt-2.new.self.config in
    let c' = c.attempt-then-branch-2.new.self.config in
    let no_adopt = c.in_ok-attempt.ensures.refused c.if-branch.false in
    let S : ℕ → Type 0 = λ n. IsStep app m (Adopt c.args.at n) c' in
    let T : Configuration g.row.P-Local.Denot → Type 0 = λ k. IsStep app k (Claim c.args.at) m in
    claim_adopted app old c.args.target.now c.args.at (rw (← c.config.ensures) c.lemma_is_graph.ensures.graph)
    c.requires.target c.requires.next c.requires.below m
    (subst T (ap (λ d. d.config) no_adopt.0) (c.in_ok-attempt-2.ensures.done c.if-branch-2.true).0) c'
    (subst S c.requires.from (c.in_ok-attempt-3.ensures.done c.if-branch-3.true).0)

pub returns-then-branch-3-clause-count : goal.returns-then-branch-3-clause-count
returns-then-branch-3-clause-count g c =
    let no_adopt = c.in_ok-attempt.ensures.refused c.if-branch.false in
    let same = ap (λ d. length d.events) no_adopt.0 in
    let one = one_longer c.attempt.new.self.events c.attempt-2.new.self.events (Claim c.args.at)
    (c.in_ok-attempt-2.ensures.done c.if-branch-2.true).1 in
    let two = one_longer c.attempt-2.new.self.events c.attempt-then-branch-2.new.self.events (Adopt c.args.at c.args.from)
    (c.in_ok-attempt-3.ensures.done c.if-branch-3.true).1 in
    omega (arith, same, one, two)

pub unreachable-requires : goal.unreachable-requires
unreachable-requires g c =
    let app = g.P.Application.app in
    let old = c.args.draft.now.config in
    let m = c.attempt-2.new.self.config in
    let no_adopt = c.in_ok-attempt.ensures.refused c.if-branch.false in
    let no_more = c.in_ok-attempt-3.ensures.refused c.if-branch-3.false in
    let R : ℕ → Type 0 = λ n. IsRefused app m (Adopt c.args.at n) no_more.1.0 in
    let T : Configuration g.row.P-Local.Denot → Type 0 = λ k. IsStep app k (Claim c.args.at) m in
    claim_stuck app old c.args.target.now c.args.at (rw (← c.config.ensures) c.lemma_is_graph.ensures.graph)
    c.requires.target c.requires.next c.requires.below m
    (subst T (ap (λ d. d.config) no_adopt.0) (c.in_ok-attempt-2.ensures.done c.if-branch-2.true).0) no_more.1.0
    (subst R c.requires.from no_more.1.1)

pub returns-then-branch-5-clause-places : goal.returns-then-branch-5-clause-places
returns-then-branch-5-clause-places g c =
    let app = g.P.Application.app in
    let old = c.args.draft.now.config in
    let m = c.attempt-3.new.self.config in
    let c' = c.attempt-then-branch-4.new.self.config in
    let no_adopt = c.in_ok-attempt.ensures.refused c.if-branch.false in
    let no_claim = c.in_ok-attempt-2.ensures.refused c.if-branch-2.false in
    let R : ℕ → Type 0 = λ n. IsRefused app old (Adopt c.args.at n) no_adopt.1.0 in
    let S : ℕ → Type 0 = λ n. IsStep app m (Adopt c.args.at n) c' in
    let T : Configuration g.row.P-Local.Denot → Type 0 = λ k. IsStep app k (Follow c.args.at) m in
    follow_adopted app old c.args.target.now c.args.at (rw (← c.config.ensures) c.lemma_is_graph.ensures.graph)
    c.requires.target c.requires.next c.requires.below no_adopt.1.0 (subst R c.requires.from no_adopt.1.1) m
    (subst T (ap (λ d. d.config) (no_claim.0 ∙ no_adopt.0)) (c.in_ok-attempt-4.ensures.done c.if-branch-4.true).0) c'
    (subst S c.requires.from (c.in_ok-attempt-5.ensures.done c.if-branch-5.true).0)

pub unreachable-requires-then-branch-4 : goal.unreachable-requires-then-branch-4
unreachable-requires-then-branch-4 g c =
    let app = g.P.Application.app in
    let old = c.args.draft.now.config in
    let m = c.attempt-3.new.self.config in
    let no_adopt = c.in_ok-attempt.ensures.refused c.if-branch.false in
    let no_claim = c.in_ok-attempt-2.ensures.refused c.if-branch-2.false in
    let no_more = c.in_ok-attempt-5.ensures.refused c.if-branch-5.false in
    let R : ℕ → Type 0 = λ n. IsRefused app old (Adopt c.args.at n) no_adopt.1.0 in
    let Q : ℕ → Type 0 = λ n. IsRefused app m (Adopt c.args.at n) no_more.1.0 in
    let T : Configuration g.row.P-Local.Denot → Type 0 = λ k. IsStep app k (Follow c.args.at) m in
    follow_stuck app old c.args.target.now c.args.at (rw (← c.config.ensures) c.lemma_is_graph.ensures.graph)
    c.requires.target c.requires.next c.requires.below no_adopt.1.0 (subst R c.requires.from no_adopt.1.1) m
    (subst T (ap (λ d. d.config) (no_claim.0 ∙ no_adopt.0)) (c.in_ok-attempt-4.ensures.done c.if-branch-4.true).0)
    no_more.1.0 (subst Q c.requires.from no_more.1.1)

pub returns-clause-places : goal.returns-clause-places
returns-clause-places g c =
    let app = g.P.Application.app in
    let old = c.args.draft.now.config in
    let no_adopt = c.in_ok-attempt.ensures.refused c.if-branch.false in
    let no_claim = c.in_ok-attempt-2.ensures.refused c.if-branch-2.false in
    let no_follow = c.in_ok-attempt-4.ensures.refused c.if-branch-4.false in
    let R : ℕ → Type 0 = λ n. IsRefused app old (Adopt c.args.at n) no_adopt.1.0 in
    let U : Configuration g.row.P-Local.Denot → Type 0 = λ k. IsRefused app k (Claim c.args.at) no_claim.1.0 in
    let V : Configuration g.row.P-Local.Denot → Type 0 = λ k. IsRefused app k (Follow c.args.at) no_follow.1.0 in
    rests_below app old c.args.target.now c.args.at (rw (← c.config.ensures) c.lemma_is_graph.ensures.graph)
    c.requires.target c.requires.next c.requires.below no_adopt.1.0 (subst R c.requires.from no_adopt.1.1)
    no_claim.1.0 no_follow.1.0 (subst U (ap (λ d. d.config) no_adopt.0) no_claim.1.1)
    (subst V (ap (λ d. d.config) (no_claim.0 ∙ no_adopt.0)) no_follow.1.1) c.attempt-3.new.self.config
    (ap (λ d. d.config) (no_follow.0 ∙ no_claim.0 ∙ no_adopt.0))
