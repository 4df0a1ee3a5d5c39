use Rattle.std.proofs.Common.{◌≡◌, ◌<◌, ◌≤◌, ◌∙◌, None, Some, length, rules, subst, sym}
use Rattle.applications.specs.Meaning.{meaning_of}
use Rattle.script_replay.specs.Left.{bad_line_of}
use Rattle.script_replay.specs.Output.{bad_line_text, too_long_text}
use Rattle.script_replay.specs.declared.status.Status.TheVariants.{BadInput}
use Rattle.script_replay.proofs.Runs.{leaves_weaker}
use Rattle.reset_service.specs.Explorations.{IsExploration, IsFound}
use Rattle.reset_service.specs.Explorations.IsExploration.{bad_line, explored, too_long}
use Rattle.reset_service.proofs.explored.explore_after.Goals as goal

pub returns-then-script-gt-MAX_TEXT-clause-leaves : goal.returns-then-script-gt-MAX_TEXT-clause-leaves
returns-then-script-gt-MAX_TEXT-clause-leaves g c =
    let m =
    meaning_of g.P.Application.app g.P.Application.text g.P.Application.from_text g.P.Application.names
    g.P.Invariant.counts in
    let long : 1048576 < length c.args.script.now = search rules in
    leaves_weaker (λ o. o ≡ (too_long_text, BadInput)) (IsExploration m c.args.run c.args.config.now c.args.script.now) _ _
    c.refuse_input.result (λ o is. too_long long is) c.refuse_input.ensures.leaves

pub returns-in-Ok-None-clause-leaves : goal.returns-in-Ok-None-clause-leaves
returns-in-Ok-None-clause-leaves g c =
    let m =
    meaning_of g.P.Application.app g.P.Application.text g.P.Application.from_text g.P.Application.names
    g.P.Invariant.counts in
    let script = c.args.script.now in
    let short : length script ≤ 1048576 = search rules in
    let good : bad_line_of m.names script ≡ None = sym c.in-Ok-None.ensures.bad ∙ c.in-Ok-None.field-0-is in
    leaves_weaker (IsFound m c.args.run c.leave_script.new.config)
    (IsExploration m c.args.run c.args.config.now script) _ _ c.explore_here.result
    (λ o is. explored short good (subst (λ left. IsFound m c.args.run left o) c.in-Ok-None.ensures.left is))
    c.explore_here.ensures.leaves

pub returns-in-Ok-Some-clause-leaves : goal.returns-in-Ok-Some-clause-leaves
returns-in-Ok-Some-clause-leaves g c =
    let m =
    meaning_of g.P.Application.app g.P.Application.text g.P.Application.from_text g.P.Application.names
    g.P.Invariant.counts in
    let script = c.args.script.now in
    let short : length script ≤ 1048576 = search rules in
    let number = c.in-Ok-Some.number in
    let bad : bad_line_of m.names script ≡ Some number =
    sym c.in-Ok-Some.ensures.bad ∙ c.in-Ok-Some.field-0-is in
    leaves_weaker (λ o. o ≡ (bad_line_text number, BadInput)) (IsExploration m c.args.run c.args.config.now script) _ _
    c.refuse_line.result (λ o is. bad_line number short bad is) c.refuse_line.ensures.leaves
