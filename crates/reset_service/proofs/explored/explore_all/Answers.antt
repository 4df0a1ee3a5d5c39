use Rattle.std.proofs.Common.{◌≡◌}
use Rattle.applications.specs.Meaning.{meaning_of}
use Rattle.script_replay.specs.declared.status.Status.TheVariants.{BadInput}
use Rattle.script_replay.proofs.Runs.{leaves_weaker}
use Rattle.reset_service.specs.Explorations.{IsFound, schedules_text, status_of, too_many_text}
use Rattle.reset_service.specs.Explorations.IsFound.{explored, too_many}
use Rattle.reset_service.proofs.explored.explore_all.Goals as goal

pub returns-in-Ok-clause-leaves : goal.returns-in-Ok-clause-leaves
returns-in-Ok-clause-leaves g c =
    let m =
    meaning_of g.P.Application.app g.P.Application.text g.P.Application.from_text g.P.Application.names
    g.P.Invariant.counts in
    let found = c.in-Ok.found in
    leaves_weaker (λ o. o ≡ (schedules_text found, status_of found)) (IsFound m c.args.run c.args.config.now) _ _
    c.answer_schedules.result (λ o is. explored found c.requires c.in-Ok.ensures.exact c.in-Ok.ensures.few is)
    c.answer_schedules.ensures.leaves

pub returns-in-Err-TooMany-clause-leaves : goal.returns-in-Err-TooMany-clause-leaves
returns-in-Err-TooMany-clause-leaves g c =
    let m =
    meaning_of g.P.Application.app g.P.Application.text g.P.Application.from_text g.P.Application.names
    g.P.Invariant.counts in
    leaves_weaker (λ o. o ≡ (too_many_text c.args.run.most, BadInput)) (IsFound m c.args.run c.args.config.now) _ _
    c.answer_too_many.result
    (λ o is. too_many (c.in-Err-TooMany.ensures.too_many c.in-Err-TooMany.field-0-is) is) c.answer_too_many.ensures.leaves
