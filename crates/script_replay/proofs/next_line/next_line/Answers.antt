use Rattle.std.proofs.Common.{◌∷◌, ap, arith, length}
use Rattle.std.proofs.lemmas.List.{length-append}
use Rattle.reset_model.specs.EventText.{event_line}
use Rattle.reset_model.proofs.PlainLines.{event_plain}
use Rattle.script_replay.proofs.TextLines.{lines_cut}
use Rattle.script_replay.proofs.next_line.next_line.Goals as goal

pub returns-in-Some-clause-found : goal.returns-in-Some-clause-found
returns-in-Some-clause-found c =
    lines_cut c.args.text.now (event_line c.in-Some.event) c.in-Some.after.now
    (event_plain c.in-Some.event c.in-Some.ensures.fits) c.in-Some.ensures.found

pub returns-in-Some-clause-shorter : goal.returns-in-Some-clause-shorter
returns-in-Some-clause-shorter c =
    let is = ap length c.in-Some.ensures.found in
    let parts = length-append (event_line c.in-Some.event) (10 ∷ c.in-Some.after.now) in
    omega (arith, is, parts)
