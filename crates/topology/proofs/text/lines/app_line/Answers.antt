use Rattle.std.proofs.Common.{◌≡◌, Ok, arith}
use Rattle.std.proofs.lemmas.Grind.{common_steps}
use Rattle.topology.specs.TopologyText.{app_named}
use Rattle.topology.proofs.PlainLines.{app_read}
use Rattle.topology.proofs.text.lines.app_line.Goals as goal

pub returns : goal.returns
returns c =
    let named : app_named c.in_ok-ok.field-0.now ≡ Ok c.in_ok-app.app = grind (arith, common_steps) in
    let same : c.in_ok-ok.field-0.now ≡ c.in_ok-word.word.now = grind (arith, common_steps) in
    app_read c.args.text.now c.in_ok-after.field-0.now c.in_ok-word.word.now c.in_ok-word.rest.now
    c.in_ok-after-2.field-0.now c.in_ok-app.app c.in_ok-after.ensures c.in_ok-word.ensures.found c.in_ok-after-2.ensures
    (rw same at named)
