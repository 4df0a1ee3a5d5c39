use Rattle.topology.specs.Reading.{reading_view}
use Rattle.topology.proofs.PlainTexts.{documented_text_described}
use Rattle.topology.proofs.PlainLines.{printed_read}
use Rattle.topology.proofs.text.lines.read_lines.Goals as goal

pub returns-in-Some : goal.returns-in-Some
returns-in-Some c =
    let text = rw c.in-Some.is at c.in_ok-reading.ensures.text in
    let small = rw c.in-Some.is at c.in_ok-reading.ensures.small in
    let whole = rw c.in-Some.is at c.in_ok-reading.ensures.modulus in
    documented_text_described c.args.text.now (reading_view c.in-Some.reading) c.requires text small.0 small.1 whole

pub returns : goal.returns
returns c = printed_read c.args.text.now c.requires c.printed.result c.printed.ensures.text c.printed.ensures.small
    c.printed.ensures.modulus
