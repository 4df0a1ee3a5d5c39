use Rattle.reset_model.specs.EventText.{event_words}
use Rattle.reset_model.proofs.EventLines.{begun, none_begins, words_of-event_line}
use Rattle.reset_model.proofs.WordLines.{line_found, no_line_found}
use Rattle.reset_model.proofs.text.read_event.Goals as goal

pub returns-in_err-kind-clause-only : goal.returns-in_err-kind-clause-only
returns-in_err-kind-clause-only c =
    rw c.from_residual.ensures (none_begins c.args.line.now c.in_err-kind.ensures.only)

pub returns-clause-found : goal.returns-clause-found
returns-clause-found c =
    line_found event_words c.args.line.now _ _
    (begun c.args.line.now c.in_ok-kind.kind c.in_ok-kind.rest.now c.in_ok-kind.ensures.found) c.event_of.ensures.found

pub returns-clause-only : goal.returns-clause-only
returns-clause-only c =
    no_line_found event_words words_of-event_line c.args.line.now _ _
    (begun c.args.line.now c.in_ok-kind.kind c.in_ok-kind.rest.now c.in_ok-kind.ensures.found) c.event_of.ensures.only
