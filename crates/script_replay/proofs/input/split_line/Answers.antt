use Rattle.std.proofs.Common.{sym, ◌∙◌}
use Rattle.std.proofs.lemmas.List.{take_rest}
use Rattle.script_replay.proofs.TextLines.{cut, uncut}
use Rattle.script_replay.proofs.input.split_line.Goals as goal

pub returns-in_err-end-clause-only : goal.returns-in_err-end-clause-only
returns-in_err-end-clause-only c =
    rw c.from_residual.ensures (uncut c.args.text.now (sym c.first_line_feed.ensures ∙ c.in_err-end.was))

pub returns-clause-found : goal.returns-clause-found
returns-clause-found c =
    rw take_rest (cut c.args.text.now c.in_ok-end.end (sym c.first_line_feed.ensures ∙ c.in_ok-end.was))
