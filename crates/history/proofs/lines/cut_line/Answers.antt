use Rattle.std.proofs.lemmas.List.{take_rest}
use Rattle.history.proofs.LineCuts.{cut_prefix, cut_whole, uncut}
use Rattle.history.proofs.lines.cut_line.Goals as goal

pub returns-in-None-clause-none : goal.returns-in-None-clause-none
returns-in-None-clause-none c = uncut 10 c.args.bytes.now c.in-None.ensures

pub returns-in-Some-clause-found : goal.returns-in-Some-clause-found
returns-in-Some-clause-found c =
    rw take_rest (cut_whole 10 c.args.bytes.now c.in-Some.end c.in-Some.ensures.0.high c.in-Some.ensures.1)

pub returns-in-Some-clause-first : goal.returns-in-Some-clause-first
returns-in-Some-clause-first c = cut_prefix 10 c.args.bytes.now c.in-Some.end c.in-Some.ensures.0
