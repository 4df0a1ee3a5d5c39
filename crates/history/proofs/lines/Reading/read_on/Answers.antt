use Rattle.std.proofs.Common.{take}
use Rattle.std.proofs.lemmas.Result.{err_from_is_err_and}
use Rattle.history.proofs.ReadLines.{some_given}
use Rattle.history.proofs.lines.Reading.read_on.Goals as goal

pub returns-in_err-feed-clause-err : goal.returns-in_err-feed-clause-err
returns-in_err-feed-clause-err g c =
    let p = err_from_is_err_and c.from_residual.result c.from_residual.ensures.1 in
    rw (p.1, p.2)
    (λ memory device.
    some_given (g.R.Read.remaining c.args.reader.now) (g.R.Read.remaining c.read.new.self)
    (take c.in-Ok.count c.read.new.buf) c.in_err-feed.field-0.0 c.args.self.now c.in-Ok.ensures.bytes.0
    (c.in_err-feed.ensures.err memory))
