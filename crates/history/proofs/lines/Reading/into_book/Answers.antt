use Rattle.std.proofs.Common.{[]}
use Rattle.history.proofs.lines.Reading.into_book.Goals as goal

pub returns-in-Ok-clause-ok : goal.returns-in-Ok-clause-ok
returns-in-Ok-clause-ok c text read = c.in-Ok.ensures.ok [] text read

pub returns-in-Err-clause-err : goal.returns-in-Err-clause-err
returns-in-Err-clause-err c text read = c.in-Err.ensures.err [] text read
