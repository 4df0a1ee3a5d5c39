use Rattle.std.proofs.Common.{[], ◌++◌, Ok, ap}
use Rattle.std.proofs.KnownBytes.{Consumes-trans}
use Rattle.history.proofs.ReadLines.{kept_err, kept_ok, read_whole, whole_before}
use Rattle.history.proofs.read.read_book.Goals as goal

pub returns-in-Ok-false-clause-ok : goal.returns-in-Ok-false-clause-ok
returns-in-Ok-false-clause-ok g c =
    let (given, consumed, read) = c.loop.invariant in
    let (last, some, gave, on) = c.in-Ok-false.ensures.ok in
    let start = g.R.Read.remaining c.args.reader.now in
    let now = g.R.Read.remaining c.read_on.new.reader in
    kept_ok start now (given ++ last) c.read_on.new.self c.into_book.result
    (Consumes-trans start (g.R.Read.remaining c.loop.reader) now given last consumed gave)
    (c.in-Ok-false.ensures.end (ap Ok c.in-Ok-false.field-0-test)).0 (on [] given read) c.into_book.ensures.ok

pub returns-in-Ok-false-clause-err : goal.returns-in-Ok-false-clause-err
returns-in-Ok-false-clause-err g c =
    let (given, consumed, read) = c.loop.invariant in
    let (last, some, gave, on) = c.in-Ok-false.ensures.ok in
    let start = g.R.Read.remaining c.args.reader.now in
    let now = g.R.Read.remaining c.read_on.new.reader in
    kept_err start now (given ++ last) c.read_on.new.self c.into_book.result
    (Consumes-trans start (g.R.Read.remaining c.loop.reader) now given last consumed gave)
    (c.in-Ok-false.ensures.end (ap Ok c.in-Ok-false.field-0-test)).0 (on [] given read) c.into_book.ensures.err

pub returns-in-Err-clause-err : goal.returns-in-Err-clause-err
returns-in-Err-clause-err g c memory device =
    let (given, consumed, read) = c.loop.invariant in
    let (rest, whole, faulty) = c.in-Err.ensures.err memory device in (
      given ++ rest,
      whole_before (g.R.Read.remaining c.args.reader.now) (g.R.Read.remaining c.loop.reader) given rest consumed whole,
      faulty [] given read,
    )

pub loop-preserved : goal.loop-preserved
loop-preserved g c =
    let (given, consumed, read) = c.loop.invariant in
    let (last, some, gave, on) = c.in-Ok-true.ensures.ok in (
      given ++ last,
      Consumes-trans (g.R.Read.remaining c.args.reader.now) (g.R.Read.remaining c.loop.reader)
          (g.R.Read.remaining c.read_on.new.reader) given last consumed gave,
      on [] given read,
    )

pub returns-in-Ok-false-clause-end : goal.returns-in-Ok-false-clause-end
returns-in-Ok-false-clause-end g c =
    read_whole c.into_book.result (g.R.Read.remaining c.read_on.new.reader)
    (c.in-Ok-false.ensures.end (ap Ok c.in-Ok-false.field-0-test)).0
