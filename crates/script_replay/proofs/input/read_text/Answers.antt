use Rattle.std.proofs.Common.{◌<◌, length, take, arith}
use Rattle.std.proofs.lemmas.List.{length-take}
use Rattle.script_replay.proofs.Reading.{read_last, read_on, read_to_limit}
use Rattle.script_replay.proofs.input.read_text.Goals as goal

pub returns-then-branch-eq0-clause-ok : goal.returns-then-branch-eq0-clause-ok
returns-then-branch-eq0-clause-ok g c =
    let room = c.min-room.result in
    let chunk = c.loop-chunk.chunk in
    let some : 0 < length (take room chunk) =
    omega (arith, length-take room chunk, c.loop-chunk.invariant.2, c.min-room.ensures, c.loop-chunk-test.true) in
    read_last (g.R.Read.remaining c.args.reader.now) (g.R.Read.remaining c.loop-chunk.reader)
    (g.R.Read.remaining c.read_once.new.reader) c.loop-chunk.text.items c.read_once.new.text.items
    c.in_ok-read_once.field-0 c.loop-chunk.invariant.1 c.in_ok-read_once.ensures.ok
    (c.in_ok-read_once.ensures.end c.if-branch-eq0.true some) c.if-branch-eq0.true c.loop-chunk.invariant.0

pub returns-clause-ok : goal.returns-clause-ok
returns-clause-ok g c =
    read_to_limit (g.R.Read.remaining c.args.reader.now) (g.R.Read.remaining c.loop-chunk.reader)
    c.loop-chunk.text.items c.loop-chunk.invariant.1
    (omega (arith, c.loop-chunk.invariant.0, c.loop-chunk-test.false, c.len.ensures))

pub returns-then-branch-eq0-clause-taken : goal.returns-then-branch-eq0-clause-taken
returns-then-branch-eq0-clause-taken g c =
    read_on (g.R.Read.remaining c.args.reader.now) (g.R.Read.remaining c.loop-chunk.reader)
    (g.R.Read.remaining c.read_once.new.reader) c.loop-chunk.text.items
    c.read_once.new.text.items c.in_ok-read_once.field-0 c.loop-chunk.invariant.1 c.in_ok-read_once.ensures.ok

pub returns-clause-taken : goal.returns-clause-taken
returns-clause-taken g c = c.loop-chunk.invariant.1
