use Rattle.history.proofs.Checkpoints.{checkpoints_stay}
use Rattle.history.specs.Segments.{entries_of}
use Rattle.history.proofs.log.Log.push.Goals as goal

pub returns-clause-log : goal.returns-clause-log
returns-clause-log g c =
    let log = c.args.self.now in
    record {
      segmented = c.push.ensures.segmented;
      checkpoints =
          rw c.push.ensures.entries (checkpoints_stay g.P.Application.app g.P.Application.from_text log.opening.value
          (entries_of log.segments) c.args.entry log.checkpoints.items c.requires.log.checkpoints
          c.requires.room.covered);
    }

pub returns-clause-entries : goal.returns-clause-entries
returns-clause-entries g c = c.push.ensures.entries
