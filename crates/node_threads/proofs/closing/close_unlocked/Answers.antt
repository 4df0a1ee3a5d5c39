use Rattle.std.proofs.Common.{◌∙◌}
use Rattle.node_threads.proofs.PutBack.{put_back}
use Rattle.node_threads.proofs.closing.close_unlocked.Goals as goal

pub returns-in-Err-clause-returned : goal.returns-in-Err-clause-returned
returns-in-Err-clause-returned g c =
    put_back c.args.seats c.audit.new.seats (c.audit.ensures.seats ∙ c.deref_mut.ensures.value)
