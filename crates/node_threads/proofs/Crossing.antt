-- What is shared may be seen by every thread. A number is the place of a type among the parameters of the function
-- that starts the threads.
use denote.RattleType.{RattleType}
use denote.Struct.Declared.{shape}
use denote.Struct.Struct.{Struct}
use denote.Param.{param}
use denote.Param.Send.{sendable, IsSend, IsSync, part_keyless, Quiet-if}
use denote.Exit.{yes, unseen}
use mir.Syntax.{of_param}
use Rattle.std.proofs.Crossing.{crosses}
use Rattle.std.specs.contracts.sync.Condvar as Condvar
use Rattle.topology.specs.contracts.topology.Topology as Topology
use Rattle.node_threads.specs.contracts.attendance.Attendance as Attendance
use Rattle.std.proofs.sync.ledger.Share.TheSendSync as share
use Rattle.std.proofs.sync.ledger.Book.TheSendSync as tally
use Rattle.std.proofs.sync.Mutex.TheSendSync as mutex
use Rattle.std.specs.contracts.sync.ledger.Share as Share
use Rattle.std.specs.contracts.sync.ledger.Book as Tally
use Rattle.std.specs.contracts.sync.Mutex as Mutex
use Rattle.std.specs.declared.sync.ledger.Ledger as Ledger
use Rattle.app_interface.specs.declared.application.Application as Application
use Rattle.history.specs.contracts.book.Book as Book
use Rattle.node_threads.specs.declared.round.Round as Round
use Rattle.node_threads.specs.declared.round.Sharing as Sharing
use Rattle.node_threads.specs.contracts.guarded.Guarded as Guarded
use Rattle.node_threads.specs.contracts.locked.Locked as Locked
use Rattle.node_threads.specs.contracts.sharing.Shared as Shared

-- a bound is the same at every place among the parameters
pub moved_send : (X : RattleType) → IsSend (param 2 X) → IsSend (param 4 X)
moved_send X h = record {
  owned = h.owned;
  leaving = λ k. Quiet-if (k (of_param 4)) (X.exit yes) unseen (h.leaving yes) (λ x w. tt);
}

module _ (L P X : RattleType) (s : Sharing.Ghosts L.Denot X.Denot) (r : Round.Ghosts L.Denot) (a : Application.Ghosts P.Denot X.Denot)
    (l : Ledger.Ghosts L.Denot) (local : IsSend (param 4 X)) where
  book_send : IsSend (Book.the_row (param 1 P) (param 4 X) a)
  book_send = search (crosses, sendable) depth 60 fits 20000

  tally_send : IsSend (Tally.the_row (param 0 L) l)
  tally_send = tally.the_send (param 0 L) l

  -- a record that is a field of another is there as its bare struct
  attendance_send : IsSend (Struct (shape Attendance.the_type))
  attendance_send = search (crosses, sendable) depth 60 fits 20000

  locked_send : IsSend (Struct (shape (Locked.the_type (param 0 L) (param 1 P) (param 4 X) s r a l)))
  locked_send = search (sendable, book_send, tally_send) depth 60 fits 20000

  guarded_send : IsSend (Guarded.the_row (param 0 L) (param 1 P) (param 4 X) s r a l)
  guarded_send = search (sendable, locked_send, attendance_send) depth 60 fits 20000

  mutex_sync : IsSync (Mutex.the_row (Guarded.the_row (param 0 L) (param 1 P) (param 4 X) s r a l))
  mutex_sync = mutex.the_sync (Guarded.the_row (param 0 L) (param 1 P) (param 4 X) s r a l) guarded_send

  share_sync : IsSync (Share.the_row (param 0 L) l)
  share_sync = record {
    shared = λ d b o κ q. part_keyless (Share.the_row (param 0 L) l) (share.the_send (param 0 L) l) q d b o;
  }

  wakeup_sync : IsSync Condvar.the_row
  wakeup_sync = search (crosses, sendable) depth 60 fits 20000

  topology_sync : IsSync Topology.the_row
  topology_sync = search (crosses, sendable) depth 60 fits 20000

  pub shared_sync : IsSync (Shared.the_row (param 0 L) (param 1 P) (param 4 X) s r l a)
  shared_sync = search (crosses, sendable, mutex_sync, share_sync, topology_sync, wakeup_sync) depth 60 fits 20000
