-- What a session on the texts of a topology and of a snapshot does.
use Rattle.std.specs.Prelude.{◌≡◌, ◌≤◌, ℕ, List, length, Option, Some, None, Result, Ok, Err, IfOk, OnErr}
use Rattle.std.specs.Io.KnownBytes.{Keeps}
use Rattle.topology.specs.Graph.{Graph}
use Rattle.topology.specs.TopologyText.{IsReadFault}
use Rattle.topology.specs.declared.text.AppName.{AppName}
use Rattle.topology.specs.declared.text.ReadFault.{ReadFault}
use Rattle.reset_model.specs.Configuration.{Configuration}
use Rattle.reset_model.specs.Outcome.{IsBoot}
use Rattle.applications.specs.Choice.{ForApp}
use Rattle.applications.specs.Meaning.{Meaning}
use Rattle.history.specs.HistoryText.{IsReadWhole}
use Rattle.history.specs.Verdict.{IsVerdict}
use Rattle.history.specs.declared.entry.VerifyFault.TheVariants.{NotEnabledAt}
use Rattle.history.specs.declared.entry.VerifyFault.TheVariants as verify
use Rattle.history.specs.declared.verification.ReaderFault.{ReaderFault}
use Rattle.history.specs.declared.verification.ReaderFault.TheVariants.{Text, OtherModulus, Entries}
use Rattle.script_replay.specs.Output.{Describes, Leaves, bad_topology_text}
use Rattle.script_replay.specs.declared.status.RunStop.{RunStop}
use Rattle.script_replay.specs.declared.status.RunStop.TheVariants as stop
use Rattle.script_replay.specs.declared.status.Status.{Status}
use Rattle.script_replay.specs.declared.status.Status.TheVariants.{Good, NotEnabled, BadInput}
use Rattle.snapshots.specs.Named.{IsSnapshotOf}
use Rattle.live_session.specs.Course.{IsCutShort, IsDone, course}
use Rattle.live_session.specs.Kept.{HasBegun, HasResumed, IsCutAtBeginning, IsCutOnItsWay}
use Rattle.reset_service.specs.Started.{IsStartFault, start_fault_text}
use Rattle.reset_service.specs.Verified.{bad_history_text, not_enabled_text, other_modulus_text}
use Rattle.reset_service.specs.declared.session.Past.{Past}
use Rattle.reset_service.specs.declared.session.Past.TheVariants.{Unkept, New, Kept}
use Rattle.reset_service.specs.declared.started.StartFault.{StartFault}

-- what a session had and has: the bytes of its input, if that tells them, what its history and its output had before and
-- have after it, and how it ended
pub record SessionRun : Type 0 where
  pub known : Option (List ℕ)
  pub log : Option (List ℕ)
  pub log' : Option (List ℕ)
  pub out : Option (List ℕ)
  pub out' : Option (List ℕ)
  pub ended : Result Status RunStop

abbrev pub session_run : (known log log' out out' : Option (List ℕ)) → Result Status RunStop → SessionRun
session_run known log log' out out' ended =
    record { known = known; log = log; log' = log'; out = out; out' = out'; ended = ended }

-- ---- from a configuration on

-- one without a history: all lines were answered, or it was cut short
pub record HoldsUnkept {L : Type 0} (m : Meaning L) (c : Configuration L) (r : SessionRun) : Type 0 where
  pub done : IfOk r.ended (λ s. (s ≡ Good) × (text : List ℕ) × IsReadWhole r.known text
      × IsDone None (course m None c text).exchanges r.log r.log' r.out r.out')
  pub cut : OnErr r.ended ((text : List ℕ) × IsReadWhole r.known text
      × IsCutShort None (course m None c text).exchanges r.log r.log' r.out r.out')

-- one with a new history
pub record HoldsNew {L : Type 0} (m : Meaning L) (c : Configuration L) (r : SessionRun) : Type 0 where
  pub done : IfOk r.ended (λ s. (s ≡ Good) × (left : Configuration L)
      × HasBegun m c r.known r.log r.log' r.out r.out' left)
  pub cut : OnErr r.ended (IsCutAtBeginning m c r.known r.log r.log' r.out r.out')

-- what a history is answered from which no session can go on
abbrev pub IsPastOutput : ReaderFault → List ℕ × Status → Type 0
IsPastOutput (Text f) output = output ≡ (bad_history_text f, BadInput)
IsPastOutput (OtherModulus modulus) output = output ≡ (other_modulus_text modulus, BadInput)
IsPastOutput (Entries (NotEnabledAt position)) output = output ≡ (not_enabled_text position, NotEnabled)
IsPastOutput (Entries verify.NoMemory) output = ⊥

-- one that goes on after a history: what is no history from here on is answered as a verification answers it, and isn't
-- written to
pub data HoldsKept {L : Type 0} (m : Meaning L) (c : Configuration L) (past : Option (List ℕ)) (r : SessionRun)
    : Type 0 where
  gone_on : (left : Configuration L) → r.ended ≡ Ok Good
      → HasResumed m c past r.known r.log r.log' r.out r.out' left → HoldsKept m c past r
  cut : (stop : RunStop) → r.ended ≡ Err stop → IsCutOnItsWay m c past r.known r.log r.log' r.out r.out'
      → HoldsKept m c past r
  no_past : (text : List ℕ) (f : ReaderFault) → IsReadWhole past text
      → IsVerdict m.app m.from_text c text (Err f) → Keeps r.log r.log' → Leaves (IsPastOutput f) r.out r.out' r.ended
      → HoldsKept m c past r

-- the one that is asked for, where a reader that gives a history has these bytes
abbrev pub HoldsFrom : {F L : Type 0} → (F → Option (List ℕ)) → Past F → Meaning L → Configuration L → SessionRun → Type 0
HoldsFrom remaining Unkept m c = HoldsUnkept m c
HoldsFrom remaining New m c = HoldsNew m c
HoldsFrom remaining (Kept reader) m c = HoldsKept m c (remaining reader)

-- ---- on a network

-- a session from the booted configuration of a graph, or from that which a snapshot names. A text that is no snapshot is
-- answered by its first fault, and leaves no history
pub data HoldsOn {L : Type 0} (m : Meaning L) (g : Graph) (modulus : ℕ) (snapshot : Option (List ℕ))
    (Follows : Configuration L → SessionRun → Type 0) (r : SessionRun) : Type 0 where
  booted : (c : Configuration L) → snapshot ≡ None → IsBoot m.app g modulus c → Follows c r
      → HoldsOn m g modulus snapshot Follows r
  started : (text : List ℕ) (c : Configuration L) → snapshot ≡ Some text → length text ≤ 67108864
      → IsSnapshotOf m g modulus text c → Follows c r → HoldsOn m g modulus snapshot Follows r
  bad_snapshot : (text : List ℕ) → snapshot ≡ Some text → Keeps r.log r.log'
      → Leaves (λ output. (f : StartFault) × IsStartFault m g text f × (output ≡ (start_fault_text f, BadInput)))
      r.out r.out' r.ended
      → HoldsOn m g modulus snapshot Follows r
  no_memory : r.ended ≡ Err stop.NoMemory → Keeps r.log r.log' → Keeps r.out r.out'
      → HoldsOn m g modulus snapshot Follows r

-- the same for the application of a name
abbrev pub HoldsOf : {F : Type 0} → (F → Option (List ℕ)) → Past F → Option (List ℕ) → AppName → Graph → ℕ → SessionRun
    → Type 0
HoldsOf remaining past snapshot app g modulus run =
    ForApp (λ L m. HoldsOn m g modulus snapshot (HoldsFrom remaining past m) run) app

-- a session on the network of a topology text: a bad one is answered by its first fault, and leaves no history
pub data HoldsText (topology : List ℕ) (Follows : AppName → Graph → ℕ → SessionRun → Type 0) (r : SessionRun) : Type 0
  where
    bad_topology : Keeps r.log r.log'
        → Leaves (λ output. (f : ReadFault) × IsReadFault topology f × (output ≡ (bad_topology_text f, BadInput)))
        r.out r.out' r.ended
        → HoldsText topology Follows r
    good_topology : (g : Graph) (app : AppName) (modulus : ℕ) → Describes topology g app modulus → Follows app g modulus r
        → HoldsText topology Follows r

-- ---- what private clauses cite

-- the status of a session that ended so
abbrev pub status_of : {A : Type 0} → Result A RunStop → Result Status RunStop
status_of (Ok left) = Ok Good
status_of (Err stop) = Err stop
