-- What a session on a network does.
use Rattle.std.proofs.Common.{◌≡◌, ◌≢◌, ℕ, List, Option, Some, None, Result, Ok, Err, IfOk, OnErr, refl, sym}
use Rattle.std.proofs.Common.{subst, inl, inr}
use Rattle.std.specs.Io.KnownBytes.{Appends, Keeps}
use Rattle.std.proofs.KnownBytes.{Keeps-refl, Keeps-trans}
use Rattle.topology.specs.Graph.{Graph}
use Rattle.reset_model.specs.Configuration.{Configuration}
use Rattle.applications.specs.Meaning.{Meaning}
use Rattle.history.specs.HistoryText.{IsReadWhole}
use Rattle.history.specs.declared.verification.ReaderFault.{ReaderFault}
use Rattle.script_replay.specs.Output.{HasPrefix, Leaves}
use Rattle.script_replay.specs.declared.status.RunStop.{RunStop}
use Rattle.script_replay.specs.declared.status.RunStop.TheVariants.{ReadFailed, WriteFailed, NoMemory, ThreadFailed, NotClosed}
use Rattle.script_replay.specs.declared.status.Status.{Status}
use Rattle.script_replay.specs.declared.status.Status.TheVariants.{BadInput}
use Rattle.script_replay.proofs.Runs.{leaves_weaker}
use Rattle.live_session.specs.Course.{IsCutShort, IsDone, course}
use Rattle.live_session.specs.Kept.{HasBegun, IsCutAtBeginning, IsNoPast}
use Rattle.reset_service.specs.Held.{HoldsKept, HoldsNew, HoldsOn, HoldsUnkept, IsPastOutput, SessionRun}
use Rattle.reset_service.specs.Held.{status_of}
use Rattle.reset_service.specs.Held.HoldsKept.{no_past}
use Rattle.reset_service.specs.Held.HoldsOn.{bad_snapshot}
use Rattle.reset_service.specs.Started.{IsStartFault, start_fault_text}
use Rattle.reset_service.specs.declared.started.StartFault.{StartFault}
use Rattle.reset_service.specs.declared.started.StartFault.TheVariants as start

abbrev Output : Type 0
Output = List ℕ × Status

kept_then : (a b c : Option (List ℕ)) (bs : List ℕ) → Keeps a b → Appends b c bs → Appends a c bs
kept_then None b c bs same grown = tt
kept_then (Some xs) None c bs same grown = absurd same
kept_then (Some xs) (Some ys) c bs same grown = subst (λ z. Appends (Some z) c bs) same grown

kept_prefix : (O : Output → Type 0) (a b c : Option (List ℕ)) → Keeps a b → HasPrefix O b c → HasPrefix O a c
kept_prefix O a b c same (output, is, wrote) = (
  output,
  is,
  record {
    prefix = wrote.prefix;
    rest = wrote.rest;
    cut = wrote.cut;
    appended = kept_then a b c wrote.prefix same wrote.appended;
  },
)

pub kept_leaves : (O : Output → Type 0) (a b c : Option (List ℕ)) (r : Result Status RunStop) → Keeps a b
    → Leaves O b c r → Leaves O a c r
kept_leaves O a b c (Ok s) same (written, is, wrote) = (written, is, kept_then a b c written same wrote)
kept_leaves O a b c (Err ReadFailed) same left = Keeps-trans a b c same left
kept_leaves O a b c (Err WriteFailed) same left = kept_prefix O a b c same left
kept_leaves O a b c (Err NoMemory) same (inl left) = inl (Keeps-trans a b c same left)
kept_leaves O a b c (Err NoMemory) same (inr left) = inr (kept_prefix O a b c same left)
kept_leaves O a b c (Err ThreadFailed) same left = left
kept_leaves O a b c (Err NotClosed) same left = left

abbrev run_of : (known log log' out out' : Option (List ℕ)) → Result Status RunStop → SessionRun
run_of known log log' out out' ended =
    record { known = known; log = log; log' = log'; out = out; out' = out'; ended = ended }

-- ---- from a configuration on

module _ {L : Type 0} (m : Meaning L) (c : Configuration L) (known log log' out out' : Option (List ℕ)) where
  pub unkept : (r : Result (Configuration L) RunStop) (ended : Result Status RunStop) → ended ≡ status_of r
      → IfOk r (λ left. (text : List ℕ) × IsReadWhole known text × (left ≡ (course m None c text).config)
      × IsDone None (course m None c text).exchanges log log' out out')
      → OnErr r ((text : List ℕ) × IsReadWhole known text
      × IsCutShort None (course m None c text).exchanges log log' out out')
      → HoldsUnkept m c (run_of known log log' out out' ended)
  unkept (Ok left) ended is (text, whole, same, all) stopped =
      subst (λ e. HoldsUnkept m c (run_of known log log' out out' e)) (sym is)
      (record { done = (refl, text, whole, all); cut = tt })
  unkept (Err stop) ended is done stopped =
      subst (λ e. HoldsUnkept m c (run_of known log log' out out' e)) (sym is) (record { done = tt; cut = stopped })

  pub new : (r : Result (Configuration L) RunStop) (ended : Result Status RunStop) → ended ≡ status_of r
      → IfOk r (HasBegun m c known log log' out out') → OnErr r (IsCutAtBeginning m c known log log' out out')
      → HoldsNew m c (run_of known log log' out out' ended)
  new (Ok left) ended is begun stopped =
      subst (λ e. HoldsNew m c (run_of known log log' out out' e)) (sym is)
      (record { done = (refl, left, begun); cut = tt })
  new (Err stop) ended is begun stopped =
      subst (λ e. HoldsNew m c (run_of known log log' out out' e)) (sym is) (record { done = tt; cut = stopped })

  pub without_past : (past mid : Option (List ℕ)) (f : ReaderFault) (ended : Result Status RunStop)
      → IsNoPast m c past log log' out mid f → Leaves (IsPastOutput f) mid out' ended
      → HoldsKept m c past (run_of known log log' out out' ended)
  without_past past mid f ended none left =
      no_past none.text f none.whole none.found none.log_is
      (kept_leaves (IsPastOutput f) out mid out' ended none.out_is left)

-- ---- on a network

module _ {L : Type 0} (m : Meaning L) (g : Graph) (modulus : ℕ) (Follows : Configuration L → SessionRun → Type 0)
    (known log out out' : Option (List ℕ)) (ended : Result Status RunStop) where
  pub unstarted : (text : List ℕ) (f : StartFault) → (f ≢ start.NoMemory → IsStartFault m g text f)
      → Leaves (λ o. (f ≢ start.NoMemory) × (o ≡ (start_fault_text f, BadInput))) out out' ended
      → HoldsOn m g modulus (Some text) Follows (run_of known log log out out' ended)
  unstarted text f bad left =
      bad_snapshot text refl (Keeps-refl log)
      (leaves_weaker (λ o. (f ≢ start.NoMemory) × (o ≡ (start_fault_text f, BadInput)))
      (λ o. (f : StartFault) × IsStartFault m g text f × (o ≡ (start_fault_text f, BadInput))) out out' ended
      (λ o is. (f, bad is.0, is.1)) left)
