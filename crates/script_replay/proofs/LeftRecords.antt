-- What a recording leaves to its two writers, and that there is one, whose output is that of a replay.
use Rattle.std.proofs.Common.{◌≡◌, ◌∙◌, ℕ, List, [], Option, Result, Ok, Err, IfErr, arith, ap, inl, inr, refl, sym}
use Rattle.std.proofs.Common.{subst, subst₂}
use Rattle.std.specs.Prelude.{IsErrAnd}
use Rattle.std.specs.Io.KnownBytes.{Appends, Keeps}
use Rattle.std.proofs.KnownBytes.{Appends-kept, Appends-nil, Keeps-refl}
use Rattle.action_tables.specs.Written.{AppendsPrefix}
use Rattle.topology.specs.Graph.{Graph}
use Rattle.topology.specs.TopologyText.{IsReadFault}
use Rattle.topology.specs.declared.text.AppName.{AppName}
use Rattle.topology.specs.declared.text.ReadFault.{ReadFault}
use Rattle.reset_model.specs.Configuration.{Configuration}
use Rattle.reset_model.proofs.OneBoot.{one_boot}
use Rattle.applications.specs.Meaning.{Meaning}
use Rattle.applications.proofs.Choosing.{agree, follows}
use Rattle.history.specs.HistoryText.{history_text}
use Rattle.script_replay.specs.Output.{Describes, IsJudged, IsOutput, IsReplay, IsReplayOf, Leaves, bad_topology_text}
use Rattle.script_replay.specs.Output.IsJudged.{bad_topology, good_topology}
use Rattle.script_replay.specs.Output.IsReplay.{replayed}
use Rattle.script_replay.specs.Recorded.{IsHistory, IsRecord, IsRecordFrom, IsRecordOf, IsRecorded, LeavesRecord}
use Rattle.script_replay.specs.Recorded.IsHistory.{kept, too_long}
use Rattle.script_replay.specs.Stops.{IsInputStop, IsOutputStop}
use Rattle.script_replay.specs.declared.status.Purpose.TheVariants as purposes
use Rattle.script_replay.specs.declared.status.RunStop.{RunStop}
use Rattle.script_replay.specs.declared.status.RunStop.TheVariants.{ReadFailed, WriteFailed, NoMemory}
use Rattle.script_replay.specs.declared.status.RunStop.TheVariants.{ThreadFailed, NotClosed}
use Rattle.script_replay.specs.declared.status.Status.{Status}
use Rattle.script_replay.specs.declared.status.Status.TheVariants.{BadInput}
use Rattle.script_replay.proofs.OneOutput.{bad_or_good, one_description, one_read_fault}

abbrev Output : Type 0
Output = List ℕ × Status

-- ---- what is left to the two writers

-- nothing was written yet
front : (a b : Option (List ℕ)) (text : List ℕ) → Keeps a b → AppendsPrefix a b text
front a b text keeps =
    record { prefix = []; rest = text; cut = refl; appended = Appends-kept a a b [] (Appends-nil a) keeps }

module _ (R : List ℕ → Output → Type 0) where
  -- a reading was cut short, before anything was written
  pub record_unread : (a b : Option (List ℕ)) (s : RunStop) → IsInputStop s → LeavesRecord R a a b b (Err s)
  record_unread a b ReadFailed is = (Keeps-refl a, Keeps-refl b)
  record_unread a b WriteFailed is = absurd is
  record_unread a b NoMemory is = inl (Keeps-refl a, Keeps-refl b)
  record_unread a b ThreadFailed is = absurd is
  record_unread a b NotClosed is = absurd is

  -- memory was wanting before anything was written
  pub record_wanting : (a b : Option (List ℕ)) (r : Result Status RunStop) → IsErrAnd r (λ s. s ≡ NoMemory)
      → LeavesRecord R a a b b r
  record_wanting a b (Ok s) is = absurd is
  record_wanting a b (Err ReadFailed) is = absurd (cc)
  record_wanting a b (Err WriteFailed) is = absurd (cc)
  record_wanting a b (Err NoMemory) is = inl (Keeps-refl a, Keeps-refl b)
  record_wanting a b (Err ThreadFailed) is = absurd (cc)
  record_wanting a b (Err NotClosed) is = absurd (cc)

  -- the writing of the history failed
  pub record_cut : (history : List ℕ) (output : Output) (a d b : Option (List ℕ)) (r : Result Status RunStop)
      → IsErrAnd r (λ s. s ≡ WriteFailed) → R history output → AppendsPrefix a d history → LeavesRecord R a d b b r
  record_cut history output a d b (Ok s) is o prefix = absurd is
  record_cut history output a d b (Err ReadFailed) is o prefix = absurd (cc)
  record_cut history output a d b (Err WriteFailed) is o prefix =
      inl (history, output, o, prefix, Keeps-refl b)
  record_cut history output a d b (Err NoMemory) is o prefix = absurd (cc)
  record_cut history output a d b (Err ThreadFailed) is o prefix = absurd (cc)
  record_cut history output a d b (Err NotClosed) is o prefix = absurd (cc)

  -- the history was written, and then the replay
  pub record_replayed : (history : List ℕ) (output : Output) (a d b e : Option (List ℕ)) (r : Result Status RunStop)
      → R history output → Appends a d history → IfErr r IsOutputStop → Leaves (λ o. o ≡ output) b e r
      → LeavesRecord R a d b e r
  record_replayed history output a d b e (Ok s) o wrote other (written, is, text) =
      (history, written, subst (R history) (sym is) o, wrote, text)
  record_replayed history output a d b e (Err ReadFailed) o wrote other left = absurd other
  record_replayed history output a d b e (Err WriteFailed) o wrote other (p, is, prefix) =
      inr (history, p, subst (R history) (sym is) o, wrote, prefix)
  record_replayed history output a d b e (Err NoMemory) o wrote other (inl keeps) =
      inr (history, output, o, wrote, front b e output.0 keeps)
  record_replayed history output a d b e (Err NoMemory) o wrote other (inr (p, is, prefix)) =
      inr (history, p, subst (R history) (sym is) o, wrote, prefix)
  record_replayed history output a d b e (Err ThreadFailed) o wrote other left = absurd other
  record_replayed history output a d b e (Err NotClosed) o wrote other left = absurd other

  -- there is no history, and this was written
  pub record_alone : (O : Output → Type 0) → ((o : Output) → O o → R [] o) → (a b e : Option (List ℕ))
      (r : Result Status RunStop) → IfErr r IsOutputStop → Leaves O b e r → LeavesRecord R a a b e r
  record_alone O f a b e (Ok s) other (written, is, text) = ([], written, f (written, s) is, Appends-nil a, text)
  record_alone O f a b e (Err ReadFailed) other left = absurd other
  record_alone O f a b e (Err WriteFailed) other (o, is, prefix) = inr ([], o, f o is, Appends-nil a, prefix)
  record_alone O f a b e (Err NoMemory) other (inl keeps) = inl (Keeps-refl a, keeps)
  record_alone O f a b e (Err NoMemory) other (inr (o, is, prefix)) = inr ([], o, f o is, Appends-nil a, prefix)
  record_alone O f a b e (Err ThreadFailed) other left = absurd other
  record_alone O f a b e (Err NotClosed) other left = absurd other

-- said of other records
pub record_weaker : (R S : List ℕ → Output → Type 0) (a d b e : Option (List ℕ)) (r : Result Status RunStop)
    → ((h : List ℕ) (o : Output) → R h o → S h o) → LeavesRecord R a d b e r → LeavesRecord S a d b e r
record_weaker R S a d b e (Ok s) f (h, w, is, wrote, text) = (h, w, f h (w, s) is, wrote, text)
record_weaker R S a d b e (Err ReadFailed) f left = left
record_weaker R S a d b e (Err WriteFailed) f (inl (h, o, is, prefix, keeps)) = inl (h, o, f h o is, prefix, keeps)
record_weaker R S a d b e (Err WriteFailed) f (inr (h, o, is, wrote, prefix)) = inr (h, o, f h o is, wrote, prefix)
record_weaker R S a d b e (Err NoMemory) f (inl left) = inl left
record_weaker R S a d b e (Err NoMemory) f (inr (h, o, is, wrote, prefix)) = inr (h, o, f h o is, wrote, prefix)
record_weaker R S a d b e (Err ThreadFailed) f left = left
record_weaker R S a d b e (Err NotClosed) f left = left

-- ---- a topology is judged first

pub recorded : (topology script : List ℕ) (g : Graph) (app : AppName) (modulus : ℕ) → Describes topology g app modulus
    → (h : List ℕ) (o : Output) → IsRecordOf app g modulus script h o → IsRecorded topology script h o
recorded topology script g app modulus describes h o is = record {
  judged = good_topology g app modulus describes is;
  unkept = λ f bad. absurd (bad_or_good topology f g app modulus bad describes);
}

pub unrecorded : (topology script : List ℕ) (f : ReadFault) → IsReadFault topology f → (o : Output)
    → o ≡ (bad_topology_text f, BadInput) → IsRecorded topology script [] o
unrecorded topology script f bad o is = record { judged = bad_topology f bad is; unkept = λ e other. refl }

-- ---- what is written is what a replay writes

replay_from : {L : Type 0} (m : Meaning L) (g : Graph) (modulus : ℕ) (script h : List ℕ) (o : Output)
    → IsRecordFrom m g modulus script h o → IsReplay m purposes.Replay g modulus script o
replay_from m g modulus script h o (c, boot, is) = replayed c boot is.output_is

replay_of : (app : AppName) (g : Graph) (modulus : ℕ) (script h : List ℕ) (o : Output)
    → IsRecordOf app g modulus script h o → IsReplayOf app purposes.Replay g modulus script o
replay_of app g modulus script h o =
    follows (λ L m. IsRecordFrom m g modulus script h o) (λ L m. IsReplay m purposes.Replay g modulus script o)
    (λ L m. replay_from m g modulus script h o) app

pub recordings_replay : (topology script h : List ℕ) (o : Output) → IsRecorded topology script h o
    → IsOutput purposes.Replay topology script o
recordings_replay topology script h o is = go is.judged
  where
    go : IsJudged (λ app g modulus. IsRecordOf app g modulus script h) topology o
        → IsOutput purposes.Replay topology script o
    go (bad_topology f bad is) = bad_topology f bad is
    go (good_topology g app modulus describes is) =
        good_topology g app modulus describes (replay_of app g modulus script h o is)

-- ---- there is one record

abbrev AreOne : (h k : List ℕ) → (o p : Output) → Type 0
AreOne h k o p = (h ≡ k) × (o ≡ p)

one_history : {L : Type 0} (m : Meaning L) (c : Configuration L) (script h k : List ℕ) → IsHistory m c script h
    → IsHistory m c script k → h ≡ k
one_history m c script h k (too_long long is) (too_long long' is') = is ∙ sym is'
one_history m c script h k (too_long long is) (kept es short are allowed read text) =
    absurd (omega (arith, long, short))
one_history m c script h k (kept es short are allowed read text) (too_long long is) =
    absurd (omega (arith, long, short))
one_history m c script h k (kept es short are allowed read text) (kept ds short' are' allowed' read' text') =
    text ∙ ap (history_text c.modulus) (are ∙ sym are') ∙ sym text'

one_from : {L : Type 0} (m : Meaning L) (g : Graph) (modulus : ℕ) (script h k : List ℕ) (o p : Output)
    → IsRecordFrom m g modulus script h o → IsRecordFrom m g modulus script k p → AreOne h k o p
one_from m g modulus script h k o p (c, boot, is) (d, other, is') =
    let same : IsRecord m d script h o =
    subst (λ x. IsRecord m x script h o) (one_boot m.app g modulus c d boot other) is in (
      one_history m d script h k same.history_is is'.history_is,
      same.output_is ∙ sym is'.output_is,
    )

one_of : (app : AppName) (g : Graph) (modulus : ℕ) (script h k : List ℕ) (o p : Output)
    → IsRecordOf app g modulus script h o → IsRecordOf app g modulus script k p → AreOne h k o p
one_of app g modulus script h k o p =
    agree (λ L m. IsRecordFrom m g modulus script h o) (λ L m. IsRecordFrom m g modulus script k p) (AreOne h k o p)
    (λ L m. one_from m g modulus script h k o p) app

pub one_recorded : (topology script h k : List ℕ) (o p : Output) → IsRecorded topology script h o
    → IsRecorded topology script k p → AreOne h k o p
one_recorded topology script h k o p a b = go a.judged b.judged
  where
    go : IsJudged (λ app g modulus. IsRecordOf app g modulus script h) topology o
        → IsJudged (λ app g modulus. IsRecordOf app g modulus script k) topology p → AreOne h k o p
    go (bad_topology f bad is) (bad_topology e other is') = (
      a.unkept f bad ∙ sym (b.unkept e other),
      is ∙ ap (λ x. (bad_topology_text x, BadInput)) (one_read_fault topology f e bad other) ∙ sym is',
    )
    go (bad_topology f bad is) (good_topology g app modulus good follows) =
        absurd (bad_or_good topology f g app modulus bad good)
    go (good_topology g app modulus good follows) (bad_topology f bad is) =
        absurd (bad_or_good topology f g app modulus bad good)
    go (good_topology g app modulus good follows) (good_topology i other another good' follows') =
        let same = one_description topology g i app other modulus another good good' in
        one_of other i another script h k o p
        (subst (λ x. IsRecordOf other i x script h o) same.2
        (subst₂ (λ x y. IsRecordOf y x modulus script h o) same.0 same.1 follows)) follows'
