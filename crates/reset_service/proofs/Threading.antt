-- What a run of node threads comes to, and what it leaves to its two writers.
use Rattle.std.proofs.Common.{◌≡◌, ◌≤◌, ℕ, suc, true, List, [], ◌∷◌, Option, Result, Ok, Err}
use Rattle.std.proofs.Common.{IfOk, IsSome, length, refl, ap, ◌∙◌, subst, inl, inr}
use Rattle.std.specs.Prelude.{IsErrAnd}
use Rattle.std.specs.List.{list_all}
use Rattle.std.specs.Io.KnownBytes.{Appends}
use Rattle.std.proofs.KnownBytes.{Keeps-refl}
use Rattle.action_tables.specs.Written.{AppendsPrefix}
use Rattle.reset_model.specs.declared.event.Event.{Event}
use Rattle.reset_model.specs.Configuration.{Configuration}
use Rattle.applications.specs.Meaning.{Meaning}
use Rattle.history.specs.Entries.{replayed}
use Rattle.history.specs.HistoryText.{IsReadAs}
use Rattle.history.specs.Reports.{reports_of}
use Rattle.history.specs.Stretches.{steps}
use Rattle.history.specs.Verdict.{IsVerdict}
use Rattle.history.specs.declared.entry.Entry.{Entry}
use Rattle.history.specs.declared.entry.Entry.TheVariants.{Step, Disturbed}
use Rattle.history.specs.declared.entry.Summary.{Summary}
use Rattle.history.specs.declared.text.BookFault.{BookFault}
use Rattle.node_threads.specs.Locked.{is_step}
use Rattle.script_replay.specs.Stops.{IsRunStop}
use Rattle.reset_service.specs.Threaded.{IsKept, LeavesBoth, threads_line}
use Rattle.reset_service.specs.Threaded.{told_history, told_output}
use Rattle.reset_service.specs.Threaded.IsKept.{kept}
use Rattle.script_replay.specs.declared.status.RunStop.{RunStop}
use Rattle.script_replay.specs.declared.status.RunStop.TheVariants.{ReadFailed, WriteFailed, NoMemory}
use Rattle.script_replay.specs.declared.status.RunStop.TheVariants.{ThreadFailed, NotClosed}
use Rattle.script_replay.specs.declared.status.Status.{Status}
use Rattle.script_replay.specs.declared.status.Status.TheVariants.{Good}
use Rattle.reset_service.specs.declared.told.Told.{Told}

abbrev Output : Type 0
Output = List ℕ × Status

-- said of a value that is there
pub ok_weaker : {T E : Type 0} (r : Result T E) (P Q : T → Type 0) → ((t : T) → P t → Q t) → IfOk r P → IfOk r Q
ok_weaker (Ok t) P Q f h = f t h
ok_weaker (Err e) P Q f h = tt

-- ---- entries of which none is a fault

pub steps_of : (es : List Entry) → list_all is_step es ≡ true → (events : List Event) × (es ≡ steps events)
steps_of [] all = ([], refl)
steps_of (Step e ∷ es) all =
    let rest = steps_of es all in (e ∷ rest.0, ap (λ xs. Step e ∷ xs) rest.1)
steps_of (Disturbed f ∷ es) all = absurd (cc)

steps_count : (events : List Event) → length (steps events) ≡ length events
steps_count [] = refl
steps_count (e ∷ es) = ap (λ n. suc n) (steps_count es)

-- ---- what a verdict on a history that was kept says

-- no text has two readings
abbrev pub OneReading : Type 0
OneReading =
    (text : List ℕ) (r s : Result (ℕ × List Entry) BookFault) → IsReadAs text r → IsReadAs text s → r ≡ s

pub same_entries : OneReading → (text : List ℕ) (m n : ℕ) (ds es : List Entry) → IsReadAs text (Ok (m, ds))
    → IsReadAs text (Ok (n, es)) → ds ≡ es
same_entries reading text m n ds es one other =
    let same : ◌≡◌ {A = Result (ℕ × List Entry) BookFault} (Ok (m, ds)) (Ok (n, es)) =
    reading text (Ok (m, ds)) (Ok (n, es)) one other in
    let both : ◌≡◌ {A = ℕ × List Entry} (m, ds) (n, es) = cc in
    ap (λ (b : ℕ × List Entry). b.1) both

module _ {L : Type 0} (m : Meaning L) (c : Configuration L) where
  pub kept_by : OneReading → (text : List ℕ) (modulus : ℕ) (es : List Entry) (s : Summary)
      → length c.graph.nodes ≤ 64 → IsReadAs text (Ok (modulus, es)) → list_all is_step es ≡ true
      → IsVerdict m.app m.from_text c text (Ok s)
      → (nodes reports : ℕ) → nodes ≡ length c.graph.nodes → reports ≡ length s.reports.items
      → IsKept m c text (threads_line nodes s.entries reports, Good)
  kept_by reading text modulus es s few read all (ds, other, sum) nodes reports n r =
      let same : ◌≡◌ {A = Result (ℕ × List Entry) BookFault} (Ok (c.modulus, ds)) (Ok (modulus, es)) =
      reading text (Ok (c.modulus, ds)) (Ok (modulus, es)) other read in
      let book : ◌≡◌ {A = ℕ × List Entry} (c.modulus, ds) (modulus, es) = cc in
      let entries : ds ≡ es = ap (λ (b : ℕ × List Entry). b.1) book in
      let made = steps_of es all in
      let is : ds ≡ steps made.0 = entries ∙ made.1 in
      kept made.0 few (subst (λ xs. IsReadAs text (Ok (c.modulus, xs))) is other)
      (subst (λ xs. IsSome (replayed m.app m.from_text c xs)) is sum.allowed)
      (ap (λ k. (threads_line k s.entries reports, Good)) n
      ∙ ap (λ k. (threads_line (length c.graph.nodes) k reports, Good))
      (sum.entries ∙ ap length is ∙ steps_count made.0)
      ∙ ap (λ k. (threads_line (length c.graph.nodes) (length made.0) k, Good))
      (r ∙ ap length sum.reports ∙ ap (λ xs. length (reports_of m.app m.from_text c xs)) is))

-- ---- what is left to the two writers

module _ (O : List ℕ → Output → Type 0) where
  -- nothing, where the threads gave nothing to tell
  pub both_kept : (a b : Option (List ℕ)) (s : RunStop) → IsRunStop s → LeavesBoth O a a b b (Err s)
  both_kept a b ReadFailed is = absurd is
  both_kept a b WriteFailed is = absurd is
  both_kept a b NoMemory is = (Keeps-refl a, Keeps-refl b)
  both_kept a b ThreadFailed is = (Keeps-refl a, Keeps-refl b)
  both_kept a b NotClosed is = (Keeps-refl a, Keeps-refl b)

  -- a prefix of the history
  pub cut_history : (told : Told) (a d b : Option (List ℕ)) (r : Result Status RunStop)
      → IsErrAnd r (λ s. s ≡ WriteFailed) → O (told_history told) (told_output told)
      → AppendsPrefix a d (told_history told) → LeavesBoth O a d b b r
  cut_history told a d b (Ok s) is o prefix = absurd is
  cut_history told a d b (Err ReadFailed) is o prefix = absurd (cc)
  cut_history told a d b (Err WriteFailed) is o prefix =
      (told_history told, told_output told, o, inl (prefix, Keeps-refl b))
  cut_history told a d b (Err NoMemory) is o prefix = absurd (cc)
  cut_history told a d b (Err ThreadFailed) is o prefix = absurd (cc)
  cut_history told a d b (Err NotClosed) is o prefix = absurd (cc)

  -- the history, and a prefix of the line
  pub cut_line : (told : Told) (a d b e : Option (List ℕ)) (r : Result Status RunStop)
      → IsErrAnd r (λ s. s ≡ WriteFailed) → O (told_history told) (told_output told)
      → Appends a d (told_history told) → AppendsPrefix b e (told_output told).0 → LeavesBoth O a d b e r
  cut_line told a d b e (Ok s) is o wrote prefix = absurd is
  cut_line told a d b e (Err ReadFailed) is o wrote prefix = absurd (cc)
  cut_line told a d b e (Err WriteFailed) is o wrote prefix =
      (told_history told, told_output told, o, inr (wrote, prefix))
  cut_line told a d b e (Err NoMemory) is o wrote prefix = absurd (cc)
  cut_line told a d b e (Err ThreadFailed) is o wrote prefix = absurd (cc)
  cut_line told a d b e (Err NotClosed) is o wrote prefix = absurd (cc)
