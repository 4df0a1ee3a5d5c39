-- What a check writes, and then the verdicts.
use Rattle.std.proofs.Common.{◌≡◌, ◌≢◌, inl, inr, ℕ, ◌≤◌, Bool, true, false, cond, List, ◌++◌, Option, Result, Ok, Err}
use Rattle.std.proofs.Common.{IfOk, IfErr, length, refl, ap, subst, ◌∙◌, arith, nat_lt}
use Rattle.std.specs.Prelude.{OnErr}
use Rattle.std.specs.List.{flat_map}
use Rattle.std.specs.Io.KnownBytes.{Appends}
use Rattle.std.proofs.KnownBytes.{Appends-trans}
use Rattle.action_tables.specs.Written.{AppendsPrefix}
use Rattle.action_tables.proofs.Prefixes.{AppendsPrefix-first, AppendsPrefix-then}
use Rattle.app_invariants.specs.Verdicts.{verdicts_of}
use Rattle.reset_model.specs.Configuration.{Configuration}
use Rattle.applications.specs.Meaning.{Meaning}
use Rattle.script_replay.specs.Lines.{lines_of}
use Rattle.script_replay.specs.Output.{HasPrefix, Leaves, answers, output_for, script_output, too_long_text}
use Rattle.script_replay.specs.Stops.{IsOutputStop}
use Rattle.script_replay.specs.declared.status.Purpose.TheVariants as purpose
use Rattle.script_replay.specs.declared.status.RunStop.{RunStop}
use Rattle.script_replay.specs.declared.status.RunStop.TheVariants.{ReadFailed, WriteFailed, NoMemory, ThreadFailed, NotClosed}
use Rattle.script_replay.specs.declared.status.Status.{Status}
use Rattle.script_replay.specs.declared.status.Status.TheVariants.{Good, FaultsFound, NotEnabled, BadInput}
use Rattle.script_replay.proofs.Runs.{leaves_stop}
use Rattle.script_replay.specs.VerdictText.{Judged, verdict_line}
use Rattle.reset_service.specs.Whole.{after_check, all_hold}

abbrev Output : Type 0
Output = List ℕ × Status

-- ---- an output, and what follows it by its status

module _ (o : Output) (follows : Status → Output) where
  abbrev both : Output
  both = (o.0 ++ (follows o.1).0, (follows o.1).1)

  -- where the first was cut short, both are
  pub cut : (old new : Option (List ℕ)) (s : RunStop) → Leaves (λ x. x ≡ o) old new (Err s)
      → Leaves (λ x. x ≡ both) old new (Err s)
  cut old new s left = go s left
    where
      more : HasPrefix (λ x. x ≡ o) old new → HasPrefix (λ x. x ≡ both) old new
      more (out, is, prefix) =
          let P : List ℕ → Type 0 = λ l. AppendsPrefix old new l in
          (both, refl, AppendsPrefix-first old new o.0 (follows o.1).0 (subst P (ap (λ (x : Output). x.0) is) prefix))

      go : (s : RunStop) → Leaves (λ x. x ≡ o) old new (Err s) → Leaves (λ x. x ≡ both) old new (Err s)
      go ReadFailed h = h
      go WriteFailed h = more h
      go NoMemory (inl h) = inl h
      go NoMemory (inr h) = inr (more h)
      go ThreadFailed h = h
      go NotClosed h = h

  -- the first, and then the second
  pub followed : (old mid new : Option (List ℕ)) (first : Status) (r : Result Status RunStop)
      → Leaves (λ x. x ≡ o) old mid (Ok first)
      → IfOk r (λ s. (s ≡ (follows first).1) × Appends mid new (follows first).0)
      → OnErr r (AppendsPrefix mid new (follows first).0) → IfErr r IsOutputStop
      → Leaves (λ x. x ≡ both) old new r
  followed old mid new first r (written, is, wrote) = go r
    where
      last_is : follows first ≡ follows o.1
      last_is = ap (λ (x : Output). follows x.1) is

      before : Appends old mid o.0
      before = let P : List ℕ → Type 0 = λ l. Appends old mid l in subst P (ap (λ (x : Output). x.0) is) wrote

      go : (r : Result Status RunStop) → IfOk r (λ s. (s ≡ (follows first).1) × Appends mid new (follows first).0)
          → OnErr r (AppendsPrefix mid new (follows first).0) → IfErr r IsOutputStop
          → Leaves (λ x. x ≡ both) old new r
      go (Ok s) ok err other =
          let P : List ℕ → Type 0 = λ l. Appends mid new l in (
            o.0 ++ (follows o.1).0,
            ap (λ (t : Status). (o.0 ++ (follows o.1).0, t)) (ok.0 ∙ ap (λ (x : Output). x.1) last_is),
            Appends-trans old mid new o.0 (follows o.1).0 before (subst P (ap (λ (x : Output). x.0) last_is) ok.1),
          )
      go (Err s) ok err other =
          let P : List ℕ → Type 0 = λ l. AppendsPrefix mid new l in
          leaves_stop (λ x. x ≡ both) old new s other (
            both,
            refl,
            AppendsPrefix-then old mid new o.0 (follows o.1).0 before (subst P (ap (λ (x : Output). x.0) last_is) err),
          )

-- ---- the verdicts

-- what follows a check whose input wasn't bad
pub good_follows : (verdicts : List Judged) (s : Status) → s ≢ BadInput
    → after_check verdicts s ≡ (flat_map verdict_line verdicts, cond (all_hold verdicts) s FaultsFound)
good_follows verdicts Good good = refl
good_follows verdicts FaultsFound good = refl
good_follows verdicts NotEnabled good = refl
good_follows verdicts BadInput good = absurd (good refl)

-- what follows a check is by what its lines leave, which is the configuration then
pub same_follows : {L : Type 0} (m : Meaning L) (repairs : Bool) (c after : Configuration L) (script : List ℕ)
    (old new : Option (List ℕ)) (s : Status)
    → Leaves (λ x. x ≡ script_output m (purpose.Check repairs) c script) old new (Ok s)
    → (length script ≤ 1048576 → after ≡ (answers m c 1 (lines_of script)).config)
    → after_check (verdicts_of m.counts m.app after) s
    ≡ after_check (verdicts_of m.counts m.app (answers m c 1 (lines_of script)).config) s
same_follows {L} m repairs c after script old new s (written, is, wrote) same =
    at (nat_lt 1048576 (length script)) refl
  where
    at : (b : Bool) → nat_lt 1048576 (length script) ≡ b
        → after_check (verdicts_of m.counts m.app after) s
        ≡ after_check (verdicts_of m.counts m.app (answers m c 1 (lines_of script)).config) s
    at true long =
        let judged : Bool → Output =
        λ b. cond b (too_long_text, BadInput) (output_for m (purpose.Check repairs) (answers m c 1 (lines_of script))) in
        let bad : s ≡ BadInput = ap (λ (x : Output). x.1) (is ∙ ap judged long) in
        rw bad refl
    at false short =
        ap (λ (d : Configuration L). after_check (verdicts_of m.counts m.app d) s)
        (same (grind (arith, short)))
