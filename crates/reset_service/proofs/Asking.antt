-- What a history is answered with of which more is asked than what it comes to.
use Rattle.std.proofs.Common.{◌≡◌, ◌≢◌, ℕ, zero, suc, ◌<◌, ◌≤◌, [], ◌∷◌, ◌++◌, ◌∙◌, Bool, true, false, if◌then◌else◌, nat_lt, List, None, Some, IsSome}
use Rattle.std.proofs.Common.{Option, Ok, Err, Result, ap, arith, length, ltb-false, ltb-true, refl, subst, take}
use Rattle.std.proofs.lemmas.List.{take_all}
use Rattle.reset_model.specs.Configuration.{Configuration}
use Rattle.applications.specs.Meaning.{Meaning}
use Rattle.history.specs.Entries.{replayed}
use Rattle.history.specs.Verdict.{IsJudgementOf, IsVerdict}
use Rattle.history.specs.declared.text.BookFault.{BookFault}
use Rattle.history.specs.declared.text.BookFault.TheVariants as book
use Rattle.history.specs.declared.verification.JudgeFault.{JudgeFault}
use Rattle.history.specs.declared.verification.JudgeFault.TheVariants as judge
use Rattle.history.specs.declared.verification.ReaderFault.TheVariants.{OtherModulus, Text}
use Rattle.history.specs.declared.verification.Refused.{Refused}
use Rattle.history.specs.declared.verification.Resumed.{Resumed}
use Rattle.script_replay.specs.Output.{snapshot_text}
use Rattle.script_replay.specs.declared.status.Status.{Status}
use Rattle.script_replay.specs.declared.status.Status.TheVariants.{BadInput, Good, NotEnabled}
use Rattle.reset_service.specs.Asked.{IsAnswered, allowed_output, asked_of, asked_reason, ends_after_text, left_output}
use Rattle.reset_service.specs.Asked.IsAnswered.{no_history, not_enabled, situated, too_few, verified}
use Rattle.reset_service.specs.Verified.{bad_history_text, not_enabled_text, other_modulus_text}
use Rattle.reset_service.specs.declared.asked.Question.{Question}
use Rattle.reset_service.proofs.Verifying.{of_no_history, of_other_modulus, of_summary}

abbrev Output : Type 0
Output = List ℕ × Status

-- the first of a list are at most as many as it has
taken_few : {X : Type 0} (n : ℕ) (xs : List X) → length (take n xs) ≤ length xs
taken_few zero xs = omega arith
taken_few (suc n) [] = omega arith
taken_few (suc n) (x ∷ xs) = let rest = taken_few n xs in omega (arith, rest)

-- and where they are fewer than were asked for, they are all
taken_all : {X : Type 0} (n : ℕ) (xs : List X) → length (take n xs) < n → length xs < n
taken_all zero xs few = absurd (omega (arith, few))
taken_all (suc n) [] few = omega arith
taken_all (suc n) (x ∷ xs) few = let rest = taken_all n xs (omega (arith, few)) in omega (arith, rest)

module _ {L : Type 0} (q : Question) (m : Meaning L) (c : Configuration L) (text : List ℕ) where
  bad : (o : Output) (written : List ℕ) → o ≡ (written, BadInput) → o.1 ≡ BadInput
  bad o written is = ap (λ (p : Output). p.1) is

  pub of_other : (modulus : ℕ) (o : Output) → IsVerdict m.app m.from_text c text (Err (OtherModulus modulus))
      → o ≡ (other_modulus_text modulus, BadInput) → IsAnswered q m c text o
  of_other modulus o verdict is = no_history (of_other_modulus m c text modulus o verdict is) (bad o _ is)

  pub of_bad_text : (f : BookFault) (o : Output) → f ≢ book.NoMemory → f ≢ book.ReadFailed
      → IsVerdict m.app m.from_text c text (Err (Text f)) → o ≡ (bad_history_text f, BadInput) → IsAnswered q m c text o
  of_bad_text f o memory device verdict is =
      no_history (of_no_history m c text f o memory device verdict is) (bad o _ is)

  module _ {P : Type 0} where
    abbrev IsJudgedHere : Result (Resumed P L) (JudgeFault P L) → Type 0
    IsJudgedHere = IsJudgementOf (asked_of q.at) m.app m.from_text c text

    pub of_refusal : (r : Refused P L) (o : Output) → IsJudgedHere (Err (judge.Refused r))
        → o ≡ (not_enabled_text r.position ++ asked_reason q.why m r.config r.entry, NotEnabled) → IsAnswered q m c text o
    of_refusal r o judged is =
        let (es, read, refusal) = judged in
        not_enabled es r.position r.entry r.config read refusal is

    -- of the first n entries
    of_first : (n : ℕ) (r : Resumed P L) (o : Output) → q.at ≡ Some n
        → IsJudgementOf (take n) m.app m.from_text c text (Ok r)
        → o ≡ left_output m n r.summary.entries r.config → IsAnswered q m c text o
    of_first n r o at (es, read, is_left) is = by_count (nat_lt r.summary.entries n) refl
      where
        counted : r.summary.entries ≡ length (take n es)
        counted = is_left.summary.entries

        by_count : (b : Bool) → nat_lt r.summary.entries n ≡ b → IsAnswered q m c text o
        by_count true fewer =
            let few : r.summary.entries < n = ltb-true r.summary.entries n fewer in
            let short : length es < n = taken_all n es (omega (arith, few, counted)) in
            let all : take n es ≡ es = take_all n es (omega (arith, short)) in
            let count : r.summary.entries ≡ length es = counted ∙ ap length all in
            too_few n es at read short
            (subst (λ l. IsSome (replayed m.app m.from_text c l)) all is_left.summary.allowed)
            (is ∙ ap (λ b. if b then (ends_after_text r.summary.entries, BadInput) else (snapshot_text m r.config, Good)) fewer
            ∙ ap (λ k. (ends_after_text k, BadInput)) count)
        by_count false enough =
            situated n es r.config at read (omega (arith, ltb-false r.summary.entries n enough, counted, taken_few n es))
            is_left.left_is
            (is ∙ ap (λ b. if b then (ends_after_text r.summary.entries, BadInput) else (snapshot_text m r.config, Good)) enough)

    pub of_allowed : (r : Resumed P L) (o : Output) → IsJudgedHere (Ok r)
        → o ≡ allowed_output m q.at r.summary.entries r.summary.reports.items r.config → IsAnswered q m c text o
    of_allowed r o judged is = by_asked q.at refl judged is
      where
        by_asked : (at : Option ℕ) → q.at ≡ at → IsJudgementOf (asked_of at) m.app m.from_text c text (Ok r)
            → o ≡ allowed_output m at r.summary.entries r.summary.reports.items r.config → IsAnswered q m c text o
        by_asked None at (es, read, is_left) is =
            verified at (of_summary m c text r.summary o (es, read, is_left.summary) is) (ap (λ (p : Output). p.1) is)
        by_asked (Some n) at judged is = of_first n r o at judged is
