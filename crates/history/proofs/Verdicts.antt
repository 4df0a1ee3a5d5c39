-- A text has one verdict.
use Rattle.std.proofs.Common.{◌≡◌, ◌≢◌, ℕ, List, Option, Some, IsSome, Result, Ok, Err, length, sym, ap, subst}
use Rattle.app_interface.specs.Application.{App}
use Rattle.reset_model.specs.Configuration.{Configuration}
use Rattle.history.specs.declared.entry.Entry.{Entry}
use Rattle.history.specs.declared.entry.Report.{Report}
use Rattle.history.specs.declared.entry.Summary.{Summary}
use Rattle.history.specs.declared.entry.VerifyFault.TheVariants.{NotEnabledAt}
use Rattle.history.specs.declared.entry.VerifyFault.TheVariants as verify
use Rattle.history.specs.declared.text.BookFault.{BookFault}
use Rattle.history.specs.declared.text.BookFault.TheVariants.{BadLine, BadVersion, TooLong, NoMemory, ReadFailed}
use Rattle.history.specs.declared.verification.ReaderFault.{ReaderFault}
use Rattle.history.specs.declared.verification.ReaderFault.TheVariants as reader
use Rattle.history.specs.Entries.{IsFirstRefused, replayed}
use Rattle.history.specs.HistoryText.{IsReadAs}
use Rattle.history.specs.Reports.{reports_of}
use Rattle.history.specs.Verdict.{IsVerdict, verdict_of}
use Rattle.history.proofs.FirstRefused.{not_allowed, one_first_refused}
use Rattle.history.proofs.HistoryReadings.{one_reading}

module _ {L : Type 0} (app : App L) (from_text : List ℕ → Option L) (c : Configuration L) (text : List ℕ) where
  -- the verdicts, by where they come from
  data IsTold : Result (ℕ × List Report) ReaderFault → Type 0 where
    good : (es : List Entry) → IsReadAs text (Ok (c.modulus, es)) → IsSome (replayed app from_text c es)
        → IsTold (Ok (length es, reports_of app from_text c es))
    bad_text : (f : BookFault) → IsReadAs text (Err f) → IsTold (Err (reader.Text f))
    bad_modulus : (m : ℕ) (es : List Entry) → IsReadAs text (Ok (m, es)) → m ≢ c.modulus → IsTold (Err (reader.OtherModulus m))
    bad_entry : (es : List Entry) (position : ℕ) → IsReadAs text (Ok (c.modulus, es))
        → IsFirstRefused app from_text c es position → IsTold (Err (reader.Entries (NotEnabledAt position)))

  is_told : (r : Result Summary ReaderFault) (v : Result (ℕ × List Report) ReaderFault)
      → IsVerdict app from_text c text r → verdict_of r ≡ Some v → IsTold v
  is_told (Ok s) v (es, read, is) tells =
      let told : Ok (length es, reports_of app from_text c es) ≡ v = cc (is.entries, is.reports) in
      subst IsTold told (good es read is.allowed)
  is_told (Err (reader.Text (BadLine n))) v read tells =
      let told : Err (reader.Text (BadLine n)) ≡ v = cc in subst IsTold told (bad_text (BadLine n) read)
  is_told (Err (reader.Text BadVersion)) v read tells =
      let told : Err (reader.Text BadVersion) ≡ v = cc in subst IsTold told (bad_text BadVersion read)
  is_told (Err (reader.Text TooLong)) v read tells =
      let told : Err (reader.Text TooLong) ≡ v = cc in subst IsTold told (bad_text TooLong read)
  is_told (Err (reader.OtherModulus m)) v (es, read, apart) tells =
      let told : Err (reader.OtherModulus m) ≡ v = cc in subst IsTold told (bad_modulus m es read apart)
  is_told (Err (reader.Text NoMemory)) v read tells = absurd (cc)
  is_told (Err (reader.Text ReadFailed)) v read tells = absurd (cc)
  is_told (Err (reader.Entries (NotEnabledAt position))) v (es, read, first) tells =
      let told : Err (reader.Entries (NotEnabledAt position)) ≡ v = cc in
      subst IsTold told (bad_entry es position read first)
  is_told (Err (reader.Entries verify.NoMemory)) v is tells = absurd (cc)

  abbrev Reading : Type 0
  Reading = Result (ℕ × List Entry) BookFault

  same_texts : (m n : ℕ) (es ds : List Entry) → IsReadAs text (Ok (m, es)) → IsReadAs text (Ok (n, ds))
      → (m ≡ n) × (es ≡ ds)
  same_texts m n es ds read other =
      let same : ◌≡◌ {A = Reading} (Ok (m, es)) (Ok (n, ds)) =
      one_reading text (Ok (m, es)) (Ok (n, ds)) read other in
      let pair : ◌≡◌ {A = ℕ × List Entry} (m, es) (n, ds) = cc in
      (ap (λ (p : ℕ × List Entry). p.0) pair, ap (λ (p : ℕ × List Entry). p.1) pair)

  same_entries : (es ds : List Entry) → IsReadAs text (Ok (c.modulus, es)) → IsReadAs text (Ok (c.modulus, ds))
      → es ≡ ds
  same_entries es ds read other = (same_texts c.modulus c.modulus es ds read other).1

  one_of_both : (m : ℕ) (es : List Entry) (f : BookFault) → IsReadAs text (Ok (m, es)) → IsReadAs text (Err f) → ⊥
  one_of_both m es f read bad =
      let same : ◌≡◌ {A = Reading} (Ok (m, es)) (Err f) = one_reading text (Ok (m, es)) (Err f) read bad in absurd (cc)

  one_modulus : (m : ℕ) (es ds : List Entry) → IsReadAs text (Ok (c.modulus, es)) → IsReadAs text (Ok (m, ds))
      → m ≢ c.modulus → ⊥
  one_modulus m es ds read other apart = apart (sym (same_texts c.modulus m es ds read other).0)

  none_refused : (es ds : List Entry) (position : ℕ) → IsReadAs text (Ok (c.modulus, es))
      → IsSome (replayed app from_text c es)
      → IsReadAs text (Ok (c.modulus, ds)) → IsFirstRefused app from_text c ds position → ⊥
  none_refused es ds position read allowed other first =
      not_allowed app from_text c ds position first
      (subst (λ l. IsSome (replayed app from_text c l)) (same_entries es ds read other) allowed)

  one_told : (v w : Result (ℕ × List Report) ReaderFault) → IsTold v → IsTold w → v ≡ w
  one_told v w (good es read allowed) (good ds read' allowed') =
      ap (λ l. Ok (length l, reports_of app from_text c l)) (same_entries es ds read read')
  one_told v w (good es read allowed) (bad_text f bad) = absurd (one_of_both c.modulus es f read bad)
  one_told v w (good es read allowed) (bad_modulus m ds read' apart) = absurd (one_modulus m es ds read read' apart)
  one_told v w (good es read allowed) (bad_entry ds position read' first) =
      absurd (none_refused es ds position read allowed read' first)
  one_told v w (bad_text f bad) (good es read allowed) = absurd (one_of_both c.modulus es f read bad)
  one_told v w (bad_text f bad) (bad_text e bad') =
      let same : Err f ≡ Err e = one_reading text (Err f) (Err e) bad bad' in
      let fault : f ≡ e = cc in ap (λ g. Err (reader.Text g)) fault
  one_told v w (bad_text f bad) (bad_modulus m es read apart) = absurd (one_of_both m es f read bad)
  one_told v w (bad_text f bad) (bad_entry es position read first) = absurd (one_of_both c.modulus es f read bad)
  one_told v w (bad_modulus m es read apart) (good ds read' allowed) = absurd (one_modulus m ds es read' read apart)
  one_told v w (bad_modulus m es read apart) (bad_text f bad) = absurd (one_of_both m es f read bad)
  one_told v w (bad_modulus m es read apart) (bad_modulus n ds read' apart') =
      ap (λ k. Err (reader.OtherModulus k)) (same_texts m n es ds read read').0
  one_told v w (bad_modulus m es read apart) (bad_entry ds position read' first) =
      absurd (one_modulus m ds es read' read apart)
  one_told v w (bad_entry ds position read' first) (good es read allowed) =
      absurd (none_refused es ds position read allowed read' first)
  one_told v w (bad_entry es position read first) (bad_text f bad) = absurd (one_of_both c.modulus es f read bad)
  one_told v w (bad_entry es position read first) (bad_modulus m ds read' apart) =
      absurd (one_modulus m es ds read read' apart)
  one_told v w (bad_entry es p read first) (bad_entry ds q read' first') =
      let here = subst (λ l. IsFirstRefused app from_text c l p) (same_entries es ds read read') first in
      ap (λ n. Err (reader.Entries (NotEnabledAt n))) (one_first_refused app from_text c ds p q here first')

  pub one_verdict : (r s : Result Summary ReaderFault) (v w : Result (ℕ × List Report) ReaderFault)
      → IsVerdict app from_text c text r → IsVerdict app from_text c text s
      → verdict_of r ≡ Some v → verdict_of s ≡ Some w → v ≡ w
  one_verdict r s v w is is' tells tells' = one_told v w (is_told r v is tells) (is_told s w is' tells')
