-- What a verification leaves, and that it writes one thing.
use Rattle.std.proofs.Common.{◌≡◌, ◌≢◌, ℕ, List, Option, Result, Ok, Err}
use Rattle.std.proofs.Common.{IsSome, length, refl, sym, ap, ap₂, ◌∙◌, subst}
use Rattle.topology.specs.Graph.{Graph}
use Rattle.topology.specs.declared.text.AppName.{AppName}
use Rattle.reset_model.specs.Configuration.{Configuration}
use Rattle.reset_model.proofs.OneBoot.{one_boot}
use Rattle.applications.specs.Meaning.{Meaning}
use Rattle.applications.proofs.Choosing.{agree}
use Rattle.history.proofs.FirstRefused.{not_allowed, one_first_refused}
use Rattle.history.specs.Entries.{IsFirstRefused, replayed}
use Rattle.history.specs.HistoryText.{IsReadAs, IsReadWhole}
use Rattle.history.proofs.ReadLines.{some_whole}
use Rattle.history.specs.Reports.{reports_of}
use Rattle.history.specs.Verdict.{IsVerdict}
use Rattle.history.specs.declared.entry.Entry.{Entry}
use Rattle.history.specs.declared.entry.Summary.{Summary}
use Rattle.history.specs.declared.entry.VerifyFault.TheVariants.{NotEnabledAt}
use Rattle.history.specs.declared.text.BookFault.{BookFault}
use Rattle.history.specs.declared.text.BookFault.TheVariants.{BadLine, BadVersion, TooLong}
use Rattle.history.specs.declared.text.BookFault.TheVariants as book
use Rattle.history.specs.declared.verification.ReaderFault.{ReaderFault}
use Rattle.history.specs.declared.verification.ReaderFault.TheVariants.{Entries, OtherModulus, Text}
use Rattle.script_replay.specs.Output.{Leaves}
use Rattle.reset_service.specs.Verified.{IsVerification, IsVerified, IsVerifiedFrom, IsVerifiedOf, LeavesOfReader}
use Rattle.reset_service.specs.Verified.{bad_history_text, not_enabled_text, other_modulus_text, verified_text}
use Rattle.reset_service.specs.Verified.IsVerified.{allowed, bad_history, not_enabled, other_modulus}
use Rattle.script_replay.specs.declared.status.Status.{Status}
use Rattle.script_replay.specs.declared.status.Status.TheVariants.{BadInput, Good, NotEnabled}
use Rattle.script_replay.specs.declared.status.RunStop.{RunStop}
use Rattle.script_replay.specs.Stops.{IsInputStop}
use Rattle.script_replay.proofs.Runs.{leaves_unread, leaves_weaker}
use Rattle.script_replay.proofs.OneOutput.{one_judged}

abbrev Output : Type 0
Output = List ℕ × Status

-- ---- what is left, of the text of a reader

module _ (known : Option (List ℕ)) (P : List ℕ → Output → Type 0) where
  -- said of another output
  pub read_weaker : (O : List ℕ → Output → Type 0) (old new : Option (List ℕ)) (r : Result Status RunStop)
      → ((text : List ℕ) (o : Output) → O text o → P text o) → LeavesOfReader known O old new r
      → LeavesOfReader known P old new r
  read_weaker O old new r f (text, whole, left) = (text, whole, leaves_weaker (O text) (P text) old new r (f text) left)

  -- of a text that has this property
  pub read_leaves : (Is : List ℕ → Type 0) (O : Output → Type 0) (old new : Option (List ℕ)) (r : Result Status RunStop)
      → ((text : List ℕ) (o : Output) → Is text → O o → P text o) → (text : List ℕ) × IsReadWhole known text × Is text
      → Leaves O old new r → LeavesOfReader known P old new r
  read_leaves Is O old new r f (text, whole, is) left =
      (text, whole, leaves_weaker O (P text) old new r (λ o. f text o is) left)

  -- whatever the text
  pub read_anyway : (O : Output → Type 0) (old new : Option (List ℕ)) (r : Result Status RunStop)
      → ((text : List ℕ) (o : Output) → O o → P text o) → Leaves O old new r → LeavesOfReader known P old new r
  read_anyway O old new r f left =
      let (text, whole) = some_whole known in (text, whole, leaves_weaker O (P text) old new r (f text) left)

  -- before anything is written
  pub read_unread : (a : Option (List ℕ)) (stop : RunStop) → IsInputStop stop → LeavesOfReader known P a a (Err stop)
  read_unread a stop is = let (text, whole) = some_whole known in (text, whole, leaves_unread (P text) a stop is)

-- ---- what a verdict is answered with

module _ {L : Type 0} (m : Meaning L) (c : Configuration L) (text : List ℕ) where
  abbrev IsVerdictHere : Result Summary ReaderFault → Type 0
  IsVerdictHere = IsVerdict m.app m.from_text c text

  pub of_summary : (s : Summary) (o : Output) → IsVerdictHere (Ok s)
      → o ≡ (verified_text s.entries s.reports.items, Good) → IsVerified m c text o
  of_summary s o (es, read, sum) is =
      allowed es read sum.allowed (is ∙ ap₂ (λ n rs. (verified_text n rs, Good)) sum.entries sum.reports)

  pub of_other_modulus : (modulus : ℕ) (o : Output) → IsVerdictHere (Err (OtherModulus modulus))
      → o ≡ (other_modulus_text modulus, BadInput) → IsVerified m c text o
  of_other_modulus modulus o (es, read, apart) is = other_modulus modulus es read apart is

  pub of_refused : (position : ℕ) (o : Output) → IsVerdictHere (Err (Entries (NotEnabledAt position)))
      → o ≡ (not_enabled_text position, NotEnabled) → IsVerified m c text o
  of_refused position o (es, read, first) is = not_enabled es position read first is

  pub of_no_history : (f : BookFault) (o : Output) → f ≢ book.NoMemory → f ≢ book.ReadFailed
      → IsVerdictHere (Err (Text f)) → o ≡ (bad_history_text f, BadInput) → IsVerified m c text o
  of_no_history (BadLine n) o memory device bad is = bad_history (BadLine n) bad is
  of_no_history BadVersion o memory device bad is = bad_history BadVersion bad is
  of_no_history TooLong o memory device bad is = bad_history TooLong bad is
  of_no_history book.NoMemory o memory device bad is = absurd (memory refl)
  of_no_history book.ReadFailed o memory device bad is = absurd (device refl)

-- ---- one thing is written

-- no text has two readings
abbrev pub OneReading : Type 0
OneReading =
    (text : List ℕ) (r s : Result (ℕ × List Entry) BookFault) → IsReadAs text r → IsReadAs text s → r ≡ s

module _ (one_reading : OneReading) {L : Type 0} (m : Meaning L) where
  -- two readings of a history have one modulus and one list of entries
  -- what a text is read as: a modulus and entries
  abbrev Book : Type 0
  Book = ℕ × List Entry

  one_book : (text : List ℕ) (k n : ℕ) (es ds : List Entry) → IsReadAs text (Ok (k, es)) → IsReadAs text (Ok (n, ds))
      → (k ≡ n) × (es ≡ ds)
  one_book text k n es ds read other =
      let same : ◌≡◌ {A = Result Book BookFault} (Ok (k, es)) (Ok (n, ds)) =
      one_reading text (Ok (k, es)) (Ok (n, ds)) read other in
      let book : ◌≡◌ {A = Book} (k, es) (n, ds) = cc in (ap (λ (b : Book). b.0) book, ap (λ (b : Book). b.1) book)

  bad_or_read : (text : List ℕ) (f : BookFault) (k : ℕ) (es : List Entry) → IsReadAs text (Err f)
      → IsReadAs text (Ok (k, es)) → ⊥
  bad_or_read text f k es bad read =
      let same : ◌≡◌ {A = Result Book BookFault} (Err f) (Ok (k, es)) = one_reading text (Err f) (Ok (k, es)) bad read in
      absurd (cc)

  module _ (c : Configuration L) (text : List ℕ) where
    -- entries that are read with the modulus of c
    abbrev AreRead : List Entry → Type 0
    AreRead es = IsReadAs text (Ok (c.modulus, es))

    one_history : (es ds : List Entry) → AreRead es → AreRead ds → es ≡ ds
    one_history es ds read other = (one_book text c.modulus c.modulus es ds read other).1

    other_or_same : (k : ℕ) (es ds : List Entry) → IsReadAs text (Ok (k, es)) → k ≢ c.modulus → AreRead ds → ⊥
    other_or_same k es ds read apart same = apart (one_book text k c.modulus es ds read same).0

    refused_or_all : (es ds : List Entry) (n : ℕ) → AreRead es → AreRead ds
        → IsFirstRefused m.app m.from_text c es n → IsSome (replayed m.app m.from_text c ds) → ⊥
    refused_or_all es ds n read other first some =
        let entries : ds ≡ es = one_history ds es other read in
        not_allowed m.app m.from_text c es n first (subst (λ xs. IsSome (replayed m.app m.from_text c xs)) entries some)

    one_verified : (o p : Output) → IsVerified m c text o → IsVerified m c text p → o ≡ p
    one_verified o p (bad_history f bad is) (bad_history e other is') =
        let same : ◌≡◌ {A = Result Book BookFault} (Err f) (Err e) = one_reading text (Err f) (Err e) bad other in
        let fault : f ≡ e = cc in is ∙ ap (λ x. (bad_history_text x, BadInput)) fault ∙ sym is'
    one_verified o p (bad_history f bad is) (other_modulus k es read apart is') =
        absurd (bad_or_read text f k es bad read)
    one_verified o p (bad_history f bad is) (not_enabled es n read first is') =
        absurd (bad_or_read text f c.modulus es bad read)
    one_verified o p (bad_history f bad is) (allowed es read some is') =
        absurd (bad_or_read text f c.modulus es bad read)
    one_verified o p (other_modulus k es read apart is) (bad_history f bad is') =
        absurd (bad_or_read text f k es bad read)
    one_verified o p (other_modulus k es read apart is) (other_modulus j ds read' apart' is') =
        is ∙ ap (λ x. (other_modulus_text x, BadInput)) (one_book text k j es ds read read').0 ∙ sym is'
    one_verified o p (other_modulus k es read apart is) (not_enabled ds n read' first is') =
        absurd (other_or_same k es ds read apart read')
    one_verified o p (other_modulus k es read apart is) (allowed ds read' some is') =
        absurd (other_or_same k es ds read apart read')
    one_verified o p (not_enabled es n read first is) (bad_history f bad is') =
        absurd (bad_or_read text f c.modulus es bad read)
    one_verified o p (not_enabled es n read first is) (other_modulus k ds read' apart is') =
        absurd (other_or_same k ds es read' apart read)
    one_verified o p (not_enabled es n read first is) (not_enabled ds k other second is') =
        let entries : es ≡ ds = one_history es ds read other in
        let same : n ≡ k =
        one_first_refused m.app m.from_text c ds n k
        (subst (λ xs. IsFirstRefused m.app m.from_text c xs n) entries first) second in
        is ∙ ap (λ x. (not_enabled_text x, NotEnabled)) same ∙ sym is'
    one_verified o p (not_enabled es n read first is) (allowed ds other some is') =
        absurd (refused_or_all es ds n read other first some)
    one_verified o p (allowed es read some is) (bad_history f bad is') =
        absurd (bad_or_read text f c.modulus es bad read)
    one_verified o p (allowed es read some is) (other_modulus k ds read' apart is') =
        absurd (other_or_same k ds es read' apart read)
    one_verified o p (allowed es read some is) (not_enabled ds n other first is') =
        absurd (refused_or_all ds es n other read first some)
    one_verified o p (allowed es read some is) (allowed ds other every is') =
        let entries : es ≡ ds = one_history es ds read other in
        is ∙ ap (λ xs. (verified_text (length xs) (reports_of m.app m.from_text c xs), Good)) entries ∙ sym is'

  one_from : (g : Graph) (modulus : ℕ) (history : List ℕ) (o p : Output) → IsVerifiedFrom m g modulus history o
      → IsVerifiedFrom m g modulus history p → o ≡ p
  one_from g modulus history o p (c, boot, verified) (d, other, verified') =
      one_verified d history o p
      (subst (λ x. IsVerified m x history o) (one_boot m.app g modulus c d boot other) verified) verified'

one_of : OneReading → (app : AppName) (g : Graph) (modulus : ℕ) (history : List ℕ) (o p : Output)
    → IsVerifiedOf app g modulus history o → IsVerifiedOf app g modulus history p → o ≡ p
one_of reading app g modulus history o p =
    agree (λ L m. IsVerifiedFrom m g modulus history o) (λ L m. IsVerifiedFrom m g modulus history p) (o ≡ p)
    (λ L m. one_from reading m g modulus history o p) app

pub one_verification : OneReading → (topology history : List ℕ) (o p : Output) → IsVerification topology history o
    → IsVerification topology history p → o ≡ p
one_verification reading topology history =
    one_judged (λ app g modulus. IsVerifiedOf app g modulus history)
    (λ app g modulus o p. one_of reading app g modulus history o p) topology
