-- What a run of the seeded scheduler comes to, that it is one, and that a verification takes its history.
use Rattle.std.proofs.Common.{◌≡◌, ◌∙◌, ℕ, List, [], length, IsSome, Some, Result, Ok, Err, IfOk, ap, refl, sym, subst}
use Rattle.std.proofs.Common.{subst₂}
use Rattle.topology.specs.Graph.{Graph}
use Rattle.topology.specs.TopologyText.{IsReadFault}
use Rattle.topology.specs.declared.text.AppName.{AppName}
use Rattle.topology.specs.declared.text.ReadFault.{ReadFault}
use Rattle.reset_model.specs.Configuration.{Configuration}
use Rattle.reset_model.proofs.OneBoot.{one_boot}
use Rattle.applications.specs.Meaning.{Meaning}
use Rattle.applications.proofs.Choosing.{agree, follows, some_for}
use Rattle.history.specs.Book.{BookView, IsBook}
use Rattle.history.specs.Entries.{replayed}
use Rattle.history.specs.HistoryText.{IsReadAs, history_text}
use Rattle.history.specs.Reports.{reports_of}
use Rattle.scheduler.specs.Driven.{driven}
use Rattle.scheduler.specs.Told.{IsTold}
use Rattle.scheduler.specs.declared.history_text.DrivenHistory.{DrivenHistory}
use Rattle.reset_service.specs.Drove.{IsDrove, IsDroveFrom, IsDroveOf, IsDroveText, drove_line, new_book}
use Rattle.script_replay.specs.Output.{Describes, IsJudged, bad_topology_text}
use Rattle.script_replay.specs.Output.IsJudged.{bad_topology, good_topology}
use Rattle.reset_service.specs.Threaded.{told_history, told_output}
use Rattle.reset_service.specs.Verified.{IsVerification, IsVerifiedFrom, IsVerifiedOf, verified_text}
use Rattle.reset_service.specs.Verified.IsVerified.{allowed}
use Rattle.script_replay.specs.declared.status.RunStop.{RunStop}
use Rattle.script_replay.specs.declared.status.Status.{Status}
use Rattle.script_replay.specs.declared.status.Status.TheVariants.{BadInput, Good}
use Rattle.reset_service.specs.declared.told.Told.{Told}
use Rattle.script_replay.proofs.KeptModulus.{replayed_modulus}
use Rattle.script_replay.proofs.OneOutput.{bad_or_good, one_description, one_read_fault}

abbrev Output : Type 0
Output = List ℕ × Status

module _ (steps seed faults : ℕ) where
  -- ---- what a book that was driven tells

  drove : {L : Type 0} (m : Meaning L) (c : Configuration L) (b : BookView L) (history : List ℕ)
      → b ≡ driven m.app m.from_text steps seed faults (new_book c) → b.opening ≡ c → IsBook m.app m.from_text b
      → history ≡ history_text b.config.modulus b.entries → IsReadAs history (Ok (b.config.modulus, b.entries))
      → (entries reports : ℕ) → entries ≡ length b.entries
      → reports ≡ length (reports_of m.app m.from_text b.opening b.entries)
      → IsDrove m c steps seed faults history (drove_line entries reports, Good)
  drove m c b history is opening book text read entries reports e r =
      let left : replayed m.app m.from_text c b.entries ≡ Some b.config =
      ap (λ d. replayed m.app m.from_text d b.entries) (sym opening) ∙ book.replay in
      let modulus : b.config.modulus ≡ c.modulus = replayed_modulus m.app m.from_text b.entries c b.config left in
      record {
        entries = b.entries;
        drawn = ap (λ (x : BookView _). x.entries) is;
        allowed = subst (λ o. IsSome o) (sym left) refl;
        text = text ∙ ap (λ n. history_text n b.entries) modulus;
        read = subst (λ n. IsReadAs history (Ok (n, b.entries))) modulus read;
        told = ap (λ n. (drove_line n reports, Good)) e
            ∙ ap (λ n. (drove_line (length b.entries) n, Good))
            (r ∙ ap (λ d. length (reports_of m.app m.from_text d b.entries)) opening);
      }

  pub told_drove : {L : Type 0} (m : Meaning L) (c : Configuration L) (b : BookView L) (h : DrivenHistory)
      → b ≡ driven m.app m.from_text steps seed faults (new_book c) → b.opening ≡ c → IsTold m.app m.from_text b h
      → IsReadAs (history_text b.config.modulus b.entries) (Ok (b.config.modulus, b.entries))
      → IsDrove m c steps seed faults h.text.items (drove_line h.entries h.reports, Good)
  told_drove m c b h is opening told read =
      let modulus : b.config.modulus ≡ b.opening.modulus =
      replayed_modulus m.app m.from_text b.entries b.opening b.config told.book.replay in
      let text : h.text.items ≡ history_text b.config.modulus b.entries =
      told.text ∙ ap (λ n. history_text n b.entries) (sym modulus) in
      drove m c b h.text.items is opening told.book text
      (subst (λ t. IsReadAs t (Ok (b.config.modulus, b.entries))) (sym text) read) h.entries h.reports told.entries
      told.reports

  -- ---- a topology is judged first

  pub droved : (topology : List ℕ) (g : Graph) (app : AppName) (modulus : ℕ) (r : Result Told RunStop)
      → Describes topology g app modulus
      → IfOk r (λ told. IsDroveOf steps seed faults app g modulus (told_history told) (told_output told))
      → IfOk r (λ told. (told_output told).1 ≡ BadInput → told_history told ≡ [])
      → IfOk r (λ told. IsDroveText steps seed faults topology (told_history told) (told_output told))
  droved topology g app modulus (Ok told) describes is undriven =
      record { judged = good_topology g app modulus describes is; undriven = undriven }
  droved topology g app modulus (Err stop) describes is undriven = tt

  pub undroved : (topology : List ℕ) (f : ReadFault) → IsReadFault topology f
      → IsDroveText steps seed faults topology [] (bad_topology_text f, BadInput)
  undroved topology f is = record { judged = bad_topology f is refl; undriven = λ _. refl }

  -- ---- a verification takes the history

  verified_from : {L : Type 0} (m : Meaning L) (g : Graph) (modulus : ℕ) (history line : List ℕ)
      → IsDroveFrom m steps seed faults g modulus history (line, Good)
      → (written : List ℕ) × IsVerifiedFrom m g modulus history (written, Good)
  verified_from m g modulus history line (c, boot, is) = (
    verified_text (length is.entries) (reports_of m.app m.from_text c is.entries),
    (c, boot, allowed is.entries is.read is.allowed refl),
  )

  verified_of : (app : AppName) (g : Graph) (modulus : ℕ) (history line : List ℕ)
      → IsDroveOf steps seed faults app g modulus history (line, Good)
      → (written : List ℕ) × IsVerifiedOf app g modulus history (written, Good)
  verified_of app g modulus history line is =
      some_for (λ L m written. IsVerifiedFrom m g modulus history (written, Good)) app
      (follows (λ L m. IsDroveFrom m steps seed faults g modulus history (line, Good))
      (λ L m. (written : List ℕ) × IsVerifiedFrom m g modulus history (written, Good))
      (λ L m. verified_from m g modulus history line) app is)

  pub drove_verified : (topology history line : List ℕ) → IsDroveText steps seed faults topology history (line, Good)
      → (written : List ℕ) × IsVerification topology history (written, Good)
  drove_verified topology history line is = go is.judged
    where
      go : IsJudged (λ app g modulus. IsDroveOf steps seed faults app g modulus history) topology (line, Good)
          → (written : List ℕ) × IsVerification topology history (written, Good)
      go (bad_topology f bad is) = let other : Good ≡ BadInput = ap (λ (o : Output). o.1) is in absurd (cc)
      go (good_topology g app modulus describes is) =
          let found = verified_of app g modulus history line is in
          (found.0, good_topology g app modulus describes found.1)

  -- ---- there is one run

  abbrev AreOne : (h k : List ℕ) → (o p : Output) → Type 0
  AreOne h k o p = (h ≡ k) × (o ≡ p)

  one_drove : {L : Type 0} (m : Meaning L) (c : Configuration L) (h k : List ℕ) (o p : Output)
      → IsDrove m c steps seed faults h o → IsDrove m c steps seed faults k p → AreOne h k o p
  one_drove m c h k o p a b =
      let same : a.entries ≡ b.entries = a.drawn ∙ sym b.drawn in (
        a.text ∙ ap (history_text c.modulus) same ∙ sym b.text,
        a.told ∙ ap (λ es. (drove_line (length es) (length (reports_of m.app m.from_text c es)), Good)) same
            ∙ sym b.told,
      )

  one_from : {L : Type 0} (m : Meaning L) (g : Graph) (modulus : ℕ) (h k : List ℕ) (o p : Output)
      → IsDroveFrom m steps seed faults g modulus h o → IsDroveFrom m steps seed faults g modulus k p
      → AreOne h k o p
  one_from m g modulus h k o p (c, boot, is) (d, other, is') =
      one_drove m d h k o p
      (subst (λ x. IsDrove m x steps seed faults h o) (one_boot m.app g modulus c d boot other) is) is'

  one_of : (app : AppName) (g : Graph) (modulus : ℕ) (h k : List ℕ) (o p : Output)
      → IsDroveOf steps seed faults app g modulus h o → IsDroveOf steps seed faults app g modulus k p
      → AreOne h k o p
  one_of app g modulus h k o p =
      agree (λ L m. IsDroveFrom m steps seed faults g modulus h o) (λ L m. IsDroveFrom m steps seed faults g modulus k p)
      (AreOne h k o p) (λ L m. one_from m g modulus h k o p) app

  pub one_driven : (topology h k : List ℕ) (o p : Output) → IsDroveText steps seed faults topology h o
      → IsDroveText steps seed faults topology k p → AreOne h k o p
  one_driven topology h k o p a b = go a.judged b.judged
    where
      go : IsJudged (λ app g modulus. IsDroveOf steps seed faults app g modulus h) topology o
          → IsJudged (λ app g modulus. IsDroveOf steps seed faults app g modulus k) topology p → AreOne h k o p
      go (bad_topology f bad is) (bad_topology e other is') = (
        a.undriven (ap (λ (x : Output). x.1) is) ∙ sym (b.undriven (ap (λ (x : Output). x.1) is')),
        is ∙ ap (λ x. (bad_topology_text x, BadInput)) (one_read_fault topology f e bad other) ∙ sym is',
      )
      go (bad_topology f bad is) (good_topology g app modulus good follows) =
          absurd (bad_or_good topology f g app modulus bad good)
      go (good_topology g app modulus good follows) (bad_topology f bad is) =
          absurd (bad_or_good topology f g app modulus bad good)
      go (good_topology g app modulus good follows) (good_topology i other another good' follows') =
          let same = one_description topology g i app other modulus another good good' in
          one_of other i another h k o p
          (subst (λ x. IsDroveOf steps seed faults other i x h o) same.2
          (subst₂ (λ x y. IsDroveOf steps seed faults y x modulus h o) same.0 same.1 follows)) follows'
