-- What a verification that ends well tells.
use Rattle.std.proofs.Common.{◌≡◌, ℕ, List, All, Ok, length, sym, ap, subst, ◌∙◌}
use Rattle.std.proofs.lemmas.List.{length-map, length-replicate}
use Rattle.action_tables.specs.Modulus.{IsModulus}
use Rattle.topology.specs.Graph.{Graph, IsGraph}
use Rattle.topology.specs.declared.text.AppName.{AppName}
use Rattle.reset_model.specs.Configuration.{Configuration, IsShaped}
use Rattle.reset_model.specs.Outcome.{IsBoot}
use Rattle.reset_model.specs.Sound.{IsSound}
use Rattle.reset_model.proofs.SoundConfigurations.{boot_tree_picture, boot_wave_picture, pictures_sound}
use Rattle.applications.specs.Choice.{ForApp}
use Rattle.applications.specs.Meaning.{Meaning}
use Rattle.applications.proofs.Choosing.{both_follow}
use Rattle.history.specs.HistoryText.{IsReadAs}
use Rattle.history.specs.Reports.{reports_of}
use Rattle.history.specs.Stretches.{IsIn, IsStretch, IsTrueReport, Stretch}
use Rattle.history.specs.declared.entry.Entry.{Entry}
use Rattle.script_replay.specs.Output.{Describes}
use Rattle.script_replay.specs.Output.IsJudged.{bad_topology, good_topology}
use Rattle.reset_service.specs.Verified.{IsVerification, IsVerified, IsVerifiedFrom, IsVerifiedOf}
use Rattle.reset_service.specs.Verified.{TellsTrueReports, TellsTrueReportsOf}
use Rattle.reset_service.specs.Verified.IsVerified.{allowed, bad_history, not_enabled, other_modulus}
use Rattle.script_replay.specs.declared.status.Status.{Status}
use Rattle.script_replay.specs.declared.status.Status.TheVariants.{BadInput, Good, NotEnabled}
use Rattle.reset_service.proofs.ReadModuli.{read_modulus}

abbrev Output : Type 0
Output = List ℕ × Status

module _ {L : Type 0} (m : Meaning L) where
  -- that the reports of stretches are true, as it is known of any entries
  abbrev pub AreTrue : Type 0
  AreTrue =
      (opening : Configuration L) (es : List Entry) (s : Stretch L) → IsGraph opening.graph
      → IsShaped opening → IsStretch m.app m.from_text opening es s → IsSound s.here
      → All (λ r. IsIn s r.finished → IsTrueReport m.app m.from_text opening es s r)
      (reports_of m.app m.from_text opening es)

  module _ (g : Graph) (graph : IsGraph g) (modulus : ℕ) (c : Configuration L)
      (boot : IsBoot m.app g modulus c) where
    pub has_graph : IsGraph c.graph
    has_graph = subst IsGraph (sym boot.graph) graph

    pub is_shaped : IsModulus c.modulus → IsShaped c
    is_shaped counted =
        let count : length g.ids ≡ length c.graph.ids = ap (λ (h : Graph). length h.ids) (sym boot.graph) in
        record {
          modulus = counted;
          trees = boot.trees.count ∙ count;
          waves = ap length boot.waves ∙ length-replicate (length g.ids) _ ∙ count;
          locals = ap length boot.locals ∙ length-map g.ids (m.app.start g) ∙ count;
        }

    pub is_sound : IsSound c
    is_sound =
        pictures_sound c has_graph (boot_tree_picture m.app g modulus c graph boot)
        (boot_wave_picture m.app g modulus c boot)

    tells_from : AreTrue → (history written : List ℕ) → IsVerified m c history (written, Good)
        → TellsTrueReports m g modulus history written
    tells_from known history written (bad_history f bad is) =
        let other : Good ≡ BadInput = ap (λ (o : Output). o.1) is in absurd (cc)
    tells_from known history written (other_modulus k es read apart is) =
        let other : Good ≡ BadInput = ap (λ (o : Output). o.1) is in absurd (cc)
    tells_from known history written (not_enabled es n read first is) =
        let other : Good ≡ NotEnabled = ap (λ (o : Output). o.1) is in absurd (cc)
    tells_from known history written (allowed es read some is) =
        let shaped = is_shaped (read_modulus history c.modulus es read) in
        record {
          opening = c;
          entries = es;
          booted = boot;
          sound = is_sound;
          read = subst (λ k. IsReadAs history (Ok (k, es))) boot.modulus read;
          allowed = some;
          reported = ap (λ (o : Output). o.0) is;
          true_reports = λ s stretch sound. known c es s has_graph shaped stretch sound;
        }

  tells : (g : Graph) → IsGraph g → AreTrue → (modulus : ℕ) (history written : List ℕ)
      → IsVerifiedFrom m g modulus history (written, Good) → TellsTrueReports m g modulus history written
  tells g graph known modulus history written (c, boot, verified) =
      tells_from g graph modulus c boot known history written verified

module _ (known : (app : AppName) → ForApp (λ L m. AreTrue m) app) where
  tells_of : (app : AppName) (g : Graph) → IsGraph g → (modulus : ℕ) (history written : List ℕ)
      → IsVerifiedOf app g modulus history (written, Good) → TellsTrueReportsOf app g modulus history written
  tells_of app g graph modulus history written =
      both_follow (λ L m. AreTrue m) (λ L m. IsVerifiedFrom m g modulus history (written, Good))
      (λ L m. TellsTrueReports m g modulus history written)
      (λ L m are_true. tells m g graph are_true modulus history written) app (known app)

  pub verified_reports : (topology history written : List ℕ) → IsVerification topology history (written, Good)
      → (g : Graph) × (app : AppName) × (modulus : ℕ) × Describes topology g app modulus
      × TellsTrueReportsOf app g modulus history written
  verified_reports topology history written (bad_topology f bad is) =
      let other : Good ≡ BadInput = ap (λ (o : Output). o.1) is in absurd (cc)
  verified_reports topology history written (good_topology g app modulus describes verified) = (
    g,
    app,
    modulus,
    describes,
    tells_of app g describes.2.exact.as_graph modulus history written verified,
  )
